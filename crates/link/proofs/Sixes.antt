-- The last six octets of a number, one by one.
use Rattle.std.proofs.Common.{◌≡◌, ℕ, ◌/◌, ◌%◌, [], ◌∷◌, drop, arith}
use Rattle.octets.specs.Wire.{octets_of}

pub last_six : (n : ℕ) → (n / 1099511627776 % 256) ∷ (n / 4294967296 % 256) ∷ (n / 16777216 % 256) ∷ (n / 65536 % 256) ∷ (n / 256 % 256) ∷ (n % 256) ∷ [] ≡ drop 2 (octets_of 8 n)
unfolding octets_of
last_six n =
    let two : n / 256 / 256 ≡ n / 65536 = omega arith in
    let three : n / 65536 / 256 ≡ n / 16777216 = omega arith in
    let four : n / 16777216 / 256 ≡ n / 4294967296 = omega arith in
    let five : n / 4294967296 / 256 ≡ n / 1099511627776 = omega arith in
    rw (two, three, four, five)
