-- Numbers as octets, big-endian, at any width: the only definition of either way. Assumes nothing.
use Rattle.std.specs.Prelude.{ℕ, zero, suc, ◌+◌, ◌-◌, ◌/◌, ◌%◌, ◌^◌, cond, List, [], ◌∷◌, ◌++◌, length, take, drop, ℤ, pos, negsuc, nat_lt}
use Rattle.std.specs.Int.Digits.{number_from_digits}

-- the number that stands in `width` octets from the place `at` on
abbrev pub field_at : ℕ → ℕ → List ℕ → ℕ
field_at width at octets = number_from_digits 256 (take width (drop at octets))

-- the `width` octets of a number, the highest first
unfoldable pub octets_of : ℕ → ℕ → List ℕ
octets_of zero n = []
octets_of (suc k) n = octets_of k (n / 256) ++ (n % 256 ∷ [])

-- the octets `part` written over those from the place `at` on; all others stay
unfoldable pub placed : ℕ → List ℕ → List ℕ → List ℕ
placed at part octets = take at octets ++ (part ++ drop (at + length part) octets)

-- the same where there is room for `width` octets, those of `part`, from the place `at` on; where there is not, all stay
abbrev pub put_at : ℕ → ℕ → List ℕ → List ℕ → List ℕ
put_at width at part octets = cond (nat_lt (length octets) (at + width)) octets (placed at part octets)

-- a number of `half` bits and a sign bit above them, as two's complement has it
abbrev pub signed : ℕ → ℕ → ℤ
signed half n = cond (nat_lt n (2 ^ half)) (pos n) (negsuc (2 ^ half + 2 ^ half - suc n))

-- and back, at the same bits
abbrev pub unsigned : ℕ → ℤ → ℕ
unsigned half (pos n) = n
unsigned half (negsuc n) = 2 ^ half + 2 ^ half - suc n
