-- Two's complement there and back, at every width. Assumes nothing.
use Rattle.std.proofs.Common.{◌≡◌, ℕ, suc, ◌+◌, ◌-◌, ◌^◌, ◌<◌, ◌≤◌, ltb, ℤ, pos, negsuc, nat_abs, refl, ap, ◌∙◌, arith}
use lib.Signed.{mag}
use Rattle.std.proofs.lemmas.Bool.{lt-ltb, le-ltb, cond-true, cond-false, cond_both, ltb-true, ltb-false}
use Rattle.octets.specs.Wire.{signed, unsigned}

pub signed-unsigned : (half : ℕ) (z : ℤ) → mag z < 2 ^ half → signed half (unsigned half z) ≡ z
signed-unsigned half (pos n) h = cond-true (ltb n (2 ^ half)) (pos n) _ (lt-ltb n (2 ^ half) h)
signed-unsigned half (negsuc n) h =
    cond-false _ (pos (2 ^ half + 2 ^ half - suc n)) _ (le-ltb (2 ^ half + 2 ^ half - suc n) (2 ^ half) (omega arith)) ∙ ap negsuc (omega arith)

pub unsigned_signed : (half n : ℕ) → n < 2 ^ half + 2 ^ half → unsigned half (signed half n) ≡ n
unsigned_signed half n h =
    cond_both (ltb n (2 ^ half)) (pos n) (negsuc (2 ^ half + 2 ^ half - suc n)) (λ z. unsigned half z ≡ n) (λ _. refl) (λ e. let k = ltb-false n (2 ^ half) e in omega arith)

pub mag-signed : (half n : ℕ) → n < 2 ^ half + 2 ^ half → mag (signed half n) < 2 ^ half
mag-signed half n h =
    cond_both (ltb n (2 ^ half)) (pos n) (negsuc (2 ^ half + 2 ^ half - suc n)) (λ z. mag z < 2 ^ half) (λ e. ltb-true n (2 ^ half) e) (λ e. let k = ltb-false n (2 ^ half) e in omega arith)

pub unsigned_small : (half : ℕ) (z : ℤ) → mag z < 2 ^ half → unsigned half z < 2 ^ half + 2 ^ half
unsigned_small half (pos n) h = omega arith
unsigned_small half (negsuc n) h = omega arith

pub mag_small : (z : ℤ) (limit : ℕ) → nat_abs z ≤ limit → mag z ≤ limit
mag_small (pos n) limit h = h
mag_small (negsuc n) limit h = omega arith
