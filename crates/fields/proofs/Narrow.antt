-- The narrow fields there and back. Assumes nothing.
use Rattle.std.proofs.Common.{◌≡◌, ℕ, zero, suc, ◌+◌, ◌%◌, ◌<◌, Bool, true, false, cond, ◌&&◌, eqb, leb, refl, ap, ◌∙◌, subst, inl, inr, arith}
use Rattle.std.proofs.lemmas.Bool.{le-leb, lt-leb, leb-true, leb-false, cond_both, and_parts, cases_lt, eqb-true}
use Rattle.octets.proofs.Signs.{signed-unsigned, unsigned_signed, unsigned_small}
use Rattle.octets.specs.Wire.{signed, unsigned}
use Rattle.fields.specs.Laws.{MotionRead, MotionWritten, UpperRead, UpperWritten}
use Rattle.fields.specs.UpperProtocols.{upper_of, upper_number}
use Rattle.fields.specs.declared.upper_protocol.UpperProtocol.TheVariants.{Any, BtpA, BtpB, Ipv6, Reserved4, Reserved5, Reserved6, Reserved7, Reserved8, Reserved9, Reserved10, Reserved11, Reserved12, Reserved13, Reserved14, Reserved15}

flag_above : (b : Bool) (u : ℕ) → u < 32768 → leb 32768 (cond b 32768 0 + u) ≡ b
flag_above true u h = le-leb 32768 (32768 + u) (omega arith)
flag_above false u h = lt-leb 32768 (0 + u) (omega arith)

low_below : (b : Bool) (u : ℕ) → u < 32768 → (cond b 32768 0 + u) % 32768 ≡ u
low_below true u h = omega arith
low_below false u h = omega arith

pub motion_read : MotionRead
motion_read b z h =
    let u : unsigned 14 z < 32768 = unsigned_small 14 z h in
    (flag_above b (unsigned 14 z) u, ap (signed 14) (low_below b (unsigned 14 z) u) ∙ signed-unsigned 14 z h)

pub motion_written : MotionWritten
motion_written n h =
    let e : unsigned 14 (signed 14 (n % 32768)) ≡ n % 32768 = unsigned_signed 14 (n % 32768) (omega arith) in
    rw e (cond_both (leb 32768 n) 32768 0 (λ flag. flag + n % 32768 ≡ n) (λ t. omega (arith, leb-true 32768 n t)) (λ t. omega (arith, leb-false 32768 n t)))

pub upper_read : UpperRead
upper_read Any = refl
upper_read BtpA = refl
upper_read BtpB = refl
upper_read Ipv6 = refl
upper_read Reserved4 = refl
upper_read Reserved5 = refl
upper_read Reserved6 = refl
upper_read Reserved7 = refl
upper_read Reserved8 = refl
upper_read Reserved9 = refl
upper_read Reserved10 = refl
upper_read Reserved11 = refl
upper_read Reserved12 = refl
upper_read Reserved13 = refl
upper_read Reserved14 = refl
upper_read Reserved15 = refl

abbrev all_below : ℕ → (ℕ → Bool) → Bool
all_below zero f = true
all_below (suc k) f = f k && all_below k f

from_all : (k : ℕ) (f : ℕ → Bool) → all_below k f ≡ true → (n : ℕ) → n < k → f n ≡ true
from_all zero f e n h = absurd (omega arith)
from_all (suc k) f e n h =
    let p = and_parts (f k) (all_below k f) e in
    elim (cases_lt n k) [ inl l ↦ from_all k f p.1 n l | inr g ↦ (let s : k ≡ n = omega arith in subst (λ (x : ℕ). f x ≡ true) s p.0) ]

pub upper_written : UpperWritten
upper_written n h = eqb-true (upper_number (upper_of n)) n (from_all 16 (λ m. eqb (upper_number (upper_of m)) m) refl n h)
