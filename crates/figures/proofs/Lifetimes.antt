-- The octet for a remaining time, by one test over the 256 octets that antt computes. Assumes nothing.
use Rattle.std.proofs.Common.{◌≡◌, ℕ, zero, suc, ◌*◌, ◌/◌, ◌%◌, ◌<◌, ◌≤◌, Bool, true, not, ◌&&◌, ◌||◌, eqb, ltb, leb, sym, refl, ap, ◌∙◌, subst, inl, inr, mul-div_cancel, arith, lit<, lit≤}
use Rattle.times.proofs.Longest.{unit_positive}
use Rattle.std.proofs.lemmas.Bool.{and_parts, cases_lt, leb-true}
use Rattle.std.proofs.lemmas.Bool.Decides.{nat_tests}
use Rattle.times.specs.Lifetimes.{unit_of, lifetime_of, NoWorse, Best}

abbrev pub all_below : ℕ → (ℕ → Bool) → Bool
all_below zero f = true
all_below (suc k) f = f k && all_below k f

from_all : (k : ℕ) (f : ℕ → Bool) → all_below k f ≡ true → (o : ℕ) → o < k → f o ≡ true
from_all zero f e o h = absurd (omega arith)
from_all (suc k) f e o h =
    let p = and_parts (f k) (all_below k f) e in
    elim (cases_lt o k) [ inl l ↦ from_all k f p.1 o l | inr g ↦ (let s : k ≡ o = omega arith in subst (λ (x : ℕ). f x ≡ true) s p.0) ]

-- of two octets the second is no worse, or the first is above the remaining time
abbrev pub fair : ℕ → ℕ → ℕ → Bool
fair n r o = not (leb (lifetime_of o) n) || (ltb (lifetime_of o) (lifetime_of r) || (eqb (lifetime_of o) (lifetime_of r) && leb (r % 4) (o % 4)))

fair_means : (n r o : ℕ) → fair n r o ≡ true → lifetime_of o ≤ n → NoWorse o r
fair_means n r o e h = grind (arith, nat_tests)

pub best_by : (n r : ℕ) → r < 256 → lifetime_of r ≤ n → all_below 256 (fair n r) ≡ true → Best n r
best_by n r a b e = record { octet = a; within = b; most = λ o l w. fair_means n r o (from_all 256 (fair n r) e o l) w }

same_octet : (a b : ℕ) → lifetime_of a ≡ lifetime_of b → a % 4 ≡ b % 4 → a ≡ b
unfolding lifetime_of
same_octet a b e f =
    let u : 0 < unit_of (b % 4) = unit_positive (b % 4) in
    let g : a / 4 * unit_of (b % 4) ≡ b / 4 * unit_of (b % 4) = rw f at e in
    let h : a / 4 ≡ b / 4 = sym (mul-div_cancel (a / 4) u) ∙ ap (λ x. x / unit_of (b % 4)) g ∙ mul-div_cancel (b / 4) u in
    omega arith

-- no octet is worse than itself is, so two best ones are one
pub best_one : (n a b : ℕ) → Best n a → Best n b → a ≡ b
best_one n a b p q =
    let x = p.most b q.octet q.within in
    let y = q.most a p.octet p.within in
    elim x [
      | inl l ↦ elim y [ inl m ↦ absurd (omega arith) | inr m ↦ absurd (omega (arith, m.0)) ]
      | inr l ↦ elim y [ inl m ↦ absurd (omega (arith, l.0)) | inr m ↦ same_octet a b m.0 (omega (arith, l.1, m.1)) ]
    ]

-- below the least lifetime the octet is 0
pub best_brief : (n : ℕ) → n < 50 → Best n 0
unfolding lifetime_of
best_brief n h =
    let edge : Best 49 0 = best_by 49 0 (lit< tt) (lit≤ tt) refl in
    record { octet = lit< tt; within = omega arith; most = λ o l w. edge.most o l (omega arith) }

-- from the greatest lifetime on it is 255
pub best_longest : (n : ℕ) → 6300000 ≤ n → Best n 255
unfolding lifetime_of
best_longest n h =
    let edge : Best 6300000 255 = best_by 6300000 255 (lit< tt) (lit≤ tt) refl in
    let all : (o : ℕ) → o < 256 → leb (lifetime_of o) 6300000 ≡ true = from_all 256 (λ o. leb (lifetime_of o) 6300000) refl in
    record { octet = lit< tt; within = omega arith; most = λ o l w. edge.most o l (leb-true (lifetime_of o) 6300000 (all o l)) }
