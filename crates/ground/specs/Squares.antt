-- The root is the least number whose square is enough, and no other is. Assumes nothing.
use Rattle.std.specs.Prelude.{◌≡◌, ℕ, zero, suc, ◌+◌, ◌*◌, ◌<◌, ◌≤◌, nat_le}
use Rattle.std.proofs.Common.{⊎_elim, arith}
use Rattle.std.proofs.lemmas.Nat.{mul-le, mul-lt}
use Rattle.std.proofs.lemmas.Bool.{cases_lt, cond_both, leb-true, leb-false}
use Rattle.ground.specs.Roots.{root, Least}

-- a smaller square is of a smaller number
pub root_lt : (a b : ℕ) → a * a < b * b → a < b
root_lt a b h = ⊎_elim (λ l. l) (λ l. absurd (omega (arith, mul-le b b a a l l))) (cases_lt a b)

pub root_le : (a b : ℕ) → a * a ≤ b * b → a ≤ b
root_le a b h = ⊎_elim (λ l. absurd (omega (arith, mul-lt b b a a l l))) (λ l. l) (cases_lt b a)

next_square : (r : ℕ) → (r + 1) * (r + 1) ≡ r * r + 2 * r + 1
next_square r = grind arith

-- the next number is the least where this one's square falls short
pub least_next : (n r : ℕ) → r * r < n → n ≤ (r + 1) * (r + 1) → Least n (r + 1)
least_next n r low high = record { enough = high; below = λ k h. let l : r < k = root_lt r k (omega arith) in omega arith }

pub least_exact : (n r : ℕ) → r * r ≡ n → Least n r
least_exact n r e = record { enough = omega arith; below = λ k h. root_le r k (omega arith) }

least_unique : (n d e : ℕ) → Least n d → Least n e → d ≡ e
least_unique n d e p q = let l = p.below e q.enough in let m = q.below d p.enough in omega arith

pub root_least : (n : ℕ) → Least n (root n)
unfolding root
root_least zero = record { enough = omega arith; below = λ k h. omega arith }
root_least (suc n) =
    let old = root_least n in
    let r = root n in
    cond_both (nat_le (suc n) (r * r)) r (r + 1) (Least (suc n))
    (λ t. record { enough = leb-true _ _ t; below = λ k h. old.below k (omega arith) })
    (λ f. let short : r * r < suc n = leb-false _ _ f in
    let e = next_square r in
    least_next (suc n) r short (omega (arith, old.enough)))

pub root_is : (n d : ℕ) → Least n d → d ≡ root n
root_is n d p = least_unique n d (root n) p (root_least n)
