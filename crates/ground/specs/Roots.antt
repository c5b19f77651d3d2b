-- Roots, to the next whole number. Assumes nothing.
use Rattle.std.specs.Prelude.{ℕ, zero, suc, ◌+◌, ◌*◌, ◌≤◌, cond, nat_le}

-- d is the least whole number whose square is at least n
pub record Least (n d : ℕ) : Type 0 where
  pub enough : n ≤ d * d
  pub below : (k : ℕ) → n ≤ k * k → d ≤ k

-- that number: the one of n still serves for n + 1 if its square is large enough, and otherwise the next one does
unfoldable pub root : ℕ → ℕ
root zero = 0
root (suc n) = cond (nat_le (suc n) (root n * root n)) (root n) (root n + 1)
