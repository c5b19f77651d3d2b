-- Newton's steps towards a root. Assumes nothing.
use Rattle.std.proofs.Common.{◌≡◌, ℕ, ◌+◌, ◌-◌, ◌*◌, ◌/◌, ◌^◌, ◌<◌, ◌≤◌, sym, subst, ⊎_elim, mul_comm, pow-suc, add-one, arith}
use Rattle.std.proofs.lemmas.Nat.{mul-le, div-add-mod', mod_below}
use Rattle.std.proofs.lemmas.Bool.{cases_lt}
use Rattle.ground.specs.Roots.{root, Least}
use Rattle.ground.specs.Squares.{root_lt, root_le, root_least, least_next}

mean_from : (a d : ℕ) → 4 * (a * (a + d)) ≤ (a + (a + d)) * (a + (a + d))
mean_from a d = let e : (a + (a + d)) * (a + (a + d)) ≡ 4 * (a * (a + d)) + d * d = grind arith in omega arith

-- four times a product is at most the square of the sum
mean : (a b : ℕ) → 4 * (a * b) ≤ (a + b) * (a + b)
mean a b =
    ⊎_elim
    (λ l. let e : a + (b - a) ≡ b = omega arith in subst (λ (n : ℕ). 4 * (a * n) ≤ (a + n) * (a + n)) e (mean_from a (b - a)))
    (λ l. let e : b + (a - b) ≡ a = omega arith in let h = subst (λ (n : ℕ). 4 * (b * n) ≤ (b + n) * (b + n)) e (mean_from b (a - b)) in let s : (b + a) * (b + a) ≡ (a + b) * (a + b) = grind arith in omega (arith, mul_comm a b))
    (cases_lt a b)

module _ (n x : ℕ) (some : 0 < x) where
  -- a step does not go too low
  pub step-above : n < ((x + n / x) / 2 + 1) * ((x + n / x) / 2 + 1)
  step-above =
      let q = n / x in
      let y = (x + q) / 2 in
      let split = div-add-mod' n x in
      let rest = mod_below n x some in
      let over : n < x * (q + 1) = let e : x * (q + 1) ≡ q * x + x = grind arith in omega arith in
      let m = mean x (q + 1) in
      let w = mul-le (x + (q + 1)) (x + (q + 1)) (2 * (y + 1)) (2 * (y + 1)) (omega arith) (omega arith) in
      let four : (2 * (y + 1)) * (2 * (y + 1)) ≡ 4 * ((y + 1) * (y + 1)) = grind arith in
      omega arith

  -- where it leads no lower, the square is small enough
  pub step-stops : x ≤ (x + n / x) / 2 → x * x ≤ n
  step-stops k = omega (arith, div-add-mod' n x, mul-le x x (n / x) x (omega arith) (omega arith))

  -- above the root, the quotient is not
  quotient-below : root n ≤ x → n / x ≤ root n
  quotient-below k =
      let r = root n in
      ⊎_elim
      (λ l. absurd (let e : (r + 1) * x ≡ r * x + x = grind arith in omega (arith, div-add-mod' n x, (root_least n).enough, mul-le r r r x (omega arith) k, mul-le (r + 1) x (n / x) x (omega arith) (omega arith))))
      (λ l. l)
      (cases_lt r (n / x))

  -- so a step at least halves what is too much
  step-halves : root n ≤ x → 2 * ((x + n / x) / 2 - root n) ≤ x - root n
  step-halves k = omega (arith, quotient-below k)

-- what is too much after i steps
abbrev pub Excess : ℕ → ℕ → ℕ → Type 0
Excess n x i = (x - root n) * 2 ^ i < 2 ^ 30

doubled : (a b p q : ℕ) → 2 * b ≤ a → a * p < q → b * (p * 2) < q
doubled a b p q h k = let e : b * (p * 2) ≡ 2 * b * p = grind arith in omega (arith, mul-le (2 * b) p a p h (omega arith))

pub excess_more : (n x i : ℕ) → 0 < x → (x + n / x) / 2 < x → Excess n x i → Excess n ((x + n / x) / 2) (i + 1)
excess_more n x i some less h =
    let power : 2 ^ (i + 1) ≡ 2 ^ i * 2 = rw (add-one, pow-suc) in
    ⊎_elim
    (λ (l : x < root n). let none : (x + n / x) / 2 - root n ≡ 0 = omega arith in rw none (omega arith))
    (λ l. rw power (doubled (x - root n) ((x + n / x) / 2 - root n) (2 ^ i) (2 ^ 30) (step-halves n x some l) h))
    (cases_lt x (root n))

-- a number whose square is not above n is not above the root
pub not_above : (n x : ℕ) → x * x ≤ n → x ≤ root n
not_above n x h = root_le x (root n) (omega (arith, (root_least n).enough))

-- a number above 0 has a near root above 0
pub some_root : (n x : ℕ) → 0 < n → n < (x + 1) * (x + 1) → 0 < x
some_root n x h k = let l = root_lt 1 (x + 1) (omega arith) in omega arith

-- from the near root to the root
pub near_least : (n x : ℕ) → n < (x + 1) * (x + 1) → x * x < n → Least n (x + 1)
near_least n x above short = least_next n x short (omega arith)

pub near_is : (n x : ℕ) → x ≤ root n → n ≤ x * x → Least n x
near_is n x most enough = let e : x ≡ root n = omega (arith, (root_least n).below x enough) in subst (Least n) (sym e) (root_least n)
