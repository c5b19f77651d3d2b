-- The octet for a remaining time is the best one. Assumes nothing.
use Rattle.std.proofs.Common.{ℕ, ◌+◌, ◌*◌, ◌/◌, ◌%◌, ◌<◌, ◌≤◌, Bool, true, false, cond, eqb, ltb, inl, inr, ⊎_elim, arith}
use Rattle.std.proofs.lemmas.Bool.{cases_lt, cond_both, ltb-true, ltb-false}
use Rattle.times.specs.Lifetimes.{unit_of, lifetime_of, NoWorse, BestIn, Best}
use Rattle.times.proofs.Longest.{best_in}
use Rattle.rules.specs.Packets.{in_unit, longer, octet_for}

-- the best of the octets with a unit below so many
record Upto (units remaining r : ℕ) : Type 0 where
  pub octet : r < 256
  pub low : r % 4 < units
  pub within : lifetime_of r ≤ remaining
  pub most : (o : ℕ) → o < 256 → o % 4 < units → lifetime_of o ≤ remaining → NoWorse o r

first : (n r : ℕ) → BestIn 0 n r → Upto 1 n r
first n r b = record {
  octet = b.octet;
  low = omega (arith, b.low);
  within = b.within;
  most = λ o l u w. let m = b.most o l (omega arith) w in ⊎_elim (λ k. inl k) (λ k. inr (omega arith, omega (arith, b.low))) (cases_lt (lifetime_of o) (lifetime_of r));
}

module _ (u n a b : ℕ) (p : Upto u n a) (q : BestIn u n b) where
  takes : lifetime_of a < lifetime_of b → Upto (u + 1) n b
  takes h = record {
    octet = q.octet;
    low = omega (arith, q.low);
    within = q.within;
    most = λ o l k w. ⊎_elim
        (λ below. inl (⊎_elim (λ m. omega arith) (λ m. omega (arith, m.0)) (p.most o l below w)))
        (λ at. let m = q.most o l (omega arith) w in ⊎_elim (λ k. inl k) (λ k. inr (omega arith, omega (arith, q.low))) (cases_lt (lifetime_of o) (lifetime_of b)))
        (cases_lt (o % 4) u);
  }

  keeps : lifetime_of b ≤ lifetime_of a → Upto (u + 1) n a
  keeps h = record {
    octet = p.octet;
    low = omega (arith, p.low);
    within = p.within;
    most = λ o l k w. ⊎_elim
        (λ below. p.most o l below w)
        (λ at. let m = q.most o l (omega arith) w in ⊎_elim (λ k. inl k) (λ k. inr (omega arith, omega (arith, p.low))) (cases_lt (lifetime_of o) (lifetime_of a)))
        (cases_lt (o % 4) u);
  }

  next : Upto (u + 1) n (longer a b)
  next = cond_both (ltb (lifetime_of a) (lifetime_of b)) b a (Upto (u + 1) n) (λ t. takes (ltb-true _ _ t)) (λ f. keeps (ltb-false _ _ f))

pub octet_best : (n : ℕ) → Best n (octet_for n)
unfolding octet_for
octet_best n =
    let a = first n (in_unit 0 n) (best_in 0 n (omega arith)) in
    let b = next 1 n (in_unit 0 n) (in_unit 1 n) a (best_in 1 n (omega arith)) in
    let c = next 2 n (longer (in_unit 0 n) (in_unit 1 n)) (in_unit 2 n) b (best_in 2 n (omega arith)) in
    let d = next 3 n (longer (longer (in_unit 0 n) (in_unit 1 n)) (in_unit 2 n)) (in_unit 3 n) c (best_in 3 n (omega arith)) in
    record { octet = d.octet; within = d.within; most = λ o l w. d.most o l (omega arith) w }

units : (m u : ℕ) → 1 ≤ m → 50 ≤ m * unit_of u
units m u l = go (eqb u 0) (eqb u 1) (eqb u 2)
  where
    go : (a b c : Bool) → 50 ≤ m * cond a 50 (cond b 1000 (cond c 10000 100000))
    go true b c = omega arith
    go false true c = omega arith
    go false false true = omega arith
    go false false false = omega arith

-- a lifetime with a multiplier lasts 50 ms or more
pub life_fifty : (o : ℕ) → 4 ≤ o → 50 ≤ lifetime_of o
unfolding lifetime_of
life_fifty o l = units (o / 4) (o % 4) (omega arith)
