-- The best octet, unit by unit. Assumes nothing.
use Rattle.std.proofs.Common.{◌≡◌, ℕ, ◌+◌, ◌*◌, ◌/◌, ◌%◌, ◌<◌, ◌≤◌, min, arith}
use Rattle.std.proofs.lemmas.Nat.{div-mul-add, mod-mul-add, le-div, mul-le, div-add-mod'}
use Rattle.std.proofs.lemmas.Bool.Decides.{nat_tests}
use Rattle.times.specs.Lifetimes.{unit_of, lifetime_of, BestIn}

lifetime_is : (m u : ℕ) → u < 4 → lifetime_of (m * 4 + u) ≡ m * unit_of u
unfolding lifetime_of
lifetime_is m u h = rw (div-mul-add m 4 u h, mod-mul-add m 4 u h)

pub unit_positive : (u : ℕ) → 0 < unit_of u
unit_positive u = grind (arith, nat_tests)

pub best_in : (u n : ℕ) → u < 4 → BestIn u n (min (n / unit_of u) 63 * 4 + u)
unfolding lifetime_of
best_in u n h =
    let m = min (n / unit_of u) 63 in
    let k : n / unit_of u * unit_of u + n % unit_of u ≡ n = div-add-mod' n (unit_of u) in
    let is = lifetime_is m u h in
    record {
      octet = omega arith;
      low = mod-mul-add m 4 u h;
      within = rw is (omega (arith, mul-le m (unit_of u) (n / unit_of u) (unit_of u) (omega arith) (omega arith)));
      most = λ o l e w. rw is (let x : o / 4 * unit_of u ≤ n = rw e at w in
          let y : o / 4 ≤ m = omega (arith, le-div (o / 4) n (unit_of u) (unit_positive u) x) in
          rw e (mul-le (o / 4) (unit_of u) m (unit_of u) y (omega arith)));
    }
