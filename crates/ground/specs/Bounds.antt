-- No way is longer than 999,999,999 dm. Assumes nothing.
use Rattle.std.specs.Prelude.{ℕ, ◌+◌, ◌*◌, ◌≤◌, ℤ, ◌-ℤ◌, unsigned_abs}
use Rattle.std.proofs.Common.{arith}
use Rattle.std.proofs.lemmas.Nat.{mul-le}
use Rattle.std.proofs.lemmas.Int.{ints}
use Rattle.fields.specs.declared.position.Position.{Position}
use Rattle.ground.specs.Spans.{Within, scaled, north, east, straight, along}
use Rattle.ground.specs.Squares.{root_least}

size_most : (a b : ℤ) → unsigned_abs a ≤ 2147483648 → unsigned_abs b ≤ 2147483648 → unsigned_abs (a -ℤ b) ≤ 4294967296
size_most a b h k = omega (arith, ints)

pub scaled_most : (scale size most : ℕ) → scale ≤ 1113 → size ≤ most → scaled scale size ≤ scaled 1113 most
scaled_most scale size most h k = omega (arith, mul-le size scale most 1113 k h)

module _ (scale : ℕ) (ok : scale ≤ 1113) (p q : Position) (wp : Within p) (wq : Within q) where
  north-most : north p q ≤ 478029860
  north-most = scaled_most 1113 _ 4294967296 (omega arith) (size_most p.latitude q.latitude wp.0 wq.0)

  east-most : east scale p q ≤ 478029860
  east-most = scaled_most scale _ 4294967296 ok (size_most p.longitude q.longitude wp.1 wq.1)

  pub along-most : along scale p q ≤ 999999999
  along-most = omega (arith, north-most, east-most)

  pub straight-most : straight scale p q ≤ 999999999
  straight-most =
      let n = north p q in
      let e = east scale p q in
      (root_least (n * n + e * e)).below 999999999 (omega (arith, mul-le n n 478029860 478029860 north-most north-most, mul-le e e 478029860 478029860 east-most east-most))
