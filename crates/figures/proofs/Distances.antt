-- Two distances, by the one least root. Assumes nothing.
use Rattle.std.proofs.Common.{◌≡◌, ℕ, ◌+◌, ◌*◌, ℤ, ◌-ℤ◌, nat_abs, sym, refl, ◌∙◌, arith, lit<, lit≤}
use Rattle.std.proofs.lemmas.Int.{ints}
use Rattle.fields.specs.declared.position.Position.{Position}
use Rattle.ground.specs.Roots.{root}
use Rattle.ground.specs.Spans.{scaled, straight}
use Rattle.ground.specs.Squares.{root_is, least_next, least_exact}

-- from the sizes of the two differences
sized : (p q : Position) (a b : ℕ) → nat_abs (p.latitude -ℤ q.latitude) ≡ a → nat_abs (p.longitude -ℤ q.longitude) ≡ b → straight 1113 p q ≡ root (scaled 1113 a * scaled 1113 a + scaled 1113 b * scaled 1113 b)
sized p q a b e f = rw (e, f)

pub nine_and_nine : (p q : Position) → nat_abs (p.latitude -ℤ q.latitude) ≡ 9 → nat_abs (p.longitude -ℤ q.longitude) ≡ 9 → straight 1113 p q ≡ 2
nine_and_nine p q e f = sized p q 9 9 e f ∙ sym (root_is 2 2 (least_next 2 1 (lit< tt) (lit≤ tt)))

none : (a b : ℤ) → a ≡ b → nat_abs (a -ℤ b) ≡ 0
none a b e = omega (arith, ints)

pub straight-north : (p q : Position) → nat_abs (p.latitude -ℤ q.latitude) ≡ 100000 → p.longitude ≡ q.longitude → straight 1113 p q ≡ 11130
straight-north p q e f = sized p q 100000 0 e (none p.longitude q.longitude f) ∙ sym (root_is 123876900 11130 (least_exact 123876900 11130 refl))
