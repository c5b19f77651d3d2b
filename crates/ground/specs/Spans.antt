-- How far it is from one position to another, in decimetres. Assumes nothing.
use Rattle.std.specs.Prelude.{ℕ, ◌+◌, ◌*◌, ◌/◌, ◌≤◌, Bool, ◌-ℤ◌, nat_le, unsigned_abs}
use Rattle.fields.specs.declared.position.Position.{Position}
use Rattle.ground.specs.Roots.{root}

-- both coordinates are of 32 bits
abbrev pub Within : Position → Type 0
Within p = (unsigned_abs p.latitude ≤ 2147483648) × (unsigned_abs p.longitude ≤ 2147483648)

-- a size by a scale: multiplied first, then the fraction dropped
abbrev pub scaled : ℕ → ℕ → ℕ
scaled scale size = size * scale / 10000

abbrev pub north : Position → Position → ℕ
north p q = scaled 1113 (unsigned_abs (p.latitude -ℤ q.latitude))

abbrev pub east : ℕ → Position → Position → ℕ
east scale p q = scaled scale (unsigned_abs (p.longitude -ℤ q.longitude))

-- the straight way: the least whole number whose square is at least north² + east²
abbrev pub straight : ℕ → Position → Position → ℕ
straight scale p q = root (north p q * north p q + east scale p q * east scale p q)

-- along the streets: north, and then east
abbrev pub along : ℕ → Position → Position → ℕ
along scale p q = north p q + east scale p q

-- inside a circle: at most ten times the radius, which is in metres, away from its centre
abbrev pub inside : ℕ → ℕ → Bool
inside distance radius = nat_le distance (10 * radius)
