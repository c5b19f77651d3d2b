-- The lifetime octet: a multiplier in the high six bits, a unit in the low two. Assumes nothing.
use Rattle.std.specs.Prelude.{◌≡◌, ℕ, ◌*◌, ◌/◌, ◌%◌, ◌<◌, ◌≤◌, cond, ◌⊎◌, ◌==◌}

-- the milliseconds of a unit
abbrev pub unit_of : ℕ → ℕ
unit_of u = cond (u == 0) 50 (cond (u == 1) 1000 (cond (u == 2) 10000 100000))

-- the milliseconds that an octet stands for
unfoldable pub lifetime_of : ℕ → ℕ
lifetime_of octet = octet / 4 * unit_of (octet % 4)

-- of two octets the second is no worse: it lasts longer, or as long with no larger unit
abbrev pub NoWorse : ℕ → ℕ → Type 0
NoWorse o r = (lifetime_of o < lifetime_of r) ⊎ ((lifetime_of o ≡ lifetime_of r) × (r % 4 ≤ o % 4))

-- the best among the octets of one unit
pub record BestIn (unit remaining r : ℕ) : Type 0 where
  pub octet : r < 256
  pub low : r % 4 ≡ unit
  pub within : lifetime_of r ≤ remaining
  pub most : (o : ℕ) → o < 256 → o % 4 ≡ unit → lifetime_of o ≤ remaining → lifetime_of o ≤ lifetime_of r

-- the octet for a remaining time: not above it, and no octet that is not above it is better
pub record Best (remaining r : ℕ) : Type 0 where
  pub octet : r < 256
  pub within : lifetime_of r ≤ remaining
  pub most : (o : ℕ) → o < 256 → lifetime_of o ≤ remaining → NoWorse o r
