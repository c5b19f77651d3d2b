-- Worked figures, joined in one statement. Assumes nothing.
use Rattle.std.specs.Prelude.{◌≡◌, ℕ, ◌<◌, ◌≤◌, true, false, ◌-ℤ◌, unsigned_abs}
use Rattle.fields.specs.declared.position.Position.{Position}
use Rattle.ground.specs.Spans.{straight, inside}
use Rattle.policy.specs.Choices.{wait_for}
use Rattle.times.specs.Lifetimes.{lifetime_of, Best}
use Rattle.times.specs.Timestamps.{newer}

pub record Figures : Type 0 where
  -- what an octet lasts
  pub lasting : lifetime_of 252 ≡ 3150
  -- the octet for a remaining time
  pub short : Best 3149 248
  pub middle : Best 4999 17
  pub minute : Best 60000 241
  pub brief : (n : ℕ) → n < 50 → Best n 0
  pub longest : (n : ℕ) → 6300000 ≤ n → Best n 255
  -- there is no other octet for it
  pub one : (n a b : ℕ) → Best n a → Best n b → a ≡ b
  -- timestamps round the end of their circle, and half a circle apart
  pub wrapped : newer 0 4294967295 ≡ true
  pub half : newer 2147483648 0 ≡ false
  -- how long contention waits at a progress
  pub first_progress : wait_for 1 ≡ 100
  pub full_progress : wait_for 10000 ≡ 1
  -- the straight way at the equator's scale, wherever the two positions are: 9 and 9, and 100,000 to the north
  pub nines : (p q : Position) → unsigned_abs (p.latitude -ℤ q.latitude) ≡ 9 → unsigned_abs (p.longitude -ℤ q.longitude) ≡ 9 → straight 1113 p q ≡ 2
  pub northward : (p q : Position) → unsigned_abs (p.latitude -ℤ q.latitude) ≡ 100000 → p.longitude ≡ q.longitude → straight 1113 p q ≡ 11130
  -- which is inside one circle and outside a smaller one
  pub within : inside 11130 1113 ≡ true
  pub beyond : inside 11130 1112 ≡ false
