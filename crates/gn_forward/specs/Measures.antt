-- The distances of a situation, by a ground. Assumes nothing.
use Rattle.std.specs.Prelude.{◌≡◌, ℕ}
use Rattle.fields.specs.declared.position.Position.{Position}
use Rattle.forwarding.specs.Questions.{sender_distance}
use Rattle.ground.specs.Spans.{inside}
use Rattle.location_table.specs.Stations.{stations_in}
use Rattle.location_table.specs.Neighbours.{distances}
use Rattle.situation.specs.declared.told.Situation.{Situation}
use Rattle.gn_forward.specs.declared.distances.Distances.{Distances}

-- to the target: ours, the sender's if it is known, and the neighbours'; and whether we are inside the circle round it
pub record Measured (span : Position → Position → ℕ) (s : Situation) (d : Distances) : Type 0 where
  pub ours : d.ours ≡ span s.fields.course.ours s.fields.course.target
  pub sender : d.sender ≡ sender_distance span s.fields.course
  pub near : d.near.items ≡ distances (λ p. span p s.fields.course.target) (stations_in s.table)
  pub inside : d.inside ≡ inside (span s.fields.course.ours s.fields.course.target) s.fields.radius
