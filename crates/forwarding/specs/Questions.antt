-- What a policy is asked. Assumes nothing.
use Rattle.std.specs.Prelude.{ℕ, List, Option}
use Rattle.std.specs.Option.{option_map}
use Rattle.fields.specs.declared.position.Position.{Position}
use Rattle.policy.specs.declared.choice.Choice.{Choice}
use Rattle.location_table.specs.Neighbours.{distances}
use Rattle.location_table.specs.Stations.{Station}
use Rattle.forwarding.specs.declared.course.Course.{Course}

-- the sender's distance to the target, if its position is known
abbrev pub sender_distance : (Position → Position → ℕ) → Course → Option ℕ
sender_distance span course = option_map (λ p. span p course.target) course.sender

-- what a policy says, by a ground's distances: ours, the sender's, and the neighbours' in table order
abbrev pub advice : (ℕ → Option ℕ → List ℕ → Choice) → (Position → Position → ℕ) → Course → List Station → Choice
advice choice span course stations = choice (span course.ours course.target) (sender_distance span course) (distances (λ p. span p course.target) stations)
