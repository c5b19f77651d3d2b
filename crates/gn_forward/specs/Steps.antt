-- What the steps of a situation come to. Assumes nothing.
use Rattle.std.specs.Prelude.{◌≡◌, ℕ, zero, suc, Bool, List, ◌++◌, length, Some, None, vec_items, Option}
use Rattle.fields.specs.declared.position.Position.{Position}
use Rattle.forwarding.specs.Questions.{advice}
use Rattle.forwarding.specs.Verdicts.{judged, frames_of}
use Rattle.forwarding.specs.declared.verdict.Verdict.{Verdict}
use Rattle.ground.specs.Spans.{straight, along}
use Rattle.link.specs.Frames.{Frame}
use Rattle.location_table.specs.Stations.{stations_in}
use Rattle.location_table.specs.Neighbours.{link_addresses}
use Rattle.policy.specs.Choices.{greedy, contention}
use Rattle.policy.specs.declared.choice.Choice.{Choice}
use Rattle.radio_queue.specs.Queues as radio
use Rattle.situation.specs.declared.told.Situation.{Situation}
use Rattle.text_link.specs.TextLinks as written
use Rattle.gn_forward.specs.declared.links.Links.{Links}
use Rattle.gn_forward.specs.declared.verdicts.GroundVerdicts.{GroundVerdicts}
use Rattle.gn_forward.specs.declared.verdicts.LinkVerdicts.{LinkVerdicts}
use Rattle.gn_forward.specs.declared.verdicts.RoundVerdicts.{RoundVerdicts}

-- what a policy says in a situation, by the distances of a ground
abbrev pub advised : (ℕ → Option ℕ → List ℕ → Choice) → (Position → Position → ℕ) → Situation → Choice
advised choice span s = advice choice span s.fields.course (stations_in s.table)

-- a step on a link that has space or has none: the verdict on what the policy says, and the frames that it names put last
pub record Stepped (said : Choice) (s : Situation) (space : Bool) (before after : List Frame) (v : Verdict) : Type 0 where
  pub verdict : v ≡ judged said s.fields.held (link_addresses (stations_in s.table)) space
  pub frames : after ≡ before ++ frames_of v (vec_items s.packet)

-- a step on each link
pub record SteppedOnBoth (said : Choice) (s : Situation) (before after : Links) (v : LinkVerdicts) : Type 0 where
  pub queue : Stepped said s (radio.has_space before.queue (length (vec_items s.packet))) before.queue.frames after.queue.frames v.queue
  pub text : Stepped said s (written.has_space before.text (length (vec_items s.packet))) (written.frames_of before.text) (written.frames_of after.text) v.text

-- over a ground: greedy, and then contention
abbrev pub Overall : (Position → Position → ℕ) → Situation → Links → Links → GroundVerdicts → Type 0
Overall span s before after v =
    (middle : Links) × SteppedOnBoth (advised (λ ours _ near. greedy ours near) span s) s before middle v.greedy × SteppedOnBoth (advised (λ ours sender _. contention ours sender) span s) s middle after v.contention

-- over the flat ground of an east scale, and then over the street ground
abbrev pub Round : Situation → ℕ → Links → Links → RoundVerdicts → Type 0
Round s scale before after v =
    (middle : Links) × Overall (straight scale) s before middle v.flat × Overall (along scale) s middle after v.street

-- so many times over, with the verdicts of the last time
abbrev pub Rounds : ℕ → Situation → ℕ → Links → Links → Option RoundVerdicts → Type 0
Rounds zero s scale before after None = after ≡ before
Rounds zero s scale before after (Some v) = ⊥
Rounds (suc n) s scale before after None = ⊥
Rounds (suc n) s scale before after (Some v) = (middle : Links) × (earlier : Option RoundVerdicts) × Rounds n s scale before middle earlier × Round s scale middle after v
