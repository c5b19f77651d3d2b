-- What a queue is in clauses. Assumes nothing.
use Rattle.std.specs.Prelude.{ℕ, List}
use Rattle.link.specs.Frames.{Frame}

-- the frames that wait, the one that has waited longest first, and for how many frames there is storage
pub record Waiting : Type 0 where
  pub frames : List Frame
  pub storage : ℕ
