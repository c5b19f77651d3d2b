use Rattle.std.proofs.Common.{add-one}
use Rattle.gn_forward.proofs.steps.rounds.Goals as goal

pub loop-time-preserved : goal.loop-time-preserved
loop-time-preserved c = rw add-one (c.loop-time.links, c.loop-time.last, c.loop-time.invariant, c.round.ensures)
