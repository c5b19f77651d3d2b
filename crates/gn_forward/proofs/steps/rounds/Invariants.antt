use Rattle.gn_forward.proofs.steps.rounds.Given as goal
use Rattle.gn_forward.specs.Steps.{Rounds}

abbrev pub invariant-loop-time : goal.invariant-loop-time
invariant-loop-time l = Rounds l.time l.situation l.scale.value l.initial.links l.links l.last
