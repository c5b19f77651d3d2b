use Rattle.std.proofs.Common.{◌≡◌, drop}
use Rattle.policy.specs.Choices.{best_from, greedy}
use Rattle.policy.proofs.greedy.GreedyPolicy.choose.Given as goal

abbrev pub invariant-loop-index : goal.invariant-loop-index
invariant-loop-index l = best_from l.index l.best l.choice (drop l.index l.neighbours) ≡ greedy l.ours l.neighbours
