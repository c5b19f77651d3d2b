use Rattle.std.proofs.Common.{◌+◌, ◌*◌, ◌^◌, ◌<◌}
use Rattle.ground.proofs.Newton.{Excess}
use Rattle.ground.proofs.root.near_root.Given as goal

abbrev pub invariant-loop : goal.invariant-loop
invariant-loop l = record { some : 0 < l.x; above : l.n < (l.x + 1) * (l.x + 1); bound : l.x < 2 ^ 30; excess : Excess l.n l.x l.counter }
