use Rattle.std.proofs.Common.{arith}
use Rattle.ground.proofs.Newton.{some_root, step-above, step-stops, excess_more, not_above}
use Rattle.ground.proofs.root.near_root.Goals as goal

pub returns-then-next-x-clause-most : goal.returns-then-next-x-clause-most
returns-then-next-x-clause-most c = not_above _ _ (step-stops c.args.n c.loop.x c.loop.invariant.some (omega arith))

pub loop-preserved : goal.loop-preserved
loop-preserved c =
    let above = step-above c.args.n c.loop.x c.loop.invariant.some in
    record {
      some = some_root c.args.n _ (omega arith) above;
      above = above;
      bound = omega arith;
      excess = excess_more c.args.n c.loop.x c.loop.counter c.loop.invariant.some (omega arith) c.loop.invariant.excess;
    }
