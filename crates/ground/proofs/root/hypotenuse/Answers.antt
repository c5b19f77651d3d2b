use Rattle.std.proofs.Common.{◌+◌, ◌*◌, arith}
use Rattle.ground.proofs.Newton.{near_least, near_is}
use Rattle.ground.specs.Squares.{root_is, least_exact}
use Rattle.ground.proofs.root.hypotenuse.Goals as goal

pub returns-then-square-eq0-clause-value : goal.returns-then-square-eq0-clause-value
returns-then-square-eq0-clause-value c =
    root_is _ 0 (least_exact (c.args.north.decimetres * c.args.north.decimetres + c.args.east.decimetres * c.args.east.decimetres) 0 (omega arith))

pub returns-then-near-square-clause-value : goal.returns-then-near-square-clause-value
returns-then-near-square-clause-value c =
    root_is _ _ (near_least (c.args.north.decimetres * c.args.north.decimetres + c.args.east.decimetres * c.args.east.decimetres) c.near_root-near.result (omega arith) (omega arith))

pub returns-else-near-square : goal.returns-else-near-square
returns-else-near-square c =
    let it = near_is (c.args.north.decimetres * c.args.north.decimetres + c.args.east.decimetres * c.args.east.decimetres) c.near_root-near.result c.near_root-near.ensures.most (omega arith) in
    record { value = root_is _ _ it; least = it; bound = omega arith }
