use Rattle.times.specs.Units.{unit_number}
use Rattle.times.proofs.Longest.{best_in}
use Rattle.times.proofs.lifetime.Lifetime.in_unit.Goals as goal

pub returns : goal.returns
returns c = rw (c.from-2.ensures.0, c.min.ensures, c.from.ensures, c.millis.ensures) (best_in (unit_number c.args.unit) c.args.remaining (rw c.from-2.ensures.0 at c.from-2.ensures.1))
