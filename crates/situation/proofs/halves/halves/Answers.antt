use Rattle.situation.proofs.Cutting.{cut_at_lem}
use Rattle.situation.proofs.halves.halves.Goals as goal

pub returns : goal.returns
returns c small = cut_at_lem c.args.mark c.args.text.now c.split_once.result c.split_once.ensures.cases small
