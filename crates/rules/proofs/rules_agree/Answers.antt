use Rattle.std.proofs.Common.{refl}
use Rattle.rules.proofs.Joins.{agree}
use Rattle.rules.proofs.rules_agree.Goals as goal

pub returns : goal.returns
returns c = record { answer = refl; agree = agree }
