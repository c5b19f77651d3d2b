use Rattle.std.proofs.Common.{refl}
use Rattle.law.proofs.Total.{answered}
use Rattle.law.proofs.every_call_is_answered.Goals as goal

pub returns : goal.returns
returns c = record { answer = refl; total = answered }
