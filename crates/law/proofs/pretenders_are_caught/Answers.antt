use Rattle.std.proofs.Common.{refl}
use Rattle.law.proofs.Wrong.{caught}
use Rattle.law.proofs.pretenders_are_caught.Goals as goal

pub returns : goal.returns
returns c = record { answer = refl; wrong = caught }
