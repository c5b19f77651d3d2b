use Rattle.std.proofs.Common.{refl}
use Rattle.law.proofs.Laws.{lawful}
use Rattle.law.proofs.every_run_is_lawful.Goals as goal

pub returns : goal.returns
returns c = record { answer = refl; law = λ w h s r. record { answered = r; lawful = lawful r } }
