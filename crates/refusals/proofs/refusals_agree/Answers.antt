use Rattle.std.proofs.Common.{refl}
use Rattle.refusals.proofs.Agree.{first_fitting_lem}
use Rattle.refusals.proofs.refusals_agree.Goals as goal

pub returns : goal.returns
returns c = record { answer = refl; first = first_fitting_lem }
