use Rattle.std.proofs.Common.{refl}
use Rattle.law.proofs.Laws.{calls_bear, opening_bears}
use Rattle.law.proofs.calls_bear_the_law.Goals as goal

pub returns : goal.returns
returns c = record { answer = refl; opening = opening_bears; calls = calls_bear }
