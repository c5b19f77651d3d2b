use Rattle.std.proofs.Common.{refl}
use Rattle.law.proofs.Plays.{every_play, example}
use Rattle.law.proofs.runs_are_played.Goals as goal

pub returns : goal.returns
returns c = record { answer = refl; every = every_play; example = example }
