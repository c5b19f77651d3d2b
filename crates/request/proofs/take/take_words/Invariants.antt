use Rattle.std.proofs.Common.{Result}
use Rattle.request.proofs.take.take_words.Given as goal
use Rattle.request.specs.Answered.{WordsAnswered}
use Rattle.request.specs.Cuts.{words_of}
use Rattle.request.specs.declared.fault.LineFault.{LineFault}

abbrev pub invariant-loop-word : goal.invariant-loop-word
invariant-loop-word g l =
    (after : _) (r : Result (Unit {0}) LineFault) → WordsAnswered g.S.SetByName.setting (words_of l.word-iterator.0.now) l.taker after r → WordsAnswered g.S.SetByName.setting (words_of l.initial.word-iterator.0.now) l.initial.taker after r
