use Rattle.std.proofs.lemmas.Result.{err_from_is_err_and}
use Rattle.situation.proofs.Telling.{describes, refused}
use Rattle.situation.proofs.line.situation_in.Goals as goal

pub returns-in_err-take_words : goal.returns-in_err-take_words
returns-in_err-take_words c =
    let p = err_from_is_err_and c.from_residual-in_err-take_words.result c.from_residual-in_err-take_words.ensures.1 in
    rw (p.1, p.2)
    (refused _ c.in_ok-situation.situation c.take_words.new.taker c.in_err-take_words.field-0.0 c.in_ok-situation.ensures c.in_err-take_words.ensures)

pub returns : goal.returns
returns c = describes _ c.in_ok-situation.situation c.take_words.new.taker c.in_ok-situation.ensures c.in_ok-take_words.ensures
