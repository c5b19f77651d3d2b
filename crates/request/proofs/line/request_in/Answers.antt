use Rattle.std.proofs.lemmas.Option.{MatchOption-at_some}
use Rattle.std.proofs.lemmas.Result.{err_from_is_err_and}
use Rattle.request.proofs.Chain.{requested, refused}
use Rattle.request.proofs.line.request_in.Goals as goal

pub returns-in_err-take_words : goal.returns-in_err-take_words
returns-in_err-take_words c =
    let first = MatchOption-at_some _ _ _ c.in_ok-kind.ensures.ok_part c.next.ensures.steps.0 in
    let p = err_from_is_err_and c.from_residual-in_err-take_words.result c.from_residual-in_err-take_words.ensures.1 in
    rw (p.1, p.2)
    (refused _ _ _ c.in_ok-request.request c.take_words.new.taker c.in_err-take_words.field-0.0 first c.in_ok-request.ensures c.in_err-take_words.ensures)

pub returns : goal.returns
returns c =
    let first = MatchOption-at_some _ _ _ c.in_ok-kind.ensures.ok_part c.next.ensures.steps.0 in
    requested _ _ _ c.in_ok-request.request c.take_words.new.taker first c.in_ok-request.ensures c.in_ok-take_words.ensures
