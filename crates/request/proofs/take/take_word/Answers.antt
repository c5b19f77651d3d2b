use Rattle.std.proofs.Common.{◌≡◌, Err, refl, inl, inr, lit<, rules}
use Rattle.std.proofs.lemmas.Option.{MatchOption-at_some, MatchOption-at_none}
use Rattle.std.proofs.lemmas.Str.Pattern.{split_parts}
use Rattle.request.proofs.take.take_word.Goals as goal
use Rattle.request.specs.declared.fault.LineFault.TheVariants.{NotUnderstood}

pub returns : goal.returns
returns g c =
    let parts = MatchOption-at_some _ _ _ c.in_ok-name.ensures.ok_part (split_parts 61 c.args.word.now c.split_once.result c.split_once.ensures.cases (lit< tt)) in
    inr (c.in_ok-name.name.now, c.in_ok-name.value.now, record { whole = parts.0; first = parts.1 }, c.set.ensures)

pub returns-in_err-name : goal.returns-in_err-name
returns-in_err-name g c =
    let none = MatchOption-at_none _ _ c.in_err-name.ensures.ok_part (split_parts 61 c.args.word.now c.split_once.result c.split_once.ensures.cases (lit< tt)) in
    let refused : c.from_residual.result ≡ Err NotUnderstood = search rules in
    inl (none, record { refused = refused; same = refl })
