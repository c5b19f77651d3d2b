use Rattle.std.proofs.Common.{ap, length, rules}
use Rattle.request.proofs.Cutting.{no_word, first_word}
use Rattle.request.proofs.cut.WordsIterator.next.Goals as goal

pub returns-in_err-word_start-clause-steps : goal.returns-in_err-word_start-clause-steps
returns-in_err-word_start-clause-steps c =
    let none = no_word c.args.self.now.0.now c.in_err-word_start.ensures in
    rw c.from_residual.ensures ((none, none), tt)

pub returns-clause-steps : goal.returns-clause-steps
returns-clause-steps c = first_word c.args.self.now.0.now c.split_at.result.1.now _ _ c.in_ok-word_start.field-0 c.word_end.result c.in_ok-word_start.ensures c.split_at.ensures.back c.word_end.ensures (search rules) (search rules)

pub returns-clause-goes : goal.returns-clause-goes
returns-clause-goes c = let e = ap length (returns-clause-steps c).0 in search rules
