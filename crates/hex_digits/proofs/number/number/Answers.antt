use Rattle.std.proofs.Common.{◌≡◌, ◌+◌, ◌*◌, ◌<◌, true, ◌&&◌, leb, length, get_or, None, sym, ◌∙◌, arith, rules}
use Rattle.std.proofs.lemmas.Bool.{cond-true}
use Rattle.hex_digits.proofs.Numbers.{number_more, number_other, number_all, one_more, wider}
use Rattle.hex_digits.proofs.number.number.Goals as goal
use Rattle.hex_digits.specs.Hex.{digit_of}

pub returns-in_err-digit-clause-value : goal.returns-in_err-digit-clause-value
returns-in_err-digit-clause-value c =
    let here : c.loop-b.b-index < length c.args.text.now = search rules in
    let none : c.from_residual.result ≡ None = search rules in
    let other : None ≡ digit_of (get_or c.args.text.now c.loop-b.b-index 0) = search rules in
    let test : (leb 1 (length c.args.text.now) && leb (length c.args.text.now) c.args.most) ≡ true = search rules in
    none ∙ sym (cond-true _ _ _ test ∙ c.loop-b.invariant.0 ∙ number_other _ _ _ here other)

pub overflow_mul-value : goal.overflow_mul-value
overflow_mul-value c =
    let small = wider (c.loop-b.b-index + 1) 16 (c.loop-b.value * 16 + 0) (one_more c.loop-b.b-index c.loop-b.value 0 c.loop-b.invariant.1 (omega arith)) (omega arith) in
    search rules

pub overflow_add-value : goal.overflow_add-value
overflow_add-value c =
    let small = wider (c.loop-b.b-index + 1) 16 (c.loop-b.value * 16 + c.in_ok-digit.field-0) (one_more c.loop-b.b-index c.loop-b.value c.in_ok-digit.field-0 c.loop-b.invariant.1 c.in_ok-digit.ensures.bound) (omega arith) in
    search rules

pub loop-b-preserved : goal.loop-b-preserved
loop-b-preserved c =
    let here : c.loop-b.b-index < length c.args.text.now = search rules in
    let more = number_more c.args.text.now c.loop-b.b-index c.loop-b.value c.in_ok-digit.field-0 here c.in_ok-digit.ensures.value in
    let small = one_more c.loop-b.b-index c.loop-b.value c.in_ok-digit.field-0 c.loop-b.invariant.1 c.in_ok-digit.ensures.bound in
    search rules

pub returns : goal.returns
returns c =
    let test : (leb 1 (length c.args.text.now) && leb (length c.args.text.now) c.args.most) ≡ true = search rules in
    let all = number_all c.args.text.now c.loop-b.b-index c.loop-b.value (omega arith) in
    record {
      value = sym (cond-true _ _ _ test ∙ c.loop-b.invariant.0 ∙ all);
      bound = wider c.loop-b.b-index c.args.most c.loop-b.value c.loop-b.invariant.1 (omega arith);
    }
