use Rattle.std.proofs.Common.{◌≡◌, ◌<◌, false, length, get_or, vec_items, sym, ◌∙◌, rules}
use Rattle.hex_digits.proofs.Steps.{decoded-blank, decoded_other, decoded_high, decoded-low, decoded_even, decoded_odd}
use Rattle.hex_digits.proofs.decode.decode.Goals as goal
use Rattle.hex_digits.specs.Hex.{blank}

pub loop-b-preserved-then-is_blank : goal.loop-b-preserved-then-is_blank
loop-b-preserved-then-is_blank c = search (rules, decoded-blank)

pub returns-in_err-low-clause-not_octets : goal.returns-in_err-low-clause-not_octets
returns-in_err-low-clause-not_octets c _ =
    let here : c.loop-b.b-index < length c.args.text.now = search rules in
    let dark : blank (get_or c.args.text.now c.loop-b.b-index 0) ≡ false = search rules in
    c.loop-b.invariant.0 ∙ decoded_other _ _ _ _ here dark (sym c.in_err-low.ensures.ok_part ∙ c.digit.ensures.value)

pub loop-b-preserved : goal.loop-b-preserved
loop-b-preserved c =
    let here : c.loop-b.b-index < length c.args.text.now = search rules in
    let dark : blank (get_or c.args.text.now c.loop-b.b-index 0) ≡ false = search rules in
    let low = sym c.in_ok-low.ensures.ok_part ∙ c.digit.ensures.value in
    elim c.match-high.branch [
      | goal.in-None w ↦
          let more = decoded_high c.args.text.now (vec_items c.loop-b.octets) c.loop-b.b-index c.in_ok-low.low here dark low in
          search rules
      | goal.in-Some+in_ok-push-in-Some w ↦
          let more = decoded-low c.args.text.now (vec_items c.loop-b.octets) c.loop-b.b-index w.in-Some.high c.in_ok-low.low here dark low in
          let pushed = w.in_ok-push-in-Some.ensures.items in
          search rules
    ]

pub returns-in-None-high-clause-ok : goal.returns-in-None-high-clause-ok
returns-in-None-high-clause-ok c = search (rules, decoded_even)

pub returns-in-Some-high-clause-not_octets : goal.returns-in-Some-high-clause-not_octets
returns-in-Some-high-clause-not_octets c _ = search (rules, decoded_odd)
