use Rattle.std.proofs.Common.{◌≡◌, ◌<◌, [], drop, IfSome, None, vec_items}
use Rattle.hex_digits.proofs.decode.decode.Given as goal
use Rattle.hex_digits.specs.Hex.{decoded_from}

abbrev pub invariant-loop-b : goal.invariant-loop-b
invariant-loop-b l =
    (decoded_from l.text [] None ≡ decoded_from (drop l.b-index l.text) (vec_items l.octets) l.high) ×
    IfSome l.high (λ h. h < 16)
