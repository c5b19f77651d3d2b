use Rattle.std.proofs.Common.{◌≡◌, ◌^◌, ◌<◌, drop}
use Rattle.hex_digits.proofs.number.number.Given as goal
use Rattle.hex_digits.specs.Hex.{number_from}

abbrev pub invariant-loop-b : goal.invariant-loop-b
invariant-loop-b l = (number_from l.text 0 ≡ number_from (drop l.b-index l.text) l.value) × (l.value < 16 ^ l.b-index)
