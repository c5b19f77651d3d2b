-- Why a packet is refused: the number of each reason. Assumes nothing.
use Rattle.std.specs.Prelude.{ℕ}
use Rattle.outcomes.specs.declared.reason.Reason.{Reason}
use Rattle.outcomes.specs.declared.reason.Reason.TheVariants.{Size, Version, NextHeader, UnknownKind, PayloadLength, HopLimits, Lifetime, Coordinate, PayloadLimit}

abbrev pub reason_number : Reason → ℕ
reason_number Size = 2
reason_number Version = 3
reason_number NextHeader = 4
reason_number UnknownKind = 5
reason_number PayloadLength = 6
reason_number HopLimits = 7
reason_number Lifetime = 8
reason_number Coordinate = 9
reason_number PayloadLimit = 12
