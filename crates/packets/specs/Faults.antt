-- The faults of the packet layer: their numbers and places. Assumes nothing.
use Rattle.std.specs.Prelude.{ℕ, Ok, Err, Result}
use Rattle.octets.specs.Faults.{octet_number, octet_place}
use Rattle.octets.specs.declared.fault.OctetFault.{OctetFault}
use Rattle.packets.specs.declared.fault.HeaderFault.{HeaderFault}
use Rattle.packets.specs.declared.fault.HeaderFault.TheVariants as header
use Rattle.packets.specs.declared.fault.WriteFault.{WriteFault}
use Rattle.packets.specs.declared.fault.WriteFault.TheVariants as write

abbrev pub header_number : HeaderFault → ℕ
header_number (header.Octets f) = octet_number f
header_number header.TooLong = 2
header_number header.Version = 3
header_number header.NextHeader = 4
header_number header.UnknownKind = 5
header_number header.PayloadLength = 6
header_number header.HopLimit = 7
header_number header.Lifetime = 8

abbrev pub header_place : HeaderFault → ℕ
header_place (header.Octets f) = octet_place f
header_place header.TooLong = 0
header_place header.Version = 0
header_place header.NextHeader = 0
header_place header.UnknownKind = 5
header_place header.PayloadLength = 8
header_place header.HopLimit = 3
header_place header.Lifetime = 2

abbrev pub write_number : WriteFault → ℕ
write_number write.HopLimit = 7
write_number write.Lifetime = 8
write_number write.Position = 9
write_number write.Payload = 12

-- there is no octet at fault yet
abbrev pub write_place : WriteFault → ℕ
write_place f = 0

-- an answer of the octet layer, as the packet layer passes it up
abbrev pub passed : {X : Type 0} → Result X OctetFault → Result X HeaderFault
passed (Ok x) = Ok x
passed (Err f) = Err (header.Octets f)
