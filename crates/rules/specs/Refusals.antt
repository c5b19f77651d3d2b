-- The number and the place of each refusal of a call. Assumes nothing.
use Rattle.std.specs.Prelude.{ℕ}
use Rattle.packets.specs.Faults.{header_number, header_place, write_number, write_place}
use Rattle.rules.specs.declared.fault.RouterFault.{RouterFault}
use Rattle.rules.specs.declared.fault.RouterFault.TheVariants.{Time, Packet, Placing, OwnAddress, TableFull, Request, Destination}

abbrev pub number : RouterFault → ℕ
number Time = 1
number (Packet f) = header_number f
number Placing = 9
number OwnAddress = 10
number TableFull = 11
number (Request f) = write_number f
number Destination = 13

-- the reader's places are passed up untouched, and elsewhere there is no octet at fault
abbrev pub place : RouterFault → ℕ
place Time = 0
place (Packet f) = header_place f
place Placing = 0
place OwnAddress = 0
place TableFull = 0
place (Request f) = write_place f
place Destination = 0
