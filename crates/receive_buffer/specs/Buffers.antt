-- What a receive buffer holds, and what it takes. Assumes nothing.
use Rattle.std.specs.Prelude.{ℕ, cond, List, length, take, Ok, Err, Result, nat_lt}
use Rattle.packets.specs.declared.fault.HeaderFault.{HeaderFault}
use Rattle.packets.specs.declared.fault.HeaderFault.TheVariants.{TooLong}
use Rattle.receive_buffer.specs.declared.buffer.ReceiveBuffer.{ReceiveBuffer}

-- the octets that were received last
abbrev pub received : ReceiveBuffer → List ℕ
received b = take b.count b.octets

-- at most 1,458 octets are taken; more are refused, number 2 at place 0
abbrev pub filling : List ℕ → Result (Unit {0}) HeaderFault
filling o = cond (nat_lt 1458 (length o)) (Err TooLong) (Ok tt)
