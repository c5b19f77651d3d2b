-- A packet read and written again, as the reader and the writer do it. Assumes nothing.
use Rattle.std.specs.Prelude.{◌≡◌, ℕ, List, length, Ok, Err, Result}
use Rattle.octets.specs.Wire.{placed}
use Rattle.packets.specs.Contents.{Content, kind_in}
use Rattle.packets.specs.Reading.{reading}
use Rattle.packets.specs.Writing.{wire}
use Rattle.packets.specs.declared.fault.HeaderFault.{HeaderFault}
use Rattle.roundtrip.specs.Trips.{Clear}

-- a packet that was read, and its octets as they were written over the front of a buffer
pub record Again (o before after : List ℕ) (n : ℕ) : Type 0 where
  pub packet : Content
  pub read : reading o ≡ Ok packet
  pub count : n ≡ length o
  pub long : n ≡ length (wire packet)
  pub written : after ≡ placed 0 (wire packet) before
  -- with no reserved bit set they are the octets that were read
  pub same : Clear (kind_in packet.header) o → wire packet ≡ o

abbrev pub Rewritten : List ℕ → List ℕ → List ℕ → Result ℕ HeaderFault → Type 0
Rewritten o before after (Ok n) = Again o before after n
Rewritten o before after (Err f) = (reading o ≡ Err f) × (after ≡ before)
