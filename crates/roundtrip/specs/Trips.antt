-- Reading and writing are each other's way back. Assumes nothing.
use Rattle.std.specs.Prelude.{◌≡◌, ℕ, ◌+◌, ◌%◌, ◌<◌, List, length, IfOk, Ok, slice_index}
use Rattle.octets.specs.Wire.{field_at}
use Rattle.packets.specs.Common.{octet}
use Rattle.packets.specs.Contents.{Content, kind_in}
use Rattle.packets.specs.Fitting.{Fits}
use Rattle.packets.specs.Kinds.{headers_of}
use Rattle.packets.specs.Reading.{reading}
use Rattle.packets.specs.Writing.{wire, checked}
use Rattle.packets.specs.declared.kind.Kind.{Kind}
use Rattle.packets.specs.declared.kind.Kind.TheVariants.{Beacon, Unicast, Anycast, Broadcast, SingleHop, MultiHop}

-- what the writer accepts, written, is read as it was
abbrev pub ReadWritten : Type 0
ReadWritten = (c : Content) → Fits c.header → checked c ≡ Ok tt → reading (wire c) ≡ Ok c

-- the reserved bits that every kind has are 0
pub record HeadClear (o : List ℕ) : Type 0 where
  pub one : octet 1 o ≡ 0
  pub four : octet 4 o % 16 ≡ 0
  pub seven : octet 7 o % 128 ≡ 0
  pub eleven : octet 11 o ≡ 0

-- all reserved bits are 0: also those behind a sequence number and at the end of an area
abbrev pub Clear : Kind → List ℕ → Type 0
Clear Beacon o = HeadClear o
Clear Unicast o = HeadClear o × (field_at 2 14 o ≡ 0)
Clear Anycast o = HeadClear o × (field_at 2 14 o ≡ 0) × (field_at 2 54 o ≡ 0)
Clear Broadcast o = HeadClear o × (field_at 2 14 o ≡ 0) × (field_at 2 54 o ≡ 0)
Clear SingleHop o = HeadClear o
Clear MultiHop o = HeadClear o × (field_at 2 14 o ≡ 0)

-- what was read is accepted by the writer, with as many octets, and written as it was if its reserved bits are 0
pub record Back (o : List ℕ) (c : Content) : Type 0 where
  pub count : length o ≡ headers_of (kind_in c.header) + length c.payload
  pub accepted : checked c ≡ Ok tt
  pub same : Clear (kind_in c.header) o → wire c ≡ o

abbrev pub WrittenRead : Type 0
WrittenRead = (o : List ℕ) → ((i : ℕ) → slice_index o i < 256) → IfOk (reading o) (Back o)
