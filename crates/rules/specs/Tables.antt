-- The stations: finding, letting go, entering and hearing again. Assumes nothing.
use Rattle.std.specs.Prelude.{ℕ, ◌+◌, Bool, false, cond, ◌||◌, List, [], ◌∷◌, ◌++◌, is_some, Some, None, filter, Option, ◌==◌, nat_le}
use Rattle.fields.specs.declared.address.Address.{Address}
use Rattle.times.specs.Timestamps.{newer}
use Rattle.vectors.specs.declared.short.ShortPositionVector.{ShortPositionVector}
use Rattle.link.specs.Addresses.{link_address, same_link}
use Rattle.link.specs.declared.address.LinkAddress.{LinkAddress}
use Rattle.location_table.specs.Stations.{Station}
use Rattle.rules.specs.Known.{address_of, find, memory_ms, last_eight, among}
use Rattle.rules.specs.Packets.{Mark, source_of, vector_of, number_of}
use Rattle.rules.specs.World.{State}

-- the first station with a link address
abbrev pub with_link : LinkAddress → List Station → Option Station
with_link l [] = None
with_link l (x ∷ xs) = cond (same_link (link_address x.vector.address) l) (Some x) (with_link l xs)

-- a station is live for 20,000 ms after it was heard
abbrev pub live : ℕ → Station → Bool
live t x = nat_le t (x.heard + memory_ms)

abbrev pub live_table : ℕ → State → List Station
live_table t s = filter (live t) s.table

abbrev pub remember : Option Mark → List Mark → List Mark
remember None ns = ns
remember (Some n) ns = last_eight (ns ++ (n ∷ []))

abbrev pub remembers : Option Station → Option Mark → Bool
remembers None n = false
remembers (Some x) None = false
remembers (Some x) (Some n) = among n x.numbers

-- the position and timestamp that a station has after one more vector: the new ones, if they are newer
abbrev pub moved : ShortPositionVector → ShortPositionVector → ShortPositionVector
moved before new = record {
  address = before.address;
  timestamp = cond (newer new.timestamp.millis before.timestamp.millis) new.timestamp before.timestamp;
  position = cond (newer new.timestamp.millis before.timestamp.millis) new.position before.position;
}

-- the sender of the frame is the source of the packet
abbrev pub from_itself : LinkAddress → Address → Bool
from_itself sender a = same_link sender (link_address a)

-- a station that is entered, and one that is heard again
abbrev pub entered : ℕ → List ℕ → LinkAddress → Station
entered t o sender = record {
  vector = vector_of o;
  heard = t;
  neighbour = from_itself sender (vector_of o).address;
  numbers = remember (number_of o) [];
}

abbrev pub again : ℕ → List ℕ → LinkAddress → Station → Station
again t o sender x = record {
  vector = moved x.vector (vector_of o);
  heard = t;
  neighbour = from_itself sender x.vector.address || x.neighbour;
  numbers = remember (number_of o) x.numbers;
}

-- the station with an address changed, all others as they are
abbrev pub renew : ℕ → (Station → Station) → List Station → List Station
renew a f [] = []
renew a f (x ∷ xs) = cond (address_of x == a) (f x ∷ xs) (x ∷ renew a f xs)

-- the table after a newly accepted packet
abbrev pub noted : ℕ → List ℕ → LinkAddress → List Station → List Station
noted t o sender xs = cond (is_some (find (source_of o) xs)) (renew (source_of o) (again t o sender) xs) (xs ++ (entered t o sender ∷ []))
