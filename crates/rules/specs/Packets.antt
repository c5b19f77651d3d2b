-- What the rules read in the octets of a packet, and what a hop and a wait change in them. Assumes nothing.
use Rattle.std.specs.Prelude.{ℕ, ◌+◌, ◌-◌, ◌*◌, ◌/◌, min, Bool, false, cond, List, pos, Some, None, Ok, Err, Option, Result, ◌==◌, nat_le, nat_lt, slice_set}
use Rattle.octets.specs.Wire.{placed}
use Rattle.fields.specs.declared.position.Position.{Position}
use Rattle.times.specs.Lifetimes.{lifetime_of, unit_of}
use Rattle.times.specs.Timestamps.{newer}
use Rattle.vectors.specs.Vectors.{short_vector_octets}
use Rattle.vectors.specs.declared.area.Area.{Area}
use Rattle.vectors.specs.declared.short.ShortPositionVector.{ShortPositionVector}
use Rattle.packets.specs.Common.{octet, common_of}
use Rattle.packets.specs.Contents.{Header, beacon, unicast, anycast, broadcast, single_hop, multi_hop, kind_in, source_in}
use Rattle.packets.specs.Kinds.{kind_of}
use Rattle.packets.specs.Reading.{header_at}
use Rattle.packets.specs.declared.kind.Kind.{Kind}
use Rattle.packets.specs.declared.kind.Kind.TheVariants.{Beacon}
use Rattle.location_table.specs.Stations.{Station}

-- the header that octets hold, where they hold one
abbrev pub in_result : {X E : Type 0} → Result X E → Option X
in_result (Ok x) = Some x
in_result (Err f) = None

abbrev pub header_as : Option Kind → List ℕ → Option Header
header_as None o = None
header_as (Some k) o = in_result (header_at k (common_of o) o)

unfoldable pub header_of : List ℕ → Option Header
header_of o = header_as (kind_of (octet 5 o)) o

-- what a header has, and what is taken where there is none
abbrev pub given : {X Y : Type 0} → Y → (X → Y) → Option X → Y
given y f None = y
given y f (Some x) = f x

abbrev pub no_vector : ShortPositionVector
no_vector = record { address = record { value = 0 }; timestamp = record { millis = 0 }; position = record { latitude = pos 0; longitude = pos 0 } }

-- its kind
unfoldable pub packet_kind : List ℕ → Kind
packet_kind o = given Beacon kind_in (header_of o)

-- the source's address, position and timestamp
unfoldable pub vector_of : List ℕ → ShortPositionVector
vector_of o = given no_vector (λ h. (source_in h).short) (header_of o)

abbrev pub source_of : List ℕ → ℕ
source_of o = (vector_of o).address.value

-- by what a packet of a station is known again: its number; and when two are the same
abbrev pub Mark : Type 0
Mark = ℕ

abbrev pub same_mark : Mark → Mark → Bool
same_mark m n = m == n

-- its number, if its kind has one
abbrev pub number_in : Header → Option Mark
number_in (beacon h) = None
number_in (unicast h) = Some h.number.value
number_in (anycast h) = Some h.number.value
number_in (broadcast h) = Some h.number.value
number_in (single_hop h) = None
number_in (multi_hop h) = Some h.number.value

unfoldable pub number_of : List ℕ → Option Mark
number_of o = given None number_in (header_of o)

-- two numbers are there and the same
abbrev pub same_number : Option Mark → Option Mark → Bool
same_number None n = false
same_number (Some m) None = false
same_number (Some m) (Some n) = same_mark m n

-- the destination of a unicast
abbrev pub destination_in : Header → Option ShortPositionVector
destination_in (beacon h) = None
destination_in (unicast h) = Some h.destination
destination_in (anycast h) = None
destination_in (broadcast h) = None
destination_in (single_hop h) = None
destination_in (multi_hop h) = None

unfoldable pub destination_of : List ℕ → Option ShortPositionVector
destination_of o = given None destination_in (header_of o)

abbrev pub destination_address : List ℕ → ℕ
destination_address o = given 0 (λ v. v.address.value) (destination_of o)

-- the area of an anycast or a broadcast
abbrev pub area_in : Header → Option Area
area_in (beacon h) = None
area_in (unicast h) = None
area_in (anycast h) = Some h.area
area_in (broadcast h) = Some h.area
area_in (single_hop h) = None
area_in (multi_hop h) = None

unfoldable pub area_of : List ℕ → Option Area
area_of o = given None area_in (header_of o)

-- where a packet is bound for: a unicast's destination, an area's centre
abbrev pub target_between : Option ShortPositionVector → Option Area → Position
target_between (Some v) a = v.position
target_between None (Some a) = a.centre
target_between None None = no_vector.position

unfoldable pub target_of : List ℕ → Position
target_of o = target_between (destination_of o) (area_of o)

-- the hop limit that remains, the lifetime octet, and store-carry-forward
abbrev pub hops_of : List ℕ → ℕ
hops_of o = (common_of o).remaining_hop_limit

abbrev pub packet_lifetime : List ℕ → ℕ
packet_lifetime o = (common_of o).lifetime.octet

unfoldable pub carries : List ℕ → Bool
carries o = nat_le 128 (common_of o).traffic_class.octet

-- one hop on: the hop limit is one lower
abbrev pub lowered : List ℕ → List ℕ
lowered o = slice_set o 3 (hops_of o - 1)

-- and the destination vector of a unicast is the one that is known, if that is newer; all other octets stay
abbrev pub redirected : Option Station → Option ShortPositionVector → List ℕ → List ℕ
redirected None d o = o
redirected (Some x) None o = o
redirected (Some x) (Some d) o = cond (newer x.vector.timestamp.millis d.timestamp.millis) (placed 40 (short_vector_octets x.vector) o) o

unfoldable pub passed_on : Option Station → List ℕ → List ℕ
passed_on known o = redirected known (destination_of o) (lowered o)

-- the octet for a remaining time: of the best of each unit the longest, of equals the one with the smallest unit
abbrev pub in_unit : ℕ → ℕ → ℕ
in_unit unit r = min (r / unit_of unit) 63 * 4 + unit

abbrev pub longer : ℕ → ℕ → ℕ
longer a b = cond (nat_lt (lifetime_of a) (lifetime_of b)) b a

unfoldable pub octet_for : ℕ → ℕ
octet_for r = longer (longer (longer (in_unit 0 r) (in_unit 1 r)) (in_unit 2 r)) (in_unit 3 r)

-- after a wait: the lifetime octet for the time that remains
abbrev pub relived : ℕ → List ℕ → List ℕ
relived remaining o = slice_set o 2 (octet_for remaining)
