-- Our position vector, and the packets that we write on request. Assumes nothing.
use Rattle.std.specs.Prelude.{ℕ, ◌%◌, ◌^◌, Bool, true, false, List, Some, None, Option}
use Rattle.fields.specs.Motions.{motion_bits}
use Rattle.fields.specs.declared.address.Address.{Address}
use Rattle.vectors.specs.declared.area.Area.{Area}
use Rattle.vectors.specs.declared.long.LongPositionVector.{LongPositionVector}
use Rattle.vectors.specs.declared.short.ShortPositionVector.{ShortPositionVector}
use Rattle.packets.specs.Contents.{Header, beacon, unicast, anycast, broadcast, single_hop, multi_hop}
use Rattle.packets.specs.Writing.{wire}
use Rattle.packets.specs.declared.kind.Kind.{Kind}
use Rattle.packets.specs.declared.kind.Kind.TheVariants as kinds
use Rattle.location_table.specs.Stations.{Station}
use Rattle.rules.specs.Packets.{given, no_vector}
use Rattle.rules.specs.declared.placing.Placing.{Placing}
use Rattle.rules.specs.declared.request.Body.{Body}
use Rattle.rules.specs.declared.request.Body.TheVariants as body
use Rattle.rules.specs.declared.request.Request.{Request}

-- our vector: the time modulo 2^32 is its timestamp
abbrev pub own_of : Address → ℕ → Placing → LongPositionVector
own_of a t p = record {
  short = record { address = a; timestamp = record { millis = t % 2 ^ 32 }; position = p.position };
  motion = record { bits = motion_bits p.accurate p.speed };
  heading = p.heading;
}

-- what a request asks for
abbrev pub body_kind : Body → Kind
body_kind body.Beacon = kinds.Beacon
body_kind (body.Unicast a) = kinds.Unicast
body_kind (body.Anycast a) = kinds.Anycast
body_kind (body.Broadcast a) = kinds.Broadcast
body_kind (body.SingleHop m) = kinds.SingleHop
body_kind body.MultiHop = kinds.MultiHop

abbrev pub body_area : Body → Option Area
body_area body.Beacon = None
body_area (body.Unicast a) = None
body_area (body.Anycast a) = Some a
body_area (body.Broadcast a) = Some a
body_area (body.SingleHop m) = None
body_area body.MultiHop = None

abbrev pub body_destination : Body → Option Address
body_destination body.Beacon = None
body_destination (body.Unicast a) = Some a
body_destination (body.Anycast b) = None
body_destination (body.Broadcast b) = None
body_destination (body.SingleHop m) = None
body_destination body.MultiHop = None

abbrev pub numbered : Body → Bool
numbered body.Beacon = false
numbered (body.Unicast a) = true
numbered (body.Anycast a) = true
numbered (body.Broadcast a) = true
numbered (body.SingleHop m) = false
numbered body.MultiHop = true

abbrev pub wanted : Body → ℕ
wanted b = given 0 (λ a. a.value) (body_destination b)

-- the destination's vector, from the table
abbrev pub destination_vector : Address → Option Station → ShortPositionVector
destination_vector a (Some x) = x.vector
destination_vector a None = record { address = a; timestamp = record { millis = 0 }; position = no_vector.position }

-- what is written: our vector, our next number, and the rest as requested
abbrev pub header_for : LongPositionVector → ℕ → Option Station → Request → Body → Header
header_for own next to q body.Beacon = beacon (record { common = q.common; source = own })
header_for own next to q (body.Unicast a) = unicast (record { common = q.common; number = record { value = next }; source = own; destination = destination_vector a to })
header_for own next to q (body.Anycast a) = anycast (record { common = q.common; number = record { value = next }; source = own; area = a })
header_for own next to q (body.Broadcast a) = broadcast (record { common = q.common; number = record { value = next }; source = own; area = a })
header_for own next to q (body.SingleHop m) = single_hop (record { common = q.common; source = own; media = m })
header_for own next to q body.MultiHop = multi_hop (record { common = q.common; number = record { value = next }; source = own })

unfoldable pub written : LongPositionVector → ℕ → Option Station → Request → List ℕ → List ℕ
written own next to q payload = wire (record { header = header_for own next to q q.body; payload = payload })
