-- What a request asks for, field by field. Assumes nothing.
use Rattle.std.specs.Prelude.{ℕ, false, cond, List, pos, Some, None, Option, nat_lt}
use Rattle.std.specs.Option.{option_map}
use Rattle.fields.specs.Motions.{motion_from, accurate_in, speed_in}
use Rattle.fields.specs.UpperProtocols.{upper_of}
use Rattle.hex_digits.specs.Hex.{number_of}
use Rattle.vectors.specs.declared.area.Area.{Area}
use Rattle.vectors.specs.declared.long.LongPositionVector.{LongPositionVector}
use Rattle.vectors.specs.declared.short.ShortPositionVector.{ShortPositionVector}
use Rattle.packets.specs.Contents.{Header, Content, beacon, unicast, anycast, broadcast, single_hop, multi_hop}
use Rattle.packets.specs.declared.common.CommonHeader.{CommonHeader}
use Rattle.packets.specs.declared.kind.Kind.{Kind}
use Rattle.packets.specs.declared.kind.Kind.TheVariants as kinds
use Rattle.request.specs.Numbers.{and_then, unsigned_in, signed_in, flag_in}
use Rattle.request.specs.declared.asked.Fields.{Fields}
use Rattle.request.specs.declared.names.AreaField.{AreaField}
use Rattle.request.specs.declared.names.AreaField.TheVariants as areas
use Rattle.request.specs.declared.names.CommonField.{CommonField}
use Rattle.request.specs.declared.names.CommonField.TheVariants as commons
use Rattle.request.specs.declared.names.Field.{Field}
use Rattle.request.specs.declared.names.Field.TheVariants as fields
use Rattle.request.specs.declared.names.MotionField.{MotionField}
use Rattle.request.specs.declared.names.MotionField.TheVariants as motions
use Rattle.request.specs.declared.names.VectorField.{VectorField}
use Rattle.request.specs.declared.names.VectorField.TheVariants as vectors

-- every field is 0
abbrev pub no_common : CommonHeader
no_common =
    record { lifetime = record { octet = 0 }; remaining_hop_limit = 0; maximum_hop_limit = 0; upper_protocol = upper_of 0; traffic_class = record { octet = 0 }; mobile = false }

abbrev pub no_vector : ShortPositionVector
no_vector = record { address = record { value = 0 }; timestamp = record { millis = 0 }; position = record { latitude = pos 0; longitude = pos 0 } }

abbrev pub no_fields : Fields
no_fields =
    record {
      common = no_common;
      number = record { value = 0 };
      source = record { short = no_vector; motion = record { bits = 0 }; heading = 0 };
      destination = no_vector;
      area = record { centre = record { latitude = pos 0; longitude = pos 0 }; radius = 0; distance_b = 0; angle = 0 };
      media = 0;
    }

-- a header with these limits, and all else as it was
abbrev pub limited_to : ℕ → ℕ → ℕ → CommonHeader → CommonHeader
limited_to lifetime remaining maximum c =
    record { lifetime = record { octet = lifetime }; remaining_hop_limit = remaining; maximum_hop_limit = maximum; upper_protocol = c.upper_protocol; traffic_class = c.traffic_class; mobile = c.mobile }

-- the first twelve octets, with one field set to what a text says
abbrev pub common_with : CommonField → List ℕ → CommonHeader → Option CommonHeader
common_with commons.Lifetime text c = option_map (λ n. limited_to n c.remaining_hop_limit c.maximum_hop_limit c) (unsigned_in 8 text)
common_with commons.RemainingHopLimit text c = option_map (λ n. limited_to c.lifetime.octet n c.maximum_hop_limit c) (unsigned_in 8 text)
common_with commons.MaximumHopLimit text c = option_map (λ n. limited_to c.lifetime.octet c.remaining_hop_limit n c) (unsigned_in 8 text)
common_with commons.TrafficClass text c =
    option_map (λ n. record { lifetime = c.lifetime; remaining_hop_limit = c.remaining_hop_limit; maximum_hop_limit = c.maximum_hop_limit; upper_protocol = c.upper_protocol; traffic_class = record { octet = n }; mobile = c.mobile }) (unsigned_in 8 text)
common_with commons.UpperProtocol text c =
    and_then (unsigned_in 8 text) (λ n. cond (nat_lt 15 n) None (Some (
    record { lifetime = c.lifetime; remaining_hop_limit = c.remaining_hop_limit; maximum_hop_limit = c.maximum_hop_limit; upper_protocol = upper_of n; traffic_class = c.traffic_class; mobile = c.mobile })))
common_with commons.Mobile text c =
    option_map (λ b. record { lifetime = c.lifetime; remaining_hop_limit = c.remaining_hop_limit; maximum_hop_limit = c.maximum_hop_limit; upper_protocol = c.upper_protocol; traffic_class = c.traffic_class; mobile = b }) (flag_in text)

-- a short position vector
abbrev pub vector_with : VectorField → List ℕ → ShortPositionVector → Option ShortPositionVector
vector_with vectors.Address text v = option_map (λ n. record { address = record { value = n }; timestamp = v.timestamp; position = v.position }) (number_of 16 text)
vector_with vectors.Timestamp text v = option_map (λ n. record { address = v.address; timestamp = record { millis = n }; position = v.position }) (unsigned_in 32 text)
vector_with vectors.Latitude text v = option_map (λ z. record { address = v.address; timestamp = v.timestamp; position = record { latitude = z; longitude = v.position.longitude } }) (signed_in 31 text)
vector_with vectors.Longitude text v = option_map (λ z. record { address = v.address; timestamp = v.timestamp; position = record { latitude = v.position.latitude; longitude = z } }) (signed_in 31 text)

-- what a long position vector has besides; the speed and the flag share sixteen bits
abbrev pub motion_with : MotionField → List ℕ → LongPositionVector → Option LongPositionVector
motion_with motions.Accurate text v = and_then (flag_in text) (λ b. option_map (λ m. record { short = v.short; motion = m; heading = v.heading }) (motion_from b (speed_in v.motion.bits)))
motion_with motions.Speed text v = and_then (signed_in 15 text) (λ z. option_map (λ m. record { short = v.short; motion = m; heading = v.heading }) (motion_from (accurate_in v.motion.bits) z))
motion_with motions.Heading text v = option_map (λ n. record { short = v.short; motion = v.motion; heading = n }) (unsigned_in 16 text)

abbrev pub area_with : AreaField → List ℕ → Area → Option Area
area_with areas.Latitude text a = option_map (λ z. record { centre = record { latitude = z; longitude = a.centre.longitude }; radius = a.radius; distance_b = a.distance_b; angle = a.angle }) (signed_in 31 text)
area_with areas.Longitude text a = option_map (λ z. record { centre = record { latitude = a.centre.latitude; longitude = z }; radius = a.radius; distance_b = a.distance_b; angle = a.angle }) (signed_in 31 text)
area_with areas.Radius text a = option_map (λ n. record { centre = a.centre; radius = n; distance_b = a.distance_b; angle = a.angle }) (unsigned_in 16 text)
area_with areas.DistanceB text a = option_map (λ n. record { centre = a.centre; radius = a.radius; distance_b = n; angle = a.angle }) (unsigned_in 16 text)
area_with areas.Angle text a = option_map (λ n. record { centre = a.centre; radius = a.radius; distance_b = a.distance_b; angle = n }) (unsigned_in 16 text)

-- all fields, with one of them set
abbrev pub fields_with : Field → List ℕ → Fields → Option Fields
fields_with (fields.Common f) text a = option_map (λ c. record { common = c; number = a.number; source = a.source; destination = a.destination; area = a.area; media = a.media }) (common_with f text a.common)
fields_with (fields.Source f) text a =
    option_map (λ v. record { common = a.common; number = a.number; source = record { short = v; motion = a.source.motion; heading = a.source.heading }; destination = a.destination; area = a.area; media = a.media }) (vector_with f text a.source.short)
fields_with (fields.Motion f) text a = option_map (λ v. record { common = a.common; number = a.number; source = v; destination = a.destination; area = a.area; media = a.media }) (motion_with f text a.source)
fields_with (fields.Destination f) text a = option_map (λ v. record { common = a.common; number = a.number; source = a.source; destination = v; area = a.area; media = a.media }) (vector_with f text a.destination)
fields_with (fields.Area f) text a = option_map (λ v. record { common = a.common; number = a.number; source = a.source; destination = a.destination; area = v; media = a.media }) (area_with f text a.area)
fields_with fields.Number text a = option_map (λ n. record { common = a.common; number = record { value = n }; source = a.source; destination = a.destination; area = a.area; media = a.media }) (unsigned_in 16 text)
fields_with fields.Media text a = option_map (λ n. record { common = a.common; number = a.number; source = a.source; destination = a.destination; area = a.area; media = n }) (number_of 8 text)

-- the record of a kind, from the fields that it has
abbrev pub header_of : Kind → Fields → Header
header_of kinds.Beacon a = beacon (record { common = a.common; source = a.source })
header_of kinds.Unicast a = unicast (record { common = a.common; number = a.number; source = a.source; destination = a.destination })
header_of kinds.Anycast a = anycast (record { common = a.common; number = a.number; source = a.source; area = a.area })
header_of kinds.Broadcast a = broadcast (record { common = a.common; number = a.number; source = a.source; area = a.area })
header_of kinds.SingleHop a = single_hop (record { common = a.common; source = a.source; media = a.media })
header_of kinds.MultiHop a = multi_hop (record { common = a.common; number = a.number; source = a.source })

-- the packet of a kind
abbrev pub packet_of : Kind → Fields → List ℕ → Content
packet_of kind a payload = record { header = header_of kind a; payload = payload }
