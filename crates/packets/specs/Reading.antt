-- What the octets of a packet say, or the first refusal that fits. Assumes nothing.
use Rattle.std.specs.Prelude.{ℕ, ◌+◌, ◌/◌, ◌%◌, cond, not, ◌||◌, List, length, drop, Ok, Err, Result, ◌==◌, nat_lt}
use Rattle.std.specs.Option.{ok_or}
use Rattle.octets.specs.Faults.{and_then, room_at, read_at}
use Rattle.octets.specs.Wire.{field_at}
use Rattle.octets.specs.declared.fault.OctetFault.{OctetFault}
use Rattle.vectors.specs.Vectors.{long_vector_at, short_vector_at, area_at}
use Rattle.packets.specs.Common.{octet, common_of, hop_limits_fit, lifetime_fits}
use Rattle.packets.specs.Contents.{Header, Content, beacon, unicast, anycast, broadcast, single_hop, multi_hop}
use Rattle.packets.specs.Faults.{passed}
use Rattle.packets.specs.Kinds.{kind_of, headers_of, payload_limit}
use Rattle.packets.specs.declared.common.CommonHeader.{CommonHeader}
use Rattle.packets.specs.declared.fault.HeaderFault.{HeaderFault}
use Rattle.packets.specs.declared.fault.HeaderFault.TheVariants.{TooLong, Version, NextHeader, UnknownKind, PayloadLength, HopLimit, Lifetime}
use Rattle.packets.specs.declared.headers.AreaHeader.{AreaHeader}
use Rattle.packets.specs.declared.headers.BeaconHeader.{BeaconHeader}
use Rattle.packets.specs.declared.headers.MultiHopHeader.{MultiHopHeader}
use Rattle.packets.specs.declared.headers.SingleHopHeader.{SingleHopHeader}
use Rattle.packets.specs.declared.headers.UnicastHeader.{UnicastHeader}
use Rattle.packets.specs.declared.kind.Kind.{Kind}
use Rattle.packets.specs.declared.kind.Kind.TheVariants.{Beacon, Unicast, Anycast, Broadcast, SingleHop, MultiHop}

-- refusals 2 to 5: the number of octets, version, next header, kind
abbrev pub framing : List ℕ → Result Kind HeaderFault
framing o =
    and_then (passed (room_at 12 0 o)) (λ _.
    cond (nat_lt 1458 (length o)) (Err TooLong)
    (cond (not (octet 0 o / 16 == 1)) (Err Version)
    (cond (not (octet 0 o % 16 == 1)) (Err NextHeader)
    (ok_or (kind_of (octet 5 o)) UnknownKind))))

-- the payload length
abbrev pub payload_length : List ℕ → ℕ
payload_length o = field_at 2 8 o

-- refusal 6: the octets are headers and payload, and there is not too much payload
abbrev pub lengths : Kind → List ℕ → Result (Unit {0}) HeaderFault
lengths k o =
    cond (not (length o == headers_of k + payload_length o) || nat_lt (payload_limit k) (payload_length o)) (Err PayloadLength) (Ok tt)

-- refusals 7 and 8: the hop limits and the lifetime
abbrev pub limits : Kind → CommonHeader → Result (Unit {0}) HeaderFault
limits k c = cond (not (hop_limits_fit k c)) (Err HopLimit) (cond (not (lifetime_fits c)) (Err Lifetime) (Ok tt))

-- the records of the kinds, from octet 12 on; a coordinate out of its range is refusal 9
abbrev pub beacon_at : CommonHeader → List ℕ → Result BeaconHeader OctetFault
beacon_at c o = and_then (long_vector_at 12 o) (λ source. Ok (record { common = c; source = source }))

abbrev pub unicast_at : CommonHeader → List ℕ → Result UnicastHeader OctetFault
unicast_at c o =
    and_then (read_at 2 12 o) (λ number. and_then (long_vector_at 16 o) (λ source. and_then (short_vector_at 40 o) (λ destination.
    Ok (record { common = c; number = record { value = number }; source = source; destination = destination }))))

abbrev pub area_header_at : CommonHeader → List ℕ → Result AreaHeader OctetFault
area_header_at c o =
    and_then (read_at 2 12 o) (λ number. and_then (long_vector_at 16 o) (λ source. and_then (area_at 40 o) (λ area.
    Ok (record { common = c; number = record { value = number }; source = source; area = area }))))

abbrev pub single_hop_at : CommonHeader → List ℕ → Result SingleHopHeader OctetFault
single_hop_at c o =
    and_then (long_vector_at 12 o) (λ source. and_then (read_at 4 36 o) (λ media.
    Ok (record { common = c; source = source; media = media })))

abbrev pub multi_hop_at : CommonHeader → List ℕ → Result MultiHopHeader OctetFault
multi_hop_at c o =
    and_then (read_at 2 12 o) (λ number. and_then (long_vector_at 16 o) (λ source.
    Ok (record { common = c; number = record { value = number }; source = source })))

-- the record of a kind
abbrev pub header_at : Kind → CommonHeader → List ℕ → Result Header OctetFault
header_at Beacon c o = and_then (beacon_at c o) (λ h. Ok (beacon h))
header_at Unicast c o = and_then (unicast_at c o) (λ h. Ok (unicast h))
header_at Anycast c o = and_then (area_header_at c o) (λ h. Ok (anycast h))
header_at Broadcast c o = and_then (area_header_at c o) (λ h. Ok (broadcast h))
header_at SingleHop c o = and_then (single_hop_at c o) (λ h. Ok (single_hop h))
header_at MultiHop c o = and_then (multi_hop_at c o) (λ h. Ok (multi_hop h))

-- the packet that the octets are; its payload is what follows the headers
abbrev pub reading : List ℕ → Result Content HeaderFault
reading o =
    and_then (framing o) (λ k.
    and_then (lengths k o) (λ _.
    and_then (limits k (common_of o)) (λ _.
    and_then (passed (header_at k (common_of o) o)) (λ h.
    Ok (record { header = h; payload = drop (headers_of k) o })))))
