-- The octets of a packet, or the first refusal that fits. Assumes nothing.
use Rattle.std.specs.Prelude.{ℕ, ◌+◌, Bool, true, cond, not, ◌&&◌, List, ◌++◌, length, Ok, Err, Result, nat_lt}
use Rattle.octets.specs.Faults.{and_then}
use Rattle.octets.specs.Wire.{octets_of}
use Rattle.fields.specs.Positions.{on_earth}
use Rattle.vectors.specs.Vectors.{long_vector_octets, short_vector_octets, area_octets}
use Rattle.packets.specs.Common.{common_octets, hop_limits_fit, lifetime_fits}
use Rattle.packets.specs.Contents.{Header, Content, beacon, unicast, anycast, broadcast, single_hop, multi_hop, kind_in, common_in, source_in}
use Rattle.packets.specs.Kinds.{headers_of, payload_limit}
use Rattle.packets.specs.declared.fault.WriteFault.{WriteFault}
use Rattle.packets.specs.declared.fault.WriteFault.TheVariants.{HopLimit, Lifetime, Position, Payload}
use Rattle.packets.specs.declared.headers.AreaHeader.{AreaHeader}

-- the extended header of an anycast or a broadcast
abbrev pub area_header_octets : AreaHeader → List ℕ
area_header_octets h = octets_of 2 h.number.value ++ octets_of 2 0 ++ long_vector_octets h.source ++ area_octets h.area

-- the extended header: the octets from octet 12 on, up to the payload
abbrev pub extended_octets : Header → List ℕ
extended_octets (beacon h) = long_vector_octets h.source
extended_octets (unicast h) = octets_of 2 h.number.value ++ octets_of 2 0 ++ long_vector_octets h.source ++ short_vector_octets h.destination
extended_octets (anycast h) = area_header_octets h
extended_octets (broadcast h) = area_header_octets h
extended_octets (single_hop h) = long_vector_octets h.source ++ octets_of 4 h.media
extended_octets (multi_hop h) = octets_of 2 h.number.value ++ octets_of 2 0 ++ long_vector_octets h.source

-- the octets of a packet: the first twelve, the extended header, the payload
abbrev pub wire : Content → List ℕ
wire c = common_octets (kind_in c.header) (length c.payload) (common_in c.header) ++ extended_octets c.header ++ c.payload

-- the position of a destination or a centre is on the earth
abbrev pub target_fits : Header → Bool
target_fits (beacon h) = true
target_fits (unicast h) = on_earth h.destination.position
target_fits (anycast h) = on_earth h.area.centre
target_fits (broadcast h) = on_earth h.area.centre
target_fits (single_hop h) = true
target_fits (multi_hop h) = true

-- the first refusal that fits: 7, 8, 9, 12
abbrev pub checked : Content → Result (Unit {0}) WriteFault
checked c =
    cond (not (hop_limits_fit (kind_in c.header) (common_in c.header))) (Err HopLimit)
    (cond (not (lifetime_fits (common_in c.header))) (Err Lifetime)
    (cond (not (on_earth (source_in c.header).short.position && target_fits c.header)) (Err Position)
    (cond (nat_lt (payload_limit (kind_in c.header)) (length c.payload)) (Err Payload) (Ok tt))))

-- the number of octets, or the refusal
abbrev pub writing : Content → Result ℕ WriteFault
writing c = and_then (checked c) (λ _. Ok (headers_of (kind_in c.header) + length c.payload))
