-- The first twelve octets. Assumes nothing.
use Rattle.std.specs.Prelude.{ℕ, ◌*◌, ◌/◌, Bool, cond, not, ◌&&◌, ◌||◌, List, [], ◌∷◌, ◌++◌, ◌==◌, nat_le, slice_index}
use Rattle.octets.specs.Wire.{octets_of}
use Rattle.fields.specs.UpperProtocols.{upper_of, upper_number}
use Rattle.packets.specs.Kinds.{kind_octet, one_hop}
use Rattle.packets.specs.declared.common.CommonHeader.{CommonHeader}
use Rattle.packets.specs.declared.kind.Kind.{Kind}

-- the octet at a place
abbrev pub octet : ℕ → List ℕ → ℕ
octet at o = slice_index o at

-- what the first twelve octets say
abbrev pub common_of : List ℕ → CommonHeader
common_of o =
    record {
      lifetime = record { octet = octet 2 o };
      remaining_hop_limit = octet 3 o;
      maximum_hop_limit = octet 10 o;
      upper_protocol = upper_of (octet 4 o / 16);
      traffic_class = record { octet = octet 6 o };
      mobile = nat_le 128 (octet 7 o);
    }

-- the octets before the payload length, of a packet of a kind; version and next header are 1
abbrev pub front_octets : Kind → CommonHeader → List ℕ
front_octets k c =
    17 ∷ 0 ∷ c.lifetime.octet ∷ c.remaining_hop_limit ∷ upper_number c.upper_protocol * 16 ∷ kind_octet k ∷ c.traffic_class.octet ∷ cond c.mobile 128 0 ∷ []

-- the first twelve octets, with so many octets of payload to come
abbrev pub common_octets : Kind → ℕ → CommonHeader → List ℕ
common_octets k payload c = front_octets k c ++ octets_of 2 payload ++ (c.maximum_hop_limit ∷ 0 ∷ [])

-- the remaining hop limit is at least 1 and at most the maximum, and 1 for the kinds that go one hop
abbrev pub hop_limits_fit : Kind → CommonHeader → Bool
hop_limits_fit k c =
    nat_le 1 c.remaining_hop_limit && (nat_le c.remaining_hop_limit c.maximum_hop_limit && (not (one_hop k) || c.remaining_hop_limit == 1))

-- the multiplier, in the high six bits, is above 0
abbrev pub lifetime_fits : CommonHeader → Bool
lifetime_fits c = nat_le 4 c.lifetime.octet
