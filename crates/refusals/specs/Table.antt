-- The table of refusals, and that the reader answers its first row that fits. Assumes nothing.
use Rattle.std.specs.Prelude.{◌≡◌, ℕ, ◌+◌, ◌/◌, ◌%◌, Bool, true, false, cond, not, ◌&&◌, ◌||◌, List, [], ◌∷◌, length, is_some, Some, None, Ok, Err, Option, Result, ◌==◌, nat_lt, unsigned_abs}
use Rattle.octets.specs.Wire.{field_at, signed}
use Rattle.packets.specs.Common.{octet}
use Rattle.packets.specs.Faults.{header_number, header_place}
use Rattle.packets.specs.Kinds.{kind_of, headers_of, one_hop}
use Rattle.packets.specs.Reading.{payload_length, reading}
use Rattle.packets.specs.declared.fault.HeaderFault.{HeaderFault}
use Rattle.packets.specs.declared.kind.Kind.{Kind}
use Rattle.packets.specs.declared.kind.Kind.TheVariants.{Beacon, Unicast, Anycast, Broadcast, SingleHop, MultiHop}

-- one row of the table of refusals: its number, the place of the octet at fault, and whether it fits
pub record Row : Type 0 where
  pub number : ℕ
  pub place : ℕ
  pub fits : Bool

-- fewer than 12 or more than 1458 octets
abbrev pub size_row : List ℕ → Row
size_row o = record { number = 2; place = 0; fits = nat_lt (length o) 12 || nat_lt 1458 (length o) }

-- the version, in the high four bits, is not 1
abbrev pub version_row : List ℕ → Row
version_row o = record { number = 3; place = 0; fits = not (octet 0 o / 16 == 1) }

-- the next header, in the low four bits, is not 1
abbrev pub next_header_row : List ℕ → Row
next_header_row o = record { number = 4; place = 0; fits = not (octet 0 o % 16 == 1) }

-- type and subtype are none of the six kinds
abbrev pub kind_row : List ℕ → Row
kind_row o = record { number = 5; place = 5; fits = not (is_some (kind_of (octet 5 o))) }

abbrev pub is_beacon : Kind → Bool
is_beacon Beacon = true
is_beacon Unicast = false
is_beacon Anycast = false
is_beacon Broadcast = false
is_beacon SingleHop = false
is_beacon MultiHop = false

-- the octets are not headers and payload, or the payload length is above 1398, or a beacon has a payload
abbrev pub length_row : Kind → List ℕ → Row
length_row k o =
    record {
      number = 6;
      place = 8;
      fits = not (length o == headers_of k + payload_length o) || (nat_lt 1398 (payload_length o) || (is_beacon k && nat_lt 0 (payload_length o)));
    }

-- the remaining hop limit is 0, or above the maximum, or not 1 in a kind that goes one hop
abbrev pub hop_row : Kind → List ℕ → Row
hop_row k o =
    record { number = 7; place = 3; fits = octet 3 o == 0 || (nat_lt (octet 10 o) (octet 3 o) || (one_hop k && not (octet 3 o == 1))) }

-- the lifetime multiplier, in the high six bits, is 0
abbrev pub lifetime_row : List ℕ → Row
lifetime_row o = record { number = 8; place = 2; fits = (octet 2 o / 4 == 0) }

-- the coordinate at a place is beyond its limit
abbrev pub coordinate_row : ℕ → ℕ → List ℕ → Row
coordinate_row limit at o = record { number = 9; place = at; fits = nat_lt limit (unsigned_abs (signed 31 (field_at 4 at o))) }

abbrev pub latitude_row : ℕ → List ℕ → Row
latitude_row at o = coordinate_row 900000000 at o

abbrev pub longitude_row : ℕ → List ℕ → Row
longitude_row at o = coordinate_row 1800000000 at o

-- the coordinates of a kind, in the order of their places
abbrev pub coordinate_rows : Kind → List ℕ → List Row
coordinate_rows Beacon o = latitude_row 24 o ∷ longitude_row 28 o ∷ []
coordinate_rows Unicast o = latitude_row 28 o ∷ longitude_row 32 o ∷ latitude_row 52 o ∷ longitude_row 56 o ∷ []
coordinate_rows Anycast o = latitude_row 28 o ∷ longitude_row 32 o ∷ latitude_row 40 o ∷ longitude_row 44 o ∷ []
coordinate_rows Broadcast o = latitude_row 28 o ∷ longitude_row 32 o ∷ latitude_row 40 o ∷ longitude_row 44 o ∷ []
coordinate_rows SingleHop o = latitude_row 24 o ∷ longitude_row 28 o ∷ []
coordinate_rows MultiHop o = latitude_row 28 o ∷ longitude_row 32 o ∷ []

-- the rows that a kind has
abbrev pub kind_rows : Option Kind → List ℕ → List Row
kind_rows None o = []
kind_rows (Some k) o = length_row k o ∷ hop_row k o ∷ lifetime_row o ∷ coordinate_rows k o

-- the rows for some octets, in the order of their numbers
abbrev pub rows : List ℕ → List Row
rows o = size_row o ∷ version_row o ∷ next_header_row o ∷ kind_row o ∷ kind_rows (kind_of (octet 5 o)) o

-- number and place of the first row that fits
abbrev pub first_fitting : List Row → Option (ℕ × ℕ)
first_fitting [] = None
first_fitting (r ∷ rs) = cond r.fits (Some (r.number, r.place)) (first_fitting rs)

-- number and place of an answer's refusal
abbrev pub refusal_in : {X : Type 0} → Result X HeaderFault → Option (ℕ × ℕ)
refusal_in (Ok x) = None
refusal_in (Err f) = Some (header_number f, header_place f)

-- the reader refuses by the first row that fits, and accepts if none does
abbrev pub FirstFitting : Type 0
FirstFitting = (o : List ℕ) → refusal_in (reading o) ≡ first_fitting (rows o)
