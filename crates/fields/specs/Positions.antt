-- Positions, and which of them are on the earth. Assumes nothing.
use Rattle.std.specs.Prelude.{◌≡◌, ℕ, ◌+◌, Bool, ◌&&◌, List, ◌++◌, length, Ok, Result, nat_le, unsigned_abs, refl}
use Rattle.std.proofs.Common.{length-append}
use Rattle.octets.specs.Faults.{and_then, coordinate_at}
use Rattle.octets.specs.Wire.{octets_of, unsigned}
use Rattle.octets.specs.Widths.{length-octets_of}
use Rattle.octets.specs.declared.fault.OctetFault.{OctetFault}
use Rattle.fields.specs.declared.position.Position.{Position}

-- both coordinates are within their range
abbrev pub on_earth : Position → Bool
on_earth p = nat_le (unsigned_abs p.latitude) 900000000 && nat_le (unsigned_abs p.longitude) 1800000000

-- the latitude at a place and the longitude behind it; the first that is missing or out of range is the fault
abbrev pub position_at : ℕ → List ℕ → Result Position OctetFault
position_at at octets =
    and_then (coordinate_at 900000000 at octets) (λ latitude.
    and_then (coordinate_at 1800000000 (at + 4) octets) (λ longitude.
    Ok (record { latitude = latitude; longitude = longitude })))

-- the eight octets of a position
abbrev pub position_octets : Position → List ℕ
position_octets p = octets_of 4 (unsigned 31 p.latitude) ++ octets_of 4 (unsigned 31 p.longitude)

-- they are eight
pub length-position_octets : (p : Position) → length (position_octets p) ≡ 8
length-position_octets p = simp (length-append, length-octets_of) refl
