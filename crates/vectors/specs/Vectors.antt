-- Position vectors and areas: what their octets say, and the octets that say it. Assumes nothing.
use Rattle.std.specs.Prelude.{◌≡◌, ℕ, ◌+◌, ◌^◌, ◌<◌, List, ◌++◌, length, Ok, Result, refl}
use Rattle.std.proofs.Common.{length-append}
use Rattle.octets.specs.Faults.{and_then, read_at}
use Rattle.octets.specs.Wire.{octets_of}
use Rattle.octets.specs.Widths.{length-octets_of}
use Rattle.octets.specs.declared.fault.OctetFault.{OctetFault}
use Rattle.fields.specs.Positions.{position_at, position_octets}
use Rattle.vectors.specs.declared.area.Area.{Area}
use Rattle.vectors.specs.declared.long.LongPositionVector.{LongPositionVector}
use Rattle.vectors.specs.declared.short.ShortPositionVector.{ShortPositionVector}

-- address 8, timestamp 4, position 8
abbrev pub short_vector_at : ℕ → List ℕ → Result ShortPositionVector OctetFault
short_vector_at at o =
    and_then (read_at 8 at o) (λ address.
    and_then (read_at 4 (at + 8) o) (λ timestamp.
    and_then (position_at (at + 12) o) (λ position.
    Ok (record { address = record { value = address }; timestamp = record { millis = timestamp }; position = position }))))

abbrev pub short_vector_octets : ShortPositionVector → List ℕ
short_vector_octets v = octets_of 8 v.address.value ++ octets_of 4 v.timestamp.millis ++ position_octets v.position

-- short vector 20, motion 2, heading 2
abbrev pub long_vector_at : ℕ → List ℕ → Result LongPositionVector OctetFault
long_vector_at at o =
    and_then (short_vector_at at o) (λ short.
    and_then (read_at 2 (at + 20) o) (λ motion.
    and_then (read_at 2 (at + 22) o) (λ heading.
    Ok (record { short = short; motion = record { bits = motion }; heading = heading }))))

abbrev pub long_vector_octets : LongPositionVector → List ℕ
long_vector_octets v = short_vector_octets v.short ++ octets_of 2 v.motion.bits ++ octets_of 2 v.heading

-- centre 8, radius 2, distance b 2, angle 2, reserved 2
abbrev pub area_at : ℕ → List ℕ → Result Area OctetFault
area_at at o =
    and_then (position_at at o) (λ centre.
    and_then (read_at 2 (at + 8) o) (λ radius.
    and_then (read_at 2 (at + 10) o) (λ distance.
    and_then (read_at 2 (at + 12) o) (λ angle.
    Ok (record { centre = centre; radius = radius; distance_b = distance; angle = angle })))))

abbrev pub area_octets : Area → List ℕ
area_octets a = position_octets a.centre ++ octets_of 2 a.radius ++ octets_of 2 a.distance_b ++ octets_of 2 a.angle ++ octets_of 2 0

-- how many octets they are
pub length-short_vector_octets : (v : ShortPositionVector) → length (short_vector_octets v) ≡ 20
length-short_vector_octets v = simp (length-append, length-octets_of) refl

pub length-long_vector_octets : (v : LongPositionVector) → length (long_vector_octets v) ≡ 24
length-long_vector_octets v = simp (length-append, length-octets_of) refl

pub length-area_octets : (a : Area) → length (area_octets a) ≡ 16
length-area_octets a = simp (length-append, length-octets_of) refl

-- the numbers in a record fit the integers that hold them, as those of every value of the program do
pub record ShortFits (v : ShortPositionVector) : Type 0 where
  pub address : v.address.value < 256 ^ 8
  pub timestamp : v.timestamp.millis < 256 ^ 4

pub record LongFits (v : LongPositionVector) : Type 0 where
  pub short : ShortFits v.short
  pub motion : v.motion.bits < 256 ^ 2
  pub heading : v.heading < 256 ^ 2

pub record CircleFits (a : Area) : Type 0 where
  pub radius : a.radius < 256 ^ 2
  pub distance : a.distance_b < 256 ^ 2
  pub angle : a.angle < 256 ^ 2
