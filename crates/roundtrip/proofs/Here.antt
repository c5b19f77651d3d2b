-- What was read stands where it was read. Assumes nothing.
use Rattle.std.proofs.Common.{◌≡◌, ℕ, ◌+◌, ◌^◌, ◌<◌, ◌≤◌, true, ltb, leb, List, length, get_or, ℤ, nat_abs, IfOk, Ok, refl, arith}
use Rattle.std.proofs.lemmas.Bool.{ltb-false, le-leb, and_from}
use Rattle.octets.proofs.Signs.{unsigned_signed}
use Rattle.octets.proofs.Width.{field_small}
use Rattle.octets.specs.Faults.{room_at, read_at, signed_at, coordinate_at}
use Rattle.octets.specs.Wire.{field_at, octets_of, signed, unsigned}
use Rattle.octets.specs.declared.fault.OctetFault.TheVariants.{Missing, OutOfRange}
use Rattle.fields.specs.Positions.{on_earth, position_at, position_octets}
use Rattle.fields.specs.declared.position.Position.{Position}
use Rattle.vectors.specs.Vectors.{short_vector_at, short_vector_octets, long_vector_at, long_vector_octets, area_at, area_octets}
use Rattle.vectors.specs.declared.area.Area.{Area}
use Rattle.vectors.specs.declared.long.LongPositionVector.{LongPositionVector}
use Rattle.vectors.specs.declared.short.ShortPositionVector.{ShortPositionVector}
use Rattle.roundtrip.proofs.Made.{made_then, made_check}
use Rattle.roundtrip.proofs.Stands.{Stands, both_parts, number_stands}

-- all octets are octets
abbrev pub Octets : List ℕ → Type 0
Octets o = (i : ℕ) → get_or o i 0 < 256

-- a number that was read stands there
pub number_here : (w at : ℕ) (o : List ℕ) → Octets o → IfOk (read_at w at o) (λ n. (n ≡ field_at w at o) × Stands w at (octets_of w n) o)
number_here w at o u =
    let P : ℕ → Type 0 = λ n. (n ≡ field_at w at o) × Stands w at (octets_of w n) o in
    made_then (room_at w at o) (λ _. Ok (field_at w at o)) (λ _. at + w ≤ length o) P
    (made_check (ltb (length o) (at + w)) (Missing at) (Ok tt) (λ _. at + w ≤ length o) (λ e. ltb-false (length o) (at + w) e))
    (λ _ room. (refl, number_stands w at o u room))

pub coordinate_here : (limit at : ℕ) (o : List ℕ) → Octets o → IfOk (coordinate_at limit at o) (λ z. (nat_abs z ≤ limit) × Stands 4 at (octets_of 4 (unsigned 31 z)) o)
coordinate_here limit at o u =
    let P : ℤ → Type 0 = λ z. Stands 4 at (octets_of 4 (unsigned 31 z)) o in
    let Q : ℤ → Type 0 = λ z. (nat_abs z ≤ limit) × Stands 4 at (octets_of 4 (unsigned 31 z)) o in
    made_then (signed_at at o) (λ z. _) P Q
    (made_then (read_at 4 at o) (λ n. Ok (signed 31 n)) (λ n. (n ≡ field_at 4 at o) × Stands 4 at (octets_of 4 n) o) P (number_here 4 at o u)
    (λ n s.
    let small : n < 2 ^ 31 + 2 ^ 31 = rw s.0 (field_small 4 at o s.1.room u) in
    rw (unsigned_signed 31 n small) s.1))
    (λ z s. made_check (ltb limit (nat_abs z)) (OutOfRange at) (Ok z) Q (λ e. (ltb-false limit (nat_abs z) e, s)))

pub position_here : (at : ℕ) (o : List ℕ) → Octets o → IfOk (position_at at o) (λ p. (on_earth p ≡ true) × Stands 8 at (position_octets p) o)
position_here at o u =
    let Q : Position → Type 0 = λ p. (on_earth p ≡ true) × Stands 8 at (position_octets p) o in
    made_then (coordinate_at 900000000 at o) (λ lat. _) _ Q (coordinate_here 900000000 at o u) (λ lat a.
    made_then (coordinate_at 1800000000 (at + 4) o) (λ lon. _) _ Q (coordinate_here 1800000000 (at + 4) o u) (λ lon b.
    (and_from (leb (nat_abs lat) 900000000) (leb (nat_abs lon) 1800000000) (le-leb _ _ a.0) (le-leb _ _ b.0), both_parts 4 4 at (at + 4) 8 _ _ o refl refl a.1 b.1)))

pub short_here : (at : ℕ) (o : List ℕ) → Octets o → IfOk (short_vector_at at o) (λ v. (on_earth v.position ≡ true) × Stands 20 at (short_vector_octets v) o)
short_here at o u =
    let Q : ShortPositionVector → Type 0 = λ v. (on_earth v.position ≡ true) × Stands 20 at (short_vector_octets v) o in
    made_then (read_at 8 at o) (λ a. _) _ Q (number_here 8 at o u) (λ a x.
    made_then (read_at 4 (at + 8) o) (λ t. _) _ Q (number_here 4 (at + 8) o u) (λ t y.
    made_then (position_at (at + 12) o) (λ p. _) _ Q (position_here (at + 12) o u) (λ p z.
    (z.0, both_parts 12 8 at (at + 12) 20 _ _ o refl refl (both_parts 8 4 at (at + 8) 12 _ _ o refl refl x.1 y.1) z.1))))

pub long_here : (at : ℕ) (o : List ℕ) → Octets o → IfOk (long_vector_at at o) (λ v. (on_earth v.short.position ≡ true) × Stands 24 at (long_vector_octets v) o)
long_here at o u =
    let Q : LongPositionVector → Type 0 = λ v. (on_earth v.short.position ≡ true) × Stands 24 at (long_vector_octets v) o in
    made_then (short_vector_at at o) (λ s. _) _ Q (short_here at o u) (λ s x.
    made_then (read_at 2 (at + 20) o) (λ m. _) _ Q (number_here 2 (at + 20) o u) (λ m y.
    made_then (read_at 2 (at + 22) o) (λ h. _) _ Q (number_here 2 (at + 22) o u) (λ h z.
    (x.0, both_parts 22 2 at (at + 22) 24 _ _ o refl refl (both_parts 20 2 at (at + 20) 22 _ _ o refl refl x.1 y.1) z.1))))

-- an area, if its reserved octets are there and 0
pub area_here : (at : ℕ) (o : List ℕ) → Octets o → IfOk (area_at at o) (λ a. (on_earth a.centre ≡ true) × (at + 16 ≤ length o → field_at 2 (at + 14) o ≡ 0 → Stands 16 at (area_octets a) o))
area_here at o u =
    let Q : Area → Type 0 = λ a. (on_earth a.centre ≡ true) × (at + 16 ≤ length o → field_at 2 (at + 14) o ≡ 0 → Stands 16 at (area_octets a) o) in
    made_then (position_at at o) (λ p. _) _ Q (position_here at o u) (λ p x.
    made_then (read_at 2 (at + 8) o) (λ r. _) _ Q (number_here 2 (at + 8) o u) (λ r y.
    made_then (read_at 2 (at + 10) o) (λ b. _) _ Q (number_here 2 (at + 10) o u) (λ b z.
    made_then (read_at 2 (at + 12) o) (λ g. _) _ Q (number_here 2 (at + 12) o u) (λ g w. (
      x.0,
      λ room clear.
          let last : Stands 2 (at + 14) (octets_of 2 0) o = rw clear at (number_stands 2 (at + 14) o u (omega arith)) in
          both_parts 14 2 at (at + 14) 16 _ _ o refl refl (both_parts 12 2 at (at + 12) 14 _ _ o refl refl (both_parts 10 2 at (at + 10) 12 _ _ o refl refl (both_parts 8 2 at (at + 8) 10 _ _ o refl refl x.1 y.1) z.1) w.1) last,
    )))))
