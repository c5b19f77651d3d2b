-- The rows of the coordinates, where there is room for what is read. Assumes nothing.
use Rattle.std.proofs.Common.{◌≡◌, ℕ, ◌+◌, ◌≤◌, Bool, true, false, cond, ltb, List, [], ◌∷◌, ◌++◌, length, ℤ, nat_abs, Some, None, Ok, Err, refl, arith}
use Rattle.std.proofs.lemmas.Bool.{le-ltb}
use Rattle.octets.specs.Faults.{read_at, coordinate_at}
use Rattle.octets.specs.Wire.{field_at, signed}
use Rattle.octets.specs.declared.fault.OctetFault.TheVariants.{OutOfRange}
use Rattle.fields.specs.Positions.{position_at}
use Rattle.vectors.specs.Vectors.{short_vector_at, long_vector_at, area_at}
use Rattle.packets.specs.Kinds.{headers_of}
use Rattle.packets.specs.Reading.{beacon_at, unicast_at, area_header_at, single_hop_at, multi_hop_at, header_at}
use Rattle.packets.specs.declared.common.CommonHeader.{CommonHeader}
use Rattle.packets.specs.declared.kind.Kind.{Kind}
use Rattle.packets.specs.declared.kind.Kind.TheVariants.{Beacon, Unicast, Anycast, Broadcast, SingleHop, MultiHop}
use Rattle.refusals.proofs.Steps.{octet_refusal, then_rows}
use Rattle.refusals.specs.Table.{Row, first_fitting, coordinate_row, latitude_row, longitude_row, coordinate_rows}

-- the two rows of a position
abbrev pub position_rows : ℕ → List ℕ → List Row
position_rows at o = latitude_row at o ∷ longitude_row (at + 4) o ∷ []

-- a number is read with no refusal
number-rows : (w at : ℕ) (o : List ℕ) → at + w ≤ length o → octet_refusal (read_at w at o) ≡ None
number-rows w at o h = rw (le-ltb (length o) (at + w) h)

range_row : (b : Bool) (at : ℕ) (z : ℤ) → octet_refusal (cond b (Err (OutOfRange at)) (Ok z)) ≡ cond b (Some (9, at)) None
range_row true at z = refl
range_row false at z = refl

coordinate_rows_lem : (limit at : ℕ) (o : List ℕ) → at + 4 ≤ length o → octet_refusal (coordinate_at limit at o) ≡ first_fitting (coordinate_row limit at o ∷ [])
coordinate_rows_lem limit at o h = rw (le-ltb (length o) (at + 4) h) (range_row (ltb limit (nat_abs (signed 31 (field_at 4 at o)))) at (signed 31 (field_at 4 at o)))

position_rows_lem : (at : ℕ) (o : List ℕ) → at + 8 ≤ length o → octet_refusal (position_at at o) ≡ first_fitting (position_rows at o)
position_rows_lem at o h =
    then_rows (coordinate_at 900000000 at o) (λ x. _) (latitude_row at o ∷ []) (longitude_row (at + 4) o ∷ []) (coordinate_rows_lem 900000000 at o (omega arith)) (λ x.
    then_rows (coordinate_at 1800000000 (at + 4) o) (λ y. _) (longitude_row (at + 4) o ∷ []) [] (coordinate_rows_lem 1800000000 (at + 4) o (omega arith)) (λ y. refl))

short_rows : (at : ℕ) (o : List ℕ) → at + 20 ≤ length o → octet_refusal (short_vector_at at o) ≡ first_fitting (position_rows (at + 12) o)
short_rows at o h =
    let rs = position_rows (at + 12) o in
    then_rows (read_at 8 at o) (λ x. _) [] rs (number-rows 8 at o (omega arith)) (λ x.
    then_rows (read_at 4 (at + 8) o) (λ y. _) [] rs (number-rows 4 (at + 8) o (omega arith)) (λ y.
    then_rows (position_at (at + 12) o) (λ z. _) rs [] (position_rows_lem (at + 12) o (omega arith)) (λ z. refl)))

long_rows : (at : ℕ) (o : List ℕ) → at + 24 ≤ length o → octet_refusal (long_vector_at at o) ≡ first_fitting (position_rows (at + 12) o)
long_rows at o h =
    then_rows (short_vector_at at o) (λ x. _) (position_rows (at + 12) o) [] (short_rows at o (omega arith)) (λ x.
    then_rows (read_at 2 (at + 20) o) (λ y. _) [] [] (number-rows 2 (at + 20) o (omega arith)) (λ y.
    then_rows (read_at 2 (at + 22) o) (λ z. _) [] [] (number-rows 2 (at + 22) o (omega arith)) (λ z. refl)))

area_rows : (at : ℕ) (o : List ℕ) → at + 16 ≤ length o → octet_refusal (area_at at o) ≡ first_fitting (position_rows at o)
area_rows at o h =
    then_rows (position_at at o) (λ x. _) (position_rows at o) [] (position_rows_lem at o (omega arith)) (λ x.
    then_rows (read_at 2 (at + 8) o) (λ y. _) [] [] (number-rows 2 (at + 8) o (omega arith)) (λ y.
    then_rows (read_at 2 (at + 10) o) (λ z. _) [] [] (number-rows 2 (at + 10) o (omega arith)) (λ z.
    then_rows (read_at 2 (at + 12) o) (λ w. _) [] [] (number-rows 2 (at + 12) o (omega arith)) (λ w. refl))))

area_header_rows : (c : CommonHeader) (o : List ℕ) → 56 ≤ length o → octet_refusal (area_header_at c o) ≡ first_fitting (position_rows 28 o ++ position_rows 40 o)
area_header_rows c o h =
    then_rows (read_at 2 12 o) (λ n. _) [] (position_rows 28 o ++ position_rows 40 o) (number-rows 2 12 o (omega arith)) (λ n.
    then_rows (long_vector_at 16 o) (λ v. _) (position_rows 28 o) (position_rows 40 o) (long_rows 16 o (omega arith)) (λ v.
    then_rows (area_at 40 o) (λ a. _) (position_rows 40 o) [] (area_rows 40 o (omega arith)) (λ a. refl)))

-- the rows of a kind
pub header_rows : (k : Kind) (c : CommonHeader) (o : List ℕ) → headers_of k ≤ length o → octet_refusal (header_at k c o) ≡ first_fitting (coordinate_rows k o)
header_rows Beacon c o h =
    then_rows (beacon_at c o) (λ x. _) (position_rows 24 o) []
    (then_rows (long_vector_at 12 o) (λ v. _) (position_rows 24 o) [] (long_rows 12 o (omega arith)) (λ v. refl))
    (λ x. refl)
header_rows Unicast c o h =
    let rs = position_rows 28 o ++ position_rows 52 o in
    then_rows (unicast_at c o) (λ x. _) rs []
    (then_rows (read_at 2 12 o) (λ n. _) [] rs (number-rows 2 12 o (omega arith)) (λ n.
    then_rows (long_vector_at 16 o) (λ v. _) (position_rows 28 o) (position_rows 52 o) (long_rows 16 o (omega arith)) (λ v.
    then_rows (short_vector_at 40 o) (λ d. _) (position_rows 52 o) [] (short_rows 40 o (omega arith)) (λ d. refl))))
    (λ x. refl)
header_rows Anycast c o h = then_rows (area_header_at c o) (λ x. _) (position_rows 28 o ++ position_rows 40 o) [] (area_header_rows c o h) (λ x. refl)
header_rows Broadcast c o h = then_rows (area_header_at c o) (λ x. _) (position_rows 28 o ++ position_rows 40 o) [] (area_header_rows c o h) (λ x. refl)
header_rows SingleHop c o h =
    then_rows (single_hop_at c o) (λ x. _) (position_rows 24 o) []
    (then_rows (long_vector_at 12 o) (λ v. _) (position_rows 24 o) [] (long_rows 12 o (omega arith)) (λ v.
    then_rows (read_at 4 36 o) (λ m. _) [] [] (number-rows 4 36 o (omega arith)) (λ m. refl)))
    (λ x. refl)
header_rows MultiHop c o h =
    then_rows (multi_hop_at c o) (λ x. _) (position_rows 28 o) []
    (then_rows (read_at 2 12 o) (λ n. _) [] (position_rows 28 o) (number-rows 2 12 o (omega arith)) (λ n.
    then_rows (long_vector_at 16 o) (λ v. _) (position_rows 28 o) [] (long_rows 16 o (omega arith)) (λ v. refl)))
    (λ x. refl)
