-- The reader answers the first row that fits. Assumes nothing.
use Rattle.std.proofs.Common.{◌≡◌, ℕ, ◌+◌, ◌/◌, ◌%◌, Bool, cond, not, ◌&&◌, ◌||◌, eqb, ltb, leb, List, ◌∷◌, length, drop, is_some, Some, None, Ok, Err, Option, Result, refl, ◌∙◌, arith}
use Rattle.std.proofs.lemmas.Bool.{eqb-true, not-false, or_parts}
use Rattle.std.proofs.lemmas.Bool.Decides.{nat_tests}
use Rattle.std.specs.Option.{ok_or}
use Rattle.octets.specs.Faults.{and_then}
use Rattle.packets.specs.Common.{octet, common_of, hop_limits_fit, lifetime_fits}
use Rattle.packets.specs.Contents.{Content}
use Rattle.packets.specs.Faults.{passed}
use Rattle.packets.specs.Kinds.{kind_of, headers_of, payload_limit, one_hop}
use Rattle.packets.specs.Reading.{lengths, limits, payload_length, header_at}
use Rattle.packets.specs.declared.fault.HeaderFault.{HeaderFault}
use Rattle.packets.specs.declared.fault.HeaderFault.TheVariants.{Version, NextHeader, UnknownKind, PayloadLength, HopLimit, Lifetime}
use Rattle.packets.specs.declared.kind.Kind.{Kind}
use Rattle.packets.specs.declared.kind.Kind.TheVariants.{Beacon, Unicast, Anycast, Broadcast, SingleHop, MultiHop}
use Rattle.refusals.proofs.Coordinates.{header_rows}
use Rattle.refusals.proofs.Steps.{passed_up, check_row, size_row_lem}
use Rattle.refusals.specs.Table.{is_beacon, version_row, next_header_row, kind_row, length_row, hop_row, lifetime_row, coordinate_rows, kind_rows, first_fitting, refusal_in, FirstFitting}

-- the three conditions on the lengths are the reader's two
length_same : (k : Kind) (a : Bool) (n : ℕ) → (a || (ltb 1398 n || (is_beacon k && ltb 0 n))) ≡ (a || ltb (payload_limit k) n)
length_same Beacon a n = grind (arith, nat_tests)
length_same Unicast a n = grind (arith, nat_tests)
length_same Anycast a n = grind (arith, nat_tests)
length_same Broadcast a n = grind (arith, nat_tests)
length_same SingleHop a n = grind (arith, nat_tests)
length_same MultiHop a n = grind (arith, nat_tests)

-- the three conditions on the hop limits are the reader's
hop_same : (h : Bool) (r m : ℕ) → (eqb r 0 || (ltb m r || (h && not (eqb r 1)))) ≡ not (leb 1 r && (leb r m && (not h || eqb r 1)))
hop_same h r m = grind (arith, nat_tests)

lifetime_same : (n : ℕ) → eqb (n / 4) 0 ≡ not (leb 4 n)
lifetime_same n = grind (arith, nat_tests)

-- what the reader does once it knows the kind
abbrev pub of_kind : List ℕ → Kind → Result Content HeaderFault
of_kind o k =
    and_then (lengths k o) (λ _.
    and_then (limits k (common_of o)) (λ _.
    and_then (passed (header_at k (common_of o) o)) (λ h.
    Ok (record { header = h; payload = drop (headers_of k) o }))))

of_kind_lem : (k : Kind) (o : List ℕ) → refusal_in (of_kind o k) ≡ first_fitting (kind_rows (Some k) o)
of_kind_lem k o =
    let n = payload_length o in
    let a = not (eqb (length o) (headers_of k + n)) in
    let hops = not (hop_limits_fit k (common_of o)) in
    let lives = not (lifetime_fits (common_of o)) in
    check_row (a || ltb (payload_limit k) n) (length_row k o).fits PayloadLength (Ok tt) (λ _. _) (hop_row k o ∷ lifetime_row o ∷ coordinate_rows k o) (length_same k a n) (λ e.
    let whole : length o ≡ headers_of k + n = eqb-true (length o) (headers_of k + n) (not-false _ (or_parts a (ltb (payload_limit k) n) e).0) in
    check_row hops (hop_row k o).fits HopLimit (cond lives (Err Lifetime) (Ok tt)) (λ _. _) (lifetime_row o ∷ coordinate_rows k o) (hop_same (one_hop k) (octet 3 o) (octet 10 o)) (λ _.
    check_row lives (lifetime_row o).fits Lifetime (Ok tt) (λ _. _) (coordinate_rows k o) (lifetime_same (octet 2 o)) (λ _.
    passed_up (header_at k (common_of o) o) (λ h. record { header = h; payload = drop (headers_of k) o }) ∙ header_rows k (common_of o) o (omega arith))))

known_kind : (q : Option Kind) (o : List ℕ) → refusal_in (and_then (ok_or q UnknownKind) (of_kind o)) ≡ first_fitting (record { number = 5; place = 5; fits = not (is_some q) } ∷ kind_rows q o)
known_kind None o = refl
known_kind (Some k) o = of_kind_lem k o

pub first_fitting_lem : FirstFitting
first_fitting_lem o =
    let version = not (eqb (octet 0 o / 16) 1) in
    let next = not (eqb (octet 0 o % 16) 1) in
    let kind = ok_or (kind_of (octet 5 o)) UnknownKind in
    let rest = kind_row o ∷ kind_rows (kind_of (octet 5 o)) o in
    size_row_lem (ltb (length o) 12) (ltb 1458 (length o)) (cond version (Err Version) (cond next (Err NextHeader) kind)) (of_kind o) (version_row o ∷ next_header_row o ∷ rest)
    (check_row version version Version (cond next (Err NextHeader) kind) (of_kind o) (next_header_row o ∷ rest) refl (λ _.
    check_row next next NextHeader kind (of_kind o) rest refl (λ _.
    known_kind (kind_of (octet 5 o)) o)))
