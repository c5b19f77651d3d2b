-- What was written is read. Assumes nothing.
use Rattle.std.proofs.Common.{◌≡◌, ℕ, ◌+◌, ◌-◌, ◌^◌, ◌<◌, ◌≤◌, true, leb, List, ◌++◌, length, ℤ, nat_abs, Ok, refl, arith, lit<}
use lib.Signed.{mag}
use Rattle.std.proofs.lemmas.Bool.{le-ltb, leb-true, and_parts}
use Rattle.octets.proofs.Signs.{signed-unsigned, unsigned_small, mag_small}
use Rattle.octets.specs.Widths.{length-octets_of}
use Rattle.octets.specs.Faults.{coordinate_at}
use Rattle.octets.specs.Wire.{octets_of, unsigned}
use Rattle.fields.specs.Positions.{on_earth, position_at, position_octets, length-position_octets}
use Rattle.fields.specs.declared.position.Position.{Position}
use Rattle.vectors.specs.Vectors.{length-short_vector_octets, length-long_vector_octets, short_vector_at, short_vector_octets, long_vector_at, long_vector_octets, area_at, area_octets}
use Rattle.vectors.specs.declared.area.Area.{Area}
use Rattle.vectors.specs.declared.long.LongPositionVector.{LongPositionVector}
use Rattle.vectors.specs.declared.short.ShortPositionVector.{ShortPositionVector}
use Rattle.packets.specs.Contents.{Header, beacon, unicast, anycast, broadcast, single_hop, multi_hop, kind_in, common_in, source_in}
use Rattle.packets.specs.Kinds.{headers_of}
use Rattle.packets.specs.Reading.{header_at, area_header_at}
use Rattle.packets.specs.Writing.{extended_octets, area_header_octets, target_fits}
use Rattle.packets.specs.declared.headers.AreaHeader.{AreaHeader}
use Rattle.roundtrip.proofs.Stands.{Stands, two_parts, three_parts, four_parts, number_read}
use Rattle.packets.specs.Fitting.{AreaFits, Fits}
use Rattle.vectors.specs.Vectors.{ShortFits, LongFits}

coordinate_read : (limit at : ℕ) (z : ℤ) (o : List ℕ) → limit < 2 ^ 31 → nat_abs z ≤ limit → Stands 4 at (octets_of 4 (unsigned 31 z)) o → coordinate_at limit at o ≡ Ok z
coordinate_read limit at z o l h s =
    let k = mag_small z limit h in
    let small : mag z < 2 ^ 31 = omega arith in
    let r = number_read 4 at (unsigned 31 z) o (unsigned_small 31 z small) s in
    rw (r, signed-unsigned 31 z small, le-ltb limit (nat_abs z) h)

-- the area but for its reserved octets
pub fields_long : (a : Area) → length (position_octets a.centre ++ octets_of 2 a.radius ++ octets_of 2 a.distance_b ++ octets_of 2 a.angle) ≡ 14
unfolding octets_of
fields_long a = refl

position_read : (at : ℕ) (p : Position) (o : List ℕ) → on_earth p ≡ true → Stands 8 at (position_octets p) o → position_at at o ≡ Ok p
position_read at p o h s =
    let legal = and_parts (leb (nat_abs p.latitude) 900000000) (leb (nat_abs p.longitude) 1800000000) h in
    let at_each = two_parts 4 4 at (octets_of 4 (unsigned 31 p.latitude)) (octets_of 4 (unsigned 31 p.longitude)) o (length-octets_of 4 _) s in
    rw (coordinate_read 900000000 at p.latitude o (lit< tt) (leb-true _ _ legal.0) at_each.0, coordinate_read 1800000000 (at + 4) p.longitude o (lit< tt) (leb-true _ _ legal.1) at_each.1)

short_read : (at : ℕ) (v : ShortPositionVector) (o : List ℕ) → ShortFits v → on_earth v.position ≡ true → Stands 20 at (short_vector_octets v) o → short_vector_at at o ≡ Ok v
short_read at v o f h s =
    let each = three_parts 8 4 8 at (octets_of 8 v.address.value) (octets_of 4 v.timestamp.millis) (position_octets v.position) o (length-octets_of 8 _) (length-octets_of 4 _) s in
    rw (number_read 8 at v.address.value o f.address each.0, number_read 4 (at + 8) v.timestamp.millis o f.timestamp each.1, position_read (at + 12) v.position o h each.2)

long_read : (at : ℕ) (v : LongPositionVector) (o : List ℕ) → LongFits v → on_earth v.short.position ≡ true → Stands 24 at (long_vector_octets v) o → long_vector_at at o ≡ Ok v
long_read at v o f h s =
    let each = three_parts 20 2 2 at (short_vector_octets v.short) (octets_of 2 v.motion.bits) (octets_of 2 v.heading) o (length-short_vector_octets v.short) (length-octets_of 2 _) s in
    rw (short_read at v.short o f.short h each.0, number_read 2 (at + 20) v.motion.bits o f.motion each.1, number_read 2 (at + 22) v.heading o f.heading each.2)

area_read : (at : ℕ) (h : AreaHeader) (o : List ℕ) → AreaFits h → on_earth h.area.centre ≡ true → Stands 16 at (area_octets h.area) o → area_at at o ≡ Ok h.area
area_read at h o f e s =
    let a = h.area in
    let outer = two_parts 14 2 at (position_octets a.centre ++ octets_of 2 a.radius ++ octets_of 2 a.distance_b ++ octets_of 2 a.angle) (octets_of 2 0) o (fields_long a) s in
    let each = four_parts 8 2 2 2 at (position_octets a.centre) (octets_of 2 a.radius) (octets_of 2 a.distance_b) (octets_of 2 a.angle) o (length-position_octets a.centre) (length-octets_of 2 _) (length-octets_of 2 _) outer.0 in
    rw (position_read at a.centre o e each.0, number_read 2 (at + 8) a.radius o f.radius each.1, number_read 2 (at + 10) a.distance_b o f.distance each.2, number_read 2 (at + 12) a.angle o f.angle each.3)

-- both area kinds
area_header_read : (h : AreaHeader) (o : List ℕ) → AreaFits h → on_earth h.source.short.position ≡ true → on_earth h.area.centre ≡ true → Stands 44 12 (area_header_octets h) o → area_header_at h.common o ≡ Ok h
area_header_read h o f e g s =
    let each = four_parts 2 2 24 16 12 (octets_of 2 h.number.value) (octets_of 2 0) (long_vector_octets h.source) (area_octets h.area) o (length-octets_of 2 _) (length-octets_of 2 0) (length-long_vector_octets h.source) s in
    rw (number_read 2 12 h.number.value o f.number each.0, long_read 16 h.source o f.source e each.2, area_read 40 h o f g each.3)

-- the record of a kind
pub header_read : (h : Header) (o : List ℕ) → Fits h → on_earth (source_in h).short.position ≡ true → target_fits h ≡ true → Stands (headers_of (kind_in h) - 12) 12 (extended_octets h) o → header_at (kind_in h) (common_in h) o ≡ Ok h
header_read (beacon h) o f e g s = rw (long_read 12 h.source o f e s)
header_read (unicast h) o f e g s =
    let each = four_parts 2 2 24 20 12 (octets_of 2 h.number.value) (octets_of 2 0) (long_vector_octets h.source) (short_vector_octets h.destination) o (length-octets_of 2 _) (length-octets_of 2 0) (length-long_vector_octets h.source) s in
    rw (number_read 2 12 h.number.value o f.0 each.0, long_read 16 h.source o f.1 e each.2, short_read 40 h.destination o f.2 g each.3)
header_read (anycast h) o f e g s = rw (area_header_read h o f e g s)
header_read (broadcast h) o f e g s = rw (area_header_read h o f e g s)
header_read (single_hop h) o f e g s =
    let each = two_parts 24 4 12 (long_vector_octets h.source) (octets_of 4 h.media) o (length-long_vector_octets h.source) s in
    rw (long_read 12 h.source o f.0 e each.0, number_read 4 36 h.media o f.1 each.1)
header_read (multi_hop h) o f e g s =
    let each = three_parts 2 2 24 12 (octets_of 2 h.number.value) (octets_of 2 0) (long_vector_octets h.source) o (length-octets_of 2 _) (length-octets_of 2 0) s in
    rw (number_read 2 12 h.number.value o f.0 each.0, long_read 16 h.source o f.1 e each.2)
