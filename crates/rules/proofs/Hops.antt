-- What a hop and a wait change of a packet, and what they leave. Assumes nothing.
use Rattle.std.proofs.Common.{◌≡◌, ℕ, ◌+◌, ◌-◌, ◌/◌, ◌%◌, ◌<◌, ◌≤◌, min, Bool, true, false, cond, not, eqb, ltb, List, ◌++◌, length, get_or, take, drop, set, nat_abs, Some, None, Ok, Err, Option, Result, sym, refl, ap, ◌∙◌, arith}
use Rattle.std.specs.Int.Digits.{number_from_digits as number}
use Rattle.std.proofs.lemmas.List.{get_or-set_same, get_or-set_other, get_or_append_left, get_or-take, length-take, length-set, drop-set-lt}
use Rattle.std.proofs.lemmas.Bool.{and_parts, leb-true, ltb-false}
use Rattle.std.specs.Option.{ok_or}
use Rattle.octets.specs.Faults.{and_then, room_at, read_at, coordinate_at}
use Rattle.octets.specs.Wire.{signed, placed}
use Rattle.octets.specs.declared.fault.OctetFault.{OctetFault}
use Rattle.octets.specs.declared.fault.OctetFault.TheVariants.{Missing, OutOfRange}
use Rattle.fields.specs.Positions.{position_at}
use Rattle.times.specs.Timestamps.{newer}
use Rattle.vectors.specs.Vectors.{short_vector_at, long_vector_at, area_at, short_vector_octets}
use Rattle.vectors.specs.declared.short.ShortPositionVector.{ShortPositionVector}
use Rattle.packets.specs.Common.{octet, common_of, hop_limits_fit, lifetime_fits}
use Rattle.packets.specs.Contents.{Header, Content, beacon, unicast, anycast, broadcast, single_hop, multi_hop, source_in}
use Rattle.packets.specs.Faults.{passed}
use Rattle.packets.specs.Kinds.{kind_of}
use Rattle.packets.specs.Reading.{framing, lengths, limits, header_at, reading}
use Rattle.packets.specs.declared.common.CommonHeader.{CommonHeader}
use Rattle.packets.specs.declared.fault.HeaderFault.{HeaderFault}
use Rattle.packets.specs.declared.kind.Kind.{Kind}
use Rattle.packets.specs.declared.kind.Kind.TheVariants.{Beacon, Unicast, Anycast, Broadcast, SingleHop, MultiHop}
use Rattle.location_table.specs.Stations.{Station}
use Rattle.rules.specs.Packets.{in_result, header_as, header_of, given, no_vector, vector_of, number_of, number_in, destination_of, destination_in, area_of, area_in, target_of, target_between, hops_of, packet_lifetime, lowered, redirected, passed_on}
use Rattle.rules.specs.Rules.{reader_fault, passed_up}

-- an answer that came through was right at each turn
err_not_ok : {X E : Type 0} (f : E) (x : X) → Err f ≡ Ok x → ⊥
err_not_ok f x e = let z : ◌≡◌ {A = ℕ} 0 1 = cc in omega arith

record Through {X Y E : Type 0} (r : Result X E) (f : X → Result Y E) (y : Y) : Type 0 where
  pub value : X
  pub first : r ≡ Ok value
  pub then : f value ≡ Ok y

through : {X Y E : Type 0} (r : Result X E) (f : X → Result Y E) (y : Y) → and_then r f ≡ Ok y → Through r f y
through (Ok x) f y e = record { value = x; first = refl; then = e }
through (Err g) f y e = absurd (err_not_ok g y e)

unless_false : {X E : Type 0} (b : Bool) (f : E) (r : Result X E) (y : X) → cond b (Err f) r ≡ Ok y → (b ≡ false) × (r ≡ Ok y)
unless_false true f r y e = absurd (err_not_ok f y e)
unless_false false f r y e = (refl, e)

not_false : (b : Bool) → not b ≡ false → b ≡ true
not_false true e = refl
not_false false e = sym e

-- what the reader has made sure of
pub record Readable (o : List ℕ) : Type 0 where
  pub long : 12 ≤ length o
  pub hops : 1 ≤ hops_of o
  pub lives : 4 ≤ packet_lifetime o

passed_ok : {X : Type 0} (r : Result X OctetFault) (x : X) → passed r ≡ Ok x → r ≡ Ok x
passed_ok (Ok y) x e = cc
passed_ok (Err f) x e = absurd (err_not_ok _ x e)

read_through : (o : List ℕ) (c : Content) → reading o ≡ Ok c → Readable o
read_through o c e =
    let a = through (framing o) _ c e in
    let b = through (lengths a.value o) _ c a.then in
    let d = through (limits a.value (common_of o)) _ c b.then in
    let f = through (passed (room_at 12 0 o)) _ a.value a.first in
    let l = unless_false (ltb (length o) 12) _ _ f.value (passed_ok (room_at 12 0 o) f.value f.first) in
    let g = unless_false (not (hop_limits_fit a.value (common_of o))) _ _ d.value d.first in
    let k = unless_false (not (lifetime_fits (common_of o))) _ _ d.value g.1 in
    record {
      long = ltb-false _ _ l.0;
      hops = leb-true _ _ (and_parts _ _ (not_false _ g.0)).0;
      lives = leb-true _ _ (not_false _ k.0);
    }

pub readable : (o : List ℕ) → reader_fault o ≡ None → Readable o
readable o e = go (reading o) refl e
  where
    go : (r : Result Content HeaderFault) → reading o ≡ r → passed_up r ≡ None → Readable o
    go (Ok c) q z = read_through o c q
    go (Err f) q z = absurd (let y : ◌≡◌ {A = ℕ} 0 1 = cc in omega arith)

-- octets that agree from octet 12 on are read alike there
pub record Alike (o p : List ℕ) : Type 0 where
  pub long : length p ≡ length o
  pub kind : octet 5 p ≡ octet 5 o
  pub behind : (at : ℕ) → 12 ≤ at → drop at p ≡ drop at o

module _ (o p : List ℕ) (same : Alike o p) where
  read_alike : (w at : ℕ) → 12 ≤ at → read_at w at p ≡ read_at w at o
  read_alike w at h = λ i. and_then (cond (ltb (same.long i) (at + w)) (Err (Missing at)) (Ok tt)) (λ _. Ok (number 256 (take w (same.behind at h i))))

  coordinate-alike : (limit at : ℕ) → 12 ≤ at → coordinate_at limit at p ≡ coordinate_at limit at o
  coordinate-alike limit at h = ap (λ r. and_then (and_then r (λ n. Ok (signed 31 n))) (λ z. cond (ltb limit (nat_abs z)) (Err (OutOfRange at)) (Ok z))) (read_alike 4 at h)

  position-alike : (at : ℕ) → 12 ≤ at → position_at at p ≡ position_at at o
  position-alike at h = λ i.
      and_then (coordinate-alike 900000000 at h i) (λ latitude.
      and_then (coordinate-alike 1800000000 (at + 4) (omega arith) i) (λ longitude.
      Ok (record { latitude = latitude; longitude = longitude })))

  short-alike : (at : ℕ) → 12 ≤ at → short_vector_at at p ≡ short_vector_at at o
  short-alike at h = λ i.
      and_then (read_alike 8 at h i) (λ address.
      and_then (read_alike 4 (at + 8) (omega arith) i) (λ timestamp.
      and_then (position-alike (at + 12) (omega arith) i) (λ position.
      Ok (record { address = record { value = address }; timestamp = record { millis = timestamp }; position = position }))))

  long-alike : (at : ℕ) → 12 ≤ at → long_vector_at at p ≡ long_vector_at at o
  long-alike at h = λ i.
      and_then (short-alike at h i) (λ short.
      and_then (read_alike 2 (at + 20) (omega arith) i) (λ motion.
      and_then (read_alike 2 (at + 22) (omega arith) i) (λ heading.
      Ok (record { short = short; motion = record { bits = motion }; heading = heading }))))

  area-alike : (at : ℕ) → 12 ≤ at → area_at at p ≡ area_at at o
  area-alike at h = λ i.
      and_then (position-alike at h i) (λ centre.
      and_then (read_alike 2 (at + 8) (omega arith) i) (λ radius.
      and_then (read_alike 2 (at + 10) (omega arith) i) (λ distance.
      and_then (read_alike 2 (at + 12) (omega arith) i) (λ angle.
      Ok (record { centre = centre; radius = radius; distance_b = distance; angle = angle })))))

  header-alike : (c : CommonHeader) (k : Kind) → header_at k c p ≡ header_at k c o
  header-alike c Beacon = ap (λ r. and_then (and_then r (λ source. Ok (record { common = c; source = source }))) (λ h. Ok (beacon h))) (long-alike 12 (omega arith))
  header-alike c Unicast = λ i.
      and_then (and_then (read_alike 2 12 (omega arith) i) (λ number. and_then (long-alike 16 (omega arith) i) (λ source. and_then (short-alike 40 (omega arith) i) (λ destination.
      Ok (record { common = c; number = record { value = number }; source = source; destination = destination }))))) (λ h. Ok (unicast h))
  header-alike c Anycast = λ i.
      and_then (and_then (read_alike 2 12 (omega arith) i) (λ number. and_then (long-alike 16 (omega arith) i) (λ source. and_then (area-alike 40 (omega arith) i) (λ area.
      Ok (record { common = c; number = record { value = number }; source = source; area = area }))))) (λ h. Ok (anycast h))
  header-alike c Broadcast = λ i.
      and_then (and_then (read_alike 2 12 (omega arith) i) (λ number. and_then (long-alike 16 (omega arith) i) (λ source. and_then (area-alike 40 (omega arith) i) (λ area.
      Ok (record { common = c; number = record { value = number }; source = source; area = area }))))) (λ h. Ok (broadcast h))
  header-alike c SingleHop = λ i.
      and_then (and_then (long-alike 12 (omega arith) i) (λ source. and_then (read_alike 4 36 (omega arith) i) (λ media.
      Ok (record { common = c; source = source; media = media })))) (λ h. Ok (single_hop h))
  header-alike c MultiHop = λ i.
      and_then (and_then (read_alike 2 12 (omega arith) i) (λ number. and_then (long-alike 16 (omega arith) i) (λ source.
      Ok (record { common = c; number = record { value = number }; source = source })))) (λ h. Ok (multi_hop h))

-- a header with another common header
abbrev recommon : CommonHeader → Header → Header
recommon c (beacon h) = beacon (record { common = c; source = h.source })
recommon c (unicast h) = unicast (record { common = c; number = h.number; source = h.source; destination = h.destination })
recommon c (anycast h) = anycast (record { common = c; number = h.number; source = h.source; area = h.area })
recommon c (broadcast h) = broadcast (record { common = c; number = h.number; source = h.source; area = h.area })
recommon c (single_hop h) = single_hop (record { common = c; source = h.source; media = h.media })
recommon c (multi_hop h) = multi_hop (record { common = c; number = h.number; source = h.source })

then_both : {X Y Z E : Type 0} (r : Result X E) (f g : X → Result Y E) (F : Result Y E → Z) → ((x : X) → F (f x) ≡ F (g x)) → F (and_then r f) ≡ F (and_then r g)
then_both (Ok x) f g F h = h x
then_both (Err e) f g F h = refl

-- what does not look at the common header is the same with any
module _ {Z : Type 0} (F : Result Header OctetFault → Z) (blind : (c : CommonHeader) (h : Header) → F (Ok (recommon c h)) ≡ F (Ok h)) (c d : CommonHeader) (o : List ℕ) where
  blind-header : (k : Kind) → F (header_at k c o) ≡ F (header_at k d o)
  blind-header Beacon = then_both (long_vector_at 12 o) _ _ (λ r. F (and_then r (λ h. Ok (beacon h)))) (λ source. blind c (beacon (record { common = d; source = source })))
  blind-header Unicast =
      then_both (read_at 2 12 o) _ _ (λ r. F (and_then r (λ h. Ok (unicast h)))) (λ number.
      then_both (long_vector_at 16 o) _ _ (λ r. F (and_then r (λ h. Ok (unicast h)))) (λ source.
      then_both (short_vector_at 40 o) _ _ (λ r. F (and_then r (λ h. Ok (unicast h)))) (λ destination.
      blind c (unicast (record { common = d; number = record { value = number }; source = source; destination = destination })))))
  blind-header Anycast =
      then_both (read_at 2 12 o) _ _ (λ r. F (and_then r (λ h. Ok (anycast h)))) (λ number.
      then_both (long_vector_at 16 o) _ _ (λ r. F (and_then r (λ h. Ok (anycast h)))) (λ source.
      then_both (area_at 40 o) _ _ (λ r. F (and_then r (λ h. Ok (anycast h)))) (λ area.
      blind c (anycast (record { common = d; number = record { value = number }; source = source; area = area })))))
  blind-header Broadcast =
      then_both (read_at 2 12 o) _ _ (λ r. F (and_then r (λ h. Ok (broadcast h)))) (λ number.
      then_both (long_vector_at 16 o) _ _ (λ r. F (and_then r (λ h. Ok (broadcast h)))) (λ source.
      then_both (area_at 40 o) _ _ (λ r. F (and_then r (λ h. Ok (broadcast h)))) (λ area.
      blind c (broadcast (record { common = d; number = record { value = number }; source = source; area = area })))))
  blind-header SingleHop =
      then_both (long_vector_at 12 o) _ _ (λ r. F (and_then r (λ h. Ok (single_hop h)))) (λ source.
      then_both (read_at 4 36 o) _ _ (λ r. F (and_then r (λ h. Ok (single_hop h)))) (λ media.
      blind c (single_hop (record { common = d; source = source; media = media }))))
  blind-header MultiHop =
      then_both (read_at 2 12 o) _ _ (λ r. F (and_then r (λ h. Ok (multi_hop h)))) (λ number.
      then_both (long_vector_at 16 o) _ _ (λ r. F (and_then r (λ h. Ok (multi_hop h)))) (λ source.
      blind c (multi_hop (record { common = d; number = record { value = number }; source = source }))))

-- so octets that agree from octet 12 on, and in their kind, tell the same of all but the common header
module _ {Y : Type 0} (y : Y) (f : Header → Y) (blind : (c : CommonHeader) (h : Header) → f (recommon c h) ≡ f h) (o p : List ℕ) (same : Alike o p) where
  as-alike : (k : Option Kind) → given y f (header_as k p) ≡ given y f (header_as k o)
  as-alike None = refl
  as-alike (Some k) =
      ap (λ r. given y f (in_result r)) (header-alike o p same (common_of p) k)
      ∙ blind-header (λ r. given y f (in_result r)) blind (common_of p) (common_of o) o k

  tells_alike : given y f (header_of p) ≡ given y f (header_of o)
  unfolding header_of
  tells_alike = ap (λ k. given y f (header_as (kind_of k) p)) same.kind ∙ as-alike (kind_of (octet 5 o))

-- one octet of the first twelve changed, and not the kind
pub alike_set : (n v : ℕ) (o : List ℕ) → n < 12 → (5 ≡ n → ⊥) → Alike o (set o n v)
alike_set n v o l d = record { long = length-set o n v; kind = get_or-set_other o n 5 v 0 d; behind = λ at h. drop-set-lt at o n v (omega arith) }

module _ (o p : List ℕ) (same : Alike o p) where
  blind-source : (c : CommonHeader) (h : Header) → (source_in (recommon c h)).short ≡ (source_in h).short
  blind-source c (beacon h) = refl
  blind-source c (unicast h) = refl
  blind-source c (anycast h) = refl
  blind-source c (broadcast h) = refl
  blind-source c (single_hop h) = refl
  blind-source c (multi_hop h) = refl

  pub vector-alike : vector_of p ≡ vector_of o
  unfolding vector_of
  vector-alike = tells_alike no_vector (λ h. (source_in h).short) blind-source o p same

  blind-number : (c : CommonHeader) (h : Header) → number_in (recommon c h) ≡ number_in h
  blind-number c (beacon h) = refl
  blind-number c (unicast h) = refl
  blind-number c (anycast h) = refl
  blind-number c (broadcast h) = refl
  blind-number c (single_hop h) = refl
  blind-number c (multi_hop h) = refl

  pub number-alike : number_of p ≡ number_of o
  unfolding number_of
  number-alike = tells_alike None number_in blind-number o p same

  blind-destination : (c : CommonHeader) (h : Header) → destination_in (recommon c h) ≡ destination_in h
  blind-destination c (beacon h) = refl
  blind-destination c (unicast h) = refl
  blind-destination c (anycast h) = refl
  blind-destination c (broadcast h) = refl
  blind-destination c (single_hop h) = refl
  blind-destination c (multi_hop h) = refl

  pub destination-alike : destination_of p ≡ destination_of o
  unfolding destination_of
  destination-alike = tells_alike None destination_in blind-destination o p same

  blind-area : (c : CommonHeader) (h : Header) → area_in (recommon c h) ≡ area_in h
  blind-area c (beacon h) = refl
  blind-area c (unicast h) = refl
  blind-area c (anycast h) = refl
  blind-area c (broadcast h) = refl
  blind-area c (single_hop h) = refl
  blind-area c (multi_hop h) = refl

  pub area-alike-of : area_of p ≡ area_of o
  unfolding area_of
  area-alike-of = tells_alike None area_in blind-area o p same

  pub target-alike : target_of p ≡ target_of o
  unfolding target_of
  target-alike = λ i. target_between (destination-alike i) (area-alike-of i)

-- a new lifetime leaves the target and the hop limit
pub target_kept : (v : ℕ) (o : List ℕ) → target_of (set o 2 v) ≡ target_of o
target_kept v o = target-alike o (set o 2 v) (alike_set 2 v o (omega arith) (λ e. omega arith))

pub hops_kept : (v : ℕ) (o : List ℕ) → hops_of (set o 2 v) ≡ hops_of o
hops_kept v o = get_or-set_other o 2 3 v 0 (λ e. omega arith)

-- octets before those that are written over stay
placed_before : (n at : ℕ) (part o : List ℕ) → n < at → n < length o → get_or (placed at part o) n 0 ≡ get_or o n 0
unfolding placed
placed_before n at part o a b =
    let l : length (take at o) ≡ min at (length o) = length-take at o in
    get_or_append_left (take at o) (part ++ drop (at + length part) o) 0 n (omega (arith, l)) ∙ get_or-take at o n 0 a

pub redirected_before : (n : ℕ) (k : Option Station) (d : Option ShortPositionVector) (o : List ℕ) → n < 40 → n < length o → get_or (redirected k d o) n 0 ≡ get_or o n 0
redirected_before n None d o a l = refl
redirected_before n (Some x) None o a l = refl
redirected_before n (Some x) (Some d) o a l = go (newer x.vector.timestamp.millis d.timestamp.millis)
  where
    go : (b : Bool) → get_or (cond b (placed 40 (short_vector_octets x.vector) o) o) n 0 ≡ get_or o n 0
    go true = placed_before n 40 (short_vector_octets x.vector) o a l
    go false = refl

module _ (k : Option Station) (o : List ℕ) (g : Readable o) where
  same_length : length (lowered o) ≡ length o
  same_length = length-set o 3 (hops_of o - 1)

  -- one hop on, the hop limit is one lower
  pub passed-on-hops : hops_of (passed_on k o) + 1 ≡ hops_of o
  unfolding passed_on
  passed-on-hops =
      let s : get_or (set o 3 (hops_of o - 1)) 3 0 ≡ hops_of o - 1 = get_or-set_same o 3 (hops_of o - 1) 0 (omega (arith, g.long)) in
      let r = redirected_before 3 k (destination_of o) (lowered o) (omega arith) (omega (arith, same_length, g.long)) in
      omega (arith, r, s, g.hops)

  -- and the lifetime is the same
  pub passed-on-life : packet_lifetime (passed_on k o) ≡ packet_lifetime o
  unfolding passed_on
  passed-on-life =
      redirected_before 2 k (destination_of o) (lowered o) (omega arith) (omega (arith, same_length, g.long))
      ∙ get_or-set_other o 3 2 (hops_of o - 1) 0 (λ e. omega arith)

-- what the reader's record says is what the rules read in the octets
some_or : {X E : Type 0} (k : Option X) (f : E) (x : X) → ok_or k f ≡ Ok x → k ≡ Some x
some_or (Some y) f x e = cc
some_or None f x e = absurd (err_not_ok f x e)

same_ok : {X E : Type 0} (x y : X) → ◌≡◌ {A = Result X E} (Ok x) (Ok y) → x ≡ y
same_ok x y e = cc

pub read_header : (o : List ℕ) (c : Content) → reading o ≡ Ok c → header_of o ≡ Some c.header
unfolding header_of
read_header o c e =
    let a = through (framing o) _ c e in
    let k = a.value in
    let b = through (lengths k o) _ c a.then in
    let d = through (limits k (common_of o)) _ c b.then in
    let g = through (passed (header_at k (common_of o) o)) _ c d.then in
    let f = through (passed (room_at 12 0 o)) _ k a.first in
    let l = unless_false (ltb 1458 (length o)) _ _ k f.then in
    let m = unless_false (not (eqb (octet 0 o / 16) 1)) _ _ k l.1 in
    let n = unless_false (not (eqb (octet 0 o % 16) 1)) _ _ k m.1 in
    let kind = some_or (kind_of (octet 5 o)) _ k n.1 in
    let whole = same_ok _ _ g.then in
    ap (λ j. header_as j o) kind ∙ ap in_result (passed_ok (header_at k (common_of o) o) g.value g.first) ∙ ap (λ (x : Content). Some x.header) whole
