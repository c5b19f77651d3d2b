-- A packet that was read is written as it was. Assumes nothing.
use Rattle.std.proofs.Common.{◌≡◌, ℕ, ◌+◌, ◌-◌, ◌*◌, ◌/◌, ◌%◌, ◌<◌, ◌≤◌, true, cond, not, ◌||◌, eqb, ltb, leb, List, ◌∷◌, ◌++◌, length, get_or, drop, IfOk, Some, None, Ok, Err, Option, sym, refl, ap, ◌∙◌, arith, lit<, length-drop}
use Rattle.std.proofs.lemmas.List.{append_assoc, drop_more}
use Rattle.std.proofs.lemmas.Result.{IfOk-weaker}
use Rattle.std.proofs.lemmas.Bool.{cond_both, ltb-false, leb-true, leb-false, eqb-true, not-false, or_parts}
use Rattle.std.specs.Option.{ok_or}
use Rattle.octets.proofs.Width.{wider}
use Rattle.octets.specs.Faults.{room_at, read_at}
use Rattle.octets.specs.Wire.{field_at, octets_of}
use Rattle.octets.specs.declared.fault.OctetFault.TheVariants.{Missing}
use Rattle.fields.proofs.Narrow.{upper_written}
use Rattle.fields.specs.Positions.{on_earth}
use Rattle.fields.specs.UpperProtocols.{upper_of, upper_number}
use Rattle.vectors.specs.Vectors.{long_vector_at, short_vector_at, area_at}
use Rattle.packets.specs.Common.{octet, common_of, common_octets, hop_limits_fit, lifetime_fits}
use Rattle.packets.specs.Contents.{Header, beacon, unicast, anycast, broadcast, single_hop, multi_hop, kind_in, common_in, source_in}
use Rattle.packets.specs.Faults.{passed}
use Rattle.packets.specs.Kinds.{kind_of, kind_octet, headers_of, payload_limit}
use Rattle.packets.specs.Reading.{framing, lengths, limits, payload_length, beacon_at, unicast_at, area_header_at, single_hop_at, multi_hop_at, header_at}
use Rattle.packets.specs.Writing.{extended_octets, area_header_octets, target_fits, wire}
use Rattle.packets.specs.declared.common.CommonHeader.{CommonHeader}
use Rattle.packets.specs.declared.fault.HeaderFault.TheVariants.{TooLong, Version, NextHeader, UnknownKind, PayloadLength, HopLimit, Lifetime}
use Rattle.packets.specs.declared.headers.AreaHeader.{AreaHeader}
use Rattle.packets.specs.declared.kind.Kind.{Kind}
use Rattle.packets.specs.declared.kind.Kind.TheVariants.{Beacon, Unicast, Anycast, Broadcast, SingleHop, MultiHop}
use Rattle.writer.proofs.Spans.{extended_long}
use Rattle.roundtrip.proofs.Checked.{accepts}
use Rattle.roundtrip.proofs.Here.{Octets, number_here, long_here, short_here, area_here}
use Rattle.roundtrip.proofs.Made.{made_then, made_passed, made_check}
use Rattle.roundtrip.proofs.Stands.{Stands, both_parts, number_stands}
use Rattle.roundtrip.specs.Trips.{HeadClear, Clear, Back, WrittenRead}

-- the record of a kind, as it was read
pub record HeaderHere (k : Kind) (c : CommonHeader) (o : List ℕ) (h : Header) : Type 0 where
  pub kind : kind_in h ≡ k
  pub common : common_in h ≡ c
  pub source : on_earth (source_in h).short.position ≡ true
  pub target : target_fits h ≡ true
  pub stands : headers_of k ≤ length o → Clear k o → Stands (headers_of k - 12) 12 (extended_octets h) o

-- two reserved octets that are 0
zero_here : (at : ℕ) (o : List ℕ) → Octets o → at + 2 ≤ length o → field_at 2 at o ≡ 0 → Stands 2 at (octets_of 2 0) o
zero_here at o u room clear = rw clear at (number_stands 2 at o u room)

-- what stands in the extended header of an anycast or a broadcast
pub record AreaHere (c : CommonHeader) (o : List ℕ) (h : AreaHeader) : Type 0 where
  pub common : h.common ≡ c
  pub source : on_earth h.source.short.position ≡ true
  pub target : on_earth h.area.centre ≡ true
  pub stands : 56 ≤ length o → field_at 2 14 o ≡ 0 → field_at 2 54 o ≡ 0 → Stands 44 12 (area_header_octets h) o

area_header_here : (c : CommonHeader) (o : List ℕ) → Octets o → IfOk (area_header_at c o) (AreaHere c o)
area_header_here c o u =
    made_then (read_at 2 12 o) (λ n. _) _ (AreaHere c o) (number_here 2 12 o u) (λ n x.
    made_then (long_vector_at 16 o) (λ v. _) _ (AreaHere c o) (long_here 16 o u) (λ v y.
    made_then (area_at 40 o) (λ a. _) _ (AreaHere c o) (area_here 40 o u) (λ a z.
    record {
      common = refl;
      source = y.0;
      target = z.0;
      stands = λ room clear last.
          both_parts 28 16 12 40 44 _ _ o refl refl
          (both_parts 4 24 12 16 28 _ _ o refl refl (both_parts 2 2 12 14 4 _ _ o refl refl x.1 (zero_here 14 o u (omega arith) clear)) y.1)
          (z.1 (omega arith) last);
    })))

header_here : (k : Kind) (c : CommonHeader) (o : List ℕ) → Octets o → IfOk (header_at k c o) (HeaderHere k c o)
header_here Beacon c o u =
    let Q = HeaderHere Beacon c o in
    made_then (beacon_at c o) (λ h. Ok (beacon h)) (λ h. Q (beacon h)) Q
    (made_then (long_vector_at 12 o) (λ v. _) _ (λ h. Q (beacon h)) (long_here 12 o u) (λ v y.
    record { kind = refl; common = refl; source = y.0; target = refl; stands = λ _ _. y.1 }))
    (λ h q. q)
header_here Unicast c o u =
    let Q = HeaderHere Unicast c o in
    made_then (unicast_at c o) (λ h. Ok (unicast h)) (λ h. Q (unicast h)) Q
    (made_then (read_at 2 12 o) (λ n. _) _ (λ h. Q (unicast h)) (number_here 2 12 o u) (λ n x.
    made_then (long_vector_at 16 o) (λ v. _) _ (λ h. Q (unicast h)) (long_here 16 o u) (λ v y.
    made_then (short_vector_at 40 o) (λ d. _) _ (λ h. Q (unicast h)) (short_here 40 o u) (λ d z.
    record {
      kind = refl;
      common = refl;
      source = y.0;
      target = z.0;
      stands = λ room clear.
          both_parts 28 20 12 40 48 _ _ o refl refl
          (both_parts 4 24 12 16 28 _ _ o refl refl (both_parts 2 2 12 14 4 _ _ o refl refl x.1 (zero_here 14 o u (omega arith) clear.1)) y.1)
          z.1;
    }))))
    (λ h q. q)
header_here Anycast c o u =
    made_then (area_header_at c o) (λ h. Ok (anycast h)) (AreaHere c o) (HeaderHere Anycast c o) (area_header_here c o u)
    (λ h q. record { kind = refl; common = q.common; source = q.source; target = q.target; stands = λ room clear. q.stands room clear.1 clear.2 })
header_here Broadcast c o u =
    made_then (area_header_at c o) (λ h. Ok (broadcast h)) (AreaHere c o) (HeaderHere Broadcast c o) (area_header_here c o u)
    (λ h q. record { kind = refl; common = q.common; source = q.source; target = q.target; stands = λ room clear. q.stands room clear.1 clear.2 })
header_here SingleHop c o u =
    let Q = HeaderHere SingleHop c o in
    made_then (single_hop_at c o) (λ h. Ok (single_hop h)) (λ h. Q (single_hop h)) Q
    (made_then (long_vector_at 12 o) (λ v. _) _ (λ h. Q (single_hop h)) (long_here 12 o u) (λ v y.
    made_then (read_at 4 36 o) (λ m. _) _ (λ h. Q (single_hop h)) (number_here 4 36 o u) (λ m x.
    record { kind = refl; common = refl; source = y.0; target = refl; stands = λ _ _. both_parts 24 4 12 36 28 _ _ o refl refl y.1 x.1 })))
    (λ h q. q)
header_here MultiHop c o u =
    let Q = HeaderHere MultiHop c o in
    made_then (multi_hop_at c o) (λ h. Ok (multi_hop h)) (λ h. Q (multi_hop h)) Q
    (made_then (read_at 2 12 o) (λ n. _) _ (λ h. Q (multi_hop h)) (number_here 2 12 o u) (λ n x.
    made_then (long_vector_at 16 o) (λ v. _) _ (λ h. Q (multi_hop h)) (long_here 16 o u) (λ v y.
    record {
      kind = refl;
      common = refl;
      source = y.0;
      target = refl;
      stands = λ room clear. both_parts 4 24 12 16 28 _ _ o refl refl (both_parts 2 2 12 14 4 _ _ o refl refl x.1 (zero_here 14 o u (omega arith) clear.1)) y.1;
    })))
    (λ h q. q)

-- what the first checks make sure of
pub record Framed (o : List ℕ) (k : Kind) : Type 0 where
  pub enough : 12 ≤ length o
  pub first : octet 0 o ≡ 17
  pub kind : octet 5 o ≡ kind_octet k

-- one row of the table of kinds
row_here : (b n : ℕ) (k : Kind) (r : Option Kind) → n ≡ kind_octet k → IfOk (ok_or r UnknownKind) (λ k. b ≡ kind_octet k) → IfOk (ok_or (cond (eqb b n) (Some k) r) UnknownKind) (λ k. b ≡ kind_octet k)
row_here b n k r e m = cond_both (eqb b n) (Some k) r (λ r. IfOk (ok_or r UnknownKind) (λ k. b ≡ kind_octet k)) (λ t. eqb-true b n t ∙ e) (λ _. m)

kind_here : (b : ℕ) → IfOk (ok_or (kind_of b) UnknownKind) (λ k. b ≡ kind_octet k)
kind_here b =
    row_here b 16 Beacon _ refl (row_here b 32 Unicast _ refl (row_here b 48 Anycast _ refl (row_here b 64 Broadcast _ refl
    (row_here b 80 SingleHop _ refl (row_here b 81 MultiHop None refl tt)))))

framing_here : (o : List ℕ) → IfOk (framing o) (Framed o)
framing_here o =
    let x = octet 0 o in
    let last = ok_or (kind_of (octet 5 o)) UnknownKind in
    let third = cond (not (eqb (x % 16) 1)) (Err NextHeader) last in
    let second = cond (not (eqb (x / 16) 1)) (Err Version) third in
    let first = cond (ltb 1458 (length o)) (Err TooLong) second in
    made_then (passed (room_at 12 0 o)) (λ _. first) (λ _. 12 ≤ length o) (Framed o)
    (made_passed (room_at 12 0 o) (λ _. 12 ≤ length o) (made_check (ltb (length o) 12) (Missing 0) (Ok tt) (λ _. 12 ≤ length o) (λ e. ltb-false (length o) 12 e)))
    (λ _ enough.
    made_check (ltb 1458 (length o)) TooLong second (Framed o) (λ _.
    made_check (not (eqb (x / 16) 1)) Version third (Framed o) (λ v.
    made_check (not (eqb (x % 16) 1)) NextHeader last (Framed o) (λ n.
    IfOk-weaker last (λ k. octet 5 o ≡ kind_octet k) (Framed o)
    (λ k e. record { enough = enough; first = omega (arith, eqb-true (x / 16) 1 (not-false _ v), eqb-true (x % 16) 1 (not-false _ n)); kind = e })
    (kind_here (octet 5 o))))))

-- what the check of the lengths makes sure of
pub record Sized (k : Kind) (o : List ℕ) : Type 0 where
  pub whole : length o ≡ headers_of k + payload_length o
  pub limit : payload_length o ≤ payload_limit k

lengths_here : (k : Kind) (o : List ℕ) → IfOk (lengths k o) (λ _. Sized k o)
lengths_here k o =
    let n = payload_length o in
    let a = eqb (length o) (headers_of k + n) in
    made_check (not a || ltb (payload_limit k) n) PayloadLength (Ok tt) (λ _. Sized k o)
    (λ e. let p = or_parts (not a) (ltb (payload_limit k) n) e in
    record { whole = eqb-true (length o) (headers_of k + n) (not-false a p.0); limit = ltb-false (payload_limit k) n p.1 })

-- what the check of the limits makes sure of
limits_here : (k : Kind) (c : CommonHeader) → IfOk (limits k c) (λ _. (hop_limits_fit k c ≡ true) × (lifetime_fits c ≡ true))
limits_here k c =
    made_check (not (hop_limits_fit k c)) HopLimit (cond (not (lifetime_fits c)) (Err Lifetime) (Ok tt)) _ (λ a.
    made_check (not (lifetime_fits c)) Lifetime (Ok tt) _ (λ b. (not-false _ a, not-false _ b)))

-- the first twelve octets
head_split : (o : List ℕ) → 12 ≤ length o → o ≡ octet 0 o ∷ octet 1 o ∷ octet 2 o ∷ octet 3 o ∷ octet 4 o ∷ octet 5 o ∷ octet 6 o ∷ octet 7 o ∷ octet 8 o ∷ octet 9 o ∷ octet 10 o ∷ octet 11 o ∷ drop 12 o
head_split o h =
    let more : (i : ℕ) → i < 12 → get_or o i 0 ∷ drop (i + 1) o ≡ drop i o = λ i k. sym (drop_more o i 0 (omega arith)) in
    rw (more 11 (lit< tt), more 10 (lit< tt), more 9 (lit< tt), more 8 (lit< tt), more 7 (lit< tt), more 6 (lit< tt), more 5 (lit< tt), more 4 (lit< tt), more 3 (lit< tt), more 2 (lit< tt), more 1 (lit< tt), more 0 (lit< tt))

head_here : (k : Kind) (n : ℕ) (o : List ℕ) → Octets o → Framed o k → n ≡ payload_length o → HeadClear o → o ≡ common_octets k n (common_of o) ++ drop 12 o
unfolding octets_of
head_here k n o u f e b =
    let h = f.enough in
    let a : field_at 2 8 o ≡ field_at 1 8 o * 256 + octet 9 o = wider o 8 1 (omega arith) in
    let c : field_at 1 8 o ≡ 0 * 256 + octet 8 o = wider o 8 0 (omega arith) in
    let m : n ≡ octet 8 o * 256 + octet 9 o = omega arith in
    let upper : upper_number (upper_of (octet 4 o / 16)) ≡ octet 4 o / 16 = upper_written (octet 4 o / 16) (omega (arith, u 4)) in
    let p : octet 4 o ≡ upper_number (upper_of (octet 4 o / 16)) * 16 = omega (arith, b.four) in
    let q : octet 7 o ≡ cond (leb 128 (octet 7 o)) 128 0 =
    cond_both (leb 128 (octet 7 o)) 128 0 (λ y. octet 7 o ≡ y) (λ t. omega (arith, leb-true 128 (octet 7 o) t, u 7, b.seven)) (λ t. omega (arith, leb-false 128 (octet 7 o) t, b.seven)) in
    let r : octet 8 o ≡ n / 256 % 256 = omega (arith, u 8, u 9) in
    let s : octet 9 o ≡ n % 256 = omega (arith, u 9) in
    head_split o h ∙ cc

clear_head : (k : Kind) (o : List ℕ) → Clear k o → HeadClear o
clear_head Beacon o c = c
clear_head Unicast o c = c.0
clear_head Anycast o c = c.0
clear_head Broadcast o c = c.0
clear_head SingleHop o c = c
clear_head MultiHop o c = c.0

-- the packet from its three parts
whole_here : (k : Kind) (o : List ℕ) (h : Header) → Octets o → Framed o k → Sized k o → HeaderHere k (common_of o) o h → Clear k o → wire (record { header = h; payload = drop (headers_of k) o }) ≡ o
whole_here k o h u f z t clear =
    let p = drop (headers_of k) o in
    let rest = extended_long k in
    let n : length p ≡ payload_length o = length-drop (headers_of k) o ∙ omega (arith, z.whole) in
    let C = common_octets k (length p) (common_of o) in
    let head = head_here k (length p) o u f n (clear_head k o clear) in
    let s = t.stands (omega (arith, z.whole)) clear in
    let tail : drop 12 o ≡ extended_octets h ++ p = s.same ∙ ap (λ i. extended_octets h ++ drop i o) rest in
    rw (t.kind, t.common) (append_assoc C (extended_octets h) p ∙ ap (λ r. C ++ r) (sym tail) ∙ sym head)

pub written_read : WrittenRead
written_read o u =
    made_then (framing o) (λ k. _) (Framed o) (Back o) (framing_here o) (λ k f.
    made_then (lengths k o) (λ _. _) (λ _. Sized k o) (Back o) (lengths_here k o) (λ _ z.
    made_then (limits k (common_of o)) (λ _. _) _ (Back o) (limits_here k (common_of o)) (λ _ l.
    made_then (passed (header_at k (common_of o) o)) (λ h. Ok (record { header = h; payload = drop (headers_of k) o })) (HeaderHere k (common_of o) o) (Back o)
    (made_passed (header_at k (common_of o) o) (HeaderHere k (common_of o) o) (header_here k (common_of o) o u))
    (λ h t.
    let n : length (drop (headers_of k) o) ≡ payload_length o = length-drop (headers_of k) o ∙ omega (arith, z.whole) in
    record {
      count = rw t.kind (omega (arith, z.whole));
      accepted = accepts (record { header = h; payload = drop (headers_of k) o })
          (record { hops = rw (t.kind, t.common) l.0; lives = rw t.common l.1; source = t.source; target = t.target; payload = rw t.kind (omega (arith, z.limit)) });
      same = λ clear. whole_here k o h u f z t (rw t.kind at clear);
    }))))
