-- A written packet is read as it was. Assumes nothing.
use Rattle.std.proofs.Common.{◌≡◌, ℕ, ◌+◌, ◌-◌, ◌*◌, ◌/◌, ◌≤◌, Bool, true, false, cond, leb, List, ◌++◌, length, drop, Some, Ok, sym, refl, ap, ◌∙◌, arith, lit≤}
use Rattle.std.proofs.lemmas.List.{length-append, drop_at}
use Rattle.std.proofs.lemmas.Bool.{le-ltb, eq-eqb}
use Rattle.octets.proofs.Width.{number_octets}
use Rattle.octets.specs.Wire.{octets_of}
use Rattle.fields.proofs.Narrow.{upper_read}
use Rattle.fields.specs.UpperProtocols.{upper_of, upper_number}
use Rattle.fields.specs.declared.upper_protocol.UpperProtocol.{UpperProtocol}
use Rattle.packets.specs.Common.{common_of, common_octets}
use Rattle.packets.specs.Contents.{Content, kind_in, common_in}
use Rattle.packets.specs.Kinds.{kind_of, kind_octet, headers_of, payload_limit}
use Rattle.packets.specs.Reading.{framing, lengths, limits, header_at, payload_length}
use Rattle.packets.specs.Writing.{extended_octets, wire}
use Rattle.packets.specs.declared.common.CommonHeader.{CommonHeader}
use Rattle.packets.specs.declared.kind.Kind.{Kind}
use Rattle.packets.specs.declared.kind.Kind.TheVariants.{Beacon, Unicast, Anycast, Broadcast, SingleHop, MultiHop}
use Rattle.writer.proofs.Spans.{headers_long, extended_long}
use Rattle.roundtrip.proofs.Checked.{accepted}
use Rattle.roundtrip.proofs.Stands.{Stands}
use Rattle.roundtrip.proofs.There.{header_read}
use Rattle.roundtrip.specs.Trips.{ReadWritten}

kind_read : (k : Kind) → kind_of (kind_octet k) ≡ Some k
kind_read Beacon = refl
kind_read Unicast = refl
kind_read Anycast = refl
kind_read Broadcast = refl
kind_read SingleHop = refl
kind_read MultiHop = refl

-- a packet that is not too long
sizes : (k : Kind) → (12 ≤ headers_of k) × (headers_of k + payload_limit k ≤ 1458)
sizes Beacon = (lit≤ tt, lit≤ tt)
sizes Unicast = (lit≤ tt, lit≤ tt)
sizes Anycast = (lit≤ tt, lit≤ tt)
sizes Broadcast = (lit≤ tt, lit≤ tt)
sizes SingleHop = (lit≤ tt, lit≤ tt)
sizes MultiHop = (lit≤ tt, lit≤ tt)

flag_read : (b : Bool) → leb 128 (cond b 128 0) ≡ b
flag_read true = refl
flag_read false = refl

upper_shift : (u : UpperProtocol) → upper_of (upper_number u * 16 / 16) ≡ u
upper_shift u = let e : upper_number u * 16 / 16 ≡ upper_number u = omega arith in ap upper_of e ∙ upper_read u

common_read : (k : Kind) (n : ℕ) (c : CommonHeader) (rest : List ℕ) → common_of (common_octets k n c ++ rest) ≡ c
unfolding octets_of
common_read k n c rest = rw (flag_read c.mobile, upper_shift c.upper_protocol)

framing_read : (k : Kind) (n : ℕ) (c : CommonHeader) (rest : List ℕ) → length (common_octets k n c ++ rest) ≤ 1458 → framing (common_octets k n c ++ rest) ≡ Ok k
unfolding octets_of
framing_read k n c rest h =
    let o = common_octets k n c ++ rest in
    let enough : 12 ≤ length o = omega (arith, length-append (common_octets k n c) rest) in
    rw (le-ltb (length o) 12 enough, le-ltb 1458 (length o) h, kind_read k)

lengths_read : (k : Kind) (o : List ℕ) (n : ℕ) → payload_length o ≡ n → length o ≡ headers_of k + n → n ≤ payload_limit k → lengths k o ≡ Ok tt
lengths_read k o n f e h = rw (f, eq-eqb (length o) (headers_of k + n) e, le-ltb (payload_limit k) n h)

-- the octets of a packet are as many as its headers and its payload
pub wire_long : (c : Content) → length (wire c) ≡ headers_of (kind_in c.header) + length c.payload
wire_long c =
    let h = c.header in
    let span = headers_long (length c.payload) h in
    length-append (common_octets (kind_in h) (length c.payload) (common_in h) ++ extended_octets h) c.payload ∙ ap (λ n. n + length c.payload) (omega arith)

-- the extended header stands behind the first twelve octets
extended_stands : (c : Content) → Stands (headers_of (kind_in c.header) - 12) 12 (extended_octets c.header) (wire c)
unfolding octets_of
extended_stands c =
    let h = c.header in
    let p = c.payload in
    let C = common_octets (kind_in h) (length p) (common_in h) in
    let span = headers_long (length p) h in
    let rest = extended_long (kind_in h) in
    let whole = wire_long c in
    let sum = length-append C (extended_octets h) in
    let ends : drop (headers_of (kind_in h)) (wire c) ≡ p = drop_at (C ++ extended_octets h) p (headers_of (kind_in h)) (omega arith) in
    record { long = omega arith; room = omega arith; same = sym (ap (λ n. extended_octets h ++ drop n (wire c)) rest ∙ ap (λ t. extended_octets h ++ t) ends) }

pub read_written : ReadWritten
unfolding octets_of
read_written c f ok =
    let h = c.header in
    let p = c.payload in
    let a = accepted c ok in
    let k = kind_in h in
    let o = wire c in
    let whole = wire_long c in
    let most = sizes k in
    let limit = a.payload in
    let span = headers_long (length p) h in
    let framed : framing o ≡ Ok k = framing_read k (length p) (common_in h) (extended_octets h ++ p) (omega (arith, most.1)) in
    let counted : payload_length o ≡ length p = number_octets 2 (length p) (omega (arith, most.1)) in
    let sized : lengths k o ≡ Ok tt = lengths_read k o (length p) counted whole limit in
    let common : common_of o ≡ common_in h = common_read k (length p) (common_in h) (extended_octets h ++ p) in
    let limited : limits k (common_in h) ≡ Ok tt = rw (a.hops, a.lives) in
    let header : header_at k (common_in h) o ≡ Ok h = header_read h o f a.source a.target (extended_stands c) in
    let payload : drop (headers_of k) o ≡ p = drop_at (common_octets k (length p) (common_in h) ++ extended_octets h) p (headers_of k) (omega arith) in
    rw (framed, sized, common, limited, header, payload)
