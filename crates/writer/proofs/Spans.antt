-- How long the headers are, and the packet from its parts. Assumes nothing.
use Rattle.std.proofs.Common.{◌≡◌, ℕ, ◌+◌, ◌-◌, ◌≤◌, List, ◌++◌, length, refl, sym, ap, ◌∙◌, arith, length-append}
use Rattle.octets.proofs.Width.{put_both}
use Rattle.octets.specs.Wire.{octets_of, put_at}
use Rattle.packets.specs.Common.{common_octets}
use Rattle.packets.specs.Contents.{Header, Content, beacon, unicast, anycast, broadcast, single_hop, multi_hop, kind_in, common_in}
use Rattle.packets.specs.Kinds.{headers_of}
use Rattle.packets.specs.Writing.{extended_octets, wire}
use Rattle.packets.specs.declared.common.CommonHeader.{CommonHeader}
use Rattle.packets.specs.declared.kind.Kind.{Kind}
use Rattle.packets.specs.declared.kind.Kind.TheVariants.{Beacon, Unicast, Anycast, Broadcast, SingleHop, MultiHop}

-- the first twelve octets and the extended header are as long as the table of kinds says
pub headers_long : (n : ℕ) (h : Header) → headers_of (kind_in h) ≡ length (common_octets (kind_in h) n (common_in h) ++ extended_octets h)
unfolding octets_of
headers_long n (beacon h) = refl
headers_long n (unicast h) = refl
headers_long n (anycast h) = refl
headers_long n (broadcast h) = refl
headers_long n (single_hop h) = refl
headers_long n (multi_hop h) = refl

pub length-extended_octets : (h : Header) → length (extended_octets h) ≡ headers_of (kind_in h) - 12
unfolding octets_of
length-extended_octets h = omega (arith, headers_long 0 h, length-append (common_octets (kind_in h) 0 (common_in h)) (extended_octets h))

-- the extended header ends where the headers do
pub extended_long : (k : Kind) → 12 + (headers_of k - 12) ≡ headers_of k
extended_long Beacon = refl
extended_long Unicast = refl
extended_long Anycast = refl
extended_long Broadcast = refl
extended_long SingleHop = refl
extended_long MultiHop = refl

-- the first twelve octets, the extended header and the payload, written one after the other, are the packet
pub packet_put : (c : Content) (k : Kind) (m : CommonHeader) (p : List ℕ) (first count : ℕ) (o s t u : List ℕ) → k ≡ kind_in c.header → m ≡ common_in c.header → p ≡ c.payload → first ≡ headers_of k → count ≡ headers_of (kind_in c.header) + length c.payload → 0 + count ≤ length o → s ≡ put_at 12 0 (common_octets k (length p) m) o → t ≡ put_at (headers_of (kind_in c.header) - 12) 12 (extended_octets c.header) s → u ≡ put_at (length p) first p t → u ≡ put_at count 0 (wire c) o
unfolding octets_of
packet_put c k m p first count o s t u ek em ep ef ec room es et eu =
    let h = c.header in
    let n = length c.payload in
    let w = headers_of (kind_in h) - 12 in
    let whole : 12 + w ≡ headers_of (kind_in h) = extended_long (kind_in h) in
    let head : s ≡ put_at 12 0 (common_octets (kind_in h) n (common_in h)) o = es ∙ rw (ek, em, ep) in
    let headers = put_both 12 w 0 _ _ o _ _ head et refl (length-extended_octets h) (omega arith) in
    let place : first ≡ 0 + (12 + w) = ef ∙ rw ek (omega (arith, whole)) in
    let behind : u ≡ put_at n (0 + (12 + w)) c.payload t = eu ∙ rw (place, ep) in
    let all = put_both (12 + w) n 0 _ _ o _ _ headers behind (sym (headers_long n h) ∙ sym whole) refl (omega arith) in
    all ∙ ap (λ k. put_at k 0 (wire c) o) (omega arith)
