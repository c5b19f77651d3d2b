-- One law over the width of a field: the facts that every read and every write rests on. Assumes nothing.
use Rattle.std.proofs.Common.{◌≡◌, ℕ, zero, suc, ◌+◌, ◌*◌, ◌/◌, ◌%◌, ◌^◌, ◌<◌, ◌≤◌, ltb, List, [], ◌∷◌, ◌++◌, length, get_or, take, drop, sym, refl, ap, ◌∙◌, add-zero, pow-suc, add-one, arith, lit<, length-drop}
use lib.Arith.{digits_lt}
use Rattle.std.proofs.lemmas.Nat.{div-mul-add, mod-mul-add, div-add-mod', div_below}
use Rattle.std.proofs.lemmas.Int.Digits.{number_more, number_push}
use Rattle.std.proofs.lemmas.List.{get_or-drop, length-append, length-take-le, append_assoc, take-append-drop, take_more, take_at, drop_at, drop-drop}
use Rattle.std.proofs.lemmas.Bool.{le-ltb, cond-false}
use Rattle.std.specs.Int.Digits.{number_from_digits}
use Rattle.octets.specs.Widths.{length-octets_of}
use Rattle.octets.specs.Laws.{ReadWritten, WrittenRead, OneOctet}
use Rattle.octets.specs.Wire.{field_at, octets_of, placed, put_at}

-- one octet more
pub one_more : (i n d : ℕ) → n < 256 ^ i → d < 256 → n * 256 + d < 256 ^ (i + 1)
one_more i n d h k = rw (add-one, pow-suc) (digits_lt h k)

-- the law of reading: a field one octet wider
pub wider : (octets : List ℕ) (at i : ℕ) → at + i < length octets → field_at (i + 1) at octets ≡ field_at i at octets * 256 + get_or octets (at + i) 0
wider octets at i h =
    let k : i < length (drop at octets) = simp length-drop (omega arith) in
    number_more 256 (drop at octets) i k ∙ ap (λ d. field_at i at octets * 256 + d) (get_or-drop at octets i 0)

-- what is written is read again
pub number_octets : (w n : ℕ) → n < 256 ^ w → number_from_digits 256 (octets_of w n) ≡ n
unfolding octets_of
number_octets zero n h = let k : n < 1 = h in omega arith
number_octets (suc w) n h =
    let k : n / 256 < 256 ^ w = div_below n 256 (256 ^ w) (omega arith) (rw pow-suc at h) in
    number_push 256 (octets_of w (n / 256)) (n % 256) ∙ rw (number_octets w (n / 256) k) (div-add-mod' n 256)

-- what is read is written again
pub octets_number : (w : ℕ) (xs : List ℕ) → w ≤ length xs → ((i : ℕ) → get_or xs i 0 < 256) → octets_of w (number_from_digits 256 (take w xs)) ≡ take w xs
unfolding octets_of
octets_number zero xs h u = refl
octets_number (suc w) xs h u =
    let e : number_from_digits 256 (take (suc w) xs) ≡ number_from_digits 256 (take w xs) * 256 + get_or xs w 0 = rw add-one at (number_more 256 xs w h) in
    let t : take (suc w) xs ≡ take w xs ++ get_or xs w 0 ∷ [] = rw add-one at (take_more xs w 0 h) in
    rw (e, div-mul-add (number_from_digits 256 (take w xs)) 256 (get_or xs w 0) (u w), mod-mul-add (number_from_digits 256 (take w xs)) 256 (get_or xs w 0) (u w), octets_number w xs (omega arith) u) (sym t)

-- the part that was written
pub part_placed : (at w : ℕ) (part o : List ℕ) → at ≤ length o → length part ≡ w → take w (drop at (placed at part o)) ≡ part
unfolding placed
part_placed at w part o h e =
    ap (take w) (drop_at (take at o) (part ++ drop (at + length part) o) at (length-take-le at o h)) ∙ take_at part (drop (at + length part) o) w e

pub read_written : ReadWritten
read_written w at n o h k = ap (number_from_digits 256) (part_placed at w (octets_of w n) o (omega arith) (length-octets_of w n)) ∙ number_octets w n k

pub one_octet : OneOctet
one_octet at o h = wider o at 0 (omega arith) ∙ rw add-zero (omega arith)

pub written_read : WrittenRead
unfolding placed
written_read w at o h u =
    let e : octets_of w (field_at w at o) ≡ take w (drop at o) =
    octets_number w (drop at o) (simp length-drop (omega arith)) (λ i. rw get_or-drop (u (at + i))) in
    let l : length (take w (drop at o)) ≡ w = length-take-le w (drop at o) (simp length-drop (omega arith)) in
    rw (e, l, ← drop-drop w at o, take-append-drop w (drop at o), take-append-drop at o)

-- two parts written one after the other are one part
pub placed-next : (at n : ℕ) (xs ys o : List ℕ) → n ≡ at + length xs → n ≤ length o → placed n ys (placed at xs o) ≡ placed at (xs ++ ys) o
unfolding placed
placed-next at n xs ys o e h =
    let l : length (take at o ++ xs) ≡ n = length-append (take at o) xs ∙ rw (length-take-le at o (omega arith)) (sym e) in
    let m : at + length (xs ++ ys) ≡ n + length ys = rw (length-append xs ys) (omega arith) in
    let s : placed at xs o ≡ (take at o ++ xs) ++ drop n o = rw (← e) (sym (append_assoc (take at o) xs (drop n o))) in
    rw (s, m, take_at (take at o ++ xs) (drop n o) n l, ← drop-drop (length ys) n ((take at o ++ xs) ++ drop n o), drop_at (take at o ++ xs) (drop n o) n l, drop-drop (length ys) n o)
    (simp append_assoc)

-- a part that fits leaves as many octets as there were
pub length-placed : (at : ℕ) (part o : List ℕ) → at + length part ≤ length o → length (placed at part o) ≡ length o
unfolding placed
length-placed at part o h =
    simp (length-append, length-drop, length-take-le at o (omega arith)) (omega arith)

-- where there is room, a part is written
pub put_placed : (w at : ℕ) (part o : List ℕ) → at + w ≤ length o → put_at w at part o ≡ placed at part o
put_placed w at part o h = cond-false (ltb (length o) (at + w)) o (placed at part o) (le-ltb (length o) (at + w) h)

-- two writes, the second right behind the first, are one
pub put_both : (v w at : ℕ) (a b o s t : List ℕ) → s ≡ put_at v at a o → t ≡ put_at w (at + v) b s → length a ≡ v → length b ≡ w → at + (v + w) ≤ length o → t ≡ put_at (v + w) at (a ++ b) o
put_both v w at a b o s t e f p q h =
    let placed-a : s ≡ placed at a o = e ∙ put_placed v at a o (omega arith) in
    let l : length s ≡ length o = ap length placed-a ∙ length-placed at a o (omega arith) in
    let n : at + v ≡ at + length a = ap (λ k. at + k) (sym p) in
    f ∙ put_placed w (at + v) b s (omega arith) ∙ ap (placed (at + v) b) placed-a ∙ placed-next at (at + v) a b o n (omega arith) ∙ sym (put_placed (v + w) at (a ++ b) o h)

-- a field has no value beyond its octets
pub field_small : (w at : ℕ) (o : List ℕ) → at + w ≤ length o → ((i : ℕ) → get_or o i 0 < 256) → field_at w at o < 256 ^ w
field_small zero at o h u = lit< tt
field_small (suc w) at o h u =
    let e : field_at (suc w) at o ≡ field_at w at o * 256 + get_or o (at + w) 0 = rw add-one at (wider o at w (omega arith)) in
    rw e (rw add-one at (one_more w (field_at w at o) (get_or o (at + w) 0) (field_small w at o (omega arith) u) (u (at + w))))

-- the octets from a place on begin with those of the field there
pub field_split : (w at n : ℕ) (o : List ℕ) → n ≡ at + w → n ≤ length o → ((i : ℕ) → get_or o i 0 < 256) → drop at o ≡ octets_of w (field_at w at o) ++ drop n o
field_split w at n o f h u =
    let e : octets_of w (field_at w at o) ≡ take w (drop at o) = octets_number w (drop at o) (simp length-drop (omega arith)) (λ i. rw get_or-drop (u (at + i))) in
    rw (e, f, ← drop-drop w at o) (sym (take-append-drop w (drop at o)))
