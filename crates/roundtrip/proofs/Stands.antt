-- Octets that stand at a place, and their parts. Assumes nothing.
use Rattle.std.proofs.Common.{◌≡◌, ℕ, ◌+◌, ◌^◌, ◌<◌, ◌≤◌, List, ◌++◌, length, get_or, take, drop, Ok, sym, refl, ap, ◌∙◌, arith}
use Rattle.std.proofs.lemmas.List.{drop-drop, drop_at, take_at, length-append, append_assoc}
use Rattle.std.proofs.lemmas.Bool.{le-ltb}
use Rattle.std.specs.Int.Digits.{number_from_digits}
use Rattle.octets.proofs.Width.{number_octets, field_split}
use Rattle.octets.specs.Widths.{length-octets_of}
use Rattle.octets.specs.Faults.{read_at}
use Rattle.octets.specs.Wire.{field_at, octets_of}

-- the `w` octets `part` stand in `o` from the place `at` on
pub record Stands (w at : ℕ) (part o : List ℕ) : Type 0 where
  pub long : length part ≡ w
  pub room : at + w ≤ length o
  pub same : drop at o ≡ part ++ drop (at + w) o

-- the first of two parts
pub first_part : (w v at n : ℕ) (xs ys o : List ℕ) → length xs ≡ w → n ≡ w + v → Stands n at (xs ++ ys) o → Stands w at xs o
first_part w v at n xs ys o e f s =
    let room = s.room in
    let rest : drop (at + w) o ≡ ys ++ drop (at + n) o = sym (drop-drop w at o) ∙ ap (drop w) (s.same ∙ append_assoc xs ys (drop (at + n) o)) ∙ drop_at xs (ys ++ drop (at + n) o) w e in
    record { long = e; room = omega arith; same = s.same ∙ append_assoc xs ys (drop (at + n) o) ∙ ap (λ t. xs ++ t) (sym rest) }

-- the second of two parts
pub second_part : (w v at n m : ℕ) (xs ys o : List ℕ) → length xs ≡ w → n ≡ w + v → m ≡ at + w → Stands n at (xs ++ ys) o → Stands v m ys o
second_part w v at n m xs ys o e f g s =
    let room = s.room in
    let long : length xs + length ys ≡ n = sym (length-append xs ys) ∙ s.long in
    let ends : at + n ≡ m + v = omega arith in
    let rest : drop m o ≡ ys ++ drop (at + n) o = ap (λ i. drop i o) g ∙ sym (drop-drop w at o) ∙ ap (drop w) (s.same ∙ append_assoc xs ys (drop (at + n) o)) ∙ drop_at xs (ys ++ drop (at + n) o) w e in
    record { long = omega arith; room = omega arith; same = rest ∙ ap (λ i. ys ++ drop i o) ends }

-- each of two parts, and of three and four
pub two_parts : (a b at : ℕ) (xs ys o : List ℕ) → length xs ≡ a → Stands (a + b) at (xs ++ ys) o → Stands a at xs o × Stands b (at + a) ys o
two_parts a b at xs ys o e s = (first_part a b at (a + b) xs ys o e refl s, second_part a b at (a + b) (at + a) xs ys o e refl refl s)

pub three_parts : (a b c at : ℕ) (xs ys zs o : List ℕ) → length xs ≡ a → length ys ≡ b → Stands (a + b + c) at (xs ++ ys ++ zs) o → Stands a at xs o × Stands b (at + a) ys o × Stands c (at + (a + b)) zs o
three_parts a b c at xs ys zs o e f s =
    let last = two_parts (a + b) c at (xs ++ ys) zs o (length-append xs ys ∙ rw (e, f)) s in
    let front = two_parts a b at xs ys o e last.0 in
    (front.0, front.1, last.1)

pub four_parts : (a b c d at : ℕ) (xs ys zs ws o : List ℕ) → length xs ≡ a → length ys ≡ b → length zs ≡ c → Stands (a + b + c + d) at (xs ++ ys ++ zs ++ ws) o → Stands a at xs o × Stands b (at + a) ys o × Stands c (at + (a + b)) zs o × Stands d (at + (a + b + c)) ws o
four_parts a b c d at xs ys zs ws o e f g s =
    let last = two_parts (a + b + c) d at (xs ++ ys ++ zs) ws o (length-append (xs ++ ys) zs ∙ rw (length-append xs ys, e, f, g)) s in
    let front = three_parts a b c at xs ys zs o e f last.0 in
    (front.0, front.1, front.2, last.1)

-- two parts, one right after the other, are one
pub both_parts : (w v at m n : ℕ) (xs ys o : List ℕ) → m ≡ at + w → n ≡ w + v → Stands w at xs o → Stands v m ys o → Stands n at (xs ++ ys) o
both_parts w v at m n xs ys o f g s t =
    let a = s.long in
    let b = t.long in
    let room = t.room in
    let ends : m + v ≡ at + n = omega arith in
    record {
      long = length-append xs ys ∙ omega arith;
      room = omega arith;
      same = s.same ∙ ap (λ i. xs ++ drop i o) (sym f) ∙ ap (λ r. xs ++ r) (t.same ∙ ap (λ i. ys ++ drop i o) ends) ∙ sym (append_assoc xs ys (drop (at + n) o));
    }

-- a number that stands at a place is read there
pub number_read : (w at n : ℕ) (o : List ℕ) → n < 256 ^ w → Stands w at (octets_of w n) o → read_at w at o ≡ Ok n
number_read w at n o h s =
    let f : field_at w at o ≡ n = ap (λ t. number_from_digits 256 (take w t)) s.same ∙ ap (number_from_digits 256) (take_at (octets_of w n) (drop (at + w) o) w (length-octets_of w n)) ∙ number_octets w n h in
    rw (le-ltb (length o) (at + w) s.room, f)

-- the number of the octets at a place stands there
pub number_stands : (w at : ℕ) (o : List ℕ) → ((i : ℕ) → get_or o i 0 < 256) → at + w ≤ length o → Stands w at (octets_of w (field_at w at o)) o
number_stands w at o u h = record { long = length-octets_of w (field_at w at o); room = h; same = field_split w at (at + w) o refl h u }
