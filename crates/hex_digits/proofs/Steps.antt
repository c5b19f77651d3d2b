-- One more character of a text. Assumes nothing.
use Rattle.std.proofs.Common.{◌≡◌, ℕ, ◌+◌, ◌*◌, ◌<◌, ◌≤◌, true, false, cond, List, [], ◌∷◌, ◌++◌, length, get_or, drop, Some, None, Option, refl, ap, ◌∙◌}
use Rattle.std.proofs.lemmas.List.{drop_more, drop_all}
use Rattle.std.proofs.lemmas.Bool.{cond-true, cond-false}
use Rattle.hex_digits.specs.Hex.{blank, digit_of, next, decoded_from}

decoded_more : (text octets : List ℕ) (i : ℕ) (high : Option ℕ) → i < length text → decoded_from (drop i text) octets high ≡ cond (blank (get_or text i 0)) (decoded_from (drop (i + 1) text) octets high) (next (decoded_from (drop (i + 1) text)) octets high (digit_of (get_or text i 0)))
unfolding decoded_from
decoded_more text octets i high h = ap (λ t. decoded_from t octets high) (drop_more text i 0 h)

-- a blank changes nothing
pub decoded-blank : (text octets : List ℕ) (i : ℕ) (high : Option ℕ) → i < length text → blank (get_or text i 0) ≡ true → decoded_from (drop i text) octets high ≡ decoded_from (drop (i + 1) text) octets high
decoded-blank text octets i high h e = decoded_more text octets i high h ∙ cond-true _ _ _ e

-- another character takes its turn as a digit
decoded_dark : (text octets : List ℕ) (i : ℕ) (high digit : Option ℕ) → i < length text → blank (get_or text i 0) ≡ false → digit ≡ digit_of (get_or text i 0) → decoded_from (drop i text) octets high ≡ next (decoded_from (drop (i + 1) text)) octets high digit
decoded_dark text octets i high digit h e f =
    decoded_more text octets i high h ∙ cond-false _ _ _ e ∙ rw f refl

pub decoded_other : (text octets : List ℕ) (i : ℕ) (high : Option ℕ) → i < length text → blank (get_or text i 0) ≡ false → None ≡ digit_of (get_or text i 0) → decoded_from (drop i text) octets high ≡ None
decoded_other text octets i None h e f = decoded_dark text octets i None None h e f
decoded_other text octets i (Some d) h e f = decoded_dark text octets i (Some d) None h e f

pub decoded_high : (text octets : List ℕ) (i d : ℕ) → i < length text → blank (get_or text i 0) ≡ false → Some d ≡ digit_of (get_or text i 0) → decoded_from (drop i text) octets None ≡ decoded_from (drop (i + 1) text) octets (Some d)
decoded_high text octets i d h e f = decoded_dark text octets i None (Some d) h e f

pub decoded-low : (text octets : List ℕ) (i k d : ℕ) → i < length text → blank (get_or text i 0) ≡ false → Some d ≡ digit_of (get_or text i 0) → decoded_from (drop i text) octets (Some k) ≡ decoded_from (drop (i + 1) text) (octets ++ (k * 16 + d) ∷ []) None
decoded-low text octets i k d h e f = decoded_dark text octets i (Some k) (Some d) h e f

-- the end of the text
pub decoded_even : (text octets : List ℕ) (i : ℕ) → length text ≤ i → decoded_from (drop i text) octets None ≡ Some octets
unfolding decoded_from
decoded_even text octets i h = ap (λ t. decoded_from t octets None) (drop_all i text h)

pub decoded_odd : (text octets : List ℕ) (i k : ℕ) → length text ≤ i → decoded_from (drop i text) octets (Some k) ≡ None
unfolding decoded_from
decoded_odd text octets i k h = ap (λ t. decoded_from t octets (Some k)) (drop_all i text h)
