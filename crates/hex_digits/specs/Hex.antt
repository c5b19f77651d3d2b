-- Hexadecimal: what a text of digits says. Assumes nothing.
use Rattle.std.specs.Prelude.{ℕ, ◌+◌, ◌-◌, ◌*◌, Bool, cond, ◌&&◌, ◌||◌, List, [], ◌∷◌, ◌++◌, length, Some, None, Option, ◌==◌, nat_le}

-- the value of a digit, upper or lower case
abbrev pub digit_of : ℕ → Option ℕ
digit_of b =
    cond (nat_le 48 b && nat_le b 57) (Some (b - 48))
    (cond (nat_le 97 b && nat_le b 102) (Some (b - 97 + 10))
    (cond (nat_le 65 b && nat_le b 70) (Some (b - 65 + 10)) None))

-- a space or a tab
abbrev pub blank : ℕ → Bool
blank b = b == 32 || b == 9

-- what a digit leads to: it is the high half of an octet, or the low half of the one whose high half is known
abbrev pub next : (List ℕ → Option ℕ → Option (List ℕ)) → List ℕ → Option ℕ → Option ℕ → Option (List ℕ)
next onward octets high None = None
next onward octets None (Some d) = onward octets (Some d)
next onward octets (Some h) (Some d) = onward (octets ++ (h * 16 + d) ∷ []) None

-- what a text says, after these octets and the high half of another
unfoldable pub decoded_from : List ℕ → List ℕ → Option ℕ → Option (List ℕ)
decoded_from [] octets None = Some octets
decoded_from [] octets (Some h) = None
decoded_from (b ∷ text) octets high = cond (blank b) (decoded_from text octets high) (next (decoded_from text) octets high (digit_of b))

-- the octets of a text: blanks are passed over, and there are none for another character or an odd number of digits
abbrev pub decoded : List ℕ → Option (List ℕ)
decoded text = decoded_from text [] None

-- what a digit leads to, if it is one
abbrev pub onward : Option ℕ → (ℕ → Option ℕ) → Option ℕ
onward None f = None
onward (Some d) f = f d

-- the number that digits say, after those of a number
unfoldable pub number_from : List ℕ → ℕ → Option ℕ
number_from [] n = Some n
number_from (b ∷ text) n = onward (digit_of b) (λ d. number_from text (n * 16 + d))

-- the number of 1 to `most` digits
abbrev pub number_of : ℕ → List ℕ → Option ℕ
number_of most text = cond (nat_le 1 (length text) && nat_le (length text) most) (number_from text 0) None
