-- The words of a text. Assumes nothing.
use Rattle.std.specs.Prelude.{ℕ, cond, List, [], ◌∷◌, ◌++◌}
use Rattle.hex_digits.specs.Hex.{blank}

-- a word that has ended, before the others; one of no octets is none
abbrev pub ended : List ℕ → List (List ℕ) → List (List ℕ)
ended [] words = words
ended (b ∷ word) words = (b ∷ word) ∷ words

-- the words of a text, after the octets of a word that has begun: each blank ends one
unfoldable pub words_from : List ℕ → List ℕ → List (List ℕ)
words_from [] word = ended word []
words_from (b ∷ text) word = cond (blank b) (ended word (words_from text [])) (words_from text (word ++ b ∷ []))

abbrev pub words_of : List ℕ → List (List ℕ)
words_of text = words_from text []
