-- What a line says, and which lines say nothing. Assumes nothing.
use Rattle.std.specs.Prelude.{ℕ, ◌-◌, Bool, cond, ◌&&◌, ◌||◌, List, length, take, ◌==◌, nat_le, slice_index}
use Rattle.std.specs.List.{list_all}
use Rattle.hex_digits.specs.Hex.{blank}

-- whether a line ends with an octet
abbrev pub ends_with : ℕ → List ℕ → Bool
ends_with octet line = nat_le 1 (length line) && slice_index line (length line - 1) == octet

-- the line without its last octet, if that is this one
abbrev pub without_end : ℕ → List ℕ → List ℕ
without_end octet line = cond (ends_with octet line) (take (length line - 1) line) line

-- a line feed ends the line, and one carriage return before it is no part of it
abbrev pub content_of : List ℕ → List ℕ
content_of line = cond (ends_with 10 line) (without_end 13 (without_end 10 line)) line

-- nothing but spaces and tabs
abbrev pub all_blank : List ℕ → Bool
all_blank = list_all blank

-- a comment begins with `#` in its first place
abbrev pub comment : List ℕ → Bool
comment text = nat_le 1 (length text) && slice_index text 0 == 35

-- a line that is passed over
abbrev pub passed_over : List ℕ → Bool
passed_over text = comment text || all_blank text
