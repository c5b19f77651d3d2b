-- Frames as lines of text, written and read. Assumes nothing.
use Rattle.std.specs.Prelude.{ℕ, ◌+◌, ◌-◌, ◌*◌, ◌/◌, ◌%◌, cond, List, [], ◌∷◌, ◌++◌, map, take, drop, ◌==◌, nat_lt}
use Rattle.std.specs.List.{flat_map}
use Rattle.link.specs.Frames.{Frame, frame}

-- a text, the limit of its length, and for how many octets there is storage
pub record LimitedText : Type 0 where
  pub text : List ℕ
  pub limit : ℕ
  pub storage : ℕ

-- the lower-case hexadecimal digit of a number below 16
abbrev pub digit : ℕ → ℕ
digit n = cond (nat_lt n 10) (48 + n) (87 + n)

-- the two digits of an octet, the higher one first
abbrev pub pair : ℕ → List ℕ
pair x = digit (x / 16) ∷ digit (x % 16) ∷ []

-- two digits for each octet
abbrev pub digits : List ℕ → List ℕ
digits octets = flat_map pair octets

-- the digits of the link address, a comma, and the digits of the packet
abbrev pub row_of : Frame → List ℕ
row_of f = digits f.to.octets ++ 44 ∷ digits f.packet

-- the line of a frame: all that, and a line feed
abbrev pub line_of : Frame → List ℕ
line_of f = row_of f ++ 10 ∷ []

-- the lines of frames, one after another
abbrev pub lines : List Frame → List ℕ
lines fs = flat_map line_of fs

-- the number that a digit stands for
abbrev pub digit_value : ℕ → ℕ
digit_value d = cond (nat_lt d 58) (d - 48) (d - 87)

-- the octets that digits stand for, two by two
abbrev pub octets_in : List ℕ → List ℕ
octets_in [] = []
octets_in (x ∷ []) = []
octets_in (x ∷ y ∷ rest) = (digit_value x * 16 + digit_value y) ∷ octets_in rest

-- the frame that a row says: twelve digits, one octet between, and the rest
abbrev pub frame_in : List ℕ → Frame
frame_in row = frame (record { octets = octets_in (take 12 row) }) (octets_in (drop 13 row))

-- the rows that a line feed ends, where `begun` is what has been read of the first
abbrev pub rows : List ℕ → List ℕ → List (List ℕ)
rows begun [] = []
rows begun (x ∷ xs) = cond (x == 10) (begun ∷ rows [] xs) (rows (begun ++ x ∷ []) xs)

-- the frames that a text says
abbrev pub decoded : List ℕ → List Frame
decoded text = map frame_in (rows [] text)
