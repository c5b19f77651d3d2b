-- Stations as they are looked up, and how much of one is remembered. Assumes nothing.
use Rattle.std.specs.Prelude.{ℕ, ◌-◌, Bool, false, cond, ◌||◌, List, [], ◌∷◌, length, drop, Some, None, Option, ◌==◌}
use Rattle.location_table.specs.Stations.{Station}
use Rattle.rules.specs.Packets.{Mark, same_mark}

abbrev pub address_of : Station → ℕ
address_of x = x.vector.address.value

-- the station with an address
abbrev pub find : ℕ → List Station → Option Station
find a [] = None
find a (x ∷ xs) = cond (address_of x == a) (Some x) (find a xs)

-- a station stays for 20,000 ms
abbrev pub memory_ms : ℕ
memory_ms = 20000

-- the last eight of a list of numbers
abbrev pub last_eight : List Mark → List Mark
last_eight xs = drop (length xs - 8) xs

-- a number is one of these
abbrev pub among : Mark → List Mark → Bool
among n [] = false
among n (m ∷ ms) = same_mark n m || among n ms
