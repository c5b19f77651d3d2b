-- A station as the rules know it, and what an entry of the table says of one. Assumes nothing.
use Rattle.std.specs.Prelude.{ℕ, Bool, List, map, take}
use Rattle.vectors.specs.declared.short.ShortPositionVector.{ShortPositionVector}
use Rattle.location_table.specs.declared.entry.Entry.{Entry}
use Rattle.location_table.specs.declared.numbers.RecentNumbers.{RecentNumbers}

pub record Station : Type 0 where
  -- its address, and its newest position and timestamp
  pub vector : ShortPositionVector
  -- when it was heard last
  pub heard : ℕ
  -- whether it was heard directly
  pub neighbour : Bool
  -- its last numbers, the oldest first
  pub numbers : List ℕ

abbrev pub numbers_in : RecentNumbers → List ℕ
numbers_in r = take r.count r.values

abbrev pub station_in : Entry → Station
station_in e = record { vector = e.vector; heard = e.heard; neighbour = e.neighbour; numbers = numbers_in e.numbers }

abbrev pub stations_in : List Entry → List Station
stations_in es = map station_in es
