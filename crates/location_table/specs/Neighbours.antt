-- The neighbours of a table, in its order. Assumes nothing.
use Rattle.std.specs.Prelude.{ℕ, List, map, filter}
use Rattle.fields.specs.declared.position.Position.{Position}
use Rattle.link.specs.Addresses.{link_address}
use Rattle.link.specs.declared.address.LinkAddress.{LinkAddress}
use Rattle.location_table.specs.Stations.{Station}

-- those that are marked
abbrev pub neighbours : List Station → List Station
neighbours ss = filter (λ s. s.neighbour) ss

-- their distances, where a distance is a function of the position
abbrev pub distances : (Position → ℕ) → List Station → List ℕ
distances span ss = map (λ s. span s.vector.position) (neighbours ss)

abbrev pub link_addresses : List Station → List LinkAddress
link_addresses ss = map (λ s. link_address s.vector.address) (neighbours ss)
