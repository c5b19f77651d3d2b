-- The link addresses of the marked entries. Assumes nothing.
use Rattle.std.proofs.Common.{◌≡◌, ℕ, List, [], ◌∷◌, map, slice_get, refl, ap, ◌∙◌, arith}
use Rattle.std.proofs.lemmas.Grind.{common_steps}
use Rattle.std.proofs.lemmas.Option.{slice_get-map}
use Rattle.std.specs.List.{filter}
use Rattle.std.specs.Option.{option_map}
use Rattle.link.specs.Addresses.{link_address}
use Rattle.link.specs.declared.address.LinkAddress.{LinkAddress}
use Rattle.location_table.specs.Neighbours.{link_addresses}
use Rattle.location_table.specs.Stations.{stations_in}
use Rattle.location_table.specs.declared.entry.Entry.{Entry}

abbrev pub address_of : Entry → LinkAddress
address_of e = link_address e.vector.address

of_marked : (es : List Entry) → link_addresses (stations_in es) ≡ map address_of (filter (λ e. e.neighbour) es)
of_marked [] = refl
of_marked (e ∷ es) = grind (arith, common_steps, of_marked es)

pub nth_address : (es : List Entry) (i : ℕ) → slice_get (link_addresses (stations_in es)) i ≡ option_map address_of (slice_get (filter (λ e. e.neighbour) es) i)
nth_address es i = ap (λ (l : List LinkAddress). slice_get l i) (of_marked es) ∙ slice_get-map address_of (filter (λ e. e.neighbour) es) i
