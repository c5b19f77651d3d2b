use Rattle.std.proofs.Common.{◌≡◌, slice_get, sym, ap, ◌∙◌, rules}
use Rattle.std.specs.List.{filter}
use Rattle.std.specs.Option.{option_map}
use Rattle.std.proofs.lemmas.Iterator.{YieldsList-from_slice}
use Rattle.std.proofs.lemmas.Iterator.Consumers.{nth_from_yields_List, YieldsList-from_filter}
use Rattle.location_table.proofs.Marked.{nth_address, address_of}
use Rattle.location_table.proofs.table.LocationTable.link_address.Goals as goal

pub returns-clause-value : goal.returns-clause-value
returns-clause-value c =
    let table = c.args.self.now in
    let found : option_map (λ e. e.now) c.nth.result ≡ slice_get (filter (λ e. e.neighbour) table) c.args.index =
    nth_from_yields_List c.nth.result c.nth.new.self c.args.index c.nth.ensures.ran
    (YieldsList-from_filter _ (λ e. e.neighbour) (YieldsList-from_slice table cc) c.filter-neighbours.ensures.closure (λ x b q k. search rules)) in
    let made : c.map.result ≡ option_map address_of (option_map (λ e. e.now) c.nth.result) = search rules in
    made ∙ ap (option_map address_of) found ∙ sym (nth_address table c.args.index)
