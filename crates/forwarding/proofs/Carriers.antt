-- The neighbour that a policy names is nearer than we are. Assumes nothing.
use Rattle.std.proofs.Common.{◌≡◌, ℕ, ◌<◌, Bool, true, false, List, [], length, get_or, pos, Some, Option, slice_get, sym, arith}
use Rattle.std.specs.List.{ContainsAt}
use Rattle.std.proofs.ByRecursion.{all_has_itself, all_kept_by, kept_by_passes, All-get_or}
use Rattle.std.proofs.lemmas.List.{length-map, get_or-map}
use Rattle.std.proofs.lemmas.Option.{get_or_from_slice_get}
use Rattle.fields.specs.declared.position.Position.{Position}
use Rattle.link.specs.Addresses.{link_address, nobody}
use Rattle.link.specs.declared.address.LinkAddress.{LinkAddress}
use Rattle.policy.specs.Choices.{Sound}
use Rattle.policy.specs.declared.choice.Choice.TheVariants.{Neighbour}
use Rattle.location_table.specs.Neighbours.{neighbours, distances, link_addresses}
use Rattle.location_table.specs.Stations.{Station}
use Rattle.forwarding.specs.declared.verdict.Verdict.{Verdict}
use Rattle.forwarding.specs.declared.verdict.Verdict.TheVariants.{Unicast}
use Rattle.forwarding.specs.Verdicts.{Carrier, Nearer, spaced}

-- the default at which a station is read
abbrev blank : Station
blank = record { vector = record { address = record { value = 0 }; timestamp = record { millis = 0 }; position = record { latitude = pos 0; longitude = pos 0 } }; heard = 0; neighbour = false; numbers = [] }

module _ (span : Position → ℕ) (ours : Position) (sender : Option ℕ) (ss : List Station) (i : ℕ) (h : Sound (span ours) sender (distances span ss) (Neighbour i)) where
  within : i < length (neighbours ss)
  within = omega (arith, h.0, length-map (neighbours ss) (λ s. span s.vector.position))

  pub carrier : Carrier span ours ss (get_or (link_addresses ss) i nobody)
  carrier =
      let near = neighbours ss in
      record {
        station = get_or near i blank;
        known = All-get_or (ContainsAt ss) near i blank within (all_kept_by _ (ContainsAt ss) ss (all_has_itself ss));
        marked = All-get_or (λ s. s.neighbour ≡ true) near i blank within (kept_by_passes _ ss);
        addressed = sym (get_or-map (λ (s : Station). link_address s.vector.address) near i blank nobody within);
        nearer = omega (arith, h.1, get_or-map (λ (s : Station). span s.vector.position) near i blank 0 within);
      }

  -- so it is where a frame for it went
  pub went-nearer : (to : LinkAddress) → slice_get (link_addresses ss) i ≡ Some to → (space : Bool) (r : Verdict) → r ≡ spaced space (Unicast to) → Nearer span ours ss r
  went-nearer to found true r e = rw (e, ← get_or_from_slice_get (link_addresses ss) i to nobody found) carrier
  went-nearer to found false r e = rw e tt
