use Rattle.std.proofs.Common.{◌≡◌, ◌≤◌, take}
use Rattle.arrayvec.specs.ArrayVec.{array_vec_len}
use Rattle.location_table.specs.Neighbours.{distances}
use Rattle.location_table.specs.Stations.{stations_in}
use Rattle.location_table.proofs.table.LocationTable.measure.Given as goal

abbrev pub invariant-loop-entry : goal.invariant-loop-entry
invariant-loop-entry g l = record {
  few : array_vec_len l.near ≤ l.entry-index;
  measured : l.near.items ≡ distances (λ p. g.G.Ground.span l.ground p l.target) (stations_in (take l.entry-index l.entry-items));
}
