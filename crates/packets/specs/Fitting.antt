-- The numbers in the record of a packet fit the integers that hold them, as those of every value of the program do. Assumes nothing.
use Rattle.std.specs.Prelude.{◌^◌, ◌<◌}
use Rattle.vectors.specs.Vectors.{ShortFits, LongFits}
use Rattle.packets.specs.Contents.{Header, beacon, unicast, anycast, broadcast, single_hop, multi_hop}
use Rattle.packets.specs.declared.headers.AreaHeader.{AreaHeader}

pub record AreaFits (h : AreaHeader) : Type 0 where
  pub number : h.number.value < 256 ^ 2
  pub source : LongFits h.source
  pub radius : h.area.radius < 256 ^ 2
  pub distance : h.area.distance_b < 256 ^ 2
  pub angle : h.area.angle < 256 ^ 2

abbrev pub Fits : Header → Type 0
Fits (beacon h) = LongFits h.source
Fits (unicast h) = (h.number.value < 256 ^ 2) × LongFits h.source × ShortFits h.destination
Fits (anycast h) = AreaFits h
Fits (broadcast h) = AreaFits h
Fits (single_hop h) = LongFits h.source × (h.media < 256 ^ 4)
Fits (multi_hop h) = (h.number.value < 256 ^ 2) × LongFits h.source
