-- What a packet holds, with its payload as octets of its own, where the program borrows them. Assumes nothing.
use Rattle.std.specs.Prelude.{ℕ, List, Ok, Err, Result}
use Rattle.vectors.specs.declared.long.LongPositionVector.{LongPositionVector}
use Rattle.packets.specs.declared.common.CommonHeader.{CommonHeader}
use Rattle.packets.specs.declared.headers.AreaHeader.{AreaHeader}
use Rattle.packets.specs.declared.headers.BeaconHeader.{BeaconHeader}
use Rattle.packets.specs.declared.headers.MultiHopHeader.{MultiHopHeader}
use Rattle.packets.specs.declared.headers.SingleHopHeader.{SingleHopHeader}
use Rattle.packets.specs.declared.headers.UnicastHeader.{UnicastHeader}
use Rattle.packets.specs.declared.kind.Kind.{Kind}
use Rattle.packets.specs.declared.kind.Kind.TheVariants as kinds
use Rattle.packets.specs.declared.packet.Packet.{Packet}
use Rattle.packets.specs.declared.packet.Packet.TheVariants as packets

-- the record of one of the six kinds
pub data Header : Type 0 where
  beacon : BeaconHeader → Header
  unicast : UnicastHeader → Header
  anycast : AreaHeader → Header
  broadcast : AreaHeader → Header
  single_hop : SingleHopHeader → Header
  multi_hop : MultiHopHeader → Header

pub record Content : Type 0 where
  pub header : Header
  pub payload : List ℕ

abbrev pub content : Packet → Content
content (packets.Beacon h p) = record { header = beacon h; payload = p.now }
content (packets.Unicast h p) = record { header = unicast h; payload = p.now }
content (packets.Anycast h p) = record { header = anycast h; payload = p.now }
content (packets.Broadcast h p) = record { header = broadcast h; payload = p.now }
content (packets.SingleHop h p) = record { header = single_hop h; payload = p.now }
content (packets.MultiHop h p) = record { header = multi_hop h; payload = p.now }

-- the same of an answer
abbrev pub content_in : {E : Type 0} → Result Packet E → Result Content E
content_in (Ok p) = Ok (content p)
content_in (Err f) = Err f

abbrev pub kind_in : Header → Kind
kind_in (beacon h) = kinds.Beacon
kind_in (unicast h) = kinds.Unicast
kind_in (anycast h) = kinds.Anycast
kind_in (broadcast h) = kinds.Broadcast
kind_in (single_hop h) = kinds.SingleHop
kind_in (multi_hop h) = kinds.MultiHop

abbrev pub common_in : Header → CommonHeader
common_in (beacon h) = h.common
common_in (unicast h) = h.common
common_in (anycast h) = h.common
common_in (broadcast h) = h.common
common_in (single_hop h) = h.common
common_in (multi_hop h) = h.common

abbrev pub source_in : Header → LongPositionVector
source_in (beacon h) = h.source
source_in (unicast h) = h.source
source_in (anycast h) = h.source
source_in (broadcast h) = h.source
source_in (single_hop h) = h.source
source_in (multi_hop h) = h.source
