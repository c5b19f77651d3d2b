-- The link address of a station.
use Rattle.std.specs.Prelude.{Bool, drop, replicate, ◌==◌}
use Rattle.octets.specs.Wire.{octets_of, field_at}
use Rattle.fields.specs.declared.address.Address.{Address}
use Rattle.link.specs.declared.address.LinkAddress.{LinkAddress}

-- the last six of the eight octets of its address
abbrev pub link_address : Address → LinkAddress
link_address a = record { octets = drop 2 (octets_of 8 a.value) }

-- two link addresses are the same: their six octets are the same number
abbrev pub same_link : LinkAddress → LinkAddress → Bool
same_link a b = field_at 6 0 a.octets == field_at 6 0 b.octets

-- everybody's
abbrev pub broadcast : LinkAddress
broadcast = record { octets = replicate 6 255 }

-- nobody's
abbrev pub nobody : LinkAddress
nobody = record { octets = replicate 6 0 }
