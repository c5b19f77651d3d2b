-- How the rules' own words for packets agree with the reader, and with the rule for lifetimes. Assumes nothing.
use Rattle.std.specs.Prelude.{◌≡◌, ℕ, ◌+◌, ◌-◌, ◌<◌, true, false, List, length, Some, None, Ok, Option, ◌≢◌, slice_set}
use Rattle.octets.specs.Wire.{placed}
use Rattle.times.specs.Lifetimes.{Best}
use Rattle.times.specs.Timestamps.{newer}
use Rattle.vectors.specs.Vectors.{short_vector_octets}
use Rattle.vectors.specs.declared.short.ShortPositionVector.{ShortPositionVector}
use Rattle.packets.specs.Common.{octet}
use Rattle.packets.specs.Contents.{Content}
use Rattle.packets.specs.Reading.{reading}
use Rattle.location_table.specs.Stations.{Station}
use Rattle.rules.specs.Packets.{header_of, destination_of, target_of, vector_of, number_of, hops_of, packet_lifetime, passed_on, octet_for, relived}
use Rattle.rules.specs.Rules.{reader_fault}

pub record RulesAgree : Type 0 where
  -- what the reader reads is what the rules read
  pub header : (o : List ℕ) (c : Content) → reading o ≡ Ok c → header_of o ≡ Some c.header
  -- one hop on the hop limit is one lower; the lifetime and every other octet before the destination stay; and where there is
  -- no destination, nothing else changes
  pub lower : (known : Option Station) (o : List ℕ) → reader_fault o ≡ None → hops_of (passed_on known o) + 1 ≡ hops_of o
  pub lifetime : (known : Option Station) (o : List ℕ) → reader_fault o ≡ None → packet_lifetime (passed_on known o) ≡ packet_lifetime o
  pub others : (known : Option Station) (o : List ℕ) (i : ℕ) → reader_fault o ≡ None → i < 40 → i < length o → (i ≢ 3) → octet i (passed_on known o) ≡ octet i o
  pub plain : (known : Option Station) (o : List ℕ) → destination_of o ≡ None → passed_on known o ≡ slice_set o 3 (hops_of o - 1)
  -- and in a unicast the destination vector is the known one exactly if that is newer
  pub redirected : (x : Station) (v : ShortPositionVector) (o : List ℕ) → destination_of o ≡ Some v → newer x.vector.timestamp.millis v.timestamp.millis ≡ true
      → passed_on (Some x) o ≡ placed 40 (short_vector_octets x.vector) (slice_set o 3 (hops_of o - 1))
  pub not_redirected : (x : Station) (v : ShortPositionVector) (o : List ℕ) → destination_of o ≡ Some v → newer x.vector.timestamp.millis v.timestamp.millis ≡ false
      → passed_on (Some x) o ≡ slice_set o 3 (hops_of o - 1)
  pub unknown : (o : List ℕ) → passed_on None o ≡ slice_set o 3 (hops_of o - 1)
  -- the octet for a remaining time is the best one, and writing it leaves source, number, target and hop limit
  pub best : (n : ℕ) → Best n (octet_for n)
  pub source_kept : (n : ℕ) (o : List ℕ) → vector_of (relived n o) ≡ vector_of o
  pub number_kept : (n : ℕ) (o : List ℕ) → number_of (relived n o) ≡ number_of o
  pub target_kept : (n : ℕ) (o : List ℕ) → target_of (relived n o) ≡ target_of o
  pub hops_kept : (n : ℕ) (o : List ℕ) → hops_of (relived n o) ≡ hops_of o
