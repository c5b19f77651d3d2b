-- What is shown of some octets. Assumes nothing.
use Rattle.std.specs.Prelude.{◌≡◌, ℕ, Bool, true, List, length, Ok, Err, Decides, Result}
use Rattle.packets.specs.Contents.{Content, content, kind_in}
use Rattle.packets.specs.Reading.{reading}
use Rattle.packets.specs.Writing.{wire}
use Rattle.roundtrip.specs.Trips.{Clear}
use Rattle.packets.specs.declared.fault.HeaderFault.{HeaderFault}
use Rattle.outcomes.specs.declared.taken.Taken.{Taken}

-- the flag says whether the octets of the packet are these, as they are if no reserved bit is set
pub record SameFlag (c : Content) (octets : List ℕ) (same : Bool) : Type 0 where
  pub decides : Decides same (wire c ≡ octets)
  pub clear : Clear (kind_in c.header) octets → same ≡ true

-- the same of the packet that was read
abbrev pub WrittenBack : List ℕ → Bool → Type 0
WrittenBack octets same = (c : Content) → reading octets ≡ Ok c → SameFlag c octets same

-- the outcome is the reader's and the writer's
abbrev pub Examined : List ℕ → Result Taken HeaderFault → Type 0
Examined octets (Err fault) = reading octets ≡ Err fault
Examined octets (Ok taken) = (reading octets ≡ Ok (content taken.packet)) × (taken.count ≡ length octets) × SameFlag (content taken.packet) octets taken.same
