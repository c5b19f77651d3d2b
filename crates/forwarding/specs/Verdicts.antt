-- What a choice comes to. Assumes nothing.
use Rattle.std.specs.Prelude.{◌≡◌, ℕ, ◌<◌, Bool, true, cond, List, [], ◌∷◌, slice_index_or}
use Rattle.std.specs.List.{ContainsAt}
use Rattle.fields.specs.declared.position.Position.{Position}
use Rattle.link.specs.Addresses.{link_address, broadcast, nobody}
use Rattle.link.specs.Frames.{Frame, frame}
use Rattle.link.specs.declared.address.LinkAddress.{LinkAddress}
use Rattle.policy.specs.declared.choice.Choice.{Choice}
use Rattle.policy.specs.declared.choice.Choice.TheVariants as say
use Rattle.location_table.specs.Stations.{Station}
use Rattle.forwarding.specs.declared.verdict.Verdict.{Verdict}
use Rattle.forwarding.specs.declared.verdict.Verdict.TheVariants.{Broadcast, Unicast, Wait, Hold, NoProgress, NoSpace}

abbrev pub number : Verdict → ℕ
number Broadcast = 1
number (Unicast to) = 2
number (Wait millis) = 3
number Hold = 4
number NoProgress = 6
number NoSpace = 7

-- a verdict that puts a frame on the link needs space for it
abbrev pub spaced : Bool → Verdict → Verdict
spaced space v = cond space v NoSpace

-- the verdict on a choice, for a packet with or without store-carry-forward, the neighbours' link addresses and the space
abbrev pub judged : Choice → Bool → List LinkAddress → Bool → Verdict
judged (say.Neighbour i) held to space = spaced space (Unicast (slice_index_or to i nobody))
judged (say.Wait millis) held to space = Wait millis
judged say.NoProgress held to space = NoProgress
judged say.Nobody held to space = cond held Hold (spaced space Broadcast)

-- the frames that a verdict puts on the link
abbrev pub frames_of : Verdict → List ℕ → List Frame
frames_of Broadcast packet = frame broadcast packet ∷ []
frames_of (Unicast to) packet = frame to packet ∷ []
frames_of (Wait millis) packet = []
frames_of Hold packet = []
frames_of NoProgress packet = []
frames_of NoSpace packet = []

-- a verdict that asks nothing of the link leaves all of it as it was
abbrev pub Untouched : {L : Type 0} → Verdict → L → L → Type 0
Untouched Broadcast before after = Unit {0}
Untouched (Unicast to) before after = Unit {0}
Untouched (Wait millis) before after = after ≡ before
Untouched Hold before after = after ≡ before
Untouched NoProgress before after = after ≡ before
Untouched NoSpace before after = Unit {0}

-- a station of the table that is marked as a neighbour, has this link address, and is strictly nearer to the target than we
-- are
pub record Carrier (span : Position → ℕ) (ours : Position) (stations : List Station) (to : LinkAddress) : Type 0 where
  pub station : Station
  pub known : ContainsAt stations station
  pub marked : station.neighbour ≡ true
  pub addressed : link_address station.vector.address ≡ to
  pub nearer : span station.vector.position < span ours

-- a frame for one station goes to such a one
abbrev pub Nearer : (Position → ℕ) → Position → List Station → Verdict → Type 0
Nearer span ours stations Broadcast = Unit {0}
Nearer span ours stations (Unicast to) = Carrier span ours stations to
Nearer span ours stations (Wait millis) = Unit {0}
Nearer span ours stations Hold = Unit {0}
Nearer span ours stations NoProgress = Unit {0}
Nearer span ours stations NoSpace = Unit {0}
