-- The waiting packets: which of them last, and the first that serves. Assumes nothing.
use Rattle.std.specs.Prelude.{ℕ, ◌+◌, ◌-◌, Bool, List, [], ◌∷◌, Some, None, filter, Option, nat_le}
use Rattle.times.specs.Lifetimes.{lifetime_of}
use Rattle.rules.specs.Packets.{packet_lifetime, relived}
use Rattle.rules.specs.World.{State, Waiter}

-- a packet that has 50 ms or more of its lifetime left lasts
abbrev pub lasts : ℕ → Waiter → Bool
lasts t w = nat_le (t + 50) (w.since + lifetime_of (packet_lifetime w.octets))

abbrev pub live_line : ℕ → State → List Waiter
live_line t s = filter (lasts t) s.line

-- the time that remains, and the packet as it then leaves
abbrev pub remaining : ℕ → Waiter → ℕ
remaining t w = lifetime_of (packet_lifetime w.octets) - (t - w.since)

abbrev pub leaving : ℕ → Waiter → List ℕ
leaving t w = relived (remaining t w) w.octets

-- the first in the line of which f says something, with what stands before and behind it
pub data Pick (X : Type 0) : Type 0 where
  none : Pick X
  one : List Waiter → Waiter → List Waiter → X → Pick X

abbrev pub behind_one : {X : Type 0} → Waiter → Pick X → Pick X
behind_one v none = none
behind_one v (one before w after x) = one (v ∷ before) w after x

abbrev pub pick_here : {X : Type 0} → Waiter → List Waiter → Option X → Pick X → Pick X
pick_here w ws (Some x) rest = one [] w ws x
pick_here w ws None rest = behind_one w rest

abbrev pub pick : {X : Type 0} → (Waiter → Option X) → List Waiter → Pick X
pick f [] = none
pick f (w ∷ ws) = pick_here w ws (f w) (pick f ws)
