-- What the rules speak of: the router's state, the calls that come, what a call meets, and what it answers. Assumes nothing.
use Rattle.std.specs.Prelude.{ℕ, ◌≤◌, Bool, true, false, List, Option}
use Rattle.fields.specs.declared.address.Address.{Address}
use Rattle.fields.specs.declared.position.Position.{Position}
use Rattle.vectors.specs.declared.long.LongPositionVector.{LongPositionVector}
use Rattle.ground.specs.Spans.{Within}
use Rattle.policy.specs.Choices.{Sound}
use Rattle.policy.specs.declared.choice.Choice.{Choice}
use Rattle.link.specs.declared.address.LinkAddress.{LinkAddress}
use Rattle.location_table.specs.Stations.{Station}
use Rattle.rules.specs.declared.answer.Answer.{Answer}
use Rattle.rules.specs.declared.fault.RouterFault.{RouterFault}
use Rattle.rules.specs.declared.hold.Hold.{Hold}
use Rattle.rules.specs.declared.hold.Hold.TheVariants.{Millis, Neighbour}
use Rattle.rules.specs.declared.placing.Placing.{Placing}
use Rattle.rules.specs.declared.request.Request.{Request}

-- a packet in the waiting line: its octets, the time when it was taken, and what it waits for
pub record Waiter : Type 0 where
  pub octets : List ℕ
  pub since : ℕ
  pub hold : Hold

-- the router: our position vector, with our address; the time of the last accepted call; the next number; the stations and
-- the waiting packets, both in order of entry
pub record State : Type 0 where
  pub own : LongPositionVector
  pub clock : ℕ
  pub next : ℕ
  pub table : List Station
  pub line : List Waiter

-- what one call met: the ground's distances, the policy's choices, the link's space
pub record Around : Type 0 where
  pub distance : Position → Position → ℕ
  pub choose : ℕ → Option ℕ → List ℕ → Choice
  pub room : ℕ → Bool

-- what every ground and every policy keeps to
pub record Meant (r : Around) : Type 0 where
  pub bounded : (p q : Position) → Within p → Within q → r.distance p q ≤ 999999999
  pub sound : (ours : ℕ) (sender : Option ℕ) (near : List ℕ) → Sound ours sender near (r.choose ours sender near)

-- the four calls
pub data Call : Type 0 where
  place : Placing → Call
  receive : (octets : List ℕ) → (sender : LinkAddress) → Call
  send : Request → (payload : List ℕ) → Call
  serve : Call

pub data Outcome : Type 0 where
  accepted : Answer → Outcome
  refused : RouterFault → Outcome

-- a router opened with an address, and put on the air by a placing
pub record Start : Type 0 where
  pub address : Address
  pub time : ℕ
  pub placing : Placing

-- a packet waits by time, or for a neighbour
abbrev pub waits_by_time : Hold → Bool
waits_by_time (Millis ms) = true
waits_by_time Neighbour = false
