-- What is done with a packet: decided first, and then done. Assumes nothing.
use Rattle.std.specs.Prelude.{ℕ, Bool, cond, List, [], ◌∷◌, length, Option, nat_lt}
use Rattle.std.specs.Option.{option_map}
use Rattle.fields.specs.declared.position.Position.{Position}
use Rattle.vectors.specs.declared.long.LongPositionVector.{LongPositionVector}
use Rattle.link.specs.Addresses.{broadcast}
use Rattle.link.specs.Frames.{Frame, frame}
use Rattle.link.specs.declared.address.LinkAddress.{LinkAddress}
use Rattle.policy.specs.declared.choice.Choice.{Choice}
use Rattle.location_table.specs.Neighbours.{link_addresses}
use Rattle.location_table.specs.Stations.{Station}
use Rattle.forwarding.specs.Questions.{advice}
use Rattle.forwarding.specs.Verdicts.{judged, spaced}
use Rattle.forwarding.specs.declared.verdict.Verdict.{Verdict as Carriage}
use Rattle.forwarding.specs.declared.verdict.Verdict.TheVariants as carriage
use Rattle.rules.specs.Packets.{carries, target_of}
use Rattle.rules.specs.World.{Waiter, Around}
use Rattle.rules.specs.declared.hold.Hold.{Hold}
use Rattle.rules.specs.declared.hold.Hold.TheVariants.{Millis, Neighbour}
use Rattle.rules.specs.declared.verdict.Verdict.{Verdict}
use Rattle.rules.specs.declared.verdict.Verdict.TheVariants as verdict

pub data Deed : Type 0 where
  -- nothing more is to be done
  rests : Deed
  -- a frame to everybody, or to one station
  to_all : Deed
  to_one : LinkAddress → Deed
  -- it is taken to wait
  held : Hold → Deed
  -- its hop limit is spent
  spent : Deed
  -- the sender was not farther than we are
  behind : Deed
  -- no space on the link, no place in the line
  no_space : Deed
  full : Deed

abbrev pub hold_verdict : Hold → Verdict
hold_verdict (Millis ms) = verdict.Wait
hold_verdict Neighbour = verdict.Hold

abbrev pub verdict_of : Deed → Verdict
verdict_of rests = verdict.Done
verdict_of to_all = verdict.Broadcast
verdict_of (to_one a) = verdict.Unicast a
verdict_of (held w) = hold_verdict w
verdict_of spent = verdict.HopLimit
verdict_of behind = verdict.NoProgress
verdict_of no_space = verdict.NoSpace
verdict_of full = verdict.LineFull

-- the frame that it puts on the link
abbrev pub sent_by : Deed → List ℕ → List Frame
sent_by rests p = []
sent_by to_all p = frame broadcast p ∷ []
sent_by (to_one a) p = frame a p ∷ []
sent_by (held w) p = []
sent_by spent p = []
sent_by behind p = []
sent_by no_space p = []
sent_by full p = []

-- the packet that it puts into the line
abbrev pub kept_waiting : Deed → ℕ → List ℕ → List Waiter
kept_waiting rests t p = []
kept_waiting to_all t p = []
kept_waiting (to_one a) t p = []
kept_waiting (held w) t p = record { octets = p; since = t; hold = w } ∷ []
kept_waiting spent t p = []
kept_waiting behind t p = []
kept_waiting no_space t p = []
kept_waiting full t p = []

-- the line has 16 places
abbrev pub if_place : List Waiter → Hold → Deed
if_place ws w = cond (nat_lt (length ws) 16) (held w) full

-- what the forwarding step's verdict comes to, with this line
abbrev pub deed_for : List Waiter → Carriage → Deed
deed_for line carriage.Broadcast = to_all
deed_for line (carriage.Unicast to) = to_one to
deed_for line (carriage.Wait ms) = if_place line (Millis ms)
deed_for line carriage.Hold = if_place line Neighbour
deed_for line carriage.NoProgress = behind
deed_for line carriage.NoSpace = no_space

abbrev pub position_of : Station → Position
position_of x = x.vector.position

-- what the policy says, asked for a target
abbrev pub asked_for : Around → LongPositionVector → List Station → Option Station → Position → Choice
asked_for r own table sender target = advice r.choose r.distance (record { ours = own.short.position; sender = option_map position_of sender; target = target }) table

abbrev pub advised : Around → List Station → List Waiter → List ℕ → Choice → Deed
advised r table line p c = deed_for line (judged c (carries p) (link_addresses table) (r.room (length p)))

-- a packet for everybody goes to the broadcast address; for any other the policy is asked
abbrev pub dispatched : Around → LongPositionVector → List Station → List Waiter → Option Station → Bool → List ℕ → Deed
dispatched r own table line sender everywhere p =
    cond everywhere (deed_for line (spaced (r.room (length p)) carriage.Broadcast)) (advised r table line p (asked_for r own table sender (target_of p)))
