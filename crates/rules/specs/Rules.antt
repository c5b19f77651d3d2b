-- The four calls: what each answers, leaves and puts on its link, as a function of the state, the input and what the call met. Assumes nothing.
use Rattle.std.specs.Prelude.{ℕ, ◌+◌, ◌-◌, ◌%◌, Bool, true, false, cond, not, ◌&&◌, ◌||◌, List, [], ◌∷◌, ◌++◌, length, is_some, Some, None, Ok, Err, Option, Result, ◌==◌, nat_eq, nat_le, nat_lt, slice_index_or}
use Rattle.std.specs.Option.{option_or}
use Rattle.fields.specs.Motions.{motion_from}
use Rattle.fields.specs.Positions.{on_earth}
use Rattle.fields.specs.declared.address.Address.{Address}
use Rattle.vectors.specs.declared.area.Area.{Area}
use Rattle.vectors.specs.declared.long.LongPositionVector.{LongPositionVector}
use Rattle.packets.specs.Common.{hop_limits_fit, lifetime_fits}
use Rattle.packets.specs.Contents.{Content}
use Rattle.packets.specs.Kinds.{headers_of, payload_limit}
use Rattle.packets.specs.Reading.{reading}
use Rattle.packets.specs.declared.fault.HeaderFault.{HeaderFault}
use Rattle.packets.specs.declared.fault.WriteFault.TheVariants as unwritten
use Rattle.packets.specs.declared.kind.Kind.{Kind}
use Rattle.packets.specs.declared.kind.Kind.TheVariants as kinds
use Rattle.ground.specs.Spans.{inside}
use Rattle.link.specs.Addresses.{nobody, broadcast as everybody}
use Rattle.link.specs.Frames.{Frame, frame}
use Rattle.link.specs.declared.address.LinkAddress.{LinkAddress}
use Rattle.policy.specs.declared.choice.Choice.{Choice}
use Rattle.policy.specs.declared.choice.Choice.TheVariants as say
use Rattle.location_table.specs.Neighbours.{link_addresses}
use Rattle.location_table.specs.Stations.{Station}
use Rattle.rules.specs.Packets.{given, packet_kind, source_of, number_of, same_number, destination_of, destination_address, area_of, target_of, hops_of, passed_on}
use Rattle.rules.specs.Known.{find}
use Rattle.rules.specs.Requests.{own_of, body_kind, body_area, body_destination, numbered, wanted, written}
use Rattle.rules.specs.Tables.{with_link, live_table, remembers, noted}
use Rattle.rules.specs.Lines.{live_line, leaving, Pick, none, one, pick}
use Rattle.rules.specs.Deeds.{Deed, rests, spent, verdict_of, sent_by, kept_waiting, asked_for, dispatched}
use Rattle.rules.specs.World.{waits_by_time, Waiter, State, Around, Call, place, receive, send, serve, Outcome, accepted, refused, Start}
use Rattle.rules.specs.declared.answer.Answer.{Answer}
use Rattle.rules.specs.declared.answer.Delivery.{Delivery}
use Rattle.rules.specs.declared.fault.RouterFault.{RouterFault}
use Rattle.rules.specs.declared.fault.RouterFault.TheVariants as no-to
use Rattle.rules.specs.declared.hold.Hold.{Hold}
use Rattle.rules.specs.declared.hold.Hold.TheVariants.{Millis, Neighbour}
use Rattle.rules.specs.declared.placing.Placing.{Placing}
use Rattle.rules.specs.declared.request.Body.{Body}
use Rattle.rules.specs.declared.request.Request.{Request}
use Rattle.rules.specs.declared.verdict.Verdict.{Verdict}
use Rattle.rules.specs.declared.verdict.Verdict.TheVariants as verdict

-- One call

-- what it answers, the state that it leaves, and the frames that it puts on the link
pub record Step : Type 0 where
  pub outcome : Outcome
  pub state : State
  pub sent : List Frame

-- a refused call leaves all as it was
abbrev pub no : State → RouterFault → Step
no s f = record { outcome = refused f; state = s; sent = [] }

-- an accepted answer tells how many stations and packets were let go first
abbrev pub telling : State → ℕ → Option Delivery → Verdict → List Waiter → Answer
telling s t d v line = record {
  stations_gone = length s.table - length (live_table t s);
  packets_gone = length s.line - length (live_line t s);
  delivery = d;
  verdict = v;
  waiting = length line;
}

-- a deed done on a packet, with the table and the number as they are left
abbrev pub does : State → ℕ → List Station → ℕ → Option Delivery → Deed → List ℕ → Step
does s t table next d deed p = record {
  outcome = accepted (telling s t d (verdict_of deed) (live_line t s ++ kept_waiting deed t p));
  state = record { own = s.own; clock = t; next = next; table = table; line = live_line t s ++ kept_waiting deed t p };
  sent = sent_by deed p;
}

-- a call that lets go, and changes no more than the line
abbrev pub only : State → ℕ → Verdict → List Waiter → Step
only s t v line = record {
  outcome = accepted (telling s t None v line);
  state = record { own = s.own; clock = t; next = s.next; table = live_table t s; line = line };
  sent = [];
}

-- the time of a call is at most 281,474,976,710,655, and not below that of the last accepted call
abbrev pub last_time : ℕ
last_time = 281474976710655

abbrev pub bad_time : State → ℕ → Bool
bad_time s t = nat_lt last_time t || nat_lt t s.clock

abbrev pub our_address : State → ℕ
our_address s = s.own.short.address.value

-- Place

abbrev pub bad_placing : Placing → Bool
bad_placing p = not (on_earth p.position) || not (is_some (motion_from p.accurate p.speed))

abbrev pub place_fault : State → ℕ → Placing → Option RouterFault
place_fault s t p = cond (bad_time s t) (Some no-to.Time) (cond (bad_placing p) (Some no-to.Placing) None)

abbrev pub places : State → ℕ → Placing → Step
places s t p = record {
  outcome = accepted (telling s t None verdict.Done (live_line t s));
  state = record { own = own_of s.own.short.address t p; clock = t; next = s.next; table = live_table t s; line = live_line t s };
  sent = [];
}

-- Receive

-- what the reader refuses is refused with its number and place
abbrev pub passed_up : Result Content HeaderFault → Option RouterFault
passed_up (Ok c) = None
passed_up (Err f) = Some (no-to.Packet f)

abbrev pub reader_fault : List ℕ → Option RouterFault
reader_fault o = passed_up (reading o)

-- the source is ourselves, or unknown while 64 others are known
abbrev pub station_fault : State → ℕ → List ℕ → Option RouterFault
station_fault s t o =
    cond (source_of o == our_address s) (Some no-to.OwnAddress)
    (cond (not (is_some (find (source_of o) (live_table t s))) && nat_le 64 (length (live_table t s))) (Some no-to.TableFull) None)

abbrev pub receive_fault : State → ℕ → List ℕ → Option RouterFault
receive_fault s t o = cond (bad_time s t) (Some no-to.Time) (option_or (reader_fault o) (station_fault s t o))

-- step 1: a numbered packet is a duplicate if its source remembers its number
abbrev pub duplicate : State → ℕ → List ℕ → Bool
duplicate s t o = remembers (find (source_of o) (live_table t s)) (number_of o)

-- a copy that waits by time
abbrev pub copy_of : List ℕ → Waiter → Option (Unit {0})
copy_of o w = cond (waits_by_time w.hold && (source_of w.octets == source_of o && same_number (number_of w.octets) (number_of o))) (Some tt) None

abbrev pub cancels : State → ℕ → Pick (Unit {0}) → Step
cancels s t none = only s t verdict.Duplicate (live_line t s)
cancels s t (one before w after x) = only s t verdict.Cancelled (before ++ after)

-- step 3: what is delivered
abbrev pub ours : State → List ℕ → Bool
ours s o = given false (λ v. nat_eq v.address.value (our_address s)) (destination_of o)

abbrev pub in_area : Around → State → Area → Bool
in_area r s a = inside (r.distance s.own.short.position a.centre) a.radius

abbrev pub within : Around → State → List ℕ → Bool
within r s o = given false (in_area r s) (area_of o)

abbrev pub is_beacon : Kind → Bool
is_beacon kinds.Beacon = true
is_beacon kinds.Unicast = false
is_beacon kinds.Anycast = false
is_beacon kinds.Broadcast = false
is_beacon kinds.SingleHop = false
is_beacon kinds.MultiHop = false

abbrev pub is_anycast : Kind → Bool
is_anycast kinds.Beacon = false
is_anycast kinds.Unicast = false
is_anycast kinds.Anycast = true
is_anycast kinds.Broadcast = false
is_anycast kinds.SingleHop = false
is_anycast kinds.MultiHop = false

abbrev pub is_single : Kind → Bool
is_single kinds.Beacon = false
is_single kinds.Unicast = false
is_single kinds.Anycast = false
is_single kinds.Broadcast = false
is_single kinds.SingleHop = true
is_single kinds.MultiHop = false

abbrev pub is_multi : Kind → Bool
is_multi kinds.Beacon = false
is_multi kinds.Unicast = false
is_multi kinds.Anycast = false
is_multi kinds.Broadcast = false
is_multi kinds.SingleHop = false
is_multi kinds.MultiHop = true

abbrev pub payload_of : List ℕ → Delivery
payload_of o = record { place = headers_of (packet_kind o); length = length o - headers_of (packet_kind o) }

abbrev pub delivery_of : Around → State → List ℕ → Option Delivery
delivery_of r s o = cond ((is_single (packet_kind o) || is_multi (packet_kind o)) || (ours s o || within r s o)) (Some (payload_of o)) None

-- step 4: what ends here
abbrev pub ends_here : Around → State → List ℕ → Bool
ends_here r s o = (is_beacon (packet_kind o) || is_single (packet_kind o)) || (ours s o || (is_anycast (packet_kind o) && within r s o))

-- steps 4 to 7, with the table after step 2 and the packet as it is passed on
abbrev pub receive_deed : Around → State → List Station → List Waiter → LinkAddress → List ℕ → List ℕ → Deed
receive_deed r s table line sender o p =
    cond (ends_here r s o) rests
    (cond (hops_of o == 1) spent
    (dispatched r s.own table line (with_link sender table) (is_multi (packet_kind o) || within r s o) p))

abbrev pub receives_new : Around → State → ℕ → List ℕ → LinkAddress → List Station → Step
receives_new r s t o sender table =
    does s t table s.next (delivery_of r s o)
    (receive_deed r s table (live_line t s) sender o (passed_on (find (destination_address o) table) o))
    (passed_on (find (destination_address o) table) o)

abbrev pub receives : Around → State → ℕ → List ℕ → LinkAddress → Bool → Step
receives r s t o sender true = cancels s t (pick (copy_of o) (live_line t s))
receives r s t o sender false = receives_new r s t o sender (noted t o sender (live_table t s))

-- Send

-- a unicast to ourselves, or to a station that is not live
abbrev pub stranger : State → ℕ → Address → Bool
stranger s t a = a.value == our_address s || not (is_some (find a.value (live_table t s)))

abbrev pub send_fault : State → ℕ → Request → List ℕ → Option RouterFault
send_fault s t q payload =
    cond (bad_time s t) (Some no-to.Time)
    (cond (not (hop_limits_fit (body_kind q.body) q.common)) (Some (no-to.Request unwritten.HopLimit))
    (cond (not (lifetime_fits q.common)) (Some (no-to.Request unwritten.Lifetime))
    (cond (given false (λ a. not (on_earth a.centre)) (body_area q.body)) (Some (no-to.Request unwritten.Position))
    (cond (nat_lt (payload_limit (body_kind q.body)) (length payload)) (Some (no-to.Request unwritten.Payload))
    (cond (given false (stranger s t) (body_destination q.body)) (Some no-to.Destination) None)))))

abbrev pub writes : State → ℕ → Request → List ℕ → List ℕ
writes s t q payload = written s.own s.next (find (wanted q.body) (live_table t s)) q payload

-- beacon, single-hop, multi-hop, and area kinds while we are inside, go to everybody
abbrev pub everywhere : Around → State → Body → Bool
everywhere r s b = (is_beacon (body_kind b) || (is_single (body_kind b) || is_multi (body_kind b))) || given false (in_area r s) (body_area b)

abbrev pub count_up : Bool → ℕ → ℕ
count_up true n = (n + 1) % 65536
count_up false n = n

abbrev pub sends : Around → State → ℕ → Request → List ℕ → Step
sends r s t q payload =
    does s t (live_table t s) (count_up (numbered q.body) s.next) None
    (dispatched r s.own (live_table t s) (live_line t s) None (everywhere r s q.body) (writes s t q payload)) (writes s t q payload)

-- Serve

-- how a packet can leave: to whom
pub data Way : Type 0 where
  to_everybody : Way
  to_neighbour : LinkAddress → Way

abbrev pub link_of : List Station → ℕ → LinkAddress
link_of table i = slice_index_or (link_addresses table) i nobody

abbrev pub way_advised : List Station → Choice → Option Way
way_advised table (say.Neighbour i) = Some (to_neighbour (link_of table i))
way_advised table (say.Wait ms) = None
way_advised table say.NoProgress = None
way_advised table say.Nobody = None

abbrev pub way_held : Around → LongPositionVector → List Station → ℕ → Waiter → Hold → Option Way
way_held r own table t w (Millis ms) = cond (nat_le (w.since + ms) t) (Some to_everybody) None
way_held r own table t w Neighbour = way_advised table (asked_for r own table None (target_of w.octets))

abbrev pub way_out : Around → LongPositionVector → List Station → ℕ → Waiter → Option Way
way_out r own table t w = way_held r own table t w w.hold

abbrev pub way_verdict : Way → Verdict
way_verdict to_everybody = verdict.Broadcast
way_verdict (to_neighbour a) = verdict.Unicast a

abbrev pub way_to : Way → LinkAddress
way_to to_everybody = everybody
way_to (to_neighbour a) = a

abbrev pub leaves : State → ℕ → List Waiter → Waiter → List Waiter → Way → Step
leaves s t before w after x = record {
  outcome = accepted (telling s t None (way_verdict x) (before ++ after));
  state = record { own = s.own; clock = t; next = s.next; table = live_table t s; line = before ++ after };
  sent = frame (way_to x) (leaving t w) ∷ [];
}

abbrev pub served : Around → State → ℕ → Pick Way → Step
served r s t none = only s t verdict.Done (live_line t s)
served r s t (one before w after x) = cond (r.room (length (leaving t w))) (leaves s t before w after x) (only s t verdict.NoSpace (live_line t s))

abbrev pub serves : Around → State → ℕ → Step
serves r s t = served r s t (pick (way_out r s.own (live_table t s) t) (live_line t s))

-- The four calls

abbrev pub unless : Option RouterFault → State → Step → Step
unless (Some f) s step = no s f
unless None s step = step

abbrev pub step : State → ℕ → Around → Call → Step
step s t r (place p) = unless (place_fault s t p) s (places s t p)
step s t r (receive o sender) = unless (receive_fault s t o) s (receives r s t o sender (duplicate s t o))
step s t r (send q payload) = unless (send_fault s t q payload) s (sends r s t q payload)
step s t r serve = unless (cond (bad_time s t) (Some no-to.Time) None) s (serves r s t)

-- Opening: a cold router's placing is checked by the limits alone, since there is no accepted call yet
abbrev pub first_fault : ℕ → Placing → Option RouterFault
first_fault t p = cond (nat_lt last_time t) (Some no-to.Time) (cond (bad_placing p) (Some no-to.Placing) None)

-- a router opened, and put on the air by its first placing
abbrev pub on_air : Start → State
on_air w = record { own = own_of w.address w.time w.placing; clock = w.time; next = 0; table = []; line = [] }
