-- The law of whole runs. Assumes nothing.
use Rattle.std.specs.Prelude.{◌≡◌, ℕ, ◌+◌, ◌-◌, ◌%◌, ◌<◌, ◌≤◌, Bool, true, false, cond, ◌&&◌, ◌||◌, ◌⊎◌, List, [], ◌∷◌, ◌++◌, map, length, Some, None, ◌==◌}
use Rattle.std.specs.List.{AllByRecursion}
use Rattle.link.specs.Addresses.{link_address}
use Rattle.rules.specs.Known.{address_of, among, find}
use Rattle.rules.specs.Packets.{hops_of, number_of, source_of, target_of}
use Rattle.rules.specs.Verdicts.{number, addressed}
use Rattle.law.specs.Fates.{Taking, takings, Fates}
use Rattle.law.specs.Words.{Heard, live_by, repeats, numbers, newly_by, heard, clock, told, placed, numbers_taken, packet, still_live, entered_in_order}
use Rattle.law.specs.World.{is_some, Position, LinkAddress, Frame, frame, Station, State, Call, place, receive, send, serve, Answer, Outcome, accepted, refused, Start, Event, History}

-- (a) The table

abbrev pub Once : List Station → Type 0
Once [] = Unit {0}
Once (x ∷ xs) = (find (address_of x) xs ≡ None) × Once xs

-- each address is listed just as the history tells: with its newest position, time heard, mark and last eight numbers if live by the last accepted call, and else not
pub record Table (w : Start) (h : History) (s : State) : Type 0 where
  pub listed : (a : ℕ) → find a s.table ≡ told w h a
  pub once : Once s.table
  pub not_ours : find w.address.value s.table ≡ None

-- the table is in order of entry, and has 64 places
pub record Entries (h : History) (s : State) : Type 0 where
  pub in_order : map address_of s.table ≡ entered_in_order h
  pub few : length s.table ≤ 64

-- an accepted answer counts the stations let go
abbrev pub CountsStations : Event → History → Type 0
CountsStations e h = (a : Answer) → e.outcome ≡ accepted a → a.stations_gone ≡ length (entered_in_order h) - length (still_live e.time h (entered_in_order h))

-- verdicts 9 and 10 are for what is not newly accepted, and for nothing else
abbrev pub JudgedBy : Event → History → Call → Outcome → Type 0
JudgedBy e h (place p) (accepted a) = (number a.verdict == 9 || number a.verdict == 10) ≡ false
JudgedBy e h (place p) (refused f) = Unit {0}
JudgedBy e h (receive o sender) (accepted a) =
    (number a.verdict == 9 || number a.verdict == 10) ≡ (live_by e.time (heard (source_of o) h) && repeats (number_of o) (heard (source_of o) h))
JudgedBy e h (receive o sender) (refused f) = Unit {0}
JudgedBy e h (send q payload) (accepted a) = (number a.verdict == 9 || number a.verdict == 10) ≡ false
JudgedBy e h (send q payload) (refused f) = Unit {0}
JudgedBy e h serve (accepted a) = (number a.verdict == 9 || number a.verdict == 10) ≡ false
JudgedBy e h serve (refused f) = Unit {0}

abbrev pub Judged : Event → History → Type 0
Judged e h = JudgedBy e h e.call e.outcome

-- (c) The link

abbrev pub EachCall : (Event → History → Type 0) → History → Type 0
EachCall P [] = Unit {0}
EachCall P (e ∷ h) = P e h × EachCall P h

abbrev pub names_frame : ℕ → Bool
names_frame v = v == 1 || v == 2

-- the frame that an outcome names, if it names one
abbrev pub named : Outcome → List ℕ → List Frame
named (refused f) p = []
named (accepted a) p = cond (names_frame (number a.verdict)) (frame (addressed a.verdict) p ∷ []) []

-- the link got the frame that the answer names and nothing else: of a receive or a send the packet that it writes; a place
-- names none
abbrev pub CarriedBy : Start → Event → History → Call → Type 0
CarriedBy w e h (place p) = (e.after ≡ e.before) × ((q : List ℕ) → named e.outcome q ≡ [])
CarriedBy w e h (receive o sender) = e.after ≡ e.before ++ named e.outcome (packet w e h)
CarriedBy w e h (send q payload) = e.after ≡ e.before ++ named e.outcome (packet w e h)
CarriedBy w e h serve = (p : List ℕ) × (e.after ≡ e.before ++ named e.outcome p)

abbrev pub Carried : Start → Event → History → Type 0
Carried w e h = CarriedBy w e h e.call

-- verdicts with which a packet goes on, now or later
abbrev pub sent_or_taken : ℕ → Bool
sent_or_taken v = (v == 1 || v == 2) || (v == 3 || v == 4)

abbrev pub OneLowerBy : Start → Event → History → Call → Outcome → Type 0
OneLowerBy w e h (place p) o = Unit {0}
OneLowerBy w e h (receive o sender) (accepted a) = sent_or_taken (number a.verdict) ≡ true → hops_of (packet w e h) + 1 ≡ hops_of o
OneLowerBy w e h (receive o sender) (refused f) = Unit {0}
OneLowerBy w e h (send q payload) o = Unit {0}
OneLowerBy w e h serve o = Unit {0}

-- what goes on after a receive, now or after a wait, has a hop limit one lower than received
abbrev pub OneLower : Start → Event → History → Type 0
OneLower w e h = OneLowerBy w e h e.call e.outcome

-- where a packet taken comes from: the call with its number wrote it; if that received it, with a hop limit one lower than received. (It leaves with the same: `Left`.)
pub record Origin (w : Start) (h : History) (k : Taking) : Type 0 where
  pub later : History
  pub event : Event
  pub past : History
  pub whole : h ≡ later ++ (event ∷ past)
  pub serial : k.serial ≡ length past
  pub octets : k.what.octets ≡ packet w event past
  pub since : k.what.since ≡ event.time
  pub lower : (o : List ℕ) (sender : LinkAddress) → event.call ≡ receive o sender → hops_of k.what.octets + 1 ≡ hops_of o

-- a live neighbour with this link address that is strictly nearer to the target than we are
pub record Nearer (w : Start) (e : Event) (h : History) (to : LinkAddress) (target : Position) : Type 0 where
  pub station : Station
  pub live : told w (e ∷ h) (address_of station) ≡ Some station
  pub neighbour : station.neighbour ≡ true
  pub addressed : link_address station.vector.address ≡ to
  pub strictly : e.around.distance station.vector.position target < e.around.distance (placed w h).short.position target

abbrev pub NearerIf : Start → Event → History → Type 0
NearerIf w e h =
    (a : Answer) (p : List ℕ) → e.outcome ≡ accepted a → number a.verdict ≡ 2
    → e.after ≡ e.before ++ (frame (addressed a.verdict) p ∷ []) → Nearer w e h (addressed a.verdict) (target_of p)

-- (c) Deliveries

pub record Delivers (a n : ℕ) (e : Event) : Type 0 where
  pub octets : List ℕ
  pub sender : LinkAddress
  pub answer : Answer
  pub received : e.call ≡ receive octets sender
  pub accepting : e.outcome ≡ accepted answer
  pub delivered : is_some answer.delivery ≡ true
  pub source : source_of octets ≡ a
  pub number : number_of octets ≡ Some n

-- what the calls `between` newly accepted from a, the newest first; `old`: the calls before them
abbrev pub newly_between : ℕ → History → History → List Heard
newly_between a [] old = []
newly_between a (e ∷ between) old = newly_by a e (heard a (between ++ old)) ++ newly_between a between old

abbrev pub Different : List ℕ → Type 0
Different [] = Unit {0}
Different (x ∷ xs) = (among x xs ≡ false) × Different xs

-- at least eight different numbers, other than n, among what was heard
pub record EightOthers (n : ℕ) (between : List Heard) : Type 0 where
  pub others : List ℕ
  pub eight : length others ≡ 8
  pub different : Different others
  pub not_it : among n others ≡ false
  pub heard_all : AllByRecursion (λ m. among m (numbers between) ≡ true) others

-- two newly accepted packets, one next after the other, more than 20,000 ms apart
pub record Silence (xs : List Heard) : Type 0 where
  pub later : List Heard
  pub second : Heard
  pub first : Heard
  pub earlier : List Heard
  pub next : xs ≡ later ++ (second ∷ (first ∷ earlier))
  pub long : first.time + 20000 < second.time

-- a number of a station is delivered again only after eight others, or after a silence
abbrev pub Deliveries : History → Type 0
Deliveries h =
    (a n : ℕ) (later : History) (f : Event) (between : History) (e : Event) (old : History)
    → h ≡ later ++ (f ∷ (between ++ (e ∷ old))) → Delivers a n e → Delivers a n f
    → EightOthers n (newly_between a between (e ∷ old)) ⊎ Silence (newly_between a (f ∷ between) (e ∷ old) ++ newly_by a e (heard a old))

-- what is delivered was newly accepted
abbrev pub Fresh : Event → History → Type 0
Fresh e h = (a n : ℕ) → Delivers a n e → (x : Heard) × (newly_by a e (heard a h) ≡ x ∷ []) × (x.number ≡ Some n)

-- only a receive delivers
abbrev pub DeliversNothing : Outcome → Type 0
DeliversNothing (accepted a) = is_some a.delivery ≡ false
DeliversNothing (refused f) = Unit {0}

abbrev pub OnlyReceivesDeliverBy : Call → Outcome → Type 0
OnlyReceivesDeliverBy (place p) x = DeliversNothing x
OnlyReceivesDeliverBy (receive o sender) x = Unit {0}
OnlyReceivesDeliverBy (send q payload) x = DeliversNothing x
OnlyReceivesDeliverBy serve x = DeliversNothing x

abbrev pub OnlyReceivesDeliver : Event → History → Type 0
OnlyReceivesDeliver e h = OnlyReceivesDeliverBy e.call e.outcome

-- what the state keeps besides: our address and placing, the clock, the next number
pub record Basics (w : Start) (h : History) (s : State) : Type 0 where
  pub clock : s.clock ≡ clock w h
  pub own : s.own ≡ placed w h
  pub next : s.next ≡ numbers_taken h % 65536

-- The law
pub record Lawful (w : Start) (h : History) (s : State) : Type 0 where
  pub basics : Basics w h s
  pub table : Table w h s
  pub entries : Entries h s
  pub counted : EachCall CountsStations h
  pub judged : EachCall Judged h
  pub frames : EachCall (Carried w) h
  pub lower : EachCall (OneLower w) h
  pub nearer : EachCall (NearerIf w) h
  pub fates : Fates w h s
  pub origins : AllByRecursion (Origin w h) (takings w h)
  pub fresh : EachCall Fresh h
  pub delivering : EachCall OnlyReceivesDeliver h
  pub deliveries : Deliveries h
