-- (b) What becomes of each packet that was taken to wait. Assumes nothing.
use Rattle.std.specs.Prelude.{◌≡◌, ℕ, ◌+◌, ◌-◌, ◌<◌, ◌≤◌, Bool, true, false, cond, ◌||◌, List, [], ◌∷◌, ◌++◌, map, length, Some, None, Option, ◌==◌, slice_set}
use Rattle.std.specs.List.{AllByRecursion}
use Rattle.times.specs.Lifetimes.{lifetime_of, Best}
use Rattle.rules.specs.Packets.{hops_of, packet_lifetime, number_of, same_number, source_of}
use Rattle.rules.specs.World.{waits_by_time}
use Rattle.rules.specs.Verdicts.{number, addressed}
use Rattle.law.specs.Words.{clock, packet}
use Rattle.law.specs.World.{frame, LinkAddress, Waiter, State, Call, place, receive, send, serve, Answer, Outcome, accepted, refused, Start, Event, History}

-- a packet taken to wait: until a time has passed, or else for a neighbour
pub record Taken : Type 0 where
  pub octets : List ℕ
  pub since : ℕ
  pub timed : Bool

-- and the call that took it: the oldest call has the number 0
pub record Taking : Type 0 where
  pub serial : ℕ
  pub what : Taken

abbrev pub takes_at : Start → Event → History → ℕ → List Taking
takes_at w e h v = cond (v == 3 || v == 4) (record { serial = length h; what = record { octets = packet w e h; since = e.time; timed = (v == 3) } } ∷ []) []

abbrev pub takes_by : Start → Event → History → Call → Outcome → List Taking
takes_by w e h (place p) o = []
takes_by w e h (receive p sender) (accepted a) = takes_at w e h (number a.verdict)
takes_by w e h (receive p sender) (refused f) = []
takes_by w e h (send q payload) (accepted a) = takes_at w e h (number a.verdict)
takes_by w e h (send q payload) (refused f) = []
takes_by w e h serve o = []

-- receive or send with verdict 3 or 4 takes the packet that it writes
abbrev pub takes : Start → Event → History → List Taking
takes w e h = takes_by w e h e.call e.outcome

-- the packets taken, the oldest first
abbrev pub takings : Start → History → List Taking
takings w [] = []
takings w (e ∷ h) = takings w h ++ takes w e h

pub data Fate : Type 0 where
  left : ℕ → Fate
  cancelled : ℕ → Fate
  let_go : ℕ → Fate
  waits : Fate

pub record Fated : Type 0 where
  pub taking : Taking
  pub fate : Fate

abbrev pub same_fate : Fate → Fate → Bool
same_fate (left i) (left j) = j == i
same_fate (left i) (cancelled j) = false
same_fate (left i) (let_go j) = false
same_fate (left i) waits = false
same_fate (cancelled i) (left j) = false
same_fate (cancelled i) (cancelled j) = j == i
same_fate (cancelled i) (let_go j) = false
same_fate (cancelled i) waits = false
same_fate (let_go i) (left j) = false
same_fate (let_go i) (cancelled j) = false
same_fate (let_go i) (let_go j) = j == i
same_fate (let_go i) waits = false
same_fate waits (left j) = false
same_fate waits (cancelled j) = false
same_fate waits (let_go j) = false
same_fate waits waits = true

-- how many met this fate
abbrev pub tally : Fate → List Fated → ℕ
tally g [] = 0
tally g (f ∷ fs) = cond (same_fate f.fate g) 1 0 + tally g fs

abbrev pub one_waiting : Fate → Taken → List Taken
one_waiting (left j) x = []
one_waiting (cancelled j) x = []
one_waiting (let_go j) x = []
one_waiting waits x = x ∷ []

abbrev pub waiting_in : List Fated → List Taken
waiting_in [] = []
waiting_in (f ∷ fs) = one_waiting f.fate f.taking.what ++ waiting_in fs

-- what the line shows of a packet
abbrev pub seen : Waiter → Taken
seen v = record { octets = v.octets; since = v.since; timed = waits_by_time v.hold }

abbrev pub call_at : History → ℕ → Option Event
call_at [] j = None
call_at (e ∷ h) j = cond (j == length h) (Some e) (call_at h j)

abbrev pub life : Taken → ℕ
life x = lifetime_of (packet_lifetime x.octets)

-- it left with this serve, with 50 ms or more left, unchanged but for its lifetime octet, the one for the time that remained
pub record Left (x : Taken) (e : Event) : Type 0 where
  pub serving : e.call ≡ serve
  pub answer : Answer
  pub accepting : e.outcome ≡ accepted answer
  pub verdict : number answer.verdict ≡ cond x.timed 1 2
  pub later : x.since ≤ e.time
  pub lasting : e.time + 50 ≤ x.since + life x
  pub octet : ℕ
  pub best : Best (life x - (e.time - x.since)) octet
  pub frame : e.after ≡ e.before ++ (frame (addressed answer.verdict) (slice_set x.octets 2 octet) ∷ [])
  pub no_more : lifetime_of octet ≤ life x - (e.time - x.since)
  pub hops : hops_of (slice_set x.octets 2 octet) ≡ hops_of x.octets

-- it waited by time and had 50 ms or more left, and this receive of the same source and number cancelled it
pub record Cancelled (x : Taken) (e : Event) : Type 0 where
  pub octets : List ℕ
  pub sender : LinkAddress
  pub receiving : e.call ≡ receive octets sender
  pub answer : Answer
  pub accepting : e.outcome ≡ accepted answer
  pub verdict : number answer.verdict ≡ 10
  pub lasting : e.time + 50 ≤ x.since + life x
  pub timed : x.timed ≡ true
  pub source : source_of x.octets ≡ source_of octets
  pub number : same_number (number_of x.octets) (number_of octets) ≡ true

-- it had less than 50 ms left at this call
pub record LetGo (x : Taken) (e : Event) : Type 0 where
  pub answer : Answer
  pub accepting : e.outcome ≡ accepted answer
  pub short : x.since + life x < e.time + 50

-- the call number j was such a one, and came after the taking
pub record LaterCall (h : History) (i j : ℕ) (P : Event → Type 0) : Type 0 where
  pub event : Event
  pub at_call : call_at h j ≡ Some event
  pub after : i < j
  pub that : P event

abbrev pub MetBy : History → Taking → Fate → Type 0
MetBy h k (left j) = LaterCall h k.serial j (Left k.what)
MetBy h k (cancelled j) = LaterCall h k.serial j (Cancelled k.what)
MetBy h k (let_go j) = LaterCall h k.serial j (LetGo k.what)
MetBy h k waits = k.serial < length h

-- how many packets a call's answer says left, were cancelled, were let go
abbrev pub left_answer : Call → Answer → ℕ
left_answer (place p) a = 0
left_answer (receive o sender) a = 0
left_answer (send q payload) a = 0
left_answer serve a = cond (number a.verdict == 1 || number a.verdict == 2) 1 0

abbrev pub lefts : Event → ℕ
lefts e = elim e.outcome [ accepted a ↦ left_answer e.call a | refused _ ↦ 0 ]

abbrev pub cancelleds : Event → ℕ
cancelleds e = elim e.outcome [ accepted a ↦ cond (number a.verdict == 10) 1 0 | refused _ ↦ 0 ]

abbrev pub gone : Event → ℕ
gone e = elim e.outcome [ accepted a ↦ a.packets_gone | refused _ ↦ 0 ]

abbrev pub all_calls : (Event → ℕ) → History → ℕ
all_calls f [] = 0
all_calls f (e ∷ h) = all_calls f h + f e

-- how many wait, as the last accepted answer counts
abbrev pub still_waiting : History → ℕ
still_waiting [] = 0
still_waiting (e ∷ h) = elim e.outcome [ accepted a ↦ a.waiting | refused _ ↦ still_waiting h ]

abbrev pub Lasting : ℕ → Taken → Type 0
Lasting t x = (x.since ≤ t) × (t + 50 ≤ x.since + life x)

-- the first waits by time, and a duplicate of the one is a duplicate of the other
pub record Copies (x y : Taken) : Type 0 where
  pub timed : x.timed ≡ true
  pub source : source_of x.octets ≡ source_of y.octets
  pub number : same_number (number_of x.octets) (number_of y.octets) ≡ true

-- a fate met before the call j, or by its letting go
abbrev pub EndedBefore : ℕ → Fate → Type 0
EndedBefore j (left i) = i < j
EndedBefore j (cancelled i) = i < j
EndedBefore j (let_go i) = i ≤ j
EndedBefore j waits = ⊥

-- where the second is cancelled by a call, the first, taken earlier, is no copy of it, or had met its fate
abbrev pub FirstCancelled : Fated → Fated → Type 0
FirstCancelled f g = (j : ℕ) → g.fate ≡ cancelled j → Copies f.taking.what g.taking.what → EndedBefore j f.fate

-- each of a list with each that follows it
abbrev pub Pairs : {X : Type 0} → (X → X → Type 0) → List X → Type 0
Pairs R [] = Unit {0}
Pairs R (x ∷ xs) = AllByRecursion (R x) xs × Pairs R xs

pub record Fates (w : Start) (h : History) (s : State) : Type 0 where
  -- each packet taken has one fate
  pub fates : List Fated
  pub each_taken : map (λ f. f.taking) fates ≡ takings w h
  pub met : AllByRecursion (λ f. MetBy h f.taking f.fate) fates
  -- each call's answer counts those that met theirs by it
  pub left_by : (j : ℕ) (e : Event) → call_at h j ≡ Some e → tally (left j) fates ≡ lefts e
  pub cancelled_by : (j : ℕ) (e : Event) → call_at h j ≡ Some e → tally (cancelled j) fates ≡ cancelleds e
  pub let_go_by : (j : ℕ) (e : Event) → call_at h j ≡ Some e → tally (let_go j) fates ≡ gone e
  -- of copies that wait by time a duplicate cancels the earliest
  pub earliest : Pairs FirstCancelled fates
  -- the others are the line, in order, each with 50 ms or more left, and as many as the last accepted answer says
  pub line : waiting_in fates ≡ map seen s.line
  pub lasting : AllByRecursion (Lasting (clock w h)) (waiting_in fates)
  pub told : length s.line ≡ still_waiting h
  pub few : length s.line ≤ 16
  -- so in all
  pub counts : length (takings w h) ≡ all_calls lefts h + all_calls cancelleds h + all_calls gone h + still_waiting h
