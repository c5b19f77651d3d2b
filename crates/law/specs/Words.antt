-- The words of the law: what a history alone says was heard, known and taken. Assumes nothing.
use Rattle.std.specs.Prelude.{ℕ, ◌+◌, ◌%◌, Bool, false, cond, not, ◌&&◌, ◌||◌, List, [], ◌∷◌, ◌++◌, Some, None, filter, Option, ◌==◌, nat_le}
use Rattle.times.specs.Timestamps.{newer}
use Rattle.link.specs.Addresses.{link_address, same_link}
use Rattle.rules.specs.Known.{among, last_eight}
use Rattle.rules.specs.Packets.{Mark, destination_address, number_of, passed_on, source_of, vector_of}
use Rattle.rules.specs.Requests.{numbered, own_of, wanted, written}
use Rattle.law.specs.World.{Address, LongPositionVector, ShortPositionVector, LinkAddress, Station, Call, place, receive, send, serve, accepted, refused, Start, Event, History}

-- One packet newly accepted from a station
pub record Heard : Type 0 where
  pub time : ℕ
  pub vector : ShortPositionVector
  pub number : Option Mark
  pub sender : LinkAddress

-- the newest of what was heard is at most 20,000 ms old
abbrev pub live_by : ℕ → List Heard → Bool
live_by t [] = false
live_by t (x ∷ xs) = nat_le t (x.time + 20000)

abbrev pub one_number : Option Mark → List Mark
one_number None = []
one_number (Some n) = n ∷ []

-- the numbers of what was heard, the oldest first
abbrev pub numbers : List Heard → List Mark
numbers [] = []
numbers (x ∷ xs) = numbers xs ++ one_number x.number

-- among the last eight numbers newly accepted
abbrev pub repeats : Option Mark → List Heard → Bool
repeats None past = false
repeats (Some n) past = among n (last_eight (numbers past))

-- what an accepted receive newly accepted from the station a; `past`: what was heard from a since its entry
abbrev pub newly : ℕ → ℕ → List ℕ → LinkAddress → List Heard → List Heard
newly a t o sender past =
    cond (source_of o == a && not (live_by t past && repeats (number_of o) past))
    (record { time = t; vector = vector_of o; number = number_of o; sender = sender } ∷ []) []

abbrev pub call_newly : ℕ → ℕ → Call → List Heard → List Heard
call_newly a t (place p) past = []
call_newly a t (receive o sender) past = newly a t o sender past
call_newly a t (send q payload) past = []
call_newly a t serve past = []

abbrev pub newly_by : ℕ → Event → List Heard → List Heard
newly_by a e past = elim e.outcome [ accepted _ ↦ call_newly a e.time e.call past | refused _ ↦ [] ]

-- a source not live by the call's own time is entered anew: nothing older counts
abbrev pub since_entry : ℕ → List Heard → List Heard → List Heard
since_entry t [] past = past
since_entry t (x ∷ new) past = x ∷ cond (live_by t past) past []

-- what was newly accepted from the station a since its entry, the newest first
abbrev pub heard : ℕ → History → List Heard
heard a [] = []
heard a (e ∷ h) = since_entry e.time (newly_by a e (heard a h)) (heard a h)

-- the newer of two vectors' timestamps and positions
abbrev pub newest : ShortPositionVector → ShortPositionVector → ShortPositionVector
newest old new = record {
  address = old.address;
  timestamp = cond (newer new.timestamp.millis old.timestamp.millis) new.timestamp old.timestamp;
  position = cond (newer new.timestamp.millis old.timestamp.millis) new.position old.position;
}

-- the address, position and timestamp of a station: the entry's, and then those of each newer vector
abbrev pub known : Heard → List Heard → ShortPositionVector
known x [] = x.vector
known x (y ∷ ys) = newest (known y ys) x.vector

-- a neighbour: some packet came from the sender with its link address
abbrev pub marked : Address → List Heard → Bool
marked a [] = false
marked a (x ∷ xs) = same_link x.sender (link_address a) || marked a xs

-- the station, of which x and before it xs were heard since its entry
abbrev pub row : Heard → List Heard → Station
row x xs = record { vector = known x xs; heard = x.time; neighbour = marked (known x xs).address (x ∷ xs); numbers = last_eight (numbers (x ∷ xs)) }

abbrev pub told_by : ℕ → List Heard → Option Station
told_by t [] = None
told_by t (x ∷ xs) = cond (live_by t (x ∷ xs)) (Some (row x xs)) None

-- the time of the last accepted call
abbrev pub clock : Start → History → ℕ
clock w [] = w.time
clock w (e ∷ h) = elim e.outcome [ accepted _ ↦ e.time | refused _ ↦ clock w h ]

-- what the history tells of the station a: nothing unless it is live by the last accepted call
abbrev pub told : Start → History → ℕ → Option Station
told w h a = told_by (clock w h) (heard a h)

-- where we are: the last accepted placing
abbrev pub placed_by : Address → ℕ → Call → LongPositionVector → LongPositionVector
placed_by a t (place p) past = own_of a t p
placed_by a t (receive o sender) past = past
placed_by a t (send q payload) past = past
placed_by a t serve past = past

abbrev pub placed : Start → History → LongPositionVector
placed w [] = own_of w.address w.time w.placing
placed w (e ∷ h) = elim e.outcome [ accepted _ ↦ placed_by w.address e.time e.call (placed w h) | refused _ ↦ placed w h ]

-- how many numbers our own sends took
abbrev pub took : Call → ℕ
took (place p) = 0
took (receive o sender) = 0
took (send q payload) = cond (numbered q.body) 1 0
took serve = 0

abbrev pub numbers_taken : History → ℕ
numbers_taken [] = 0
numbers_taken (e ∷ h) = elim e.outcome [ accepted _ ↦ numbers_taken h + took e.call | refused _ ↦ numbers_taken h ]

-- the packet that a call writes: what was received one hop on, or what was asked for; `h` the calls before e
abbrev pub packet_by : Start → Event → History → Call → List ℕ
packet_by w e h (place p) = []
packet_by w e h (receive o sender) = passed_on (told w (e ∷ h) (destination_address o)) o
packet_by w e h (send q payload) = written (placed w h) (numbers_taken h % 65536) (told w (e ∷ h) (wanted q.body)) q payload
packet_by w e h serve = []

abbrev pub packet : Start → Event → History → List ℕ
packet w e h = packet_by w e h e.call

-- a source that is not live by the call's own time is entered by it
abbrev pub newcomer_by : ℕ → Call → History → List ℕ
newcomer_by t (place p) h = []
newcomer_by t (receive o sender) h = cond (live_by t (heard (source_of o) h)) [] (source_of o ∷ [])
newcomer_by t (send q payload) h = []
newcomer_by t serve h = []

-- the live stations in order of entry
abbrev pub still_live : ℕ → History → List ℕ → List ℕ
still_live t h xs = filter (λ a. live_by t (heard a h)) xs

abbrev pub entered_in_order : History → List ℕ
entered_in_order [] = []
entered_in_order (e ∷ h) = elim e.outcome [
  | accepted _ ↦ still_live e.time h (entered_in_order h) ++ newcomer_by e.time e.call h
  | refused _ ↦ entered_in_order h
]
