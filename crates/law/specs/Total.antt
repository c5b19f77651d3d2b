-- The rules never get stuck and leave nothing open: whatever is asked, exactly one call obeys them. Assumes nothing.
use Rattle.std.specs.Prelude.{◌≡◌, ℕ, List, ◌∷◌}
use Rattle.law.specs.Runs.{Obeys, Ran}
use Rattle.law.specs.World.{State, Frame, Around, Meant, Call, Start, Event, History}

-- the call e is this one, asked at this time, and met these surroundings and this link
pub record Asks (t : ℕ) (c : Call) (r : Around) (before : List Frame) (e : Event) : Type 0 where
  pub time : e.time ≡ t
  pub call : e.call ≡ c
  pub around : e.around ≡ r
  pub link : e.before ≡ before

-- there is an answer, a later state and a later link, with which the run goes on, and no other
pub record Answered (w : Start) (h : History) (s : State) (t : ℕ) (c : Call) (r : Around) (before : List Frame) : Type 0 where
  pub event : Event
  pub asks : Asks t c r before event
  pub state : State
  pub obeys : Obeys s event state
  pub ran : Ran w (event ∷ h) state
  pub no_other : (e : Event) (u : State) → Asks t c r before e → Obeys s e u → (e ≡ event) × (u ≡ state)

abbrev pub EveryCallIsAnswered : Type 0
EveryCallIsAnswered = (w : Start) (h : History) (s : State) → Ran w h s → (t : ℕ) (c : Call) (r : Around) → Meant r → (before : List Frame) → Answered w h s t c r before
