-- What is proved of the law, and the forms in which the router's calls bear it. Assumes nothing.
use Rattle.std.specs.Prelude.{◌≡◌, ℕ, List, [], ◌∷◌, map, reverse}
use Rattle.rules.specs.Rules.{on_air}
use Rattle.law.specs.Laws.{Lawful}
use Rattle.law.specs.Runs.{Obeys, Ran}
use Rattle.law.specs.World.{Frame, State, Call, Start, Event, History}

-- the whole law: each call was answered as the rules write, and the rest
pub record Law (w : Start) (h : History) (s : State) : Type 0 where
  pub answered : Ran w h s
  pub lawful : Lawful w h s

-- from a router that was just opened and placed, whatever each call asked and met
abbrev pub EveryRunIsLawful : Type 0
EveryRunIsLawful = (w : Start) (h : History) (s : State) → Ran w h s → Law w h s

-- what each public call can say of runs: whatever calls led here, with this one it is again a run, and lawful
abbrev pub GoesOn : Start → State → Event → State → Type 0
GoesOn w s e t = (h : History) → Ran w h s → Law w (e ∷ h) t

-- and without naming runs
abbrev pub StaysLawful : Start → State → Event → State → Type 0
StaysLawful w s e t = (h : History) → Lawful w h s → Lawful w (e ∷ h) t

-- a list of calls, the oldest first, and what came of it
abbrev pub asked : Event → ℕ × Call
asked e = (e.time, e.call)

-- each call found the link as the one before had left it: from `first` frames to `last`
abbrev pub Linked : List Frame → History → List Frame → Type 0
Linked first [] last = first ≡ last
Linked first (e ∷ h) last = (e.after ≡ last) × Linked first h e.before

pub record Whole (w : Start) (first : List Frame) (calls : List (ℕ × Call)) (s : State) (last : List Frame) : Type 0 where
  pub history : History
  pub inputs : map asked history ≡ reverse calls
  pub linked : Linked first history last
  pub law : Law w history s

-- the form in which the calls of a router bear the law: one that obeys the rules goes on with every run, and keeps the law
abbrev pub CallsBearTheLaw : Type 0
CallsBearTheLaw = (w : Start) (s : State) (e : Event) (t : State) → Obeys s e t → GoesOn w s e t × StaysLawful w s e t

-- a router that was just opened and placed has run, and is lawful
abbrev pub OpeningBearsTheLaw : Type 0
OpeningBearsTheLaw = (w : Start) → Law w [] (on_air w)
