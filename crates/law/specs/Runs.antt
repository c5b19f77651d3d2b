-- Runs: lists of calls on one router since it was put on the air, the newest first. Assumes nothing.
use Rattle.std.specs.Prelude.{◌≡◌, [], ◌∷◌, ◌++◌}
use Rattle.rules.specs.Rules.{Step, on_air, step}
use Rattle.law.specs.World.{Meant, State, Start, Event, History}

abbrev pub ruled : State → Event → Step
ruled s e = step s e.time e.around e.call

-- the call e takes s to t, by the rules, over a ground and a policy that keep to what every one does
pub record Obeys (s : State) (e : Event) (t : State) : Type 0 where
  pub meant : Meant e.around
  pub answered : e.outcome ≡ (ruled s e).outcome
  pub leaves : t ≡ (ruled s e).state
  pub carried : e.after ≡ e.before ++ (ruled s e).sent

pub data Ran (w : Start) : History → State → Type 0 where
  opened : Ran w [] (on_air w)
  call : {h : History} {s : State} {e : Event} {t : State} → Ran w h s → Obeys s e t → Ran w (e ∷ h) t
