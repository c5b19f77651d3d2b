-- Runs as they are played: a list of calls, the oldest first, each answered by the rules on the link that the one before left. Assumes nothing.
use Rattle.std.specs.Prelude.{ℕ, List, [], ◌∷◌, ◌++◌, map, Some, None, Option}
use Rattle.std.specs.List.{AllByRecursion}
use Rattle.rules.specs.Rules.{on_air, step}
use Rattle.rules.specs.Verdicts.{number}
use Rattle.law.specs.Runs.{Ran}
use Rattle.law.specs.World.{Delivery, Frame, State, Around, Meant, Call, Outcome, accepted, refused, Start, Event, History}

-- a call that is to come: its time, what it asks, and what it will meet
pub record Asked : Type 0 where
  pub time : ℕ
  pub call : Call
  pub around : Around

abbrev pub event_of : State → List Frame → Asked → Event
event_of s fs a = record {
  time = a.time;
  call = a.call;
  around = a.around;
  before = fs;
  after = fs ++ (step s a.time a.around a.call).sent;
  outcome = (step s a.time a.around a.call).outcome;
}

-- where a router is after some calls: what came, its state, and what is on the link
pub record Played : Type 0 where
  pub history : History
  pub state : State
  pub link : List Frame

abbrev pub played_one : Played → Asked → Played
played_one p a = record {
  history = event_of p.state p.link a ∷ p.history;
  state = (step p.state a.time a.around a.call).state;
  link = p.link ++ (step p.state a.time a.around a.call).sent;
}

abbrev pub played : Played → List Asked → Played
played p [] = p
played p (a ∷ more) = played (played_one p a) more

abbrev pub opened_with : Start → Played
opened_with w = record { history = []; state = on_air w; link = [] }

-- whatever is asked, what is played is a run
abbrev pub EveryPlayIsARun : Type 0
EveryPlayIsARun = (w : Start) (calls : List Asked) → AllByRecursion (λ a. Meant a.around) calls → Ran w (played (opened_with w) calls).history (played (opened_with w) calls).state

-- what a call told: verdict, place and length of a delivery, stations and packets let go, and how many wait; or its refusal
pub record Telling : Type 0 where
  pub verdict : ℕ
  pub delivered : Option (ℕ × ℕ)
  pub stations : ℕ
  pub packets : ℕ
  pub waiting : ℕ

abbrev pub part : Option Delivery → Option (ℕ × ℕ)
part None = None
part (Some d) = Some (d.place, d.length)

abbrev pub told_of : Outcome → Option Telling
told_of (accepted a) = Some (record { verdict = number a.verdict; delivered = part a.delivery; stations = a.stations_gone; packets = a.packets_gone; waiting = a.waiting })
told_of (refused f) = None

abbrev pub tellings : History → List (Option Telling)
tellings h = map (λ e. told_of e.outcome) h
