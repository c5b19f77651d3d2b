-- Exactly one call obeys. Assumes nothing.
use Rattle.std.proofs.Common.{◌≡◌, ℕ, List, ◌++◌, refl, ap, ◌∙◌}
use Rattle.rules.specs.Rules.{Step, step}
use Rattle.law.specs.Runs.{Obeys, ruled, call}
use Rattle.law.specs.Total.{Asks, EveryCallIsAnswered}
use Rattle.law.specs.World.{State, Frame, Around, Meant, Call, Event}

module _ (s : State) (t : ℕ) (c : Call) (r : Around) (before : List Frame) where
  abbrev the_step : Step
  the_step = step s t r c

  abbrev the-event : Event
  the-event = record { time = t; call = c; around = r; before = before; after = before ++ (step s t r c).sent; outcome = (step s t r c).outcome }

  the-obeys : Meant r → Obeys s the-event (step s t r c).state
  the-obeys m = record { meant = m; answered = refl; leaves = refl; carried = refl }

  same-ruled : (e : Event) → Asks t c r before e → ruled s e ≡ step s t r c
  same-ruled e a = λ i. step s (a.time i) (a.around i) (a.call i)

  same-event : (e : Event) (u : State) → Asks t c r before e → Obeys s e u → e ≡ the-event
  same-event e u a o = λ i. record {
    time = a.time i;
    call = a.call i;
    around = a.around i;
    before = a.link i;
    after = (o.carried ∙ (λ j. a.link j ++ (same-ruled e a j).sent)) i;
    outcome = (o.answered ∙ ap (λ k. k.outcome) (same-ruled e a)) i;
  }

pub answered : EveryCallIsAnswered
answered w h s ran t c r m before = record {
  event = the-event s t c r before;
  asks = record { time = refl; call = refl; around = refl; link = refl };
  state = (step s t r c).state;
  obeys = the-obeys s t c r before m;
  ran = call ran (the-obeys s t c r before m);
  no_other = λ e u a o. (same-event s t c r before e u a o, o.leaves ∙ ap (λ k. k.state) (same-ruled s t c r before e a));
}
