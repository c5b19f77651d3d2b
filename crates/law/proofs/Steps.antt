-- A call by its ways: refused, or accepted. Assumes nothing.
use Rattle.std.proofs.Common.{◌≡◌, ℕ, ◌≤◌, Bool, true, false, cond, not, ◌&&◌, eqb, leb, List, length, Some, None, Option, sym, refl}
use Rattle.std.proofs.lemmas.Bool.{or_parts, ltb-false}
use Rattle.law.proofs.Tables.{none_not_some}
use Rattle.rules.specs.declared.fault.RouterFault.TheVariants as no-to
use Rattle.law.specs.Runs.{ruled}
use Rattle.law.specs.World.{Around, Call, Event, Fault, Frame, Outcome, Placing, Request, State, is_some, or_else}
use Rattle.rules.specs.Known.{find}
use Rattle.rules.specs.Packets.{source_of}
use Rattle.rules.specs.Rules.{Step, bad_time, no, our_address, place_fault, reader_fault, receive_fault, send_fault, station_fault, step, unless}
use Rattle.rules.specs.Tables.{live_table}

abbrev pub event : List Frame → List Frame → ℕ → Call → Around → Outcome → Event
event fs gs t c r o = record { time = t; call = c; around = r; before = fs; after = gs; outcome = o }

-- the call as the rules answer it
abbrev pub made : List Frame → List Frame → State → ℕ → Around → Call → Event
made fs gs s t r c = event fs gs t c r (step s t r c).outcome

pub is_made : (s : State) (e : Event) → e.outcome ≡ (ruled s e).outcome → e ≡ made e.before e.after s e.time e.around e.call
is_made s e q = λ i. event e.before e.after e.time e.call e.around (q i)

pub unless_both : (P : Step → Type 0) (f : Option Fault) (s : State) (st : Step) → ((g : Fault) → P (no s g)) → (f ≡ None → P st) → P (unless f s st)
unless_both P (Some g) s st a b = a g
unless_both P None s st a b = b refl

-- no fault: no test failed
pub first_passes : (b : Bool) (f : Fault) (rest : Option Fault) → cond b (Some f) rest ≡ None → (b ≡ false) × (rest ≡ None)
first_passes true f rest e = absurd (none_not_some _ (sym e))
first_passes false f rest e = (refl, e)

pub in_time : (s : State) (t : ℕ) → bad_time s t ≡ false → s.clock ≤ t
in_time s t e = ltb-false _ _ (or_parts _ _ e).1

pub else_none : {X : Type 0} (o p : Option X) → or_else o p ≡ None → (o ≡ None) × (p ≡ None)
else_none (Some x) p e = absurd (none_not_some x (sym e))
else_none None p e = (refl, e)

pub record Received (s : State) (t : ℕ) (o : List ℕ) : Type 0 where
  pub later : s.clock ≤ t
  pub readable : reader_fault o ≡ None
  pub foreign : eqb (source_of o) (our_address s) ≡ false
  pub places : (not (is_some (find (source_of o) (live_table t s))) && leb 64 (length (live_table t s))) ≡ false

pub received : (s : State) (t : ℕ) (o : List ℕ) → receive_fault s t o ≡ None → Received s t o
received s t o e =
    let a = first_passes (bad_time s t) _ _ e in
    let b = else_none (reader_fault o) (station_fault s t o) a.1 in
    let c = first_passes (eqb (source_of o) (our_address s)) _ _ b.1 in
    let d = first_passes (not (is_some (find (source_of o) (live_table t s))) && leb 64 (length (live_table t s))) _ _ c.1 in
    record { later = in_time s t a.0; readable = b.0; foreign = c.0; places = d.0 }

pub placed_later : (s : State) (t : ℕ) (p : Placing) → place_fault s t p ≡ None → s.clock ≤ t
placed_later s t p e = in_time s t (first_passes (bad_time s t) _ _ e).0

pub sent_later : (s : State) (t : ℕ) (q : Request) (payload : List ℕ) → send_fault s t q payload ≡ None → s.clock ≤ t
sent_later s t q payload e = in_time s t (first_passes (bad_time s t) _ _ e).0

pub served_later : (s : State) (t : ℕ) → cond (bad_time s t) (Some no-to.Time) None ≡ None → s.clock ≤ t
served_later s t e = in_time s t (first_passes (bad_time s t) _ _ e).0
