-- Every run is lawful. Assumes nothing.
use Rattle.std.proofs.Common.{◌≡◌, ℕ, ◌-◌, ◌≤◌, Bool, true, false, cond, ◌&&◌, ◌||◌, eqb, List, [], ◌∷◌, ◌++◌, length, None, sym, refl, ap, ◌∙◌, subst, arith}
use Rattle.std.proofs.lemmas.List.{reverse-append}
use Rattle.std.proofs.lemmas.Bool.{false≢true}
use Rattle.law.proofs.Steps.{event, made, is_made, unless_both, Received, received, placed_later, sent_later, served_later}
use Rattle.law.proofs.Listed.{this, newly_own, judged-as-told, table_step}
use Rattle.law.proofs.Links.{basics-step, frames-step, lower-step, same_answer}
use Rattle.law.proofs.Entries.{entries-step, counts_step}
use Rattle.law.proofs.Nearness.{nearer-step}
use Rattle.law.proofs.Picks.{picked}
use Rattle.law.proofs.Moves.{Move, places-moves, receives-moves, sends-moves, served-moves}
use Rattle.law.proofs.Books.{fates-more, fates_refused, lives_since, fates_none}
use Rattle.law.proofs.Few.{live-few, receives-few, sends-few, served-few}
use Rattle.law.proofs.Repeats.{deliveries}
use Rattle.law.proofs.Origins.{origins}
use Rattle.rules.specs.declared.verdict.Verdict.TheVariants as verdict
use Rattle.law.specs.Fates.{Fates}
use Rattle.law.specs.Laws.{OnlyReceivesDeliver, Basics, EachCall, Fresh, Judged, Lawful, OneLower, Table}
use Rattle.law.specs.Theorems.{GoesOn, StaysLawful, Whole, Linked, CallsBearTheLaw, OpeningBearsTheLaw, asked}
use Rattle.law.specs.Runs.{Obeys, Ran, call, opened, ruled}
use Rattle.law.specs.Words.{clock, heard, live_by, newly, newly_by, repeats}
use Rattle.law.specs.World.{Meant, Answer, Around, Call, Event, Fault, Frame, History, LinkAddress, Outcome, Start, State, Station, accepted, for-ms, for-neighbour, is_some, place, receive, refused, send, serve}
use Rattle.rules.specs.Deeds.{Deed, behind, full, held, no_space, rests, spent, to_all, to_one, verdict_of}
use Rattle.rules.specs.Known.{find}
use Rattle.rules.specs.Lines.{Pick, leaving, live_line, none, one, pick}
use Rattle.rules.specs.Packets.{destination_address, number_of, passed_on, source_of}
use Rattle.rules.specs.Rules.{Step, Way, cancels, copy_of, duplicate, leaves, no, on_air, only, place_fault, places, receive_deed, receive_fault, receives, send_fault, sends, served, serves, step, telling, way_out, way_verdict}
use Rattle.rules.specs.Tables.{live_table, noted}
use Rattle.rules.specs.Verdicts.{number}

module _ (w : Start) (h : History) (s : State) (t : ℕ) (r : Around) (fs gs : List Frame) (b : Basics w h s) (l : Table w h s) (B : Fates w h s) where
  -- (b) of one call
  abbrev Fated-step : Call → Step → Type 0
  Fated-step c st = gs ≡ fs ++ st.sent → Fates w (event fs gs t c r st.outcome ∷ h) st.state

  -- an accepted call's answer tells the counts
  abbrev Tells : Step → Type 0
  Tells st = (a : Answer) × (st.outcome ≡ accepted a) × (a.packets_gone ≡ length s.line - length (live_line t s)) × (a.waiting ≡ length st.state.line)

  later-clock : s.clock ≤ t → clock w h ≤ t
  later-clock e = subst (λ k. k ≤ t) b.clock e

  accepted-fates : (c : Call) (st : Step) → s.clock ≤ t → Tells st → length st.state.line ≤ 16 → (gs ≡ fs ++ st.sent → Move w h (event fs gs t c r st.outcome) (live_line t s) st.state.line) → Fated-step c st
  accepted-fates c st e k few m sent =
      subst (λ o. Fates w (event fs gs t c r o ∷ h) st.state) (sym k.1)
      (fates-more w h s t c r fs gs k.0 B (later-clock e) st.state
      (subst (λ o. Move w h (event fs gs t c r o) (live_line t s) st.state.line) k.1 (m sent)) k.2 k.3 few)

  receives-tells : (o : List ℕ) (sender : LinkAddress) (k : Bool) → Tells (receives r s t o sender k)
  receives-tells o sender true = go (pick (copy_of o) (live_line t s))
    where
      go : (k : Pick (Unit {0})) → Tells (cancels s t k)
      go none = (telling s t None verdict.Duplicate (live_line t s), refl, refl, refl)
      go (one before v after x) = (telling s t None verdict.Cancelled (before ++ after), refl, refl, refl)
  receives-tells o sender false = (_, refl, refl, refl)

  served-tells : (k : Pick Way) → Tells (served r s t k)
  served-tells none = (_, refl, refl, refl)
  served-tells (one before v after x) = go (r.room (length (leaving t v)))
    where
      go : (c : Bool) → Tells (cond c (leaves s t before v after x) (only s t verdict.NoSpace (live_line t s)))
      go true = (telling s t None (way_verdict x) (before ++ after), refl, refl, refl)
      go false = (telling s t None verdict.NoSpace (live_line t s), refl, refl, refl)

  fates-step : (c : Call) → Fated-step c (step s t r c)
  fates-step (place p) = unless_both (Fated-step (place p)) (place_fault s t p) s (places s t p) (λ g q. fates_refused w h s t (place p) r fs gs g B)
      (λ e. let k = placed_later s t p e in
      accepted-fates (place p) (places s t p) k (_, refl, refl, refl) (live-few s t B.few) (places-moves w h s t r fs gs b l (lives_since w h s t B (later-clock k)) p))
  fates-step (receive o sender) = unless_both (Fated-step (receive o sender)) (receive_fault s t o) s (receives r s t o sender (duplicate s t o)) (λ g q. fates_refused w h s t (receive o sender) r fs gs g B)
      (λ e. let k = received s t o e in
      accepted-fates (receive o sender) (receives r s t o sender (duplicate s t o)) k.later (receives-tells o sender (duplicate s t o)) (receives-few s t B.few r o sender (duplicate s t o))
      (receives-moves w h s t r fs gs b l (lives_since w h s t B (later-clock k.later)) o sender k (duplicate s t o) refl))
  fates-step (send q payload) = unless_both (Fated-step (send q payload)) (send_fault s t q payload) s (sends r s t q payload) (λ g k. fates_refused w h s t (send q payload) r fs gs g B)
      (λ e. let k = sent_later s t q payload e in
      accepted-fates (send q payload) (sends r s t q payload) k (_, refl, refl, refl) (sends-few s t B.few r q payload) (sends-moves w h s t r fs gs b l (lives_since w h s t B (later-clock k)) q payload e))
  fates-step serve = unless_both (Fated-step serve) _ s (serves r s t) (λ g k. fates_refused w h s t serve r fs gs g B)
      (λ e. let k = served_later s t e in
      accepted-fates serve (serves r s t) k (served-tells (pick (way_out r s.own (live_table t s) t) (live_line t s)))
      (served-few s t B.few r (pick (way_out r s.own (live_table t s) t) (live_line t s)) (picked (way_out r s.own (live_table t s) t) (live_line t s)))
      (served-moves w h s t r fs gs b l (lives_since w h s t B (later-clock k)) (pick (way_out r s.own (live_table t s) t) (live_line t s))
      (picked (way_out r s.own (live_table t s) t) (live_line t s))))

  -- what is delivered was newly accepted
  abbrev New-step : Call → Step → Type 0
  New-step c st = Fresh (event fs gs t c r st.outcome) h

  other-call : (c : Call) (o : Outcome) → ((p : List ℕ) (sender : LinkAddress) → c ≡ receive p sender → ⊥) → Fresh (event fs gs t c r o) h
  other-call c o no a n d = absurd (no d.octets d.sender d.received)

  refused-new : (c : Call) (g : Fault) → New-step c (no s g)
  refused-new c g a n d = absurd (not-accepted g d.answer d.accepting)
    where
      not-accepted : (g : Fault) (x : Answer) → refused g ≡ accepted x → ⊥
      not-accepted g x e = let z : ◌≡◌ {A = ℕ} 0 1 = cc in omega arith

  undelivered : (c : Call) (x : Answer) → x.delivery ≡ None → Fresh (event fs gs t c r (accepted x)) h
  undelivered c x e a n d =
      absurd (false≢true (ap is_some (sym e) ∙ ap (λ k. is_some k.delivery) (same_answer x d.answer d.accepting) ∙ d.delivered))

  same_octets : (o p : List ℕ) (i j : LinkAddress) → receive o i ≡ receive p j → o ≡ p
  same_octets o p i j e = cc

  new-delivered : (o : List ℕ) (sender : LinkAddress) (x : Outcome) (q : Answer) → x ≡ accepted q
      → (live_by t (heard (source_of o) h) && repeats (number_of o) (heard (source_of o) h)) ≡ false → Fresh (event fs gs t (receive o sender) r x) h
  new-delivered o sender x q z new a n d =
      let p : o ≡ d.octets = same_octets o d.octets sender d.sender d.received in
      let src : source_of o ≡ a = ap source_of p ∙ d.source in (
        this t o sender,
        subst (λ y. newly_by a (event fs gs t (receive o sender) r y) (heard a h) ≡ this t o sender ∷ []) (sym z)
            (subst (λ k. newly k t o sender (heard k h) ≡ this t o sender ∷ []) src (newly_own t o sender (heard (source_of o) h) new)),
        ap number_of p ∙ d.number,
      )

  received-new : (o : List ℕ) (sender : LinkAddress) → Received s t o → (k : Bool) → duplicate s t o ≡ k → New-step (receive o sender) (receives r s t o sender k)
  received-new o sender g true e = go (pick (copy_of o) (live_line t s))
    where
      go : (k : Pick (Unit {0})) → New-step (receive o sender) (cancels s t k)
      go none = undelivered (receive o sender) (telling s t None verdict.Duplicate (live_line t s)) refl
      go (one before v after x) = undelivered (receive o sender) (telling s t None verdict.Cancelled (before ++ after)) refl
  received-new o sender g false e = new-delivered o sender _ _ refl (sym (judged-as-told w h s t r fs gs b l o g.later) ∙ e)

  fresh_step : (c : Call) → New-step c (step s t r c)
  fresh_step (place p) = other-call (place p) _ (λ o i e. let z : ◌≡◌ {A = ℕ} 0 1 = cc in omega arith)
  fresh_step (receive o sender) = unless_both (New-step (receive o sender)) (receive_fault s t o) s (receives r s t o sender (duplicate s t o)) (refused-new (receive o sender))
      (λ e. received-new o sender (received s t o e) (duplicate s t o) refl)
  fresh_step (send q payload) = other-call (send q payload) _ (λ o i e. let z : ◌≡◌ {A = ℕ} 0 1 = cc in omega arith)
  fresh_step serve = other-call serve _ (λ o i e. let z : ◌≡◌ {A = ℕ} 0 1 = cc in omega arith)

  -- duplicates are those that the words call so
  abbrev Judged-step : Call → Step → Type 0
  Judged-step c st = Judged (event fs gs t c r st.outcome) h

  no-duplicate : (d : Deed) → (eqb (number (verdict_of d)) 9 || eqb (number (verdict_of d)) 10) ≡ false
  no-duplicate rests = refl
  no-duplicate to_all = refl
  no-duplicate (to_one a) = refl
  no-duplicate (held (for-ms ms)) = refl
  no-duplicate (held for-neighbour) = refl
  no-duplicate spent = refl
  no-duplicate behind = refl
  no-duplicate no_space = refl
  no-duplicate full = refl

  received-judged : (o : List ℕ) (sender : LinkAddress) → Received s t o → (k : Bool) → duplicate s t o ≡ k → Judged-step (receive o sender) (receives r s t o sender k)
  received-judged o sender g true e = go (pick (copy_of o) (live_line t s))
    where
      go : (k : Pick (Unit {0})) → Judged-step (receive o sender) (cancels s t k)
      go none = sym e ∙ judged-as-told w h s t r fs gs b l o g.later
      go (one before v after x) = sym e ∙ judged-as-told w h s t r fs gs b l o g.later
  received-judged o sender g false e =
      let table : List Station = noted t o sender (live_table t s) in
      let p : List ℕ = passed_on (find (destination_address o) table) o in
      no-duplicate (receive_deed r s table (live_line t s) sender o p) ∙ sym e ∙ judged-as-told w h s t r fs gs b l o g.later

  judged-step : (c : Call) → Judged-step c (step s t r c)
  judged-step (place p) = unless_both (Judged-step (place p)) (place_fault s t p) s (places s t p) (λ g. tt) (λ e. refl)
  judged-step (receive o sender) = unless_both (Judged-step (receive o sender)) (receive_fault s t o) s (receives r s t o sender (duplicate s t o)) (λ g. tt)
      (λ e. received-judged o sender (received s t o e) (duplicate s t o) refl)
  judged-step (send q payload) = unless_both (Judged-step (send q payload)) (send_fault s t q payload) s (sends r s t q payload) (λ g. tt) (λ e. no-duplicate (Rattle.rules.specs.Deeds.dispatched r s.own (live_table t s) (live_line t s) None (Rattle.rules.specs.Rules.everywhere r s q.body) (Rattle.rules.specs.Rules.writes s t q payload)))
  judged-step serve = unless_both (Judged-step serve) _ s (serves r s t) (λ g. tt) (λ e. served-judged (pick (way_out r s.own (live_table t s) t) (live_line t s)))
    where
      served-judged : (k : Pick Way) → Judged-step serve (served r s t k)
      served-judged none = refl
      served-judged (one before v after x) = go (r.room (length (leaving t v))) x
        where
          go : (c : Bool) (y : Way) → Judged-step serve (cond c (leaves s t before v after y) (only s t verdict.NoSpace (live_line t s)))
          go true Rattle.rules.specs.Rules.to_everybody = refl
          go true (Rattle.rules.specs.Rules.to_neighbour a) = refl
          go false y = refl

  -- only a receive delivers
  abbrev Delivering-step : Call → Step → Type 0
  Delivering-step c st = OnlyReceivesDeliver (event fs gs t c r st.outcome) h

  served-nothing : (k : Pick Way) → Delivering-step serve (served r s t k)
  served-nothing none = refl
  served-nothing (one before v after x) = go (r.room (length (leaving t v)))
    where
      go : (c : Bool) → Delivering-step serve (cond c (leaves s t before v after x) (only s t verdict.NoSpace (live_line t s)))
      go true = refl
      go false = refl

  delivering-step : (c : Call) → Delivering-step c (step s t r c)
  delivering-step (place p) = unless_both (Delivering-step (place p)) (place_fault s t p) s (places s t p) (λ g. tt) (λ e. refl)
  delivering-step (receive o sender) = tt
  delivering-step (send q payload) = unless_both (Delivering-step (send q payload)) (send_fault s t q payload) s (sends r s t q payload) (λ g. tt) (λ e. refl)
  delivering-step serve = unless_both (Delivering-step serve) _ s (serves r s t) (λ g. tt) (λ e. served-nothing (pick (way_out r s.own (live_table t s) t) (live_line t s)))

-- one call
lawful_step : (w : Start) (h : History) (s : State) → Lawful w h s → (t : ℕ) (r : Around) → Meant r → (fs gs : List Frame) (c : Call) → gs ≡ fs ++ (step s t r c).sent
    → Lawful w (made fs gs s t r c ∷ h) (step s t r c).state
lawful_step w h s L t r m fs gs c sent =
    let lower : EachCall (OneLower w) (made fs gs s t r c ∷ h) = (lower-step w h s t r fs gs L.basics L.table c, L.lower) in
    let fresh : EachCall Fresh (made fs gs s t r c ∷ h) = (fresh_step w h s t r fs gs L.basics L.table L.fates c, L.fresh) in
    record {
      basics = basics-step w h s t r fs gs L.basics c;
      table = table_step w h s t r fs gs L.basics L.table c;
      entries = entries-step w h s t r fs gs L.basics L.table L.entries c;
      counted = (counts_step w h s t r fs gs L.basics L.table L.entries c, L.counted);
      judged = (judged-step w h s t r fs gs L.basics L.table L.fates c, L.judged);
      frames = (frames-step w h s t r fs gs L.basics L.table c sent, L.frames);
      lower = lower;
      nearer = (nearer-step w h s t r fs gs m L.basics L.table c sent, L.nearer);
      fates = fates-step w h s t r fs gs L.basics L.table L.fates c sent;
      origins = origins w (made fs gs s t r c ∷ h) lower;
      fresh = fresh;
      delivering = (delivering-step w h s t r fs gs L.basics L.table L.fates c, L.delivering);
      deliveries = deliveries (made fs gs s t r c ∷ h) fresh;
    }

pub lawful_more : (w : Start) (h : History) (s : State) (e : Event) (s' : State) → Lawful w h s → Obeys s e s' → Lawful w (e ∷ h) s'
lawful_more w h s e s' L o =
    subst (λ x. Lawful w (e ∷ h) x) (sym o.leaves)
    (subst (λ x. Lawful w (x ∷ h) (ruled s e).state) (sym (is_made s e o.answered)) (lawful_step w h s L e.time e.around o.meant e.before e.after e.call o.carried))

lawful_start : (w : Start) → Lawful w [] (on_air w)
lawful_start w = record {
  basics = record { clock = refl; own = refl; next = refl };
  table = record { listed = λ a. refl; once = tt; not_ours = refl };
  entries = record { in_order = refl; few = omega arith };
  counted = tt;
  judged = tt;
  frames = tt;
  lower = tt;
  nearer = tt;
  fates = fates_none w (on_air w) refl;
  origins = tt;
  fresh = tt;
  delivering = tt;
  deliveries = deliveries [] tt;
}

pub lawful : {w : Start} {h : History} {s : State} → Ran w h s → Lawful w h s
lawful {w} opened = lawful_start w
lawful {w} (call {h = h} {s = s} {e = e} {t = t} r o) = lawful_more w h s e t (lawful r) o

-- for the contracts of the public calls
pub goes_on : {w : Start} {s : State} {e : Event} {t : State} → Obeys s e t → GoesOn w s e t
goes_on o = λ h r. record { answered = call r o; lawful = lawful (call r o) }

pub stays_lawful : {w : Start} {s : State} {e : Event} {t : State} → Obeys s e t → StaysLawful w s e t
stays_lawful {w} {s} {e} {t} o = λ h l. lawful_more w h s e t l o

-- and of a call that makes a list of calls
pub whole_none : (w : Start) (fs : List Frame) → Whole w fs [] (on_air w) fs
whole_none w fs = record { history = []; inputs = refl; linked = refl; law = record { answered = opened; lawful = lawful opened } }

pub whole_more : {w : Start} {fs gs : List Frame} {calls : List (ℕ × Call)} {s t : State} (e : Event) → Whole w fs calls s gs → e.before ≡ gs → Obeys s e t → Whole w fs (calls ++ (asked e ∷ [])) t e.after
whole_more {w} {fs} {gs} {calls} {s} {t} e k b o = record {
  history = e ∷ k.history;
  inputs = ap (λ xs. asked e ∷ xs) k.inputs ∙ sym (reverse-append calls (asked e ∷ []));
  linked = (refl, subst (Linked fs k.history) (sym b) k.linked);
  law = goes_on o k.history k.law.answered;
}

pub calls_bear : CallsBearTheLaw
calls_bear w s e t o = (goes_on o, stays_lawful o)

pub opening_bears : OpeningBearsTheLaw
opening_bears w = record { answered = opened; lawful = lawful opened }
