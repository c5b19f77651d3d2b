-- (c) A call with verdict 2 goes to a live neighbour that is strictly nearer. Assumes nothing.
use Rattle.std.proofs.Common.{◌≡◌, ℕ, ◌<◌, ◌≤◌, Bool, true, false, cond, List, [], ◌∷◌, ◌++◌, length, Some, None, Option, sym, refl, ap, ◌∙◌, subst, arith}
use Rattle.std.proofs.lemmas.List.{append_cancel_left}
use Rattle.law.proofs.Tables.{once_kept}
use Rattle.law.proofs.Steps.{event, unless_both, received, sent_later, served_later}
use Rattle.law.proofs.Listed.{receives-table, Listed, sends-table, leaves_table}
use Rattle.rules.proofs.Hops.{target_kept}
use Rattle.law.proofs.Links.{Near, dispatched_near, receive_near, one_sent, same_octets, same_answer, way_near}
use Rattle.law.proofs.Picks.{Picked, picked}
use Rattle.rules.specs.declared.verdict.Verdict.TheVariants as verdict
use Rattle.law.specs.Laws.{Basics, Nearer, NearerIf, Once, Table}
use Rattle.law.specs.World.{Meant, Answer, Around, Call, Delivery, Fault, Frame, History, LinkAddress, Outcome, Position, Start, State, Station, Waiter, accepted, frame, place, receive, send, serve}
use Rattle.rules.specs.Deeds.{Deed, dispatched, kept_waiting, sent_by, verdict_of}
use Rattle.rules.specs.Known.{address_of, find}
use Rattle.rules.specs.Lines.{Pick, leaving, live_line, none, one, pick, remaining}
use Rattle.rules.specs.Packets.{destination_address, octet_for, passed_on, target_of}
use Rattle.rules.specs.Requests.{numbered}
use Rattle.rules.specs.Rules.{Step, Way, cancels, copy_of, count_up, delivery_of, does, duplicate, everywhere, leaves, no, only, place_fault, places, receive_deed, receive_fault, receives, send_fault, sends, served, serves, step, telling, way_out, way_to, way_verdict, writes}
use Rattle.rules.specs.Tables.{live, live_table, noted}
use Rattle.rules.specs.Verdicts.{addressed, number}

not_two : (a b : Answer) → accepted a ≡ accepted b → number b.verdict ≡ 2 → number a.verdict ≡ 2
not_two a b e v = ap (λ k. number k.verdict) (same_answer a b e) ∙ v

module _ (w : Start) (h : History) (s : State) (t : ℕ) (r : Around) (fs gs : List Frame) (m : Meant r) (b : Basics w h s) (l : Table w h s) where
  abbrev Names : Call → Step → Type 0
  Names c st = gs ≡ fs ++ st.sent → NearerIf w (event fs gs t c r st.outcome) h

  near-then : (c : Call) (o : Outcome) (s' : State) → Table w (event fs gs t c r o ∷ h) s' → (to : LinkAddress) (target : Position) → Near r s.own s'.table to target
      → Nearer w (event fs gs t c r o) h to target
  near-then c o s' l' to target n = record {
    station = n.station;
    live = sym (l'.listed (address_of n.station)) ∙ n.found;
    neighbour = n.neighbour;
    addressed = n.addressed;
    strictly = subst (λ k. r.distance n.station.vector.position target < r.distance k.short.position target) b.own n.strictly;
  }

  does-near : (c : Call) (table : List Station) (next : ℕ) (d : Option Delivery) (deed : Deed) (p : List ℕ)
      → Listed w h s t r fs gs b l c (does s t table next d deed p) → (number (verdict_of deed) ≡ 2 → Near r s.own table (addressed (verdict_of deed)) (target_of p))
      → Names c (does s t table next d deed p)
  does-near c table next d deed p l' near sent a q e v f =
      let A : Answer = telling s t d (verdict_of deed) (live_line t s ++ kept_waiting deed t p) in
      let same : A ≡ a = same_answer A a e in
      let two : number (verdict_of deed) ≡ 2 = ap (λ k. number k.verdict) same ∙ v in
      let frames : ◌≡◌ {A = List Frame} (sent_by deed p) (frame (addressed a.verdict) q ∷ []) = append_cancel_left fs (sent_by deed p) (frame (addressed a.verdict) q ∷ []) (sym sent ∙ f) in
      let octets : p ≡ q = same_octets (frame (addressed (verdict_of deed)) p) (frame (addressed a.verdict) q) (sym (one_sent deed p two) ∙ frames) in
      let n : Near r s.own table (addressed a.verdict) (target_of q) =
      subst (λ k. Near r s.own table (addressed k.verdict) (target_of q)) same (subst (λ k. Near r s.own table (addressed (verdict_of deed)) (target_of k)) octets (near two)) in
      near-then c (does s t table next d deed p).outcome (does s t table next d deed p).state l' (addressed a.verdict) (target_of q) n

  no_name : (c : Call) (A : Answer) (st : Step) → st.outcome ≡ accepted A → (number A.verdict ≡ 2 → ⊥) → Names c st
  no_name c A st o n sent a q e v f = absurd (n (not_two A a (sym o ∙ e) v))

  refused-name : (c : Call) (g : Fault) → Names c (no s g)
  refused-name c g sent a q e v f = absurd (let z : ◌≡◌ {A = ℕ} 0 1 = cc in omega arith)

  once-live : Once (live_table t s)
  once-live = once_kept (live t) s.table l.once

  leaves-near : (before : List Waiter) (u : Waiter) (after : List Waiter) (x : Way) → s.clock ≤ t → way_out r s.own (live_table t s) t u ≡ Some x
      → Names serve (leaves s t before u after x)
  leaves-near before u after x later way sent a q e v f =
      let A : Answer = telling s t None (way_verdict x) (before ++ after) in
      let same : A ≡ a = same_answer A a e in
      let two : number (way_verdict x) ≡ 2 = ap (λ k. number k.verdict) same ∙ v in
      let octets : leaving t u ≡ q =
      same_octets (frame (way_to x) (leaving t u)) (frame (addressed a.verdict) q)
      (append_cancel_left fs (frame (way_to x) (leaving t u) ∷ []) (frame (addressed a.verdict) q ∷ []) (sym sent ∙ f)) in
      let target : target_of u.octets ≡ target_of q = sym (target_kept (octet_for (remaining t u)) u.octets) ∙ ap target_of octets in
      let n : Near r s.own (live_table t s) (addressed a.verdict) (target_of q) =
      subst (λ k. Near r s.own (live_table t s) (addressed k.verdict) (target_of q)) same
      (subst (λ k. Near r s.own (live_table t s) (addressed (way_verdict x)) k) target (way_near r m s.own (live_table t s) t u x once-live way two)) in
      near-then serve (leaves s t before u after x).outcome (leaves s t before u after x).state (leaves_table w h s t r fs gs b l before u after x later) (addressed a.verdict) (target_of q) n

  served-near : (k : Pick Way) → s.clock ≤ t → Picked (way_out r s.own (live_table t s) t) (live_line t s) k → Names serve (served r s t k)
  served-near none later p = no_name serve _ (only s t verdict.Done (live_line t s)) refl (λ z. omega arith)
  served-near (one before u after x) later p = go (r.room (length (leaving t u)))
    where
      go : (c : Bool) → Names serve (cond c (leaves s t before u after x) (only s t verdict.NoSpace (live_line t s)))
      go true = leaves-near before u after x later p.says
      go false = no_name serve _ (only s t verdict.NoSpace (live_line t s)) refl (λ z. omega arith)

  received-near : (o : List ℕ) (sender : LinkAddress) (k : Bool) → Listed w h s t r fs gs b l (receive o sender) (receives r s t o sender k) → Names (receive o sender) (receives r s t o sender k)
  received-near o sender true l' = go (pick (copy_of o) (live_line t s))
    where
      go : (k : Pick (Unit {0})) → Names (receive o sender) (cancels s t k)
      go none = no_name (receive o sender) _ (only s t verdict.Duplicate (live_line t s)) refl (λ z. omega arith)
      go (one before u after x) = no_name (receive o sender) _ (only s t verdict.Cancelled (before ++ after)) refl (λ z. omega arith)
  received-near o sender false l' =
      let table : List Station = noted t o sender (live_table t s) in
      let p : List ℕ = passed_on (find (destination_address o) (noted t o sender (live_table t s))) o in
      does-near (receive o sender) table s.next (delivery_of r s o) (receive_deed r s table (live_line t s) sender o p) p l'
      (receive_near r m s table (live_line t s) sender o p l'.once)

  pub nearer-step : (c : Call) → Names c (step s t r c)
  nearer-step (place p) = unless_both (Names (place p)) (place_fault s t p) s (places s t p) (refused-name (place p)) (λ e. no_name (place p) _ (places s t p) refl (λ z. omega arith))
  nearer-step (receive o sender) = unless_both (Names (receive o sender)) (receive_fault s t o) s (receives r s t o sender (duplicate s t o)) (refused-name (receive o sender))
      (λ e. received-near o sender (duplicate s t o) (receives-table w h s t r fs gs b l o sender (received s t o e) (duplicate s t o) refl))
  nearer-step (send q payload) = unless_both (Names (send q payload)) (send_fault s t q payload) s (sends r s t q payload) (refused-name (send q payload))
      (λ e. does-near (send q payload) (live_table t s) (count_up (numbered q.body) s.next) None
      (dispatched r s.own (live_table t s) (live_line t s) None (everywhere r s q.body) (writes s t q payload)) (writes s t q payload) (sends-table w h s t r fs gs b l q payload (sent_later s t q payload e))
      (dispatched_near r m s.own (live_table t s) (live_line t s) None (everywhere r s q.body) (writes s t q payload) once-live))
  nearer-step serve = unless_both (Names serve) _ s (serves r s t) (refused-name serve)
      (λ e. served-near (pick (way_out r s.own (live_table t s) t) (live_line t s)) (served_later s t e) (picked (way_out r s.own (live_table t s) t) (live_line t s)))
