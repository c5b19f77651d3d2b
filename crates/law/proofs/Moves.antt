-- (b) What one call does to the line. Assumes nothing.
use Rattle.std.proofs.Common.{◌≡◌, ℕ, ◌+◌, ◌≤◌, Bool, true, false, cond, not, ◌&&◌, ◌||◌, eqb, List, [], ◌∷◌, ◌++◌, length, Some, None, Option, sym, refl, ap, ◌∙◌, subst, arith}
use Rattle.std.specs.List.{AllByRecursion}
use Rattle.std.proofs.lemmas.Bool.{eqb-true, eq-eqb, and_parts, leb-true, and_from, true≢false}
use Rattle.law.proofs.Tables.{none_not_some}
use Rattle.law.proofs.Steps.{event, first_passes, Received, sent_later}
use Rattle.rules.proofs.Hops.{readable, passed-on-life, hops_kept}
use Rattle.law.proofs.Listed.{receives-table, let_go_told}
use Rattle.std.proofs.lemmas.List.{append-nil}
use Rattle.law.proofs.Picks.{Picked, picked}
use Rattle.rules.specs.declared.verdict.Verdict.TheVariants as verdict
use Rattle.rules.specs.declared.request.Body.{Body}
use Rattle.rules.specs.declared.request.Body.TheVariants as body
use Rattle.packets.specs.Common.{hop_limits_fit, lifetime_fits}
use Rattle.packets.specs.Writing.{wire}
use Rattle.rules.proofs.Lives.{octet_best, life_fifty}
use Rattle.std.proofs.ByRecursion.{All-weaker, kept_by_passes}
use Rattle.law.specs.Fates.{Copies, Cancelled, Lasting, Left, cancelleds, left_answer, lefts, seen, takes, takes_at}
use Rattle.law.specs.Laws.{Basics, Table}
use Rattle.law.specs.Words.{packet}
use Rattle.law.specs.World.{Answer, Around, Call, Choice, Delivery, Event, Frame, History, Hold, LinkAddress, LongPositionVector, Placing, Request, Start, State, Station, Verdict, Waiter, accepted, for-ms, for-neighbour, frame, nearest, no-progress, nobody, place, receive, send, serve, wait}
use Rattle.rules.specs.Deeds.{Deed, behind, dispatched, full, held, hold_verdict, kept_waiting, no_space, rests, spent, to_all, to_one, verdict_of}
use Rattle.rules.specs.Known.{find}
use Rattle.rules.specs.Lines.{lasts, Pick, leaving, live_line, none, one, pick, remaining}
use Rattle.rules.specs.Packets.{destination_address, packet_lifetime, number_of, octet_for, passed_on, same_number, source_of}
use Rattle.rules.specs.Requests.{body_kind, header_for, numbered, wanted, written}
use Rattle.rules.specs.Rules.{Step, Way, bad_time, cancels, copy_of, count_up, delivery_of, does, duplicate, everywhere, leaves, link_of, only, places, receive_deed, receives, send_fault, sends, served, telling, to_everybody, to_neighbour, way_advised, way_held, way_out, way_to, way_verdict, writes}
use Rattle.rules.specs.Tables.{live_table, noted}
use Rattle.rules.specs.World.{waits_by_time}
use Rattle.rules.specs.Verdicts.{addressed, number}
use Rattle.times.specs.Lifetimes.{lifetime_of}

-- what an accepted call does to those that last
pub data Move (w : Start) (h : History) (e : Event) (lives : List Waiter) : List Waiter → Type 0 where
  stays : lefts e ≡ 0 → cancelleds e ≡ 0 → takes w e h ≡ [] → Move w h e lives lives
  joins : (v : Waiter) → lefts e ≡ 0 → cancelleds e ≡ 0 → takes w e h ≡ record { serial = length h; what = seen v } ∷ [] → Lasting e.time (seen v)
      → Move w h e lives (lives ++ (v ∷ []))
  goes : (before : List Waiter) (v : Waiter) (after : List Waiter) → lives ≡ before ++ (v ∷ after) → lefts e ≡ 1 → cancelleds e ≡ 0 → takes w e h ≡ []
      → Left (seen v) e → Move w h e lives (before ++ after)
  struck : (before : List Waiter) (v : Waiter) (after : List Waiter) → lives ≡ before ++ (v ∷ after) → lefts e ≡ 0 → cancelleds e ≡ 1 → takes w e h ≡ []
      → Cancelled (seen v) e → AllByRecursion (λ u. Copies (seen u) (seen v) → ⊥) before → Move w h e lives (before ++ after)

some_test : (k : Bool) (x : Unit {0}) → ◌≡◌ {A = Option (Unit {0})} (cond k (Some tt) None) (Some x) → k ≡ true
some_test true x e = refl
some_test false x e = absurd (none_not_some x e)

-- one that a duplicate passes over is no copy of one that it cancels
same_through : (a b c : Option ℕ) → same_number a b ≡ true → same_number b c ≡ true → same_number a c ≡ true
same_through (Some a) (Some b) (Some c) e f = eq-eqb a c (eqb-true a b e ∙ eqb-true b c f)
same_through None b c e f = e
same_through (Some a) None c e f = absurd (true≢false (sym e))
same_through (Some a) (Some b) None e f = absurd (true≢false (sym f))

passed_over : (k : Bool) → ◌≡◌ {A = Option (Unit {0})} (cond k (Some tt) None) None → k ≡ false
passed_over true e = absurd (none_not_some tt (sym e))
passed_over false e = refl

no_copy : (o : List ℕ) (u v : Waiter) → copy_of o u ≡ None → source_of v.octets ≡ source_of o → same_number (number_of v.octets) (number_of o) ≡ true → Copies (seen u) (seen v) → ⊥
no_copy o u v z src num c =
    let all : (waits_by_time u.hold && (eqb (source_of u.octets) (source_of o) && same_number (number_of u.octets) (number_of o))) ≡ true =
    and_from _ _ c.timed (and_from _ _ (eq-eqb _ _ (c.source ∙ src)) (same_through (number_of u.octets) (number_of v.octets) (number_of o) c.number num)) in
    true≢false (sym all ∙ passed_over _ z)

takes_none : (w : Start) (e : Event) (h : History) (v : ℕ) → (eqb v 3 || eqb v 4) ≡ false → takes_at w e h v ≡ []
takes_none w e h v f = ap (λ m. cond m (record { serial = length h; what = record { octets = packet w e h; since = e.time; timed = eqb v 3 } } ∷ []) []) f

takes_one : (w : Start) (e : Event) (h : History) (v : ℕ) → (eqb v 3 || eqb v 4) ≡ true
    → takes_at w e h v ≡ record { serial = length h; what = record { octets = packet w e h; since = e.time; timed = eqb v 3 } } ∷ []
takes_one w e h v f = ap (λ m. cond m (record { serial = length h; what = record { octets = packet w e h; since = e.time; timed = eqb v 3 } } ∷ []) []) f

-- a packet that waits by time goes to everybody, another to a neighbour
way_kind : (r : Around) (own : LongPositionVector) (table : List Station) (t : ℕ) (v : Waiter) (x : Way) → way_out r own table t v ≡ Some x
    → number (way_verdict x) ≡ cond (waits_by_time v.hold) 1 2
way_kind r own table t v x e = go v.hold e
  where
    timed : (k : Bool) → cond k (Some to_everybody) None ≡ Some x → number (way_verdict x) ≡ 1
    timed true z = let y : to_everybody ≡ x = cc in ap (λ k. number (way_verdict k)) (sym y)
    timed false z = absurd (none_not_some x z)

    advised : (c : Choice) → way_advised table c ≡ Some x → number (way_verdict x) ≡ 2
    advised (nearest i) z = let y : to_neighbour (link_of table i) ≡ x = cc in ap (λ k. number (way_verdict k)) (sym y)
    advised (wait ms) z = absurd (none_not_some x z)
    advised no-progress z = absurd (none_not_some x z)
    advised nobody z = absurd (none_not_some x z)

    go : (hold : Hold) → way_held r own table t v hold ≡ Some x → number (way_verdict x) ≡ cond (waits_by_time hold) 1 2
    go (for-ms ms) z = timed _ z
    go for-neighbour z = advised _ z

all_at : (P : Waiter → Type 0) (before : List Waiter) (v : Waiter) (after : List Waiter) → AllByRecursion P (before ++ (v ∷ after)) → P v
all_at P [] v after a = a.0
all_at P (u ∷ before) v after a = all_at P before v after a.1

written-life : (own : LongPositionVector) (next : ℕ) (to : Option Station) (q : Request) (payload : List ℕ) → packet_lifetime (written own next to q payload) ≡ q.common.lifetime.octet
unfolding written
written-life own next to q payload = go q.body
  where
    go : (k : Body) → packet_lifetime (wire (record { header = header_for own next to q k; payload = payload })) ≡ q.common.lifetime.octet
    go body.Beacon = refl
    go (body.Unicast a) = refl
    go (body.Anycast a) = refl
    go (body.Broadcast a) = refl
    go (body.SingleHop m) = refl
    go body.MultiHop = refl

not_false : (b : Bool) → not b ≡ false → b ≡ true
not_false true e = refl
not_false false e = sym e

written-lasts : (s : State) (t : ℕ) (q : Request) (payload : List ℕ) → send_fault s t q payload ≡ None → 50 ≤ lifetime_of (packet_lifetime (writes s t q payload))
written-lasts s t q payload e =
    let a = first_passes (bad_time s t) _ _ e in
    let b = first_passes (not (hop_limits_fit (body_kind q.body) q.common)) _ _ a.1 in
    let c = first_passes (not (lifetime_fits q.common)) _ _ b.1 in
    subst (λ k. 50 ≤ lifetime_of k) (sym (written-life s.own s.next (find (wanted q.body) (live_table t s)) q payload))
    (life_fifty q.common.lifetime.octet (leb-true _ _ (not_false _ c.0)))

-- a call that may take its packet
pub record Taker (w : Start) (h : History) (t : ℕ) (r : Around) (fs gs : List Frame) (c : Call) (p : List ℕ) : Type 0 where
  pub takes_it : (a : Answer) → takes w (event fs gs t c r (accepted a)) h ≡ takes_at w (event fs gs t c r (accepted a)) h (number a.verdict)
  pub serves_not : (a : Answer) → left_answer c a ≡ 0
  pub writes_it : (a : Answer) → p ≡ packet w (event fs gs t c r (accepted a)) h
  pub lasts_it : 50 ≤ lifetime_of (packet_lifetime p)

module _ (w : Start) (h : History) (s : State) (t : ℕ) (r : Around) (fs gs : List Frame) (b : Basics w h s) (l : Table w h s) (old : AllByRecursion (λ u. u.since ≤ t) (live_line t s)) where
  abbrev pub Moves : Call → Step → Type 0
  Moves c st = gs ≡ fs ++ st.sent → Move w h (event fs gs t c r st.outcome) (live_line t s) st.state.line

  module _ (c : Call) (table : List Station) (next : ℕ) (d : Option Delivery) (p : List ℕ) (k : Taker w h t r fs gs c p) where
    no_join : (deed : Deed) → kept_waiting deed t p ≡ [] → (eqb (number (verdict_of deed)) 3 || eqb (number (verdict_of deed)) 4) ≡ false → eqb (number (verdict_of deed)) 10 ≡ false
        → Moves c (does s t table next d deed p)
    no_join deed e f g sent =
        subst (λ ls. Move w h (event fs gs t c r (does s t table next d deed p).outcome) (live_line t s) (live_line t s ++ ls)) (sym e)
        (subst (λ ls. Move w h (event fs gs t c r (does s t table next d deed p).outcome) (live_line t s) ls) (sym (append-nil (live_line t s)))
        (stays (k.serves_not _) (ap (λ m. cond m 1 0) g) (k.takes_it _ ∙ takes_none w (event fs gs t c r (does s t table next d deed p).outcome) h (number (verdict_of deed)) f)))

    join : (hold : Hold) → eqb (number (hold_verdict hold)) 3 ≡ waits_by_time hold → (eqb (number (hold_verdict hold)) 3 || eqb (number (hold_verdict hold)) 4) ≡ true → eqb (number (hold_verdict hold)) 10 ≡ false
        → Moves c (does s t table next d (held hold) p)
    join hold e f g sent =
        let a : Answer = telling s t d (hold_verdict hold) (live_line t s ++ (record { octets = p; since = t; hold = hold } ∷ [])) in
        joins (record { octets = p; since = t; hold = hold }) (k.serves_not a) (ap (λ m. cond m 1 0) g)
        (k.takes_it a ∙ takes_one w (event fs gs t c r (accepted a)) h (number (hold_verdict hold)) f
        ∙ (λ i. record { serial = length h; what = record { octets = sym (k.writes_it a) i; since = t; timed = e i } } ∷ []))
        (omega arith, omega (arith, k.lasts_it))

    does-moves : (deed : Deed) → Moves c (does s t table next d deed p)
    does-moves rests = no_join rests refl refl refl
    does-moves to_all = no_join to_all refl refl refl
    does-moves (to_one a) = no_join (to_one a) refl refl refl
    does-moves (held (for-ms ms)) = join (for-ms ms) refl refl refl
    does-moves (held for-neighbour) = join for-neighbour refl refl refl
    does-moves spent = no_join spent refl refl refl
    does-moves behind = no_join behind refl refl refl
    does-moves no_space = no_join no_space refl refl refl
    does-moves full = no_join full refl refl refl

  stays-moves : (c : Call) (v : Verdict) → (eqb (number v) 1 || eqb (number v) 2) ≡ false → (eqb (number v) 3 || eqb (number v) 4) ≡ false → eqb (number v) 10 ≡ false → Moves c (only s t v (live_line t s))
  stays-moves c v e f g sent = stays (no_left c) (ap (λ m. cond m 1 0) g) (no-take c)
    where
      no_left : (c : Call) → left_answer c (telling s t None v (live_line t s)) ≡ 0
      no_left (place p) = refl
      no_left (receive o sender) = refl
      no_left (send q payload) = refl
      no_left serve = ap (λ m. cond m 1 0) e

      no-take : (c : Call) → takes w (event fs gs t c r (accepted (telling s t None v (live_line t s)))) h ≡ []
      no-take (place p) = refl
      no-take (receive o sender) = takes_none w (event fs gs t (receive o sender) r (accepted (telling s t None v (live_line t s)))) h (number v) f
      no-take (send q payload) = takes_none w (event fs gs t (send q payload) r (accepted (telling s t None v (live_line t s)))) h (number v) f
      no-take serve = refl

  -- one that was not let go has 50 ms left
  still-lasts : (before : List Waiter) (v : Waiter) (after : List Waiter) → live_line t s ≡ before ++ (v ∷ after) → t + 50 ≤ v.since + lifetime_of (packet_lifetime v.octets)
  still-lasts before v after whole = leb-true _ _ (all_at (λ u. lasts t u ≡ true) before v after (subst (AllByRecursion (λ u. lasts t u ≡ true)) whole (kept_by_passes (lasts t) s.line)))

  cancels-moves : (o : List ℕ) (sender : LinkAddress) (k : Pick (Unit {0})) → Picked (copy_of o) (live_line t s) k → Moves (receive o sender) (cancels s t k)
  cancels-moves o sender none p = stays-moves (receive o sender) verdict.Duplicate refl refl refl
  cancels-moves o sender (one before v after x) p = λ sent.
      let m = and_parts (waits_by_time v.hold) (eqb (source_of v.octets) (source_of o) && same_number (number_of v.octets) (number_of o)) (some_test _ x p.says) in
      let n = and_parts (eqb (source_of v.octets) (source_of o)) (same_number (number_of v.octets) (number_of o)) m.1 in
      struck before v after p.whole refl refl refl (record {
        octets = o;
        sender = sender;
        receiving = refl;
        answer = telling s t None verdict.Cancelled (before ++ after);
        accepting = refl;
        verdict = refl;
        lasting = still-lasts before v after p.whole;
        timed = m.0;
        source = eqb-true _ _ n.0;
        number = n.1;
      })
      (All-weaker (λ u. copy_of o u ≡ None) (λ u. Copies (seen u) (seen v) → ⊥) (λ u z c. no_copy o u v z (eqb-true _ _ n.0) n.1 c) before p.first)

  leaves-moves : (before : List Waiter) (v : Waiter) (after : List Waiter) (x : Way) → live_line t s ≡ before ++ (v ∷ after) → way_out r s.own (live_table t s) t v ≡ Some x
      → Moves serve (leaves s t before v after x)
  leaves-moves before v after x whole way sent =
      goes before v after whole (one_left x) (none-cancelled x) refl (record {
        serving = refl;
        answer = telling s t None (way_verdict x) (before ++ after);
        accepting = refl;
        verdict = way_kind r s.own (live_table t s) t v x way;
        later = all_at (λ u. u.since ≤ t) before v after (subst (AllByRecursion (λ u. u.since ≤ t)) whole old);
        lasting = still-lasts before v after whole;
        octet = octet_for (remaining t v);
        best = octet_best (remaining t v);
        frame = frame-of x sent;
        no_more = (octet_best (remaining t v)).within;
        hops = hops_kept (octet_for (remaining t v)) v.octets;
      })
    where
      frame-of : (y : Way) → gs ≡ fs ++ (frame (way_to y) (leaving t v) ∷ []) → gs ≡ fs ++ (frame (addressed (way_verdict y)) (leaving t v) ∷ [])
      frame-of to_everybody e = e
      frame-of (to_neighbour a) e = e

      one_left : (y : Way) → left_answer serve (telling s t None (way_verdict y) (before ++ after)) ≡ 1
      one_left to_everybody = refl
      one_left (to_neighbour a) = refl

      none-cancelled : (y : Way) → ◌≡◌ {A = ℕ} (cond (eqb (number (way_verdict y)) 10) 1 0) 0
      none-cancelled to_everybody = refl
      none-cancelled (to_neighbour a) = refl

  pub served-moves : (k : Pick Way) → Picked (way_out r s.own (live_table t s) t) (live_line t s) k → Moves serve (served r s t k)
  served-moves none p = stays-moves serve verdict.Done refl refl refl
  served-moves (one before v after x) p = go (r.room (length (leaving t v)))
    where
      go : (c : Bool) → Moves serve (cond c (leaves s t before v after x) (only s t verdict.NoSpace (live_line t s)))
      go true = leaves-moves before v after x p.whole p.says
      go false = stays-moves serve verdict.NoSpace refl refl refl

  pub receives-moves : (o : List ℕ) (sender : LinkAddress) → Received s t o → (k : Bool) → duplicate s t o ≡ k → Moves (receive o sender) (receives r s t o sender k)
  receives-moves o sender g true e = cancels-moves o sender (pick (copy_of o) (live_line t s)) (picked (copy_of o) (live_line t s))
  receives-moves o sender g false e =
      let table : List Station = noted t o sender (live_table t s) in
      let p : List ℕ = passed_on (find (destination_address o) (noted t o sender (live_table t s))) o in
      let after = receives-table w h s t r fs gs b l o sender g false e in
      does-moves (receive o sender) table s.next (delivery_of r s o) p
      (record {
        takes_it = λ a. refl;
        serves_not = λ a. refl;
        writes_it = λ a. ap (λ k. passed_on k o) (after.listed (destination_address o));
        lasts_it = subst (λ k. 50 ≤ lifetime_of k) (sym (passed-on-life (find (destination_address o) table) o (readable o g.readable))) (life_fifty (packet_lifetime o) (readable o g.readable).lives);
      })
      (receive_deed r s table (live_line t s) sender o p)

  pub sends-moves : (q : Request) (payload : List ℕ) → send_fault s t q payload ≡ None → Moves (send q payload) (sends r s t q payload)
  sends-moves q payload e =
      does-moves (send q payload) (live_table t s) (count_up (numbered q.body) s.next) None (writes s t q payload)
      (record {
        takes_it = λ a. refl;
        serves_not = λ a. refl;
        writes_it = λ a i. written (b.own i) (b.next i) (let_go_told w h s t b l (sent_later s t q payload e) (wanted q.body) i) q payload;
        lasts_it = written-lasts s t q payload e;
      })
      (dispatched r s.own (live_table t s) (live_line t s) None (everywhere r s q.body) (writes s t q payload))

  pub places-moves : (p : Placing) → Moves (place p) (places s t p)
  places-moves p sent = stays refl refl refl
