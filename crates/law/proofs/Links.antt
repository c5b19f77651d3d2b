-- (c) What the link got, and what the state keeps besides the table. Assumes nothing.
use Rattle.std.proofs.Common.{◌≡◌, ℕ, ◌+◌, ◌%◌, ◌<◌, ◌≤◌, Bool, true, false, cond, ◌||◌, eqb, ltb, List, [], ◌∷◌, ◌++◌, length, Some, None, Option, sym, refl, ap, ◌∙◌, subst, arith}
use Rattle.std.specs.List.{AllByRecursion}
use Rattle.std.proofs.lemmas.List.{append-nil}
use Rattle.std.proofs.ByRecursion.{all-has, All-weaker}
use Rattle.std.proofs.lemmas.Bool.{eq-eqb, ne_eqb}
use Rattle.law.proofs.Tables.{none_not_some, find_here, find_there}
use Rattle.law.proofs.Steps.{event, unless_both, Received, received, sent_later}
use Rattle.law.proofs.Listed.{receives-table, let_go_told, our_record}
use Rattle.rules.proofs.Hops.{readable, passed-on-hops}
use Rattle.rules.specs.declared.verdict.Verdict.TheVariants as verdict
use Rattle.forwarding.specs.declared.verdict.Verdict.TheVariants as carriage
use Rattle.forwarding.specs.Verdicts.{spaced}
use Rattle.forwarding.proofs.Carriers.{carrier}
use Rattle.policy.specs.Choices.{Sound}
use Rattle.location_table.specs.Neighbours.{distances}
use Rattle.law.specs.Laws.{Basics, Carried, Once, OneLower, OneLowerBy, Table, named}
use Rattle.law.specs.Words.{numbers_taken, packet}
use Rattle.law.specs.World.{Meant, Answer, Around, Call, Choice, Delivery, Fault, Frame, History, Hold, LinkAddress, LongPositionVector, Outcome, Position, Request, Start, State, Station, Waiter, accepted, for-ms, for-neighbour, frame, nearest, no-progress, nobody, on_some, place, receive, send, serve, wait}
use Rattle.link.specs.Addresses.{link_address}
use Rattle.rules.specs.Deeds.{Deed, advised, asked_for, behind, deed_for, dispatched, full, held, kept_waiting, no_space, position_of, rests, sent_by, spent, to_all, to_one, verdict_of}
use Rattle.rules.specs.Known.{address_of, find}
use Rattle.rules.specs.Lines.{Pick, leaving, live_line, none, one, pick}
use Rattle.rules.specs.Packets.{carries, destination_address, hops_of, packet_kind, passed_on, target_of}
use Rattle.rules.specs.Requests.{numbered, own_of, wanted, written}
use Rattle.rules.specs.Rules.{Step, Way, cancels, copy_of, count_up, delivery_of, does, duplicate, ends_here, everywhere, is_multi, leaves, link_of, no, only, place_fault, places, receive_deed, receive_fault, receives, send_fault, sends, served, serves, step, telling, to_everybody, to_neighbour, way_advised, way_held, way_out, way_verdict, within, writes}
use Rattle.rules.specs.Tables.{live_table, noted, with_link}
use Rattle.rules.specs.Verdicts.{addressed, number}

-- the next number
next_more : (n m : ℕ) (b : Bool) → n ≡ m % 65536 → count_up b n ≡ (m + cond b 1 0) % 65536
next_more n m true e = omega arith
next_more n m false e = e ∙ ap (λ k. k % 65536) (let z : m ≡ m + 0 = omega arith in z)

module _ (w : Start) (h : History) (s : State) (t : ℕ) (r : Around) (fs gs : List Frame) (b : Basics w h s) where
  abbrev Kept : Call → Step → Type 0
  Kept c st = Basics w (event fs gs t c r st.outcome ∷ h) st.state

  same_next : s.next ≡ (numbers_taken h + 0) % 65536
  same_next = b.next ∙ ap (λ k. k % 65536) (let z : numbers_taken h ≡ numbers_taken h + 0 = omega arith in z)

  refused-kept : (c : Call) (g : Fault) → Kept c (no s g)
  refused-kept c g = record { clock = b.clock; own = b.own; next = b.next }

  served-kept : (k : Pick Way) → Kept serve (served r s t k)
  served-kept none = record { clock = refl; own = b.own; next = same_next }
  served-kept (one before v after x) = go (r.room (length (leaving t v)))
    where
      go : (c : Bool) → Kept serve (cond c (leaves s t before v after x) (only s t verdict.NoSpace (live_line t s)))
      go true = record { clock = refl; own = b.own; next = same_next }
      go false = record { clock = refl; own = b.own; next = same_next }

  received-kept : (o : List ℕ) (sender : LinkAddress) (k : Bool) → Kept (receive o sender) (receives r s t o sender k)
  received-kept o sender true = go (pick (copy_of o) (live_line t s))
    where
      go : (k : Pick (Unit {0})) → Kept (receive o sender) (cancels s t k)
      go none = record { clock = refl; own = b.own; next = same_next }
      go (one before v after x) = record { clock = refl; own = b.own; next = same_next }
  received-kept o sender false = record { clock = refl; own = b.own; next = same_next }

  pub basics-step : (c : Call) → Kept c (step s t r c)
  basics-step (place p) = unless_both (Kept (place p)) (place_fault s t p) s (places s t p) (refused-kept (place p))
      (λ e. record { clock = refl; own = ap (λ a. own_of a t p) (our_record w h s b); next = same_next })
  basics-step (receive o sender) = unless_both (Kept (receive o sender)) (receive_fault s t o) s _ (refused-kept (receive o sender)) (λ e. received-kept o sender (duplicate s t o))
  basics-step (send q payload) = unless_both (Kept (send q payload)) (send_fault s t q payload) s (sends r s t q payload) (refused-kept (send q payload))
      (λ e. record { clock = refl; own = b.own; next = next_more s.next (numbers_taken h) (numbered q.body) b.next })
  basics-step serve = unless_both (Kept serve) _ s (serves r s t) (refused-kept serve) (λ e. served-kept (pick (way_out r s.own (live_table t s) t) (live_line t s)))

-- a deed sends what its verdict names
deed_named : (s : State) (t : ℕ) (d : Option Delivery) (line : List Waiter) (deed : Deed) (p : List ℕ)
    → sent_by deed p ≡ named (accepted (telling s t d (verdict_of deed) line)) p
deed_named s t d line rests p = refl
deed_named s t d line to_all p = refl
deed_named s t d line (to_one a) p = refl
deed_named s t d line (held (for-ms ms)) p = refl
deed_named s t d line (held for-neighbour) p = refl
deed_named s t d line spent p = refl
deed_named s t d line behind p = refl
deed_named s t d line no_space p = refl
deed_named s t d line full p = refl

does-named : (s : State) (t : ℕ) (table : List Station) (next : ℕ) (d : Option Delivery) (deed : Deed) (p : List ℕ)
    → (does s t table next d deed p).sent ≡ named (does s t table next d deed p).outcome p
does-named s t table next d deed p = deed_named s t d (live_line t s ++ kept_waiting deed t p) deed p

module _ (w : Start) (h : History) (s : State) (t : ℕ) (r : Around) (fs gs : List Frame) (b : Basics w h s) (l : Table w h s) where
  abbrev Frames : Call → Step → Type 0
  Frames c st = gs ≡ fs ++ st.sent → Carried w (event fs gs t c r st.outcome) h

  refused-frames : (c : Call) (g : Fault) → Frames c (no s g)
  refused-frames (place p) g e = (e ∙ append-nil fs, λ q. refl)
  refused-frames (receive o sender) g e = e
  refused-frames (send q payload) g e = e
  refused-frames serve g e = ([], e)

  served-frames : (k : Pick Way) → Frames serve (served r s t k)
  served-frames none = λ e. ([], e)
  served-frames (one before v after x) = go (r.room (length (leaving t v))) x
    where
      go : (c : Bool) (y : Way) → Frames serve (cond c (leaves s t before v after y) (only s t verdict.NoSpace (live_line t s)))
      go true to_everybody e = (leaving t v, e)
      go true (to_neighbour a) e = (leaving t v, e)
      go false y e = ([], e)

  new-packet : (o : List ℕ) (sender : LinkAddress) → Table w (event fs gs t (receive o sender) r (receives r s t o sender false).outcome ∷ h) (receives r s t o sender false).state
      → passed_on (find (destination_address o) (noted t o sender (live_table t s))) o ≡ packet w (event fs gs t (receive o sender) r (receives r s t o sender false).outcome) h
  new-packet o sender after = ap (λ k. passed_on k o) (after.listed (destination_address o))

  received-frames : (o : List ℕ) (sender : LinkAddress) (k : Bool)
      → Table w (event fs gs t (receive o sender) r (receives r s t o sender k).outcome ∷ h) (receives r s t o sender k).state
      → Frames (receive o sender) (receives r s t o sender k)
  received-frames o sender true after = go (pick (copy_of o) (live_line t s))
    where
      go : (k : Pick (Unit {0})) → Frames (receive o sender) (cancels s t k)
      go none e = e
      go (one before v after' x) e = e
  received-frames o sender false after = λ e.
      e ∙ ap (λ k. fs ++ k) (does-named s t (noted t o sender (live_table t s)) s.next (delivery_of r s o)
      (receive_deed r s (noted t o sender (live_table t s)) (live_line t s) sender o (passed_on (find (destination_address o) (noted t o sender (live_table t s))) o))
      (passed_on (find (destination_address o) (noted t o sender (live_table t s))) o))
      ∙ ap (λ p. fs ++ named (receives r s t o sender false).outcome p) (new-packet o sender after)

  sent-packet : (q : Request) (payload : List ℕ) → s.clock ≤ t → writes s t q payload ≡ packet w (event fs gs t (send q payload) r (sends r s t q payload).outcome) h
  sent-packet q payload e = λ i. written (b.own i) (b.next i) (let_go_told w h s t b l e (wanted q.body) i) q payload

  sent-frames : (q : Request) (payload : List ℕ) → s.clock ≤ t → Frames (send q payload) (sends r s t q payload)
  sent-frames q payload later e =
      e ∙ ap (λ k. fs ++ k) (does-named s t (live_table t s) (count_up (numbered q.body) s.next) None
      (dispatched r s.own (live_table t s) (live_line t s) None (everywhere r s q.body) (writes s t q payload)) (writes s t q payload)) ∙ ap (λ p. fs ++ named (sends r s t q payload).outcome p) (sent-packet q payload later)

  pub frames-step : (c : Call) → Frames c (step s t r c)
  frames-step (place p) = unless_both (Frames (place p)) (place_fault s t p) s (places s t p) (refused-frames (place p)) (λ e c. (c ∙ append-nil fs, λ q. refl))
  frames-step (receive o sender) = unless_both (Frames (receive o sender)) (receive_fault s t o) s (receives r s t o sender (duplicate s t o)) (refused-frames (receive o sender))
      (λ e. received-frames o sender (duplicate s t o) (receives-table w h s t r fs gs b l o sender (received s t o e) (duplicate s t o) refl))
  frames-step (send q payload) = unless_both (Frames (send q payload)) (send_fault s t q payload) s (sends r s t q payload) (refused-frames (send q payload)) (λ e. sent-frames q payload (sent_later s t q payload e))
  frames-step serve = unless_both (Frames serve) _ s (serves r s t) (refused-frames serve) (λ e. served-frames (pick (way_out r s.own (live_table t s) t) (live_line t s)))

  -- hop limits
  abbrev Lower : Call → Step → Type 0
  Lower c st = OneLower w (event fs gs t c r st.outcome) h

  refused-lower : (c : Call) (g : Fault) → Lower c (no s g)
  refused-lower (place p) g = tt
  refused-lower (receive o sender) g = tt
  refused-lower (send q payload) g = tt
  refused-lower serve g = tt

  received-lower : (o : List ℕ) (sender : LinkAddress) → Received s t o → (k : Bool) → Lower (receive o sender) (receives r s t o sender k)
  received-lower o sender g true = go (pick (copy_of o) (live_line t s))
    where
      go : (k : Pick (Unit {0})) → Lower (receive o sender) (cancels s t k)
      go none = λ e. passed-on-hops _ o (readable o g.readable)
      go (one before v after x) = λ e. passed-on-hops _ o (readable o g.readable)
  received-lower o sender g false = λ e. passed-on-hops _ o (readable o g.readable)

  any-lower : (q : Request) (payload : List ℕ) (o : Outcome) → OneLowerBy w (event fs gs t (send q payload) r o) h (send q payload) o
  any-lower q payload o = tt

  pub lower-step : (c : Call) → Lower c (step s t r c)
  lower-step (place p) = tt
  lower-step (receive o sender) = unless_both (Lower (receive o sender)) (receive_fault s t o) s (receives r s t o sender (duplicate s t o)) (refused-lower (receive o sender))
      (λ e. received-lower o sender (received s t o e) (duplicate s t o))
  lower-step (send q payload) = tt
  lower-step serve = tt

-- each station of the table is found at its address
pub found_all : (xs : List Station) → Once xs → AllByRecursion (λ x. find (address_of x) xs ≡ Some x) xs
found_all [] o = tt
found_all (x ∷ xs) o = (
  find_here (address_of x) x xs (eq-eqb (address_of x) (address_of x) refl),
  All-weaker (λ y. find (address_of y) xs ≡ Some y) (λ y. find (address_of y) (x ∷ xs) ≡ Some y)
      (λ y e. find_there (address_of y) x xs (ne_eqb _ _ (λ q. none_not_some y (sym o.0 ∙ ap (λ k. find k xs) q ∙ e))) ∙ e) xs (found_all xs o.1),
)

-- a neighbour of the table that is strictly nearer than we are
pub record Near (r : Around) (own : LongPositionVector) (table : List Station) (to : LinkAddress) (target : Position) : Type 0 where
  pub station : Station
  pub found : find (address_of station) table ≡ Some station
  pub neighbour : station.neighbour ≡ true
  pub addressed : link_address station.vector.address ≡ to
  pub strictly : r.distance station.vector.position target < r.distance own.short.position target

-- whom the policy names is nearer
pub named_nearer : (r : Around) → Meant r → (own : LongPositionVector) (table : List Station) (sender : Option Station) (target : Position) (i : ℕ) → Once table
    → asked_for r own table sender target ≡ nearest i → Near r own table (link_of table i) target
named_nearer r m own table sender target i once e =
    let span : Position → ℕ = λ p. r.distance p target in
    let theirs : Option ℕ = on_some span (on_some position_of sender) in
    let sound = subst (λ (c : Choice). Sound (span own.short.position) theirs (distances span table) c) e (m.sound (span own.short.position) theirs (distances span table)) in
    let it = carrier span own.short.position theirs table i sound in
    record {
      station = it.station;
      found = all-has (λ x. find (address_of x) table ≡ Some x) table it.station (found_all table once) it.known;
      neighbour = it.marked;
      addressed = it.addressed;
      strictly = it.nearer;
    }

-- what a dispatch to one station comes from
named_by : (r : Around) (table : List Station) (line : List Waiter) (p : List ℕ) (c : Choice) → number (verdict_of (advised r table line p c)) ≡ 2
    → (i : ℕ) × (c ≡ nearest i) × (addressed (verdict_of (advised r table line p c)) ≡ link_of table i)
named_by r table line p (nearest i) = go (r.room (length p))
  where
    go : (k : Bool) → number (verdict_of (deed_for line (spaced k (carriage.Unicast (link_of table i))))) ≡ 2
        → (j : ℕ) × (nearest i ≡ nearest j) × (addressed (verdict_of (deed_for line (spaced k (carriage.Unicast (link_of table i))))) ≡ link_of table j)
    go true e = (i, refl, refl)
    go false e = absurd (omega arith)
named_by r table line p (wait ms) = go (ltb (length line) 16)
  where
    go : (k : Bool) → number (verdict_of (cond k (held (for-ms ms)) full)) ≡ 2 → (j : ℕ) × (wait ms ≡ nearest j) × (addressed (verdict_of (cond k (held (for-ms ms)) full)) ≡ link_of table j)
    go true e = absurd (omega arith)
    go false e = absurd (omega arith)
named_by r table line p no-progress = λ e. absurd (omega arith)
named_by r table line p nobody = go (carries p) (ltb (length line) 16) (r.room (length p))
  where
    places : (m : Bool) → number (verdict_of (cond m (held for-neighbour) full)) ≡ 2 → ⊥
    places true e = omega arith
    places false e = omega arith

    go : (k m n : Bool) → number (verdict_of (deed_for line (cond k carriage.Hold (spaced n carriage.Broadcast)))) ≡ 2
        → (j : ℕ) × (nobody ≡ nearest j) × (addressed (verdict_of (deed_for line (cond k carriage.Hold (spaced n carriage.Broadcast)))) ≡ link_of table j)
    go true m n e = absurd (places (ltb (length line) 16) e)
    go false m true e = absurd (omega arith)
    go false m false e = absurd (omega arith)

pub dispatched_near : (r : Around) → Meant r → (own : LongPositionVector) (table : List Station) (line : List Waiter) (sender : Option Station) (k : Bool) (p : List ℕ) → Once table
    → number (verdict_of (dispatched r own table line sender k p)) ≡ 2 → Near r own table (addressed (verdict_of (dispatched r own table line sender k p))) (target_of p)
dispatched_near r m own table line sender true p once = go (r.room (length p))
  where
    go : (k : Bool) → number (verdict_of (deed_for line (spaced k carriage.Broadcast))) ≡ 2 → Near r own table (addressed (verdict_of (deed_for line (spaced k carriage.Broadcast)))) (target_of p)
    go true e = absurd (omega arith)
    go false e = absurd (omega arith)
dispatched_near r m own table line sender false p once = λ e.
    let n = named_by r table line p (asked_for r own table sender (target_of p)) e in
    subst (λ k. Near r own table k (target_of p)) (sym n.2) (named_nearer r m own table sender (target_of p) n.0 once n.1)

pub receive_near : (r : Around) → Meant r → (s : State) (table : List Station) (line : List Waiter) (sender : LinkAddress) (o p : List ℕ) → Once table
    → number (verdict_of (receive_deed r s table line sender o p)) ≡ 2 → Near r s.own table (addressed (verdict_of (receive_deed r s table line sender o p))) (target_of p)
receive_near r m s table line sender o p once = go (ends_here r s o) (eqb (hops_of o) 1)
  where
    go : (j k : Bool) → number (verdict_of (cond j rests (cond k spent (dispatched r s.own table line (with_link sender table) (is_multi (packet_kind o) || within r s o) p)))) ≡ 2
        → Near r s.own table (addressed (verdict_of (cond j rests (cond k spent (dispatched r s.own table line (with_link sender table) (is_multi (packet_kind o) || within r s o) p))))) (target_of p)
    go true k e = absurd (omega arith)
    go false true e = absurd (omega arith)
    go false false e = dispatched_near r m s.own table line (with_link sender table) (is_multi (packet_kind o) || within r s o) p once e

-- what a deed with verdict 2 sent
pub one_sent : (d : Deed) (p : List ℕ) → number (verdict_of d) ≡ 2 → sent_by d p ≡ frame (addressed (verdict_of d)) p ∷ []
one_sent rests p e = absurd (omega arith)
one_sent to_all p e = absurd (omega arith)
one_sent (to_one a) p e = refl
one_sent (held (for-ms ms)) p e = absurd (omega arith)
one_sent (held for-neighbour) p e = absurd (omega arith)
one_sent spent p e = absurd (omega arith)
one_sent behind p e = absurd (omega arith)
one_sent no_space p e = absurd (omega arith)
one_sent full p e = absurd (omega arith)

pub same_octets : (f g : Frame) → ◌≡◌ {A = List Frame} (f ∷ []) (g ∷ []) → f.packet ≡ g.packet
same_octets f g e = cc

pub same_answer : (a b : Answer) → accepted a ≡ accepted b → a ≡ b
same_answer a b e = cc

-- how a waiting packet goes to one neighbour
pub way_near : (r : Around) → Meant r → (own : LongPositionVector) (table : List Station) (t : ℕ) (v : Waiter) (x : Way) → Once table → way_out r own table t v ≡ Some x → number (way_verdict x) ≡ 2
    → Near r own table (addressed (way_verdict x)) (target_of v.octets)
way_near r m own table t v to_everybody once e q = absurd (omega arith)
way_near r m own table t v (to_neighbour a) once e q = go v.hold e
  where
    advised-way : (c : Choice) → way_advised table c ≡ Some (to_neighbour a) → (i : ℕ) × (c ≡ nearest i) × (link_of table i ≡ a)
    advised-way (nearest i) z = (i, refl, let y : link_of table i ≡ a = cc in y)
    advised-way (wait ms) z = absurd (none_not_some _ z)
    advised-way no-progress z = absurd (none_not_some _ z)
    advised-way nobody z = absurd (none_not_some _ z)

    timed : (k : Bool) → cond k (Some to_everybody) None ≡ Some (to_neighbour a) → ⊥
    timed true z = let y : ◌≡◌ {A = ℕ} 0 1 = cc in omega arith
    timed false z = none_not_some _ z

    go : (hold : Hold) → way_held r own table t v hold ≡ Some (to_neighbour a) → Near r own table a (target_of v.octets)
    go (for-ms ms) z = absurd (timed _ z)
    go for-neighbour z =
        let n = advised-way (asked_for r own table None (target_of v.octets)) z in
        subst (λ k. Near r own table k (target_of v.octets)) n.2 (named_nearer r m own table None (target_of v.octets) n.0 once n.1)
