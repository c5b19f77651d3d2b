-- (a) The table lists each address as the history tells. Assumes nothing.
use Rattle.std.proofs.Common.{◌≡◌, ℕ, ◌+◌, ◌≤◌, Bool, true, false, cond, not, ◌&&◌, ◌||◌, eqb, leb, List, [], ◌∷◌, ◌++◌, length, Some, None, filter, Option, sym, refl, ap, ◌∙◌, subst, arith}
use Rattle.std.proofs.lemmas.Bool.{eqb-true, eq-eqb, leb-false, le-leb, lt-leb}
use Rattle.std.proofs.lemmas.List.{append-nil}
use Rattle.law.proofs.Tables.{some_if, find_kept, once_kept, find_push, once_push, find-renew, once_renew, last_eight_more}
use Rattle.law.proofs.Steps.{event, unless_both, Received, received, placed_later, sent_later, served_later}
use Rattle.rules.specs.declared.verdict.Verdict.TheVariants as verdict
use Rattle.law.specs.Laws.{Basics, Once, Table}
use Rattle.law.specs.Words.{Heard, clock, heard, known, live_by, marked, newly, numbers, one_number, placed, placed_by, repeats, row, since_entry, told_by}
use Rattle.law.specs.World.{Answer, Around, Call, Fault, Frame, History, LinkAddress, LongPositionVector, Outcome, Request, Start, State, Station, Waiter, accepted, is_some, on_some, or_else, place, receive, refused, send, serve}
use Rattle.rules.specs.Known.{find, last_eight, memory_ms}
use Rattle.rules.specs.Lines.{Pick, leaving, live_line, none, one, pick}
use Rattle.rules.specs.Packets.{number_of, source_of, vector_of}
use Rattle.rules.specs.Rules.{Step, Way, cancels, copy_of, duplicate, leaves, no, only, our_address, place_fault, places, receive_fault, receives, send_fault, sends, served, serves, step, way_out}
use Rattle.rules.specs.Tables.{again, entered, from_itself, live, live_table, noted, remember, remembers, renew}

-- what is told at a later time
pub told_later : (c t a : ℕ) (xs : List Heard) → c ≤ t → some_if (live t) (told_by c xs) ≡ told_by t xs
told_later c t a [] l = refl
told_later c t a (x ∷ xs) l = go (leb c (x.time + memory_ms)) refl
  where
    go : (b : Bool) → leb c (x.time + memory_ms) ≡ b → some_if (live t) (cond b (Some (row x xs)) None) ≡ told_by t (x ∷ xs)
    go true q = refl
    go false q = sym (ap (λ k. cond k (Some (row x xs)) None) (lt-leb _ _ (omega (arith, leb-false _ _ q))))

-- our address is the one that the router was opened with
placed_address : (w : Start) (h : History) → (placed w h).short.address ≡ w.address
placed_address w [] = refl
placed_address w (e ∷ h) = go e.outcome e.call (placed_address w h)
  where
    by : (c : Call) → (placed w h).short.address ≡ w.address → (placed_by w.address e.time c (placed w h)).short.address ≡ w.address
    by (place p) k = refl
    by (receive o sender) k = k
    by (send q payload) k = k
    by serve k = k

    go : (o : Outcome) (c : Call) → (placed w h).short.address ≡ w.address
        → (elim o as (λ _. LongPositionVector) [ accepted _ ↦ placed_by w.address e.time c (placed w h) | refused _ ↦ placed w h ]).short.address ≡ w.address
    go (accepted a) c k = by c k
    go (refused f) c k = k

pub our_record : (w : Start) (h : History) (s : State) → Basics w h s → s.own.short.address ≡ w.address
our_record w h s b = ap (λ v. v.short.address) b.own ∙ placed_address w h

pub our_is : (w : Start) (h : History) (s : State) → Basics w h s → our_address s ≡ w.address.value
our_is w h s b = ap (λ a. a.value) (our_record w h s b)

-- after letting go, the table lists what is told at the call's time
pub let_go_told : (w : Start) (h : History) (s : State) (t : ℕ) → Basics w h s → Table w h s → s.clock ≤ t
    → (a : ℕ) → find a (live_table t s) ≡ told_by t (heard a h)
let_go_told w h s t b l later a =
    find_kept (live t) a s.table l.once ∙ ap (some_if (live t)) (l.listed a)
    ∙ told_later (clock w h) t a (heard a h) (subst (λ k. k ≤ t) b.clock later)

find_none_kept : (p : Station → Bool) (a : ℕ) (xs : List Station) → Once xs → find a xs ≡ None → find a (filter p xs) ≡ None
find_none_kept p a xs o e = find_kept p a xs o ∙ ap (some_if p) e

-- a call that adds nothing to what was heard, and leaves the table that letting go leaves
same_table : (w : Start) (h : History) (s : State) (t : ℕ) (fs gs : List Frame) → Basics w h s → Table w h s → s.clock ≤ t
    → (c : Call) (r : Around) (a : Answer) (s' : State)
    → ((x : ℕ) → heard x (event fs gs t c r (accepted a) ∷ h) ≡ heard x h) → s'.table ≡ live_table t s → Table w (event fs gs t c r (accepted a) ∷ h) s'
same_table w h s t fs gs b l later c r a s' same q = record {
  listed = λ x. ap (find x) q ∙ let_go_told w h s t b l later x ∙ ap (told_by t) (sym (same x));
  once = subst Once (sym q) (once_kept (live t) s.table l.once);
  not_ours = ap (find w.address.value) q ∙ find_none_kept (live t) w.address.value s.table l.once l.not_ours;
}

-- duplicates are those that the words call so
pub duplicate-told : (t a : ℕ) (n : Option ℕ) (xs : List Heard) → remembers (told_by t xs) n ≡ (live_by t xs && repeats n xs)
duplicate-told t a n [] = refl
duplicate-told t a None (x ∷ xs) = go (leb t (x.time + memory_ms))
  where
    go : (b : Bool) → remembers (cond b (Some (row x xs)) None) None ≡ (b && false)
    go true = refl
    go false = refl
duplicate-told t a (Some n) (x ∷ xs) = go (leb t (x.time + memory_ms))
  where
    go : (b : Bool) → remembers (cond b (Some (row x xs)) None) (Some n) ≡ (b && repeats (Some n) (x ∷ xs))
    go true = refl
    go false = refl

remember_last : (n : Option ℕ) (xs : List ℕ) → remember n (last_eight xs) ≡ last_eight (xs ++ one_number n)
remember_last None xs = ap last_eight (sym (append-nil xs))
remember_last (Some n) xs = last_eight_more xs n

-- one packet newly accepted
abbrev pub this : ℕ → List ℕ → LinkAddress → Heard
this t o sender = record { time = t; vector = vector_of o; number = number_of o; sender = sender }

-- a packet of another station adds nothing to what was heard of a
pub newly_other : (a t : ℕ) (o : List ℕ) (sender : LinkAddress) (past : List Heard) → eqb (source_of o) a ≡ false → newly a t o sender past ≡ []
newly_other a t o sender past e =
    ap (λ k. cond (k && not (live_by t past && repeats (number_of o) past)) (this t o sender ∷ []) []) e

pub newly_repeated : (a t : ℕ) (o : List ℕ) (sender : LinkAddress) (past : List Heard) → (live_by t past && repeats (number_of o) past) ≡ true → newly a t o sender past ≡ []
newly_repeated a t o sender past e = go (eqb (source_of o) a) _ e
  where
    go : (b k : Bool) → k ≡ true → cond (b && not k) (this t o sender ∷ []) [] ≡ []
    go true k q = ap (λ m. cond (not m) (this t o sender ∷ []) []) q
    go false k q = refl

pub newly_own : (t : ℕ) (o : List ℕ) (sender : LinkAddress) (past : List Heard) → (live_by t past && repeats (number_of o) past) ≡ false
    → newly (source_of o) t o sender past ≡ this t o sender ∷ []
newly_own t o sender past e =
    ap (λ k. cond (k && not (live_by t past && repeats (number_of o) past)) (this t o sender ∷ []) [])
    (eq-eqb (source_of o) (source_of o) refl)
    ∙ ap (λ m. cond (not m) (this t o sender ∷ []) []) e

or_no : (b : Bool) → (b || false) ≡ b
or_no true = refl
or_no false = refl

soon : (t : ℕ) → leb t (t + memory_ms) ≡ true
soon t = le-leb _ _ (omega arith)

entered_none : (n : Option ℕ) → remember n [] ≡ last_eight ([] ++ one_number n)
entered_none None = refl
entered_none (Some n) = refl

-- the source after a newly accepted packet, as the history tells it
entered-told : (t : ℕ) (o : List ℕ) (sender : LinkAddress) → Some (entered t o sender) ≡ told_by t (this t o sender ∷ [])
entered-told t o sender =
    ap (λ k. Some k) (λ i. record {
      vector = vector_of o;
      heard = t;
      neighbour = sym (or_no (from_itself sender (vector_of o).address)) i;
      numbers = entered_none (number_of o) i;
    })
    ∙ sym (ap (λ k. cond k (Some (row (this t o sender) [])) None) (soon t))

again-told : (t : ℕ) (o : List ℕ) (sender : LinkAddress) (y : Heard) (ys : List Heard)
    → Some (again t o sender (row y ys)) ≡ told_by t (this t o sender ∷ (y ∷ ys))
again-told t o sender y ys =
    ap (λ k. Some k) (λ i. record {
      vector = known (this t o sender) (y ∷ ys);
      heard = t;
      neighbour = marked (known (this t o sender) (y ∷ ys)).address (this t o sender ∷ (y ∷ ys));
      numbers = remember_last (number_of o) (numbers (y ∷ ys)) i;
    })
    ∙ sym (ap (λ k. cond k (Some (row (this t o sender) (y ∷ ys))) None) (soon t))

-- noting the packet, at the source and elsewhere
noted_own : (t : ℕ) (o : List ℕ) (sender : LinkAddress) (xs : List Station) (past : List Heard) → find (source_of o) xs ≡ told_by t past
    → find (source_of o) (noted t o sender xs) ≡ told_by t (this t o sender ∷ cond (live_by t past) past [])
noted_own t o sender xs [] e =
    ap (λ k. find (source_of o) (cond (is_some k) (renew (source_of o) (again t o sender) xs) (xs ++ (entered t o sender ∷ [])))) e
    ∙ find_push (source_of o) xs (entered t o sender)
    ∙ ap (λ k. or_else k (cond (eqb (source_of o) (source_of o)) (Some (entered t o sender)) None)) e
    ∙ ap (λ k. cond k (Some (entered t o sender)) None) (eq-eqb (source_of o) (source_of o) refl)
    ∙ entered-told t o sender
noted_own t o sender xs (y ∷ ys) e = go (leb t (y.time + memory_ms)) refl
  where
    go : (b : Bool) → leb t (y.time + memory_ms) ≡ b
        → find (source_of o) (noted t o sender xs) ≡ told_by t (this t o sender ∷ cond (leb t (y.time + memory_ms)) (y ∷ ys) [])
    go true q =
        let f : find (source_of o) xs ≡ Some (row y ys) = e ∙ ap (λ k. cond k (Some (row y ys)) None) q in
        ap (λ k. find (source_of o) (cond (is_some k) (renew (source_of o) (again t o sender) xs) (xs ++ (entered t o sender ∷ [])))) f
        ∙ find-renew (source_of o) (source_of o) (again t o sender) (λ x. refl) xs
        ∙ ap (λ k. cond k (on_some (again t o sender) (find (source_of o) xs)) (find (source_of o) xs)) (eq-eqb (source_of o) (source_of o) refl)
        ∙ ap (on_some (again t o sender)) f
        ∙ again-told t o sender y ys
        ∙ sym (ap (λ k. told_by t (this t o sender ∷ cond k (y ∷ ys) [])) q)
    go false q =
        let f : find (source_of o) xs ≡ None = e ∙ ap (λ k. cond k (Some (row y ys)) None) q in
        ap (λ k. find (source_of o) (cond (is_some k) (renew (source_of o) (again t o sender) xs) (xs ++ (entered t o sender ∷ [])))) f
        ∙ find_push (source_of o) xs (entered t o sender)
        ∙ ap (λ k. or_else k (cond (eqb (source_of o) (source_of o)) (Some (entered t o sender)) None)) f
        ∙ ap (λ k. cond k (Some (entered t o sender)) None) (eq-eqb (source_of o) (source_of o) refl)
        ∙ entered-told t o sender
        ∙ sym (ap (λ k. told_by t (this t o sender ∷ cond k (y ∷ ys) [])) q)

pub noted_other : (t : ℕ) (o : List ℕ) (sender : LinkAddress) (xs : List Station) (a : ℕ) → eqb (source_of o) a ≡ false → find a (noted t o sender xs) ≡ find a xs
noted_other t o sender xs a e = go (is_some (find (source_of o) xs))
  where
    or-none : (k : Option Station) → or_else k None ≡ k
    or-none (Some x) = refl
    or-none None = refl

    go : (b : Bool) → find a (cond b (renew (source_of o) (again t o sender) xs) (xs ++ (entered t o sender ∷ []))) ≡ find a xs
    go true =
        find-renew (source_of o) a (again t o sender) (λ x. refl) xs ∙ ap (λ k. cond k (on_some (again t o sender) (find (source_of o) xs)) (find a xs)) e
    go false =
        find_push a xs (entered t o sender) ∙ ap (λ k. or_else (find a xs) (cond k (Some (entered t o sender)) None)) e ∙ or-none (find a xs)

once_noted : (t : ℕ) (o : List ℕ) (sender : LinkAddress) (xs : List Station) → Once xs → Once (noted t o sender xs)
once_noted t o sender xs h = go (find (source_of o) xs) refl
  where
    go : (k : Option Station) → find (source_of o) xs ≡ k → Once (cond (is_some k) (renew (source_of o) (again t o sender) xs) (xs ++ (entered t o sender ∷ [])))
    go (Some x) e = once_renew (source_of o) (again t o sender) (λ y. refl) xs h
    go None e = once_push xs (entered t o sender) e h

-- a newly accepted packet
new_table : (w : Start) (h : History) (s : State) (t : ℕ) (fs gs : List Frame) → Basics w h s → Table w h s → (o : List ℕ) (sender : LinkAddress) → Received s t o
    → (live_by t (heard (source_of o) h) && repeats (number_of o) (heard (source_of o) h)) ≡ false
    → (r : Around) (a : Answer) (s' : State) → s'.table ≡ noted t o sender (live_table t s) → Table w (event fs gs t (receive o sender) r (accepted a) ∷ h) s'
new_table w h s t fs gs b l o sender g new r a s' q = record {
  listed = λ x. ap (find x) q ∙ at_address x (eqb (source_of o) x) refl;
  once = subst Once (sym q) (once_noted t o sender (live_table t s) (once_kept (live t) s.table l.once));
  not_ours =
      ap (find w.address.value) q ∙ noted_other t o sender (live_table t s) w.address.value (ap (eqb (source_of o)) (sym (our_is w h s b)) ∙ g.foreign)
      ∙ find_none_kept (live t) w.address.value s.table l.once l.not_ours;
}
  where
    at_address : (x : ℕ) (k : Bool) → eqb (source_of o) x ≡ k
        → find x (noted t o sender (live_table t s)) ≡ told_by t (since_entry t (newly x t o sender (heard x h)) (heard x h))
    at_address x true e =
        subst (λ y. find y (noted t o sender (live_table t s)) ≡ told_by t (since_entry t (newly y t o sender (heard y h)) (heard y h))) (eqb-true _ _ e)
        (noted_own t o sender (live_table t s) (heard (source_of o) h) (let_go_told w h s t b l g.later (source_of o))
        ∙ ap (λ k. told_by t (since_entry t k (heard (source_of o) h))) (sym (newly_own t o sender (heard (source_of o) h) new)))
    at_address x false e =
        noted_other t o sender (live_table t s) x e ∙ let_go_told w h s t b l g.later x
        ∙ ap (λ k. told_by t (since_entry t k (heard x h))) (sym (newly_other x t o sender (heard x h) e))

-- one call
module _ (w : Start) (h : History) (s : State) (t : ℕ) (r : Around) (fs gs : List Frame) (b : Basics w h s) (l : Table w h s) where
  abbrev pub Listed : Call → Step → Type 0
  Listed c st = Table w (event fs gs t c r st.outcome ∷ h) st.state

  refused-table : (c : Call) (g : Fault) → Listed c (no s g)
  refused-table c g = record { listed = l.listed; once = l.once; not_ours = l.not_ours }

  pub leaves_table : (before : List Waiter) (v : Waiter) (after : List Waiter) (x : Way) → s.clock ≤ t → Listed serve (leaves s t before v after x)
  leaves_table before v after x e = same_table w h s t fs gs b l e serve r _ _ (λ x. refl) refl

  served-table : (k : Pick Way) → s.clock ≤ t → Listed serve (served r s t k)
  served-table none e = same_table w h s t fs gs b l e serve r _ _ (λ x. refl) refl
  served-table (one before v after x) e = go (r.room (length (leaving t v)))
    where
      go : (c : Bool) → Listed serve (cond c (leaves s t before v after x) (only s t verdict.NoSpace (live_line t s)))
      go true = leaves_table before v after x e
      go false = same_table w h s t fs gs b l e serve r _ _ (λ x. refl) refl

  pub judged-as-told : (o : List ℕ) → s.clock ≤ t → duplicate s t o ≡ (live_by t (heard (source_of o) h) && repeats (number_of o) (heard (source_of o) h))
  judged-as-told o e = ap (λ k. remembers k (number_of o)) (let_go_told w h s t b l e (source_of o)) ∙ duplicate-told t (source_of o) (number_of o) (heard (source_of o) h)

  repeated-heard : (o : List ℕ) (sender : LinkAddress) → (live_by t (heard (source_of o) h) && repeats (number_of o) (heard (source_of o) h)) ≡ true
      → (x : ℕ) → since_entry t (newly x t o sender (heard x h)) (heard x h) ≡ heard x h
  repeated-heard o sender d x = go (eqb (source_of o) x) refl
    where
      go : (k : Bool) → eqb (source_of o) x ≡ k → since_entry t (newly x t o sender (heard x h)) (heard x h) ≡ heard x h
      go true e = ap (λ m. since_entry t m (heard x h)) (newly_repeated x t o sender (heard x h)
          (subst (λ y. (live_by t (heard y h) && repeats (number_of o) (heard y h)) ≡ true) (eqb-true _ _ e) d))
      go false e = ap (λ m. since_entry t m (heard x h)) (newly_other x t o sender (heard x h) e)

  cancels-table : (o : List ℕ) (sender : LinkAddress) (k : Pick (Unit {0})) → s.clock ≤ t
      → (live_by t (heard (source_of o) h) && repeats (number_of o) (heard (source_of o) h)) ≡ true → Listed (receive o sender) (cancels s t k)
  cancels-table o sender none e d = same_table w h s t fs gs b l e (receive o sender) r _ _ (repeated-heard o sender d) refl
  cancels-table o sender (one before v after x) e d = same_table w h s t fs gs b l e (receive o sender) r _ _ (repeated-heard o sender d) refl

  pub receives-table : (o : List ℕ) (sender : LinkAddress) → Received s t o → (k : Bool) → duplicate s t o ≡ k → Listed (receive o sender) (receives r s t o sender k)
  receives-table o sender g true e = cancels-table o sender (pick (copy_of o) (live_line t s)) g.later (sym (judged-as-told o g.later) ∙ e)
  receives-table o sender g false e = new_table w h s t fs gs b l o sender g (sym (judged-as-told o g.later) ∙ e) r _ _ refl

  pub sends-table : (q : Request) (payload : List ℕ) → s.clock ≤ t → Listed (send q payload) (sends r s t q payload)
  sends-table q payload e = same_table w h s t fs gs b l e (send q payload) r _ _ (λ x. refl) refl

  pub table_step : (c : Call) → Listed c (step s t r c)
  table_step (place p) = unless_both (Listed (place p)) (place_fault s t p) s (places s t p) (refused-table (place p))
      (λ e. same_table w h s t fs gs b l (placed_later s t p e) (place p) r _ _ (λ x. refl) refl)
  table_step (receive o sender) = unless_both (Listed (receive o sender)) (receive_fault s t o) s (receives r s t o sender (duplicate s t o)) (refused-table (receive o sender))
      (λ e. receives-table o sender (received s t o e) (duplicate s t o) refl)
  table_step (send q payload) = unless_both (Listed (send q payload)) (send_fault s t q payload) s (sends r s t q payload) (refused-table (send q payload))
      (λ e. same_table w h s t fs gs b l (sent_later s t q payload e) (send q payload) r _ _ (λ x. refl) refl)
  table_step serve = unless_both (Listed serve) _ s (serves r s t) (refused-table serve)
      (λ e. served-table (pick (way_out r s.own (live_table t s) t) (live_line t s)) (served_later s t e))
