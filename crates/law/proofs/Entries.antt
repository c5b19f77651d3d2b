-- (a) The table is in order of entry. Assumes nothing.
use Rattle.std.proofs.Common.{◌≡◌, ℕ, ◌+◌, ◌-◌, ◌≤◌, Bool, true, false, cond, not, ◌&&◌, eqb, leb, List, [], ◌∷◌, ◌++◌, map, length, Some, None, filter, Option, sym, refl, ap, ◌∙◌, subst, arith}
use Rattle.std.specs.List.{AllByRecursion}
use Rattle.std.proofs.ByRecursion.{All-weaker}
use Rattle.std.proofs.lemmas.List.{append-nil, length-append, length-map, map-append}
use Rattle.std.proofs.lemmas.Bool.{leb-false}
use Rattle.law.proofs.Tables.{none_not_some, same_some}
use Rattle.law.proofs.Steps.{event, unless_both, Received, received}
use Rattle.law.proofs.Listed.{let_go_told}
use Rattle.law.proofs.Links.{found_all, same_answer}
use Rattle.rules.specs.declared.verdict.Verdict.TheVariants as verdict
use Rattle.law.specs.Laws.{Basics, CountsStations, Entries, Table}
use Rattle.law.specs.Words.{Heard, clock, entered_in_order, heard, live_by, newcomer_by, row, still_live, told_by}
use Rattle.law.specs.World.{Answer, Around, Call, Fault, Frame, History, LinkAddress, Start, State, Station, accepted, is_some, place, receive, send, serve}
use Rattle.rules.specs.Known.{address_of, find, memory_ms}
use Rattle.rules.specs.Lines.{Pick, leaving, live_line, none, one, pick}
use Rattle.rules.specs.Packets.{number_of, source_of}
use Rattle.rules.specs.Rules.{Step, Way, cancels, copy_of, duplicate, leaves, no, only, place_fault, places, receive_fault, receives, send_fault, sends, served, serves, step, telling, way_out, way_verdict}
use Rattle.rules.specs.Tables.{again, entered, live, live_table, noted, remembers, renew}

abbrev addresses : List Station → List ℕ
addresses xs = map (λ x. address_of x) xs

-- what is told tells when it was heard
told-live : (c t a : ℕ) (past : List Heard) (x : Station) → told_by c past ≡ Some x → live t x ≡ live_by t past
told-live c t a [] x e = absurd (none_not_some x e)
told-live c t a (y ∷ ys) x e = go (leb c (y.time + memory_ms)) e
  where
    go : (b : Bool) → cond b (Some (row y ys)) None ≡ Some x → live t x ≡ leb t (y.time + memory_ms)
    go true q = ap (λ k. leb t (k.heard + memory_ms)) (sym (same_some (row y ys) x q))
    go false q = absurd (none_not_some x q)

kept_addresses : (t : ℕ) (f : ℕ → Bool) (xs : List Station) → AllByRecursion (λ x. live t x ≡ f (address_of x)) xs → addresses (filter (live t) xs) ≡ filter f (addresses xs)
kept_addresses t f [] a = refl
kept_addresses t f (x ∷ xs) a = go (live t x) (f (address_of x)) a.0 (kept_addresses t f xs a.1)
  where
    go : (b c : Bool) → b ≡ c → addresses (filter (live t) xs) ≡ filter f (addresses xs)
        → addresses (cond b (x ∷ filter (live t) xs) (filter (live t) xs)) ≡ cond c (address_of x ∷ filter f (addresses xs)) (filter f (addresses xs))
    go b c q ih = subst (λ k. addresses (cond b (x ∷ filter (live t) xs) (filter (live t) xs)) ≡ cond k (address_of x ∷ filter f (addresses xs)) (filter f (addresses xs))) q (on b)
      where
        on : (k : Bool) → addresses (cond k (x ∷ filter (live t) xs) (filter (live t) xs)) ≡ cond k (address_of x ∷ filter f (addresses xs)) (filter f (addresses xs))
        on true = ap (λ l. address_of x ∷ l) ih
        on false = ih

renew_addresses : (a : ℕ) (f : Station → Station) → ((x : Station) → address_of (f x) ≡ address_of x) → (xs : List Station) → addresses (renew a f xs) ≡ addresses xs
renew_addresses a f same [] = refl
renew_addresses a f same (x ∷ xs) = go (eqb (address_of x) a) (renew_addresses a f same xs)
  where
    go : (b : Bool) → addresses (renew a f xs) ≡ addresses xs → addresses (cond b (f x ∷ xs) (x ∷ renew a f xs)) ≡ address_of x ∷ addresses xs
    go true ih = ap (λ k. k ∷ addresses xs) (same x)
    go false ih = ap (λ k. address_of x ∷ k) ih

told_some : (t a : ℕ) (past : List Heard) → is_some (told_by t past) ≡ live_by t past
told_some t a [] = refl
told_some t a (y ∷ ys) = go (leb t (y.time + memory_ms))
  where
    go : (b : Bool) → is_some (cond b (Some (row y ys)) None) ≡ b
    go true = refl
    go false = refl

noted_addresses : (t : ℕ) (o : List ℕ) (sender : LinkAddress) (xs : List Station) (b : Bool) → is_some (find (source_of o) xs) ≡ b
    → addresses (noted t o sender xs) ≡ addresses xs ++ cond b [] (source_of o ∷ [])
noted_addresses t o sender xs b e = ap (λ k. addresses (cond k (renew (source_of o) (again t o sender) xs) (xs ++ (entered t o sender ∷ [])))) e ∙ go b
  where
    go : (k : Bool) → addresses (cond k (renew (source_of o) (again t o sender) xs) (xs ++ (entered t o sender ∷ []))) ≡ addresses xs ++ cond k [] (source_of o ∷ [])
    go true = renew_addresses (source_of o) (again t o sender) (λ x. refl) xs ∙ sym (append-nil (addresses xs))
    go false = map-append (λ x. address_of x) xs (entered t o sender ∷ [])

pub kept_short : {X : Type 0} (p : X → Bool) (xs : List X) → length (filter p xs) ≤ length xs
kept_short p [] = omega arith
kept_short p (x ∷ xs) = go (p x) (kept_short p xs)
  where
    go : (b : Bool) → length (filter p xs) ≤ length xs → length (cond b (x ∷ filter p xs) (filter p xs)) ≤ length (x ∷ xs)
    go true ih = omega arith
    go false ih = omega arith

module _ (w : Start) (h : History) (s : State) (t : ℕ) (r : Around) (fs gs : List Frame) (b : Basics w h s) (l : Table w h s) (n : Entries h s) where
  live-in-order : addresses (live_table t s) ≡ still_live t h (entered_in_order h)
  live-in-order =
      kept_addresses t (λ a. live_by t (heard a h)) s.table
      (All-weaker (λ x. find (address_of x) s.table ≡ Some x) (λ x. live t x ≡ live_by t (heard (address_of x) h))
      (λ x e. told-live (clock w h) t (address_of x) (heard (address_of x) h) x (sym (l.listed (address_of x)) ∙ e)) s.table (found_all s.table l.once))
      ∙ ap (filter (λ a. live_by t (heard a h))) n.in_order

  live-few : length (live_table t s) ≤ 64
  live-few = let k = kept_short (live t) s.table in omega (arith, k, n.few)

  abbrev Entered : Call → Step → Type 0
  Entered c st = Entries (event fs gs t c r st.outcome ∷ h) st.state

  refused-entries : (c : Call) (g : Fault) → Entered c (no s g)
  refused-entries c g = record { in_order = n.in_order; few = n.few }

  same_entries : (c : Call) (a : Answer) (s' : State) → newcomer_by t c h ≡ [] → s'.table ≡ live_table t s → Entries (event fs gs t c r (accepted a) ∷ h) s'
  same_entries c a s' e q = record {
    in_order = ap addresses q ∙ live-in-order ∙ sym (append-nil (still_live t h (entered_in_order h))) ∙ ap (λ k. still_live t h (entered_in_order h) ++ k) (sym e);
    few = subst (λ k. length k ≤ 64) (sym q) live-few;
  }

  live-source : (o : List ℕ) → s.clock ≤ t → is_some (find (source_of o) (live_table t s)) ≡ live_by t (heard (source_of o) h)
  live-source o e = ap is_some (let_go_told w h s t b l e (source_of o)) ∙ told_some t (source_of o) (heard (source_of o) h)

  remembered-live : (o : List ℕ) → duplicate s t o ≡ true → is_some (find (source_of o) (live_table t s)) ≡ true
  remembered-live o e = go (find (source_of o) (live_table t s)) e
    where
      go : (k : Option Station) → remembers k (number_of o) ≡ true → is_some k ≡ true
      go (Some x) q = refl
      go None q = q

  no-newcomer : (o : List ℕ) (sender : LinkAddress) → s.clock ≤ t → duplicate s t o ≡ true → newcomer_by t (receive o sender) h ≡ []
  no-newcomer o sender e d = ap (λ k. cond k [] (source_of o ∷ [])) (sym (live-source o e) ∙ remembered-live o d)

  noted-few : (o : List ℕ) (sender : LinkAddress) → Received s t o → (k : Bool) → is_some (find (source_of o) (live_table t s)) ≡ k → length (addresses (live_table t s) ++ cond k [] (source_of o ∷ [])) ≤ 64
  noted-few o sender g true e =
      let m = length-append (addresses (live_table t s)) [] in
      let y = length-map (live_table t s) (λ x. address_of x) in
      omega (arith, m, y, live-few)
  noted-few o sender g false e =
      let p : leb 64 (length (live_table t s)) ≡ false = sym (ap (λ k. not k && leb 64 (length (live_table t s))) e) ∙ g.places in
      let q = leb-false 64 (length (live_table t s)) p in
      let m = length-append (addresses (live_table t s)) (source_of o ∷ []) in
      let y = length-map (live_table t s) (λ x. address_of x) in
      omega (arith, m, y, q)

  received-entries : (o : List ℕ) (sender : LinkAddress) → Received s t o → (k : Bool) → duplicate s t o ≡ k → Entered (receive o sender) (receives r s t o sender k)
  received-entries o sender g true e = go (pick (copy_of o) (live_line t s))
    where
      go : (k : Pick (Unit {0})) → Entered (receive o sender) (cancels s t k)
      go none = same_entries (receive o sender) _ _ (no-newcomer o sender g.later e) refl
      go (one before v after x) = same_entries (receive o sender) _ _ (no-newcomer o sender g.later e) refl
  received-entries o sender g false e =
      let a = noted_addresses t o sender (live_table t s) (is_some (find (source_of o) (live_table t s))) refl in
      let y = length-map (noted t o sender (live_table t s)) (λ x. address_of x) in
      let f = noted-few o sender g (is_some (find (source_of o) (live_table t s))) refl in
      record {
        in_order = a ∙ (λ i. live-in-order i ++ cond (live-source o g.later i) [] (source_of o ∷ []));
        few = omega (arith, ap length a, y, f);
      }

  served-entries : (k : Pick Way) → Entered serve (served r s t k)
  served-entries none = same_entries serve _ _ refl refl
  served-entries (one before v after x) = go (r.room (length (leaving t v)))
    where
      go : (c : Bool) → Entered serve (cond c (leaves s t before v after x) (only s t verdict.NoSpace (live_line t s)))
      go true = same_entries serve _ _ refl refl
      go false = same_entries serve _ _ refl refl

  pub entries-step : (c : Call) → Entered c (step s t r c)
  entries-step (place p) = unless_both (Entered (place p)) (place_fault s t p) s (places s t p) (refused-entries (place p)) (λ e. same_entries (place p) _ _ refl refl)
  entries-step (receive o sender) = unless_both (Entered (receive o sender)) (receive_fault s t o) s (receives r s t o sender (duplicate s t o)) (refused-entries (receive o sender))
      (λ e. received-entries o sender (received s t o e) (duplicate s t o) refl)
  entries-step (send q payload) = unless_both (Entered (send q payload)) (send_fault s t q payload) s (sends r s t q payload) (refused-entries (send q payload)) (λ e. same_entries (send q payload) _ _ refl refl)
  entries-step serve = unless_both (Entered serve) _ s (serves r s t) (refused-entries serve) (λ e. served-entries (pick (way_out r s.own (live_table t s) t) (live_line t s)))

  -- the count of stations let go
  abbrev Counts : Call → Step → Type 0
  Counts c st = CountsStations (event fs gs t c r st.outcome) h

  right-count : length s.table - length (live_table t s) ≡ length (entered_in_order h) - length (still_live t h (entered_in_order h))
  right-count =
      let a = length-map s.table (λ x. address_of x) in
      let c = length-map (live_table t s) (λ x. address_of x) in
      let d = ap length n.in_order in
      let e = ap length live-in-order in
      omega (arith, a, c, d, e)

  told-count : (c : Call) (A : Answer) → A.stations_gone ≡ length s.table - length (live_table t s) → CountsStations (event fs gs t c r (accepted A)) h
  told-count c A q a e = ap (λ k. k.stations_gone) (sym (same_answer A a e)) ∙ q ∙ right-count

  refused-counts : (c : Call) (g : Fault) → Counts c (no s g)
  refused-counts c g a e = absurd (let z : ◌≡◌ {A = ℕ} 0 1 = cc in omega arith)

  received-counts : (o : List ℕ) (sender : LinkAddress) (k : Bool) → Counts (receive o sender) (receives r s t o sender k)
  received-counts o sender true = go (pick (copy_of o) (live_line t s))
    where
      go : (k : Pick (Unit {0})) → Counts (receive o sender) (cancels s t k)
      go none = told-count (receive o sender) (telling s t None verdict.Duplicate (live_line t s)) refl
      go (one before v after x) = told-count (receive o sender) (telling s t None verdict.Cancelled (before ++ after)) refl
  received-counts o sender false = told-count (receive o sender) _ refl

  served-counts : (k : Pick Way) → Counts serve (served r s t k)
  served-counts none = told-count serve (telling s t None verdict.Done (live_line t s)) refl
  served-counts (one before v after x) = go (r.room (length (leaving t v)))
    where
      go : (c : Bool) → Counts serve (cond c (leaves s t before v after x) (only s t verdict.NoSpace (live_line t s)))
      go true = told-count serve (telling s t None (way_verdict x) (before ++ after)) refl
      go false = told-count serve (telling s t None verdict.NoSpace (live_line t s)) refl

  pub counts_step : (c : Call) → Counts c (step s t r c)
  counts_step (place p) = unless_both (Counts (place p)) (place_fault s t p) s (places s t p) (refused-counts (place p)) (λ e. told-count (place p) _ refl)
  counts_step (receive o sender) = unless_both (Counts (receive o sender)) (receive_fault s t o) s (receives r s t o sender (duplicate s t o)) (refused-counts (receive o sender)) (λ e. received-counts o sender (duplicate s t o))
  counts_step (send q payload) = unless_both (Counts (send q payload)) (send_fault s t q payload) s (sends r s t q payload) (refused-counts (send q payload)) (λ e. told-count (send q payload) _ refl)
  counts_step serve = unless_both (Counts serve) _ s (serves r s t) (refused-counts serve) (λ e. served-counts (pick (way_out r s.own (live_table t s) t) (live_line t s)))
