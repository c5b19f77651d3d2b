-- (b) Each packet taken has one fate: the books, kept call by call. Assumes nothing.
use Rattle.std.proofs.Common.{◌≡◌, ℕ, suc, ◌+◌, ◌-◌, ◌<◌, ◌≤◌, Bool, true, false, cond, not, eqb, leb, List, [], ◌∷◌, ◌++◌, map, length, Some, filter, sym, refl, ap, ◌∙◌, subst, arith}
use Rattle.std.specs.List.{AllByRecursion}
use Rattle.std.proofs.lemmas.List.Elements.{filter-append}
use Rattle.std.proofs.ByRecursion.{All-weaker, All-push}
use Rattle.std.proofs.lemmas.List.{append-nil, map-append, length-append, append_assoc, length-map}
use Rattle.std.proofs.lemmas.Bool.{eqb-true, eq-eqb, ne_eqb, leb-true, leb-false}
use Rattle.law.proofs.Tables.{none_not_some, same_some}
use Rattle.law.proofs.Moves.{Move, stays, joins, goes, struck}
use Rattle.law.specs.Fates.{Cancelled, Fate, Fated, Fates, Lasting, LaterCall, Left, LetGo, MetBy, Taken, Taking, call_at, cancelled, cancelleds, gone, left, lefts, let_go, life, one_waiting, same_fate, seen, takes, takings, tally, waiting_in, waits, Copies, EndedBefore, FirstCancelled, Pairs}
use Rattle.law.proofs.Earliest.{pairs-push, pairs-mid, pairs_map, before_waiting, before_left, behind_waiting, before_cancelled, waiting_among}
use Rattle.law.specs.Words.{clock}
use Rattle.law.specs.World.{Answer, Around, Call, Event, Fault, Frame, History, Start, State, Waiter, accepted, place, receive, refused, send, serve}
use Rattle.rules.specs.Lines.{lasts, live_line}

-- Counting

tally_append : (g : Fate) (xs ys : List Fated) → tally g (xs ++ ys) ≡ tally g xs + tally g ys
tally_append g [] ys = omega arith
tally_append g (f ∷ xs) ys = let ih = tally_append g xs ys in omega arith

waiting_append : (xs ys : List Fated) → waiting_in (xs ++ ys) ≡ waiting_in xs ++ waiting_in ys
waiting_append [] ys = refl
waiting_append (f ∷ xs) ys = ap (λ k. one_waiting f.fate f.taking.what ++ k) (waiting_append xs ys) ∙ sym (append_assoc (one_waiting f.fate f.taking.what) (waiting_in xs) (waiting_in ys))

cond_zero : (b : Bool) → ◌≡◌ {A = ℕ} (cond b 0 0) 0
cond_zero true = refl
cond_zero false = refl

cond_add : (b : Bool) (m n : ℕ) → cond b m 0 + cond b n 0 ≡ cond b (m + n) 0
cond_add true m n = refl
cond_add false m n = refl

-- from fs to fs' the call number J let l leave, cancelled c and let g go
record Moved (J l c g : ℕ) (fs fs' : List Fated) : Type 0 where
  lefts : (j : ℕ) → tally (left j) fs' ≡ tally (left j) fs + cond (eqb j J) l 0
  cancels : (j : ℕ) → tally (cancelled j) fs' ≡ tally (cancelled j) fs + cond (eqb j J) c 0
  lets : (j : ℕ) → tally (let_go j) fs' ≡ tally (let_go j) fs + cond (eqb j J) g 0

moved_then : {J l c g l' c' g' : ℕ} {fs fs' fs'' : List Fated} → Moved J l c g fs fs' → Moved J l' c' g' fs' fs'' → Moved J (l + l') (c + c') (g + g') fs fs''
moved_then {J} {l} {c} {g} {l'} {c'} {g'} m n = record {
  lefts = λ j. let a = m.lefts j in let b = n.lefts j in let k = cond_add (eqb j J) l l' in omega arith;
  cancels = λ j. let a = m.cancels j in let b = n.cancels j in let k = cond_add (eqb j J) c c' in omega arith;
  lets = λ j. let a = m.lets j in let b = n.lets j in let k = cond_add (eqb j J) g g' in omega arith;
}

-- Letting go: those that wait and do not last

abbrev lasts_at : ℕ → Taken → Bool
lasts_at t x = leb (t + 50) (x.since + life x)

abbrev aged_fate : ℕ → Bool → Fate → Fate
aged_fate J b (left j) = left j
aged_fate J b (cancelled j) = cancelled j
aged_fate J b (let_go j) = let_go j
aged_fate J b waits = cond b waits (let_go J)

abbrev aged : ℕ → ℕ → Fated → Fated
aged t J f = record { taking = f.taking; fate = aged_fate J (lasts_at t f.taking.what) f.fate }

abbrev lost : Bool → Fate → ℕ
lost b (left j) = 0
lost b (cancelled j) = 0
lost b (let_go j) = 0
lost b waits = cond b 0 1

abbrev lost_in : ℕ → List Fated → ℕ
lost_in t [] = 0
lost_in t (f ∷ fs) = lost (lasts_at t f.taking.what) f.fate + lost_in t fs

aged_left : (J : ℕ) (b : Bool) (g : Fate) (j : ℕ) → ◌≡◌ {A = ℕ} (cond (same_fate (aged_fate J b g) (left j)) 1 0) (cond (same_fate g (left j)) 1 0)
aged_left J b (left i) j = refl
aged_left J b (cancelled i) j = refl
aged_left J b (let_go i) j = refl
aged_left J true waits j = refl
aged_left J false waits j = refl

aged_cancelled : (J : ℕ) (b : Bool) (g : Fate) (j : ℕ) → ◌≡◌ {A = ℕ} (cond (same_fate (aged_fate J b g) (cancelled j)) 1 0) (cond (same_fate g (cancelled j)) 1 0)
aged_cancelled J b (left i) j = refl
aged_cancelled J b (cancelled i) j = refl
aged_cancelled J b (let_go i) j = refl
aged_cancelled J true waits j = refl
aged_cancelled J false waits j = refl

aged_let_go : (J : ℕ) (b : Bool) (g : Fate) (j : ℕ) → cond (same_fate (aged_fate J b g) (let_go j)) 1 0 ≡ cond (same_fate g (let_go j)) 1 0 + cond (eqb j J) (lost b g) 0
aged_let_go J b (left i) j = let z = cond_zero (eqb j J) in omega arith
aged_let_go J b (cancelled i) j = let z = cond_zero (eqb j J) in omega arith
aged_let_go J b (let_go i) j = let z = cond_zero (eqb j J) in omega arith
aged_let_go J true waits j = let z = cond_zero (eqb j J) in omega arith
aged_let_go J false waits j = omega arith

aged_moved : (t J : ℕ) (fs : List Fated) → Moved J 0 0 (lost_in t fs) fs (map (aged t J) fs)
aged_moved t J [] = record { lefts = λ j. let z = cond_zero (eqb j J) in omega arith; cancels = λ j. let z = cond_zero (eqb j J) in omega arith; lets = λ j. let z = cond_zero (eqb j J) in omega arith }
aged_moved t J (f ∷ fs) =
    let ih = aged_moved t J fs in
    let b : Bool = lasts_at t f.taking.what in
    record {
      lefts = λ j. let a = aged_left J b f.fate j in let h = ih.lefts j in omega arith;
      cancels = λ j. let a = aged_cancelled J b f.fate j in let h = ih.cancels j in omega arith;
      lets = λ j.
          let a = aged_let_go J b f.fate j in let h = ih.lets j in let k = cond_add (eqb j J) (lost b f.fate) (lost_in t fs) in omega arith;
    }

aged_taking : (t J : ℕ) (fs : List Fated) → map (λ f. f.taking) (map (aged t J) fs) ≡ map (λ f. f.taking) fs
aged_taking t J [] = refl
aged_taking t J (f ∷ fs) = ap (λ k. f.taking ∷ k) (aged_taking t J fs)

aged_one : (t J : ℕ) (x : Taken) (g : Fate) → one_waiting (aged_fate J (lasts_at t x) g) x ≡ filter (lasts_at t) (one_waiting g x)
aged_one t J x (left j) = refl
aged_one t J x (cancelled j) = refl
aged_one t J x (let_go j) = refl
aged_one t J x waits = go (lasts_at t x)
  where
    go : (b : Bool) → one_waiting (cond b waits (let_go J)) x ≡ cond b (x ∷ []) []
    go true = refl
    go false = refl

aged_waiting : (t J : ℕ) (fs : List Fated) → waiting_in (map (aged t J) fs) ≡ filter (lasts_at t) (waiting_in fs)
aged_waiting t J [] = refl
aged_waiting t J (f ∷ fs) =
    (λ i. aged_one t J f.taking.what f.fate i ++ aged_waiting t J fs i)
    ∙ sym (filter-append (lasts_at t) (one_waiting f.fate f.taking.what) (waiting_in fs))

lost_one : (t : ℕ) (x : Taken) (g : Fate) → lost (lasts_at t x) g + length (filter (lasts_at t) (one_waiting g x)) ≡ length (one_waiting g x)
lost_one t x (left j) = refl
lost_one t x (cancelled j) = refl
lost_one t x (let_go j) = refl
lost_one t x waits = go (lasts_at t x)
  where
    go : (b : Bool) → cond b 0 1 + length (cond b (x ∷ []) []) ≡ 1
    go true = refl
    go false = refl

lost_counts : (t : ℕ) (fs : List Fated) → lost_in t fs + length (filter (lasts_at t) (waiting_in fs)) ≡ length (waiting_in fs)
lost_counts t [] = refl
lost_counts t (f ∷ fs) =
    let ih = lost_counts t fs in
    let o = lost_one t f.taking.what f.fate in
    let a = ap length (filter-append (lasts_at t) (one_waiting f.fate f.taking.what) (waiting_in fs)) in
    let b = length-append (filter (lasts_at t) (one_waiting f.fate f.taking.what)) (filter (lasts_at t) (waiting_in fs)) in
    let c = length-append (one_waiting f.fate f.taking.what) (waiting_in fs) in
    omega (arith, ih, o, a, b, c)

kept_map : (t : ℕ) (vs : List Waiter) → filter (lasts_at t) (map seen vs) ≡ map seen (filter (lasts t) vs)
kept_map t [] = refl
kept_map t (v ∷ vs) = go (lasts t v) (kept_map t vs)
  where
    go : (b : Bool) → filter (lasts_at t) (map seen vs) ≡ map seen (filter (lasts t) vs)
        → cond b (seen v ∷ filter (lasts_at t) (map seen vs)) (filter (lasts_at t) (map seen vs)) ≡ map seen (cond b (v ∷ filter (lasts t) vs) (filter (lasts t) vs))
    go true ih = ap (λ k. seen v ∷ k) ih
    go false ih = ih

-- One of those that wait meets its fate

record Split (fs : List Fated) (before : List Taken) (x : Taken) (after : List Taken) : Type 0 where
  front : List Fated
  it : Fated
  back : List Fated
  whole : fs ≡ front ++ (it ∷ back)
  waited : it.fate ≡ waits
  is_it : it.taking.what ≡ x
  front_waits : waiting_in front ≡ before
  back_waits : waiting_in back ≡ after

same_head : (x y : Taken) (xs ys : List Taken) → x ∷ xs ≡ y ∷ ys → x ≡ y
same_head x y xs ys e = cc

same_tail : (x y : Taken) (xs ys : List Taken) → x ∷ xs ≡ y ∷ ys → xs ≡ ys
same_tail x y xs ys e = cc

nil_not_cons : (x : Taken) (xs : List Taken) → [] ≡ x ∷ xs → ⊥
nil_not_cons x xs e = let z : ◌≡◌ {A = ℕ} 0 1 = cc in omega arith

nil_not_mid : (before : List Taken) (x : Taken) (after : List Taken) → [] ≡ before ++ (x ∷ after) → ⊥
nil_not_mid [] x after e = nil_not_cons x after e
nil_not_mid (y ∷ before) x after e = nil_not_cons y (before ++ (x ∷ after)) e

split : (fs : List Fated) (before : List Taken) (x : Taken) (after : List Taken) → waiting_in fs ≡ before ++ (x ∷ after) → Split fs before x after
split [] before x after e = absurd (nil_not_mid before x after e)
split (f ∷ fs) before x after e = go f.fate refl before e (λ bs. split fs bs x after)
  where
    skip : (bs : List Taken) → one_waiting f.fate f.taking.what ≡ [] → Split fs bs x after → Split (f ∷ fs) bs x after
    skip bs n s = record {
      front = f ∷ s.front;
      it = s.it;
      back = s.back;
      whole = ap (λ k. f ∷ k) s.whole;
      waited = s.waited;
      is_it = s.is_it;
      front_waits = ap (λ k. k ++ waiting_in s.front) n ∙ s.front_waits;
      back_waits = s.back_waits;
    }

    go : (g : Fate) → f.fate ≡ g → (bs : List Taken) → one_waiting g f.taking.what ++ waiting_in fs ≡ bs ++ (x ∷ after)
        → ((cs : List Taken) → waiting_in fs ≡ cs ++ (x ∷ after) → Split fs cs x after) → Split (f ∷ fs) bs x after
    go (left j) q bs e more = skip bs (ap (λ k. one_waiting k f.taking.what) q) (more bs e)
    go (cancelled j) q bs e more = skip bs (ap (λ k. one_waiting k f.taking.what) q) (more bs e)
    go (let_go j) q bs e more = skip bs (ap (λ k. one_waiting k f.taking.what) q) (more bs e)
    go waits q [] e more = record {
      front = [];
      it = f;
      back = fs;
      whole = refl;
      waited = q;
      is_it = same_head f.taking.what x (waiting_in fs) after e;
      front_waits = refl;
      back_waits = same_tail f.taking.what x (waiting_in fs) after e;
    }
    go waits q (y ∷ bs) e more =
        let s = more bs (same_tail f.taking.what y (waiting_in fs) (bs ++ (x ∷ after)) e) in
        record {
          front = f ∷ s.front;
          it = s.it;
          back = s.back;
          whole = ap (λ k. f ∷ k) s.whole;
          waited = s.waited;
          is_it = s.is_it;
          front_waits = ap (λ k. one_waiting k f.taking.what ++ waiting_in s.front) q
              ∙ (λ i. same_head f.taking.what y (waiting_in fs) (bs ++ (x ∷ after)) e i ∷ s.front_waits i);
          back_waits = s.back_waits;
        }

-- and the list with its new fate
module _ {fs : List Fated} {before : List Taken} {x : Taken} {after : List Taken} (s : Split fs before x after) where
  abbrev now-it : Fate → Fated
  now-it g = record { taking = s.it.taking; fate = g }

  abbrev struck-list : Fate → List Fated
  struck-list g = s.front ++ (now-it g ∷ s.back)

  struck-taking : (g : Fate) → map (λ f. f.taking) (struck-list g) ≡ map (λ f. f.taking) fs
  struck-taking g =
      map-append (λ f. f.taking) s.front (now-it g ∷ s.back) ∙ sym (map-append (λ f. f.taking) s.front (s.it ∷ s.back))
      ∙ ap (map (λ f. f.taking)) (sym s.whole)

  struck-waiting : (g : Fate) → one_waiting g s.it.taking.what ≡ [] → waiting_in (struck-list g) ≡ before ++ after
  struck-waiting g n =
      waiting_append s.front (now-it g ∷ s.back)
      ∙ (λ i. s.front_waits i ++ (n i ++ s.back_waits i))

  struck-tally : (k g : Fate) → same_fate waits k ≡ false → tally k (struck-list g) ≡ tally k fs + cond (same_fate g k) 1 0
  struck-tally k g n =
      let a = tally_append k s.front (now-it g ∷ s.back) in
      let b = tally_append k s.front (s.it ∷ s.back) in
      let c : ◌≡◌ {A = ℕ} (cond (same_fate s.it.fate k) 1 0) 0 = ap (λ m. cond (same_fate m k) 1 0) s.waited ∙ ap (λ m. cond m 1 0) n in
      let d : tally k fs ≡ tally k (s.front ++ (s.it ∷ s.back)) = ap (tally k) s.whole in
      omega (arith, a, b, c, d)

  left-moved : (J : ℕ) → Moved J 1 0 0 fs (struck-list (left J))
  left-moved J = record {
    lefts = λ j. struck-tally (left j) (left J) refl;
    cancels = λ j. let a = struck-tally (cancelled j) (left J) refl in let z = cond_zero (eqb j J) in omega arith;
    lets = λ j. let a = struck-tally (let_go j) (left J) refl in let z = cond_zero (eqb j J) in omega arith;
  }

  cancelled-moved : (J : ℕ) → Moved J 0 1 0 fs (struck-list (cancelled J))
  cancelled-moved J = record {
    lefts = λ j. let a = struck-tally (left j) (cancelled J) refl in let z = cond_zero (eqb j J) in omega arith;
    cancels = λ j. struck-tally (cancelled j) (cancelled J) refl;
    lets = λ j. let a = struck-tally (let_go j) (cancelled J) refl in let z = cond_zero (eqb j J) in omega arith;
  }

-- What was met stays met

call_below : (h : History) (j : ℕ) (e : Event) → call_at h j ≡ Some e → j < length h
call_below [] j e q = absurd (none_not_some e q)
call_below (f ∷ h) j e q = go (eqb j (length h)) refl (call_below h j e)
  where
    go : (b : Bool) → eqb j (length h) ≡ b → (call_at h j ≡ Some e → j < length h) → j < suc (length h)
    go true z more = omega (arith, eqb-true j (length h) z)
    go false z more = let m = more (sym (ap (λ k. cond k (Some f) (call_at h j)) z) ∙ q) in omega arith

call_kept : (h : History) (j : ℕ) (e f : Event) → call_at h j ≡ Some e → call_at (f ∷ h) j ≡ Some e
call_kept h j e f q =
    let l = call_below h j e q in
    ap (λ k. cond k (Some f) (call_at h j)) (ne_eqb j (length h) (λ z. omega arith)) ∙ q

call_newest : (h : History) (f : Event) → call_at (f ∷ h) (length h) ≡ Some f
call_newest h f = ap (λ k. cond k (Some f) (call_at h (length h))) (eq-eqb (length h) (length h) refl)

later_kept : (h : History) (f : Event) (i j : ℕ) (P : Event → Type 0) → LaterCall h i j P → LaterCall (f ∷ h) i j P
later_kept h f i j P k = record { event = k.event; at_call = call_kept h j k.event f k.at_call; after = k.after; that = k.that }

met_serial : (h : History) (k : Taking) (g : Fate) → MetBy h k g → k.serial < length h
met_serial h k (left j) m = let l = call_below h j m.event m.at_call in omega (arith, m.after)
met_serial h k (cancelled j) m = let l = call_below h j m.event m.at_call in omega (arith, m.after)
met_serial h k (let_go j) m = let l = call_below h j m.event m.at_call in omega (arith, m.after)
met_serial h k waits m = m

met_kept : (h : History) (f : Event) (k : Taking) (g : Fate) → MetBy h k g → MetBy (f ∷ h) k g
met_kept h f k (left j) m = later_kept h f k.serial j (Left k.what) m
met_kept h f k (cancelled j) m = later_kept h f k.serial j (Cancelled k.what) m
met_kept h f k (let_go j) m = later_kept h f k.serial j (LetGo k.what) m
met_kept h f k waits m = omega arith

pub all_met_kept : (h : History) (f : Event) (fs : List Fated) → AllByRecursion (λ x. MetBy h x.taking x.fate) fs → AllByRecursion (λ x. MetBy (f ∷ h) x.taking x.fate) fs
all_met_kept h f fs a = All-weaker (λ x. MetBy h x.taking x.fate) (λ x. MetBy (f ∷ h) x.taking x.fate) (λ x m. met_kept h f x.taking x.fate m) fs a

-- nobody has met a fate by a call that is yet to come
none_yet : (h : History) (g : Fate) → ((k : Taking) (f : Fate) → MetBy h k f → same_fate f g ≡ false)
    → (fs : List Fated) → AllByRecursion (λ x. MetBy h x.taking x.fate) fs → tally g fs ≡ 0
none_yet h g not [] a = refl
none_yet h g not (f ∷ fs) a =
    let z : ◌≡◌ {A = ℕ} (cond (same_fate f.fate g) 1 0) 0 = ap (λ k. cond k 1 0) (not f.taking f.fate a.0) in
    let ih = none_yet h g not fs a.1 in
    omega arith

below_other : (h : History) (i j : ℕ) (e : Event) → call_at h i ≡ Some e → length h ≤ j → eqb j i ≡ false
below_other h i j e q l = let m = call_below h i e q in ne_eqb j i (λ z. omega arith)

no_left : (h : History) (j : ℕ) → length h ≤ j → (k : Taking) (f : Fate) → MetBy h k f → same_fate f (left j) ≡ false
no_left h j l k (left i) m = below_other h i j m.event m.at_call l
no_left h j l k (cancelled i) m = refl
no_left h j l k (let_go i) m = refl
no_left h j l k waits m = refl

no_cancelled : (h : History) (j : ℕ) → length h ≤ j → (k : Taking) (f : Fate) → MetBy h k f → same_fate f (cancelled j) ≡ false
no_cancelled h j l k (left i) m = refl
no_cancelled h j l k (cancelled i) m = below_other h i j m.event m.at_call l
no_cancelled h j l k (let_go i) m = refl
no_cancelled h j l k waits m = refl

no_let_go : (h : History) (j : ℕ) → length h ≤ j → (k : Taking) (f : Fate) → MetBy h k f → same_fate f (let_go j) ≡ false
no_let_go h j l k (left i) m = refl
no_let_go h j l k (cancelled i) m = refl
no_let_go h j l k (let_go i) m = below_other h i j m.event m.at_call l
no_let_go h j l k waits m = refl

-- the counts of one kind of fate, with one call more
counted : (h : History) (e : Event) (g : ℕ → Fate) (n : Event → ℕ) (fs fs' : List Fated)
    → ((j : ℕ) (f : Event) → call_at h j ≡ Some f → tally (g j) fs ≡ n f)
    → ((j : ℕ) → length h ≤ j → tally (g j) fs ≡ 0)
    → ((j : ℕ) → tally (g j) fs' ≡ tally (g j) fs + cond (eqb j (length h)) (n e) 0)
    → (j : ℕ) (f : Event) → call_at (e ∷ h) j ≡ Some f → tally (g j) fs' ≡ n f
counted h e g n fs fs' old none more j f q = go (eqb j (length h)) refl q
  where
    go : (b : Bool) → eqb j (length h) ≡ b → cond b (Some e) (call_at h j) ≡ Some f → tally (g j) fs' ≡ n f
    go true z q =
        let same : n e ≡ n f = ap n (same_some e f q) in
        let m = more j in
        let y : cond (eqb j (length h)) (n e) 0 ≡ n e = ap (λ k. cond k (n e) 0) z in
        let o = none j (omega (arith, eqb-true j (length h) z)) in
        omega (arith, same, m, y, o)
    go false z q =
        let m = more j in
        let y : cond (eqb j (length h)) (n e) 0 ≡ 0 = ap (λ k. cond k (n e) 0) z in
        let o = old j f q in
        omega (arith, m, y, o)

-- letting go, as it is met
module _ (h : History) (t : ℕ) (c : Call) (r : Around) (xb xa : List Frame) (a : Answer) where
  abbrev e : Event
  e = record { time = t; call = c; around = r; before = xb; after = xa; outcome = accepted a }

  aged-met-one : (k : Taking) (g : Fate) → MetBy h k g → MetBy (e ∷ h) k (aged_fate (length h) (lasts_at t k.what) g)
  aged-met-one k (left j) m = met_kept h e k (left j) m
  aged-met-one k (cancelled j) m = met_kept h e k (cancelled j) m
  aged-met-one k (let_go j) m = met_kept h e k (let_go j) m
  aged-met-one k waits m = go (lasts_at t k.what) refl
    where
      go : (b : Bool) → lasts_at t k.what ≡ b → MetBy (e ∷ h) k (cond b waits (let_go (length h)))
      go true z = omega arith
      go false z = record {
        event = e;
        at_call = call_newest h e;
        after = m;
        that = record { answer = a; accepting = refl; short = leb-false (t + 50) (k.what.since + life k.what) z };
      }

  aged-met : (fs : List Fated) → AllByRecursion (λ x. MetBy h x.taking x.fate) fs → AllByRecursion (λ x. MetBy (e ∷ h) x.taking x.fate) (map (aged t (length h)) fs)
  aged-met [] m = tt
  aged-met (f ∷ fs) m = (aged-met-one f.taking f.fate m.0, aged-met fs m.1)

aged_serials : (h : History) (t J : ℕ) (fs : List Fated) → AllByRecursion (λ x. MetBy h x.taking x.fate) fs → AllByRecursion (λ x. x.taking.serial < length h) (map (aged t J) fs)
aged_serials h t J [] m = tt
aged_serials h t J (f ∷ fs) m = (met_serial h f.taking f.fate m.0, aged_serials h t J fs m.1)

-- lists with one in the middle
mid_all : {X : Type 0} (P : X → Type 0) (xs : List X) (y : X) (ys : List X) → AllByRecursion P (xs ++ (y ∷ ys)) → P y
mid_all P [] y ys a = a.0
mid_all P (x ∷ xs) y ys a = mid_all P xs y ys a.1

mid_new : {X : Type 0} (P : X → Type 0) (xs : List X) (y z : X) (ys : List X) → AllByRecursion P (xs ++ (y ∷ ys)) → P z → AllByRecursion P (xs ++ (z ∷ ys))
mid_new P [] y z ys a p = (p, a.1)
mid_new P (x ∷ xs) y z ys a p = (a.0, mid_new P xs y z ys a.1 p)

mid_out : {X : Type 0} (P : X → Type 0) (xs : List X) (y : X) (ys : List X) → AllByRecursion P (xs ++ (y ∷ ys)) → AllByRecursion P (xs ++ ys)
mid_out P [] y ys a = a.1
mid_out P (x ∷ xs) y ys a = (a.0, mid_out P xs y ys a.1)

-- those that last
last_both : (t c : ℕ) (xs : List Taken) → c ≤ t → AllByRecursion (Lasting c) xs → AllByRecursion (Lasting t) (filter (lasts_at t) xs)
last_both t c [] l a = tt
last_both t c (x ∷ xs) l a = go (lasts_at t x) refl (last_both t c xs l a.1)
  where
    go : (b : Bool) → lasts_at t x ≡ b → AllByRecursion (Lasting t) (filter (lasts_at t) xs) → AllByRecursion (Lasting t) (cond b (x ∷ filter (lasts_at t) xs) (filter (lasts_at t) xs))
    go true z more = ((omega (arith, a.0.0), leb-true (t + 50) (x.since + life x) z), more)
    go false z more = more

-- how long the line is
length_mid : {X : Type 0} (xs : List X) (y : X) (ys : List X) → length (xs ++ (y ∷ ys)) ≡ length (xs ++ ys) + 1
length_mid xs y ys =
    let a = length-append xs (y ∷ ys) in
    let b = length-append xs ys in
    omega (arith, a, b)

move_count : {w : Start} {h : History} {e : Event} {lives line : List Waiter} → Move w h e lives line → length (takes w e h) + length lives ≡ lefts e + cancelleds e + length line
move_count (stays l c k) = omega (arith, l, c, ap length k)
move_count {lives = lives} (joins v l c k n) = omega (arith, l, c, ap length k, length-append lives (v ∷ []))
move_count (goes before v after whole l c k n) = omega (arith, l, c, ap length k, ap length whole, length_mid before v after)
move_count (struck before v after whole l c k n first) = omega (arith, l, c, ap length k, ap length whole, length_mid before v after)

moved_as : {J l c g l' c' g' : ℕ} {fs fs' : List Fated} → Moved J l c g fs fs' → l ≡ l' → c ≡ c' → g ≡ g' → Moved J l' c' g' fs fs'
moved_as {J} {l} {c} {g} {l'} {c'} {g'} {fs} {fs'} m p q s = λ-free m
  where
    λ-free : Moved J l c g fs fs' → Moved J l' c' g' fs fs'
    λ-free m = record {
      lefts = λ j. m.lefts j ∙ ap (λ k. tally (left j) fs + cond (eqb j J) k 0) p;
      cancels = λ j. m.cancels j ∙ ap (λ k. tally (cancelled j) fs + cond (eqb j J) k 0) q;
      lets = λ j. m.lets j ∙ ap (λ k. tally (let_go j) fs + cond (eqb j J) k 0) s;
    }

push_moved : (J : ℕ) (fs : List Fated) (k : Taking) → Moved J 0 0 0 fs (fs ++ (record { taking = k; fate = waits } ∷ []))
push_moved J fs k = record {
  lefts = λ j. let a = tally_append (left j) fs (record { taking = k; fate = waits } ∷ []) in let z = cond_zero (eqb j J) in omega arith;
  cancels = λ j. let a = tally_append (cancelled j) fs (record { taking = k; fate = waits } ∷ []) in let z = cond_zero (eqb j J) in omega arith;
  lets = λ j. let a = tally_append (let_go j) fs (record { taking = k; fate = waits } ∷ []) in let z = cond_zero (eqb j J) in omega arith;
}

-- a fate that was met by one of the first calls, or by the letting go of the next
abbrev OldFate : ℕ → Fate → Type 0
OldFate J (left i) = i < J
OldFate J (cancelled i) = i < J
OldFate J (let_go i) = i ≤ J
OldFate J waits = Unit {0}

aged_old : (h : History) (t : ℕ) (fs : List Fated) → AllByRecursion (λ x. MetBy h x.taking x.fate) fs → AllByRecursion (λ x. OldFate (length h) x.fate) (map (aged t (length h)) fs)
aged_old h t [] m = tt
aged_old h t (f ∷ fs) m = (one f.taking f.fate (lasts_at t f.taking.what) m.0, aged_old h t fs m.1)
  where
    one : (k : Taking) (g : Fate) (b : Bool) → MetBy h k g → OldFate (length h) (aged_fate (length h) b g)
    one k (left i) b x = call_below h i x.event x.at_call
    one k (cancelled i) b x = call_below h i x.event x.at_call
    one k (let_go i) b x = let l = call_below h i x.event x.at_call in omega arith
    one k waits true x = tt
    one k waits false x = omega arith

-- letting go keeps the order of what was cancelled
aged_pair : (t J : ℕ) (f g : Fated) → FirstCancelled f g → FirstCancelled (aged t J f) (aged t J g)
aged_pair t J f g r j q c = go f.fate (lasts_at t f.taking.what) (r j (was g.fate (lasts_at t g.taking.what) q) c)
  where
    was : (k : Fate) (b : Bool) → aged_fate J b k ≡ cancelled j → k ≡ cancelled j
    was (left i) b e = e
    was (cancelled i) b e = e
    was (let_go i) b e = e
    was waits true e = e
    was waits false e = absurd (let z : ◌≡◌ {A = ℕ} 0 1 = cc in omega arith)

    go : (k : Fate) (b : Bool) → EndedBefore j k → EndedBefore j (aged_fate J b k)
    go (left i) b e = e
    go (cancelled i) b e = e
    go (let_go i) b e = e
    go waits b e = absurd e

all_any : {X : Type 0} (P : X → Type 0) (xs : List X) → ((x : X) → P x) → AllByRecursion P xs
all_any P [] h = tt
all_any P (x ∷ xs) h = (h x, all_any P xs h)

all_front : {X : Type 0} (P : X → Type 0) (xs ys : List X) → AllByRecursion P (xs ++ ys) → AllByRecursion P xs
all_front P [] ys a = tt
all_front P (x ∷ xs) ys a = (a.0, all_front P xs ys a.1)

all_map : (P : Taken → Type 0) (vs : List Waiter) → AllByRecursion (λ v. P (seen v)) vs → AllByRecursion P (map seen vs)
all_map P [] a = tt
all_map P (v ∷ vs) a = (a.0, all_map P vs a.1)

-- One accepted call

module _ (w : Start) (h : History) (s : State) (t : ℕ) (c : Call) (r : Around) (xb xa : List Frame) (a : Answer) (B : Fates w h s) (later : clock w h ≤ t) where
  abbrev call-now : Event
  call-now = record { time = t; call = c; around = r; before = xb; after = xa; outcome = accepted a }

  abbrev aged-fates : List Fated
  aged-fates = map (aged t (length h)) B.fates

  aged-line : waiting_in aged-fates ≡ map seen (live_line t s)
  aged-line = aged_waiting t (length h) B.fates ∙ ap (filter (lasts_at t)) B.line ∙ kept_map t s.line

  aged-lasting : AllByRecursion (Lasting t) (waiting_in aged-fates)
  aged-lasting = subst (AllByRecursion (Lasting t)) (sym (aged_waiting t (length h) B.fates)) (last_both t (clock w h) (waiting_in B.fates) later B.lasting)

  lost-sum : lost_in t B.fates + length (live_line t s) ≡ length s.line
  lost-sum =
      let l = lost_counts t B.fates in
      let x = ap length (sym (aged_waiting t (length h) B.fates) ∙ aged-line) in
      let y = length-map (live_line t s) seen in
      let u = ap length B.line in
      let v = length-map s.line seen in
      omega (arith, l, x, y, u, v)

  record Next (line' : List Waiter) : Type 0 where
    fates : List Fated
    each : map (λ f. f.taking) fates ≡ takings w (call-now ∷ h)
    met : AllByRecursion (λ f. MetBy (call-now ∷ h) f.taking f.fate) fates
    moved : Moved (length h) (lefts call-now) (cancelleds call-now) (lost_in t B.fates) B.fates fates
    line : waiting_in fates ≡ map seen line'
    lasting : AllByRecursion (Lasting t) (waiting_in fates)
    earliest : Pairs FirstCancelled fates

  no_takes : takes w call-now h ≡ [] → takings w h ≡ takings w (call-now ∷ h)
  no_takes e = sym (append-nil (takings w h)) ∙ ap (λ k. takings w h ++ k) (sym e)

  -- letting go cancels nothing
  aged-earliest : Pairs FirstCancelled aged-fates
  aged-earliest = pairs_map FirstCancelled (aged t (length h)) (aged_pair t (length h)) B.fates B.earliest

  aged-each : map (λ f. f.taking) aged-fates ≡ takings w h
  aged-each = aged_taking t (length h) B.fates ∙ B.each_taken

  -- one of those that last meets the fate g by this call
  module _ (before : List Waiter) (v : Waiter) (after : List Waiter) (whole : live_line t s ≡ before ++ (v ∷ after)) where
    the-split : Split aged-fates (map seen before) (seen v) (map seen after)
    the-split = split aged-fates (map seen before) (seen v) (map seen after) (aged-line ∙ ap (map seen) whole ∙ map-append seen before (v ∷ after))

    its-serial : the-split.it.taking.serial < length h
    its-serial =
        mid_all (λ f. f.taking.serial < length h) the-split.front the-split.it the-split.back
        (subst (AllByRecursion (λ f. f.taking.serial < length h)) the-split.whole (aged_serials h t (length h) B.fates B.met))

    its-met : (g : Fate) → MetBy (call-now ∷ h) the-split.it.taking g → AllByRecursion (λ f. MetBy (call-now ∷ h) f.taking f.fate) (struck-list the-split g)
    its-met g m =
        mid_new (λ f. MetBy (call-now ∷ h) f.taking f.fate) the-split.front the-split.it (now-it the-split g) the-split.back
        (subst (AllByRecursion (λ f. MetBy (call-now ∷ h) f.taking f.fate)) the-split.whole (aged-met h t c r xb xa a B.fates B.met)) m

    its-line : (g : Fate) → one_waiting g the-split.it.taking.what ≡ [] → waiting_in (struck-list the-split g) ≡ map seen (before ++ after)
    its-line g n = struck-waiting the-split g n ∙ sym (map-append seen before after)

    its-lasting : (g : Fate) → one_waiting g the-split.it.taking.what ≡ [] → AllByRecursion (Lasting t) (waiting_in (struck-list the-split g))
    its-lasting g n =
        subst (AllByRecursion (Lasting t)) (sym (struck-waiting the-split g n))
        (mid_out (Lasting t) (map seen before) (seen v) (map seen after)
        (subst (AllByRecursion (Lasting t)) (aged-line ∙ ap (map seen) whole ∙ map-append seen before (v ∷ after)) aged-lasting))

    split-pairs : Pairs FirstCancelled (the-split.front ++ (the-split.it ∷ the-split.back))
    split-pairs = subst (Pairs FirstCancelled) the-split.whole aged-earliest

    back_fits : (g : Fate) → AllByRecursion (FirstCancelled the-split.it) the-split.back → AllByRecursion (FirstCancelled (now-it the-split g)) the-split.back
    back_fits g a = All-weaker (FirstCancelled the-split.it) (FirstCancelled (now-it the-split g)) (λ k r. behind_waiting the-split.it k the-split.waited (now-it the-split g) refl r) the-split.back a

    its-pairs : (g : Fate) → ((f : Fated) → FirstCancelled f (now-it the-split g)) → Pairs FirstCancelled (struck-list the-split g)
    its-pairs g any = pairs-mid FirstCancelled the-split.front the-split.it (now-it the-split g) the-split.back split-pairs (all_any (λ f. FirstCancelled f (now-it the-split g)) the-split.front any) (back_fits g)

    -- those in front of the cancelled one: none of them is a copy that still waits
    front-met : AllByRecursion (λ f. MetBy (call-now ∷ h) f.taking f.fate) the-split.front
    front-met = all_front (λ f. MetBy (call-now ∷ h) f.taking f.fate) the-split.front (the-split.it ∷ the-split.back)
        (subst (AllByRecursion (λ f. MetBy (call-now ∷ h) f.taking f.fate)) the-split.whole (aged-met h t c r xb xa a B.fates B.met))

    front-old : AllByRecursion (λ f. OldFate (length h) f.fate) the-split.front
    front-old = all_front (λ f. OldFate (length h) f.fate) the-split.front (the-split.it ∷ the-split.back)
        (subst (AllByRecursion (λ f. OldFate (length h) f.fate)) the-split.whole (aged_old h t B.fates B.met))

    its-first : AllByRecursion (λ u. Copies (seen u) (seen v) → ⊥) before → Pairs FirstCancelled (struck-list the-split (cancelled (length h)))
    its-first first =
        pairs-mid FirstCancelled the-split.front the-split.it (now-it the-split (cancelled (length h))) the-split.back split-pairs
        (front-first the-split.front (waiting_among (λ x. Copies x the-split.it.taking.what → ⊥) the-split.front
        (subst (AllByRecursion (λ x. Copies x the-split.it.taking.what → ⊥)) (sym the-split.front_waits)
        (subst (λ y. AllByRecursion (λ x. Copies x y → ⊥) (map seen before)) (sym the-split.is_it) (all_map (λ x. Copies x (seen v) → ⊥) before first)))) front-old)
        (back_fits (cancelled (length h)))
      where
        front-first : (fs : List Fated) → AllByRecursion (λ f. f.fate ≡ waits → Copies f.taking.what the-split.it.taking.what → ⊥) fs → AllByRecursion (λ f. OldFate (length h) f.fate) fs
            → AllByRecursion (λ f. FirstCancelled f (now-it the-split (cancelled (length h)))) fs
        front-first [] n o = tt
        front-first (f ∷ fs) n o = (before_cancelled (length h) f (now-it the-split (cancelled (length h))) refl (λ k. ended f.fate refl o.0 (λ q. n.0 q k)), front-first fs n.1 o.1)
          where
            ended : (g : Fate) → f.fate ≡ g → OldFate (length h) g → (f.fate ≡ waits → ⊥) → EndedBefore (length h) g
            ended (left i) q old never = old
            ended (cancelled i) q old never = old
            ended (let_go i) q old never = old
            ended waits q old never = absurd (never q)

    its-left : Left (seen v) call-now → MetBy (call-now ∷ h) the-split.it.taking (left (length h))
    its-left l = record { event = call-now; at_call = call_newest h call-now; after = its-serial; that = subst (λ x. Left x call-now) (sym the-split.is_it) l }

    its-cancelled : Cancelled (seen v) call-now → MetBy (call-now ∷ h) the-split.it.taking (cancelled (length h))
    its-cancelled l = record { event = call-now; at_call = call_newest h call-now; after = its-serial; that = subst (λ x. Cancelled x call-now) (sym the-split.is_it) l }

  next : {line' : List Waiter} → Move w h call-now (live_line t s) line' → Next line'
  next (stays l c' k) = record {
    fates = aged-fates;
    each = aged-each ∙ no_takes k;
    met = aged-met h t c r xb xa a B.fates B.met;
    moved = moved_as (aged_moved t (length h) B.fates) (sym l) (sym c') refl;
    line = aged-line;
    lasting = aged-lasting;
    earliest = aged-earliest;
  }
  next (joins v l c' k n) =
      let new : Fated = record { taking = record { serial = length h; what = seen v }; fate = waits } in
      let w₁ : waiting_in (aged-fates ++ (new ∷ [])) ≡ map seen (live_line t s) ++ (seen v ∷ []) = waiting_append aged-fates (new ∷ []) ∙ ap (λ x. x ++ (seen v ∷ [])) aged-line in
      record {
        fates = aged-fates ++ (new ∷ []);
        each = map-append (λ f. f.taking) aged-fates (new ∷ []) ∙ (λ i. aged-each i ++ sym k i);
        met = All-push (λ f. MetBy (call-now ∷ h) f.taking f.fate) aged-fates new (aged-met h t c r xb xa a B.fates B.met) (omega arith);
        moved = moved_as (moved_then (aged_moved t (length h) B.fates) (push_moved (length h) aged-fates (record { serial = length h; what = seen v }))) (sym l) (sym c') (omega arith);
        line = w₁ ∙ sym (map-append seen (live_line t s) (v ∷ []));
        lasting = subst (AllByRecursion (Lasting t)) (sym w₁) (All-push (Lasting t) (map seen (live_line t s)) (seen v) (subst (AllByRecursion (Lasting t)) aged-line aged-lasting) n);
        earliest = pairs-push FirstCancelled aged-fates new aged-earliest (all_any (λ f. FirstCancelled f new) aged-fates (λ f. before_waiting f new refl));
      }
  next (goes before v after whole l c' k n) = record {
    fates = struck-list (the-split before v after whole) (left (length h));
    each = struck-taking (the-split before v after whole) (left (length h)) ∙ aged-each ∙ no_takes k;
    met = its-met before v after whole (left (length h)) (its-left before v after whole n);
    moved = moved_as (moved_then (aged_moved t (length h) B.fates) (left-moved (the-split before v after whole) (length h))) (sym l) (sym c') (omega arith);
    line = its-line before v after whole (left (length h)) refl;
    lasting = its-lasting before v after whole (left (length h)) refl;
    earliest = its-pairs before v after whole (left (length h)) (λ f. before_left (length h) f (now-it (the-split before v after whole) (left (length h))) refl);
  }
  next (struck before v after whole l c' k n first) = record {
    fates = struck-list (the-split before v after whole) (cancelled (length h));
    each = struck-taking (the-split before v after whole) (cancelled (length h)) ∙ aged-each ∙ no_takes k;
    met = its-met before v after whole (cancelled (length h)) (its-cancelled before v after whole n);
    moved = moved_as (moved_then (aged_moved t (length h) B.fates) (cancelled-moved (the-split before v after whole) (length h))) (sym l) (sym c') (omega arith);
    line = its-line before v after whole (cancelled (length h)) refl;
    lasting = its-lasting before v after whole (cancelled (length h)) refl;
    earliest = its-first before v after whole first;
  }

  pub fates-more : (s' : State) → Move w h call-now (live_line t s) s'.line → a.packets_gone ≡ length s.line - length (live_line t s) → a.waiting ≡ length s'.line → length s'.line ≤ 16
      → Fates w (call-now ∷ h) s'
  fates-more s' m gone-is waiting-is few =
      let n : Next s'.line = next m in
      let g : lost_in t B.fates ≡ gone call-now = omega (arith, lost-sum, gone-is) in
      let moved : Moved (length h) (lefts call-now) (cancelleds call-now) (gone call-now) B.fates n.fates = moved_as n.moved refl refl g in
      let k = move_count m in
      let len = length-append (takings w h) (takes w call-now h) in
      record {
        fates = n.fates;
        each_taken = n.each;
        met = n.met;
        left_by = counted h call-now left lefts B.fates n.fates B.left_by (λ j l. none_yet h (left j) (no_left h j l) B.fates B.met) moved.lefts;
        cancelled_by = counted h call-now cancelled cancelleds B.fates n.fates B.cancelled_by (λ j l. none_yet h (cancelled j) (no_cancelled h j l) B.fates B.met) moved.cancels;
        let_go_by = counted h call-now let_go gone B.fates n.fates B.let_go_by (λ j l. none_yet h (let_go j) (no_let_go h j l) B.fates B.met) moved.lets;
        earliest = n.earliest;
        line = n.line;
        lasting = n.lasting;
        told = sym waiting-is;
        few = few;
        counts = omega (arith, B.counts, B.told, lost-sum, g, k, len, waiting-is);
      }

-- a refused call
pub fates_refused : (w : Start) (h : History) (s : State) (t : ℕ) (c : Call) (r : Around) (xb xa : List Frame) (f : Fault) → Fates w h s
    → Fates w (record { time = t; call = c; around = r; before = xb; after = xa; outcome = refused f } ∷ h) s
fates_refused w h s t c r xb xa f B =
    let e : Event = record { time = t; call = c; around = r; before = xb; after = xa; outcome = refused f } in
    let none : takes w e h ≡ [] = no-takes-refused c in
    record {
      fates = B.fates;
      each_taken = B.each_taken ∙ sym (append-nil (takings w h)) ∙ ap (λ k. takings w h ++ k) (sym none);
      met = all_met_kept h e B.fates B.met;
      left_by = counted h e left lefts B.fates B.fates B.left_by (λ j l. none_yet h (left j) (no_left h j l) B.fates B.met) (λ j. let z = cond_zero (eqb j (length h)) in omega arith);
      cancelled_by = counted h e cancelled cancelleds B.fates B.fates B.cancelled_by (λ j l. none_yet h (cancelled j) (no_cancelled h j l) B.fates B.met) (λ j. let z = cond_zero (eqb j (length h)) in omega arith);
      let_go_by = counted h e let_go gone B.fates B.fates B.let_go_by (λ j l. none_yet h (let_go j) (no_let_go h j l) B.fates B.met) (λ j. let z = cond_zero (eqb j (length h)) in omega arith);
      earliest = B.earliest;
      line = B.line;
      lasting = B.lasting;
      told = B.told;
      few = B.few;
      counts = let len = length-append (takings w h) (takes w e h) in omega (arith, B.counts, len, ap length none);
    }
  where
    no-takes-refused : (c : Call) → takes w (record { time = t; call = c; around = r; before = xb; after = xa; outcome = refused f }) h ≡ []
    no-takes-refused (place p) = refl
    no-takes-refused (receive o sender) = refl
    no-takes-refused (send q payload) = refl
    no-takes-refused serve = refl

unmap : (P : Taken → Type 0) (vs : List Waiter) → AllByRecursion P (map seen vs) → AllByRecursion (λ v. P (seen v)) vs
unmap P [] a = tt
unmap P (v ∷ vs) a = (a.0, unmap P vs a.1)

pub lives_since : (w : Start) (h : History) (s : State) (t : ℕ) → Fates w h s → clock w h ≤ t → AllByRecursion (λ u. u.since ≤ t) (live_line t s)
lives_since w h s t B later =
    let a : AllByRecursion (Lasting t) (map seen (live_line t s)) =
    subst (AllByRecursion (Lasting t)) (ap (filter (lasts_at t)) B.line ∙ kept_map t s.line) (last_both t (clock w h) (waiting_in B.fates) later B.lasting) in
    All-weaker (λ u. Lasting t (seen u)) (λ u. u.since ≤ t) (λ u k. k.0) (live_line t s) (unmap (Lasting t) (live_line t s) a)

pub fates_none : (w : Start) (s : State) → s.line ≡ [] → Fates w [] s
fates_none w s e = record {
  fates = [];
  each_taken = refl;
  met = tt;
  left_by = λ j f q. absurd (none_not_some f q);
  cancelled_by = λ j f q. absurd (none_not_some f q);
  let_go_by = λ j f q. absurd (none_not_some f q);
  line = ap (map seen) (sym e);
  earliest = tt;
  lasting = tt;
  told = ap length e;
  few = omega (arith, ap length e);
  counts = refl;
}
