-- (c) A number is delivered again only after eight others or after a silence: a fact about histories alone. Assumes nothing.
use Rattle.std.proofs.Common.{◌≡◌, ℕ, zero, suc, ◌+◌, ◌-◌, ◌<◌, ◌≤◌, Bool, true, false, cond, not, ◌&&◌, ◌||◌, eqb, ◌⊎◌, List, [], ◌∷◌, ◌++◌, length, drop, Some, None, Option, sym, refl, ap, ◌∙◌, subst, inl, inr, ⊎_elim, arith}
use Rattle.std.specs.List.{AllByRecursion}
use Rattle.std.proofs.lemmas.List.{append-nil, append_assoc, drop-drop, drop_at, drop-append-le, length-append, length-drop}
use Rattle.std.proofs.lemmas.Bool.{eq-eqb, eqb-false, ne_eqb, or_parts, or_left, or_right, or_from, leb-false, true≢false, cases_lt}
use Rattle.law.proofs.Tables.{last_eight_more}
use Rattle.law.proofs.Listed.{this}
use Rattle.law.specs.Laws.{Deliveries, Different, EachCall, EightOthers, Fresh, Silence, newly_between}
use Rattle.law.specs.Words.{Heard, call_newly, heard, live_by, newly, newly_by, numbers, one_number, repeats, since_entry}
use Rattle.law.specs.World.{Call, Event, History, LinkAddress, Outcome, accepted, place, receive, refused, send, serve}
use Rattle.rules.specs.Known.{among, last_eight, memory_ms}
use Rattle.rules.specs.Packets.{number_of, source_of}

-- what a call newly accepts: at most one packet, at its time, and no repetition of one live
pub record New (t : ℕ) (past new : List Heard) : Type 0 where
  pub at_most : (x : Heard) (xs : List Heard) → new ≡ x ∷ xs → (xs ≡ []) × (x.time ≡ t) × (live_by t past ≡ true → repeats x.number past ≡ false)

none_new : (t : ℕ) (past : List Heard) → New t past []
none_new t past = record { at_most = λ x xs e. absurd (let z : ◌≡◌ {A = ℕ} 0 1 = cc in omega arith) }

same_first : (x y : Heard) (xs ys : List Heard) → x ∷ xs ≡ y ∷ ys → x ≡ y
same_first x y xs ys e = cc

same_rest : (x y : Heard) (xs ys : List Heard) → x ∷ xs ≡ y ∷ ys → xs ≡ ys
same_rest x y xs ys e = cc

newly_new : (a t : ℕ) (o : List ℕ) (sender : LinkAddress) (past : List Heard) → New t past (newly a t o sender past)
newly_new a t o sender past = go (eqb (source_of o) a) (live_by t past) refl (repeats (number_of o) past) refl
  where
    go : (b c : Bool) → live_by t past ≡ c → (d : Bool) → repeats (number_of o) past ≡ d → New t past (cond (b && not (c && d)) (this t o sender ∷ []) [])
    go false c p d q = none_new t past
    go true true p true q = none_new t past
    go true true p false q = record {
      at_most = λ x xs e. (
        sym (same_rest (this t o sender) x [] xs e),
        ap (λ k. k.time) (sym (same_first (this t o sender) x [] xs e)),
        λ l. ap (λ k. repeats k.number past) (sym (same_first (this t o sender) x [] xs e)) ∙ q,
      );
    }
    go true false p d q = record {
      at_most = λ x xs e. (
        sym (same_rest (this t o sender) x [] xs e),
        ap (λ k. k.time) (sym (same_first (this t o sender) x [] xs e)),
        λ l. absurd (true≢false (sym l ∙ p)),
      );
    }

call_new : (a t : ℕ) (c : Call) (past : List Heard) → New t past (call_newly a t c past)
call_new a t (place p) past = none_new t past
call_new a t (receive o sender) past = newly_new a t o sender past
call_new a t (send q payload) past = none_new t past
call_new a t serve past = none_new t past

by_new : (a : ℕ) (e : Event) (past : List Heard) → New e.time past (newly_by a e past)
by_new a e past = go e.outcome
  where
    go : (o : Outcome) → New e.time past (elim o [ accepted _ ↦ call_newly a e.time e.call past | refused _ ↦ [] ])
    go (accepted _) = call_new a e.time e.call past
    go (refused _) = none_new e.time past

-- numbers
among_append : (n : ℕ) (xs ys : List ℕ) → among n (xs ++ ys) ≡ (among n xs || among n ys)
among_append n [] ys = refl
among_append n (x ∷ xs) ys = go (eqb n x) (among_append n xs ys)
  where
    go : (b : Bool) → among n (xs ++ ys) ≡ (among n xs || among n ys) → (b || among n (xs ++ ys)) ≡ ((b || among n xs) || among n ys)
    go true ih = refl
    go false ih = ih

different_push : (xs : List ℕ) (n : ℕ) → Different xs → among n xs ≡ false → Different (xs ++ (n ∷ []))
different_push [] n d e = (refl, tt)
different_push (x ∷ xs) n d e =
    let p = or_parts (eqb n x) (among n xs) e in (
      among_append x xs (n ∷ []) ∙ or_from (among x xs) (eqb x n || false) d.0 (or_from (eqb x n) false (ne_eqb x n (λ z. eqb-false n x p.0 (sym z))) refl),
      different_push xs n d.1 p.1,
    )

different_drop : (k : ℕ) (xs : List ℕ) → Different xs → Different (drop k xs)
different_drop zero xs d = d
different_drop (suc k) [] d = tt
different_drop (suc k) (x ∷ xs) d = different_drop k xs d.1

-- what is remembered is all different
different_more : (past : List Heard) (n : Option ℕ) → Different (last_eight (numbers past)) → repeats n past ≡ false → Different (last_eight (numbers past ++ one_number n))
different_more past None d e = subst (λ k. Different (last_eight k)) (sym (append-nil (numbers past))) d
different_more past (Some n) d e =
    subst Different (last_eight_more (numbers past) n)
    (different_drop (length (last_eight (numbers past) ++ (n ∷ [])) - 8) (last_eight (numbers past) ++ (n ∷ [])) (different_push (last_eight (numbers past)) n d e))

different_one : (n : Option ℕ) → Different (last_eight ([] ++ one_number n))
different_one None = tt
different_one (Some n) = (refl, tt)

pub different_heard : (a : ℕ) (h : History) → Different (last_eight (numbers (heard a h)))
different_heard a [] = tt
different_heard a (e ∷ h) = go (newly_by a e (heard a h)) refl (different_heard a h)
  where
    go : (new : List Heard) → newly_by a e (heard a h) ≡ new → Different (last_eight (numbers (heard a h))) → Different (last_eight (numbers (since_entry e.time new (heard a h))))
    go [] q d = d
    go (x ∷ xs) q d = on (live_by e.time (heard a h)) refl
      where
        on : (b : Bool) → live_by e.time (heard a h) ≡ b → Different (last_eight (numbers (cond b (heard a h) []) ++ one_number x.number))
        on true l = different_more (heard a h) x.number d (((by_new a e (heard a h)).at_most x xs q).2 l)
        on false l = different_one x.number

numbers_append : (xs ys : List Heard) → numbers (xs ++ ys) ≡ numbers ys ++ numbers xs
numbers_append [] ys = sym (append-nil (numbers ys))
numbers_append (x ∷ xs) ys = ap (λ k. k ++ one_number x.number) (numbers_append xs ys) ∙ append_assoc (numbers ys) (numbers xs) (one_number x.number)

-- one number, and fewer than eight behind it: it is among the last eight
still_among : (us : List ℕ) (n : ℕ) (vs : List ℕ) → length vs < 8 → among n (last_eight (us ++ (n ∷ vs))) ≡ true
still_among us n vs l =
    let k = length-append us (n ∷ vs) in
    let d : last_eight (us ++ (n ∷ vs)) ≡ drop (length (us ++ (n ∷ vs)) - 8) us ++ (n ∷ vs) = drop-append-le (length (us ++ (n ∷ vs)) - 8) us (n ∷ vs) (omega (arith, k)) in
    ap (among n) d ∙ among_append n (drop (length (us ++ (n ∷ vs)) - 8) us) (n ∷ vs)
    ∙ or_right (among n (drop (length (us ++ (n ∷ vs)) - 8) us)) (eqb n n || among n vs) (or_left (eqb n n) (among n vs) (eq-eqb n n refl))

-- eight or more behind: they alone are the last eight
last_behind : (us vs : List ℕ) → 8 ≤ length vs → last_eight (us ++ vs) ≡ last_eight vs
last_behind us vs l =
    let k = length-append us vs in
    let e : length (us ++ vs) - 8 ≡ length us + (length vs - 8) = omega (arith, k) in
    ap (λ m. drop m (us ++ vs)) e ∙ sym (drop-drop (length vs - 8) (length us) (us ++ vs)) ∙ ap (drop (length vs - 8)) (drop_at us vs (length us) refl)

all_among : (xs ys : List ℕ) → ((m : ℕ) → among m ys ≡ true → among m xs ≡ true) → AllByRecursion (λ m. among m xs ≡ true) ys
all_among xs [] f = tt
all_among xs (y ∷ ys) f = (f y (or_left (eqb y y) (among y ys) (eq-eqb y y refl)), all_among xs ys (λ m e. f m (or_right (eqb m y) (among m ys) e)))

drop-among : (k : ℕ) (xs : List ℕ) (m : ℕ) → among m (drop k xs) ≡ true → among m xs ≡ true
drop-among zero xs m e = e
drop-among (suc k) [] m e = e
drop-among (suc k) (x ∷ xs) m e = or_right (eqb m x) (among m xs) (drop-among k xs m e)

-- silences
silence_before : (new xs : List Heard) → Silence xs → Silence (new ++ xs)
silence_before [] xs s = s
silence_before (y ∷ new) xs s =
    let r = silence_before new xs s in
    record { later = y ∷ r.later; second = r.second; first = r.first; earlier = r.earlier; next = ap (λ k. y ∷ k) r.next; long = r.long }

-- heard after the station had gone: a silence before it
silence_now : (t : ℕ) (y : Heard) (ns : List Heard) (x : Heard) (rest : List Heard) → y.time ≡ t → live_by t (ns ++ (x ∷ rest)) ≡ false → Silence (y ∷ (ns ++ (x ∷ [])))
silence_now t y [] x rest e l =
    record { later = []; second = y; first = x; earlier = []; next = refl; long = let k = leb-false t (x.time + memory_ms) l in omega (arith, k, e) }
silence_now t y (n ∷ ns) x rest e l =
    record { later = []; second = y; first = n; earlier = ns ++ (x ∷ []); next = refl; long = let k = leb-false t (n.time + memory_ms) l in omega (arith, k, e) }

heard_more : (t : ℕ) (y : Heard) (ns past : List Heard) (x : Heard) (rest : List Heard) → past ≡ ns ++ (x ∷ rest) → y.time ≡ t
    → Silence (y ∷ (ns ++ (x ∷ []))) ⊎ (y ∷ cond (live_by t past) past [] ≡ y ∷ (ns ++ (x ∷ rest)))
heard_more t y ns past x rest p e = go (live_by t past) refl
  where
    go : (b : Bool) → live_by t past ≡ b → Silence (y ∷ (ns ++ (x ∷ []))) ⊎ (y ∷ cond b past [] ≡ y ∷ (ns ++ (x ∷ rest)))
    go true l = inr (ap (λ k. y ∷ k) p)
    go false l = inl (silence_now t y ns x rest e (ap (live_by t) (sym p) ∙ l))

module _ (a : ℕ) (e : Event) (old : History) (x : Heard) (rest : List Heard) (begins : heard a (e ∷ old) ≡ x ∷ rest) where
  -- after some calls more: all that was newly accepted since is still counted, or there was a silence
  since : (between : History) → Silence (newly_between a between (e ∷ old) ++ (x ∷ [])) ⊎ (heard a (between ++ (e ∷ old)) ≡ newly_between a between (e ∷ old) ++ (x ∷ rest))
  since [] = inr begins
  since (g ∷ between) = go (newly_by a g (heard a (between ++ (e ∷ old)))) refl (since between)
    where
      go : (new : List Heard) → newly_by a g (heard a (between ++ (e ∷ old))) ≡ new
          → Silence (newly_between a between (e ∷ old) ++ (x ∷ [])) ⊎ (heard a (between ++ (e ∷ old)) ≡ newly_between a between (e ∷ old) ++ (x ∷ rest))
          → Silence ((new ++ newly_between a between (e ∷ old)) ++ (x ∷ []))
          ⊎ (since_entry g.time new (heard a (between ++ (e ∷ old))) ≡ (new ++ newly_between a between (e ∷ old)) ++ (x ∷ rest))
      go [] q s = s
      go (y ∷ ys) q (inl s) = inl (subst Silence (sym (append_assoc (y ∷ ys) (newly_between a between (e ∷ old)) (x ∷ []))) (silence_before (y ∷ ys) (newly_between a between (e ∷ old) ++ (x ∷ [])) s))
      go (y ∷ ys) q (inr p) =
          let n = (by_new a g (heard a (between ++ (e ∷ old)))).at_most y ys q in
          subst (λ zs. Silence (((y ∷ zs) ++ newly_between a between (e ∷ old)) ++ (x ∷ []))
          ⊎ (y ∷ cond (live_by g.time (heard a (between ++ (e ∷ old)))) (heard a (between ++ (e ∷ old))) [] ≡ ((y ∷ zs) ++ newly_between a between (e ∷ old)) ++ (x ∷ rest)))
          (sym n.0)
          (heard_more g.time y (newly_between a between (e ∷ old)) (heard a (between ++ (e ∷ old))) x rest p n.1)

  -- heard again with the number n of x
  again : (n : ℕ) → x.number ≡ Some n → (between : History) (f : Event) (y : Heard) → newly_by a f (heard a (between ++ (e ∷ old))) ≡ y ∷ [] → y.number ≡ Some n
      → EightOthers n (newly_between a between (e ∷ old)) ⊎ Silence (y ∷ (newly_between a between (e ∷ old) ++ (x ∷ [])))
  again n xn between f y new yn = go (since between)
    where
      new-facts : (live_by f.time (heard a (between ++ (e ∷ old))) ≡ true → repeats y.number (heard a (between ++ (e ∷ old))) ≡ false)
      new-facts = ((by_new a f (heard a (between ++ (e ∷ old)))).at_most y [] new).2

      eight : heard a (between ++ (e ∷ old)) ≡ newly_between a between (e ∷ old) ++ (x ∷ rest) → live_by f.time (heard a (between ++ (e ∷ old))) ≡ true
          → EightOthers n (newly_between a between (e ∷ old))
      eight p l =
          let ns : List Heard = newly_between a between (e ∷ old) in
          let not-now : among n (last_eight (numbers (heard a (between ++ (e ∷ old))))) ≡ false = ap (λ k. repeats k (heard a (between ++ (e ∷ old)))) (sym yn) ∙ new-facts l in
          let all : numbers (heard a (between ++ (e ∷ old))) ≡ (numbers rest ++ (n ∷ [])) ++ numbers ns =
          ap numbers p ∙ numbers_append ns (x ∷ rest) ∙ ap (λ k. (numbers rest ++ one_number k) ++ numbers ns) xn in
          let many : 8 ≤ length (numbers ns) =
          ⊎_elim (λ (few : length (numbers ns) < 8). absurd (true≢false (sym (still_among (numbers rest) n (numbers ns) few)
          ∙ ap (λ k. among n (last_eight k)) (sym (append_assoc (numbers rest) (n ∷ []) (numbers ns)) ∙ sym all) ∙ not-now)))
          (λ (k : 8 ≤ length (numbers ns)). k) (cases_lt (length (numbers ns)) 8) in
          let same : last_eight (numbers (heard a (between ++ (e ∷ old)))) ≡ last_eight (numbers ns) = ap last_eight all ∙ last_behind (numbers rest ++ (n ∷ [])) (numbers ns) many in
          record {
            others = last_eight (numbers ns);
            eight = let d = length-drop (length (numbers ns) - 8) (numbers ns) in omega (arith, d, many);
            different = subst Different same (different_heard a (between ++ (e ∷ old)));
            not_it = ap (among n) (sym same) ∙ not-now;
            heard_all = all_among (numbers ns) (last_eight (numbers ns)) (drop-among (length (numbers ns) - 8) (numbers ns));
          }

      go : Silence (newly_between a between (e ∷ old) ++ (x ∷ [])) ⊎ (heard a (between ++ (e ∷ old)) ≡ newly_between a between (e ∷ old) ++ (x ∷ rest))
          → EightOthers n (newly_between a between (e ∷ old)) ⊎ Silence (y ∷ (newly_between a between (e ∷ old) ++ (x ∷ [])))
      go (inl s) = inr (silence_before (y ∷ []) (newly_between a between (e ∷ old) ++ (x ∷ [])) s)
      go (inr p) = on (live_by f.time (heard a (between ++ (e ∷ old)))) refl
        where
          on : (b : Bool) → live_by f.time (heard a (between ++ (e ∷ old))) ≡ b
              → EightOthers n (newly_between a between (e ∷ old)) ⊎ Silence (y ∷ (newly_between a between (e ∷ old) ++ (x ∷ [])))
          on true l = inl (eight p l)
          on false l = inr (silence_now f.time y (newly_between a between (e ∷ old)) x rest ((by_new a f (heard a (between ++ (e ∷ old)))).at_most y [] new).1 (ap (live_by f.time) (sym p) ∙ l))

each_at : (P : Event → History → Type 0) (later : History) (f : Event) (h : History) → EachCall P (later ++ (f ∷ h)) → EachCall P (f ∷ h)
each_at P [] f h a = a
each_at P (g ∷ later) f h a = each_at P later f h a.1

pub deliveries : (h : History) → EachCall Fresh h → Deliveries h
deliveries h fresh a n later f between e old whole de df =
    let two : EachCall Fresh (f ∷ (between ++ (e ∷ old))) = each_at Fresh later f (between ++ (e ∷ old)) (subst (EachCall Fresh) whole fresh) in
    let one : EachCall Fresh (e ∷ old) = each_at Fresh between e old two.1 in
    let y = two.0 a n df in
    let x = one.0 a n de in
    let begins : heard a (e ∷ old) ≡ x.0 ∷ cond (live_by e.time (heard a old)) (heard a old) [] = ap (λ k. since_entry e.time k (heard a old)) x.1 in
    ⊎_elim (λ (k : EightOthers n (newly_between a between (e ∷ old))). inl k)
    (λ (k : Silence (y.0 ∷ (newly_between a between (e ∷ old) ++ (x.0 ∷ [])))).
    inr (subst Silence (λ i. (sym y.1 i ++ newly_between a between (e ∷ old)) ++ sym x.1 i) k))
    (again a e old x.0 (cond (live_by e.time (heard a old)) (heard a old) []) begins n x.2 between f y.0 y.1 y.2)
