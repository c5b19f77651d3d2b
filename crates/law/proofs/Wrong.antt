-- Histories that no lawful router has. Assumes nothing.
use Rattle.std.proofs.Common.{◌≡◌, ℕ, ◌+◌, ◌<◌, ◌≤◌, Bool, true, false, cond, ◌||◌, eqb, leb, List, [], ◌∷◌, ◌++◌, length, Some, None, Option, sym, refl, ap, ◌∙◌, subst, inl, inr, arith}
use Rattle.std.specs.List.{AllByRecursion}
use Rattle.std.proofs.ByRecursion.{All-weaker}
use Rattle.std.proofs.lemmas.List.{append-nil, length-append}
use Rattle.std.proofs.lemmas.Bool.{true≢false, false≢true, le-ltb, lt-leb, or_from, or_left, or_right, eqb-true, eqb-false, ne_eqb}
use Rattle.rules.specs.Known.{among, find, memory_ms}
use Rattle.rules.specs.Rules.{bad_time, on_air, serves, step, unless}
use Rattle.rules.specs.Verdicts.{number, addressed}
use Rattle.rules.specs.declared.fault.RouterFault.TheVariants as no-to
use Rattle.law.specs.Fates.{takings, still_waiting, left_answer}
use Rattle.law.specs.Laws.{Delivers, Lawful, Silence, EightOthers, Different, named, names_frame, newly_between}
use Rattle.law.specs.Runs.{Ran, opened, call}
use Rattle.law.specs.Words.{Heard, clock, told_by, row, heard, numbers, one_number, newly_by, packet}
use Rattle.law.specs.World.{Frame, frame, LinkAddress, Station, State, Around, Answer, Fault, Request, accepted, refused, serve, Start, Event, History}
use Rattle.law.specs.Wrong.{served_with, received_with, sent_with, PretendersAreCaught}
use Rattle.law.proofs.Tables.{none_not_some, same_some}

-- a link that stayed did not get a frame
not_longer : (fs : List Frame) (f : Frame) → fs ≡ fs ++ (f ∷ []) → ⊥
not_longer fs f e =
    let l = ap length e in
    let m = length-append fs (f ∷ []) in
    omega (arith, l, m)

named_one : (a : Answer) (p : List ℕ) → names_frame (number a.verdict) ≡ true → named (accepted a) p ≡ frame (addressed a.verdict) p ∷ []
named_one a p v = ap (λ k. cond k (frame (addressed a.verdict) p ∷ []) []) v

silent : (w : Start) (h : History) (s : State) (t : ℕ) (r : Around) (fs : List Frame) (o : List ℕ) (sender : LinkAddress) (a : Answer) → names_frame (number a.verdict) ≡ true
    → Lawful w (received_with t r fs fs o sender a ∷ h) s → ⊥
silent w h s t r fs o sender a v L =
    let p : List ℕ = packet w (received_with t r fs fs o sender a) h in
    not_longer fs (frame (addressed a.verdict) p) (L.frames.0 ∙ ap (λ k. fs ++ k) (named_one a p v))

silent_send : (w : Start) (h : History) (s : State) (t : ℕ) (r : Around) (fs : List Frame) (q : Request) (payload : List ℕ) (a : Answer) → names_frame (number a.verdict) ≡ true
    → Lawful w (sent_with t r fs fs q payload a ∷ h) s → ⊥
silent_send w h s t r fs q payload a v L =
    let p : List ℕ = packet w (sent_with t r fs fs q payload a) h in
    not_longer fs (frame (addressed a.verdict) p) (L.frames.0 ∙ ap (λ k. fs ++ k) (named_one a p v))

silent_serve : (w : Start) (h : History) (s : State) (t : ℕ) (r : Around) (fs : List Frame) (a : Answer) → names_frame (number a.verdict) ≡ true
    → Lawful w (served_with t r fs fs a ∷ h) s → ⊥
silent_serve w h s t r fs a v L =
    let p : List ℕ = L.frames.0.0 in
    not_longer fs (frame (addressed a.verdict) p) (L.frames.0.1 ∙ ap (λ k. fs ++ k) (named_one a p v))

one_left : (a : Answer) → names_frame (number a.verdict) ≡ true → left_answer serve a ≡ 1
one_left a v = ap (λ k. cond k 1 0) v

from_nothing : (w : Start) (h : History) (s : State) (t : ℕ) (r : Around) (fs gs : List Frame) (a : Answer) → names_frame (number a.verdict) ≡ true → takings w h ≡ []
    → Lawful w (served_with t r fs gs a ∷ h) s → ⊥
from_nothing w h s t r fs gs a v nil L =
    let c = L.fates.counts in
    let l = ap length (append-nil (takings w h) ∙ nil) in
    let o = one_left a v in
    omega (arith, c, l, o)

twice : (w : Start) (h : History) (s : State) (t u : ℕ) (r q : Around) (fs gs ks ls : List Frame) (a b : Answer) → names_frame (number a.verdict) ≡ true → names_frame (number b.verdict) ≡ true
    → length (takings w h) ≤ 1 → Lawful w (served_with u q ks ls b ∷ (served_with t r fs gs a ∷ h)) s → ⊥
twice w h s t u r q fs gs ks ls a b v x few L =
    let c = L.fates.counts in
    let l = ap length (append-nil (takings w h ++ []) ∙ append-nil (takings w h)) in
    let o = one_left a v in
    let p = one_left b x in
    omega (arith, c, l, o, p)

forgets : (w : Start) (h : History) (s : State) (t : ℕ) (r : Around) (fs gs : List Frame) (a : Answer) → 1 ≤ still_waiting h
    → number a.verdict ≡ 0 → a.packets_gone ≡ 0 → a.waiting ≡ 0 → (before : State) → Lawful w h before → Lawful w (served_with t r fs gs a ∷ h) s → ⊥
forgets w h s t r fs gs a some v g n before K L =
    let c = K.fates.counts in
    let d = L.fates.counts in
    let l = ap length (append-nil (takings w h)) in
    let o : left_answer serve a ≡ 0 = ap (λ k. cond (eqb k 1 || eqb k 2) 1 0) v in
    let k : ◌≡◌ {A = ℕ} (cond (eqb (number a.verdict) 10) 1 0) 0 = ap (λ k. cond (eqb k 10) 1 0) v in
    omega (arith, c, d, l, o, k)

denies : (w : Start) (h : History) (s : State) (t : ℕ) (r : Around) (fs gs : List Frame) (a : Answer) → a.waiting ≡ 0 → 1 ≤ length s.line
    → Lawful w (served_with t r fs gs a ∷ h) s → ⊥
denies w h s t r fs gs a n some L = omega (arith, L.fates.told)

all_duplicates : (w : Start) (s : State) (t : ℕ) (r : Around) (fs gs : List Frame) (o : List ℕ) (sender : LinkAddress) (a : Answer) → number a.verdict ≡ 9
    → Lawful w (received_with t r fs gs o sender a ∷ []) s → ⊥
all_duplicates w s t r fs gs o sender a v L = true≢false (sym (ap (λ k. eqb k 9 || eqb k 10) v) ∙ L.judged.0)

-- what is told of a station was heard at most 20,000 ms ago
told_lately : (c : ℕ) (xs : List Heard) (x : Station) → told_by c xs ≡ Some x → x.heard + memory_ms < c → ⊥
told_lately c [] x e l = none_not_some x e
told_lately c (y ∷ ys) x e l = go (leb c (y.time + memory_ms)) refl e
  where
    go : (b : Bool) → leb c (y.time + memory_ms) ≡ b → cond b (Some (row y ys)) None ≡ Some x → ⊥
    go true q z =
        let same : y.time ≡ x.heard = ap (λ k. k.heard) (same_some (row y ys) x z) in
        true≢false (sym q ∙ lt-leb c (y.time + memory_ms) (subst (λ k. k + memory_ms < c) (sym same) l))
    go false q z = none_not_some x z

keeps_silent : (w : Start) (h : History) (s : State) (a : ℕ) (x : Station) → find a s.table ≡ Some x → x.heard + memory_ms < clock w h → Lawful w h s → ⊥
keeps_silent w h s a x e l L = told_lately (clock w h) (heard a h) x (sym (L.table.listed a) ∙ e) l

-- more different numbers than there are packets
abbrev without : ℕ → List ℕ → List ℕ
without n [] = []
without n (x ∷ xs) = cond (eqb n x) xs (x ∷ without n xs)

shorter : (n : ℕ) (xs : List ℕ) → among n xs ≡ true → length (without n xs) + 1 ≡ length xs
shorter n [] e = absurd (false≢true e)
shorter n (x ∷ xs) e = go (eqb n x) e (shorter n xs)
  where
    go : (b : Bool) → (b || among n xs) ≡ true → (among n xs ≡ true → length (without n xs) + 1 ≡ length xs) → length (cond b xs (x ∷ without n xs)) + 1 ≡ length (x ∷ xs)
    go true q more = omega arith
    go false q more = let m = more q in omega arith

still_among : (m n : ℕ) (xs : List ℕ) → eqb m n ≡ false → among m xs ≡ true → among m (without n xs) ≡ true
still_among m n [] d e = absurd (false≢true e)
still_among m n (x ∷ xs) d e = go (eqb n x) refl (eqb m x) refl e (still_among m n xs d)
  where
    go : (b : Bool) → eqb n x ≡ b → (c : Bool) → eqb m x ≡ c → (c || among m xs) ≡ true → (among m xs ≡ true → among m (without n xs) ≡ true) → among m (cond b xs (x ∷ without n xs)) ≡ true
    go true p true q k more = absurd (eqb-false m n d (eqb-true m x q ∙ sym (eqb-true n x p)))
    go true p false q k more = k
    go false p true q k more = or_left _ _ q
    go false p false q k more = or_right _ _ (more k)

all_other : (n : ℕ) (xs : List ℕ) → among n xs ≡ false → AllByRecursion (λ m. eqb m n ≡ false) xs
all_other n [] e = tt
all_other n (x ∷ xs) e = go (eqb n x) refl e (all_other n xs)
  where
    go : (b : Bool) → eqb n x ≡ b → (b || among n xs) ≡ false → (among n xs ≡ false → AllByRecursion (λ m. eqb m n ≡ false) xs) → AllByRecursion (λ m. eqb m n ≡ false) (x ∷ xs)
    go true p q more = absurd (true≢false q)
    go false p q more = (ne_eqb x n (λ z. eqb-false n x p (sym z)), more q)

both : (P Q : ℕ → Type 0) (xs : List ℕ) → AllByRecursion P xs → AllByRecursion Q xs → AllByRecursion (λ x. P x × Q x) xs
both P Q [] a b = tt
both P Q (x ∷ xs) a b = ((a.0, b.0), both P Q xs a.1 b.1)

different_few : (xs ys : List ℕ) → Different xs → AllByRecursion (λ m. among m ys ≡ true) xs → length xs ≤ length ys
different_few [] ys d a = omega arith
different_few (x ∷ xs) ys d a =
    let rest : AllByRecursion (λ m. among m (without x ys) ≡ true) xs =
    All-weaker (λ m. (eqb m x ≡ false) × (among m ys ≡ true)) (λ m. among m (without x ys) ≡ true) (λ m k. still_among m x ys k.0 k.1) xs
    (both (λ m. eqb m x ≡ false) (λ m. among m ys ≡ true) xs (all_other x xs d.0) a.1) in
    let less = different_few xs (without x ys) d.1 rest in
    let l = shorter x ys a.0 in
    omega arith

few_numbers : (xs : List Heard) → length (numbers xs) ≤ length xs
few_numbers [] = omega arith
few_numbers (x ∷ xs) = go x.number (few_numbers xs)
  where
    go : (n : Option ℕ) → length (numbers xs) ≤ length xs → length (numbers xs ++ one_number n) ≤ length (x ∷ xs)
    go None l = let k = length-append (numbers xs) [] in omega arith
    go (Some n) l = let k = length-append (numbers xs) (n ∷ []) in omega arith

not_eight : (n : ℕ) (xs : List Heard) → length xs ≤ 7 → EightOthers n xs → ⊥
not_eight n xs l e =
    let k = different_few e.others (numbers xs) e.different e.heard_all in
    let m = few_numbers xs in
    omega (arith, k, m, e.eight)

again_too_soon : (w : Start) (s : State) (a n : ℕ) (later : History) (f : Event) (between : History) (e : Event) (old : History)
    → Delivers a n e → Delivers a n f → length (newly_between a between (e ∷ old)) ≤ 7
    → (Silence (newly_between a (f ∷ between) (e ∷ old) ++ newly_by a e (heard a old)) → ⊥)
    → Lawful w (later ++ (f ∷ (between ++ (e ∷ old)))) s → ⊥
again_too_soon w s a n later f between e old d g few loud L =
    elim (L.deliveries a n later f between e old refl d g) [
      | inl k ↦ not_eight n (newly_between a between (e ∷ old)) few k
      | inr k ↦ loud k
    ]

not_refused : (f : Fault) (a : Answer) → refused f ≡ accepted a → ⊥
not_refused f a e = let z : ◌≡◌ {A = ℕ} 0 1 = cc in omega arith

first_refusal : (w : Start) (t : ℕ) (r : Around) (f : Fault) → t ≤ 281474976710655 → w.time ≤ t → refused f ≡ (step (on_air w) t r serve).outcome → ⊥
first_refusal w t r f small later e =
    let b : bad_time (on_air w) t ≡ false = or_from _ _ (le-ltb 281474976710655 t small) (le-ltb t w.time later) in
    not_refused f _ (e ∙ ap (λ k. (unless (cond k (Some no-to.Time) None) (on_air w) (serves r (on_air w) t)).outcome) b)

refuses : (w : Start) (s : State) (t : ℕ) (r : Around) (fs gs : List Frame) (f : Fault) → t ≤ 281474976710655 → w.time ≤ t
    → Ran w (record { time = t; call = serve; around = r; before = fs; after = gs; outcome = refused f } ∷ []) s → ⊥
refuses w s t r fs gs f small later (call {s = s₀} opened o) = first_refusal w t r f small later o.answered

pub caught : PretendersAreCaught
caught = record {
  silent = silent;
  silent_send = silent_send;
  silent_serve = silent_serve;
  from_nothing = from_nothing;
  twice = twice;
  forgets = forgets;
  denies = denies;
  all_duplicates = all_duplicates;
  keeps_silent = keeps_silent;
  again_too_soon = again_too_soon;
  refuses = refuses;
}
