-- The copy that a duplicate cancels is the earliest that waits by time. Assumes nothing.
use Rattle.std.proofs.Common.{◌≡◌, ℕ, List, [], ◌∷◌, ◌++◌, map, sym, refl, ◌∙◌, subst, arith}
use Rattle.std.specs.List.{AllByRecursion}
use Rattle.law.specs.Fates.{Taken, Taking, Fate, left, cancelled, let_go, waits, Fated, one_waiting, waiting_in, Copies, EndedBefore, FirstCancelled, Pairs}

-- pairs of a list with one more at its end, and with another one in its middle
module _ {X : Type 0} (R : X → X → Type 0) where
  all_more : (P : X → Type 0) (xs : List X) (y : X) → AllByRecursion P xs → P y → AllByRecursion P (xs ++ (y ∷ []))
  all_more P [] y a p = (p, tt)
  all_more P (x ∷ xs) y a p = (a.0, all_more P xs y a.1 p)

  pub pairs-push : (xs : List X) (y : X) → Pairs R xs → AllByRecursion (λ x. R x y) xs → Pairs R (xs ++ (y ∷ []))
  pairs-push [] y p a = (tt, tt)
  pairs-push (x ∷ xs) y p a = (all_more (R x) xs y p.0 a.0, pairs-push xs y p.1 a.1)

  all-mid : (P : X → Type 0) (xs : List X) (y z : X) (ys : List X) → AllByRecursion P (xs ++ (y ∷ ys)) → P z → AllByRecursion P (xs ++ (z ∷ ys))
  all-mid P [] y z ys a p = (p, a.1)
  all-mid P (x ∷ xs) y z ys a p = (a.0, all-mid P xs y z ys a.1 p)

  -- the one in the middle changed: what stood before it and behind it has to fit the new one
  pub pairs-mid : (xs : List X) (y z : X) (ys : List X) → Pairs R (xs ++ (y ∷ ys)) → AllByRecursion (λ x. R x z) xs → (AllByRecursion (R y) ys → AllByRecursion (R z) ys) → Pairs R (xs ++ (z ∷ ys))
  pairs-mid [] y z ys p a f = (f p.0, p.1)
  pairs-mid (x ∷ xs) y z ys p a f = (all-mid (R x) xs y z ys p.0 a.0, pairs-mid xs y z ys p.1 a.1 f)

-- pairs under a map that keeps the relation
pub pairs_map : {X : Type 0} (R : X → X → Type 0) (f : X → X) → ((x y : X) → R x y → R (f x) (f y)) → (xs : List X) → Pairs R xs → Pairs R (map f xs)
pairs_map R f h [] p = tt
pairs_map R f h (x ∷ xs) p = (go xs p.0, pairs_map R f h xs p.1)
  where
    go : (ys : _) → AllByRecursion (R x) ys → AllByRecursion (R (f x)) (map f ys)
    go [] a = tt
    go (y ∷ ys) a = (h x y a.0, go ys a.1)

left_not : (i j : ℕ) → left i ≡ cancelled j → ⊥
left_not i j e = let z : ◌≡◌ {A = ℕ} 0 1 = cc in omega arith

let_go_not : (i j : ℕ) → let_go i ≡ cancelled j → ⊥
let_go_not i j e = let z : ◌≡◌ {A = ℕ} 0 1 = cc in omega arith

waits_not : (j : ℕ) → waits ≡ cancelled j → ⊥
waits_not j e = let z : ◌≡◌ {A = ℕ} 0 1 = cc in omega arith

same_call : (i j : ℕ) → cancelled i ≡ cancelled j → i ≡ j
same_call i j e = cc

-- one that waits, and one that left, was not cancelled
pub before_waiting : (f g : Fated) → g.fate ≡ waits → FirstCancelled f g
before_waiting f g e j q c = absurd (waits_not j (sym e ∙ q))

pub before_left : (J : ℕ) (f g : Fated) → g.fate ≡ left J → FirstCancelled f g
before_left J f g e j q c = absurd (left_not J j (sym e ∙ q))

-- behind one that waits no copy of it was cancelled, so its own fate may be any
pub behind_waiting : (f g : Fated) → f.fate ≡ waits → (d : Fated) → d.taking ≡ f.taking → FirstCancelled f g → FirstCancelled d g
behind_waiting f g e d s r j q c =
    absurd (subst (λ k. EndedBefore j k) e (r j q (subst (λ (k : Taking). Copies k.what g.taking.what) s c)))

-- those before one that is now cancelled: each is no copy of it, or has met its fate
pub before_cancelled : (J : ℕ) (f g : Fated) → g.fate ≡ cancelled J → (Copies f.taking.what g.taking.what → EndedBefore J f.fate) → FirstCancelled f g
before_cancelled J f g e h j q c = subst (λ k. EndedBefore k f.fate) (same_call J j (sym e ∙ q)) (h c)

-- of those in front, the ones that wait are among the waiting
pub waiting_among : (P : Taken → Type 0) (fs : List Fated) → AllByRecursion P (waiting_in fs) → AllByRecursion (λ f. f.fate ≡ waits → P f.taking.what) fs
waiting_among P [] a = tt
waiting_among P (f ∷ fs) a = go f.fate refl a (waiting_among P fs)
  where
    go : (g : Fate) → f.fate ≡ g → AllByRecursion P (one_waiting g f.taking.what ++ waiting_in fs) → (AllByRecursion P (waiting_in fs) → AllByRecursion (λ k. k.fate ≡ waits → P k.taking.what) fs)
        → AllByRecursion (λ k. k.fate ≡ waits → P k.taking.what) (f ∷ fs)
    go (left j) e a more = (λ q. absurd (let z : ◌≡◌ {A = ℕ} 0 1 = cc in omega arith), more a)
    go (cancelled j) e a more = (λ q. absurd (let z : ◌≡◌ {A = ℕ} 0 1 = cc in omega arith), more a)
    go (let_go j) e a more = (λ q. absurd (let z : ◌≡◌ {A = ℕ} 0 1 = cc in omega arith), more a)
    go waits e a more = (λ q. a.0, more a.1)
