-- The table: what letting go, entering and hearing again do to the look-up of an address. Assumes nothing.
use Rattle.std.proofs.Common.{◌≡◌, ℕ, ◌+◌, ◌-◌, Bool, true, false, cond, eqb, List, [], ◌∷◌, ◌++◌, length, drop, Some, None, filter, Option, sym, refl, ap, ◌∙◌, arith}
use Rattle.std.proofs.lemmas.Bool.{eqb-true, eqb-false, eq-eqb, ne_eqb}
use Rattle.std.proofs.lemmas.List.{drop-drop, drop-append-le, length-append, length-drop}
use Rattle.law.specs.Laws.{Once}
use Rattle.law.specs.World.{Station, on_some, or_else}
use Rattle.rules.specs.Known.{address_of, find, last_eight}
use Rattle.rules.specs.Tables.{renew}

abbrev pub some_if : {X : Type 0} → (X → Bool) → Option X → Option X
some_if p None = None
some_if p (Some x) = cond (p x) (Some x) None

pub none_not_some : {X : Type 0} (x : X) → None ≡ Some x → ⊥
none_not_some x e = let z : ◌≡◌ {A = ℕ} 0 1 = cc in omega arith

pub same_some : {X : Type 0} (x y : X) → Some x ≡ Some y → x ≡ y
same_some x y e = cc

pub find_here : (a : ℕ) (x : Station) (xs : List Station) → eqb (address_of x) a ≡ true → find a (x ∷ xs) ≡ Some x
find_here a x xs e = ap (λ b. cond b (Some x) (find a xs)) e

pub find_there : (a : ℕ) (x : Station) (xs : List Station) → eqb (address_of x) a ≡ false → find a (x ∷ xs) ≡ find a xs
find_there a x xs e = ap (λ b. cond b (Some x) (find a xs)) e

-- what is found has the address
pub find_address : (a : ℕ) (xs : List Station) (x : Station) → find a xs ≡ Some x → address_of x ≡ a
find_address a [] x e = absurd (none_not_some x e)
find_address a (y ∷ ys) x e = go (eqb (address_of y) a) refl (find_address a ys x)
  where
    go : (b : Bool) → eqb (address_of y) a ≡ b → (find a ys ≡ Some x → address_of x ≡ a) → address_of x ≡ a
    go true q more = ap (λ z. address_of z) (same_some x y (sym e ∙ find_here a y ys q)) ∙ eqb-true _ _ q
    go false q more = more (sym (find_there a y ys q) ∙ e)

-- letting go
find_kept_none : (p : Station → Bool) (a : ℕ) (xs : List Station) → find a xs ≡ None → find a (filter p xs) ≡ None
find_kept_none p a [] e = refl
find_kept_none p a (x ∷ xs) e = go (eqb (address_of x) a) refl (p x) (find_kept_none p a xs)
  where
    go : (b : Bool) → eqb (address_of x) a ≡ b → (c : Bool) → (find a xs ≡ None → find a (filter p xs) ≡ None)
        → find a (cond c (x ∷ filter p xs) (filter p xs)) ≡ None
    go true q c more = absurd (none_not_some x (sym e ∙ find_here a x xs q))
    go false q true more = find_there a x (filter p xs) q ∙ more (sym (find_there a x xs q) ∙ e)
    go false q false more = more (sym (find_there a x xs q) ∙ e)

pub find_kept : (p : Station → Bool) (a : ℕ) (xs : List Station) → Once xs → find a (filter p xs) ≡ some_if p (find a xs)
find_kept p a [] o = refl
find_kept p a (x ∷ xs) o = go (eqb (address_of x) a) refl (p x) refl (find_kept p a xs o.1)
  where
    go : (b : Bool) → eqb (address_of x) a ≡ b → (c : Bool) → p x ≡ c → find a (filter p xs) ≡ some_if p (find a xs)
        → find a (filter p (x ∷ xs)) ≡ some_if p (find a (x ∷ xs))
    go true q true r more =
        ap (λ k. find a (cond k (x ∷ filter p xs) (filter p xs))) r ∙ find_here a x (filter p xs) q
        ∙ sym (ap (λ k. cond k (Some x) None) r) ∙ sym (ap (some_if p) (find_here a x xs q))
    go true q false r more =
        ap (λ k. find a (cond k (x ∷ filter p xs) (filter p xs))) r ∙ find_kept_none p a xs (ap (λ k. find k xs) (sym (eqb-true _ _ q)) ∙ o.0)
        ∙ sym (ap (λ k. cond k (Some x) None) r) ∙ sym (ap (some_if p) (find_here a x xs q))
    go false q true r more =
        ap (λ k. find a (cond k (x ∷ filter p xs) (filter p xs))) r ∙ find_there a x (filter p xs) q ∙ more ∙ sym (ap (some_if p) (find_there a x xs q))
    go false q false r more =
        ap (λ k. find a (cond k (x ∷ filter p xs) (filter p xs))) r ∙ more ∙ sym (ap (some_if p) (find_there a x xs q))

pub once_kept : (p : Station → Bool) (xs : List Station) → Once xs → Once (filter p xs)
once_kept p [] o = tt
once_kept p (x ∷ xs) o = go (p x) (once_kept p xs o.1)
  where
    go : (c : Bool) → Once (filter p xs) → Once (cond c (x ∷ filter p xs) (filter p xs))
    go true more = (find_kept_none p (address_of x) xs o.0, more)
    go false more = more

-- entering
pub find_push : (a : ℕ) (xs : List Station) (y : Station) → find a (xs ++ (y ∷ [])) ≡ or_else (find a xs) (cond (eqb (address_of y) a) (Some y) None)
find_push a [] y = refl
find_push a (x ∷ xs) y = go (eqb (address_of x) a) refl (find_push a xs y)
  where
    go : (b : Bool) → eqb (address_of x) a ≡ b → find a (xs ++ (y ∷ [])) ≡ or_else (find a xs) (cond (eqb (address_of y) a) (Some y) None)
        → find a (x ∷ (xs ++ (y ∷ []))) ≡ or_else (find a (x ∷ xs)) (cond (eqb (address_of y) a) (Some y) None)
    go true q more = find_here a x (xs ++ (y ∷ [])) q ∙ sym (ap (λ k. or_else k (cond (eqb (address_of y) a) (Some y) None)) (find_here a x xs q))
    go false q more = find_there a x (xs ++ (y ∷ [])) q ∙ more ∙ sym (ap (λ k. or_else k (cond (eqb (address_of y) a) (Some y) None)) (find_there a x xs q))

pub once_push : (xs : List Station) (y : Station) → find (address_of y) xs ≡ None → Once xs → Once (xs ++ (y ∷ []))
once_push [] y e o = (refl, tt)
once_push (x ∷ xs) y e o = go (eqb (address_of x) (address_of y)) refl (once_push xs y)
  where
    go : (b : Bool) → eqb (address_of x) (address_of y) ≡ b → (find (address_of y) xs ≡ None → Once xs → Once (xs ++ (y ∷ []))) → Once (x ∷ (xs ++ (y ∷ [])))
    go true q more = absurd (none_not_some x (sym e ∙ find_here (address_of y) x xs q))
    go false q more = (
      find_push (address_of x) xs y ∙ ap (λ k. or_else k (cond (eqb (address_of y) (address_of x)) (Some y) None)) o.0
          ∙ ap (λ k. cond k (Some y) None) (ne_eqb _ _ (λ z. eqb-false _ _ q (sym z))),
      more (sym (find_there (address_of y) x xs q) ∙ e) o.1,
    )

-- hearing again
pub find-renew : (a b : ℕ) (f : Station → Station) (same : (x : Station) → address_of (f x) ≡ address_of x) (xs : List Station)
    → find b (renew a f xs) ≡ cond (eqb a b) (on_some f (find a xs)) (find b xs)
find-renew a b f same [] = go (eqb a b)
  where
    go : (c : Bool) → None ≡ cond c (on_some f None) None
    go true = refl
    go false = refl
find-renew a b f same (x ∷ xs) = go (eqb (address_of x) a) refl (eqb a b) refl (find-renew a b f same xs)
  where
    go : (c : Bool) → eqb (address_of x) a ≡ c → (d : Bool) → eqb a b ≡ d → find b (renew a f xs) ≡ cond (eqb a b) (on_some f (find a xs)) (find b xs)
        → find b (renew a f (x ∷ xs)) ≡ cond (eqb a b) (on_some f (find a (x ∷ xs))) (find b (x ∷ xs))
    go true q true r more =
        ap (λ k. find b (cond k (f x ∷ xs) (x ∷ renew a f xs))) q
        ∙ find_here b (f x) xs (eq-eqb _ _ (same x ∙ eqb-true _ _ q ∙ eqb-true _ _ r))
        ∙ sym (ap (λ k. cond k (on_some f (find a (x ∷ xs))) (find b (x ∷ xs))) r ∙ ap (on_some f) (find_here a x xs q))
    go true q false r more =
        let there : eqb (address_of x) b ≡ false = ne_eqb _ _ (λ z. eqb-false _ _ r (sym (eqb-true _ _ q) ∙ z)) in
        ap (λ k. find b (cond k (f x ∷ xs) (x ∷ renew a f xs))) q
        ∙ find_there b (f x) xs (ap (λ k. eqb k b) (same x) ∙ there)
        ∙ sym (ap (λ k. cond k (on_some f (find a (x ∷ xs))) (find b (x ∷ xs))) r ∙ find_there b x xs there)
    go false q true r more =
        let there : eqb (address_of x) b ≡ false = ap (eqb (address_of x)) (sym (eqb-true _ _ r)) ∙ q in
        ap (λ k. find b (cond k (f x ∷ xs) (x ∷ renew a f xs))) q
        ∙ find_there b x (renew a f xs) there ∙ more ∙ ap (λ k. cond k (on_some f (find a xs)) (find b xs)) r
        ∙ sym (ap (λ k. cond k (on_some f (find a (x ∷ xs))) (find b (x ∷ xs))) r ∙ ap (on_some f) (find_there a x xs q))
    go false q false r more =
        ap (λ k. find b (cond k (f x ∷ xs) (x ∷ renew a f xs))) q ∙ split (eqb (address_of x) b) refl
      where
        split : (k : Bool) → eqb (address_of x) b ≡ k → find b (x ∷ renew a f xs) ≡ cond (eqb a b) (on_some f (find a (x ∷ xs))) (find b (x ∷ xs))
        split true z = find_here b x (renew a f xs) z ∙ sym (ap (λ k. cond k (on_some f (find a (x ∷ xs))) (find b (x ∷ xs))) r ∙ find_here b x xs z)
        split false z =
            find_there b x (renew a f xs) z ∙ more ∙ ap (λ k. cond k (on_some f (find a xs)) (find b xs)) r
            ∙ sym (ap (λ k. cond k (on_some f (find a (x ∷ xs))) (find b (x ∷ xs))) r ∙ find_there b x xs z)

on_none : (f : Station → Station) (o : Option Station) → o ≡ None → on_some f o ≡ None
on_none f o e = ap (on_some f) e

pub once_renew : (a : ℕ) (f : Station → Station) (same : (x : Station) → address_of (f x) ≡ address_of x) (xs : List Station) → Once xs → Once (renew a f xs)
once_renew a f same [] o = tt
once_renew a f same (x ∷ xs) o = go (eqb (address_of x) a) refl (once_renew a f same xs o.1)
  where
    go : (c : Bool) → eqb (address_of x) a ≡ c → Once (renew a f xs) → Once (cond c (f x ∷ xs) (x ∷ renew a f xs))
    go true q more = (ap (λ k. find k xs) (same x) ∙ o.0, o.1)
    go false q more = (
      find-renew a (address_of x) f same xs ∙ ap (λ k. cond k (on_some f (find a xs)) (find (address_of x) xs)) (ne_eqb _ _ (λ z. eqb-false _ _ q (sym z))) ∙ o.0,
      more,
    )

-- the last eight of the last eight and one more
pub last_eight_more : (xs : List ℕ) (n : ℕ) → last_eight (last_eight xs ++ (n ∷ [])) ≡ last_eight (xs ++ (n ∷ []))
last_eight_more xs n =
    let k : ℕ = length xs - 8 in
    let l : length (drop (length xs - 8) xs) ≡ length xs - (length xs - 8) = length-drop (length xs - 8) xs in
    let u : length (drop (length xs - 8) xs ++ (n ∷ [])) ≡ length (drop (length xs - 8) xs) + 1 = length-append (drop (length xs - 8) xs) (n ∷ []) in
    let v : length (xs ++ (n ∷ [])) ≡ length xs + 1 = length-append xs (n ∷ []) in
    let d : drop (length xs - 8) (xs ++ (n ∷ [])) ≡ drop (length xs - 8) xs ++ (n ∷ []) = drop-append-le (length xs - 8) xs (n ∷ []) (omega arith) in
    ap (λ ys. drop (length (drop (length xs - 8) xs ++ (n ∷ [])) - 8) ys) (sym d)
    ∙ drop-drop (length (drop (length xs - 8) xs ++ (n ∷ [])) - 8) (length xs - 8) (xs ++ (n ∷ []))
    ∙ ap (λ m. drop m (xs ++ (n ∷ []))) (omega (arith, l, u, v))
