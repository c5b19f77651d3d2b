-- The first of a line of which a test says something. Assumes nothing.
use Rattle.std.proofs.Common.{◌≡◌, List, [], ◌∷◌, ◌++◌, Some, None, Option, refl, ap}
use Rattle.std.specs.List.{AllByRecursion}
use Rattle.law.specs.World.{Waiter}
use Rattle.rules.specs.Lines.{Pick, none, one, pick, pick_here}

pub record Chosen {X : Type 0} (f : Waiter → Option X) (ws before : List Waiter) (v : Waiter) (after : List Waiter) (x : X) : Type 0 where
  pub whole : ws ≡ before ++ (v ∷ after)
  pub says : f v ≡ Some x
  pub first : AllByRecursion (λ u. f u ≡ None) before

abbrev pub Picked : {X : Type 0} → (Waiter → Option X) → List Waiter → Pick X → Type 0
Picked f ws none = AllByRecursion (λ u. f u ≡ None) ws
Picked f ws (one before v after x) = Chosen f ws before v after x

pub picked : {X : Type 0} (f : Waiter → Option X) (ws : List Waiter) → Picked f ws (pick f ws)
picked f [] = tt
picked {X} f (w ∷ ws) = go (f w) refl (pick f ws) (picked f ws)
  where
    go : (o : Option X) → f w ≡ o → (k : Pick X) → Picked f ws k → Picked f (w ∷ ws) (pick_here w ws o k)
    go (Some x) e k p = record { whole = refl; says = e; first = tt }
    go None e none p = (e, p)
    go None e (one before v after x) p = record { whole = ap (λ us. w ∷ us) p.whole; says = p.says; first = (e, p.first) }
