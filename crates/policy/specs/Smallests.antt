-- Greedy names the smallest. Assumes nothing.
use Rattle.std.specs.Prelude.{◌≡◌, ℕ, ◌+◌, ◌<◌, ◌≤◌, List, [], ◌∷◌, ◌++◌, length, drop, Option, nat_lt, slice_index, slice_index_or, refl}
use Rattle.std.proofs.Common.{sym, ap, subst, ◌∙◌, append_assoc, append-nil, arith, below_more, length-append}
use Rattle.std.proofs.lemmas.List.{at_drop_more, get_or_at}
use Rattle.std.proofs.lemmas.Bool.{cond_both, cond-true, cond-false, ltb-true, ltb-false, lt-ltb, le-ltb}
use Rattle.policy.specs.declared.choice.Choice.{Choice}
use Rattle.policy.specs.declared.choice.Choice.TheVariants.{Neighbour, Wait, NoProgress, Nobody}
use Rattle.policy.specs.Choices.{Sound, Smallest, best_from, greedy}

-- what holds of the best of the first i
abbrev SoFar : ℕ → List ℕ → ℕ → ℕ → Choice → Type 0
SoFar ours near i best (Neighbour j) = (j < i) × (slice_index near j ≡ best) × (best < ours) × ((k : ℕ) → k < i → best ≤ slice_index near k) × ((k : ℕ) → k < j → best < slice_index near k)
SoFar ours near i best (Wait w) = ⊥
SoFar ours near i best NoProgress = ⊥
SoFar ours near i best Nobody = (best ≡ ours) × ((k : ℕ) → k < i → best ≤ slice_index near k)

low : (ours : ℕ) (near : List ℕ) (i best : ℕ) (c : Choice) → SoFar ours near i best c → (best ≤ ours) × ((k : ℕ) → k < i → best ≤ slice_index near k)
low ours near i best (Neighbour j) h = (omega (arith, h.2), h.3)
low ours near i best (Wait w) h = absurd h
low ours near i best NoProgress h = absurd h
low ours near i best Nobody h = (omega (arith, h.0), h.1)

takes : (ours : ℕ) (near : List ℕ) (i best x : ℕ) (c : Choice) → SoFar ours near i best c → slice_index near i ≡ x → x < best → SoFar ours near (i + 1) x (Neighbour i)
takes ours near i best x c h e l =
    let m = low ours near i best c h in
    (omega arith, e, omega (arith, m.0), below_more _ i (λ k b. omega (arith, m.1 k b)) (omega arith), λ k b. omega (arith, m.1 k b))

keeps : (ours : ℕ) (near : List ℕ) (i best x : ℕ) (c : Choice) → SoFar ours near i best c → slice_index near i ≡ x → best ≤ x → SoFar ours near (i + 1) best c
keeps ours near i best x (Neighbour j) h e l = (omega (arith, h.0), h.1, h.2, below_more _ i h.3 (omega arith), h.4)
keeps ours near i best x (Wait w) h e l = absurd h
keeps ours near i best x NoProgress h e l = absurd h
keeps ours near i best x Nobody h e l = (h.0, below_more _ i h.1 (omega arith))

ends : (ours : ℕ) (near : List ℕ) (i best : ℕ) (c : Choice) → length near ≡ i → SoFar ours near i best c → Smallest ours near c
ends ours near i best (Neighbour j) e h = (omega (arith, h.0), omega (arith, h.1, h.2), λ k b. omega (arith, h.1, h.3 k (omega arith)), λ k b. omega (arith, h.1, h.4 k b))
ends ours near i best (Wait w) e h = absurd h
ends ours near i best NoProgress e h = absurd h
ends ours near i best Nobody e h = λ k b. omega (arith, h.0, h.1 k (omega arith))

goes : (ours : ℕ) (front rest : List ℕ) (i best : ℕ) (c : Choice) → length front ≡ i → SoFar ours (front ++ rest) i best c → Smallest ours (front ++ rest) (best_from i best c rest)
goes ours front [] i best c e h = ends ours (front ++ []) i best c (ap length (append-nil front) ∙ e) h
goes ours front (x ∷ rest) i best c e h =
    let at = get_or_at front x rest 0 i e in
    let moved : (front ++ (x ∷ [])) ++ rest ≡ front ++ (x ∷ rest) = append_assoc front (x ∷ []) rest in
    let long : length (front ++ (x ∷ [])) ≡ i + 1 = length-append front (x ∷ []) ∙ ap (λ (n : ℕ). n + 1) e in
    cond_both (nat_lt x best) _ _ (Smallest ours (front ++ (x ∷ rest)))
    (λ t. subst (λ (l : List ℕ). Smallest ours l (best_from (i + 1) x (Neighbour i) rest)) moved
    (goes ours (front ++ (x ∷ [])) rest (i + 1) x (Neighbour i) long
    (subst (λ (l : List ℕ). SoFar ours l (i + 1) x (Neighbour i)) (sym moved) (takes ours _ i best x c h at (ltb-true _ _ t)))))
    (λ f. subst (λ (l : List ℕ). Smallest ours l (best_from (i + 1) best c rest)) moved
    (goes ours (front ++ (x ∷ [])) rest (i + 1) best c long
    (subst (λ (l : List ℕ). SoFar ours l (i + 1) best c) (sym moved) (keeps ours _ i best x c h at (ltb-false _ _ f)))))

pub smallest : (ours : ℕ) (near : List ℕ) → Smallest ours near (greedy ours near)
smallest ours near = goes ours [] near 0 ours Nobody refl (refl, λ k b. absurd (omega arith))

sound_from : (ours : ℕ) (sender : Option ℕ) (near : List ℕ) (c : Choice) → Smallest ours near c → Sound ours sender near c
sound_from ours sender near (Neighbour i) h = (h.0, h.1)
sound_from ours sender near (Wait w) h = absurd h
sound_from ours sender near NoProgress h = absurd h
sound_from ours sender near Nobody h = h

pub greedy_sound : (ours : ℕ) (sender : Option ℕ) (near : List ℕ) → Sound ours sender near (greedy ours near)
greedy_sound ours sender near = sound_from ours sender near (greedy ours near) (smallest ours near)

-- one distance more
module _ (i best : ℕ) (c : Choice) (xs : List ℕ) (within : i < length xs) where
  pub best_takes : slice_index_or xs i 0 < best → best_from i best c (drop i xs) ≡ best_from (i + 1) (slice_index xs i) (Neighbour i) (drop (i + 1) xs)
  best_takes h = at_drop_more (best_from i best c) xs i 0 within ∙ cond-true _ _ _ (lt-ltb _ _ h)

  pub best_keeps : best ≤ slice_index xs i → best_from i best c (drop i xs) ≡ best_from (i + 1) best c (drop (i + 1) xs)
  best_keeps h = at_drop_more (best_from i best c) xs i 0 within ∙ cond-false _ _ _ (le-ltb _ _ h)
