-- How a text is cut in two. Assumes nothing.
use Rattle.std.proofs.Common.{◌≡◌, ℕ, suc, ◌<◌, Bool, true, false, eqb, List, [], ◌∷◌, ◌++◌, length, get_or, Some, None, Option, sym, refl, ap, ◌∙◌, arith, Bor, eq-eqb, eqb-true}
use Rattle.std.proofs.lemmas.Str.Pattern.{IsSplitOnceResult, split_parts}
use Rattle.std.specs.Option.{option_map}
use Rattle.situation.specs.Halves.{longer, cut_at, both_of}

-- an octet that is not the one to cut at
passed : (c b : ℕ) (text : List ℕ) (x : Bool) → eqb b c ≡ x → (b ≡ c → ⊥) → cut_at c (b ∷ text) ≡ option_map (longer b) (cut_at c text)
unfolding cut_at
passed c b text true e h = absurd (h (eqb-true b c e))
passed c b text false e h = rw e refl

pub found : (c : ℕ) (front back : List ℕ) → ((i : ℕ) → i < length front → get_or front i 0 ≡ c → ⊥) → cut_at c (front ++ (c ∷ back)) ≡ Some (front, back)
unfolding cut_at
found c [] back h = let e : eqb c c ≡ true = eq-eqb c c refl in rw e refl
found c (b ∷ front) back h =
    passed c b (front ++ (c ∷ back)) (eqb b c) refl (h 0 (omega arith)) ∙
    ap (option_map (longer b)) (found c front back (λ i l e. h (suc i) (omega arith) e))

pub missing : (c : ℕ) (text : List ℕ) → ((i : ℕ) → i < length text → get_or text i 0 ≡ c → ⊥) → cut_at c text ≡ None
unfolding cut_at
missing c [] h = refl
missing c (b ∷ text) h =
    passed c b text (eqb b c) refl (h 0 (omega arith)) ∙
    ap (option_map (longer b)) (missing c text (λ i l e. h (suc i) (omega arith) e))

-- what `split_once` answers
pub cut_at_lem : (c : ℕ) (text : List ℕ) (r : Option (Bor (List ℕ) × Bor (List ℕ))) → IsSplitOnceResult c text r → c < 128 → option_map both_of r ≡ cut_at c text
cut_at_lem c text None h small = sym (missing c text (split_parts c text None h small))
cut_at_lem c text (Some p) h small =
    let parts = split_parts c text (Some p) h small in
    sym (ap (cut_at c) parts.0 ∙ found c p.0.now p.1.now parts.1)
