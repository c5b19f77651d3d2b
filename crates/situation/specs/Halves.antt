-- A text cut in two, at the first of some octet. Assumes nothing.
use Rattle.std.specs.Prelude.{ℕ, cond, List, [], ◌∷◌, Some, None, Option, ◌==◌}
use Rattle.std.specs.Borrow.{Bor}
use Rattle.std.specs.Option.{option_map}

-- what stands before the octet, and what stands behind it
abbrev pub Pair : Type 0
Pair = List ℕ × List ℕ

-- an octet more in front
abbrev pub longer : ℕ → Pair → Pair
longer b p = (b ∷ p.0, p.1)

unfoldable pub cut_at : ℕ → List ℕ → Option Pair
cut_at c [] = None
cut_at c (b ∷ text) = cond (b == c) (Some ([], text)) (option_map (longer b) (cut_at c text))

-- what two references point to
abbrev pub both_of : Bor (List ℕ) × Bor (List ℕ) → Pair
both_of p = (p.0.now, p.1.now)
