-- What has no name in a list. Assumes nothing.
use Rattle.std.proofs.Common.{◌≡◌, ℕ, Bool, true, false, List, [], ◌∷◌, None, refl}
use Rattle.std.proofs.lemmas.Slice.Eq.{bytes_eq-Decides}
use Rattle.std.specs.Str.{bytes_eq}
use Rattle.situation.specs.Names.{lookup}

-- none of the names is this text
abbrev pub Other : {X : Type 0} → List ℕ → List (List ℕ × X) → Type 0
Other text [] = Unit {0}
Other text (n ∷ rest) = (text ≡ n.0 → ⊥) × Other text rest

unlike : (x y : List ℕ) (b : Bool) → bytes_eq x y ≡ b → (x ≡ y → ⊥) → bytes_eq x y ≡ false
unlike x y true e h = absurd (h ((bytes_eq-Decides x y).0 e))
unlike x y false e h = e

pub unnamed : {X : Type 0} (text : List ℕ) (names : List (List ℕ × X)) → Other text names → lookup text names ≡ None
unnamed text [] h = refl
unnamed text (n ∷ rest) h =
    let e : bytes_eq text n.0 ≡ false = unlike text n.0 (bytes_eq text n.0) refl h.0 in
    rw e (unnamed text rest h.1)
