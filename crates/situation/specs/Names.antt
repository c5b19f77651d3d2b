-- The names of the fields. Assumes nothing.
use Rattle.std.specs.Prelude.{◌≡◌, ℕ, cond, List, [], ◌∷◌, Some, None, Ok, Err, codes, Option, Result}
use Rattle.std.specs.Str.{bytes_eq}
use Rattle.request.specs.declared.fault.LineFault.{LineFault}
use Rattle.request.specs.declared.fault.LineFault.TheVariants.{NotUnderstood}
use Rattle.situation.specs.declared.names.Field.TheVariants as fields
use Rattle.situation.specs.declared.names.Name.{Name}
use Rattle.situation.specs.declared.names.Name.TheVariants as names

-- what is called by a text, in a list of names
abbrev pub lookup : {X : Type 0} → List ℕ → List (List ℕ × X) → Option X
lookup text [] = None
lookup text (n ∷ rest) = cond (bytes_eq text n.0) (Some n.1) (lookup text rest)

abbrev pub all_names : List (List ℕ × Name)
all_names =
    (codes "scale", names.Field fields.Scale) ∷
    (codes "ours", names.Field fields.Ours) ∷
    (codes "target", names.Field fields.Target) ∷
    (codes "sender", names.Field fields.Sender) ∷
    (codes "radius", names.Field fields.Radius) ∷
    (codes "held", names.Field fields.Held) ∷
    (codes "room", names.Field fields.Room) ∷
    (codes "times", names.Field fields.Times) ∷
    (codes "station", names.Station) ∷
    (codes "packet", names.Packet) ∷
    []

abbrev pub name_in : List ℕ → Option Name
name_in text = lookup text all_names

-- the answer is what has this name, or that it is not understood if nothing has it
abbrev pub Named : List ℕ → Result Name LineFault → Type 0
Named text (Ok name) = name_in text ≡ Some name
Named text (Err fault) = (fault ≡ NotUnderstood) × (name_in text ≡ None)
