-- The situation that the words of a line tell of. Assumes nothing.
use Rattle.std.specs.Prelude.{◌≡◌, ℕ, cond, ◌⊎◌, List, [], ◌∷◌, ◌++◌, length, Some, None, Ok, Err, vec_items, IsUtf8, Option, Result, nat_lt}
use Rattle.std.specs.Option.{option_map}
use Rattle.hex_digits.specs.Hex.{decoded}
use Rattle.location_table.specs.declared.entry.Entry.{Entry}
use Rattle.request.specs.Numbers.{and_then}
use Rattle.situation.specs.Filled.{no_fields, fields_with}
use Rattle.situation.specs.Halves.{cut_at}
use Rattle.situation.specs.Names.{name_in}
use Rattle.situation.specs.Values.{station_in}
use Rattle.request.specs.declared.fault.LineFault.{LineFault}
use Rattle.request.specs.declared.fault.LineFault.TheVariants.{NotUnderstood, NoMemory}
use Rattle.situation.specs.declared.names.Name.{Name}
use Rattle.situation.specs.declared.names.Name.TheVariants as names
use Rattle.situation.specs.declared.told.Fields.{Fields}
use Rattle.situation.specs.declared.told.Situation.{Situation}

-- what is told
pub record Told : Type 0 where
  pub fields : Fields
  pub stations : List Entry
  pub packet : List ℕ

abbrev pub told_by : Situation → Told
told_by s = record { fields = s.fields; stations = s.table; packet = vec_items s.packet }

-- nothing yet
abbrev pub blank : Told
blank = record { fields = no_fields; stations = []; packet = [] }

-- a station more, if there are fewer than 64
abbrev pub with_station : Told → Entry → Option Told
with_station t s = cond (nat_lt (length t.stations) 64) (Some (record { fields = t.fields; stations = t.stations ++ s ∷ []; packet = t.packet })) None

-- what a name stands for, set to what a text says
abbrev pub settled : Name → List ℕ → Told → Option Told
settled (names.Field f) text t = option_map (λ fs. record { fields = fs; stations = t.stations; packet = t.packet }) (fields_with f text t.fields)
settled names.Station text t = and_then (station_in text) (with_station t)
settled names.Packet text t = option_map (λ octets. record { fields = t.fields; stations = t.stations; packet = octets }) (decoded text)

-- a word is a name, the first `=`, and a text
abbrev pub taken : List ℕ → Told → Option Told
taken word t = and_then (cut_at 61 word) (λ p. and_then (name_in p.0) (λ n. settled n p.1 t))

-- the words, one after another
abbrev pub described : List (List ℕ) → Told → Option Told
described [] t = Some t
described (word ∷ words) t = and_then (taken word t) (described words)

-- what is told after a step; a refusal leaves it as it was, and says that the step tells of nothing, unless memory ran out
abbrev pub Answers : Option Told → Situation → Situation → Result (Unit {0}) LineFault → Type 0
Answers told before after (Ok u) = told ≡ Some (told_by after)
Answers told before after (Err NotUnderstood) = (told ≡ None) × (told_by after ≡ told_by before)
Answers told before after (Err NoMemory) = told_by after ≡ told_by before

abbrev pub AnswersSet : Name → List ℕ → Situation → Situation → Result (Unit {0}) LineFault → Type 0
AnswersSet name text before after r = Answers (settled name text (told_by before)) before after r

-- what a name stands for, in words
abbrev pub AnswersNamed : List ℕ → List ℕ → Situation → Situation → Result (Unit {0}) LineFault → Type 0
AnswersNamed name text before after r = Answers (and_then (name_in name) (λ n. settled n text (told_by before))) before after r

-- one of the words is no text
abbrev pub NoText : List (List ℕ) → Type 0
NoText [] = ⊥
NoText (word ∷ words) = (IsUtf8 word → ⊥) ⊎ NoText words

-- the words of a line tell of this situation; or they tell of none, or one of them is no text
abbrev pub Describes : List (List ℕ) → Result Situation LineFault → Type 0
Describes words (Ok s) = described words blank ≡ Some (told_by s)
Describes words (Err NotUnderstood) = (described words blank ≡ None) ⊎ NoText words
Describes words (Err NoMemory) = Unit {0}
