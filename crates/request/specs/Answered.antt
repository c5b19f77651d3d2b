-- What comes of the words of a line, given what comes of setting a name to a text. Assumes nothing.
use Rattle.std.specs.Prelude.{◌≡◌, ℕ, ◌<◌, ◌⊎◌, List, [], ◌∷◌, ◌++◌, length, Ok, Err, IsUtf8, Result, ◌≢◌, slice_index}
use Rattle.request.specs.declared.fault.LineFault.{LineFault}
use Rattle.request.specs.declared.fault.LineFault.TheVariants.{NotUnderstood}

-- what comes of setting a name to a text: from one value to another, or a refusal
abbrev pub Setting : Type 0 → Type 1
Setting X = List ℕ → List ℕ → X → X → Result (Unit {0}) LineFault → Type 0

-- a word is a name, the first `=`, and a text
pub record Splits (word name text : List ℕ) : Type 0 where
  pub whole : word ≡ name ++ (61 ∷ text)
  pub first : (i : ℕ) → i < length name → slice_index name i ≢ 61

-- there is no `=` in a word
abbrev pub Unsplit : List ℕ → Type 0
Unsplit word = (i : ℕ) → i < length word → slice_index word i ≢ 61

-- what is not understood changes nothing
pub record NothingOf {X : Type 0} (before after : X) (r : Result (Unit {0}) LineFault) : Type 0 where
  pub refused : r ≡ Err NotUnderstood
  pub same : after ≡ before

-- a word sets its name to its text; one with no `=` is not understood
abbrev pub WordAnswered : {X : Type 0} → Setting X → List ℕ → X → X → Result (Unit {0}) LineFault → Type 0
WordAnswered setting word before after r =
    (Unsplit word × NothingOf before after r) ⊎ ((name : List ℕ) × (text : List ℕ) × Splits word name text × setting name text before after r)

-- octets that are no text are not understood
abbrev pub OctetsAnswered : {X : Type 0} → Setting X → List ℕ → X → X → Result (Unit {0}) LineFault → Type 0
OctetsAnswered setting word before after r = ((IsUtf8 word → ⊥) × NothingOf before after r) ⊎ WordAnswered setting word before after r

-- one word after another, up to the first that is refused
abbrev pub WordsAnswered : {X : Type 0} → Setting X → List (List ℕ) → X → X → Result (Unit {0}) LineFault → Type 0
WordsAnswered setting [] before after r = (after ≡ before) × (r ≡ Ok tt)
WordsAnswered {X} setting (word ∷ words) before after r =
    ((fault : LineFault) × OctetsAnswered setting word before after (Err fault) × (r ≡ Err fault)) ⊎
    ((middle : X) × OctetsAnswered setting word before middle (Ok tt) × WordsAnswered setting words middle after r)
