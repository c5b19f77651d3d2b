-- What one word does to a request. Assumes nothing.
use Rattle.std.specs.Prelude.{◌≡◌, ℕ, ◌<◌, ◌⊎◌, List, length, Some, None, Ok, Err, vec_items, codes, Result, ◌≢◌, slice_index}
use Rattle.hex_digits.specs.Hex.{decoded}
use Rattle.request.specs.Answered.{Splits}
use Rattle.request.specs.Asked.{fields_with}
use Rattle.request.specs.Names.{field_name}
use Rattle.request.specs.declared.asked.Request.{Request}
use Rattle.request.specs.declared.fault.LineFault.{LineFault}
use Rattle.request.specs.declared.fault.LineFault.TheVariants.{NotUnderstood, NoMemory}
use Rattle.request.specs.declared.names.Field.{Field}

-- a text sets the payload to its octets, and nothing else
pub record SetsPayload (text : List ℕ) (before after : Request) : Type 0 where
  pub octets : decoded text ≡ Some (vec_items after.payload)
  pub kind : after.kind ≡ before.kind
  pub fields : after.fields ≡ before.fields

-- a text sets one field to what it says, and nothing else
pub record SetsField (field : Field) (text : List ℕ) (before after : Request) : Type 0 where
  pub value : fields_with field text before.fields ≡ Some after.fields
  pub kind : after.kind ≡ before.kind
  pub payload : after.payload ≡ before.payload

-- a text sets what a name stands for
abbrev pub Sets : List ℕ → List ℕ → Request → Request → Type 0
Sets name text before after =
    ((name ≡ codes "payload") × SetsPayload text before after) ⊎ ((field : Field) × (name ≡ field_name field) × SetsField field text before after)

-- nothing has this name, or the text is none of its values
abbrev pub Senseless : List ℕ → List ℕ → Request → Type 0
Senseless name text before =
    ((name ≡ codes "payload") × (decoded text ≡ None)) ⊎
    (((field : Field) × (name ≡ field_name field) × (fields_with field text before.fields ≡ None)) ⊎
    ((name ≢ codes "payload") × ((field : Field) → name ≢ field_name field)))

-- a refusal leaves the request as it was; the reason, if it is not that memory ran out
abbrev pub Refuses : Type 0 → Request → Request → LineFault → Type 0
Refuses reason before after NotUnderstood = (after ≡ before) × reason
Refuses reason before after NoMemory = after ≡ before

abbrev pub AnswersPayload : List ℕ → Request → Request → Result (Unit {0}) LineFault → Type 0
AnswersPayload text before after (Ok u) = SetsPayload text before after
AnswersPayload text before after (Err fault) = Refuses (decoded text ≡ None) before after fault

abbrev pub AnswersField : Field → List ℕ → Request → Request → Result (Unit {0}) LineFault → Type 0
AnswersField field text before after (Ok u) = SetsField field text before after
AnswersField field text before after (Err fault) = Refuses (fields_with field text before.fields ≡ None) before after fault

abbrev pub AnswersSet : List ℕ → List ℕ → Request → Request → Result (Unit {0}) LineFault → Type 0
AnswersSet name text before after (Ok u) = Sets name text before after
AnswersSet name text before after (Err fault) = Refuses (Senseless name text before) before after fault

-- what a word does, and why one is not understood
abbrev pub AnswersWord : List ℕ → Request → Request → Result (Unit {0}) LineFault → Type 0
AnswersWord word before after (Ok u) = (name : List ℕ) × (text : List ℕ) × Splits word name text × Sets name text before after
AnswersWord word before after (Err fault) =
    Refuses (((i : ℕ) → i < length word → slice_index word i ≢ 61) ⊎ ((name : List ℕ) × (text : List ℕ) × Splits word name text × Senseless name text before)) before after fault
