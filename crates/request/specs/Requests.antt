-- What a whole line asks for. Assumes nothing.
use Rattle.std.specs.Prelude.{◌≡◌, ℕ, ◌⊎◌, List, [], ◌∷◌, Ok, Err, vec_items, IsUtf8, Result, ◌≢◌}
use Rattle.packets.specs.declared.kind.Kind.{Kind}
use Rattle.packets.specs.Contents.{Content}
use Rattle.request.specs.Asked.{no_fields, packet_of}
use Rattle.packets.specs.Kinds.{kind_name}
use Rattle.request.specs.Words.{AnswersWord}
use Rattle.request.specs.declared.asked.Request.{Request}
use Rattle.request.specs.declared.fault.LineFault.{LineFault}
use Rattle.request.specs.declared.fault.LineFault.TheVariants.{NotUnderstood, NoMemory}

-- a word that is understood leads from one request to another
abbrev pub Takes : List ℕ → Request → Request → Type 0
Takes word before after = AnswersWord word before after (Ok tt)

-- the octets are no text, or no word that is understood
abbrev pub Meaningless : List ℕ → Request → Type 0
Meaningless word before = (IsUtf8 word → ⊥) ⊎ AnswersWord word before before (Err NotUnderstood)

-- nothing is asked for but a kind
pub record Begins (word : List ℕ) (start : Request) : Type 0 where
  pub kind : word ≡ kind_name start.kind
  pub fields : start.fields ≡ no_fields
  pub payload : vec_items start.payload ≡ []

-- no kind has this name
abbrev pub NoKind : List ℕ → Type 0
NoKind word = (IsUtf8 word → ⊥) ⊎ ((kind : Kind) → word ≢ kind_name kind)

abbrev pub AnswersKind : List ℕ → Result Request LineFault → Type 0
AnswersKind word (Ok start) = Begins word start
AnswersKind word (Err NotUnderstood) = NoKind word
AnswersKind word (Err NoMemory) = Unit {0}

-- the words, one after another, lead from a request to another
abbrev pub Follows : List (List ℕ) → Request → Request → Type 0
Follows [] before after = after ≡ before
Follows (word ∷ words) before after = (middle : Request) × Takes word before middle × Follows words middle after

-- the words lead to one that is not understood
abbrev pub Stops : List (List ℕ) → Request → Type 0
Stops [] before = ⊥
Stops (word ∷ words) before = Meaningless word before ⊎ ((middle : Request) × Takes word before middle × Stops words middle)

-- the words of a line: a kind, and then what is set, each in its turn; or one that is not understood
abbrev pub Requested : List (List ℕ) → Result Request LineFault → Type 0
Requested [] (Ok request) = ⊥
Requested (word ∷ words) (Ok request) = (start : Request) × Begins word start × Follows words start request
Requested [] (Err fault) = fault ≡ NotUnderstood
Requested (word ∷ words) (Err NotUnderstood) = NoKind word ⊎ ((start : Request) × Begins word start × Stops words start)
Requested (word ∷ words) (Err NoMemory) = Unit {0}

-- the packet that is asked for
abbrev pub packet_in : Request → Content
packet_in request = packet_of request.kind request.fields (vec_items request.payload)
