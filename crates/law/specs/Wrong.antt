-- Histories that no lawful router has: the law is not met by pretending. Assumes nothing.
use Rattle.std.specs.Prelude.{◌≡◌, ℕ, ◌+◌, ◌<◌, ◌≤◌, true, List, [], ◌∷◌, ◌++◌, length, Some}
use Rattle.rules.specs.Known.{find}
use Rattle.rules.specs.Verdicts.{number}
use Rattle.law.specs.Fates.{takings, still_waiting}
use Rattle.law.specs.Laws.{Delivers, Lawful, Silence, names_frame, newly_between}
use Rattle.law.specs.Runs.{Ran}
use Rattle.law.specs.Words.{clock, heard, newly_by}
use Rattle.law.specs.World.{Frame, LinkAddress, Station, State, Around, Answer, Fault, Request, accepted, refused, receive, send, serve, Start, Event, History}

-- a serve that said this
abbrev pub served_with : ℕ → Around → List Frame → List Frame → Answer → Event
served_with t r before after a = record { time = t; call = serve; around = r; before = before; after = after; outcome = accepted a }

abbrev pub received_with : ℕ → Around → List Frame → List Frame → List ℕ → LinkAddress → Answer → Event
received_with t r before after o sender a = record { time = t; call = receive o sender; around = r; before = before; after = after; outcome = accepted a }

abbrev pub sent_with : ℕ → Around → List Frame → List Frame → Request → List ℕ → Answer → Event
sent_with t r before after q payload a = record { time = t; call = send q payload; around = r; before = before; after = after; outcome = accepted a }

pub record PretendersAreCaught : Type 0 where
  -- one that names a frame and never calls its link
  pub silent : (w : Start) (h : History) (s : State) (t : ℕ) (r : Around) (fs : List Frame) (o : List ℕ) (sender : LinkAddress) (a : Answer) → names_frame (number a.verdict) ≡ true
      → Lawful w (received_with t r fs fs o sender a ∷ h) s → ⊥
  pub silent_send : (w : Start) (h : History) (s : State) (t : ℕ) (r : Around) (fs : List Frame) (q : Request) (payload : List ℕ) (a : Answer) → names_frame (number a.verdict) ≡ true
      → Lawful w (sent_with t r fs fs q payload a ∷ h) s → ⊥
  pub silent_serve : (w : Start) (h : History) (s : State) (t : ℕ) (r : Around) (fs : List Frame) (a : Answer) → names_frame (number a.verdict) ≡ true
      → Lawful w (served_with t r fs fs a ∷ h) s → ⊥
  -- one that serves what it never took
  pub from_nothing : (w : Start) (h : History) (s : State) (t : ℕ) (r : Around) (fs gs : List Frame) (a : Answer) → names_frame (number a.verdict) ≡ true → takings w h ≡ []
      → Lawful w (served_with t r fs gs a ∷ h) s → ⊥
  -- one whose one packet left twice
  pub twice : (w : Start) (h : History) (s : State) (t u : ℕ) (r q : Around) (fs gs ks ls : List Frame) (a b : Answer) → names_frame (number a.verdict) ≡ true → names_frame (number b.verdict) ≡ true
      → length (takings w h) ≤ 1 → Lawful w (served_with u q ks ls b ∷ (served_with t r fs gs a ∷ h)) s → ⊥
  -- one that loses a packet: it waited before, nothing left and nothing was let go, and nobody waits
  pub forgets : (w : Start) (h : History) (s : State) (t : ℕ) (r : Around) (fs gs : List Frame) (a : Answer) → 1 ≤ still_waiting h
      → number a.verdict ≡ 0 → a.packets_gone ≡ 0 → a.waiting ≡ 0 → (before : State) → Lawful w h before → Lawful w (served_with t r fs gs a ∷ h) s → ⊥
  -- one that says that nobody waits while a packet stands in its line
  pub denies : (w : Start) (h : History) (s : State) (t : ℕ) (r : Around) (fs gs : List Frame) (a : Answer) → a.waiting ≡ 0 → 1 ≤ length s.line
      → Lawful w (served_with t r fs gs a ∷ h) s → ⊥
  -- one that calls the first packet a duplicate
  pub all_duplicates : (w : Start) (s : State) (t : ℕ) (r : Around) (fs gs : List Frame) (o : List ℕ) (sender : LinkAddress) (a : Answer) → number a.verdict ≡ 9
      → Lawful w (received_with t r fs gs o sender a ∷ []) s → ⊥
  -- one whose table keeps a station that was heard more than 20,000 ms before the last accepted call
  pub keeps_silent : (w : Start) (h : History) (s : State) (a : ℕ) (x : Station) → find a s.table ≡ Some x → x.heard + 20000 < clock w h → Lawful w h s → ⊥
  -- one that delivers a number again after at most seven others, and no silence
  pub again_too_soon : (w : Start) (s : State) (a n : ℕ) (later : History) (f : Event) (between : History) (e : Event) (old : History)
      → Delivers a n e → Delivers a n f → length (newly_between a between (e ∷ old)) ≤ 7
      → (Silence (newly_between a (f ∷ between) (e ∷ old) ++ newly_by a e (heard a old)) → ⊥)
      → Lawful w (later ++ (f ∷ (between ++ (e ∷ old)))) s → ⊥
  -- one that refuses a serve in time: it did not run by the rules
  pub refuses : (w : Start) (s : State) (t : ℕ) (r : Around) (fs gs : List Frame) (f : Fault) → t ≤ 281474976710655 → w.time ≤ t
      → Ran w (record { time = t; call = serve; around = r; before = fs; after = gs; outcome = refused f } ∷ []) s → ⊥
