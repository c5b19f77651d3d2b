-- The words of a line, one after another. Assumes nothing.
use Rattle.std.proofs.Common.{◌≡◌, ℕ, List, [], ◌∷◌, Ok, Err, Result, refl, subst, inl, inr}
use Rattle.request.specs.Answered.{OctetsAnswered, WordsAnswered}
use Rattle.request.specs.Requests.{Takes, Meaningless, Begins, Follows, Stops, Requested}
use Rattle.request.specs.Words.{AnswersSet}
use Rattle.request.specs.declared.asked.Request.{Request}
use Rattle.request.specs.declared.fault.LineFault.{LineFault}
use Rattle.request.specs.declared.fault.LineFault.TheVariants.{NotUnderstood, NoMemory}

-- a word that is taken
takes : (word : List ℕ) (before after : Request) → OctetsAnswered AnswersSet word before after (Ok tt) → Takes word before after
takes word before after (inl (_, n)) = absurd (let z : ◌≡◌ {A = Result (Unit {0}) LineFault} (Ok tt) (Err NotUnderstood) = n.refused in cc)
takes word before after (inr (inl (_, n))) = absurd (let z : ◌≡◌ {A = Result (Unit {0}) LineFault} (Ok tt) (Err NotUnderstood) = n.refused in cc)
takes word before after (inr (inr h)) = h

-- a word that is not understood
meaningless : (word : List ℕ) (before after : Request) → OctetsAnswered AnswersSet word before after (Err NotUnderstood) → Meaningless word before
meaningless word before after (inl (n, _)) = inl n
meaningless word before after (inr (inl (unsplit, _))) = inr (refl, inl unsplit)
meaningless word before after (inr (inr (name, text, s, h))) = inr (refl, inr (name, text, s, h.1))

follows : (words : List (List ℕ)) (before after : Request) (r : Result (Unit {0}) LineFault) → WordsAnswered AnswersSet words before after r → r ≡ Ok tt → Follows words before after
follows [] before after r h e = h.0
follows (word ∷ words) before after r (inl (fault, a, f)) e = absurd (let z : ◌≡◌ {A = Result (Unit {0}) LineFault} (Ok tt) (Err fault) = cc in cc)
follows (word ∷ words) before after r (inr (middle, a, k)) e = (middle, takes word before middle a, follows words middle after r k e)

stops : (words : List (List ℕ)) (before after : Request) (r : Result (Unit {0}) LineFault) → WordsAnswered AnswersSet words before after r → r ≡ Err NotUnderstood → Stops words before
stops [] before after r h e = absurd (let z : ◌≡◌ {A = Result (Unit {0}) LineFault} (Ok tt) (Err NotUnderstood) = cc in cc)
stops (word ∷ words) before after r (inl (fault, a, f)) e =
    let same : fault ≡ NotUnderstood = cc in
    inl (meaningless word before after (subst (λ (x : LineFault). OctetsAnswered AnswersSet word before after (Err x)) same a))
stops (word ∷ words) before after r (inr (middle, a, k)) e = inr (middle, takes word before middle a, stops words middle after r k e)

-- all words are taken
pub requested : (all words : List (List ℕ)) (word : List ℕ) (start last : Request) → all ≡ word ∷ words → Begins word start → WordsAnswered AnswersSet words start last (Ok tt) → Requested all (Ok last)
requested all words word start last e b h = rw e (start, b, follows words start last (Ok tt) h refl)

-- one of them is refused
pub refused : (all words : List (List ℕ)) (word : List ℕ) (start last : Request) (fault : LineFault) → all ≡ word ∷ words → Begins word start → WordsAnswered AnswersSet words start last (Err fault) → Requested all (Err fault)
refused all words word start last NotUnderstood e b h = rw e (inr (start, b, stops words start last (Err NotUnderstood) h refl))
refused all words word start last NoMemory e b h = rw e tt
