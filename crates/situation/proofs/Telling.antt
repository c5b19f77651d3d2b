-- The words of a line, one after another. Assumes nothing.
use Rattle.std.proofs.Common.{◌≡◌, ℕ, List, [], ◌∷◌, Some, None, Ok, Err, Result, IsUtf8, ◌⊎◌, sym, refl, ap, ◌∙◌, subst, inl, inr}
use Rattle.request.specs.Answered.{Splits, OctetsAnswered, WordsAnswered}
use Rattle.request.specs.declared.fault.LineFault.{LineFault}
use Rattle.request.specs.declared.fault.LineFault.TheVariants.{NotUnderstood, NoMemory}
use Rattle.situation.proofs.Cutting.{found, missing}
use Rattle.situation.specs.Described.{told_by, blank, taken, described, NoText, AnswersNamed, Describes}
use Rattle.situation.specs.Halves.{cut_at}
use Rattle.situation.specs.declared.told.Situation.{Situation}

-- a word that is split
split : (word name text : List ℕ) → Splits word name text → cut_at 61 word ≡ Some (name, text)
split word name text s = ap (cut_at 61) s.whole ∙ found 61 name text s.first

-- a word that is taken
taken_by : (word : List ℕ) (before after : Situation) → OctetsAnswered AnswersNamed word before after (Ok tt) → taken word (told_by before) ≡ Some (told_by after)
taken_by word before after (inl (_, n)) = absurd (let z : ◌≡◌ {A = Result (Unit {0}) LineFault} (Ok tt) (Err NotUnderstood) = n.refused in cc)
taken_by word before after (inr (inl (_, n))) = absurd (let z : ◌≡◌ {A = Result (Unit {0}) LineFault} (Ok tt) (Err NotUnderstood) = n.refused in cc)
taken_by word before after (inr (inr (name, text, s, h))) = rw (split word name text s) h

-- a word that is not understood is no text, or tells of nothing
untaken : (word : List ℕ) (before after : Situation) → OctetsAnswered AnswersNamed word before after (Err NotUnderstood) → (IsUtf8 word → ⊥) ⊎ (taken word (told_by before) ≡ None)
untaken word before after (inl (n, _)) = inl n
untaken word before after (inr (inl (unsplit, _))) = inr (rw (missing 61 word unsplit) refl)
untaken word before after (inr (inr (name, text, s, h))) = inr (rw (split word name text s) h.0)

told : (words : List (List ℕ)) (before after : Situation) (r : Result (Unit {0}) LineFault) → WordsAnswered AnswersNamed words before after r → r ≡ Ok tt → described words (told_by before) ≡ Some (told_by after)
told [] before after r h e = ap (λ s. Some (told_by s)) (sym h.0)
told (word ∷ words) before after r (inl (fault, a, f)) e = absurd (let z : ◌≡◌ {A = Result (Unit {0}) LineFault} (Ok tt) (Err fault) = cc in cc)
told (word ∷ words) before after r (inr (middle, a, k)) e =
    rw (taken_by word before middle a) (told words middle after r k e)

untold : (words : List (List ℕ)) (before after : Situation) (r : Result (Unit {0}) LineFault) → WordsAnswered AnswersNamed words before after r → r ≡ Err NotUnderstood → (described words (told_by before) ≡ None) ⊎ NoText words
untold [] before after r h e = absurd (let z : ◌≡◌ {A = Result (Unit {0}) LineFault} (Ok tt) (Err NotUnderstood) = cc in cc)
untold (word ∷ words) before after r (inl (fault, a, f)) e =
    let same : fault ≡ NotUnderstood = cc in
    elim (untaken word before after (subst (λ (x : LineFault). OctetsAnswered AnswersNamed word before after (Err x)) same a)) [
      | inl n ↦ inr (inl n)
      | inr none ↦ inl (rw none refl)
    ]
untold (word ∷ words) before after r (inr (middle, a, k)) e =
    elim (untold words middle after r k e) [
      | inl none ↦ inl (rw (taken_by word before middle a) none)
      | inr n ↦ inr (inr n)
    ]

-- all words are taken
pub describes : (words : List (List ℕ)) (start last : Situation) → told_by start ≡ blank → WordsAnswered AnswersNamed words start last (Ok tt) → Describes words (Ok last)
describes words start last b h = ap (described words) (sym b) ∙ told words start last (Ok tt) h refl

-- one of them is refused
pub refused : (words : List (List ℕ)) (start last : Situation) (fault : LineFault) → told_by start ≡ blank → WordsAnswered AnswersNamed words start last (Err fault) → Describes words (Err fault)
refused words start last NotUnderstood b h = subst (λ t. (described words t ≡ None) ⊎ NoText words) b (untold words start last (Err NotUnderstood) h refl)
refused words start last NoMemory b h = tt
