-- How a text is cut into words. Assumes nothing.
use Rattle.std.proofs.Common.{◌≡◌, ℕ, suc, ◌+◌, ◌-◌, ◌<◌, ◌≤◌, ◌≢◌, Bool, true, false, cond, not, ltb, List, [], ◌∷◌, ◌++◌, length, take, drop, Some, None, Option, sym, refl, ap, ◌∙◌, arith, length-drop, length-take-le}
use Rattle.std.proofs.lemmas.Bool.{ltb-true, ltb-false}
use Rattle.std.proofs.lemmas.List.{append_assoc, append-nil, drop_all}
use Rattle.std.proofs.lemmas.List.Recursion.{is_position_or_len}
use Rattle.std.specs.List.{position, position_or_len}
use Rattle.std.specs.Option.{unwrap_or}
use Rattle.hex_digits.specs.Hex.{blank}
use Rattle.request.specs.Cuts.{ended, words_from, words_of}

-- how many octets stand before the first that passes a test
unfoldable pub front : (ℕ → Bool) → List ℕ → ℕ
front test [] = 0
front test (b ∷ text) = cond (test b) 0 (suc (front test text))

-- no space and no tab
abbrev pub dark : ℕ → Bool
dark b = not (blank b)

-- blanks before a word are passed over
skipped : (b : ℕ) (text : List ℕ) (x : Bool) → blank b ≡ x → words_from text [] ≡ words_from (drop (front dark text) text) [] → words_from (b ∷ text) [] ≡ words_from (drop (front dark (b ∷ text)) (b ∷ text)) []
unfolding words_from front
skipped b text true e h = rw e h
skipped b text false e h = rw e (rw e refl)

words_skip : (text : List ℕ) → words_from text [] ≡ words_from (drop (front dark text) text) []
unfolding front
words_skip [] = refl
words_skip (b ∷ text) = skipped b text (blank b) refl (words_skip text)

-- a word goes on up to the next blank
cutting : (b : ℕ) (text word : List ℕ) (x : Bool) → blank b ≡ x → words_from text (word ++ b ∷ []) ≡ ended ((word ++ b ∷ []) ++ take (front blank text) text) (words_from (drop (front blank text) text) []) → words_from (b ∷ text) word ≡ ended (word ++ take (front blank (b ∷ text)) (b ∷ text)) (words_from (drop (front blank (b ∷ text)) (b ∷ text)) [])
unfolding words_from front
cutting b text word true e h = rw e (rw e (ap (λ w. ended w (words_from text [])) (sym (append-nil word))))
cutting b text word false e h = rw e (h ∙ ap (λ w. ended w (words_from (drop (front blank text) text) [])) (append_assoc word (b ∷ []) (take (front blank text) text)))

words_cut : (text word : List ℕ) → words_from text word ≡ ended (word ++ take (front blank text) text) (words_from (drop (front blank text) text) [])
unfolding words_from front
words_cut [] word = ap (λ w. ended w []) (sym (append-nil word))
words_cut (b ∷ text) word = cutting b text word (blank b) refl (words_cut text (word ++ b ∷ []))

-- behind the blanks a word begins, unless the text ends
beginning : (b : ℕ) (text : List ℕ) (x : Bool) → blank b ≡ x → (front blank (drop (front dark text) text) ≡ 0 → drop (front dark text) text ≡ []) → front blank (drop (front dark (b ∷ text)) (b ∷ text)) ≡ 0 → drop (front dark (b ∷ text)) (b ∷ text) ≡ []
unfolding front
beginning b text true e h z = rw e (h (rw e at z))
beginning b text false e h z = let y : suc (front blank text) ≡ 0 = rw e at (rw e at z) in absurd (omega arith)

none_begins : (text : List ℕ) → front blank (drop (front dark text) text) ≡ 0 → drop (front dark text) text ≡ []
unfolding front
none_begins [] z = refl
none_begins (b ∷ text) z = beginning b text (blank b) refl (none_begins text) z

-- the first that passes a test, by the library's words
front_is : (test : ℕ → Bool) (text : List ℕ) → front test text ≡ position_or_len test text
unfolding front
front_is test text = is_position_or_len (front test) test refl (λ b text. let e : suc (front test text) ≡ 1 + front test text = omega arith in ap (λ n. cond (test b) 0 n) e) text

front_within : (test : ℕ → Bool) (text : List ℕ) → front test text ≤ length text
unfolding front
front_within test [] = omega arith
front_within test (b ∷ text) =
    let h = front_within test text in
    elim (test b) as (λ t. cond t 0 (suc (front test text)) ≤ suc (length text)) [ true ↦ omega arith | false ↦ omega arith ]

placed_at : (n len i : ℕ) (x : Bool) → ltb n len ≡ x → Some i ≡ cond x (Some n) None → (i ≡ n) × (n < len)
placed_at n len i true e h = (cc, ltb-true n len e)
placed_at n len i false e h = absurd (let z : Some i ≡ None = h in cc)

found : (test : ℕ → Bool) (text : List ℕ) (i : ℕ) → Some i ≡ position test text → (i ≡ front test text) × (i < length text)
found test text i h =
    let p = placed_at (position_or_len test text) (length text) i _ refl h in
    let e = front_is test text in
    (cc, omega arith)

not_placed : (n len : ℕ) (x : Bool) → ltb n len ≡ x → None ≡ cond x (Some n) None → len ≤ n
not_placed n len true e h = absurd (let z : None ≡ Some n = h in cc)
not_placed n len false e h = ltb-false n len e

missing : (test : ℕ → Bool) (text : List ℕ) → None ≡ position test text → front test text ≡ length text
missing test text h =
    let p = not_placed (position_or_len test text) (length text) _ refl h in
    let e = front_is test text in
    let w = front_within test text in
    omega arith

ended_at : (test : ℕ → Bool) (text : List ℕ) (end : Option ℕ) → end ≡ position test text → unwrap_or end (length text) ≡ front test text
ended_at test text None h = sym (missing test text h)
ended_at test text (Some i) h = (found test text i h).0

-- there is no word where no octet is dark
pub no_word : (text : List ℕ) → None ≡ position dark text → words_of text ≡ []
unfolding words_from
no_word text h =
    let all = missing dark text h in
    words_skip text ∙ ap words_of (drop_all (front dark text) text (omega arith))

ended_some : (word : List ℕ) (words : List (List ℕ)) → 0 < length word → ended word words ≡ word ∷ words
ended_some [] words h = absurd (omega arith)
ended_some (b ∷ word) words h = refl

some_octet : (text : List ℕ) → front dark text < length text → 0 < front blank (drop (front dark text) text)
some_octet text h =
    let more : front blank (drop (front dark text) text) ≢ 0 = λ z. let e = none_begins text z in omega (arith, ap length e, length-drop (front dark text) text) in
    omega arith

-- the first word, from its two ends, and that less of the text is left
pub first_word : (text begun word rest : List ℕ) (start : ℕ) (end : Option ℕ) → Some start ≡ position dark text → begun ≡ drop start text → end ≡ position blank begun → word ≡ take (unwrap_or end (length begun)) begun → rest ≡ drop (unwrap_or end (length begun)) begun → (words_of text ≡ word ∷ words_of rest) × (length rest < length text)
first_word text begun word rest start end s b e w r =
    let here = found dark text start s in
    let behind : begun ≡ drop (front dark text) text = b ∙ ap (λ k. drop k text) here.0 in
    let skip : words_of text ≡ words_of begun = words_skip text ∙ ap words_of (sym behind) in
    let count = ended_at blank begun end e in
    let cut : words_of begun ≡ ended word (words_of rest) = words_cut begun [] ∙ rw (w, r, count) refl in
    let long : length word ≡ front blank begun = ap length (w ∙ ap (λ n. take n begun) count) ∙ length-take-le _ _ (front_within blank begun) in
    let some : 0 < front blank begun = rw behind (some_octet text (omega arith)) in
    let left : length rest ≡ length begun - front blank begun = ap length (r ∙ ap (λ n. drop n begun) count) ∙ length-drop _ _ in
    (skip ∙ cut ∙ ended_some word (words_of rest) (omega arith), omega (arith, left, ap length behind, length-drop (front dark text) text, front_within blank begun))
