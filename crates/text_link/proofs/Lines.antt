-- A line more is a frame more. Assumes nothing.
use Rattle.std.proofs.Common.{◌≡◌, ℕ, eqb, List, [], ◌∷◌, ◌++◌, map, length, take, drop, sym, refl, ap, ◌∙◌, append_assoc, append-nil, arith, length-append, take_at, drop_at}
use Rattle.std.proofs.ByRecursion.{All-append}
use Rattle.std.proofs.lemmas.Bool.{cond-false}
use Rattle.link.specs.Frames.{Frame, frame}
use Rattle.text_link.specs.Texts.{digits, row_of, line_of, lines, octets_in, frame_in, rows, decoded}
use Rattle.text_link.proofs.Digits.{Octets, Clean, length_digits, octets_digits, digits_clean}

row_clean : (f : Frame) → Clean (row_of f)
row_clean f = All-append _ (digits f.to.octets) (44 ∷ digits f.packet) (digits_clean f.to.octets) (refl, digits_clean f.packet)

-- a row is read up to its line feed, and then the next begins
rows_row : (begun row rest : List ℕ) → Clean row → rows begun (row ++ 10 ∷ rest) ≡ (begun ++ row) ∷ rows [] rest
rows_row begun [] rest h = ap (λ (l : List ℕ). l ∷ rows [] rest) (sym (append-nil begun))
rows_row begun (x ∷ row) rest h = cond-false (eqb x 10) _ _ h.0 ∙ rows_row (begun ++ x ∷ []) row rest h.1 ∙ ap (λ (l : List ℕ). l ∷ rows [] rest) (append_assoc begun (x ∷ []) row)

decoded_line : (f : Frame) (rest : List ℕ) → decoded (line_of f ++ rest) ≡ frame_in (row_of f) ∷ decoded rest
decoded_line f rest = ap decoded (append_assoc (row_of f) (10 ∷ []) rest) ∙ ap (map frame_in) (rows_row [] (row_of f) rest (row_clean f))

-- a text of lines is read line by line, whatever comes behind
decoded-lines : (fs : List Frame) (rest : List ℕ) → decoded (lines fs ++ rest) ≡ decoded (lines fs) ++ decoded rest
decoded-lines [] rest = refl
decoded-lines (f ∷ fs) rest =
    ap decoded (append_assoc (line_of f) (lines fs) rest)
    ∙ decoded_line f (lines fs ++ rest)
    ∙ ap (λ (gs : List Frame). frame_in (row_of f) ∷ gs) (decoded-lines fs rest)
    ∙ ap (λ (gs : List Frame). gs ++ decoded rest) (sym (decoded_line f (lines fs)))

module _ (f : Frame) (six : length f.to.octets ≡ 6) (address : Octets f.to.octets) (packet : Octets f.packet) where
  -- a row says the frame that it was written for
  frame_row : frame_in (row_of f) ≡ f
  frame_row =
      let to = digits f.to.octets in
      let rest = digits f.packet in
      let twelve : length to ≡ 12 = omega (arith, length_digits f.to.octets) in
      let thirteen : length (to ++ 44 ∷ []) ≡ 13 = length-append to (44 ∷ []) ∙ omega arith in
      let front : octets_in (take 12 (row_of f)) ≡ f.to.octets = ap octets_in (take_at to (44 ∷ rest) 12 twelve) ∙ octets_digits f.to.octets address in
      let comma : row_of f ≡ (to ++ 44 ∷ []) ++ rest = sym (append_assoc to (44 ∷ []) rest) in
      let back : octets_in (drop 13 (row_of f)) ≡ f.packet = ap (λ (l : List ℕ). octets_in (drop 13 l)) comma ∙ ap octets_in (drop_at (to ++ 44 ∷ []) rest 13 thirteen) ∙ octets_digits f.packet packet in
      ap (λ (x : List ℕ). frame (record { octets = x }) (octets_in (drop 13 (row_of f)))) front ∙ ap (frame f.to) back

  decoded-one : decoded (line_of f) ≡ f ∷ []
  decoded-one = ap decoded (sym (append-nil (line_of f))) ∙ decoded_line f [] ∙ ap (λ (g : Frame). g ∷ []) frame_row

  pub decoded-push : (text : List ℕ) → lines (decoded text) ≡ text → decoded (text ++ line_of f) ≡ decoded text ++ f ∷ []
  decoded-push text exact =
      ap (λ (l : List ℕ). decoded (l ++ line_of f)) (sym exact)
      ∙ decoded-lines (decoded text) (line_of f)
      ∙ ap (λ (l : List ℕ). decoded l ++ decoded (line_of f)) exact
      ∙ ap (λ (gs : List Frame). decoded text ++ gs) decoded-one
