-- Digits written, and read back. Assumes nothing.
use Rattle.std.proofs.Common.{◌≡◌, ℕ, ◌+◌, ◌*◌, ◌/◌, ◌%◌, ◌<◌, false, eqb, List, [], ◌∷◌, length, refl, ap, ◌∙◌, arith}
use Rattle.std.specs.List.{AllByRecursion}
use Rattle.std.proofs.lemmas.Bool.Decides.{nat_tests}
use Rattle.text_link.specs.Texts.{digit, digits, digit_value, octets_in}

abbrev pub Octets : List ℕ → Type 0
Octets xs = AllByRecursion (λ x. x < 256) xs

-- no line feed among them
abbrev pub Clean : List ℕ → Type 0
Clean xs = AllByRecursion (λ x. eqb x 10 ≡ false) xs

pub length_digits : (xs : List ℕ) → length (digits xs) ≡ 2 * length xs
length_digits [] = refl
length_digits (x ∷ xs) = omega (arith, length_digits xs)

read_back : (n : ℕ) → n < 16 → digit_value (digit n) ≡ n
read_back n h = grind (arith, nat_tests)

pub octets_digits : (xs : List ℕ) → Octets xs → octets_in (digits xs) ≡ xs
octets_digits [] h = refl
octets_digits (x ∷ xs) h =
    let high = read_back (x / 16) (omega (arith, h.0)) in
    let low = read_back (x % 16) (omega arith) in
    let one : digit_value (digit (x / 16)) * 16 + digit_value (digit (x % 16)) ≡ x = omega (arith, high, low) in
    ap (λ (y : ℕ). y ∷ octets_in (digits xs)) one ∙ ap (λ (l : List ℕ). x ∷ l) (octets_digits xs h.1)

digit_clean : (n : ℕ) → eqb (digit n) 10 ≡ false
digit_clean n = grind (arith, nat_tests)

pub digits_clean : (xs : List ℕ) → Clean (digits xs)
digits_clean [] = tt
digits_clean (x ∷ xs) = (digit_clean (x / 16), (digit_clean (x % 16), digits_clean xs))
