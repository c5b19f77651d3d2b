-- What `parse` answers, as a function of the text. Assumes nothing.
use Rattle.std.proofs.Common.{◌≡◌, ℕ, ◌^◌, Bool, true, false, cond, ltb, leb, List, length, ℤ, Some, None, Ok, Err, Decides, Result, sym, refl, ap, ◌∙◌, SFits}
use lib.Signed.{mag}
use mir.Syntax.{Width}
use mir.Val.{hbits}
use Rattle.std.proofs.lemmas.Str.Parse.{IsNumeralModel, numerals_by_value, tells_all_ascii_digits}
use Rattle.std.proofs.lemmas.Bool.{leb-true, le-leb, cond-true}
use Rattle.std.proofs.lemmas.Bool.Decides.{Decides-and, Decides-ltb, Decides-like}
use Rattle.std.specs.Result.{OkIff, result_ok}
use Rattle.std.specs.Str.Parse.{IsNumeral, ParsesUnsigned, ParsesSigned, digits_value, without_leading_plus, without_leading_sign, signed_digits_value}
use Rattle.std.specs.Str.{all_ascii_digits}
use Rattle.request.specs.Numbers.{is_numeral, unsigned_in, signed_in}

-- a conversion, by a test for where it succeeds
converted : {T E : Type 0} (r : Result T E) (P : Type 0) (v : T) (test : Bool) → OkIff r P v → Decides test P → result_ok r ≡ cond test (Some v) None
converted (Ok x) P v test h d = ap Some h.1 ∙ sym (cond-true test (Some v) None (d.1 h.0))
converted (Err e) P v true h d = absurd (h (d.0 refl))
converted (Err e) P v false h d = refl

digits : IsNumeralModel (λ ds. all_ascii_digits ds ≡ true) (digits_value 10)
digits = numerals_by_value _ tells_all_ascii_digits

numeral : (ds : List ℕ) → Decides (is_numeral ds) (IsNumeral 10 ds)
numeral ds = Decides-and (leb 1 (length ds)) (all_ascii_digits ds) (leb-true 1 (length ds), le-leb 1 (length ds)) (digits.to ds, digits.from ds)

pub unsigned_read : {E : Type 0} (k : ℕ) (text : List ℕ) (r : Result ℕ E) → ParsesUnsigned k 10 text r → result_ok r ≡ unsigned_in k text
unsigned_read k text r h =
    let ds = without_leading_plus text in
    converted r _ (digits_value 10 ds) _ h (Decides-and (is_numeral ds) (ltb (digits_value 10 ds) (2 ^ k)) (numeral ds) (Decides-ltb (digits_value 10 ds) (2 ^ k)))

pub signed_read : {E : Type 0} (w : Width) (text : List ℕ) (r : Result ℤ E) → ParsesSigned w 10 text r → result_ok r ≡ signed_in (hbits w) text
signed_read w text r h =
    let ds = without_leading_sign text in
    let z = signed_digits_value 10 text in
    let fits : Decides (ltb (mag z) (2 ^ hbits w)) (SFits w z) =
    Decides-like (ltb (mag z) (2 ^ hbits w)) (λ f. record { sfits = f }) (λ f. f.sfits) (Decides-ltb (mag z) (2 ^ hbits w)) in
    converted r _ z _ h (Decides-and (is_numeral ds) (ltb (mag z) (2 ^ hbits w)) (numeral ds) fits)
