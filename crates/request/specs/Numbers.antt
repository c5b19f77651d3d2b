-- Numbers as they are written in a request. Assumes nothing.
use Rattle.std.specs.Prelude.{ℕ, ◌^◌, Bool, true, false, cond, ◌&&◌, List, length, ℤ, Some, None, Option, ◌==◌, nat_le, nat_lt}
use Rattle.std.specs.Int.Signed.{mag}
use Rattle.std.specs.Str.Parse.{digits_value, without_leading_plus, without_leading_sign, signed_digits_value}
use Rattle.std.specs.Str.{all_ascii_digits}

-- one value after another: the first that is missing is the answer
abbrev pub and_then : {X Y : Type 0} → Option X → (X → Option Y) → Option Y
and_then None f = None
and_then (Some x) f = f x

-- one decimal digit or more
abbrev pub is_numeral : List ℕ → Bool
is_numeral text = nat_le 1 (length text) && all_ascii_digits text

-- a decimal number of so many bits, with an optional plus
abbrev pub unsigned_in : ℕ → List ℕ → Option ℕ
unsigned_in bits text = cond (is_numeral (without_leading_plus text) && nat_lt (digits_value 10 (without_leading_plus text)) (2 ^ bits)) (Some (digits_value 10 (without_leading_plus text))) None

-- a decimal number of so many bits below its sign, with an optional plus or minus
abbrev pub signed_in : ℕ → List ℕ → Option ℤ
signed_in half text = cond (is_numeral (without_leading_sign text) && nat_lt (mag (signed_digits_value 10 text)) (2 ^ half)) (Some (signed_digits_value 10 text)) None

-- 0 or 1
abbrev pub flag_of : ℕ → Option Bool
flag_of n = cond (n == 0) (Some false) (cond (n == 1) (Some true) None)

abbrev pub flag_in : List ℕ → Option Bool
flag_in text = and_then (unsigned_in 8 text) flag_of
