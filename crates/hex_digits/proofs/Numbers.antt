-- One more digit of a number. Assumes nothing.
use Rattle.std.proofs.Common.{◌≡◌, ℕ, ◌+◌, ◌*◌, ◌^◌, ◌<◌, ◌≤◌, List, length, get_or, drop, Some, None, Option, sym, ap, ◌∙◌, lt_of_lt_of_le, pow-suc, add-one, arith}
use native.Mathlib.Nat.{pow-le-pow_right}
use lib.Arith.{digits_lt}
use Rattle.std.proofs.lemmas.List.{drop_more, drop_all}
use Rattle.hex_digits.specs.Hex.{digit_of, onward, number_from}

number_step : (text : List ℕ) (i n : ℕ) (digit : Option ℕ) → i < length text → digit ≡ digit_of (get_or text i 0) → number_from (drop i text) n ≡ onward digit (λ d. number_from (drop (i + 1) text) (n * 16 + d))
unfolding number_from
number_step text i n digit h e = ap (λ t. number_from t n) (drop_more text i 0 h) ∙ ap (λ o. onward o (λ d. number_from (drop (i + 1) text) (n * 16 + d))) (sym e)

pub number_more : (text : List ℕ) (i n d : ℕ) → i < length text → Some d ≡ digit_of (get_or text i 0) → number_from (drop i text) n ≡ number_from (drop (i + 1) text) (n * 16 + d)
number_more text i n d h e = number_step text i n (Some d) h e

pub number_other : (text : List ℕ) (i n : ℕ) → i < length text → None ≡ digit_of (get_or text i 0) → number_from (drop i text) n ≡ None
number_other text i n h e = number_step text i n None h e

pub number_all : (text : List ℕ) (i n : ℕ) → length text ≤ i → number_from (drop i text) n ≡ Some n
unfolding number_from
number_all text i n h = ap (λ t. number_from t n) (drop_all i text h)

-- one digit more
pub one_more : (i n d : ℕ) → n < 16 ^ i → d < 16 → n * 16 + d < 16 ^ (i + 1)
one_more i n d h k = rw (add-one, pow-suc) (digits_lt h k)

-- more digits leave more room
pub wider : (i k n : ℕ) → n < 16 ^ i → i ≤ k → n < 16 ^ k
wider i k n h l = lt_of_lt_of_le h (pow-le-pow_right {n = 16} (omega arith) l)
