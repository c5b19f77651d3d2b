-- How many octets a number is written as. Assumes nothing.
use Rattle.std.specs.Prelude.{◌≡◌, ℕ, zero, suc, ◌+◌, ◌/◌, ◌%◌, List, ◌++◌, length, refl}
use Rattle.std.proofs.Common.{◌∙◌, add-one, length-append}
use Rattle.std.proofs.lemmas.List.{length_push}
use Rattle.octets.specs.Wire.{octets_of}

pub length-octets_of : (w n : ℕ) → length (octets_of w n) ≡ w
unfolding octets_of
length-octets_of zero n = refl
length-octets_of (suc w) n = length_push (octets_of w (n / 256)) (n % 256) ∙ rw (length-octets_of w (n / 256)) (add-one w)

-- one value behind another has the octets of both
pub length-both : (a b : List ℕ) (v w : ℕ) → length a ≡ v → length b ≡ w → length (a ++ b) ≡ v + w
length-both a b v w e f = length-append a b ∙ rw (e, f) refl
