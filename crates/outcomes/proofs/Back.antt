-- The front of the buffer, after the packet was read and written. Assumes nothing.
use Rattle.std.proofs.Common.{◌≡◌, ℕ, Bool, false, List, take, drop, Err, Decides, sym, ap, ◌∙◌, subst, arith}
use Rattle.octets.proofs.Width.{part_placed}
use Rattle.packets.specs.Contents.{Content}
use Rattle.packets.specs.Reading.{reading}
use Rattle.packets.specs.Writing.{wire}
use Rattle.packets.specs.declared.fault.HeaderFault.{HeaderFault}
use Rattle.roundtrip.proofs.Called.{same_answer, refused_or_not}
use Rattle.roundtrip.specs.Called.{Again}
use Rattle.outcomes.specs.Outcomes.{SameFlag, WrittenBack}

-- a flag that compares the front of the buffer with the octets
pub written_back : (o before after front : List ℕ) (n : ℕ) (same : Bool) → Again o before after n → front ≡ take n (drop 0 after) → Decides same (front ≡ o) → WrittenBack o same
written_back o before after front n same a h d c e =
    let one : a.packet ≡ c = same_answer a.packet c (sym a.read ∙ e) in
    let all : front ≡ wire a.packet = h ∙ ap (λ x. take n (drop 0 x)) a.written ∙ part_placed 0 n (wire a.packet) before (omega arith) (sym a.long) in
    subst (λ (x : Content). SameFlag x o same) one
    (record { decides = ((λ t. sym all ∙ d.0 t), (λ p. d.1 (all ∙ p))); clear = λ clear. d.1 (all ∙ a.same clear) })

-- octets that were refused are no packet
pub not_read : (o : List ℕ) (f : HeaderFault) → reading o ≡ Err f → WrittenBack o false
not_read o f e c g = absurd (refused_or_not f c (sym e ∙ g))
