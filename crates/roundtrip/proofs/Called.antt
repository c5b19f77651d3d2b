-- The two ways, from what the reader and the writer promise. Assumes nothing.
use Rattle.std.specs.Prelude.{OnOk, IfOk, is_ok, if◌then◌else◌}
use Rattle.std.proofs.Common.{◌≡◌, ℕ, ◌+◌, List, length, take, Ok, Err, Result, sym, refl, ap, ◌∙◌, arith}
use Rattle.octets.proofs.Width.{part_placed}
use Rattle.octets.specs.Faults.{and_then}
use Rattle.octets.specs.Wire.{placed}
use Rattle.packets.specs.Contents.{Content, kind_in}
use Rattle.packets.specs.Kinds.{headers_of}
use Rattle.packets.specs.Reading.{reading}
use Rattle.packets.specs.Writing.{checked, writing, wire}
use Rattle.packets.specs.declared.fault.WriteFault.{WriteFault}
use Rattle.roundtrip.proofs.Here.{Octets}
use Rattle.roundtrip.proofs.Read.{read_written, wire_long}
use Rattle.roundtrip.proofs.Written.{written_read}
use Rattle.roundtrip.specs.Called.{Again}
use Rattle.packets.specs.Fitting.{Fits}
use Rattle.roundtrip.specs.Trips.{Back}

-- what was read is accepted by the writer
back : (o : List ℕ) (c : Content) → Octets o → Ok c ≡ reading o → Back o c
back o c u e = rw (sym e) at (written_read o u)

-- what the writer accepts it writes, with so many octets
count_of : (c : Content) → checked c ≡ Ok tt → writing c ≡ Ok (headers_of (kind_in c.header) + length c.payload)
count_of c ok = rw ok

-- a refusal is no answer
pub refused_or_not : {X E : Type 0} (f : E) (x : X) → Err f ≡ Ok x → ⊥
refused_or_not f x e = let z : ◌≡◌ {A = ℕ} 0 1 = cc in omega arith

pub same_answer : {X E : Type 0} (x y : X) → ◌≡◌ {A = Result X E} (Ok x) (Ok y) → x ≡ y
same_answer x y e = cc

-- what was read is written, whatever it is
pub always_written : (o : List ℕ) (c : Content) (r : Result ℕ WriteFault) → Octets o → Ok c ≡ reading o → r ≡ writing c → r ≡ Ok (headers_of (kind_in c.header) + length c.payload)
always_written o c r u e w = w ∙ count_of c (back o c u e).accepted

pub rewritten : (o before after : List ℕ) (c : Content) (n : ℕ) → Octets o → Ok c ≡ reading o → Ok n ≡ writing c → after ≡ placed 0 (wire c) before → Again o before after n
rewritten o before after c n u e w a =
    let b = back o c u e in
    let counted = same_answer _ _ (w ∙ count_of c b.accepted) in
    record { packet = c; read = sym e; count = counted ∙ sym b.count; long = counted ∙ sym (wire_long c); written = a; same = b.same }

-- an answer that came after a check: the check passed
check_passed : {E : Type 0} (r : Result (Unit {0}) E) (n m : ℕ) → Ok m ≡ and_then r (λ _. Ok n) → (r ≡ Ok tt) × (m ≡ n)
check_passed (Ok x) n m e = (refl, same_answer m n e)
check_passed (Err f) n m e = absurd (refused_or_not f m (sym e))

-- the front of the buffer is read as the packet that was written there
front_of : (c : Content) (n : ℕ) (before after : List ℕ) → Fits c.header → Ok n ≡ writing c → after ≡ placed 0 (wire c) before → reading (take n after) ≡ Ok c
front_of c n before after f w a =
    let p = check_passed (checked c) _ n w in
    let long : length (wire c) ≡ n = wire_long c ∙ sym p.1 in
    ap (λ o. reading (take n o)) a ∙ ap reading (part_placed 0 n (wire c) before (omega arith) long) ∙ read_written c f p.0

pub front_read : (c : Content) (r : Result ℕ WriteFault) (before after : List ℕ) → OnOk r (Fits c.header) → r ≡ writing c → after ≡ (if is_ok r then placed 0 (wire c) before else before) → IfOk r (λ n. reading (take n after) ≡ Ok c)
front_read c (Ok n) before after f w a = front_of c n before after f w a
front_read c (Err e) before after f w a = tt
