-- What holds of an answer that was made in steps. Assumes nothing.
use Rattle.std.proofs.Common.{◌≡◌, Bool, true, false, cond, IfOk, Ok, Err, Result, refl}
use Rattle.octets.specs.Faults.{and_then}
use Rattle.octets.specs.declared.fault.OctetFault.{OctetFault}
use Rattle.packets.specs.Faults.{passed}

-- one answer after another
pub made_then : {X Y E : Type 0} (r : Result X E) (f : X → Result Y E) (P : X → Type 0) (Q : Y → Type 0) → IfOk r P → ((x : X) → P x → IfOk (f x) Q) → IfOk (and_then r f) Q
made_then (Ok x) f P Q p k = k x p
made_then (Err e) f P Q p k = tt

-- an answer that was passed up
pub made_passed : {X : Type 0} (r : Result X OctetFault) (P : X → Type 0) → IfOk r P → IfOk (passed r) P
made_passed (Ok x) P p = p
made_passed (Err e) P p = tt

-- an answer behind a check
pub made_check : {X E : Type 0} (b : Bool) (e : E) (r : Result X E) (P : X → Type 0) → (b ≡ false → IfOk r P) → IfOk (cond b (Err e) r) P
made_check true e r P k = tt
made_check false e r P k = k refl
