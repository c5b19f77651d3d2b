-- What the writer makes sure of before it writes. Assumes nothing.
use Rattle.std.proofs.Common.{◌≡◌, ℕ, ◌≤◌, Bool, true, false, cond, length, Ok, Err, Result, refl, arith}
use Rattle.std.proofs.lemmas.Bool.{ltb-false, not-false, and_parts, and_from, le-ltb}
use Rattle.fields.specs.Positions.{on_earth}
use Rattle.packets.specs.Common.{hop_limits_fit, lifetime_fits}
use Rattle.packets.specs.Contents.{Content, kind_in, common_in, source_in}
use Rattle.packets.specs.Kinds.{payload_limit}
use Rattle.packets.specs.Writing.{checked, target_fits}
use Rattle.packets.specs.declared.fault.WriteFault.TheVariants.{HopLimit, Lifetime, Position, Payload}

-- a check that passed, and what came after it
passed_check : {E : Type 0} (b : Bool) (e : E) (r : Result (Unit {0}) E) → cond b (Err e) r ≡ Ok tt → (b ≡ false) × (r ≡ Ok tt)
passed_check true e r h = let z : ◌≡◌ {A = ℕ} 0 1 = cc in absurd (omega arith)
passed_check false e r h = (refl, h)

-- all that the writer checks
pub record Accepted (c : Content) : Type 0 where
  pub hops : hop_limits_fit (kind_in c.header) (common_in c.header) ≡ true
  pub lives : lifetime_fits (common_in c.header) ≡ true
  pub source : on_earth (source_in c.header).short.position ≡ true
  pub target : target_fits c.header ≡ true
  pub payload : length c.payload ≤ payload_limit (kind_in c.header)

pub accepted : (c : Content) → checked c ≡ Ok tt → Accepted c
accepted c h =
    let one = passed_check _ HopLimit _ h in
    let two = passed_check _ Lifetime _ one.1 in
    let three = passed_check _ Position _ two.1 in
    let four = passed_check _ Payload (Ok tt) three.1 in
    let places = and_parts _ _ (not-false _ three.0) in
    record { hops = not-false _ one.0; lives = not-false _ two.0; source = places.0; target = places.1; payload = ltb-false _ _ four.0 }

pub accepts : (c : Content) → Accepted c → checked c ≡ Ok tt
accepts c a = rw (a.hops, a.lives, and_from _ _ a.source a.target, le-ltb (payload_limit (kind_in c.header)) (length c.payload) a.payload)
