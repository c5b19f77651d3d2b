-- The first row that fits, of an answer that was made in steps. Assumes nothing.
use Rattle.std.proofs.Common.{◌≡◌, ℕ, Bool, true, false, cond, ◌||◌, List, [], ◌∷◌, ◌++◌, Some, None, Ok, Err, Option, Result, sym, refl, ap, ◌∙◌}
use Rattle.octets.specs.Faults.{and_then, octet_number, octet_place}
use Rattle.octets.specs.declared.fault.OctetFault.{OctetFault}
use Rattle.octets.specs.declared.fault.OctetFault.TheVariants.{Missing}
use Rattle.packets.specs.Faults.{passed, header_number, header_place}
use Rattle.packets.specs.declared.fault.HeaderFault.{HeaderFault}
use Rattle.packets.specs.declared.fault.HeaderFault.TheVariants.{TooLong}
use Rattle.refusals.specs.Table.{Row, first_fitting, refusal_in}

-- the same of an answer of the octet layer
abbrev pub octet_refusal : {X : Type 0} → Result X OctetFault → Option (ℕ × ℕ)
octet_refusal (Ok x) = None
octet_refusal (Err f) = Some (octet_number f, octet_place f)

-- an answer that was passed up and then only wrapped
pub passed_up : {X Y : Type 0} (r : Result X OctetFault) (f : X → Y) → refusal_in (and_then (passed r) (λ x. Ok (f x))) ≡ octet_refusal r
passed_up (Ok x) f = refl
passed_up (Err e) f = refl

-- a check: its row, and then the rows of what follows
pub check_row : {X Y : Type 0} (b fits : Bool) (e : HeaderFault) (r : Result X HeaderFault) (f : X → Result Y HeaderFault) (rest : List Row) → fits ≡ b → (b ≡ false → refusal_in (and_then r f) ≡ first_fitting rest) → refusal_in (and_then (cond b (Err e) r) f) ≡ first_fitting (record { number = header_number e; place = header_place e; fits = fits } ∷ rest)
check_row true fits e r f rest s k = rw s
check_row false fits e r f rest s k = rw s (k refl)

-- the two checks of the number of octets are one row
pub size_row_lem : {X Y : Type 0} (a b : Bool) (r : Result X HeaderFault) (f : X → Result Y HeaderFault) (rest : List Row) → refusal_in (and_then r f) ≡ first_fitting rest → refusal_in (and_then (and_then (passed {X = Unit {0}} (cond a (Err (Missing 0)) (Ok tt))) (λ _. cond b (Err TooLong) r)) f) ≡ first_fitting (record { number = 2; place = 0; fits = a || b } ∷ rest)
size_row_lem true b r f rest k = refl
size_row_lem false true r f rest k = refl
size_row_lem false false r f rest k = k

-- the first of two, if there is one, else the second
abbrev pub or_else : Option (ℕ × ℕ) → Option (ℕ × ℕ) → Option (ℕ × ℕ)
or_else None s = s
or_else (Some p) s = Some p

or_cond : (b : Bool) (p : ℕ × ℕ) (q s : Option (ℕ × ℕ)) → cond b (Some p) (or_else q s) ≡ or_else (cond b (Some p) q) s
or_cond true p q s = refl
or_cond false p q s = refl

first_append : (rs ss : List Row) → first_fitting (rs ++ ss) ≡ or_else (first_fitting rs) (first_fitting ss)
first_append [] ss = refl
first_append (r ∷ rs) ss =
    ap (λ q. cond r.fits (Some (r.number, r.place)) q) (first_append rs ss) ∙ or_cond r.fits (r.number, r.place) (first_fitting rs) (first_fitting ss)

-- one answer after another: the rows of the one, and then those of the other
pub then_rows : {X Y : Type 0} (r : Result X OctetFault) (f : X → Result Y OctetFault) (rs ss : List Row) → octet_refusal r ≡ first_fitting rs → ((x : X) → octet_refusal (f x) ≡ first_fitting ss) → octet_refusal (and_then r f) ≡ first_fitting (rs ++ ss)
then_rows (Ok x) f rs ss e k = k x ∙ sym (first_append rs ss ∙ ap (λ q. or_else q (first_fitting ss)) (sym e))
then_rows (Err d) f rs ss e k = sym (first_append rs ss ∙ ap (λ q. or_else q (first_fitting ss)) (sym e))
