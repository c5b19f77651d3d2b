-- The faults of the octet layer, and the reads that can have one. Assumes nothing.
use Rattle.std.specs.Prelude.{ℕ, ◌+◌, cond, List, length, ℤ, Ok, Err, Result, nat_lt, unsigned_abs}
use Rattle.octets.specs.declared.fault.OctetFault.{OctetFault}
use Rattle.octets.specs.declared.fault.OctetFault.TheVariants.{Missing, OutOfRange}
use Rattle.octets.specs.Wire.{field_at, signed}

-- the number of a refusal
abbrev pub octet_number : OctetFault → ℕ
octet_number (Missing p) = 2
octet_number (OutOfRange p) = 9

-- the place of the field at fault
abbrev pub octet_place : OctetFault → ℕ
octet_place (Missing p) = p
octet_place (OutOfRange p) = p

-- one answer after another: the first refusal is the answer
abbrev pub and_then : {X Y E : Type 0} → Result X E → (X → Result Y E) → Result Y E
and_then (Ok x) f = f x
and_then (Err e) f = Err e

-- whether there are `width` octets from a place on
abbrev pub room_at : ℕ → ℕ → List ℕ → Result (Unit {0}) OctetFault
room_at width at octets = cond (nat_lt (length octets) (at + width)) (Err (Missing at)) (Ok tt)

-- the number in the `width` octets from a place on
abbrev pub read_at : ℕ → ℕ → List ℕ → Result ℕ OctetFault
read_at width at octets = and_then (room_at width at octets) (λ _. Ok (field_at width at octets))

-- the signed number in the four octets from a place on
abbrev pub signed_at : ℕ → List ℕ → Result ℤ OctetFault
signed_at at octets = and_then (read_at 4 at octets) (λ n. Ok (signed 31 n))

-- a signed number whose size is at most `limit`
abbrev pub coordinate_at : ℕ → ℕ → List ℕ → Result ℤ OctetFault
coordinate_at limit at octets = and_then (signed_at at octets) (λ z. cond (nat_lt limit (unsigned_abs z)) (Err (OutOfRange at)) (Ok z))
