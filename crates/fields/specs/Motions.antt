-- The motion field: a flag above fifteen bits of speed. Assumes nothing.
use Rattle.std.specs.Prelude.{ℕ, ◌+◌, ◌%◌, Bool, cond, ℤ, Some, None, Option, nat_le, nat_lt}
use Rattle.std.specs.Int.Signed.{mag}
use Rattle.octets.specs.Wire.{signed, unsigned}
use Rattle.fields.specs.declared.motion.Motion.{Motion}

-- the flag in sixteen bits
abbrev pub accurate_in : ℕ → Bool
accurate_in bits = nat_le 32768 bits

-- the speed in sixteen bits
abbrev pub speed_in : ℕ → ℤ
speed_in bits = signed 14 (bits % 32768)

-- the sixteen bits of a flag and a speed
abbrev pub motion_bits : Bool → ℤ → ℕ
motion_bits accurate speed = cond accurate 32768 0 + unsigned 14 speed

-- the motion of a flag and a speed from -16,384 to 16,383: `mag` is n both for n and for -(n + 1)
abbrev pub motion_from : Bool → ℤ → Option Motion
motion_from accurate speed = cond (nat_lt (mag speed) 16384) (Some (record { bits = motion_bits accurate speed })) None
