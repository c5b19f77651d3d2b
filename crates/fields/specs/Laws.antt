-- The narrow fields there and back. Assumes nothing.
use Rattle.std.specs.Prelude.{◌≡◌, ℕ, ◌<◌, Bool, ℤ}
use Rattle.std.specs.Int.Signed.{mag}
use Rattle.fields.specs.Motions.{accurate_in, speed_in, motion_bits}
use Rattle.fields.specs.UpperProtocols.{upper_of, upper_number}
use Rattle.fields.specs.declared.upper_protocol.UpperProtocol.{UpperProtocol}

-- the bits of a flag and a speed say just these
abbrev pub MotionRead : Type 0
MotionRead = (accurate : Bool) (speed : ℤ) → mag speed < 16384 → (accurate_in (motion_bits accurate speed) ≡ accurate) × (speed_in (motion_bits accurate speed) ≡ speed)

-- the flag and the speed in sixteen bits have just these bits
abbrev pub MotionWritten : Type 0
MotionWritten = (bits : ℕ) → bits < 65536 → motion_bits (accurate_in bits) (speed_in bits) ≡ bits

abbrev pub UpperRead : Type 0
UpperRead = (u : UpperProtocol) → upper_of (upper_number u) ≡ u

abbrev pub UpperWritten : Type 0
UpperWritten = (n : ℕ) → n < 16 → upper_number (upper_of n) ≡ n
