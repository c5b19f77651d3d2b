-- The number and the place of each refusal of a ground. Assumes nothing.
use Rattle.std.specs.Prelude.{ℕ, List, Some, Option, codes}
use Rattle.ground.specs.declared.fault.GroundFault.{GroundFault}
use Rattle.ground.specs.declared.fault.GroundFault.TheVariants.{ScaleTooLarge}

abbrev pub number : GroundFault → ℕ
number ScaleTooLarge = 14

abbrev pub place : GroundFault → ℕ
place f = 0

-- what it says
abbrev pub words : GroundFault → Option (List ℕ)
words ScaleTooLarge = Some (codes "the east scale is above 1113")
