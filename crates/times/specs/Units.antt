-- The numbers of the units: the low two bits of a lifetime octet. Assumes nothing.
use Rattle.std.specs.Prelude.{ℕ}
use Rattle.times.specs.declared.unit.Unit.{Unit}
use Rattle.times.specs.declared.unit.Unit.TheVariants.{FiftyMillis, Second, TenSeconds, HundredSeconds}

abbrev pub unit_number : Unit → ℕ
unit_number FiftyMillis = 0
unit_number Second = 1
unit_number TenSeconds = 2
unit_number HundredSeconds = 3
