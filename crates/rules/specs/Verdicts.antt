-- The number of each verdict, and the link address of the frame that it names. Assumes nothing.
use Rattle.std.specs.Prelude.{ℕ}
use Rattle.link.specs.Addresses.{broadcast, nobody}
use Rattle.link.specs.declared.address.LinkAddress.{LinkAddress}
use Rattle.rules.specs.declared.verdict.Verdict.{Verdict}
use Rattle.rules.specs.declared.verdict.Verdict.TheVariants.{Done, Broadcast, Unicast, Wait, Hold, HopLimit, NoProgress, NoSpace, LineFull, Duplicate, Cancelled}

abbrev pub number : Verdict → ℕ
number Done = 0
number Broadcast = 1
number (Unicast to) = 2
number Wait = 3
number Hold = 4
number HopLimit = 5
number NoProgress = 6
number NoSpace = 7
number LineFull = 8
number Duplicate = 9
number Cancelled = 10

-- zeros if no frame went
abbrev pub addressed : Verdict → LinkAddress
addressed Done = nobody
addressed Broadcast = broadcast
addressed (Unicast to) = to
addressed Wait = nobody
addressed Hold = nobody
addressed HopLimit = nobody
addressed NoProgress = nobody
addressed NoSpace = nobody
addressed LineFull = nobody
addressed Duplicate = nobody
addressed Cancelled = nobody
