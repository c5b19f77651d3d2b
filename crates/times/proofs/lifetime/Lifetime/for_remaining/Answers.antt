use Rattle.std.proofs.Common.{arith}
use Rattle.times.specs.Lifetimes.{lifetime_of}
use Rattle.times.proofs.lifetime.Lifetime.for_remaining.Goals as goal

pub loop-unit-init : goal.loop-unit-init
unfolding lifetime_of
loop-unit-init c = (omega arith, omega arith, omega arith, λ o l m w. absurd (omega arith))
