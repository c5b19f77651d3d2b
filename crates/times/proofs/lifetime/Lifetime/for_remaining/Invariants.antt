use Rattle.std.proofs.Common.{ℕ, ◌%◌, ◌<◌, ◌≤◌}
use Rattle.times.specs.Lifetimes.{lifetime_of, NoWorse}
use Rattle.times.proofs.lifetime.Lifetime.for_remaining.Given as goal

-- the best octet of the units so far
abbrev pub invariant-loop-unit : goal.invariant-loop-unit
invariant-loop-unit l =
    (l.best.octet < 256) × (l.best.octet % 4 ≤ l.unit-index) × (lifetime_of l.best.octet ≤ l.remaining) ×
    ((o : ℕ) → o < 256 → o % 4 < l.unit-index → lifetime_of o ≤ l.remaining → NoWorse o l.best.octet)
