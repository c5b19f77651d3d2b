use Rattle.std.proofs.Common.{take, ap}
use native.Mathlib.Nat.{sub-zero}
use Rattle.std.proofs.lemmas.Slice.Eq.{slice_eq-Decides}
use Rattle.outcomes.proofs.Back.{written_back}
use Rattle.outcomes.proofs.examine.written_back.Goals as goal
use Rattle.std.proofs.lemmas.Bool.Decides.{Decides-eqb}

pub returns : goal.returns
returns c = written_back c.args.octets.now _ _ _ c.in-Ok.count c.eq.result c.in-Ok.ensures (ap (λ k. take k c.rewrite.new.buffer) (sub-zero c.in-Ok.count)) (slice_eq-Decides Decides-eqb _ _ _ c.eq.ensures)
