-- The figures. Assumes nothing.
use Rattle.std.proofs.Common.{refl, lit<, lit≤}
use Rattle.times.specs.Lifetimes.{lifetime_of}
use Rattle.figures.proofs.Distances.{nine_and_nine, straight-north}
use Rattle.figures.proofs.Lifetimes.{best_by, best_one, best_brief, best_longest}
use Rattle.figures.specs.Figures.{Figures}

pub figures : Figures
unfolding lifetime_of
figures = record {
  lasting = refl;
  short = best_by 3149 248 (lit< tt) (lit≤ tt) refl;
  middle = best_by 4999 17 (lit< tt) (lit≤ tt) refl;
  minute = best_by 60000 241 (lit< tt) (lit≤ tt) refl;
  brief = best_brief;
  longest = best_longest;
  one = best_one;
  wrapped = refl;
  half = refl;
  first_progress = refl;
  full_progress = refl;
  nines = nine_and_nine;
  northward = straight-north;
  within = refl;
  beyond = refl;
}
