-- Distances by a table of four places. Assumes nothing.
use Rattle.std.specs.Prelude.{ℕ, ◌+◌, ◌*◌, ◌%◌, min, List, slice_index, unsigned_abs}
use Rattle.fields.specs.declared.position.Position.{Position}

-- the place that a position is
abbrev pub place : Position → ℕ
place p = unsigned_abs p.latitude % 4

abbrev pub surveyed : List ℕ → Position → Position → ℕ
surveyed distances p q = min (slice_index distances (4 * place p + place q)) 999999999
