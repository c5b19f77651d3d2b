-- An entry joins at the end of the table, if there is room. Assumes nothing.
use Rattle.std.specs.Prelude.{Bool, cond, List, [], ◌∷◌, ◌++◌, Ok, Err, Result}
use Rattle.location_table.specs.declared.entry.Entry.{Entry}
use Rattle.location_table.specs.declared.table.entering.TableFull.{TableFull}

abbrev pub entered : Bool → Result (Unit {0}) TableFull
entered room = cond room (Ok tt) (Err (record {}))

abbrev pub entering : Bool → Entry → List Entry → List Entry
entering room e es = cond room (es ++ e ∷ []) es
