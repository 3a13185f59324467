use Rattle.std.proofs.Common.{◌≡◌, take}
use Rattle.brk_table.specs.Meaning.{all_places}
use Rattle.brk_table.proofs.tables.places_of.Given as goal

abbrev pub invariant-loop-table : goal.invariant-loop-table
invariant-loop-table l = l.places.items ≡ all_places (take l.table-index l.tables)
