use Rattle.brk_table.specs.Cover.{IsTabled}
use Rattle.brk_table.proofs.places.place_lines.Given as goal

abbrev pub invariant-loop-at : goal.invariant-loop-at
invariant-loop-at l = IsTabled l.module l.base l.lines l.at l.places.items l.entries
