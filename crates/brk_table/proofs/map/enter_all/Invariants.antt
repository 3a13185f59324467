use Rattle.brk_table.specs.Map.{IsMap}
use Rattle.brk_table.proofs.map.enter_all.Given as goal

abbrev pub invariant-loop-i : goal.invariant-loop-i
invariant-loop-i l = IsMap l.pages l.entries.items l.places l.i
