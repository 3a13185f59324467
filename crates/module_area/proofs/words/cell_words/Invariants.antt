use Rattle.std.proofs.Common.{◌≡◌, map, take}
use Rattle.module_area.specs.Words.{original_of, AllFit}
use Rattle.module_area.proofs.words.cell_words.Given as goal

abbrev pub invariant-loop-i : goal.invariant-loop-i
invariant-loop-i l = (l.words.items ≡ map original_of (take l.i l.plan.places)) × AllFit l.plan l.i
