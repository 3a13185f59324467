use Rattle.marks_file.proofs.DifferenceLemmas.{ModulesPassed}
use Rattle.marks_file.proofs.difference.first_difference.Given as goal

abbrev pub invariant-loop-i : goal.invariant-loop-i
invariant-loop-i l = ModulesPassed l.a l.b l.i l.row
