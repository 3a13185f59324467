use Rattle.marks_file.proofs.DifferenceLemmas.{PlacesPassed}
use Rattle.marks_file.proofs.difference.places_difference.Given as goal

abbrev pub invariant-loop-i : goal.invariant-loop-i
invariant-loop-i l = PlacesPassed l.row l.a l.b l.i
