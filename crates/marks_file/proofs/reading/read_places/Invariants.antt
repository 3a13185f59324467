use Rattle.marks_file.proofs.LoopLemmas.{PlacesSoFar}
use Rattle.marks_file.proofs.reading.read_places.Given as goal

abbrev pub invariant-loop-i : goal.invariant-loop-i
invariant-loop-i l = PlacesSoFar l.input l.from l.size l.count l.at l.end l._i l.places.items
