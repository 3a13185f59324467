use Rattle.brk_table.proofs.CodeLemmas.{AreFirst}
use Rattle.brk_table.proofs.codes.codes_of.Given as goal

abbrev pub invariant-loop-i : goal.invariant-loop-i
invariant-loop-i l = AreFirst l.images l.places l.codes.items l.i
