use Rattle.brk_table.specs.Decoded.{AreFirstDecoded}
use Rattle.brk_table.proofs.decoding.decoded.Given as goal

abbrev pub invariant-loop-i : goal.invariant-loop-i
invariant-loop-i l = AreFirstDecoded l.codes l.kept.items l.i
