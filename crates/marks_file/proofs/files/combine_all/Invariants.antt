use Rattle.std.proofs.Common.{◌-◌, length}
use Rattle.marks_file.proofs.FilesLemmas.{FilesSoFar}
use Rattle.marks_file.proofs.files.combine_all.Given as goal

abbrev pub invariant-loop-at : goal.invariant-loop-at
invariant-loop-at l = FilesSoFar l.bytes l.at l.all

abbrev pub decreases-loop-at : goal.decreases-loop-at
decreases-loop-at l = length l.bytes - l.at
