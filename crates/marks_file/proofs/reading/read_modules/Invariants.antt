use Rattle.marks_file.proofs.ModuleLoop.{ModulesSoFar}
use Rattle.marks_file.proofs.reading.read_modules.Given as goal

abbrev pub invariant-loop-i : goal.invariant-loop-i
invariant-loop-i l = ModulesSoFar l.input l.from l.count l.at l._i l.before l.modules
