use Rattle.std.proofs.Common.{◌≡◌, ◌+◌, drop}
use Rattle.evidence_check.specs.Meaning.{facts_of_modules}
use Rattle.evidence_check.proofs.counting.facts_of_modules.Given as goal

abbrev pub invariant-loop-i : goal.invariant-loop-i
invariant-loop-i l = l.count + facts_of_modules (drop l.i l.modules) ≡ facts_of_modules l.modules
