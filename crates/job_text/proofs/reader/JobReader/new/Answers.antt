use Rattle.std.proofs.Common.{[], arith, refl}
use Rattle.job_text.proofs.Readings.{nothing_taken}
use Rattle.job_text.proofs.reader.JobReader.new.Goals as goal

pub invariant_of-result : goal.invariant_of-result
invariant_of-result c = record { bytes = []; fed = nothing_taken c.args.grammar _ refl c.new.ensures refl refl c.new-2.ensures.items; small = omega arith }

pub returns-clause-nothing : goal.returns-clause-nothing
returns-clause-nothing c = nothing_taken c.args.grammar _ refl c.new.ensures refl refl c.new-2.ensures.items
