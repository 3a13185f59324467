use Rattle.std.proofs.Common.{◌≡◌, ◌++◌, drop}
use Rattle.job_gen.specs.Meaning.{code_bytes}
use Rattle.job_gen.proofs.listing.bytes_of.Given as goal

abbrev pub invariant-loop-instruction : goal.invariant-loop-instruction
invariant-loop-instruction l = l.bytes.items ++ code_bytes (drop l.instruction-index l.code) ≡ code_bytes l.code
