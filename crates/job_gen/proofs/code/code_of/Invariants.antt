use Rattle.std.proofs.Common.{◌≡◌, ◌-◌, ◌*◌, ◌≤◌, ◌++◌}
use Rattle.job_gen.specs.Meaning.{code_from}
use Rattle.job_gen.proofs.code.code_of.Given as goal

abbrev pub invariant-loop-block : goal.invariant-loop-block
invariant-loop-block l = record {
  code : l.code.items ++ code_from (l.blocks - l._block) l.draws.state l.at ≡ code_from l.blocks l.state 0;
  at : l.at ≤ 8 * l._block;
}
