use Rattle.std.proofs.Common.{◌≡◌, ◌+◌, ◌*◌, take}
use Rattle.arrayvec.specs.ArrayVec.{array_vec_len}
use Rattle.report_text.specs.Meaning.{register_line}
use Rattle.report_text.proofs.words.add_registers.Given as goal

abbrev pub invariant-loop-register : goal.invariant-loop-register
invariant-loop-register l = record {
  text : l.line.items ≡ register_line l.initial.line.items (take l.register-index l.regs);
  room : array_vec_len l.line ≡ array_vec_len l.initial.line + 9 * l.register-index;
}
