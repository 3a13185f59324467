use Rattle.std.proofs.Common.{◌≡◌, ◌+◌, ◌*◌, ◌++◌, take}
use Rattle.arrayvec.specs.ArrayVec.{array_vec_len}
use Rattle.report_text.specs.Meaning.{hex_bytes}
use Rattle.report_text.proofs.words.add_bytes.Given as goal

abbrev pub invariant-loop-byte : goal.invariant-loop-byte
invariant-loop-byte l = record {
  text : l.line.items ≡ l.initial.line.items ++ hex_bytes (take l.byte-index l.bytes);
  room : array_vec_len l.line ≡ array_vec_len l.initial.line + 2 * l.byte-index;
}
