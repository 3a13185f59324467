use Rattle.std.proofs.Common.{sym, arith}
use Rattle.space_map.proofs.SpaceLemmas.{word_put}
use Rattle.space_map.proofs.bytes.put_bytes.Goals as goal

pub returns-clause-value : goal.returns-clause-value
returns-clause-value c = sym (word_put c.args.bytes.now c.args.a c.args.value (omega arith) (omega arith))
