use Rattle.std.proofs.Common.{sym, arith}
use Rattle.listing_reader.proofs.BufferLemmas.{begin_there, begin_past}
use Rattle.listing_reader.proofs.buffer.begin_of.Goals as goal

pub overflow_add-result : goal.overflow_add-result
overflow_add-result c = omega (arith, begin_there c.args.bytes.now c.args.starts.now c.args.begins.now c.args.i (omega arith), c.requires.inside c.args.i)

pub returns-then-i-begins : goal.returns-then-i-begins
returns-then-i-begins c = omega (arith, begin_there c.args.bytes.now c.args.starts.now c.args.begins.now c.args.i (omega arith))

pub returns-else-i-begins : goal.returns-else-i-begins
returns-else-i-begins c = sym (begin_past c.args.bytes.now c.args.starts.now c.args.begins.now c.args.i (omega arith))
