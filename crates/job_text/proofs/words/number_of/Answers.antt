use Rattle.std.proofs.Common.{arith, rules}
use Rattle.job_text.proofs.Numbers.{digits_fit}
use Rattle.job_text.proofs.words.number_of.Goals as goal

pub overflow_mul-n : goal.overflow_mul-n
overflow_mul-n c = omega (arith, digits_fit c.args.word.now c.loop-b.b-index c.loop-b.n (search rules) c.loop-b-test.true c.loop-b.invariant.bound)

pub overflow_add-n : goal.overflow_add-n
overflow_add-n c = omega (arith, digits_fit c.args.word.now c.loop-b.b-index c.loop-b.n (search rules) c.loop-b-test.true c.loop-b.invariant.bound)
