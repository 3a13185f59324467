use Rattle.std.proofs.Common.{arith}
use Rattle.s370_state.proofs.Digits.{no_row, zeros_stay, pair_byte, pair_behind, rest_behind}
use Rattle.s370_state.proofs.packed.+put_low.Goals as goal

pub returns-then-v-eq0-clause-digits : goal.returns-then-v-eq0-clause-digits
returns-then-v-eq0-clause-digits t c = zeros_stay c.args.row.now c.args.n c.args.v (omega arith) c.requires.zeros (omega arith)

pub returns-then-n-eq0-clause-digits : goal.returns-then-n-eq0-clause-digits
returns-then-n-eq0-clause-digits t c = no_row c.args.row.now c.args.n c.args.v (omega arith)

pub returns-clause-digits : goal.returns-clause-digits
returns-clause-digits t c = pair_behind c.args.row.now c.put_low.new.row c.args.n c.args.v _ (omega arith) (omega arith) c.put_low.ensures.digits c.put_low.ensures.rest (pair_byte c.args.v)

pub returns-clause-rest : goal.returns-clause-rest
returns-clause-rest t c = rest_behind c.args.row.now c.put_low.new.row c.args.n _ (omega arith) (omega arith) c.put_low.ensures.rest
