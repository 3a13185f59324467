use Rattle.std.proofs.Common.{refl, arith}
use Rattle.s370_state.proofs.Digits.{no_row, pair_behind, rest_behind}
use Rattle.s370_state.proofs.packed.+put_digits.Goals as goal

pub returns-then-n-eq0-clause-digits : goal.returns-then-n-eq0-clause-digits
returns-then-n-eq0-clause-digits t c = no_row c.args.row.now c.args.n c.args.v (omega arith)

pub returns-clause-digits : goal.returns-clause-digits
returns-clause-digits t c = pair_behind c.args.row.now c.put_digits.new.row c.args.n c.args.v _ (omega arith) (omega arith) c.put_digits.ensures.digits c.put_digits.ensures.rest refl

pub returns-clause-rest : goal.returns-clause-rest
returns-clause-rest t c = rest_behind c.args.row.now c.put_digits.new.row c.args.n _ (omega arith) (omega arith) c.put_digits.ensures.rest
