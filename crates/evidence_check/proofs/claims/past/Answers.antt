use Rattle.std.proofs.Common.{drop, rules, arith, sym, drop-drop}
use Rattle.evidence_check.proofs.CheckLemmas.{past_of, short_past}
use Rattle.evidence_check.proofs.claims.past.Goals as goal

pub returns-then-bytes-at-lt7-clause-rest : goal.returns-then-bytes-at-lt7-clause-rest
returns-then-bytes-at-lt7-clause-rest c =
    past_of c.args.has _ (drop c.args.at c.args.bytes.now) (search rules) (short_past c.args.bytes.now c.args.at (omega arith))

pub returns-clause-rest : goal.returns-clause-rest
returns-clause-rest c = past_of c.args.has _ (drop c.args.at c.args.bytes.now) (search rules) (sym (drop-drop 7 c.args.at c.args.bytes.now))
