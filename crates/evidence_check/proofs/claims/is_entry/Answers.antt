use Rattle.std.proofs.Common.{arith}
use Rattle.evidence_check.proofs.CheckLemmas.{short_entry}
use Rattle.evidence_check.proofs.claims.is_entry.Goals as goal

pub returns-then-bytes-at-lt7 : goal.returns-then-bytes-at-lt7
returns-then-bytes-at-lt7 c = short_entry c.args.bytes.now c.args.at c.args.first (omega arith)
