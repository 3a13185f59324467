use Rattle.std.proofs.Common.{sym}
use Rattle.job_text.proofs.LineLemmas.{first_ends, first_open}
use Rattle.job_text.proofs.lines.first_line.Goals as goal

pub returns-in-Some-clause-line : goal.returns-in-Some-clause-line
returns-in-Some-clause-line c = first_ends c.args.text.now _ _ c.in-Some.at (sym c.in-Some.ensures) c.split_at.ensures.front c.split_at.ensures.back

pub returns-in-None-clause-line : goal.returns-in-None-clause-line
returns-in-None-clause-line c = first_open c.args.text.now c.requires (sym c.in-None.ensures)
