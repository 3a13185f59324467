use Rattle.std.proofs.Common.{subst}
use Rattle.cov_base.specs.Lists.{Differ}
use Rattle.session_book.specs.Meaning.{SessionView}
use Rattle.session_marks.proofs.OwnLemmas.{decided}
use Rattle.session_marks.proofs.from_file.file_sets.Goals as goal

pub returns-clause-decided : goal.returns-clause-decided
returns-clause-decided c =
    decided c.args.job.now c.args.tables.now c.args.s.0 c.args.file.now.modules (subst (λ (s : SessionView). Differ s.modules) c.session-card.ensures.value c.session-card.ensures.is.differ)
