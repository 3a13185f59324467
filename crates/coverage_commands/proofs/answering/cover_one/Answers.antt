use Rattle.std.proofs.Common.{sym}
use Rattle.coverage_commands.specs.Changes.{no_change}
use Rattle.coverage_commands.specs.Words.{without_threads}
use Rattle.coverage_commands.proofs.ServedLemmas.{served}
use Rattle.coverage_commands.proofs.answering.cover_one.Goals as goal

pub returns : goal.returns
returns g c a = rw (sym c.command_of.ensures.value) (served (without_threads c.command_of.result) _ (no_change a) _ _ (c.answer_one.ensures a))
