use Rattle.std.proofs.Common.{sym}
use Rattle.coverage_commands.proofs.ServedLemmas.{served}
use Rattle.coverage_commands.proofs.answering.cover.Goals as goal

pub returns : goal.returns
returns g c = rw (sym c.command_of.ensures.value) (served c.command_of.result _ _ _ _ c.answer.ensures)
