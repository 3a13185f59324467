use Rattle.std.proofs.Common.{refl}
use Rattle.job_input.specs.declared.words.Command.TheVariants.{Combine}
use Rattle.coverage_commands.proofs.AnswerLemmas.{combined, unread}
use Rattle.coverage_commands.proofs.combine.answer_combine.Goals as goal

pub returns-in-Ok : goal.returns-in-Ok
returns-in-Ok g c a = combined _ c.in-Ok.input.items a _ _ c.in-Ok.ensures.bytes (rw c.deref.ensures.value at c.write_union.ensures)

pub returns-in-Err : goal.returns-in-Err
returns-in-Err g c a = unread Combine _ a _ _ c.in-Err.fault refl c.in-Err.ensures.fault (rw c.read_refusal.ensures at c.refuse.ensures)
