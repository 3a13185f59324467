use Rattle.std.proofs.Common.{◌≡◌, ap, sym, ◌∙◌}
use Rattle.session_book.specs.Meaning.{TaskView, task_of}
use Rattle.report_text.proofs.WriteLemmas.{progress_start, progress_more, progress_exit, progress_last}
use Rattle.report_text.proofs.tasks.task_text.Goals as goal

pub returns-in_err-state_part : goal.returns-in_err-state_part
returns-in_err-state_part g c =
    let task = c.card-task.ensures.value in
    let name : c.task.inside.name ≡ (task_of c.args.job.now c.args.t.0).name = ap (λ (t : TaskView). t.name) (c.task.view_is ∙ task) in
    progress_exit _ c.from_residual.ensures.0 (rw (name, c.ending.ensures, c.done.ensures, c.cpu.ensures) at c.in_err-state_part.ensures) progress_start

pub returns-in_err-output_part : goal.returns-in_err-output_part
returns-in_err-output_part g c =
    let task = c.card-task.ensures.value in
    let name : c.task.inside.name ≡ (task_of c.args.job.now c.args.t.0).name = ap (λ (t : TaskView). t.name) (c.task.view_is ∙ task) in
    let first = progress_more (rw (name, c.ending.ensures, c.done.ensures, c.cpu.ensures) at c.in_ok-state_part.ensures) progress_start in
    progress_exit _ c.from_residual-in_err-output_part.ensures.0 (rw c.output.ensures at c.in_err-output_part.ensures) first

pub storage_part-requires : goal.storage_part-requires
storage_part-requires g c =
    let task = c.card-task.ensures in
    record {
      exists = c.requires.result.exists;
      most = task.card.private;
      cards = task.card.cards;
      size = c.requires.result.size ∙ ap (λ (t : TaskView). t.private) (sym task.value);
    }

pub returns : goal.returns
returns g c =
    let task = c.card-task.ensures.value in
    let name : c.task.inside.name ≡ (task_of c.args.job.now c.args.t.0).name = ap (λ (t : TaskView). t.name) (c.task.view_is ∙ task) in
    let first = progress_more (rw (name, c.ending.ensures, c.done.ensures, c.cpu.ensures) at c.in_ok-state_part.ensures) progress_start in
    let second = progress_more (rw c.output.ensures at c.in_ok-output_part.ensures) first in
    progress_last (rw task at c.storage_part.ensures) second
