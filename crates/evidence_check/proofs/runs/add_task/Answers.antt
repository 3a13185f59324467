use Rattle.std.proofs.Common.{[], ap, refl, ◌∙◌}
use Rattle.session_book.specs.Meaning.{TaskView}
use Rattle.task_services.proofs.Laws.{ran_of}
use Rattle.evidence_check.proofs.runs.add_task.Goals as goal

pub returns : goal.returns
returns c =
    let begun = c.in_ok-bench.ensures in
    let ran = ran_of [] c.args.job.now c.args.tables.now.places c.args.t c.run_alone.ensures.ran refl begun.memory begun.state
    (ap (λ (t : TaskView). t.budget) (c.card.view_is ∙ c.card-card.ensures.value)) in
    record { noted = ran.made }
