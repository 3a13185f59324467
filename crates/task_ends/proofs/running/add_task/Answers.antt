use Rattle.std.proofs.Common.{◌≡◌, [], ◌∷◌, ◌++◌, sym, ap, ◌∙◌}
use Rattle.session_book.specs.Meaning.{TaskView}
use Rattle.task_run.specs.declared.task.TaskEnd.{TaskEnd}
use Rattle.task_services.proofs.Laws.{ran_of}
use Rattle.task_ends.specs.Meaning.{end_of}
use Rattle.task_ends.proofs.running.add_task.Goals as goal

pub returns-clause-end : goal.returns-clause-end
returns-clause-end c =
    let job = c.args.job.now in
    let begun = c.in_ok-bench.ensures in
    let ran = ran_of job.services job c.args.tables.now.places c.args.t c.run_alone-ending.ensures.ran c.services.ensures begun.memory begun.state
    (ap (λ (t : TaskView). t.budget) (c.card.view_is ∙ c.card-card.ensures.value)) in
    let its : c.run_alone-ending.result ≡ end_of job c.args.tables.now.places c.args.t =
    λ i. record { ending = sym ran.ending i; done = sym ran.done i; at = sym ran.address i } in
    c.in_ok-push.ensures.items ∙ ap (λ (e : TaskEnd). c.args.ends.now.items ++ e ∷ []) its

pub returns-clause-counts : goal.returns-clause-counts
returns-clause-counts c =
    let job = c.args.job.now in
    let begun = c.in_ok-bench.ensures in
    let ran = ran_of job.services job c.args.tables.now.places c.args.t c.run_alone-ending.ensures.ran c.services.ensures begun.memory begun.state
    (ap (λ (t : TaskView). t.budget) (c.card.view_is ∙ c.card-card.ensures.value)) in
    rw c.images_of.ensures at ran.made
