use Rattle.std.proofs.Common.{◌≡◌, List, [], ◌∷◌, ◌++◌, false, ap, sym, ◌∙◌, subst}
use Rattle.names.specs.Lists.{added}
use Rattle.session_book.specs.Meaning.{TaskView}
use Rattle.job_text.specs.Meaning.{DraftView, has_task}
use Rattle.job_text.specs.DraftInside.{names_in, draft_view}
use Rattle.job_text.proofs.DraftNames.{with_task_named}
use Rattle.job_text.proofs.drafts.put_task.Goals as goal

pub invariant_of-job-2 : goal.invariant_of-job-2
invariant_of-job-2 c =
    let new : has_task (draft_view c.job.inside) c.args.task.name ≡ false = subst (λ (j : DraftView). has_task j c.args.task.name ≡ false) (sym c.job.view_is) c.requires.new in
    let task : TaskView = record c.args.task { phase = c.this_phase.result } in
    let items : c.put_named.new.items.items ≡ c.job.inside.tasks.items ++ task ∷ [] = c.in_ok-put_named.ensures.items ∙ ap (λ (t : TaskView). c.job.inside.tasks.items ++ record t { phase = c.this_phase.result } ∷ []) c.task.view_is in
    with_task_named c.job.inside c.job.invariant task new c.put_named.new.names (c.in_ok-put_named.ensures.names ∙ ap (λ (t : TaskView). added c.job.inside.names.tasks t.name) c.task.view_is) ∙ sym (ap (λ (ts : List TaskView). names_in (record (draft_view c.job.inside) { tasks = ts })) items)
