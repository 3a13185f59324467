use Rattle.std.proofs.Common.{◌≡◌, ℕ, ◌≤◌, true, List, Some, None, length, drop, All, sym, ◌∙◌, ap, subst}
use Rattle.cov_base.specs.declared.numbers.TaskNo.{TaskNo}
use Rattle.module_area.specs.Notes.{Notes, bearer}
use Rattle.module_area.specs.Rule.{has_task}
use Rattle.early_report.specs.DrainView.{DrainView}
use Rattle.early_report.specs.Drains.{IsDrainOf, Polls, from_entry, polled}
use Rattle.early_report.proofs.TieLemmas.{tasks_of_plan, pending_tied, drained_tied}
use Rattle.early_report.proofs.drains.drain_poll.Goals as goal

pub first_standing-requires-clause-tasks : goal.first_standing-requires-clause-tasks
first_standing-requires-clause-tasks g c =
    let plan = g.C.Cells.plan c.args.cells.now in
    let d : DrainView = c.args.drain.now in
    let same : c.deref-2.result.now ≡ d.noted = c.deref-2.ensures.value ∙ ap (λ (d : DrainView). d.noted) c.drain.view_is in
    subst (All (λ (e : TaskNo × ℕ). has_task plan.tasks e.0.0 ≡ true)) (sym same) (tasks_of_plan plan (bearer (g.C.Cells.notes c.args.pass.now)) d.noted c.requires.tied.tasks)

pub returns-in-Some-clause-tied : goal.returns-in-Some-clause-tied
returns-in-Some-clause-tied g c =
    let plan = g.C.Cells.plan c.args.cells.now in
    let old : Notes = g.C.Cells.notes c.args.pass.now in
    let new : Notes = g.C.Cells.notes c.first_standing.new.pass in
    let d : DrainView = c.args.drain.now in
    let x : TaskNo × ℕ = (c.in-Some.task, c.in-Some.number) in
    let same : c.deref.result.now ≡ d.noted = c.deref.ensures.value ∙ ap (λ (d : DrainView). d.noted) c.drain.view_is in
    let same' : c.deref-2.result.now ≡ d.noted = c.deref-2.ensures.value ∙ ap (λ (d : DrainView). d.noted) c.drain.view_is in
    let within : c.start-from.result ≤ length d.noted = subst (λ (es : List (TaskNo × ℕ)). c.start-from.result ≤ length es) same c.start-from.ensures.within in
    let start : drop c.start-from.result d.noted ≡ from_entry d.last d.noted =
    ap (drop c.start-from.result) (sym same) ∙ c.start-from.ensures.from ∙ (λ i. from_entry (c.drain.view_is i).last (same i)) in
    let polls : Polls old new (drop c.start-from.result d.noted) (Some x) =
    subst (Polls old new (drop c.start-from.result d.noted)) c.in-Some.is (subst (λ (es : List (TaskNo × ℕ)). Polls old new (drop c.start-from.result es) c.first_standing.result) same' c.first_standing.ensures.polls) in
    subst (λ (d : DrainView). IsDrainOf plan new (polled d (Some x))) (sym c.drain.view_is) (pending_tied plan old new d c.requires.tied c.start-from.result within start x polls)

pub returns-in-None-clause-tied : goal.returns-in-None-clause-tied
returns-in-None-clause-tied g c =
    let plan = g.C.Cells.plan c.args.cells.now in
    let old : Notes = g.C.Cells.notes c.args.pass.now in
    let new : Notes = g.C.Cells.notes c.first_standing.new.pass in
    let d : DrainView = c.args.drain.now in
    let same : c.deref.result.now ≡ d.noted = c.deref.ensures.value ∙ ap (λ (d : DrainView). d.noted) c.drain.view_is in
    let same' : c.deref-2.result.now ≡ d.noted = c.deref-2.ensures.value ∙ ap (λ (d : DrainView). d.noted) c.drain.view_is in
    let within : c.start-from.result ≤ length d.noted = subst (λ (es : List (TaskNo × ℕ)). c.start-from.result ≤ length es) same c.start-from.ensures.within in
    let start : drop c.start-from.result d.noted ≡ from_entry d.last d.noted =
    ap (drop c.start-from.result) (sym same) ∙ c.start-from.ensures.from ∙ (λ i. from_entry (c.drain.view_is i).last (same i)) in
    let polls : Polls old new (drop c.start-from.result d.noted) None =
    subst (Polls old new (drop c.start-from.result d.noted)) c.in-None.is (subst (λ (es : List (TaskNo × ℕ)). Polls old new (drop c.start-from.result es) c.first_standing.result) same' c.first_standing.ensures.polls) in
    subst (λ (d : DrainView). IsDrainOf plan new (polled d None)) (sym c.drain.view_is) (drained_tied plan old new d c.requires.tied c.start-from.result within start polls)
