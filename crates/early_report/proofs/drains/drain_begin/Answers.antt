use Rattle.std.proofs.Common.{◌≡◌, ℕ, true, List, ◌++◌, length, take, drop, map, All, sym, ◌∙◌, ap, subst, arith}
use Rattle.std.proofs.lemmas.List.{with_items_is}
use Rattle.cov_base.specs.declared.numbers.TaskNo.{TaskNo}
use Rattle.module_area.specs.Notes.{Notes, bearer}
use Rattle.module_area.specs.Rule.{has_task}
use Rattle.early_report.specs.DrainView.{DrainView}
use Rattle.early_report.specs.Meaning.{others}
use Rattle.early_report.specs.Drains.{IsDrainOf, Begins}
use Rattle.early_report.specs.declared.drains.Stage.TheVariants.{Begun}
use Rattle.early_report.proofs.TieLemmas.{tasks_of_plan, unused_tasks, begun_tied}
use Rattle.early_report.proofs.drains.drain_begin.Given as given
use Rattle.early_report.proofs.drains.drain_begin.Goals as goal

pub note_all-requires-clause-tasks : goal.note_all-requires-clause-tasks
note_all-requires-clause-tasks g c =
    let d : DrainView = c.args.drain.now in
    let n : Notes = g.C.Cells.notes c.args.pass.now in
    let same : c.deref_mut.result.now ≡ d.noted = c.deref_mut.ensures.value ∙ ap (λ (d : DrainView). d.noted) c.drain.view_is in
    rw c.requires.plan (subst (All (λ (e : TaskNo × ℕ). has_task c.args.plan.now.tasks e.0.0 ≡ true)) (sym same) (tasks_of_plan c.args.plan.now (bearer n) d.noted (unused_tasks c.args.plan.now n d c.requires.unused c.requires.closed)))

whole : (g : given.Over) (c : goal.After-drain-2-1 g) → take c.drain.inside.noted.len (c.note_all.new.entries ++ drop (length c.note_all.new.entries) c.drain.inside.noted.items) ≡ c.note_all.new.entries
whole g c = with_items_is c.drain.inside.noted c.note_all.new.entries (let e = c.note_all.auto.entries in let f = c.deref_mut.ensures.len in omega (arith, e, f))

begun : (g : given.Over) (c : goal.After-drain-2-1 g) → Begins (g.C.Cells.notes c.args.pass.now) (g.C.Cells.notes c.note_all.new.pass) (others c.args.plan.now.tasks (bearer (g.C.Cells.notes c.args.pass.now))) c.note_all.new.entries
begun g c =
    let d : DrainView = c.args.drain.now in
    let n : Notes = g.C.Cells.notes c.args.pass.now in
    let same : c.deref_mut.result.now ≡ d.noted = c.deref_mut.ensures.value ∙ ap (λ (d : DrainView). d.noted) c.drain.view_is in
    subst (λ (ts : List TaskNo). Begins n (g.C.Cells.notes c.note_all.new.pass) ts c.note_all.new.entries)
    (ap (map (λ (e : TaskNo × ℕ). e.0)) same ∙ unused_tasks c.args.plan.now n d c.requires.unused c.requires.closed) c.note_all.ensures.begins

pub returns-clause-begins : goal.returns-clause-begins
returns-clause-begins g c = subst (Begins (g.C.Cells.notes c.args.pass.now) (g.C.Cells.notes c.note_all.new.pass) (others c.args.plan.now.tasks (bearer (g.C.Cells.notes c.args.pass.now)))) (sym (whole g c)) (begun g c)

pub returns-clause-tied : goal.returns-clause-tied
returns-clause-tied g c =
    let new : Notes = g.C.Cells.notes c.note_all.new.pass in
    let d : DrainView = c.args.drain.now in
    subst (IsDrainOf c.args.plan.now new) (sym (λ i. record (c.drain.view_is i) { stage = Begun; noted = whole g c i }))
    (begun_tied c.args.plan.now (g.C.Cells.notes c.args.pass.now) new d c.note_all.new.entries c.requires.unused c.requires.closed (begun g c))
