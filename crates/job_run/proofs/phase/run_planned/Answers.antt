use Rattle.std.proofs.Common.{◌≡◌, ℕ, ◌+◌, true, false, not, ◌&&◌, List, IfOk, length, refl, sym, ap, subst, ◌∙◌, arith}
use Rattle.std.proofs.lemmas.Result.{IfOk-weaker}
use Rattle.cov_base.specs.Meaning.{Visit}
use Rattle.cov_base.specs.declared.numbers.TaskNo.{TaskNo}
use Rattle.module_area.specs.Notes.{Notes, calls}
use Rattle.module_area.specs.Meaning.{PlanView, set_at}
use Rattle.module_area.specs.Rule.{IsPlan, has_task}
use Rattle.module_area.specs.Planted.{planted_notes}
use Rattle.task_run.specs.Meaning.{Course, Walk}
use Rattle.job_run.specs.Areas.{GrowsBy}
use Rattle.job_run.specs.Bounds.{JoinsTasks}
use Rattle.job_run.specs.Crews.{all_tasks, phase_at}
use Rattle.job_run.specs.Passes.{JoinsAll, after_planting}
use Rattle.job_run.specs.Meaning.{phase_trace, walk_by}
use Rattle.job_run.specs.Slots.{HaveExtras, KeepsOthers, StandBefore}
use Rattle.job_run.proofs.AreaLemmas.{grows_if}
use Rattle.job_run.proofs.BackLemmas.{are_empty, by_sets, have_extras, have_run, others_same}
use Rattle.job_run.proofs.SlotLemmas.{all_visits, joins-start}
use Rattle.job_run.proofs.TaskLemmas.{KeepsOthers-trans}
use Rattle.job_run.proofs.phase.run_planned.Goals as goal

pub run_crew-requires-clause-ready : goal.run_crew-requires-clause-ready
run_crew-requires-clause-ready g c κs within = c.in_ok-equip_all.ensures.ready

pub run_crew-requires-clause-fit : goal.run_crew-requires-clause-fit
run_crew-requires-clause-fit g c κs within = record {
  cells = c.in_ok-cells.ensures.plan;
  is_plan = c.requires.is_plan;
  its = c.requires.its;
}

pub run_crew-requires-clause-root : goal.run_crew-requires-clause-root
run_crew-requires-clause-root g c κs within =
    joins-start (g.A.C.Cells.is_pass c.in_ok-cells.cells) g.A.C.Cells.notes c.args.plan.now (g.R.Runner.course c.args.runner.now) c.args.job.now c.args.tables.now.places c.plant_all.new.pass c.plant_all.ensures.area
    (c.plant_all.ensures.notes ∙ ap (λ (n : Notes). planted_notes c.args.plan.now n (length c.args.plan.now.windows)) c.in_ok-cells.ensures.root)
    (omega (arith, c.plant_all.ensures.calls, ap (λ (n : Notes). calls n) c.in_ok-cells.ensures.root))

pub finish-requires-clause-joined : goal.finish-requires-clause-joined
finish-requires-clause-joined g c t = c.run_crew.ensures.root.out t ∙ none_out (has_task (all_tasks (phase_at c.args.job.now c.args.phase)) t)
  where
    none_out : (b : _) → (b && not b) ≡ false
    none_out true = refl
    none_out false = refl

pub returns-clause-grown : goal.returns-clause-grown
returns-clause-grown g c =
    let is : IsPlan c.args.plan.now = c.requires.is_plan in
    let walks : ℕ → Walk = walk_by (g.R.Runner.course c.args.runner.now) c.args.job.now c.args.tables.now.places in
    let trace : List Visit = phase_trace (g.R.Runner.course c.args.runner.now) c.args.job.now c.args.tables.now.places c.args.phase in
    let root : Notes = g.A.C.Cells.notes c.run_crew.new.root in
    let observes = subst (λ (vs : List Visit). JoinsAll c.args.plan.now (after_planting c.args.plan.now) root vs) (all_visits (g.R.Runner.course c.args.runner.now) c.args.job.now c.args.tables.now.places c.args.phase) c.run_crew.ensures.root.observes in
    let joins = subst (λ (ts : List TaskNo). JoinsTasks c.args.plan.now walks ts (after_planting c.args.plan.now) root) (sym (ap (λ (p : PlanView). p.tasks) c.requires.its.plan)) c.run_crew.ensures.root.joins in
    let lists : IfOk c.finish.result (GrowsBy c.args.plan.now walks trace (g.A.Areas.ledger c.args.areas.now) (g.A.Areas.ledger c.finish.new.self) (g.A.Areas.finals c.args.areas.now) (g.A.Areas.finals c.finish.new.self)) = grows_if c.args.plan.now _ walks root trace c.finish.result _ _ (g.A.Areas.ledger c.finish.new.self) _ _ (g.A.Areas.finals c.finish.new.self) is
    c.in_ok-cells.ensures.plan observes joins c.finish.ensures.sets c.finish.ensures.tally c.finish.ensures.race
    (λ t. c.run_crew.ensures.root.given t ∙ ap (λ (ts : List TaskNo). has_task ts t) (sym (ap (λ (p : PlanView). p.tasks) c.requires.its.plan)))
    c.make.ensures.ledger c.make.ensures.finals c.finish.ensures.ledger c.finish.ensures.finals in
    IfOk-weaker c.finish.result _ _ (λ f l. record {
      lists = subst (λ (p : PlanView). GrowsBy p walks trace (g.A.Areas.ledger c.args.areas.now) (g.A.Areas.ledger c.finish.new.self) (g.A.Areas.finals c.args.areas.now) (g.A.Areas.finals c.finish.new.self) f) c.requires.its.plan l;
      made = c.finish.ensures.made ∙ c.make.ensures.made;
    }) lists

pub returns-clause-passed : goal.returns-clause-passed
returns-clause-passed g c =
    let run : Course = g.R.Runner.course c.args.runner.now in
    let before : StandBefore run c.args.job.now c.args.tables.now.places (c.args.phase + 1) c.run_crew.new.slots = record {
      tasks = have_run _ _ c.args.job.now c.args.phase c.equip_all.new.slots c.run_crew.new.slots c.run_crew.ensures.back run c.args.tables.now.places (λ t d e x p ends. ends.ended) c.in_ok-equip_all.ensures.tasks;
      empty = are_empty _ _ c.args.job.now c.args.phase c.equip_all.new.slots c.run_crew.new.slots c.run_crew.ensures.back c.in_ok-equip_all.ensures.ready.empty;
    } in
    let others : KeepsOthers c.args.job.now c.args.phase c.args.slots.now c.run_crew.new.slots =
    KeepsOthers-trans c.args.job.now c.args.phase c.args.slots.now c.equip_all.new.slots c.run_crew.new.slots c.in_ok-equip_all.ensures.others
    (others_same _ _ c.args.job.now c.args.phase c.equip_all.new.slots c.run_crew.new.slots c.run_crew.ensures.back) in
    IfOk-weaker c.finish.result (λ f. HaveExtras g.R.Runner.ends c.args.job.now c.args.tables.now.places c.args.phase (set_at f) c.run_crew.new.slots) _ (λ f x. record { before = before; extras = x; others = others })
    (by_sets c.args.plan.now _ (g.A.C.Cells.notes c.run_crew.new.root) (λ sets. HaveExtras g.R.Runner.ends c.args.job.now c.args.tables.now.places c.args.phase sets c.run_crew.new.slots) c.finish.result c.in_ok-cells.ensures.plan c.finish.ensures.settled
    (have_extras run g.R.Runner.begins g.R.Runner.ends g.A.C.Cells.notes (g.A.C.Cells.notes c.run_crew.new.root) c.args.plan.now c.args.job.now c.args.tables.now.places c.args.phase
    c.equip_all.new.slots c.run_crew.new.slots c.requires.its.plan c.in_ok-equip_all.ensures.ready c.run_crew.ensures.back))
