use Rattle.std.proofs.Common.{◌≡◌, ℕ, ◌+◌, ◌<◌, List, [], ◌∷◌, length, ap, ◌∙◌, subst, sym, arith, length-append}
use Rattle.module_area.specs.Meaning.{FinalsView}
use Rattle.job_run.specs.Slots.{HaveAllExtras}
use Rattle.job_run.specs.Tasks.{AreRun}
use Rattle.job_run.proofs.PhaseLemmas.{HasRunTo, HasRunTo-start, HasRunTo-next, HasRunTo-all}
use Rattle.job_run.proofs.TaskLemmas.{HaveAllExtras-start, HaveAllExtras-next}
use Rattle.job_run.proofs.phase.run_phases.Goals as goal

pub run_phase-requires-clause-before : goal.run_phase-requires-clause-before
run_phase-requires-clause-before g c κs within = c.loop-phase.invariant.before

pub run_phase-requires-clause-phase : goal.run_phase-requires-clause-phase
run_phase-requires-clause-phase g c κs within = omega (arith, c.loop-phase-test.true, c.phase_count-count.ensures.value)

pub loop-phase-preserved : goal.loop-phase-preserved
loop-phase-preserved g c =
    let phase : ℕ = c.loop-phase.phase in
    let here : phase < length c.args.job.now.phases = omega (arith, c.loop-phase-test.true, c.phase_count-count.ensures.value) in
    let next = HasRunTo-next (g.R.Runner.course c.args.runner.now) c.args.job.now c.args.tables.now.places phase c.loop-phase.finals.items c.in_ok-ended.ended _ (g.A.Areas.ledger c.loop-phase.areas) (g.A.Areas.ledger c.run_phase.new.areas)
    _ (g.A.Areas.finals c.loop-phase.areas) (g.A.Areas.finals c.run_phase.new.areas) here c.loop-phase.invariant.areas c.in_ok-ended.ensures.grown.lists in
    record {
      before = c.in_ok-ended.ensures.passed.before;
      extras = subst (λ (fs : List FinalsView). HaveAllExtras g.R.Runner.ends c.args.job.now c.args.tables.now.places (phase + 1) fs c.run_phase.new.slots) (sym c.in_ok-push.ensures.items)
          (HaveAllExtras-next g.R.Runner.ends c.args.job.now c.args.tables.now.places phase c.loop-phase.finals.items c.in_ok-ended.ended c.loop-phase.slots c.run_phase.new.slots c.loop-phase.invariant.count
          c.loop-phase.invariant.extras c.in_ok-ended.ensures.passed.others c.in_ok-ended.ensures.passed.extras);
      count = ap (λ (fs : List FinalsView). length fs) c.in_ok-push.ensures.items ∙ (length-append c.loop-phase.finals.items (c.in_ok-ended.ended ∷ []) ∙ ap (λ (n : ℕ). n + 1) c.loop-phase.invariant.count);
      made = omega (arith, c.in_ok-ended.ensures.grown.made, c.loop-phase.invariant.made);
      areas = subst (λ (fs : List FinalsView). HasRunTo (g.R.Runner.course c.args.runner.now) c.args.job.now c.args.tables.now.places (phase + 1) fs (g.A.Areas.ledger c.args.areas.now) (g.A.Areas.ledger c.run_phase.new.areas)
          (g.A.Areas.finals c.args.areas.now) (g.A.Areas.finals c.run_phase.new.areas)) (sym c.in_ok-push.ensures.items) next;
    }

pub returns-clause-left : goal.returns-clause-left
returns-clause-left g c =
    let all : length c.args.job.now.phases ≡ c.loop-phase.phase = omega (arith, c.loop-phase-test.false, c.loop-phase.auto.phase-end, c.phase_count-count.ensures.value) in
    HasRunTo-all (g.R.Runner.course c.args.runner.now) c.args.job.now c.args.tables.now.places c.loop-phase.phase c.loop-phase.finals.items _ _ all c.loop-phase.invariant.areas c.loop-phase.invariant.made

pub returns-clause-tasks : goal.returns-clause-tasks
returns-clause-tasks g c =
    let all : length c.args.job.now.phases ≡ c.loop-phase.phase = omega (arith, c.loop-phase-test.false, c.loop-phase.auto.phase-end, c.phase_count-count.ensures.value) in
    subst (λ (n : ℕ). AreRun (g.R.Runner.course c.args.runner.now) c.args.job.now c.args.tables.now.places n c.loop-phase.slots) (sym all) c.loop-phase.invariant.before.tasks

pub returns-clause-extras : goal.returns-clause-extras
returns-clause-extras g c =
    let all : length c.args.job.now.phases ≡ c.loop-phase.phase = omega (arith, c.loop-phase-test.false, c.loop-phase.auto.phase-end, c.phase_count-count.ensures.value) in
    subst (λ (n : ℕ). HaveAllExtras g.R.Runner.ends c.args.job.now c.args.tables.now.places n c.loop-phase.finals.items c.loop-phase.slots) (sym all) c.loop-phase.invariant.extras

pub loop-phase-init : goal.loop-phase-init
loop-phase-init g c = record {
  before = c.requires.before;
  extras = HaveAllExtras-start g.R.Runner.ends c.args.job.now c.args.tables.now.places c.in_ok-finals.finals.items c.args.slots.now;
  count = ap (λ (fs : List FinalsView). length fs) c.in_ok-finals.ensures.items;
  made = omega arith;
  areas = rw c.in_ok-finals.ensures.items (HasRunTo-start (g.R.Runner.course c.args.runner.now) c.args.job.now c.args.tables.now.places (g.A.Areas.ledger c.args.areas.now) (g.A.Areas.finals c.args.areas.now));
}
