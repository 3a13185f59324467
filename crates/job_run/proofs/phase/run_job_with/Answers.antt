use Rattle.std.proofs.Common.{◌≡◌, ℕ, ◌++◌, All, IsSome, List, length, take, drop, sym, ◌∙◌, ap, subst}
use Rattle.brk_table.proofs.Laws.{are_in}
use Rattle.job_run.specs.Slots.{HasRoom, StandBefore, dones, extras_of}
use Rattle.job_run.specs.declared.slots.Slot.{Slot}
use Rattle.job_run.proofs.PhaseLemmas.{left_count, written}
use Rattle.job_run.proofs.SessionLemmas.{all_sized, are_extras, has_some, left_of, outcome}
use Rattle.job_run.proofs.TaskLemmas.{AreRun-start}
use Rattle.job_run.proofs.phase.run_job_with.Given as given
use Rattle.job_run.proofs.phase.run_job_with.Goals as goal
use Rattle.job_run.proofs.phase.run_job_with.Goals.{After-run_phases}

pub make_slots-requires : goal.make_slots-requires
make_slots-requires g c = are_in c.args.job.now.images c.args.tables.now c.requires.tables

pub run_phases-requires-clause-before : goal.run_phases-requires-clause-before
run_phases-requires-clause-before g c κs within = subst (λ (ss : List (Slot _ _)). StandBefore (g.R.Runner.course c.args.runner.now) c.args.job.now c.args.tables.now.places 0 ss) (sym c.deref_mut.ensures.value) record {
  tasks = AreRun-start (g.R.Runner.course c.args.runner.now) c.args.job.now c.args.tables.now.places c.in_ok-slots.slots.items c.in_ok-slots.ensures.tasks;
  empty = c.in_ok-slots.ensures.empty;
}

-- the slots behind the phases
whole : (g : given.Over) (c : After-run_phases g) →
    take c.in_ok-slots.slots.len (c.run_phases.new.slots ++ drop (length c.run_phases.new.slots) c.in_ok-slots.slots.items) ≡ c.run_phases.new.slots
whole g c =
    let old : List (Slot _ _) = c.in_ok-slots.slots.items in
    written old c.run_phases.new.slots c.in_ok-slots.slots.len (c.run_phases.auto.slots ∙ ap (λ (ss : List (Slot _ _)). length ss) c.deref_mut.ensures.value) (sym c.in_ok-slots.slots.ok.0)

pub outcome_of-requires-clause-room : goal.outcome_of-requires-clause-room
outcome_of-requires-clause-room g c =
    let count = ap (λ (ss : List (Slot _ _)). length ss) (whole g (goal.at.outcome_of-requires-clause-room g c).After-run_phases) ∙ c.in_ok-finals.ensures.tasks.count in
    subst (λ (n : ℕ). HasRoom n c.in_ok-room.room) (sym count) c.in_ok-room.ensures

pub outcome_of-requires-clause-some : goal.outcome_of-requires-clause-some
outcome_of-requires-clause-some g c =
    subst (λ (ss : List (Slot _ _)). All (λ s. IsSome s.extra) ss) (sym (whole g (goal.at.outcome_of-requires-clause-some g c).After-run_phases))
    (has_some (g.R.Runner.course c.args.runner.now) g.R.Runner.ends c.args.job.now c.args.tables.now.places c.in_ok-finals.finals.items c.run_phases.new.slots c.run_phases.ensures.job c.in_ok-finals.ensures.tasks c.in_ok-finals.ensures.extras)

pub outcome_of-requires-clause-count : goal.outcome_of-requires-clause-count
outcome_of-requires-clause-count g c = left_count (g.R.Runner.course c.args.runner.now) c.args.job.now c.args.tables.now.places _ _ c.in_ok-finals.finals.items c.in_ok-finals.ensures.left

pub outcome_of-requires-clause-sizes : goal.outcome_of-requires-clause-sizes
outcome_of-requires-clause-sizes g c = all_sized (g.R.Runner.course c.args.runner.now) c.args.job.now c.args.tables.now.places _ _ c.in_ok-finals.finals.items c.in_ok-finals.ensures.left

pub returns-clause-left : goal.returns-clause-left
returns-clause-left g c =
    left_of (g.R.Runner.course c.args.runner.now) c.args.job.now c.args.tables.now.places _ _ c.in_ok-finals.finals.items c.outcome_of.result.0.sets c.in_ok-finals.ensures.left c.outcome_of.ensures.sets

pub returns-clause-outcome : goal.returns-clause-outcome
returns-clause-outcome g c =
    outcome (g.R.Runner.course c.args.runner.now) c.args.job.now c.args.tables.now.places _ _ c.run_phases.new.slots c.outcome_of.result.0.tasks.items c.in_ok-finals.finals.items c.outcome_of.result.0.sets c.run_phases.ensures.job
    c.in_ok-finals.ensures.left c.in_ok-finals.ensures.tasks (c.outcome_of.ensures.tasks ∙ ap (λ (ss : List (Slot _ _)). dones ss) (whole g (goal.at.returns-clause-outcome g c).After-run_phases)) c.outcome_of.ensures.sets

pub returns-clause-extras : goal.returns-clause-extras
returns-clause-extras g c =
    let same = whole g (goal.at.returns-clause-extras g c).After-run_phases in
    are_extras (g.R.Runner.course c.args.runner.now) g.R.Runner.ends c.args.job.now c.args.tables.now.places c.run_phases.new.slots c.outcome_of.result.0.tasks.items c.outcome_of.result.1.items c.in_ok-finals.finals.items c.outcome_of.result.0.sets
    c.run_phases.ensures.job c.in_ok-finals.ensures.tasks c.in_ok-finals.ensures.extras (c.outcome_of.ensures.tasks ∙ ap (λ (ss : List (Slot _ _)). dones ss) same) (c.outcome_of.ensures.extras ∙ ap (λ (ss : List (Slot _ _)). extras_of ss) same) c.outcome_of.ensures.sets
