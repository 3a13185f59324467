use Rattle.std.proofs.Common.{◌≡◌, ◌++◌, List, length, take, drop, sym, ◌∙◌, ap, subst}
use Rattle.brk_table.proofs.Laws.{are_in}
use Rattle.job_run.proofs.Laws.{written, AreRun-start}
use Rattle.task_services.specs.Meaning.{course_of}
use Rattle.job_run.specs.Slots.{dones}
use Rattle.count_session.specs.Job.{IsCountedJob}
use Rattle.count_session.specs.Slots.{CountSlot}
use Rattle.count_session.proofs.JobLemmas.{counted_job}
use Rattle.count_session.proofs.job.count_job.Goals as goal

pub make_slots-requires : goal.make_slots-requires
make_slots-requires g c = are_in c.args.job.now.images c.args.tables.now c.requires.tables

pub count_phases-requires-clause-before : goal.count_phases-requires-clause-before
count_phases-requires-clause-before g c κs within = rw c.deref_mut.ensures.value record {
  tasks = AreRun-start (course_of c.args.job.now.services) c.args.job.now c.args.tables.now.places _ c.in_ok-slots.ensures.tasks;
  empty = c.in_ok-slots.ensures.empty;
}

pub returns : goal.returns
returns g c =
    let old : List CountSlot = c.in_ok-slots.slots.items in
    let new : List CountSlot = c.count_phases.new.slots in
    let whole : take c.in_ok-slots.slots.len (new ++ drop (length new) old) ≡ new =
    written old new c.in_ok-slots.slots.len (c.count_phases.auto.slots ∙ ap (λ (ss : List CountSlot). length ss) c.deref_mut.ensures.value) (sym c.in_ok-slots.slots.ok.0) in
    subst (λ (ss : List CountSlot). IsCountedJob c.args.job.now c.args.tables.now.places (dones ss) (record { job = c.args.job.now; places = c.args.tables.now.places; phases = c.in_ok-phases.phases.items })) (sym whole)
    (counted_job c.args.job.now c.args.tables.now.places new c.in_ok-phases.phases.items c.count_phases.ensures.job c.requires.whole c.in_ok-phases.ensures.counts c.in_ok-phases.ensures.through.tasks)
