use Rattle.std.proofs.Common.{◌≡◌, ℕ, ◌+◌, ◌<◌, ◌≤◌, None, List, length, get_or, set, refl, sym, ◌∙◌, ap, subst, arith}
use Rattle.cov_base.specs.declared.numbers.TaskNo.{TaskNo}
use Rattle.job_run.specs.Crews.{PhaseView, HasGone, IsBack, Own, all_tasks}
use Rattle.job_run.proofs.BeforeLemmas.{before_all, before_other}
use Rattle.job_run.proofs.CrewLemmas.{all_gone, can_all, is_back, is_taken, not_its, others_none, stays_out, still_known}
use Rattle.job_run.proofs.EachLemmas.{Along, Along-all, Along-more, Along-one, Along-start}
use Rattle.job_run.proofs.TaskLemmas.{no_slot}
use Rattle.job_run.specs.declared.slots.Slot.{Slot}
use Rattle.job_run.proofs.crew.run_crew.Goals as goal
use Rattle.job_run.proofs.crew.run_crew.Goals.{in-Some, in_default}

pub split_all-requires-clause-count : goal.split_all-requires-clause-count
split_all-requires-clause-count g c κs within = c.requires.ready.count ∙ ap (λ (p : PhaseView). length p.job.tasks) c.requires.phase

pub run_those-requires-clause-count : goal.run_those-requires-clause-count
run_those-requires-clause-count g c κs within = c.split_all.ensures.passes.count ∙ (c.requires.ready.count ∙ ap (λ (p : PhaseView). length p.job.tasks) c.requires.phase)

pub run_those-requires-clause-number : goal.run_those-requires-clause-number
run_those-requires-clause-number g c κs within =
    omega (arith, c.split_all.ensures.job.tasks, c.split_all.ensures.passes.count, c.requires.ready.count, ap (λ (p : PhaseView). length p.job.tasks) c.requires.phase)

pub run_those-requires-clause-can : goal.run_those-requires-clause-can
run_those-requires-clause-can g c κs within =
    can_all (g.C.Crew.IsFresh c.args.crew.now) (g.C.Crew.HasRun c.args.crew.now) (g.C.Crew.CanRun c.args.crew.now) (g.C.Crew.Ends c.args.crew.now) (g.C.Crew.phase c.args.crew.now)
    c.args.slots.now c.split_all.new.slots c.requires.ready c.split_all.ensures.passes

pub run_those-requires-clause-others : goal.run_those-requires-clause-others
run_those-requires-clause-others g c κs within =
    others_none (g.C.Crew.IsFresh c.args.crew.now) (g.C.Crew.HasRun c.args.crew.now) (g.C.Crew.CanRun c.args.crew.now) (g.C.Crew.Ends c.args.crew.now) (g.C.Crew.phase c.args.crew.now)
    c.args.slots.now c.split_all.new.slots c.requires.ready c.split_all.ensures.passes

pub loop-t-init : goal.loop-t-init
loop-t-init g c =
    let p : PhaseView = g.C.Crew.phase c.args.crew.now in
    record {
      root = c.split_all.ensures.root;
      slots = Along-start (Own p (HasGone (g.C.Crew.HasRun c.args.crew.now) (g.C.Crew.Ends c.args.crew.now))) (Own p (IsBack (g.C.Crew.Ends c.args.crew.now) (g.C.Crew.Knows c.args.crew.now c.split_all.new.root))) c.args.slots.now c.run_those.new.slots
          (all_gone (g.C.Crew.IsFresh c.args.crew.now) (g.C.Crew.HasRun c.args.crew.now) (g.C.Crew.CanRun c.args.crew.now) (g.C.Crew.Ends c.args.crew.now) p
          c.args.slots.now c.split_all.new.slots c.run_those.new.slots c.requires.ready c.split_all.ensures.passes c.run_those.ensures);
    }

pub take_at-requires : goal.take_at-requires
take_at-requires g c =
    omega (arith, c.loop-t-test.true, c.task_count-count.ensures.value, c.loop-t.invariant.slots.count, c.requires.ready.count, ap (λ (p : PhaseView). length p.job.tasks) c.requires.phase)

pub join-requires-clause-root : goal.join-requires-clause-root
join-requires-clause-root g c = c.loop-t.invariant.root

pub join-requires-clause-task : goal.join-requires-clause-task
join-requires-clause-task g c = record {
  exists = omega (arith, c.loop-t-test.true, c.task_count-count.ensures.value, ap (λ (p : PhaseView). length p.job.tasks) c.requires.phase);
  its = (let here : c.loop-t.t < length c.args.slots.now = omega (arith, c.loop-t-test.true, c.task_count-count.ensures.value, c.requires.ready.count, ap (λ (p : PhaseView). length p.job.tasks) c.requires.phase) in
      (is_taken (g.C.Crew.IsFresh c.args.crew.now) (g.C.Crew.HasRun c.args.crew.now) (g.C.Crew.CanRun c.args.crew.now) (g.C.Crew.Ends c.args.crew.now) (g.C.Crew.phase c.args.crew.now)
      c.loop-t.t (get_or c.args.slots.now c.loop-t.t no_slot) (get_or c.loop-t.slots c.loop-t.t no_slot) c.in-Some.pass (c.requires.ready.empty c.loop-t.t no_slot here) (c.loop-t.invariant.slots.left c.loop-t.t no_slot (omega arith) here)
      (sym (c.take_at.ensures.pass no_slot) ∙ c.in-Some.is)).its);
}

pub join-requires-clause-run : goal.join-requires-clause-run
join-requires-clause-run g c =
    let here : c.loop-t.t < length c.args.slots.now = omega (arith, c.loop-t-test.true, c.task_count-count.ensures.value, c.requires.ready.count, ap (λ (p : PhaseView). length p.job.tasks) c.requires.phase) in
    (is_taken (g.C.Crew.IsFresh c.args.crew.now) (g.C.Crew.HasRun c.args.crew.now) (g.C.Crew.CanRun c.args.crew.now) (g.C.Crew.Ends c.args.crew.now) (g.C.Crew.phase c.args.crew.now)
    c.loop-t.t (get_or c.args.slots.now c.loop-t.t no_slot) (get_or c.loop-t.slots c.loop-t.t no_slot) c.in-Some.pass (c.requires.ready.empty c.loop-t.t no_slot here) (c.loop-t.invariant.slots.left c.loop-t.t no_slot (omega arith) here)
    (sym (c.take_at.ensures.pass no_slot) ∙ c.in-Some.is)).seen

pub loop-t-preserved : goal.loop-t-preserved
loop-t-preserved g c =
    let t : ℕ = c.loop-t.t in
    let i = c.loop-t.invariant in
    let p : PhaseView = g.C.Crew.phase c.args.crew.now in
    let exists : t < length p.job.tasks = omega (arith, c.loop-t-test.true, c.task_count-count.ensures.value, ap (λ (q : PhaseView). length q.job.tasks) c.requires.phase) in
    let here : t < length c.args.slots.now = omega (arith, exists, c.requires.ready.count) in
    let gone : ℕ → Slot _ _ → Slot _ _ → Type 0 = Own p (HasGone (g.C.Crew.HasRun c.args.crew.now) (g.C.Crew.Ends c.args.crew.now)) in
    let before : ℕ → Slot _ _ → Slot _ _ → Type 0 = Own p (IsBack (g.C.Crew.Ends c.args.crew.now) (g.C.Crew.Knows c.args.crew.now c.loop-t.root)) in
    let after : ℕ → Slot _ _ → Slot _ _ → Type 0 = Own p (IsBack (g.C.Crew.Ends c.args.crew.now) (g.C.Crew.Knows c.args.crew.now c.match-take_at.root)) in
    let without : Slot _ _ → Slot _ _ = λ s. record s { pass = None } in
    let e : Slot _ _ = without (get_or c.loop-t.slots t no_slot) in
    let rest : c.take_at.new.slots ≡ set c.loop-t.slots t e = c.take_at.ensures.rest no_slot in
    elim c.match-take_at.branch [
      | in-Some w ↦
          let known : (q : _) → g.C.Crew.Knows c.args.crew.now c.loop-t.root q → g.C.Crew.Knows c.args.crew.now c.match-take_at.root q = rw (w.root-is) w.join.ensures.still in
          let knows : g.C.Crew.Knows c.args.crew.now c.match-take_at.root w.in-Some.pass = rw (w.root-is) w.join.ensures.known in
          record {
            root = rw (w.root-is) w.join.ensures.root;
            slots = subst (λ (ss : List (Slot _ _)). Along gone after (t + 1) c.args.slots.now ss) (sym rest)
                (Along-one gone after t c.args.slots.now c.loop-t.slots e no_slot without here refl
                (λ d g1. is_back (g.C.Crew.IsFresh c.args.crew.now) (g.C.Crew.HasRun c.args.crew.now) (g.C.Crew.CanRun c.args.crew.now) (g.C.Crew.Ends c.args.crew.now) p (g.C.Crew.Knows c.args.crew.now c.match-take_at.root) t
                (get_or c.args.slots.now t d) (get_or c.loop-t.slots t d) w.in-Some.pass
                (is_taken (g.C.Crew.IsFresh c.args.crew.now) (g.C.Crew.HasRun c.args.crew.now) (g.C.Crew.CanRun c.args.crew.now) (g.C.Crew.Ends c.args.crew.now) p t (get_or c.args.slots.now t d) (get_or c.loop-t.slots t d) w.in-Some.pass
                (c.requires.ready.empty t d here) g1 (sym (c.take_at.ensures.pass d) ∙ w.in-Some.is)) knows)
                (Along-more gone before after t c.args.slots.now c.loop-t.slots
                (still_known (g.C.Crew.IsFresh c.args.crew.now) (g.C.Crew.HasRun c.args.crew.now) (g.C.Crew.CanRun c.args.crew.now) (g.C.Crew.Ends c.args.crew.now) p (g.C.Crew.Knows c.args.crew.now c.loop-t.root) (g.C.Crew.Knows c.args.crew.now c.match-take_at.root) known)
                i.slots));
          }
      | in_default w ↦
          let none : (get_or c.loop-t.slots t no_slot).pass ≡ None = sym (c.take_at.ensures.pass no_slot) ∙ w.in_default.is in
          let others = not_its (g.C.Crew.IsFresh c.args.crew.now) (g.C.Crew.HasRun c.args.crew.now) (g.C.Crew.CanRun c.args.crew.now) (g.C.Crew.Ends c.args.crew.now) p t (get_or c.args.slots.now t no_slot) (get_or c.loop-t.slots t no_slot)
          (i.slots.left t no_slot (omega arith) here) none in
          let known : (q : _) → g.C.Crew.Knows c.args.crew.now c.loop-t.root q → g.C.Crew.Knows c.args.crew.now c.match-take_at.root q = rw (w.root-is) (λ q k. k) in
          record {
            root = rw (w.root-is) (subst (λ (ts : List TaskNo). g.C.Crew.IsRoot c.args.crew.now c.loop-t.root (all_tasks p) ts) (sym (before_other p t exists others)) i.root);
            slots = subst (λ (ss : List (Slot _ _)). Along gone after (t + 1) c.args.slots.now ss) (sym rest)
                (Along-one gone after t c.args.slots.now c.loop-t.slots e no_slot without here refl
                (λ d g1. stays_out (g.C.Crew.IsFresh c.args.crew.now) (g.C.Crew.HasRun c.args.crew.now) (g.C.Crew.CanRun c.args.crew.now) (g.C.Crew.Ends c.args.crew.now) p (g.C.Crew.Knows c.args.crew.now c.match-take_at.root) t
                (get_or c.args.slots.now t d) (get_or c.loop-t.slots t d) g1 (sym (c.take_at.ensures.pass d) ∙ w.in_default.is))
                (Along-more gone before after t c.args.slots.now c.loop-t.slots
                (still_known (g.C.Crew.IsFresh c.args.crew.now) (g.C.Crew.HasRun c.args.crew.now) (g.C.Crew.CanRun c.args.crew.now) (g.C.Crew.Ends c.args.crew.now) p (g.C.Crew.Knows c.args.crew.now c.loop-t.root) (g.C.Crew.Knows c.args.crew.now c.match-take_at.root) known)
                i.slots));
          }
    ]

-- all tasks of the job are through
pub returns-clause-root : goal.returns-clause-root
returns-clause-root g c =
    let p : PhaseView = g.C.Crew.phase c.args.crew.now in
    let all : length p.job.tasks ≤ c.loop-t.t = omega (arith, c.loop-t-test.false, c.task_count-count.ensures.value, ap (λ (q : PhaseView). length q.job.tasks) c.requires.phase) in
    subst (λ (ts : List TaskNo). g.C.Crew.IsRoot c.args.crew.now c.loop-t.root (all_tasks p) ts) (before_all p c.loop-t.t all) c.loop-t.invariant.root

pub returns-clause-back : goal.returns-clause-back
returns-clause-back g c =
    let p : PhaseView = g.C.Crew.phase c.args.crew.now in
    Along-all (Own p (HasGone (g.C.Crew.HasRun c.args.crew.now) (g.C.Crew.Ends c.args.crew.now))) (Own p (IsBack (g.C.Crew.Ends c.args.crew.now) (g.C.Crew.Knows c.args.crew.now c.loop-t.root))) c.loop-t.t c.args.slots.now c.loop-t.slots
    (omega (arith, c.loop-t-test.false, c.task_count-count.ensures.value, c.requires.ready.count, ap (λ (q : PhaseView). length q.job.tasks) c.requires.phase)) c.loop-t.invariant.slots
