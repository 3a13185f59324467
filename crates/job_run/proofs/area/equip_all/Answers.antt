use Rattle.std.proofs.Common.{◌≡◌, ℕ, ◌<◌, true, false, length, get_or, refl, sym, ◌∙◌, ap, subst, arith}
use Rattle.std.proofs.lemmas.List.{get_or_default}
use Rattle.module_area.specs.Meaning.{first_control, PlanView}
use Rattle.job_run.specs.Crews.{Own, phase_at}
use Rattle.job_run.specs.Passes.{HasStart}
use Rattle.job_run.specs.Slots.{in_phase}
use Rattle.job_run.specs.Tasks.{HasNotRun}
use Rattle.job_run.specs.declared.slots.Slot.{Slot}
use Rattle.job_run.proofs.EachLemmas.{Along-one, Along-other, Along-start}
use Rattle.job_run.proofs.EquipLemmas.{IsEquippedSlot, all_ready, begun_in, others_kept, still_run}
use Rattle.job_run.proofs.SlotLemmas.{plan_here}
use Rattle.job_run.proofs.area.equip_all.Goals as goal
use Rattle.job_run.proofs.area.equip_all.Goals.{then-is_of+in_ok-control+in_ok-extra, else-is_of}

pub is_of-requires : goal.is_of-requires
is_of-requires g c = omega (arith, c.loop-t-test.true, c.task_count-count.ensures.value)

pub bounds-slots-t : goal.bounds-slots-t
bounds-slots-t g c = omega (arith, c.loop-t-test.true, c.task_count-count.ensures.value, c.requires.before.tasks.count, c.loop-t.invariant.count)

pub loop-t-init : goal.loop-t-init
loop-t-init g c =
    Along-start (λ t x y. y ≡ x) (Own (phase_at c.args.job.now c.args.phase) (IsEquippedSlot g.R.Runner.begins c.args.plan.now c.args.job.now c.args.tables.now.places)) c.args.slots.now c.args.slots.now
    (record { count = refl; each = λ t d l. refl })

pub loop-t-preserved : goal.loop-t-preserved
loop-t-preserved g c =
    let t : ℕ = c.loop-t.t in
    let i = c.loop-t.invariant in
    let first : ℕ → Slot _ _ → Slot _ _ → Type 0 = λ t x y. y ≡ x in
    let second : ℕ → Slot _ _ → Slot _ _ → Type 0 = Own (phase_at c.args.job.now c.args.phase) (IsEquippedSlot g.R.Runner.begins c.args.plan.now c.args.job.now c.args.tables.now.places) in
    let here : t < length c.args.slots.now = omega (arith, c.loop-t-test.true, c.task_count-count.ensures.value, c.requires.before.tasks.count) in
    let there : t < length c.loop-t.slots = omega (arith, here, i.count) in
    elim c.if-is_of.branch [
      | then-is_of+in_ok-control+in_ok-extra w ↦
          let of : in_phase c.args.job.now c.args.phase t ≡ true = sym c.is_of.ensures ∙ w.if-is_of.true in
          let none : Slot _ _ = w.index-slots-t.result in
          let as_before : get_or c.loop-t.slots t none ≡ get_or c.args.slots.now t none = i.left t none (omega arith) here in
          let was : HasNotRun c.args.job.now c.args.tables.now.places t (get_or c.loop-t.slots t none).done =
          subst (λ (s : Slot _ _). HasNotRun c.args.job.now c.args.tables.now.places t s.done) (sym as_before) (begun_in (g.R.Runner.course c.args.runner.now) c.args.job.now c.args.tables.now.places c.args.phase t c.args.slots.now none c.requires.before.tasks here of) in
          let start : HasStart g.R.Runner.begins c.args.plan.now c.args.job.now c.args.tables.now.places t w.equip.new.slot.done w.equip.new.slot.extra = record {
            task = record {
              begun = w.equip.ensures.begun c.args.job.now c.args.tables.now.places t was;
              control = w.equip.ensures.control ∙ (w.in_ok-control.ensures.value ∙ ap (λ (p : PlanView). first_control p t) (plan_here c.args.plan.now c.args.job.now c.args.tables.now.places c.args.phase t c.requires.plan of));
            };
            extra = w.in_ok-extra.extra;
            has = w.equip.ensures.extra;
            starts = w.in_ok-extra.ensures;
          } in
          rw (w.slots-is) (Along-one first second t c.args.slots.now c.loop-t.slots w.equip.new.slot none (λ s. w.equip.new.slot) here refl
          (λ d same. record {
            its = λ e. record { start = start; pass = w.equip.ensures.pass ∙ ap (λ (s : Slot _ _). s.pass) (get_or_default c.loop-t.slots t none d there ∙ same) };
            other = λ e. let never : true ≡ false = sym of ∙ e in absurd cc;
          }) i)
      | else-is_of w ↦
          let other : in_phase c.args.job.now c.args.phase t ≡ false = sym c.is_of.ensures ∙ w.if-is_of.false in
          rw (w.slots-is) (Along-other first second t c.args.slots.now c.loop-t.slots
          (λ d same. record { its = λ e. let never : true ≡ false = sym e ∙ other in absurd cc; other = λ e. same }) i)
    ]

pub returns-clause-tasks : goal.returns-clause-tasks
returns-clause-tasks g c =
    still_run (g.R.Runner.course c.args.runner.now) g.R.Runner.begins c.args.plan.now c.args.job.now c.args.tables.now.places c.args.phase c.args.slots.now c.loop-t.slots c.loop-t.t
    (omega (arith, c.loop-t-test.false, c.task_count-count.ensures.value, c.requires.before.tasks.count)) c.loop-t.invariant c.requires.before.tasks

pub returns-clause-ready : goal.returns-clause-ready
returns-clause-ready g c =
    all_ready (g.R.Runner.course c.args.runner.now) g.R.Runner.begins c.args.plan.now c.args.job.now c.args.tables.now.places c.args.phase c.args.slots.now c.loop-t.slots c.loop-t.t
    (omega (arith, c.loop-t-test.false, c.task_count-count.ensures.value, c.requires.before.tasks.count)) c.loop-t.invariant c.requires.before.tasks.count c.requires.before.empty

pub returns-clause-others : goal.returns-clause-others
returns-clause-others g c =
    others_kept (g.R.Runner.course c.args.runner.now) g.R.Runner.begins c.args.plan.now c.args.job.now c.args.tables.now.places c.args.phase c.args.slots.now c.loop-t.slots c.loop-t.t
    (omega (arith, c.loop-t-test.false, c.task_count-count.ensures.value, c.requires.before.tasks.count)) c.loop-t.invariant
