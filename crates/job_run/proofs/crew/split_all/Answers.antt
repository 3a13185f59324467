use Rattle.std.proofs.Common.{◌≡◌, ℕ, ◌<◌, ◌≤◌, true, false, Some, [], List, length, refl, sym, ◌∙◌, ap, subst, arith}
use Rattle.cov_base.specs.declared.numbers.TaskNo.{TaskNo}
use Rattle.job_run.specs.Crews.{PhaseView, Own, GetsPass, is_its}
use Rattle.job_run.specs.declared.slots.Slot.{Slot}
use Rattle.job_run.proofs.BeforeLemmas.{before_all, before_other}
use Rattle.job_run.proofs.EachLemmas.{Along-all, Along-one, Along-other, Along-start}
use Rattle.job_run.proofs.crew.split_all.Goals as goal
use Rattle.job_run.proofs.crew.split_all.Goals.{then-is_of, else-is_of}

pub is_of-requires : goal.is_of-requires
is_of-requires g c = omega (arith, c.loop-t-test.true, c.task_count-count.ensures.value)

pub split-pass-requires-clause-root : goal.split-pass-requires-clause-root
split-pass-requires-clause-root g c = c.loop-t.invariant.root

pub bounds-slots-t : goal.bounds-slots-t
bounds-slots-t g c = omega (arith, c.loop-t-test.true, c.task_count-count.ensures.value, c.requires.count, c.loop-t.invariant.passes.count)

pub loop-t-init : goal.loop-t-init
loop-t-init g c = record {
  root = c.requires.root;
  passes = Along-start (λ t x y. y ≡ x) (Own (g.C.Crew.phase c.args.crew.now) (GetsPass (g.C.Crew.IsFresh c.args.crew.now))) c.args.slots.now c.args.slots.now (record { count = refl; each = λ t d l. refl });
}

pub split-pass-requires-clause-task : goal.split-pass-requires-clause-task
split-pass-requires-clause-task g c = record {
  exists = omega (arith, c.loop-t-test.true, c.task_count-count.ensures.value, ap (λ (p : PhaseView). length p.job.tasks) c.requires.phase);
  its = ap (λ (p : PhaseView). is_its p c.loop-t.t) c.requires.phase ∙ (sym c.is_of.ensures ∙ c.if-is_of.true);
}

pub loop-t-preserved : goal.loop-t-preserved
loop-t-preserved g c =
    let t : ℕ = c.loop-t.t in
    let i = c.loop-t.invariant in
    let p : PhaseView = g.C.Crew.phase c.args.crew.now in
    let first : ℕ → Slot _ _ → Slot _ _ → Type 0 = λ t x y. y ≡ x in
    let second : ℕ → Slot _ _ → Slot _ _ → Type 0 = Own p (GetsPass (g.C.Crew.IsFresh c.args.crew.now)) in
    let here : t < length c.args.slots.now = omega (arith, c.loop-t-test.true, c.task_count-count.ensures.value, c.requires.count) in
    elim c.if-is_of.branch [
      | then-is_of w ↦
          let its : is_its p t ≡ true = ap (λ (q : PhaseView). is_its q t) c.requires.phase ∙ (sym c.is_of.ensures ∙ w.if-is_of.true) in
          record {
            root = rw (w.root-is) w.split-pass.ensures.root;
            passes = rw (w.slots-is) (Along-one first second t c.args.slots.now c.loop-t.slots w.give.new.slot w.index-slots-t.result (λ s. record s { pass = Some w.split-pass.result }) here w.give.ensures
                (λ d same. record {
                  its = λ e. record { pass = w.split-pass.result; is = ap (λ (s : Slot _ _). record s { pass = Some w.split-pass.result }) same; fresh = w.split-pass.ensures.fresh };
                  other = λ e. let never : true ≡ false = sym its ∙ e in absurd cc;
                }) i.passes);
          }
      | else-is_of w ↦
          let other : is_its p t ≡ false = ap (λ (q : PhaseView). is_its q t) c.requires.phase ∙ (sym c.is_of.ensures ∙ w.if-is_of.false) in
          let exists : t < length p.job.tasks = omega (arith, c.loop-t-test.true, c.task_count-count.ensures.value, ap (λ (q : PhaseView). length q.job.tasks) c.requires.phase) in
          record {
            root = rw (w.root-is) (subst (λ (ts : List TaskNo). g.C.Crew.IsRoot c.args.crew.now c.loop-t.root ts []) (sym (before_other p t exists other)) i.root);
            passes = rw (w.slots-is) (Along-other first second t c.args.slots.now c.loop-t.slots
                (λ d same. record { its = λ e. let never : true ≡ false = sym e ∙ other in absurd cc; other = λ e. same }) i.passes);
          }
    ]

pub returns-clause-root : goal.returns-clause-root
returns-clause-root g c =
    let p : PhaseView = g.C.Crew.phase c.args.crew.now in
    let all : length p.job.tasks ≤ c.loop-t.t = omega (arith, c.loop-t-test.false, c.task_count-count.ensures.value, ap (λ (q : PhaseView). length q.job.tasks) c.requires.phase) in
    subst (λ (ts : List TaskNo). g.C.Crew.IsRoot c.args.crew.now c.loop-t.root ts []) (before_all p c.loop-t.t all) c.loop-t.invariant.root

pub returns-clause-passes : goal.returns-clause-passes
returns-clause-passes g c =
    Along-all (λ t x y. y ≡ x) (Own (g.C.Crew.phase c.args.crew.now) (GetsPass (g.C.Crew.IsFresh c.args.crew.now))) c.loop-t.t c.args.slots.now c.loop-t.slots
    (omega (arith, c.loop-t-test.false, c.task_count-count.ensures.value, c.requires.count)) c.loop-t.invariant.passes
