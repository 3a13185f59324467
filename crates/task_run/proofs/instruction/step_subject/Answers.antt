use Rattle.std.proofs.Common.{◌≡◌, true, false, None, [], ◌∷◌, refl}
use Rattle.s370_decode.specs.Meaning.{first_half, op_of}
use Rattle.s370_branch.specs.Meaning.{goes}
use Rattle.s370_exec.specs.Meaning.{subject_call, subject_step, ended, stepped, visit}
use Rattle.s370_exec.specs.Effects.{effect_of}
use Rattle.s370_exec.proofs.Laws.{subject_call-refused, subject_call-unread, subject_step-refused, subject_step-unread, subject_step-begun}
use Rattle.task_run.specs.Called.{call_at}
use Rattle.task_run.specs.Steps.{memory_at, stands}
use Rattle.task_run.proofs.CallLemmas.{subject_call-begun}
use Rattle.task_run.proofs.instruction.step_subject.Given as given
use Rattle.task_run.proofs.instruction.step_subject.Goals as goal

refused : (g : given.Over) (c : goal.In-Err g) →
    subject_step (memory_at c.args.bench.now) (stands c.args.bench.now c.args.done) c.args.ex.now ≡ ended (stands c.args.bench.now c.args.done) c.in-Err.e []
refused g c = subject_step-refused _ (stands c.args.bench.now c.args.done) c.args.ex.now c.subject_address-at.result c.in-Err.e c.subject_address-at.ensures c.in-Err.ensures.refused

called_refused : (g : given.Over) (c : goal.In-Err g) → subject_call (memory_at c.args.bench.now) (stands c.args.bench.now c.args.done) c.args.ex.now ≡ None
called_refused g c = subject_call-refused _ (stands c.args.bench.now c.args.done) c.args.ex.now c.subject_address-at.result c.in-Err.e c.subject_address-at.ensures c.in-Err.ensures.refused

pub returns-in-Err-clause-steps : goal.returns-in-Err-clause-steps
returns-in-Err-clause-steps g c = record {
  memory = refl;
  does = rw (refused g c, called_refused g c) (record {
    state = refl;
    next = refl;
    mid = c.args.pass.now;
    made = g.met.O.Observer.none c.args.observer.now c.args.tables.now c.args.pass.now;
    answered = g.met.O.Observer.no_call c.args.observer.now c.args.pass.now c.args.bench.now.control;
  });
}

unread : (g : given.Over) (c : goal.After-refused g) →
    let s = stands c.args.bench.now c.args.done in
    subject_step (memory_at c.args.bench.now) s c.args.ex.now ≡ ended s c.in-Err-fetch_subject.e (visit s c.subject_address-at.result false false true ∷ [])
unread g c =
    subject_step-unread _ (stands c.args.bench.now c.args.done) c.args.ex.now c.subject_address-at.result c.in-Ok.first.1 c.in-Err-fetch_subject.e
    c.subject_address-at.ensures c.in-Ok.ensures.passed c.in-Ok.ensures.half c.in-Err-fetch_subject.ensures.refused

called_unread : (g : given.Over) (c : goal.After-refused g) → subject_call (memory_at c.args.bench.now) (stands c.args.bench.now c.args.done) c.args.ex.now ≡ None
called_unread g c =
    subject_call-unread _ (stands c.args.bench.now c.args.done) c.args.ex.now c.subject_address-at.result c.in-Ok.first.1 c.in-Err-fetch_subject.e
    c.subject_address-at.ensures c.in-Ok.ensures.passed c.in-Ok.ensures.half c.in-Err-fetch_subject.ensures.refused

pub returns-in-Err-fetch_subject-clause-steps : goal.returns-in-Err-fetch_subject-clause-steps
returns-in-Err-fetch_subject-clause-steps g c = record {
  memory = refl;
  does = rw (unread g c, called_unread g c) (record {
    state = refl;
    next = refl;
    mid = c.refused.new.pass;
    made = c.refused.ensures.makes;
    answered = g.met.O.Observer.no_call c.args.observer.now c.refused.new.pass c.args.bench.now.control;
  });
}

begun : (g : given.Over) (c : goal.After-execute g) →
    let s = stands c.args.bench.now c.args.done in
    let x = c.in-Ok-fetch_subject.code in
    subject_step (memory_at c.args.bench.now) s c.args.ex.now
    ≡ stepped s (effect_of c.execute.new.cpu c.execute.new.space.bytes c.execute.new.io c.execute.result)
    (visit s c.subject_address-at.result true (goes (op_of (first_half x)) c.args.bench.now.cpu x) true ∷ [])
begun g c =
    subject_step-begun _ (stands c.args.bench.now c.args.done) c.args.ex.now c.subject_address-at.result c.in-Ok.first.1
    c.in-Ok-fetch_subject.code (effect_of c.execute.new.cpu c.execute.new.space.bytes c.execute.new.io c.execute.result)
    c.subject_address-at.ensures c.in-Ok.ensures.passed c.in-Ok.ensures.half c.in-Ok-fetch_subject.ensures.passed c.in-Ok-fetch_subject.ensures.code
    (rw c.of.ensures at c.execute.ensures.effect)

called : (g : given.Over) (c : goal.After-execute g) → subject_call (memory_at c.args.bench.now) (stands c.args.bench.now c.args.done) c.args.ex.now ≡ call_at c.first_half.result
called g c =
    subject_call-begun _ (stands c.args.bench.now c.args.done) c.args.ex.now c.subject_address-at.result c.in-Ok.first.1 c.first_half.result c.in-Ok-fetch_subject.code
    c.subject_address-at.ensures c.in-Ok.ensures.passed c.in-Ok.ensures.half c.in-Ok-fetch_subject.ensures.passed c.in-Ok-fetch_subject.ensures.code c.first_half.ensures

pub returns-clause-steps : goal.returns-clause-steps
returns-clause-steps g c = record {
  memory = c.execute.ensures.memory;
  does = rw (begun g c, called g c) (record {
    state = refl;
    next = refl;
    mid = c.begun.new.pass;
    made = c.begun.ensures.makes;
    answered = c.called.ensures.answers;
  });
}
