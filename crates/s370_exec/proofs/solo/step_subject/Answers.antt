use Rattle.std.proofs.Common.{◌≡◌, ℕ, true, false, [], ◌∷◌, refl, ap}
use Rattle.s370_decode.specs.Meaning.{first_half, op_of}
use Rattle.s370_branch.specs.Meaning.{goes}
use Rattle.s370_exec.specs.Effects.{effect_of}
use Rattle.s370_exec.specs.Meaning.{subject_step, ended, stepped, visit}
use Rattle.s370_exec.specs.Solo.{state_of}
use Rattle.s370_exec.proofs.StepLemmas.{subject_step-refused, subject_step-unread, subject_step-begun}
use Rattle.s370_exec.proofs.solo.step_subject.Given as given
use Rattle.s370_exec.proofs.solo.step_subject.Goals as goal

refused : (g : given.Over) (c : goal.In-Err g) (d : ℕ) →
    let s = state_of c.args.cpu.now (g.P.Space.bytes c.args.space.now) c.args.io.now d in
    subject_step (g.P.Space.memory c.args.space.now) s c.args.ex.now ≡ ended s c.in-Err.e []
refused g c d = subject_step-refused _ (state_of c.args.cpu.now (g.P.Space.bytes c.args.space.now) c.args.io.now d) c.args.ex.now c.subject_address-at.result c.in-Err.e
    c.subject_address-at.ensures c.in-Err.ensures.refused

pub returns-in-Err : goal.returns-in-Err
returns-in-Err g c = record { memory = refl; state = λ d. ap (λ r. r.state) (refused g c d); next = λ d. ap (λ r. r.next) (refused g c d) }

unread : (g : given.Over) (c : goal.In-Err-fetch_subject g) (d : ℕ) →
    let s = state_of c.args.cpu.now (g.P.Space.bytes c.args.space.now) c.args.io.now d in
    subject_step (g.P.Space.memory c.args.space.now) s c.args.ex.now ≡ ended s c.in-Err-fetch_subject.e (visit s c.subject_address-at.result false false true ∷ [])
unread g c d =
    subject_step-unread _ (state_of c.args.cpu.now (g.P.Space.bytes c.args.space.now) c.args.io.now d) c.args.ex.now c.subject_address-at.result c.in-Ok.half c.in-Err-fetch_subject.e
    c.subject_address-at.ensures c.in-Ok.ensures.passed c.in-Ok.ensures.half c.in-Err-fetch_subject.ensures.refused

pub returns-in-Err-fetch_subject : goal.returns-in-Err-fetch_subject
returns-in-Err-fetch_subject g c = record { memory = refl; state = λ d. ap (λ r. r.state) (unread g c d); next = λ d. ap (λ r. r.next) (unread g c d) }

begun : (g : given.Over) (c : goal.After-execute g) (d : ℕ) →
    let s = state_of c.args.cpu.now (g.P.Space.bytes c.args.space.now) c.args.io.now d in
    let x = c.in-Ok-fetch_subject.code in
    subject_step (g.P.Space.memory c.args.space.now) s c.args.ex.now
    ≡ stepped s (effect_of c.execute.new.cpu (g.P.Space.bytes c.execute.new.space) c.execute.new.io c.execute.result)
    (visit s c.subject_address-at.result true (goes (op_of (first_half x)) c.args.cpu.now x) true ∷ [])
begun g c d =
    subject_step-begun _ (state_of c.args.cpu.now (g.P.Space.bytes c.args.space.now) c.args.io.now d) c.args.ex.now c.subject_address-at.result c.in-Ok.half
    c.in-Ok-fetch_subject.code (effect_of c.execute.new.cpu (g.P.Space.bytes c.execute.new.space) c.execute.new.io c.execute.result)
    c.subject_address-at.ensures c.in-Ok.ensures.passed c.in-Ok.ensures.half c.in-Ok-fetch_subject.ensures.passed c.in-Ok-fetch_subject.ensures.code (rw c.of.ensures at c.execute.ensures.effect)

pub returns : goal.returns
returns g c = record { memory = c.execute.ensures.memory; state = λ d. ap (λ r. r.state) (begun g c d); next = λ d. ap (λ r. r.next) (begun g c d) }
