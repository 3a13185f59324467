use Rattle.std.proofs.Common.{◌≡◌, ℕ, true, false, [], ◌∷◌, refl, ap, sym, ◌∙◌}
use Rattle.s370_decode.specs.Meaning.{first_half, op_of}
use Rattle.s370_branch.specs.Meaning.{goes}
use Rattle.s370_exec.specs.Effects.{effect_of}
use Rattle.s370_exec.specs.Meaning.{solo_step, subject_step, stepped, behind, visit}
use Rattle.s370_exec.specs.Solo.{state_of}
use Rattle.s370_exec.proofs.StepLemmas.{unread-state, unread-next, solo_step-read, solo_step-ex}
use Rattle.s370_exec.proofs.solo.step.Given as given
use Rattle.s370_exec.proofs.solo.step.Goals as goal

pub returns-in-Err : goal.returns-in-Err
returns-in-Err g c = record {
  memory = refl;
  state = λ d. unread-state _ (state_of c.args.cpu.now (g.P.Space.bytes c.args.space.now) c.args.io.now d) c.at.result c.in-Err.e c.at.ensures c.in-Err.ensures.refused;
  next = λ d. unread-next _ (state_of c.args.cpu.now (g.P.Space.bytes c.args.space.now) c.args.io.now d) c.at.result c.in-Err.e c.at.ensures c.in-Err.ensures.refused;
}

executes : (g : given.Over) (c : goal.After-step_subject g) (d : ℕ) →
    let s = state_of c.args.cpu.now (g.P.Space.bytes c.args.space.now) c.args.io.now d in
    solo_step (g.P.Space.memory c.args.space.now) s
    ≡ behind (visit s c.at.result true (goes (op_of (first_half c.in-Ok.code)) c.args.cpu.now c.in-Ok.code) false) (subject_step (g.P.Space.memory c.args.space.now) s c.in-Ok.code)
executes g c d =
    solo_step-ex _ (state_of c.args.cpu.now (g.P.Space.bytes c.args.space.now) c.args.io.now d) c.at.result c.in-Ok.code c.at.ensures c.in-Ok.ensures.passed c.in-Ok.ensures.code
    (sym c.is_ex.ensures ∙ c.if-is_ex.true)

pub returns-then-is_ex : goal.returns-then-is_ex
returns-then-is_ex g c = record {
  memory = c.step_subject.ensures.memory;
  state = λ d. ap (λ r. r.state) (executes g c d) ∙ c.step_subject.ensures.state d;
  next = λ d. ap (λ r. r.next) (executes g c d) ∙ c.step_subject.ensures.next d;
}

begun : (g : given.Over) (c : goal.After-execute g) (d : ℕ) →
    let s = state_of c.args.cpu.now (g.P.Space.bytes c.args.space.now) c.args.io.now d in
    solo_step (g.P.Space.memory c.args.space.now) s
    ≡ stepped s (effect_of c.execute.new.cpu (g.P.Space.bytes c.execute.new.space) c.execute.new.io c.execute.result)
    (visit s c.at.result true (goes (op_of (first_half c.in-Ok.code)) c.args.cpu.now c.in-Ok.code) false ∷ [])
begun g c d =
    solo_step-read _ (state_of c.args.cpu.now (g.P.Space.bytes c.args.space.now) c.args.io.now d) c.at.result c.in-Ok.code
    (effect_of c.execute.new.cpu (g.P.Space.bytes c.execute.new.space) c.execute.new.io c.execute.result) c.at.ensures c.in-Ok.ensures.passed c.in-Ok.ensures.code
    (sym c.is_ex.ensures ∙ c.if-is_ex.false) (rw c.of.ensures at c.execute.ensures.effect)

pub returns : goal.returns
returns g c = record { memory = c.execute.ensures.memory; state = λ d. ap (λ r. r.state) (begun g c d); next = λ d. ap (λ r. r.next) (begun g c d) }
