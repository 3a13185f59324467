use Rattle.std.proofs.Common.{Some, ◌∷◌, refl, ap, sym, ◌∙◌}
use Rattle.s370_decode.specs.Meaning.{first_half, op_of}
use Rattle.s370_exec.specs.Meaning.{effect, updated, link_code}
use Rattle.s370_exec.specs.Solo.{state_of, subject_seen}
use Rattle.s370_exec.proofs.StepLemmas.{subject_step-unread, subject_step-begun}
use Rattle.s370_exec.proofs.solo.subject_went.Goals as goal

pub returns-in-Ok : goal.returns-in-Ok
returns-in-Ok g c = λ v io d.
    let s = state_of c.args.cpu.now (g.P.Space.bytes c.args.space.now) io d in
    let x = c.in-Ok.subject in
    ap (λ r. subject_seen (v ∷ r.visits)) (subject_step-begun (g.P.Space.memory c.args.space.now) s c.args.ex.now c.args.at c.args.half x
    (effect (g.P.Space.memory c.args.space.now) s.machine s.io x (op_of (first_half x)) (updated x (Some c.args.ex.now.at)) (link_code x (Some c.args.ex.now.at)))
    c.requires.at c.requires.passed c.requires.half c.in-Ok.ensures.passed c.in-Ok.ensures.code refl)
    ∙ ap (λ b. Some (c.args.at, b)) (sym c.outcome.ensures)

pub returns-in-Err : goal.returns-in-Err
returns-in-Err g c = λ v io d.
    ap (λ r. subject_seen (v ∷ r.visits)) (subject_step-unread _ (state_of c.args.cpu.now (g.P.Space.bytes c.args.space.now) io d) c.args.ex.now c.args.at c.args.half _
    c.requires.at c.requires.passed c.requires.half c.in-Err.ensures.refused)
