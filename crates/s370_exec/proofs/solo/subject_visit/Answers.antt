use Rattle.std.proofs.Common.{◌∷◌, ap}
use Rattle.s370_exec.specs.Solo.{state_of}
use Rattle.s370_exec.proofs.StepLemmas.{subject_step-refused}
use Rattle.s370_exec.specs.Solo.{subject_seen}
use Rattle.s370_exec.proofs.solo.subject_visit.Goals as goal

pub returns-in-Err : goal.returns-in-Err
returns-in-Err g c = λ v io d.
    ap (λ r. subject_seen (v ∷ r.visits)) (subject_step-refused _ (state_of c.args.cpu.now (g.P.Space.bytes c.args.space.now) io d) c.args.ex.now c.subject_address-at.result _
    c.subject_address-at.ensures c.in-Err.ensures.refused)
