use Rattle.std.proofs.Common.{◌≡◌, true, false, [], ◌∷◌, refl, ap, sym, ◌∙◌}
use Rattle.s370_decode.specs.Meaning.{first_half}
use Rattle.s370_exec.specs.Meaning.{is_execute, subject_step}
use Rattle.s370_exec.specs.Effects.{effect_of}
use Rattle.task_run.specs.Called.{call_at}
use Rattle.task_run.specs.Steps.{memory_at, stands, own_visit}
use Rattle.task_run.proofs.FetchedLemmas.{step-execute, call-execute, step-other, call-other}
use Rattle.task_run.proofs.instruction.carry_on.Goals as goal

pub returns-then-is_execute-clause-goes : goal.returns-then-is_execute-clause-goes
returns-then-is_execute-clause-goes g c =
    let b = c.args.bench.now in
    let ex : is_execute (first_half c.args.it.now.code) ≡ true = ap is_execute (sym c.first_half-half.ensures) ∙ (sym c.is_execute.ensures ∙ c.if-is_execute.true) in
    let below = c.step_subject_here.ensures.steps in
    record {
      memory = below.memory;
      does = λ first made. rw (step-execute b c.args.done c.args.it.now.code c.requires.fetched ex, call-execute b c.args.done c.args.it.now.code c.requires.fetched ex) (record {
        state = below.does.state;
        next = below.does.next;
        mid = below.does.mid;
        made = g.met.O.Observer.both c.args.observer.now c.args.tables.now first c.args.pass.now below.does.mid (own_visit b c.args.done ∷ [])
            (subject_step (memory_at b) (stands b c.args.done) c.args.it.now.code).visits made below.does.made;
        answered = below.does.answered;
      });
    }

pub execute-requires : goal.execute-requires
execute-requires g c = record { subject = ap is_execute (sym c.first_half-half.ensures) ∙ (sym c.is_execute.ensures ∙ c.if-is_execute.false) }

pub returns-clause-goes : goal.returns-clause-goes
returns-clause-goes g c =
    let b = c.args.bench.now in
    let other : is_execute (first_half c.args.it.now.code) ≡ false = ap is_execute (sym c.first_half-half.ensures) ∙ (sym c.is_execute.ensures ∙ c.if-is_execute.false) in
    let effect = effect_of c.execute.new.cpu c.execute.new.space.bytes c.execute.new.io c.execute.result in
    record {
      memory = c.execute.ensures.memory;
      does = λ first made. rw (
        step-other b c.args.done c.args.it.now.code c.requires.fetched effect other c.execute.ensures.effect,
        call-other b c.args.done c.args.it.now.code c.requires.fetched other ∙ ap call_at (sym c.first_half-half.ensures),
      ) (record {
        state = refl;
        next = refl;
        mid = c.args.pass.now;
        made = made;
        answered = c.called.ensures.answers;
      });
    }
