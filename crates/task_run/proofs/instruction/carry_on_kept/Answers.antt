use Rattle.std.proofs.Common.{◌≡◌, true, refl, ◌∙◌}
use Rattle.s370_decode.specs.Meaning.{first_half}
use Rattle.s370_exec.specs.Effects.{effect_of, is_plain, next_of}
use Rattle.task_run.proofs.FetchedLemmas.{step-other, call-other}
use Rattle.task_run.proofs.PlainLemmas.{plain_execute, plain_call}
use Rattle.task_run.proofs.instruction.carry_on_kept.Goals as goal

pub returns-in-Some-clause-goes : goal.returns-in-Some-clause-goes
returns-in-Some-clause-goes g c =
    let b = c.args.bench.now in
    let kept = c.args.kept.now.decoded in
    let new = c.execute_frequent.new in
    let tries = c.in-Some.ensures.tries in
    let plain : is_plain kept.op ≡ true = c.in-Some.ensures.plain refl in
    let other = plain_execute (first_half kept.code) kept.op kept.operates plain in
    let effect = effect_of new.cpu new.space.bytes new.io (next_of c.in-Some.told new.end) in
    record {
      memory = tries.memory;
      does = λ first made. rw
          (step-other b c.args.done kept.code c.requires.fetched effect other tries.effect, call-other b c.args.done kept.code c.requires.fetched other ∙ plain_call (first_half kept.code) kept.op kept.operates plain)
          (record {
            state = refl;
            next = refl;
            mid = c.args.pass.now;
            made = made;
            answered = g.met.O.Observer.no_call c.args.observer.now c.args.pass.now b.control;
          });
    }
