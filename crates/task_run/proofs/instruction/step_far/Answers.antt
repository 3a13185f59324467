use Rattle.std.proofs.Common.{◌≡◌, false, None, [], ◌∷◌, refl, subst, rules}
use Rattle.s370_exec.specs.Meaning.{call_of, solo_step, ended, visit}
use Rattle.s370_exec.proofs.Laws.{solo_step-refused, solo_step-rest_refused}
use Rattle.task_run.specs.Steps.{IsFetched, memory_at, stands}
use Rattle.cov_base.specs.Meaning.{Visit}
use Rattle.task_run.proofs.FetchedLemmas.{own_begun}
use Rattle.task_run.proofs.CallLemmas.{call_of-refused, call_of-rest_refused}
use Rattle.task_run.proofs.instruction.step_far.Given as given
use Rattle.task_run.proofs.instruction.step_far.Goals as goal

refused : (g : given.Over) (c : goal.In-Err g) → solo_step (memory_at c.args.bench.now) (stands c.args.bench.now c.args.done) ≡ ended (stands c.args.bench.now c.args.done) c.in-Err.e []
refused g c = solo_step-refused _ (stands c.args.bench.now c.args.done) c.at-at.result c.in-Err.e c.at-at.ensures c.in-Err.ensures.refused

called_refused : (g : given.Over) (c : goal.In-Err g) → call_of (memory_at c.args.bench.now) (stands c.args.bench.now c.args.done) ≡ None
called_refused g c = call_of-refused _ (stands c.args.bench.now c.args.done) c.at-at.result c.in-Err.e c.at-at.ensures c.in-Err.ensures.refused

pub returns-in-Err-clause-steps : goal.returns-in-Err-clause-steps
returns-in-Err-clause-steps g c = record {
  memory = refl;
  does = rw (refused g c, called_refused g c) (record {
    state = refl;
    next = refl;
    mid = c.args.pass.now;
    made = g.met.O.Observer.none c.args.observer.now c.args.tables.now c.args.pass.now;
    answered = g.met.O.Observer.no_call c.args.observer.now c.args.pass.now c.args.bench.now.control;
  });
}

rest_refused : (g : given.Over) (c : goal.After-refused g) →
    solo_step (memory_at c.args.bench.now) (stands c.args.bench.now c.args.done) ≡ ended (stands c.args.bench.now c.args.done) c.in-Err-fetch_rest.e (visit (stands c.args.bench.now c.args.done) c.at-at.result false false false ∷ [])
rest_refused g c =
    solo_step-rest_refused _ (stands c.args.bench.now c.args.done) c.at-at.result c.in-Ok.half c.in-Err-fetch_rest.e c.at-at.ensures
    c.in-Ok.ensures.passed c.in-Ok.ensures.half c.in-Err-fetch_rest.ensures.refused

called_rest_refused : (g : given.Over) (c : goal.After-refused g) → call_of (memory_at c.args.bench.now) (stands c.args.bench.now c.args.done) ≡ None
called_rest_refused g c =
    call_of-rest_refused _ (stands c.args.bench.now c.args.done) c.at-at.result c.in-Ok.half c.in-Err-fetch_rest.e c.at-at.ensures
    c.in-Ok.ensures.passed c.in-Ok.ensures.half c.in-Err-fetch_rest.ensures.refused

pub returns-in-Err-fetch_rest-clause-steps : goal.returns-in-Err-fetch_rest-clause-steps
returns-in-Err-fetch_rest-clause-steps g c = record {
  memory = refl;
  does = rw (rest_refused g c, called_rest_refused g c) (record {
    state = refl;
    next = refl;
    mid = c.refused.new.pass;
    made = c.refused.ensures.makes;
    answered = g.met.O.Observer.no_call c.args.observer.now c.refused.new.pass c.args.bench.now.control;
  });
}

pub returns-clause-steps : goal.returns-clause-steps
returns-clause-steps g c =
    let goes = c.carry_on_apart.ensures.goes in
    let fetched : IsFetched c.args.bench.now c.in-Ok-fetch_rest.code = search rules in
    let own = own_begun c.args.bench.now c.args.done c.in-Ok-fetch_rest.code fetched c.at-at.result None c.at-at.ensures in
    record {
      memory = goes.memory;
      does = goes.does c.args.pass.now (subst (λ (v : Visit). g.O.Observer.Makes c.args.observer.now c.args.tables.now c.args.pass.now (v ∷ []) c.begun.new.pass) own c.begun.ensures.makes);
    }
