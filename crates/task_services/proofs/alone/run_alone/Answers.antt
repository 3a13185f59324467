use Rattle.std.proofs.Common.{◌≡◌, ◌<◌, length, sym, subst, [], arith}
use Rattle.std.proofs.lemmas.Bool.Decides.{nat_tests}
use Rattle.task_run.proofs.Laws.{goes_made}
use Rattle.task_services.proofs.RunLemmas.{course_without, course_with}
use Rattle.task_services.proofs.alone.run_alone.Goals as goal

pub returns-then-is_empty-clause-ran : goal.returns-then-is_empty-clause-ran
returns-then-is_empty-clause-ran g c =
    let laws = g.met.O.Observer in
    let o = c.args.observer.now in
    let t = c.args.tables.now in
    let makes = g.O.Observer.Makes o t in
    let ends = c.run.ensures.ends in
    let none : length c.args.services.now ≡ 0 = grind (arith, nat_tests, c.is_empty.ensures, c.if-is_empty.true) in
    rw (course_without c.args.services.now none) (record {
      ending = λ plan. ends.ending;
      state = λ plan. ends.state;
      address = λ plan. ends.address;
      made = λ plan. goes_made _ _ _ o t 0 _ _ _
          (λ p. laws.none o t p) (λ p q r vs ws. laws.both o t p q r vs ws)
          (λ p q x d call answered. subst (λ r. makes p [] r) (sym (c.requires.calls p q x d call answered)) (laws.none o t p))
          (λ h k p q x i still. subst (λ r. makes p [] r) (sym still) (laws.none o t p))
          c.run.ensures.goes;
    })

pub returns-clause-ran : goal.returns-clause-ran
returns-clause-ran g c =
    let laws = g.met.O.Observer in
    let o = c.args.observer.now in
    let t = c.args.tables.now in
    let makes = g.O.Observer.Makes o t in
    let ends = c.run-2.ensures.ends in
    let some : 0 < length c.args.services.now = grind (arith, nat_tests, c.is_empty.ensures, c.if-is_empty.false) in
    rw (course_with c.args.services.now some) (record {
      ending = λ plan. ends.ending;
      state = λ plan. ends.state;
      address = λ plan. ends.address;
      made = λ plan. goes_made _ _ _ o t 0 _ _ _
          (λ p. laws.none o t p) (λ p q r vs ws. laws.both o t p q r vs ws)
          (λ p q x d call answered. subst (λ r. makes p [] r) (sym (c.requires.calls p q x d call answered)) (laws.none o t p))
          (λ h k p q x i still. subst (λ r. makes p [] r) (sym still) (laws.none o t p))
          c.run-2.ensures.goes;
    })
