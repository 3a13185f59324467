use Rattle.std.proofs.Common.{◌≡◌, true, false, Err, arith, length, drop, refl, sym, ◌∙◌}
use Rattle.std.proofs.lemmas.Result.{err_from_is_err_and}
use Rattle.job_input.proofs.IncomingLemmas.{come_read, come_only, come_fault, come_behind, come_over, all_fed}
use Rattle.job_input.proofs.InputLemmas.{behind_few, input_is, jobless_is, over_is}
use Rattle.job_input.proofs.incoming.Incoming.finish.Goals as goal
use Rattle.job_input.proofs.incoming.Incoming.finish.Goals.{else-over-via-then-over+else-not-more, else-over-via-else-over}

pub returns-in_err-read-clause-fault : goal.returns-in_err-read-clause-fault
returns-in_err-read-clause-fault c = λ s all.
    let p = err_from_is_err_and c.from_residual.result c.from_residual.ensures.1 in
    let h = all.come in
    let only = rw h.grammar at (c.in_err-read.ensures.only h.fed h.is_fed) in
    rw (p.1, p.2) (jobless_is c.args.self.form s all.bytes c.in_err-read.field-0.0 all.came
    (come_fault all.bytes c.args.self (Err _) h only (rw h.grammar at (c.in_err-read.ensures.fault h.fed h.is_fed))) (come_only all.bytes c.args.self (Err _) h only))

pub overflow_add-result : goal.overflow_add-result
overflow_add-result c =
    let all = c.requires.1 in
    let h = all.come in
    let read = come_read all.bytes c.args.self c.in_ok-read.read h (rw h.grammar at (c.in_ok-read.ensures.job h.fed h.is_fed)) (c.in_ok-read.ensures.whole h.fed h.is_fed) in
    omega (arith, behind_few all.bytes c.in_ok-read.read (drop c.in_ok-read.read.end all.bytes) all.came.within read refl)

pub returns-then-not-more-clause-fault : goal.returns-then-not-more-clause-fault
returns-then-not-more-clause-fault c = λ s all.
    let h = all.come in
    over_is c.args.self.form s all.bytes _ all.came c.if-not-more.true
    (come_over all.bytes c.args.self c.in_ok-read.read h c.if-over.true (rw h.grammar at (c.in_ok-read.ensures.job h.fed h.is_fed)) (c.in_ok-read.ensures.whole h.fed h.is_fed))

pub returns-clause-input : goal.returns-clause-input
returns-clause-input c = λ s all.
    let h = all.come in
    let end = c.in_ok-read.ensures.whole h.fed h.is_fed in
    let read = come_read all.bytes c.args.self c.in_ok-read.read h (rw h.grammar at (c.in_ok-read.ensures.job h.fed h.is_fed)) end in
    let whole : c.args.self.form.more ≡ false → c.in_ok-read.read.end ≡ length all.bytes = λ alone. elim c.else-over.branch [
      | else-over-via-then-over+else-not-more w ↦ (let clash : true ≡ false = sym w.if-not-more.false ∙ alone in absurd cc)
      | else-over-via-else-over w ↦ end ∙ all_fed all.bytes c.args.self h w.if-over.false
    ] in
    input_is c.args.self.form s all.bytes c.in_ok-read.read _ refl refl all.came read whole (λ more. come_behind all.bytes c.args.self c.in_ok-read.read h more end)
