use Rattle.std.proofs.Common.{◌≡◌, refl, sym, ◌∙◌, arith}
use Rattle.job_gen.proofs.CodeLemmas.{block_la, block_ar, block_test, block_st, after_one, after_two}
use Rattle.job_gen.proofs.code.put_block.Goals as goal

pub returns-in_ok-push-in-0-clause-code : goal.returns-in_ok-push-in-0-clause-code
returns-in_ok-push-in-0-clause-code c =
    let b = block_la c.args.draws.now.state c.args.at _ _ _ c.draw.ensures.state c.draw-number.ensures.state (sym c.in-0.is ∙ c.draw.ensures.value) c.draw-number.ensures.value in
    rw b c.in_ok-push-in-0.ensures.items

pub returns-in_ok-push-in-0-clause-at : goal.returns-in_ok-push-in-0-clause-at
returns-in_ok-push-in-0-clause-at c =
    let b = block_la c.args.draws.now.state c.args.at _ _ _ c.draw.ensures.state c.draw-number.ensures.state (sym c.in-0.is ∙ c.draw.ensures.value) c.draw-number.ensures.value in
    rw b refl

pub returns-in_ok-push-in-0-clause-state : goal.returns-in_ok-push-in-0-clause-state
returns-in_ok-push-in-0-clause-state c =
    sym (after_two _ _ _ 0 c.draw.ensures.state c.draw-number.ensures.state (sym c.in-0.is ∙ c.draw.ensures.value) refl)

pub returns-in_ok-push-in-1-clause-code : goal.returns-in_ok-push-in-1-clause-code
returns-in_ok-push-in-1-clause-code c =
    let b = block_ar c.args.draws.now.state c.args.at _ c.draw.ensures.state (sym c.in-1.is ∙ c.draw.ensures.value) in
    rw b c.in_ok-push-in-1.ensures.items

pub returns-in_ok-push-in-1-clause-at : goal.returns-in_ok-push-in-1-clause-at
returns-in_ok-push-in-1-clause-at c =
    let b = block_ar c.args.draws.now.state c.args.at _ c.draw.ensures.state (sym c.in-1.is ∙ c.draw.ensures.value) in
    rw b refl

pub returns-in_ok-push-in-1-clause-state : goal.returns-in_ok-push-in-1-clause-state
returns-in_ok-push-in-1-clause-state c =
    sym (after_one _ _ c.draw.ensures.state (sym c.in-1.is ∙ c.draw.ensures.value))

pub returns-in_ok-put_test-in-2-clause-code : goal.returns-in_ok-put_test-in-2-clause-code
returns-in_ok-put_test-in-2-clause-code c =
    let b = block_test c.args.draws.now.state c.args.at _ _ _ c.draw.ensures.state c.draw-mask.ensures.state (sym c.in-2.is ∙ c.draw.ensures.value) c.draw-mask.ensures.value in
    rw b c.in_ok-put_test-in-2.ensures

pub returns-in_ok-put_test-in-2-clause-at : goal.returns-in_ok-put_test-in-2-clause-at
returns-in_ok-put_test-in-2-clause-at c =
    let b = block_test c.args.draws.now.state c.args.at _ _ _ c.draw.ensures.state c.draw-mask.ensures.state (sym c.in-2.is ∙ c.draw.ensures.value) c.draw-mask.ensures.value in
    rw b refl

pub returns-in_ok-put_test-in-2-clause-state : goal.returns-in_ok-put_test-in-2-clause-state
returns-in_ok-put_test-in-2-clause-state c =
    sym (after_two _ _ _ 2 c.draw.ensures.state c.draw-mask.ensures.state (sym c.in-2.is ∙ c.draw.ensures.value) refl)

pub returns-in_ok-push-in_default-clause-code : goal.returns-in_ok-push-in_default-clause-code
returns-in_ok-push-in_default-clause-code c =
    let three : c.draw.result ≡ 3 = omega arith in
    let b = block_st c.args.draws.now.state c.args.at _ _ _ c.draw.ensures.state c.draw-word.ensures.state (sym three ∙ c.draw.ensures.value) c.draw-word.ensures.value in
    rw b c.in_ok-push-in_default.ensures.items

pub returns-in_ok-push-in_default-clause-at : goal.returns-in_ok-push-in_default-clause-at
returns-in_ok-push-in_default-clause-at c =
    let three : c.draw.result ≡ 3 = omega arith in
    let b = block_st c.args.draws.now.state c.args.at _ _ _ c.draw.ensures.state c.draw-word.ensures.state (sym three ∙ c.draw.ensures.value) c.draw-word.ensures.value in
    rw b refl

pub returns-in_ok-push-in_default-clause-state : goal.returns-in_ok-push-in_default-clause-state
returns-in_ok-push-in_default-clause-state c =
    let three : c.draw.result ≡ 3 = omega arith in
    sym (after_two _ _ _ 3 c.draw.ensures.state c.draw-word.ensures.state (sym three ∙ c.draw.ensures.value) refl)
