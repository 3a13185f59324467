use Rattle.std.proofs.Common.{arith, sym}
use Rattle.std.proofs.lemmas.Grind.{common_steps}
use Rattle.job_text.proofs.WordLemmas.{Cut, cut_at, no_cut, advance}
use Rattle.job_text.proofs.words.split.Goals as goal

pub loop-at-preserved : goal.loop-at-preserved
loop-at-preserved c = let k : Cut c.loop-at.rest.now c.in-Some.at = cut_at c.loop-at.rest.now c.in-Some.at (sym c.in-Some.ensures) in
    advance (λ w. w.now) c.loop-at.words.items c.push.new.self.items c.split_at.result.0 c.loop-at.rest.now c.split_at.result.1.now c.args.line.now c.in-Some.at c.in_ok-push.ensures.items c.split_at.ensures.front c.split_at.ensures.back k c.loop-at.invariant

pub returns : goal.returns
returns c = let k = no_cut c.loop-at.rest.now (sym c.in_default.ensures) in
    grind (arith, common_steps, k, c.in_ok-push-2.ensures.items, c.loop-at.invariant)
