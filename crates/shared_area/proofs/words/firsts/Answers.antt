use Rattle.std.proofs.Common.{◌≡◌, ℕ, ◌+◌, ◌*◌, ◌<◌, ◌≤◌, suc, length, sym, ap, ◌∙◌, arith, add-one, suc-mul, length-set}
use Rattle.cov_base.specs.Published.{sessions_are}
use Rattle.shared_area.specs.Words.{session_words}
use Rattle.shared_area.proofs.WordLemmas.{each_set}
use Rattle.shared_area.proofs.words.firsts.Goals as goal

pub loop-i-preserved : goal.loop-i-preserved
loop-i-preserved c =
    let n : ℕ = length c.args.plan.now.places in
    let w : ℕ = session_words n in
    let i : ℕ = c.loop-i.i in
    let x : ℕ = c.loop-i.first in
    let next = c.loop-i.invariant.next in
    let few = c.loop-i.invariant.few in
    let value = c.session_words-words.ensures.value in
    let most = c.session_words-words.ensures.few in
    let test = c.loop-i-test.true in
    let limit = sessions_are in
    let size = c.loop-i.invariant.size in
    let inside : i < length c.loop-i.firsts = omega (arith, test, limit, size) in
    let step : suc i * w ≡ i * w + w = suc-mul i w in
    record {
      size = length-set c.loop-i.firsts i x ∙ size;
      next = ap (λ k. x + k) value ∙ (ap (λ k. k + w) next ∙ (let e : n + i * w + w ≡ n + suc i * w = omega (arith, step) in e ∙ ap (λ k. n + k * w) (sym (add-one i))));
      few = omega (arith, few, most);
      each = λ j l. each_set (λ k v. v ≡ n + k * w) c.loop-i.firsts i x inside next c.loop-i.invariant.each j l;
      small = λ j l. each_set (λ k v. v ≤ 98304) c.loop-i.firsts i x inside (omega (arith, few, test, limit)) c.loop-i.invariant.small j l;
    }
