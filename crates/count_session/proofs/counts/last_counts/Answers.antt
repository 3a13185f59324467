use Rattle.std.proofs.Common.{◌≡◌, ◌+◌, ◌∷◌, [], List, length, sym, ap, ◌∙◌, subst, arith, length-append}
use mathlib.Core.Option.{some}
use lib.ListN.{get_elem?}
use Rattle.std.specs.Slots.{slots_items}
use Rattle.count_session.specs.declared.counts.PlaceCount.{PlaceCount}
use Rattle.count_session.specs.Tallied.{AreRead}
use Rattle.count_session.proofs.EndLemmas.{read_more}
use Rattle.count_session.proofs.counts.last_counts.Goals as goal

pub loop-p-preserved : goal.loop-p-preserved
loop-p-preserved c = let words = slots_items c.args.closed.now.words in let old = c.loop-p.places.items in let i = c.loop-p.invariant in
    let e : PlaceCount = record { kind = c.kind.result; first = c.word.result; stayed = c.word-in-loop-p.result } in
    let long = length-append old (e ∷ []) in let more = c.in_ok-push.ensures.items in (
      (let n : length c.push.new.self.items ≡ length old + 1 = ap (λ (xs : List PlaceCount). length xs) more ∙ long in let b = i.0 in omega (arith, n, b)),
      subst (λ (xs : List PlaceCount). AreRead c.args.plan.now words xs) (sym more)
          (read_more c.args.plan.now words old c.loop-p.p e i.1 i.0 c.kind.ensures.value
          (subst (λ k. get_elem? words k ≡ some c.word.result) c.count_word.ensures c.word.ensures)
          (subst (λ k. get_elem? words k ≡ some c.word-in-loop-p.result) c.count_word-in-loop-p.ensures c.word-in-loop-p.ensures)),
    )
