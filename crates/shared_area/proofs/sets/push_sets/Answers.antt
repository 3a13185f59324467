use Rattle.std.proofs.Common.{◌≡◌, ◌+◌, ◌∷◌, [], length, List, sym, ap, ◌∙◌, subst, arith, length-append}
use mathlib.Core.Option.{some}
use lib.ListN.{get_elem?}
use Rattle.std.specs.Slots.{slots_items}
use Rattle.cov_base.specs.Meaning.{FactSet}
use Rattle.shared_area.specs.Words.{facts_of}
use Rattle.shared_area.specs.Sets.{AreSets}
use Rattle.shared_area.proofs.BeginLemmas.{next_set}
use Rattle.shared_area.proofs.sets.push_sets.Goals as goal

pub loop-p-preserved : goal.loop-p-preserved
loop-p-preserved c = let words = slots_items c.args.closed.now.words in let before = c.loop-p.invariant.0 in let more = c.in_ok-push.ensures.items in let long = length-append c.loop-p.sets.items (c.facts.result ∷ []) in (
  (let e : length c.push.new.self.items ≡ length c.loop-p.sets.items + 1 = (λ j. length (more j)) ∙ long in omega (arith, before, e)),
  subst (λ (xs : List FactSet). AreSets c.args.plan.now words xs) (sym more)
      (next_set c.args.plan.now words c.loop-p.sets.items c.args.s.0 c.loop-p.p c.word-word.result c.facts.result c.loop-p.invariant.1 c.requires.session (omega arith) before
      (subst (λ i. get_elem? words i ≡ some c.word-word.result) c.word_at.ensures c.word-word.ensures) (c.facts.ensures ∙ ap (λ k. facts_of k c.loop-p.p c.word-word.result) c.kind.ensures.value)),
)
