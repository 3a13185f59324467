use Rattle.std.proofs.Common.{◌≡◌, List, ℕ, [], sym, ◌∙◌, subst, ap}
use Rattle.atomic_table.specs.Table.{opening}
use Rattle.module_area.specs.Meaning.{PlanView}
use Rattle.module_area.specs.Words.{starting}
use Rattle.count_session.specs.Words.{word_count}
use Rattle.count_session.specs.Rule.{IsCounting, first_view}
use Rattle.count_session.proofs.BeginLemmas.{begins_area}
use Rattle.count_session.proofs.cells.CountCells.new.Goals as goal

pub first_words-requires : goal.first_words-requires
first_words-requires c = c.word_count.ensures.cells

pub of_words-requires : goal.of_words-requires
of_words-requires c = let plan = c.in_ok-plan.plan in
    let words : c.as_slice.result.now ≡ starting plan (word_count plan) = c.as_slice.ensures.value ∙ c.in_ok-words.ensures.value ∙ ap (starting plan) c.word_count.ensures.value in
    subst (λ (z : PlanView × List ℕ). IsCounting z.0 (opening z.1 [] first_view)) (λ i. (sym c.of-key.ensures i, sym words i)) (begins_area plan c.word_count.ensures.plan c.in_ok-words.ensures.fits)
