use Rattle.std.proofs.Common.{◌≡◌, List, ℕ, [], length, refl, sym, ◌∙◌, subst, ap, arith}
use Rattle.atomic_table.specs.Table.{opening}
use Rattle.module_area.specs.Meaning.{PlanView}
use Rattle.module_area.specs.declared.parties.Role.TheVariants.{Root, Spent}
use Rattle.module_area.specs.declared.parties.View.{View}
use Rattle.module_area.specs.Rule.{blank}
use Rattle.module_area.specs.Notes.{no_tally, root_notes}
use Rattle.module_area.specs.Words.{starting}
use Rattle.module_area.proofs.Laws.{starting_count}
use Rattle.shared_area.specs.Words.{word_count}
use Rattle.shared_area.specs.Rule.{IsArea}
use Rattle.shared_area.specs.Passes.{IsWithin, HasWord}
use Rattle.shared_area.specs.Told.{notes_in}
use Rattle.shared_area.proofs.BeginLemmas.{begins_area}
use Rattle.shared_area.proofs.CallLemmas.{IsLive}
use Rattle.shared_area.proofs.areas.new_area.Goals as goal

pub of_words-requires : goal.of_words-requires
of_words-requires c = let plan = c.in_ok-plan.plan in
    let words : c.as_slice.result.now ≡ starting plan (word_count plan) = c.as_slice.ensures.value ∙ c.in_ok-words.ensures.value ∙ ap (starting plan) c.count.ensures.value in
    subst (λ (z : PlanView × List ℕ). IsArea z.0 (opening z.1 [] (blank Root))) (λ i. (sym c.of-key.ensures i, sym words i)) (begins_area plan c.count.ensures.plan c.in_ok-words.ensures.fits)

-- what the root is as it begins
live : (v : View) → v ≡ blank Root → IsLive 0 0 v
live v e = subst (IsLive 0 0) (sym e) record {
  live = λ s. let x : Root ≡ Spent = s in absurd cc;
  counted = (refl, refl);
  given = refl;
}

within : (plan : PlanView) (v : View) → v ≡ blank Root → IsWithin plan v.pending × HasWord plan 0 v.role
within plan v e = subst (λ (w : View). IsWithin plan w.pending × HasWord plan 0 w.role) (sym e) ((λ p t is. absurd cc), tt)

told : (v : View) → v ≡ blank Root → notes_in v no_tally ≡ root_notes
told v e = ap (λ (w : View). notes_in w no_tally) e

pub invariant_of-root : goal.invariant_of-root
invariant_of-root c = let h = live c.in_ok-table.seat.me.0 (λ i. (c.in_ok-table.ensures.4 i).0) in record { live = h.live; counted = h.counted; given = h.given }

pub invariant_of-cells : goal.invariant_of-cells
invariant_of-cells c = let plan = c.in_ok-plan.plan in let e = c.in_ok-table.ensures in
    let words : c.as_slice.result.now ≡ starting plan (word_count plan) = c.as_slice.ensures.value ∙ c.in_ok-words.ensures.value ∙ ap (starting plan) c.count.ensures.value in
    let enough = c.count.ensures.cells in let is = c.count.ensures.value in record {
      slotless = e.1;
      keyed = (λ i. (e.5 i).value) ∙ c.of-key.ensures;
      few = c.firsts-firsts.ensures.sessions;
      first = c.firsts-firsts.ensures.value;
      wide = e.0 ∙ (ap (λ (ws : List ℕ). length ws) words ∙ starting_count plan (word_count plan) (omega (arith, enough, is)));
    }

pub returns-clause-area : goal.returns-clause-area
returns-clause-area c = let e = c.in_ok-table.ensures in let w = within c.in_ok-plan.plan c.in_ok-table.seat.me.0 (λ i. (e.4 i).0) in (e.2, (λ i. (e.4 i).1), w.0, w.1)

pub returns-clause-root : goal.returns-clause-root
returns-clause-root c = told c.in_ok-table.seat.me.0 (λ i. (c.in_ok-table.ensures.4 i).0)
