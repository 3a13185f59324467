-- The words of a new area keep the rule.
use Rattle.std.proofs.Common.{◌≡◌, ℕ, zero, suc, List, [], ◌∷◌, length, refl, sym, subst, arith}
use mathlib.Core.Option.{some, some-injective, some-ne-none}
use lib.ListN.{get_elem?}
use Rattle.atomic_table.specs.Table.{opening}
use Rattle.module_area.specs.Meaning.{PlanView}
use Rattle.module_area.specs.Rule.{IsPlan}
use Rattle.module_area.specs.Words.{starting, AllFit}
use Rattle.module_area.proofs.Laws.{first_cell, zero_behind, starting_count}
use Rattle.count_session.specs.declared.rule.CountView.{CountView}
use Rattle.count_session.specs.Words.{word_count}
use Rattle.count_session.specs.Rule.{first_view, IsView, IsCounting}
use Rattle.count_session.proofs.WordLemmas.{enough}

module _ (plan : PlanView) (ok : IsPlan plan) (fits : AllFit plan (length plan.places)) where
  abbrev words : List ℕ
  words = starting plan (word_count plan)

  first_is : (j : ℕ) (v : CountView) → get_elem? (first_view ∷ []) j ≡ some v → IsView plan words j v
  first_is zero v e = let is : first_view ≡ v = some-injective first_view v e in subst_view first_view v is record { cells = λ _ p l. first_cell plan (word_count plan) p l; few = omega arith; first = λ _. refl; one = λ e. absurd cc }
    where
      subst_view : (u v : CountView) → u ≡ v → IsView plan words 0 u → IsView plan words 0 v
      subst_view u v e h = subst (IsView plan words 0) e h
  first_is (suc j) v e = absurd (some-ne-none v (sym e))

  pub begins_area : IsCounting plan (opening words [] first_view)
  begins_area = record {
    is_plan = ok;
    fits = fits;
    wide = (let d = enough (length plan.places) in let n = starting_count plan (word_count plan) d in omega (arith, n));
    views = first_is;
    counts = λ i low high. zero_behind plan (word_count plan) i low;
    root = first_view;
    is_root = record { first = refl; count = refl; passes = refl; few = omega arith };
  }
