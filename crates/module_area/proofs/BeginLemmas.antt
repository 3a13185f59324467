-- A new area keeps the rule: originals under tag 0, empty sets, and the root alone.
use Rattle.std.proofs.Common.{◌≡◌, ℕ, zero, suc, ◌<◌, ◌≤◌, true, None, [], ◌∷◌, length, sym, refl, ap, ◌∙◌, subst, inl, arith}
use mathlib.Core.Option.{some, some-injective, some-ne-none}
use lib.ListN.{get_elem?}
use Rattle.cov_base.specs.declared.facts.Fact.{Fact}
use Rattle.cov_base.specs.Meaning.{FactSet, has_fact}
use Rattle.module_area.specs.declared.cells.Cell.{Cell}
use Rattle.module_area.specs.declared.parties.View.{View}
use Rattle.module_area.specs.declared.parties.Role.TheVariants.{Root, Task, Spent}
use Rattle.module_area.specs.Drained.{IsNumber, IsSettled, Drained}
use Rattle.module_area.specs.Meaning.{PlanView, original_at, kind_at}
use Rattle.module_area.specs.Rule.{IsPlan, has_task, Has, last_tag, window_tag, blank, untouched, lifted, Keeps, IsRole, Kept, Held}
use Rattle.module_area.proofs.StepLemmas.{task_not_root, spent_not_root, full_some}

only_one : (x v : View) (j : ℕ) → get_elem? (x ∷ []) j ≡ some v → (j ≡ 0) × (x ≡ v)
only_one x v zero e = (refl, some-injective x v e)
only_one x v (suc j) e = absurd (some-ne-none v (sym e))

-- what holds of the root holds of each party
alone : (F : ℕ → View → Type 0) → F 0 (blank Root) → (j : ℕ) (v : View) → get_elem? (blank Root ∷ []) j ≡ some v → F j v
alone F h j v e = let x = only_one (blank Root) v j e in subst (λ (z : ℕ × View). F z.0 z.1) (λ i. (sym x.0 i, x.1 i)) h

module _ (plan : PlanView) (cell : ℕ → Cell) (sets : ℕ → ℕ → FactSet) (ok : IsPlan plan) (plain : (p : ℕ) → p < length plan.places → cell p ≡ untouched (original_at plan p))
    (no_fact : (s p : ℕ) (f : Fact) → p < length plan.places → 0 < s → has_fact (sets s p) f ≡ true → ⊥) where
  tag_zero : (p : ℕ) → p < length plan.places → (cell p).tag ≡ 0
  tag_zero p l = ap (λ (c : Cell). c.tag) (plain p l)

  no_tag_of : (p s : ℕ) (c : Cell) → p < length plan.places → 0 < s → cell p ≡ c → c.tag ≡ window_tag s → ⊥
  no_tag_of p s c l pos e tag = let z = tag_zero p l in let y : (cell p).tag ≡ c.tag = ap (λ (x : Cell). x.tag) e in omega arith

  pub begins : Held plan cell sets (blank Root ∷ [])
  begins = record {
    is_plan = ok;
    site = λ p l. record {
      form = inl (plain p l);
      full = λ s pos e. absurd (no_tag_of p s (lifted s (original_at plan p)) l pos e refl);
      empty = λ s pos lt f h. no_fact s p f l pos h;
    };
    kept = alone (λ _ v. Kept plan cell sets v) record {
      seen = λ p t h. absurd h;
      pending = λ p t h. absurd cc;
      marked = λ s p f h. absurd h;
      full = λ s p h. absurd h;
      free = λ s p h. absurd h;
      lifted = λ s p h. absurd h;
      planted = λ p t h. absurd h;
      joined = λ t h. absurd h;
    };
    known = λ s p f l pos h. absurd (no_fact s p f l pos h);
    ties = alone (λ _ v. (p : ℕ) → p < length plan.places → Keeps plan v p → (cell p).tag ≡ last_tag p v.planted) (λ p l _. tag_zero p l);
    owed = λ s p l pos full e. absurd (let x = full_some (kind_at plan p) (sets s p) full in no_fact s p x.0 l pos x.1);
    once = λ s p l pos. record {
      most = omega arith;
      there = λ e. absurd (no_tag_of p s (lifted s (original_at plan p)) l pos e refl);
      early = λ _. refl;
      not_yet = λ _. refl;
    };
    roles = alone (λ j v. IsRole (blank Root ∷ []) j v.role) refl;
    spent = alone (λ _ v. v.role ≡ Spent → v ≡ blank Spent) (λ e. absurd (spent_not_root (sym e)));
    apart = λ i j u v t hi hj _ _. (only_one (blank Root) u i hi).0 ∙ sym (only_one (blank Root) v j hj).0;
  }

-- and its part on task words
pub begins_drained : (plan : PlanView) (cell : ℕ → Cell) (sets : ℕ → ℕ → FactSet) (word : ℕ → ℕ) → ((t : ℕ) → word t ≡ 0) → Drained plan cell sets word (blank Root ∷ [])
begins_drained plan cell sets word zero_word = record {
  idle = alone (λ _ v. v.role ≡ Root → v.pending ≡ None) (λ _. refl);
  tasks = λ j v t at e. alone (λ _ v. (t : ℕ) → v.role ≡ Task t → has_task plan.tasks t ≡ true) (λ t e. absurd (task_not_root t (sym e))) j v at t e;
  number = λ j v t at _. alone (λ _ v. IsNumber v t (word t) v.role) (λ _. zero_word t, λ none. absurd none) j v at;
  noted = λ j v e at has. alone (λ _ v. Has e v.noted → e.1 ≤ word e.0) (λ none. absurd none) j v at has;
  noted_seen = λ j v e p x at has there. alone (λ _ v. Has e v.noted → (p < length plan.places) × (x ≤ (cell p).tag)) (λ none. absurd none) j v at has;
  ended = λ j v t at e odd. alone (λ _ v. v.role ≡ Task t → v.pending ≡ None) (λ _. refl) j v at e;
  late = λ j v e i u s p at has pos over there bears pend. alone (λ _ v. Has e v.noted → word e.0 ≤ e.1) (λ none. absurd none) j v at has;
  settled = λ j v s p x at has. alone (λ _ v. Has (s, p, x) v.settled → (p < length plan.places) × (0 < s) × IsSettled cell sets (blank Root ∷ []) s p x) (λ none. absurd none) j v at has;
}
