-- The rule in the end, when all passes are joined to the root.
use Rattle.std.proofs.Common.{◌≡◌, ◌≢◌, ◌⊎◌, ℕ, ◌+◌, ◌*◌, ◌<◌, ◌≤◌, Bool, true, false, ◌&&◌, nat_lt, if◌then◌else◌, List, length, sym, refl, ap, ◌∙◌, subst, inl, inr, ⊎_elim, arith, ltb-true, lt_of_not-le}
use Rattle.std.proofs.lemmas.Bool.{and_parts}
use mathlib.Core.Option.{some, some-injective}
use mathlib.Core.Logic.{dite}
use native.Mathlib.Decide.{ℕ_discrete, dec_le}
use lib.ListN.{get_elem?}
use Rattle.cov_base.specs.declared.facts.Fact.{Fact}
use Rattle.cov_base.specs.Meaning.{FactSet, has_fact, is_full}
use Rattle.module_area.specs.declared.cells.Cell.{Cell}
use Rattle.module_area.specs.declared.parties.View.{View}
use Rattle.module_area.specs.declared.parties.Role.{Role}
use Rattle.module_area.specs.declared.parties.Role.TheVariants.{Root, Task, Spent}
use Rattle.module_area.specs.Meaning.{PlanView, original_at, kind_at, window_at, is_over, count_below, count_pairs}
use Rattle.module_area.specs.Rule.{IsPlan, Has, times, last_tag, blank, untouched, planted, lifted, IsForm, Once, KeepsAs, IsRole, Owes, Held, has_number}
use Rattle.module_area.proofs.Laws.{no_controlled, over_window, over_cases, over_small, controller_of, total_only}
use Rattle.module_area.proofs.Laws.{first_only, full_some}
use Rattle.shared_area.specs.Told.{has_pair}
use Rattle.shared_area.proofs.NoteLemmas.{pair_there, pair_shown, number_there, not_there, last_has}
use Rattle.shared_area.proofs.SumLemmas.{some_sum, all_sum, count_least, pairs_most, times_none}

abbrev one_of : Bool → ℕ
one_of b = if b then 1 else 0

window_form : (plan : PlanView) (p : ℕ) (c : Cell) → IsPlan plan → 0 < window_at plan p → IsForm plan p c
    → (c ≡ untouched (original_at plan p)) ⊎ ((c ≡ planted (window_at plan p)) ⊎ (c ≡ lifted (window_at plan p) (original_at plan p)))
window_form plan p c ok w (inl e) = inl e
window_form plan p c ok w (inr (s, pos, over, inl e)) = inr (inl (e ∙ ap planted (sym (over_window plan s p ok w over))))
window_form plan p c ok w (inr (s, pos, over, inr (inl e))) = inr (inr (e ∙ ap (λ k. lifted k (original_at plan p)) (sym (over_window plan s p ok w over))))
window_form plan p c ok w (inr (s, pos, over, inr (inr e))) = absurd (no_controlled plan s p ok w e.1)

module _ (plan : PlanView) (cell : ℕ → Cell) (sets : ℕ → ℕ → FactSet) (views : List View) (r : Held plan cell sets views) (id : ℕ) (v : View) (at : get_elem? views id ≡ some v) (root : v.role ≡ Root)
    (all : (t : ℕ) → Has t v.given → Has t v.joined) where
  -- any other party has nothing
  rest_is_spent : (j : ℕ) (u : View) → j ≢ id → get_elem? views j ≡ some u → u ≡ blank Spent
  rest_is_spent j u n here = by_role u.role refl
    where
      by_role : (q : Role) → u.role ≡ q → u ≡ blank Spent
      by_role Root is = absurd (n (first_only plan cell sets views r id v at j u here is ∙ sym (first_only plan cell sets views r id v at id v at root)))
      by_role (Task t) is = let q : IsRole views j (Task t) = subst (IsRole views j) is (r.roles j u here) in let y = q id v at root in absurd (y.1 (all t y.0))
      by_role Spent is = r.spent j u here is

  the_root : (G : View → Type 0) → (G (blank Spent) → ⊥) → ((j : ℕ) × (u : View) × (get_elem? views j ≡ some u) × G u) → G v
  the_root G none_there x = dite (ℕ_discrete x.0 id)
      (λ e. subst G (some-injective x.1 v (sym x.2 ∙ (ap (get_elem? views) e ∙ at))) x.3)
      (λ n. absurd (none_there (subst G (rest_is_spent x.0 x.1 n x.2) x.3)))

  pub end_marks : (s p : ℕ) (f : Fact) → p < length plan.places → 0 < s → has_fact (sets s p) f ≡ true → Has (s, p, f) v.marked
  end_marks s p f l pos h = the_root (λ u. Has (s, p, f) u.marked) (λ x. x) (r.known s p f l pos h)

  end_once : (s p : ℕ) → p < length plan.places → 0 < s → Once s (original_at plan p) (cell p) (times s p v.lifted)
  end_once s p l pos = subst (Once s (original_at plan p) (cell p)) (total_only (λ u. times s p u.lifted) views id v at (λ j u n here. ap (λ (z : View). times s p z.lifted) (rest_is_spent j u n here))) (r.once s p l pos)

  -- the tags are the root's last ones
  end_keeps : (s p : ℕ) → p < length plan.places → 0 < s → is_over plan s p ≡ true → KeepsAs plan v p Root
  end_keeps s p l pos over = ⊎_elim (λ e. inl (omega arith)) (λ c. let a = controller_of plan s p c in inr (a.0, a.1, given_back a.0 (has_number a.0 v.given) refl)) (over_cases plan s p over)
    where
      given_back : (t : ℕ) (b : Bool) → has_number t v.given ≡ b → (Has t v.given → ⊥) ⊎ Has t v.joined
      given_back t true e = inr (all t (number_there t v.given e))
      given_back t false e = inl (not_there t v.given e)

  tag_by_form : (p : ℕ) → p < length plan.places → IsForm plan p (cell p) → (cell p).tag ≡ last_tag p v.planted
  tag_by_form p l (inl e) = let tag : (cell p).tag ≡ 0 = ap (λ (z : Cell). z.tag) e in ⊎_elim (λ z. tag ∙ sym z)
      (λ h. let k = r.kept id v at in let x = (k.seen p (last_tag p v.planted) (k.planted p (last_tag p v.planted) h)).1 in omega arith) (last_has p v.planted)
  tag_by_form p l (inr (s, pos, over, e)) = r.ties id v at p l (subst (KeepsAs plan v p) (sym root) (end_keeps s p l pos over))

  pub end_tag : (p : ℕ) → p < length plan.places → (cell p).tag ≡ last_tag p v.planted
  end_tag p l = tag_by_form p l (r.site p l).form

  -- a session with a fact was planted
  pub end_planted : (s p : ℕ) (f : Fact) → p < length plan.places → 0 < s → has_fact (sets s p) f ≡ true → 2 * s ≤ last_tag p v.planted + 1
  end_planted s p f l pos h = dite (dec_le (2 * s) (last_tag p v.planted + 1)) (λ y. y)
      (λ n. let x = lt_of_not-le n in let t = end_tag p l in absurd ((r.site p l).empty s pos (omega arith) f h))

  pub end_over : (s p : ℕ) (f : Fact) → p < length plan.places → 0 < s → has_fact (sets s p) f ≡ true → is_over plan s p ≡ true
  end_over s p f l pos h = let x = r.known s p f l pos h in ((r.kept x.0 x.1 x.2).marked s p f x.3).2

  -- a whole session's full set was lifted, where the root met free or tried to lift what it met full
  end_lifts : (p : ℕ) → p < length plan.places → 0 < window_at plan p → ((s q : ℕ) → Has (s, q) v.full → Has (s, q) v.free) → is_full (kind_at plan p) (sets (window_at plan p) p) ≡ true → 1 ≤ times (window_at plan p) p v.lifted
  end_lifts p l w tried full = let s : ℕ = window_at plan p in let a = full_some (kind_at plan p) (sets s p) full in
      ⊎_elim
      (λ (e : cell p ≡ untouched (original_at plan p)). absurd ((r.site p l).empty s w (let t = ap (λ (z : Cell). z.tag) e in omega arith) a.0 a.1))
      (λ x. ⊎_elim
      (λ (e : cell p ≡ planted s). let owes = the_root (Owes s p) (λ z. z.0) (r.owed s p l w full e) in absurd (owes.1 (tried s p owes.0)))
      (λ (e : cell p ≡ lifted s (original_at plan p)). let one = (end_once s p l w).there e in omega arith) x)
      (window_form plan p (cell p) r.is_plan w (r.site p l).form)

  -- and what was lifted has a full set, of any session
  end_lifted : (s p : ℕ) → Has (s, p) v.lifted → is_full (kind_at plan p) (sets s p) ≡ true
  end_lifted s p h = let k = r.kept id v at in (k.full s p (k.free s p (k.lifted s p h).3).0).2

  lifted_once : (s p : ℕ) (b : Bool) → has_pair s p v.lifted ≡ b → 0 < s → p < length plan.places → times s p v.lifted ≤ one_of (is_full (kind_at plan p) (sets s p))
  lifted_once s p true e pos l = let few = (end_once s p l pos).most in subst (λ b. times s p v.lifted ≤ one_of b) (sym (end_lifted s p (pair_there s p v.lifted e))) few
  lifted_once s p false e pos l = let none = times_none s p v.lifted (λ h. let x = pair_shown s p v.lifted h in absurd cc) in omega arith

  pub lifts_least : ((s q : ℕ) → Has (s, q) v.full → Has (s, q) v.free) → count_below (λ p. nat_lt 0 (window_at plan p) && is_full (kind_at plan p) (sets (window_at plan p) p)) (length plan.places) ≤ length v.lifted
  lifts_least tried = let a = count_least (λ p. nat_lt 0 (window_at plan p) && is_full (kind_at plan p) (sets (window_at plan p) p)) (λ p. times (window_at plan p) p v.lifted) (length plan.places)
      (λ p l h. end_lifts p l (ltb-true 0 (window_at plan p) (and_parts (nat_lt 0 (window_at plan p)) _ h).0) tried (and_parts (nat_lt 0 (window_at plan p)) _ h).1) in
      let b = some_sum (window_at plan) (length plan.places) v.lifted in omega (arith, a, b)

  pub lifts_most : length v.lifted ≤ count_pairs (λ s p. is_full (kind_at plan p) (sets s p)) plan.sessions (length plan.places)
  lifts_most = let a = all_sum plan.sessions (length plan.places) v.lifted (λ s p h. let k = (r.kept id v at).lifted s p h in (k.1, over_small plan s p r.is_plan k.0 k.2, k.0)) in
      let b = pairs_most (λ s p. is_full (kind_at plan p) (sets s p)) (λ s p. times s p v.lifted) plan.sessions (length plan.places) (λ s p pos _ l. lifted_once s p (has_pair s p v.lifted) refl pos l) in omega (arith, a, b)
