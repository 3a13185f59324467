-- The steps on cells and sets, and the seats split and joined, where the tasks' words stand behind.
use Rattle.std.proofs.Common.{◌≡◌, ◌≢◌, ℕ, ◌*◌, ◌%◌, ◌^◌, ◌<◌, ◌≤◌, Bool, true, false, nat_eq, eqb, if◌then◌else◌, List, length, get_or, set, sym, refl, ap, ◌∙◌, subst, ⊎_elim, arith, bit_or, length-set, get_or-set_same, get_or-set_other, eq-eqb, ne_eqb, ◌∷◌}
use Rattle.std.proofs.lemmas.Option.{cond_some}
use Rattle.std.proofs.lemmas.List.{length-take-le, get_or-take}
use Rattle.std.proofs.Math.Seq.{take-set-lt}
use lib.Seq.{set-get_or}
use mathlib.Core.Path.{fun_ext}
use mathlib.Core.Logic.{dite}
use mathlib.Core.Option.{some}
use native.Mathlib.Decide.{ℕ_discrete}
use lib.ListN.{get_elem?}
use prog.Atomic.{either}
use Rattle.atomic_table.proofs.Lists.{set_else, set_again}
use Rattle.atomic_table.specs.Table.{State, Me, Allows, Splits, Joins, carried_after}
use Rattle.cov_base.specs.declared.facts.Fact.{Fact}
use Rattle.cov_base.specs.Meaning.{FactSet, has_fact, breakpoint}
use Rattle.module_area.specs.declared.cells.Cell.{Cell}
use Rattle.module_area.specs.declared.parties.View.{View}
use Rattle.module_area.specs.declared.parties.Role.TheVariants.{Root, Task, Spent}
use Rattle.module_area.specs.Meaning.{PlanView, original_at, kind_at, is_over, is_controlled, tag_next}
use Rattle.module_area.specs.Rule.{has_task, Has, last_tag, window_tag, blank, is_breakpoint, fetching, marking, lifting, planting, Keeps, Held}
use Rattle.module_area.specs.Parties.{closing, giving, newcomer, joining}
use Rattle.module_area.specs.Drained.{Drained}
use Rattle.module_area.specs.Race.{Raced}
use Rattle.module_area.specs.declared.parties.Beat.TheVariants.{Met, Gave}
use Rattle.module_area.proofs.Laws.{splits, joins, mark_drained, cell_drained, fetch_drained, split_drained, join_drained, still_raced, met_raced, beat_raced, split_raced, join_raced}
use Rattle.shared_area.specs.declared.rule.NoSlot.{NoSlot}
use Rattle.module_area.specs.Words.{cell_of}
use Rattle.shared_area.specs.Words.{word_of, closed_word_of, bit_of, facts_of, set_word, cells_in, sets_in, base_of, front, task_word, numbers_in}
use Rattle.shared_area.specs.Rule.{IsArea, Fetched, MayMark, Marked, Looked, Lifted}
use Rattle.shared_area.proofs.Picked.{IsFront, Tagged}
use Rattle.shared_area.proofs.WordLemmas.{cell_of-word_of, cell_of-closed_word_of, cell_front, set_front}
use Rattle.shared_area.proofs.RootLemmas.{rooted_set, rooted_more, rooted_other}
use Rattle.shared_area.proofs.TableLemmas.{added, other_cell, cell_no_set, set_no_cell, other_set, lift_did, fetch_allowed, mark_allowed, look_allowed, lift_allowed, plant_allowed, close_allowed}

module _ (plan : PlanView) where
  abbrev pub St : Type 0
  St = State NoSlot View

  abbrev pub front_state : St → St
  front_state s = record { words = front plan s.words; homes = s.homes; views = s.views }

  pub front_of : (s : St) → IsArea plan s → IsFront plan (front_state s)
  front_of s r = record { wide = let w = r.wide in let a = length-take-le (base_of plan) s.words (omega (arith, w)) in omega (arith, a); held = r.held }

  -- a write before the tasks' words leaves these
  numbers_kept : (ws : List ℕ) (i x : ℕ) → i < base_of plan → numbers_in plan (set ws i x) ≡ numbers_in plan ws
  numbers_kept ws i x li = fun_ext (λ t. ap (λ k. if has_task plan.tasks t then k else 0) (get_or-set_other ws i (task_word plan t) x 0 (λ e. absurd (omega arith))))

  abbrev pub DrainedOf : List ℕ → List ℕ → List View → Type 0
  DrainedOf ws all views = Drained plan (cells_in ws) (sets_in plan ws) (numbers_in plan all) views

  -- a step on cells and sets is one with the tasks' words behind, where it keeps the rule's part on these, and the role
  pub wider : (slots id i : ℕ) (me : Me NoSlot View) (f : ℕ → ℕ) (tells : ℕ → Me NoSlot View → Type 0) → i < base_of plan → Allows (IsFront plan) slots id me i f tells
      → ((w : ℕ) (m : Me NoSlot View) → tells w m → m.0.role ≡ me.0.role)
      → ((s : St) → IsArea plan s → get_elem? s.views id ≡ some me.0 → (m : Me NoSlot View) → tells (get_or (front plan s.words) i 0) m
      → DrainedOf (set (front plan s.words) i (f (get_or (front plan s.words) i 0))) s.words (set s.views id m.0))
      → ((s : St) → IsArea plan s → get_elem? s.views id ≡ some me.0 → (m : Me NoSlot View) → tells (get_or (front plan s.words) i 0) m
      → Raced plan (cells_in (set (front plan s.words) i (f (get_or (front plan s.words) i 0)))) (set s.views id m.0))
      → Allows (IsArea plan) slots id me i f tells
  wider slots id i me f tells li old plays drains races s r homes at lt =
      let here : get_or (front plan s.words) i 0 ≡ get_or s.words i 0 = get_or-take (base_of plan) s.words i 0 li in
      let x : ℕ = f (get_or s.words i 0) in
      let o = old (front_state s) (front_of s r) homes at (subst (λ k. k < 18446744073709551616) (sym here) lt) in
      let same : set (front plan s.words) i (f (get_or (front plan s.words) i 0)) ≡ front plan (set s.words i x) = ap (λ k. set (front plan s.words) i (f k)) here ∙ sym (take-set-lt (base_of plan) s.words i x li) in (
        o.0,
        o.1,
        o.2,
        record {
          wide = let w = r.wide in let n = length-set s.words i x in omega (arith, w, n);
          rooted = rooted_set s.views id me.0 o.0 at (plays (get_or (front plan s.words) i 0) (o.0, carried_after me.1 o.1) o.4) r.rooted;
          held = subst (λ ws. Held plan (cells_in ws) (sets_in plan ws) (set s.views id o.0)) same o.3.held;
          drained = subst (λ (z : List ℕ × (ℕ → ℕ)). Drained plan (cells_in z.0) (sets_in plan z.0) z.1 (set s.views id o.0)) (λ j. (same j, sym (numbers_kept s.words i x li) j))
              (drains s r at (o.0, carried_after me.1 o.1) o.4);
          raced = subst (λ (ws : List ℕ). Raced plan (cells_in ws) (set s.views id o.0)) same (races s r at (o.0, carried_after me.1 o.1) o.4);
        },
        subst (λ k. tells k (o.0, carried_after me.1 o.1)) here o.4,
      )

  pub fetch_stands : (slots id p t : ℕ) (me : Me NoSlot View) → me.0.role ≡ Task t → last_tag t me.0.numbers % 2 ≢ 1 → me.0.role ≢ Spent → p < length plan.places
      → Allows (IsArea plan) slots id me p (λ w. w) (λ w me'. Fetched plan p me.0 (cell_of w) me'.0 × (me'.1 ≡ me.1))
  fetch_stands slots id p t me bears even live l = wider slots id p me (λ w. w) (λ w me'. Fetched plan p me.0 (cell_of w) me'.0 × (me'.1 ≡ me.1)) (cell_front plan p l) (fetch_allowed plan slots id p me live l) (λ w m told. ap (λ (v : View). v.role) told.0.after)
      (λ s r at m told. let F : List ℕ = front plan s.words in let c : Cell = cell_of (get_or F p 0) in
      subst (λ (z : List ℕ × View). DrainedOf z.0 s.words (set s.views id z.1)) (λ j. (sym (set-get_or F p 0) j, sym told.0.after j))
      (fetch_drained plan (cells_in F) (sets_in plan F) (numbers_in plan s.words) s.views r.held r.drained id me.0 at t p c (fetching plan p c me.0) bears even refl
      (λ q x e. let same = (cond_some (is_breakpoint c) (p, c.tag) (q, x) e).1 in (sym (ap (λ (y : ℕ × ℕ). y.0) same), sym (ap (λ (y : ℕ × ℕ). y.1) same))) refl refl refl refl refl refl))
      (λ s r at m told. let F : List ℕ = front plan s.words in let c : Cell = cell_of (get_or F p 0) in
      subst (λ (z : List ℕ × View). Raced plan (cells_in z.0) (set s.views id z.1)) (λ j. (sym (set-get_or F p 0) j, sym told.0.after j))
      (met_raced plan (cells_in F) (sets_in plan F) s.views r.held r.raced id me.0 at (fetching plan p c me.0) p l live refl refl refl refl refl))

  pub mark_stands : (slots id s p : ℕ) (f : Fact) (me : Me NoSlot View) → MayMark plan s p f me.0
      → Allows (IsArea plan) slots id me (set_word (length plan.places) s p) (λ x. bit_or x (2 ^ bit_of p f)) (λ w me'. Marked plan s p f me.0 (facts_of (kind_at plan p) p w) me'.0 × (me'.1 ≡ me.1))
  mark_stands slots id s p f me may = let i : ℕ = set_word (length plan.places) s p in let inside = set_front plan s p may.session may.in_plan may.place in
      wider slots id i me (λ x. bit_or x (2 ^ bit_of p f)) (λ w me'. Marked plan s p f me.0 (facts_of (kind_at plan p) p w) me'.0 × (me'.1 ≡ me.1)) inside (mark_allowed plan slots id s p f me may) (λ w m told. ap (λ (v : View). v.role) told.0.after)
      (λ st r at m told. let F : List ℕ = front plan st.words in let x : ℕ = added plan F s p f in let wide = (front_of st r).wide in
      subst (λ (z : View). DrainedOf (set F i x) st.words (set st.views id z)) (sym told.0.after)
      (mark_drained plan (cells_in F) (sets_in plan F) (numbers_in plan st.words) st.views r.held r.drained id me.0 at s p may.pending may.session (cells_in (set F i x)) (sets_in plan (set F i x)) (marking plan s p f (sets_in plan F s p) me.0)
      refl refl refl refl refl refl refl (λ q lq. set_no_cell plan F s p x q lq) (λ t q lq pos no. other_set plan F s p f t q may.session pos may.place lq (omega (arith, inside, wide)) no)))
      (λ st r at m told. let F : List ℕ = front plan st.words in let x : ℕ = added plan F s p f in
      subst (λ (z : View). Raced plan (cells_in (set F i x)) (set st.views id z)) (sym told.0.after)
      (still_raced plan (cells_in F) (sets_in plan F) st.views r.held r.raced id me.0 at (cells_in (set F i x)) (marking plan s p f (sets_in plan F s p) me.0)
      (λ q lq. ap (λ (c : Cell). c.tag) (set_no_cell plan F s p x q lq)) refl refl refl refl refl))

  look_drained : (s : St) (r : IsArea plan s) (id t p : ℕ) (f : Fact) (is : FactSet → Bool) (v w : View) → get_elem? s.views id ≡ some v → MayMark plan t p f v → Looked is plan t p f v (sets_in plan (front plan s.words) t p) w
      → (b : Bool) → is (sets_in plan (front plan s.words) t p) ≡ b → DrainedOf (front plan s.words) s.words (set s.views id w)
  look_drained s r id t p f is v w at may told true e = let F : List ℕ = front plan s.words in subst (λ (z : View). DrainedOf F s.words (set s.views id z)) (sym (told.there e).after)
      (mark_drained plan (cells_in F) (sets_in plan F) (numbers_in plan s.words) s.views r.held r.drained id v at t p may.pending may.session (cells_in F) (sets_in plan F) (marking plan t p f (sets_in plan F t p) v)
      refl refl refl refl refl refl refl (λ q _. refl) (λ u q _ _ _. refl))
  look_drained s r id t p f is v w at may told false e = subst (λ (vs : List View). DrainedOf (front plan s.words) s.words vs) (sym (set_again s.views id v at) ∙ ap (set s.views id) (sym (told.wanting e))) r.drained

  look_raced : (s : St) (r : IsArea plan s) (id t p : ℕ) (f : Fact) (is : FactSet → Bool) (v w : View) → get_elem? s.views id ≡ some v → Looked is plan t p f v (sets_in plan (front plan s.words) t p) w
      → (b : Bool) → is (sets_in plan (front plan s.words) t p) ≡ b → Raced plan (cells_in (front plan s.words)) (set s.views id w)
  look_raced s r id t p f is v w at told true e = let F : List ℕ = front plan s.words in subst (λ (z : View). Raced plan (cells_in F) (set s.views id z)) (sym (told.there e).after)
      (still_raced plan (cells_in F) (sets_in plan F) s.views r.held r.raced id v at (cells_in F) (marking plan t p f (sets_in plan F t p) v) (λ q _. refl) refl refl refl refl refl)
  look_raced s r id t p f is v w at told false e = subst (λ (vs : List View). Raced plan (cells_in (front plan s.words)) vs) (sym (set_again s.views id v at) ∙ ap (set s.views id) (sym (told.wanting e))) r.raced

  look_plays : (s p : ℕ) (f : Fact) (is : FactSet → Bool) (v w : View) (found : FactSet) → Looked is plan s p f v found w → (b : Bool) → is found ≡ b → w.role ≡ v.role
  look_plays s p f is v w found told true e = ap (λ (u : View). u.role) (told.there e).after
  look_plays s p f is v w found told false e = ap (λ (u : View). u.role) (told.wanting e)

  pub look_stands : (slots id s p : ℕ) (f : Fact) (is : FactSet → Bool) (has : (x : FactSet) → is x ≡ true → has_fact x f ≡ true) (me : Me NoSlot View) → MayMark plan s p f me.0
      → Allows (IsArea plan) slots id me (set_word (length plan.places) s p) (λ x. x) (λ w me'. Looked is plan s p f me.0 (facts_of (kind_at plan p) p w) me'.0 × (me'.1 ≡ me.1))
  look_stands slots id s p f is has me may = let i : ℕ = set_word (length plan.places) s p in
      wider slots id i me (λ x. x) (λ w me'. Looked is plan s p f me.0 (facts_of (kind_at plan p) p w) me'.0 × (me'.1 ≡ me.1)) (set_front plan s p may.session may.in_plan may.place) (look_allowed plan slots id s p f is has me may)
      (λ w m told. look_plays s p f is me.0 m.0 (facts_of (kind_at plan p) p w) told.0 (is (facts_of (kind_at plan p) p w)) refl)
      (λ st r at m told. let F : List ℕ = front plan st.words in
      subst (λ ws. DrainedOf ws st.words (set st.views id m.0)) (sym (set-get_or F i 0)) (look_drained st r id s p f is me.0 m.0 at may told.0 (is (sets_in plan F s p)) refl))
      (λ st r at m told. let F : List ℕ = front plan st.words in
      subst (λ ws. Raced plan (cells_in ws) (set st.views id m.0)) (sym (set-get_or F i 0)) (look_raced st r id s p f is me.0 m.0 at told.0 (is (sets_in plan F s p)) refl))

  -- a write to a cell that doesn't lower its tag
  cell_stands : (s : St) (r : IsArea plan s) (id p x : ℕ) (v w : View) → get_elem? s.views id ≡ some v → p < length plan.places → (cells_in (front plan s.words) p).tag ≤ (cell_of x).tag
      → w.role ≡ v.role → w.pending ≡ v.pending → w.joined ≡ v.joined → w.given ≡ v.given → w.numbers ≡ v.numbers → w.noted ≡ v.noted → w.settled ≡ v.settled
      → DrainedOf (set (front plan s.words) p x) s.words (set s.views id w)
  cell_stands s r id p x v w at l up e1 e2 e3 e4 e5 e6 e7 = let F : List ℕ = front plan s.words in let wide = (front_of s r).wide in let inside = cell_front plan p l in
      cell_drained plan (cells_in F) (sets_in plan F) (numbers_in plan s.words) s.views r.held r.drained id v at (cells_in (set F p x)) (sets_in plan (set F p x)) w e1 e2 e3 e4 e5 e6 e7
      (λ q lq. dite (ℕ_discrete q p)
      (λ e. let here : cells_in (set F p x) p ≡ cell_of x = ap cell_of (get_or-set_same F p x 0 (omega (arith, wide, inside))) in
      let a : (cells_in (set F p x) q).tag ≡ (cell_of x).tag = ap (λ k. (cells_in (set F p x) k).tag) e ∙ ap (λ (z : Cell). z.tag) here in let b : (cells_in F q).tag ≡ (cells_in F p).tag = ap (λ k. (cells_in F k).tag) e in omega (arith, a, b, up))
      (λ n. let a : (cells_in (set F p x) q).tag ≡ (cells_in F q).tag = ap (λ (z : Cell). z.tag) (other_cell plan F p x q n) in omega (arith, a)))
      (λ t q lq _. cell_no_set plan F p x t q l)

  -- the tags after a write to a cell
  tag_written : (s : St) (r : IsArea plan s) (p x q : ℕ) (T : ℕ → ℕ) → p < length plan.places → T p ≡ (cell_of x).tag → ((k : ℕ) → k ≢ p → T k ≡ (cells_in (front plan s.words) k).tag)
      → (cells_in (set (front plan s.words) p x) q).tag ≡ T q
  tag_written s r p x q T l here there = let F : List ℕ = front plan s.words in let wide = (front_of s r).wide in let inside = cell_front plan p l in dite (ℕ_discrete q p)
      (λ e. ap (λ k. (cells_in (set F p x) k).tag) e ∙ (ap (λ k. (cell_of k).tag) (get_or-set_same F p x 0 (omega (arith, wide, inside))) ∙ (sym here ∙ ap T (sym e))))
      (λ n. ap (λ (z : Cell). z.tag) (other_cell plan F p x q n) ∙ sym (there q n))

  -- a write that gives the place a tag
  gave_stands : (s : St) (r : IsArea plan s) (id p x t : ℕ) (v w : View) → get_elem? s.views id ≡ some v → p < length plan.places → (cell_of x).tag ≡ t → v.role ≢ Spent
      → w.role ≡ v.role → w.beats ≡ Gave p t ∷ v.beats → w.given ≡ v.given → w.joined ≡ v.joined → w.back ≡ v.back → Raced plan (cells_in (set (front plan s.words) p x)) (set s.views id w)
  gave_stands s r id p x t v w at l tag live e1 e2 e3 e4 e5 = let F : List ℕ = front plan s.words in
      beat_raced plan (cells_in F) (sets_in plan F) s.views r.held r.raced id v at (cells_in (set F p x)) w (Gave p t) live tt
      (λ q lq. tag_written s r p x q (λ k. tag_next k (cells_in F k).tag (Gave p t)) l (ap (λ b. if b then t else (cells_in F p).tag) (eq-eqb p p refl) ∙ sym tag) (λ k n. ap (λ b. if b then t else (cells_in F k).tag) (ne_eqb p k (λ e. n (sym e)))))
      e1 e2 e3 e4 e5

  pub lift_stands : (slots id s p : ℕ) (me : Me NoSlot View) → original_at plan p < 65536 → me.0.role ≢ Spent → p < length plan.places → 0 < s → Has (s, p) me.0.full
      → Allows (IsArea plan) slots id me p (λ x. either (eqb x (word_of s breakpoint)) (word_of s (original_at plan p)) x) (λ w me'. Lifted s p (word_of s breakpoint) me.0 w me'.0 × (me'.1 ≡ me.1))
  lift_stands slots id s p me small live l pos met = wider slots id p me (λ x. either (eqb x (word_of s breakpoint)) (word_of s (original_at plan p)) x) (λ w me'. Lifted s p (word_of s breakpoint) me.0 w me'.0 × (me'.1 ≡ me.1)) (cell_front plan p l) (lift_allowed plan slots id s p me small live l pos met) (λ w m told. ap (λ (v : View). v.role) told.0.after)
      (λ st r at m told. let c : ℕ = get_or (front plan st.words) p 0 in let x : ℕ = either (eqb c (word_of s breakpoint)) (word_of s (original_at plan p)) c in
      let did = lift_did plan (original_at plan p) s c x small refl in
      let tag : (cell_of c).tag ≡ (cell_of x).tag = ⊎_elim (λ a. ap (λ (z : Cell). z.tag) a.1 ∙ sym (ap (λ (z : Cell). z.tag) a.2)) (λ a. sym (ap (λ (z : Cell). z.tag) a.2)) did in
      subst (λ (z : View). DrainedOf (set (front plan st.words) p x) st.words (set st.views id z)) (sym told.0.after)
      (cell_stands st r id p x me.0 (lifting s p (nat_eq c (word_of s breakpoint)) me.0) at l (omega (arith, tag)) refl refl refl refl refl refl refl))
      (λ st r at m told. let F : List ℕ = front plan st.words in let c : ℕ = get_or F p 0 in let x : ℕ = either (eqb c (word_of s breakpoint)) (word_of s (original_at plan p)) c in
      let did = lift_did plan (original_at plan p) s c x small refl in
      let tag : (cell_of c).tag ≡ (cell_of x).tag = ⊎_elim (λ a. ap (λ (z : Cell). z.tag) a.1 ∙ sym (ap (λ (z : Cell). z.tag) a.2)) (λ a. sym (ap (λ (z : Cell). z.tag) a.2)) did in
      subst (λ (z : View). Raced plan (cells_in (set F p x)) (set st.views id z)) (sym told.0.after)
      (still_raced plan (cells_in F) (sets_in plan F) st.views r.held r.raced id me.0 at (cells_in (set F p x)) (lifting s p (nat_eq c (word_of s breakpoint)) me.0)
      (λ q lq. tag_written st r p x q (λ k. (cells_in F k).tag) l tag (λ k n. refl)) refl refl refl refl refl))

  pub plant_stands : (slots id s p : ℕ) (me : Me NoSlot View) → me.0.role ≢ Spent → p < length plan.places → Keeps plan me.0 p → 0 < s → is_over plan s p ≡ true → last_tag p me.0.planted < window_tag s
      → Allows (IsArea plan) slots id me p (λ _. word_of s breakpoint) (λ _ me'. Tagged p (window_tag s) me.0 me'.0 × (me'.1 ≡ me.1))
  plant_stands slots id s p me live l keep pos over later = wider slots id p me (λ _. word_of s breakpoint) (λ _ me'. Tagged p (window_tag s) me.0 me'.0 × (me'.1 ≡ me.1)) (cell_front plan p l) (plant_allowed plan slots id s p me live l keep pos over later) (λ w m told. ap (λ (v : View). v.role) told.0.after)
      (λ st r at m told. let tie = r.held.ties id me.0 at p l keep in let tag : (cell_of (word_of s breakpoint)).tag ≡ window_tag s = ap (λ (z : Cell). z.tag) (cell_of-word_of s breakpoint (omega arith)) in
      subst (λ (z : View). DrainedOf (set (front plan st.words) p (word_of s breakpoint)) st.words (set st.views id z)) (sym told.0.after)
      (cell_stands st r id p (word_of s breakpoint) me.0 (planting s p me.0) at l (omega (arith, tie, tag, later)) refl refl refl refl refl refl refl))
      (λ st r at m told. let tag : (cell_of (word_of s breakpoint)).tag ≡ window_tag s = ap (λ (z : Cell). z.tag) (cell_of-word_of s breakpoint (omega arith)) in
      subst (λ (z : View). Raced plan (cells_in (set (front plan st.words) p (word_of s breakpoint))) (set st.views id z)) (sym told.0.after)
      (gave_stands st r id p (word_of s breakpoint) (window_tag s) me.0 (planting s p me.0) at l tag live refl refl refl refl refl))

  pub close_stands : (slots id s p : ℕ) (me : Me NoSlot View) → original_at plan p < 65536 → me.0.role ≢ Spent → p < length plan.places → Keeps plan me.0 p → 0 < s → is_controlled plan s p ≡ true → last_tag p me.0.planted ≡ window_tag s
      → Allows (IsArea plan) slots id me p (λ _. closed_word_of s (original_at plan p)) (λ _ me'. Tagged p (2 * s) me.0 me'.0 × (me'.1 ≡ me.1))
  close_stands slots id s p me small live l keep pos its is_open = wider slots id p me (λ _. closed_word_of s (original_at plan p)) (λ _ me'. Tagged p (2 * s) me.0 me'.0 × (me'.1 ≡ me.1)) (cell_front plan p l) (close_allowed plan slots id s p me small live l keep pos its is_open) (λ w m told. ap (λ (v : View). v.role) told.0.after)
      (λ st r at m told. let tie = r.held.ties id me.0 at p l keep in let tag : (cell_of (closed_word_of s (original_at plan p))).tag ≡ 2 * s = ap (λ (z : Cell). z.tag) (cell_of-closed_word_of s (original_at plan p) small) in
      subst (λ (z : View). DrainedOf (set (front plan st.words) p (closed_word_of s (original_at plan p))) st.words (set st.views id z)) (sym told.0.after)
      (cell_stands st r id p (closed_word_of s (original_at plan p)) me.0 (closing s p me.0) at l (omega (arith, tie, tag, is_open)) refl refl refl refl refl refl refl))
      (λ st r at m told. let tag : (cell_of (closed_word_of s (original_at plan p))).tag ≡ 2 * s = ap (λ (z : Cell). z.tag) (cell_of-closed_word_of s (original_at plan p) small) in
      subst (λ (z : View). Raced plan (cells_in (set (front plan st.words) p (closed_word_of s (original_at plan p)))) (set st.views id z)) (sym told.0.after)
      (gave_stands st r id p (closed_word_of s (original_at plan p)) (2 * s) me.0 (closing s p me.0) at l tag live refl refl refl refl refl))

  pub split_stands : (id t : ℕ) (v : View) → v.role ≡ Root → (Has t v.given → ⊥) → has_task plan.tasks t ≡ true → Splits (IsArea plan) id v (giving t v) (newcomer plan t v)
  split_stands id t v root new task s r at = let F : List ℕ = front plan s.words in record {
    wide = r.wide;
    rooted = rooted_more (set s.views id (giving t v)) (newcomer plan t v) (rooted_set s.views id v (giving t v) at refl r.rooted);
    held = splits plan (cells_in F) (sets_in plan F) s.views r.held id v at root t new;
    drained = split_drained plan (cells_in F) (sets_in plan F) (numbers_in plan s.words) s.views r.held r.drained id v at root t new task;
    raced = split_raced plan (cells_in F) (sets_in plan F) s.views r.held r.raced id v at root t new;
  }

  pub join_stands : (id k t : ℕ) (v o : View) → v.role ≡ Root → o.role ≡ Task t → Joins (IsArea plan) id v k o (joining plan v o) (blank Spent)
  join_stands id k t v o root bears s r at other there = let F : List ℕ = front plan s.words in let here : get_elem? s.views k ≡ some o = sym (set_else s.views id k (joining plan v o) other) ∙ there in record {
    wide = r.wide;
    rooted = rooted_other (set s.views id (joining plan v o)) k t o (blank Spent) there bears (rooted_set s.views id v (joining plan v o) at refl r.rooted);
    held = joins plan (cells_in F) (sets_in plan F) s.views r.held id v at root k o here t bears other;
    drained = join_drained plan (cells_in F) (sets_in plan F) (numbers_in plan s.words) s.views r.held r.drained id v at root k o here t bears;
    raced = join_raced plan (cells_in F) (sets_in plan F) s.views r.held r.raced id v at root k o here t bears;
  }
