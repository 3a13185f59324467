-- The steps on the tasks' words.
use Rattle.std.proofs.Common.{◌≡◌, ◌≢◌, ℕ, ◌+◌, ◌%◌, ◌<◌, ◌≤◌, Bool, true, false, if◌then◌else◌, Some, unwrap_or, List, length, get_or, set, map, sym, refl, ap, ◌∙◌, subst, arith, length-set, get_or-set_same, get_or-set_other}
use Rattle.std.proofs.lemmas.List.{get_or-map, get_or-take, length-map, take-set-le}
use lib.Seq.{set-get_or}
use Rattle.atomic_table.specs.Table.{Me, keeps, Allows}
use Rattle.module_area.specs.declared.parties.View.{View}
use Rattle.module_area.specs.declared.parties.Role.{Role}
use Rattle.module_area.specs.declared.parties.Role.TheVariants.{Root, Task, Spent}
use Rattle.cov_base.specs.Meaning.{FactSet}
use Rattle.module_area.specs.Meaning.{PlanView, kind_at}
use Rattle.module_area.specs.Rule.{has_task, last_tag, Held}
use Rattle.module_area.specs.Parties.{role_task, bounding, noting, reading}
use Rattle.module_area.specs.Drained.{Noted, IsNumber, Drained}
use Rattle.module_area.specs.Race.{Raced}
use Rattle.module_area.specs.Notes.{NotedView, IsFound, is_final, no_tally}
use Rattle.module_area.proofs.Laws.{quiet, still_raced, bound_drained, note_drained, read_drained}
use Rattle.shared_area.specs.declared.rule.NoSlot.{NoSlot}
use Rattle.shared_area.specs.Words.{facts_of, set_word, cells_in, sets_in, base_of, front, position, task_word, numbers_in}
use Rattle.shared_area.specs.Told.{told_note, bears_as, notes_in}
use Rattle.shared_area.specs.Rule.{IsArea, SetRead}
use Rattle.shared_area.proofs.Picked.{Bounded, WordNoted, no_task}
use Rattle.shared_area.proofs.WordLemmas.{set_front, position_at, task_there}
use Rattle.shared_area.proofs.AnswerLemmas.{founds}
use Rattle.shared_area.proofs.NoteLemmas.{settled_there}
use Rattle.shared_area.proofs.RootLemmas.{rooted_set}
use Rattle.shared_area.proofs.PastLemmas.{no_note, has_at, final_there}

same_position : (plan : PlanView) (t u : ℕ) → has_task plan.tasks t ≡ true → has_task plan.tasks u ≡ true → position plan.tasks t ≡ position plan.tasks u → t ≡ u
same_position plan t u ht hu e = sym (position_at plan.tasks t ht).1 ∙ (ap (λ k. (get_or plan.tasks k no_task).0) e ∙ (position_at plan.tasks u hu).1)

own_number : (t word : ℕ) (v : View) (q : Role) → bears_as q ≡ Some t → IsNumber v t word q → word ≡ last_tag (unwrap_or (bears_as q) 0) v.numbers
own_number t word v (Task u) e k = let same : u ≡ t = cc in k same ∙ ap (λ j. last_tag j v.numbers) (sym same)
own_number t word v Root e k = absurd cc
own_number t word v Spent e k = absurd cc

module _ (plan : PlanView) where
  number_read : (ws : List ℕ) (t : ℕ) → has_task plan.tasks t ≡ true → numbers_in plan ws t ≡ get_or ws (task_word plan t) 0
  number_read ws t task = ap (λ b. if b then get_or ws (task_word plan t) 0 else 0) task

  -- a write to the word of one task leaves the others'
  other_number : (ws : List ℕ) (t u x : ℕ) (b : Bool) → has_task plan.tasks t ≡ true → has_task plan.tasks u ≡ b → u ≢ t
      → (if b then get_or (set ws (task_word plan t) x) (task_word plan u) 0 else 0) ≡ (if b then get_or ws (task_word plan u) 0 else 0)
  other_number ws t u x true ht hu n = get_or-set_other ws (task_word plan t) (task_word plan u) x 0 (λ e. n (same_position plan u t hu ht (omega (arith, e))))
  other_number ws t u x false ht hu n = refl

  -- ---- Note
  pub note_stands : (slots id t : ℕ) (me : Me NoSlot View) → me.0.role ≢ Spent → has_task plan.tasks t ≡ true
      → Allows (IsArea plan) slots id me (task_word plan t) (λ w. w) (λ w me'. WordNoted t me.0 w me'.0 × (me'.1 ≡ me.1))
  note_stands slots id t me live task s r _ at _ = let F : List ℕ = front plan s.words in let i : ℕ = task_word plan t in let c : ℕ = get_or s.words i 0 in let w : View = noting t c me.0 in
      let is : numbers_in plan s.words t ≡ c = number_read s.words t task in (
        w,
        keeps,
        tt,
        subst (λ ws. IsArea plan record { words = ws; homes = s.homes; views = set s.views id w }) (sym (set-get_or s.words i 0)) record {
          wide = r.wide;
          rooted = rooted_set s.views id me.0 w at refl r.rooted;
          held = quiet plan (cells_in F) (sets_in plan F) s.views r.held id me.0 at live w refl refl refl refl refl refl refl refl refl (λ p x e. e);
          drained = subst (λ k. Drained plan (cells_in F) (sets_in plan F) (numbers_in plan s.words) (set s.views id (noting t k me.0))) is
              (note_drained plan (cells_in F) (sets_in plan F) (numbers_in plan s.words) s.views r.held r.drained id me.0 at t);
          raced = still_raced plan (cells_in F) (sets_in plan F) s.views r.held r.raced id me.0 at (cells_in F) w (λ p _. refl) refl refl refl refl refl;
        },
        (
          record {
            after = refl;
            is_word = record {
              noted = λ k d l e. let size = length-map me.0.noted told_note in let lk : k < length me.0.noted = omega (arith, size, l) in
                  let x : Noted = get_or me.0.noted k no_note in let same : get_or (map told_note me.0.noted) k d ≡ told_note x = get_or-map told_note me.0.noted k no_note d lk in
                  let low = r.drained.noted id me.0 x at (has_at me.0.noted k no_note lk) in
                  let a : (get_or (map told_note me.0.noted) k d).number ≡ x.1 = ap (λ (z : NotedView). z.number) same in
                  let b : numbers_in plan s.words x.0 ≡ numbers_in plan s.words t = ap (numbers_in plan s.words) (sym (ap (λ (z : NotedView). z.task) same) ∙ e) in omega (arith, low, a, b, is);
              own = λ e. sym is ∙ own_number t (numbers_in plan s.words t) me.0 me.0.role e (r.drained.number id me.0 t at task);
            };
          },
          refl,
        ),
      )

  -- ---- Boundary
  bound_by : (slots id t k : ℕ) (me : Me NoSlot View) → me.0.role ≡ Task t → me.0.role ≢ Spent → has_task plan.tasks t ≡ true → last_tag t me.0.numbers + k < 18446744073709551616
      → Allows (IsArea plan) slots id me (task_word plan t) (λ w. (w + k) % 18446744073709551616) (λ w me'. (me'.0 ≡ bounding t (w + k) me.0) × (w ≡ last_tag t me.0.numbers) × (me'.1 ≡ me.1))
  bound_by slots id t k me bears live task small s r _ at _ = let F : List ℕ = front plan s.words in let i : ℕ = task_word plan t in let c : ℕ = get_or s.words i 0 in let w : View = bounding t (c + k) me.0 in let x : ℕ = (c + k) % 18446744073709551616 in
      let is : numbers_in plan s.words t ≡ c = number_read s.words t task in
      let own : numbers_in plan s.words t ≡ last_tag t me.0.numbers = (subst (IsNumber me.0 t (numbers_in plan s.words t)) bears (r.drained.number id me.0 t at task)) refl in
      let x_is : x ≡ c + k = omega (arith, is, own, small) in
      let inside : i < length s.words = let a = task_there plan t task in let b = r.wide in omega (arith, a, b) in
      let same : front plan (set s.words i x) ≡ F = take-set-le (base_of plan) s.words i x (omega arith) in (
        w,
        keeps,
        tt,
        record {
          wide = let a = r.wide in let b = length-set s.words i x in omega (arith, a, b);
          rooted = rooted_set s.views id me.0 w at refl r.rooted;
          held = subst (λ ws. Held plan (cells_in ws) (sets_in plan ws) (set s.views id w)) (sym same)
              (quiet plan (cells_in F) (sets_in plan F) s.views r.held id me.0 at live w refl refl refl refl refl refl refl refl refl (λ p y e. absurd cc));
          drained = subst (λ ws. Drained plan (cells_in ws) (sets_in plan ws) (numbers_in plan (set s.words i x)) (set s.views id w)) (sym same)
              (bound_drained plan (cells_in F) (sets_in plan F) (numbers_in plan s.words) s.views r.held r.drained id me.0 at t (c + k) (numbers_in plan (set s.words i x)) bears
              (number_read (set s.words i x) t task ∙ (get_or-set_same s.words i x 0 inside ∙ x_is)) (omega (arith, is)) (λ u n. other_number s.words t u x (has_task plan.tasks u) task refl n));
          raced = subst (λ ws. Raced plan (cells_in ws) (set s.views id w)) (sym same) (still_raced plan (cells_in F) (sets_in plan F) s.views r.held r.raced id me.0 at (cells_in F) w (λ p _. refl) refl refl refl refl refl);
        },
        (refl, sym is ∙ own, refl),
      )

  pub bound_stands : (slots id t k : ℕ) (me : Me NoSlot View) → me.0.role ≡ Task t → me.0.role ≢ Spent → has_task plan.tasks t ≡ true → last_tag t me.0.numbers + k < 18446744073709551616
      → Allows (IsArea plan) slots id me (task_word plan t) (λ w. (w + k) % 18446744073709551616) (λ w me'. Bounded k me.0 w me'.0 × (me'.1 ≡ me.1))
  bound_stands slots id t k me bears live task small s r homes at lt = let a = bound_by slots id t k me bears live task small s r homes at lt in let is_t : role_task me.0.role ≡ t = ap role_task bears in (
    a.0,
    a.1,
    a.2,
    a.3,
    (
      record {
        after = a.4.0 ∙ ap (λ u. bounding u (get_or s.words (task_word plan t) 0 + k) me.0) (sym is_t);
        own = a.4.1 ∙ ap (λ u. last_tag u me.0.numbers) (sym is_t);
      },
      a.4.2,
    ),
  )

  -- ---- Read
  pub read_stands : (slots id s p : ℕ) (me : Me NoSlot View) → me.0.role ≢ Spent → p < length plan.places → 0 < s → s ≤ plan.sessions
      → Allows (IsArea plan) slots id me (set_word (length plan.places) s p) (λ x. x) (λ w me'. SetRead plan s p me.0 (facts_of (kind_at plan p) p w) me'.0 × (me'.1 ≡ me.1))
  read_stands slots id s p me live l pos ls st r _ at _ = let F : List ℕ = front plan st.words in let i : ℕ = set_word (length plan.places) s p in let final : Bool = is_final plan (notes_in me.0 no_tally) s p in
      let found : FactSet = facts_of (kind_at plan p) p (get_or st.words i 0) in let w : View = reading s p final found me.0 in
      let same : sets_in plan F s p ≡ found = ap (facts_of (kind_at plan p) p) (get_or-take (base_of plan) st.words i 0 (set_front plan s p pos ls l)) in (
        w,
        keeps,
        tt,
        subst (λ ws. IsArea plan record { words = ws; homes = st.homes; views = set st.views id w }) (sym (set-get_or st.words i 0)) record {
          wide = r.wide;
          rooted = rooted_set st.views id me.0 w at refl r.rooted;
          held = quiet plan (cells_in F) (sets_in plan F) st.views r.held id me.0 at live w refl refl refl refl refl refl refl refl refl (λ p x e. e);
          drained = subst (λ x. Drained plan (cells_in F) (sets_in plan F) (numbers_in plan st.words) (set st.views id (reading s p final x me.0))) same
              (read_drained plan (cells_in F) (sets_in plan F) (numbers_in plan st.words) st.views r.held r.drained id me.0 at s p final (final_there plan s pos (cells_in F) (sets_in plan F) (numbers_in plan st.words) st.views r.held r.drained id me.0 at p l));
          raced = still_raced plan (cells_in F) (sets_in plan F) st.views r.held r.raced id me.0 at (cells_in F) w (λ q _. refl) refl refl refl refl refl;
        },
        (
          record {
            after = refl;
            is_found = subst (IsFound plan (notes_in me.0 no_tally) s p) same (founds plan (cells_in F) (sets_in plan F) st.views r.held id me.0 at s p l pos);
            settled = λ x known. sym same ∙ (r.drained.settled id me.0 s p x at (settled_there s p x me.0.settled known)).2.set;
          },
          refl,
        ),
      )
