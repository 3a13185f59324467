-- What a pass's notes say of tasks past a session holds by the rule, and so a set that they call final stays.
use Rattle.std.proofs.Common.{◌≡◌, ◌≢◌, ◌⊎◌, ℕ, zero, suc, ◌*◌, ◌%◌, ◌<◌, ◌≤◌, Bool, true, false, not, ◌&&◌, ◌||◌, nat_eq, nat_lt, nat_le, if◌then◌else◌, Some, None, Option, List, [], ◌∷◌, length, get_or, map, max, sym, refl, ap, ◌∙◌, subst, inl, inr, ⊎_elim, arith, eqb-true, eq-eqb, ltb-true}
use Rattle.std.specs.List.{list_any, list_all}
use Rattle.std.proofs.lemmas.Bool.{leb-true, not-true, and_from, and_parts, or_cases}
use Rattle.std.proofs.lemmas.List.{get_or-map, length-map}
use Rattle.std.proofs.lemmas.List.Sums.{AllPass-from_list_all}
use mathlib.Core.Option.{some}
use mathlib.Core.Logic.{dite}
use native.Mathlib.Decide.{dec_le}
use lib.ListN.{get_elem?}
use Rattle.cov_base.specs.Meaning.{FactSet}
use Rattle.cov_base.specs.declared.numbers.PlaceNo.{PlaceNo}
use Rattle.cov_base.specs.declared.numbers.TaskNo.{TaskNo}
use Rattle.module_area.specs.declared.cells.Cell.{Cell}
use Rattle.module_area.specs.declared.parties.View.{View}
use Rattle.module_area.specs.declared.parties.Role.{Role}
use Rattle.module_area.specs.declared.parties.Role.TheVariants.{Root, Task, Spent}
use Rattle.module_area.specs.Meaning.{PlanView, ControlledView, is_controlled}
use Rattle.module_area.specs.Rule.{has_task, Has, window_tag, Held}
use Rattle.module_area.specs.Drained.{Noted, IsOverAt, IsClosed, IsPast, Drained}
use Rattle.module_area.specs.Notes.{NotedView, is_own, is_at, is_closed, is_past, is_drained, is_final, no_tally}
use Rattle.module_area.proofs.Laws.{any_at, no_session, number, controlled_at, all_past}
use Rattle.shared_area.specs.Words.{position}
use Rattle.shared_area.specs.Told.{seen_at, told_note, bears_as, notes_in}
use Rattle.shared_area.proofs.Picked.{no_task}
use Rattle.shared_area.proofs.NoteLemmas.{seen_most}
use Rattle.shared_area.proofs.WordLemmas.{position_at}

pub has_at : {X : Type 0} (xs : List X) (k : ℕ) (d : X) → k < length xs → Has (get_or xs k d) xs
has_at [] k d l = absurd (omega arith)
has_at (x ∷ xs) zero d l = inl refl
has_at (x ∷ xs) (suc k) d l = inr (has_at xs k d (omega arith))

abbrev pub no_note : Noted
no_note = (0, 0, [])

-- a highest tag that isn't 0 was seen
top_step : (p : ℕ) (x : ℕ × ℕ) (xs : List (ℕ × ℕ)) (b : Bool) → nat_eq p x.0 ≡ b → ((seen_at p xs ≡ 0) ⊎ Has (p, seen_at p xs) xs)
    → ((if b then max x.1 (seen_at p xs) else seen_at p xs) ≡ 0) ⊎ Has (p, (if b then max x.1 (seen_at p xs) else seen_at p xs)) (x ∷ xs)
top_step p x xs true e old = dite (dec_le x.1 (seen_at p xs))
    (λ le. let m : max x.1 (seen_at p xs) ≡ seen_at p xs = omega arith in ⊎_elim (λ z. inl (m ∙ z)) (λ h. inr (inr (subst (λ k. Has (p, k) xs) (sym m) h))) old)
    (λ gt. let m : max x.1 (seen_at p xs) ≡ x.1 = omega arith in inr (inl (λ i. (sym (eqb-true p x.0 e) i, sym m i))))
top_step p x xs false e old = ⊎_elim (λ z. inl z) (λ h. inr (inr h)) old

top_seen : (p : ℕ) (xs : List (ℕ × ℕ)) → (seen_at p xs ≡ 0) ⊎ Has (p, seen_at p xs) xs
top_seen p [] = inl refl
top_seen p (x ∷ xs) = top_step p x xs (nat_eq p x.0) refl (top_seen p xs)

own_role : (r : Role) (t : ℕ) → is_own (bears_as r) t ≡ true → r ≡ Task t
own_role (Task u) t h = ap Task (eqb-true u t h)
own_role Root t h = absurd cc
own_role Spent t h = absurd cc

at_pending : (o : Option (ℕ × ℕ)) (p t : ℕ) → is_at o p t ≡ false → o ≢ Some (p, t)
at_pending None p t h e = cc
at_pending (Some x) p t h e = let same : x ≡ (p, t) = cc in let hit = and_from _ _ (eq-eqb x.0 p (ap (λ (z : ℕ × ℕ). z.0) same)) (eq-eqb x.1 t (ap (λ (z : ℕ × ℕ). z.1) same)) in let never : true ≡ false = sym hit ∙ h in absurd cc

module _ (plan : PlanView) (s : ℕ) (pos : 0 < s) where
  over_by : (seen : List (ℕ × ℕ)) (c : ControlledView) (p : ℕ) (b : Bool) → nat_eq c.session s ≡ b → c.session ≡ s → (not b || list_all (λ (q : PlaceNo). nat_le (2 * s) (seen_at q.0 seen)) c.places) ≡ true
      → (k : ℕ) → k < length c.places → get_or c.places k (number p) ≡ number p → IsOverAt seen s p
  over_by seen c p true e same h k l at = let le : nat_le (2 * s) (seen_at (get_or c.places k (number p)).0 seen) ≡ true = AllPass-from_list_all (λ (q : PlaceNo). nat_le (2 * s) (seen_at q.0 seen)) c.places h k (number p) l in
      let top : 2 * s ≤ seen_at p seen = leb-true (2 * s) (seen_at p seen) (ap (λ (q : PlaceNo). nat_le (2 * s) (seen_at q.0 seen)) (sym at) ∙ le) in
      ⊎_elim (λ z. absurd (omega (arith, z, top, pos))) (λ has. (seen_at p seen, has, top)) (top_seen p seen)
  over_by seen c p false e same h k l at = let x = eq-eqb c.session s same in absurd cc

  closed_there : (seen : List (ℕ × ℕ)) → is_closed plan (λ p. seen_at p seen) s ≡ true → IsClosed plan seen s
  closed_there seen h p its = let a = controlled_at plan s p its in let c : ControlledView = get_or plan.controlled a.0 no_session in
      over_by seen c p (nat_eq c.session s) refl a.2 (AllPass-from_list_all (λ (c : ControlledView). not (nat_eq c.session s) || list_all (λ (q : PlaceNo). nat_le (2 * s) (seen_at q.0 seen)) c.places) plan.controlled h a.0 no_session a.1)
      a.3.0 a.3.1 a.3.2

  -- a note of the list of notes, as the rule has it
  note_at : (noted : List Noted) (k : ℕ) → k < length (map told_note noted) → Has (get_or noted k no_note) noted × (get_or (map told_note noted) k (told_note no_note) ≡ told_note (get_or noted k no_note))
  note_at noted k l = let size = length-map noted told_note in let lk : k < length noted = omega (arith, size, l) in (has_at noted k no_note lk, get_or-map told_note noted k no_note (told_note no_note) lk)

  past_there : (v : View) (t : ℕ) → is_past plan (map told_note v.noted) s t ≡ true → IsPast plan v s t
  past_there v t h = let F : NotedView → Bool = λ e. nat_eq e.task t && (is_closed plan e.seen s && (nat_eq (e.number % 2) 1 || list_any (λ (d : NotedView). nat_eq d.task t && nat_lt e.number d.number) (map told_note v.noted))) in
      let a = any_at F (map told_note v.noted) (told_note no_note) h in let n = note_at v.noted a.0 a.1 in let x : Noted = get_or v.noted a.0 no_note in
      let told : F (told_note x) ≡ true = ap F (sym n.1) ∙ a.2 in let rest = (and_parts (nat_eq x.0 t) _ told).1 in (
        x,
        n.0,
        eqb-true x.0 t (and_parts (nat_eq x.0 t) _ told).0,
        closed_there x.2 (and_parts (is_closed plan (λ p. seen_at p x.2) s) _ rest).0,
        ⊎_elim (λ odd. inl (eqb-true (x.1 % 2) 1 odd))
            (λ more. let G : NotedView → Bool = λ d. nat_eq d.task t && nat_lt x.1 d.number in let b = any_at G (map told_note v.noted) (told_note no_note) more in let m = note_at v.noted b.0 b.1 in let y : Noted = get_or v.noted b.0 no_note in
            let later : G (told_note y) ≡ true = ap G (sym m.1) ∙ b.2 in
            inr (y.1, y.2, subst (λ k. Has (k, y.1, y.2) v.noted) (eqb-true y.0 t (and_parts (nat_eq y.0 t) _ later).0) m.0, ltb-true x.1 y.1 (and_parts (nat_eq y.0 t) _ later).1))
            (or_cases (nat_eq (x.1 % 2) 1) _ (and_parts (is_closed plan (λ p. seen_at p x.2) s) _ rest).1),
      )

  drained_there : (v : View) → is_drained plan (notes_in v no_tally) s ≡ true → (t : ℕ) → has_task plan.tasks t ≡ true → (v.role ≡ Task t → ⊥) → IsPast plan v s t
  drained_there v h t task other = let a = position_at plan.tasks t task in let u : TaskNo = get_or plan.tasks (position plan.tasks t) no_task in
      let F : ℕ → Bool = λ k. is_own (bears_as v.role) k || is_past plan (map told_note v.noted) s k in
      let here : F t ≡ true = ap F (sym a.1) ∙ AllPass-from_list_all (λ (u : TaskNo). F u.0) plan.tasks h (position plan.tasks t) no_task a.0 in
      ⊎_elim (λ own. absurd (other (own_role v.role t own))) (λ past. past_there v t past) (or_cases (is_own (bears_as v.role) t) _ here)

  module _ (cell : ℕ → Cell) (sets : ℕ → ℕ → FactSet) (word : ℕ → ℕ) (views : List View) (h : Held plan cell sets views) (r : Drained plan cell sets word views) (id : ℕ) (v : View) (at : get_elem? views id ≡ some v) where
    -- a set that the notes call final: its session is over there, and nobody has an answer of it there
    pub final_there : (p : ℕ) → p < length plan.places → is_final plan (notes_in v no_tally) s p ≡ true
        → (p < length plan.places) × (0 < s) × (2 * s ≤ (cell p).tag) × ((j : ℕ) (u : View) → get_elem? views j ≡ some u → u.pending ≢ Some (p, window_tag s))
    final_there p l final = let its = (and_parts (is_controlled plan s p) _ final).0 in let rest = (and_parts (is_controlled plan s p) _ final).1 in
        let over = leb-true (2 * s) (seen_at p v.seen) (and_parts (nat_le (2 * s) (seen_at p v.seen)) _ rest).0 in let rest' = (and_parts (nat_le (2 * s) (seen_at p v.seen)) _ rest).1 in
        let drained = (and_parts (is_drained plan (notes_in v no_tally) s) _ rest').0 in let mine = (and_parts (is_drained plan (notes_in v no_tally) s) _ rest').1 in
        let high = seen_most p (cell p).tag v.seen (λ t has. ((h.kept id v at).seen p t has).1) in (
          l,
          pos,
          omega (arith, over, high),
          all_past plan cell sets word views h r id v at s p pos its (at_pending v.pending p (window_tag s) (not-true (is_at v.pending p (window_tag s)) mine)) (drained_there v drained),
        )
      where
        not_is : (b : Bool) → not b ≡ true → b ≡ false
        not_is true e = absurd (let x : false ≡ true = e in cc)
        not_is false e = refl
