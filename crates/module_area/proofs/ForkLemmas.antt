-- Giving a task out and taking it back keep the rule.
use Rattle.std.proofs.Common.{◌≡◌, ◌≢◌, ℕ, ◌<◌, ◌++◌, Bool, true, false, not, List, [], ◌∷◌, length, set, sym, refl, ap, ◌∙◌, subst, inl, inr, ⊎_elim}
use mathlib.Core.Option.{some}
use lib.ListN.{get_elem?}
use Rattle.cov_base.specs.Meaning.{FactSet}
use Rattle.module_area.specs.declared.cells.Cell.{Cell}
use Rattle.module_area.specs.declared.parties.View.{View}
use Rattle.module_area.specs.declared.parties.Role.{Role}
use Rattle.module_area.specs.declared.parties.Role.TheVariants.{Root, Task, Spent}
use Rattle.module_area.specs.Meaning.{PlanView, original_at}
use Rattle.module_area.specs.Rule.{is_controller, Has, times, total, last_tag, window_tag, blank, Once, KeepsAs, Keeps, IsRole, Owes, Kept, Held}
use Rattle.module_area.specs.Parties.{chosen, giving, newcomer, joining, role_task}
use Rattle.module_area.proofs.StepLemmas.{task_not_root, spent_not_root, spent_not_task, moved, same, once_same, first_only, role_before}
use Rattle.module_area.proofs.PartyLemmas.{has-append, left-append, right-append, at_set, at_end, at_two, all_snoc, all_two, some_snoc, some_two, total-snoc, total_two, times-append, has-chosen, kept_tag, dropped_tag, no_tag, first_tag}

task_is : {t u : ℕ} → Task t ≡ Task u → t ≡ u
task_is e = ap role_task e

module _ (plan : PlanView) (cell : ℕ → Cell) (sets : ℕ → ℕ → FactSet) (views : List View) (r : Held plan cell sets views) (id : ℕ) (v : View) (at : get_elem? views id ≡ some v) (root : v.role ≡ Root) where
  abbrev Tied : View → Type 0
  Tied u = (p : ℕ) → p < length plan.places → Keeps plan u p → (cell p).tag ≡ last_tag p u.planted

  keeps_as_root : (p : ℕ) → KeepsAs plan v p Root → Keeps plan v p
  keeps_as_root p k = subst (KeepsAs plan v p) (sym root) k

  -- ---- the root gives out the task t
  module _ (t : ℕ) (new : Has t v.given → ⊥) where
    -- it keeps no more than before
    less : (p : ℕ) → KeepsAs plan (giving t v) p Root → KeepsAs plan v p Root
    less p (inl pos) = inl pos
    less p (inr (u, own, inl never)) = inr (u, own, inl (λ h. never (inr h)))
    less p (inr (u, own, inr back)) = inr (u, own, inr back)

    gives : Held plan cell sets (set views id (giving t v))
    gives = let k = r.kept id v at in moved plan cell sets views r id v at cell sets (giving t v) record {
      grows = same plan cell sets views r id v at;
      site = r.site;
      mine = record {
        seen = k.seen;
        pending = k.pending;
        marked = k.marked;
        full = k.full;
        free = k.free;
        lifted = k.lifted;
        planted = k.planted;
        joined = λ u h. inr (k.joined u h);
      };
      more = λ s q f h. h;
      news = λ s q f _ _ h. inl h;
      tie = λ p l kp. r.ties id v at p l (keeps_as_root p (less p (subst (KeepsAs plan (giving t v) p) root kp)));
      ties = λ j u _ here. r.ties j u here;
      live = λ e. spent_not_root (sym e ∙ root);
      owed = λ s q _ _ full e. inr (full, e, λ h. h);
      once = λ s q _ _ n n' e. once_same plan cell sets views r id v at s (original_at plan q) (cell q) n n' (times s q v.lifted) e;
      role = refl;
      given = λ u h. inr h;
      joined = λ u h. h;
    }

    pub splits : Held plan cell sets (set views id (giving t v) ++ newcomer plan t v ∷ [])
    splits = let k = r.kept id v at in let o : View = newcomer plan t v in let vs : List View = set views id (giving t v) in record {
      is_plan = r.is_plan;
      site = r.site;
      kept = all_snoc (λ _ u. Kept plan cell sets u) vs o gives.kept record {
        seen = k.seen;
        pending = λ p s h. absurd cc;
        marked = λ s p f h. absurd h;
        full = λ s p h. absurd h;
        free = λ s p h. absurd h;
        lifted = λ s p h. absurd h;
        planted = λ p x h. k.planted p x (has-chosen (is_controller plan t) p x v.planted h);
        joined = λ u h. absurd h;
      };
      known = λ s p f l pos h. some_snoc (λ u. Has (s, p, f) u.marked) vs o (gives.known s p f l pos h);
      ties = all_snoc (λ _ u. Tied u) vs o gives.ties
          (λ p l own. r.ties id v at p l (keeps_as_root p (inr (t, own, inl new))) ∙ sym (kept_tag (is_controller plan t) p v.planted own));
      owed = λ s p l pos full e. some_snoc (Owes s p) vs o (gives.owed s p l pos full e);
      once = λ s p l pos. subst (Once s (original_at plan p) (cell p)) (sym (total-snoc (λ u. times s p u.lifted) vs o refl)) (gives.once s p l pos);
      roles = all_snoc (λ j u. IsRole (vs ++ o ∷ []) j u.role) vs o (λ j u here. wider j u.role (gives.roles j u here))
          (λ i u here is. ⊎_elim (λ (x : get_elem? vs i ≡ some u). its_root i u x is) (λ (x : (i ≡ length vs) × (o ≡ u)). absurd (task_not_root t (ap (λ (z : View). z.role) x.1 ∙ is))) (at_end vs o u i here));
      spent = all_snoc (λ _ u. u.role ≡ Spent → u ≡ blank Spent) vs o gives.spent (λ e. absurd (spent_not_task t (sym e)));
      apart = λ i j a b q ha hb ra rb. ⊎_elim
          (λ (x : get_elem? vs i ≡ some a). ⊎_elim
          (λ (y : get_elem? vs j ≡ some b). gives.apart i j a b q x y ra rb)
          (λ (y : (j ≡ length vs) × (o ≡ b)). absurd (nobody i a x (ra ∙ ap Task (task_is (sym rb ∙ ap (λ (z : View). z.role) (sym y.1))))))
          (at_end vs o b j hb))
          (λ (x : (i ≡ length vs) × (o ≡ a)). ⊎_elim
          (λ (y : get_elem? vs j ≡ some b). absurd (nobody j b y (rb ∙ ap Task (task_is (sym ra ∙ ap (λ (z : View). z.role) (sym x.1))))))
          (λ (y : (j ≡ length vs) × (o ≡ b)). x.0 ∙ sym y.0)
          (at_end vs o b j hb))
          (at_end vs o a i ha);
    }
      where
        wider : (j : ℕ) (q : Role) → IsRole (set views id (giving t v)) j q → IsRole (set views id (giving t v) ++ newcomer plan t v ∷ []) j q
        wider j Root h = h
        wider j Spent h = h
        wider j (Task u) h = λ i z here is. ⊎_elim (λ x. h i z x is) (λ x. absurd (task_not_root t (ap (λ (z : View). z.role) x.1 ∙ is))) (at_end (set views id (giving t v)) (newcomer plan t v) z i here)

        its_root : (i : ℕ) (u : View) → get_elem? (set views id (giving t v)) i ≡ some u → u.role ≡ Root → Has t u.given × (Has t u.joined → ⊥)
        its_root i u here is = ⊎_elim
            (λ (x : (i ≡ id) × (giving t v ≡ u)). subst (λ (z : View). Has t z.given × (Has t z.joined → ⊥)) x.1 (inl refl, λ h. new ((r.kept id v at).joined t h)))
            (λ (x : (i ≢ id) × (get_elem? views i ≡ some u)). absurd (x.0 (first_only plan cell sets views r id v at i u x.1 is ∙ sym (first_only plan cell sets views r id v at id v at root))))
            (at_set views id i (giving t v) u here)

        nobody : (i : ℕ) (u : View) → get_elem? (set views id (giving t v)) i ≡ some u → u.role ≢ Task t
        nobody i u here is = let z = role_before plan cell sets views r id v at (giving t v) refl i u here in let q : IsRole views i (Task t) = subst (IsRole views i) (z.2 ∙ is) (r.roles i z.0 z.1) in new (q id v at root).0

  -- ---- the root takes in the party that stands at k
  module _ (k : ℕ) (o : View) (there : get_elem? views k ≡ some o) (t : ℕ) (bears : o.role ≡ Task t) (other : k ≢ id) where
    is_t : role_task o.role ≡ t
    is_t = ap role_task bears

    join_kept : Kept plan cell sets (joining plan v o)
    join_kept = let a = r.kept id v at in let b = r.kept k o there in record {
      seen = λ p x h. ⊎_elim (λ y. b.seen p x y) (λ y. a.seen p x y) (has-append (p, x) o.seen v.seen h);
      pending = λ p x h. let y = a.pending p x h in (y.0, y.1, y.2, y.3, right-append (p, x) o.seen v.seen y.4);
      marked = λ s p f h. ⊎_elim (λ y. b.marked s p f y) (λ y. a.marked s p f y) (has-append (s, p, f) o.marked v.marked h);
      full = λ s p h. ⊎_elim (λ y. let x = b.full s p y in (x.0, left-append (p, window_tag s) o.seen v.seen x.1, x.2)) (λ y. let x = a.full s p y in (x.0, right-append (p, window_tag s) o.seen v.seen x.1, x.2)) (has-append (s, p) o.full v.full h);
      free = λ s p h. ⊎_elim (λ y. let x = b.free s p y in (left-append (s, p) o.full v.full x.0, x.1)) (λ y. let x = a.free s p y in (right-append (s, p) o.full v.full x.0, x.1)) (has-append (s, p) o.free v.free h);
      lifted = λ s p h. ⊎_elim (λ y. let x = b.lifted s p y in (x.0, x.1, x.2, left-append (s, p) o.free v.free x.3)) (λ y. let x = a.lifted s p y in (x.0, x.1, x.2, right-append (s, p) o.free v.free x.3)) (has-append (s, p) o.lifted v.lifted h);
      planted = λ p x h. ⊎_elim
          (λ y. left-append (p, x) o.seen v.seen (b.planted p x (has-chosen (is_controller plan (role_task o.role)) p x o.planted y)))
          (λ y. right-append (p, x) o.seen v.seen (a.planted p x (has-chosen (λ q. not (is_controller plan (role_task o.role) q)) p x v.planted y)))
          (has-append (p, x) (chosen (is_controller plan (role_task o.role)) o.planted) (chosen (λ q. not (is_controller plan (role_task o.role) q)) v.planted) h);
      joined = λ u h. ⊎_elim (λ e. subst (λ z. Has z v.given) (sym is_t ∙ e) ((subst (IsRole views k) bears (r.roles k o there)) id v at root).0) (λ y. a.joined u y) h;
    }

    -- what it keeps after it has taken back no place of the task's it kept before
    kept_before : (p : ℕ) → is_controller plan t p ≡ false → KeepsAs plan (joining plan v o) p Root → KeepsAs plan v p Root
    kept_before p other_task (inl pos) = inl pos
    kept_before p other_task (inr (u, own, inl not_given)) = inr (u, own, inl not_given)
    kept_before p other_task (inr (u, own, inr (inl e))) = let x : is_controller plan u p ≡ is_controller plan t p = ap (λ z. is_controller plan z p) (sym e ∙ is_t) in absurd cc
    kept_before p other_task (inr (u, own, inr (inr back))) = inr (u, own, inr back)

    tie_by : (p : ℕ) → p < length plan.places → KeepsAs plan (joining plan v o) p Root → (b : Bool) → is_controller plan t p ≡ b
        → (cell p).tag ≡ last_tag p (chosen (is_controller plan t) o.planted ++ chosen (λ q. not (is_controller plan t q)) v.planted)
    tie_by p l kp true own = r.ties k o there p l (subst (KeepsAs plan o p) (sym bears) own)
        ∙ sym (first_tag p (chosen (is_controller plan t) o.planted) (chosen (λ q. not (is_controller plan t q)) v.planted) (no_tag (λ q. not (is_controller plan t q)) p v.planted (ap not own)) ∙ kept_tag (is_controller plan t) p o.planted own)
    tie_by p l kp false own = r.ties id v at p l (keeps_as_root p (kept_before p own kp))
        ∙ sym (dropped_tag (is_controller plan t) p o.planted (chosen (λ q. not (is_controller plan t q)) v.planted) own ∙ kept_tag (λ q. not (is_controller plan t q)) p v.planted (ap not own))

    join_tied : Tied (joining plan v o)
    join_tied p l kp = subst (λ z. (cell p).tag ≡ last_tag p (chosen (is_controller plan z) o.planted ++ chosen (λ q. not (is_controller plan z q)) v.planted)) (sym is_t)
        (tie_by p l (subst (KeepsAs plan (joining plan v o) p) root kp) (is_controller plan t p) refl)

    role_joins : (j : ℕ) (u : View) → j ≢ k → get_elem? views j ≡ some u → (q : Role) → u.role ≡ q → IsRole views j q → IsRole (set (set views id (joining plan v o)) k (blank Spent)) j q
    role_joins j u n here Root is h = h
    role_joins j u n here Spent is h = h
    role_joins j u n here (Task q) is h = λ i z now rz. ⊎_elim
        (λ (x : (i ≡ k) × (blank Spent ≡ z)). absurd (spent_not_root (ap (λ (y : View). y.role) x.1 ∙ rz)))
        (λ y. ⊎_elim
        (λ (x : (i ≡ id) × (joining plan v o ≡ z)). let old = h id v at root in
        subst (λ (y : View). Has q y.given × (Has q y.joined → ⊥)) x.1 (old.0, λ w. ⊎_elim (λ e. n (r.apart j k u o q here there is (bears ∙ ap Task (sym is_t ∙ e)))) (λ m. old.1 m) w))
        (λ (x : (i ≢ k) × (i ≢ id) × (get_elem? views i ≡ some z)). h i z x.2 rz)
        y)
        (at_two views id k (joining plan v o) (blank Spent) z i now)

    -- who bears a task bore it before
    bore : (i : ℕ) (u : View) (q : ℕ) → get_elem? (set (set views id (joining plan v o)) k (blank Spent)) i ≡ some u → u.role ≡ Task q → get_elem? views i ≡ some u
    bore i u q now is = ⊎_elim
        (λ (x : (i ≡ k) × (blank Spent ≡ u)). absurd (spent_not_task q (ap (λ (y : View). y.role) x.1 ∙ is)))
        (λ y. ⊎_elim
        (λ (x : (i ≡ id) × (joining plan v o ≡ u)). absurd (task_not_root q (sym is ∙ (ap (λ (y : View). y.role) (sym x.1) ∙ root))))
        (λ (x : (i ≢ k) × (i ≢ id) × (get_elem? views i ≡ some u)). x.2)
        y)
        (at_two views id k (joining plan v o) (blank Spent) u i now)

    pub joins : Held plan cell sets (set (set views id (joining plan v o)) k (blank Spent))
    joins = let w : View = joining plan v o in record {
      is_plan = r.is_plan;
      site = r.site;
      kept = all_two (λ _ u. Kept plan cell sets u) views id k w (blank Spent) join_kept record {
        seen = λ p s h. absurd h;
        pending = λ p s h. absurd cc;
        marked = λ s p f h. absurd h;
        full = λ s p h. absurd h;
        free = λ s p h. absurd h;
        lifted = λ s p h. absurd h;
        planted = λ p s h. absurd h;
        joined = λ u h. absurd h;
      } (λ j u _ _ here. r.kept j u here);
      known = λ s p f l pos h. some_two (λ u. Has (s, p, f) u.marked) views id k v o w (blank Spent) at there other (right-append (s, p, f) o.marked v.marked) (left-append (s, p, f) o.marked v.marked) (r.known s p f l pos h);
      ties = all_two (λ _ u. Tied u) views id k w (blank Spent) join_tied (λ p _ kp. absurd kp) (λ j u _ _ here. r.ties j u here);
      owed = λ s p l pos full e. some_two (Owes s p) views id k v o w (blank Spent) at there other
          (λ h. (right-append (s, p) o.full v.full h.0, λ free. ⊎_elim (λ x. ((r.kept k o there).free s p x).1 e) (λ x. h.1 x) (has-append (s, p) o.free v.free free)))
          (λ h. (left-append (s, p) o.full v.full h.0, λ free. ⊎_elim (λ x. h.1 x) (λ x. ((r.kept id v at).free s p x).1 e) (has-append (s, p) o.free v.free free)))
          (r.owed s p l pos full e);
      once = λ s p l pos. subst (Once s (original_at plan p) (cell p)) (sym (total_two (λ u. times s p u.lifted) views id k v o w (blank Spent) (total (λ u. times s p u.lifted) views) at there other refl (times-append s p o.lifted v.lifted) refl)) (r.once s p l pos);
      roles = all_two (λ j u. IsRole (set (set views id w) k (blank Spent)) j u.role) views id k w (blank Spent)
          (subst (IsRole (set (set views id w) k (blank Spent)) id) (sym root) (first_only plan cell sets views r id v at id v at root))
          tt
          (λ j u n _ here. role_joins j u n here u.role refl (r.roles j u here));
      spent = all_two (λ _ u. u.role ≡ Spent → u ≡ blank Spent) views id k w (blank Spent) (λ e. absurd (spent_not_root (sym e ∙ root))) (λ _. refl) (λ j u _ _ here. r.spent j u here);
      apart = λ i j a b q ha hb ra rb. r.apart i j a b q (bore i a q ha ra) (bore j b q hb rb) ra rb;
    }
