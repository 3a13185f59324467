-- Each step keeps the race, or adds a beat to it.
use Rattle.std.proofs.Common.{◌≡◌, ◌≢◌, ◌⊎◌, ℕ, zero, suc, ◌<◌, nat_eq, if◌then◌else◌, List, [], ◌∷◌, ◌++◌, length, set, sym, refl, ap, ◌∙◌, subst, inl, inr, ⊎_elim, arith, eq-eqb, ne_eqb, eqb-true, Bool, true, false}
use mathlib.Core.Option.{some, some-injective, some-ne-none}
use lib.ListN.{get_elem?}
use Rattle.cov_base.specs.Meaning.{FactSet}
use Rattle.module_area.specs.declared.cells.Cell.{Cell}
use Rattle.module_area.specs.declared.parties.View.{View}
use Rattle.module_area.specs.declared.parties.Role.{Role}
use Rattle.module_area.specs.declared.parties.Role.TheVariants.{Root, Task, Spent}
use Rattle.module_area.specs.declared.parties.Beat.{Beat}
use Rattle.module_area.specs.declared.parties.Beat.TheVariants.{Met, Gave}
use Rattle.module_area.specs.Meaning.{PlanView, Race, tag_next, tag_in, Finds, IsRace, part}
use Rattle.module_area.specs.Rule.{Has, blank, IsRole, Held}
use Rattle.module_area.specs.Parties.{giving, newcomer, joining, role_task}
use Rattle.module_area.specs.Race.{beats_of, who, IsRootOf, OwnAs, Raced}
use Rattle.module_area.proofs.StepLemmas.{task_not_root, spent_not_root, spent_not_task, first_only}
use Rattle.module_area.proofs.PartyLemmas.{at_set, all_set, all_snoc, all_two}

part_same : (k : ℕ) (x : Beat) (r : Race) → part k ((k, x) ∷ r) ≡ x ∷ part k r
part_same k x r = ap (λ b. if b then x ∷ part k r else part k r) (eq-eqb k k refl)

part_other : (k j : ℕ) (x : Beat) (r : Race) → j ≢ k → part k ((j, x) ∷ r) ≡ part k r
part_other k j x r n = ap (λ b. if b then x ∷ part k r else part k r) (ne_eqb j k n)

-- the party that makes the beat, whose view has it then
own_mine : (r : Race) (v w : View) (x : Beat) (q : Role) → w.beats ≡ x ∷ v.beats → w.given ≡ v.given → w.joined ≡ v.joined → w.back ≡ v.back → q ≢ Spent → OwnAs r v q → OwnAs ((who q, x) ∷ r) w q
own_mine r v w x Root b g j k live o = record {
  own = b ∙ (ap (λ l. x ∷ l) o.own ∙ sym (part_same 0 x r));
  none = λ t n. part_other (suc t) 0 x r (λ e. absurd (omega arith)) ∙ o.none t (λ h. n (subst (Has t) (sym g) h));
  back = λ t l h. part_other (suc t) 0 x r (λ e. absurd (omega arith)) ∙ o.back t l (subst (Has (t, l)) k h);
  known = λ t l h. subst (Has t) (sym j) (o.known t l (subst (Has (t, l)) k h));
  all = λ t h. subst (λ (b : List (ℕ × List Beat)). Has (t, beats_of t b) b) (sym k) (o.all t (subst (Has t) j h));
}
own_mine r v w x (Task t) b g j k live o = b ∙ (ap (λ l. x ∷ l) o ∙ sym (part_same (suc t) x r))
own_mine r v w x Spent b g j k live o = absurd (live refl)

-- another: the party k makes it, which isn't this one, and is no task that this one as the root has not out
own_other : (r : Race) (u : View) (x : Beat) (k : ℕ) (q : Role) → OwnAs r u q → (q ≡ Root → (k ≢ 0) × ((t : ℕ) → (Has t u.given → ⊥) → k ≢ suc t) × ((t : ℕ) → Has t u.joined → k ≢ suc t)) → ((t : ℕ) → q ≡ Task t → k ≢ suc t)
    → OwnAs ((k, x) ∷ r) u q
own_other r u x k Root o root task = let a = root refl in record {
  own = o.own ∙ sym (part_other 0 k x r a.0);
  none = λ t n. part_other (suc t) k x r (a.1 t n) ∙ o.none t n;
  back = λ t l h. part_other (suc t) k x r (a.2 t (o.known t l h)) ∙ o.back t l h;
  known = o.known;
  all = o.all;
}
own_other r u x k (Task t) o root task = o ∙ sym (part_other (suc t) k x r (task t refl))
own_other r u x k Spent o root task = tt

-- a view with the same beats and tasks
own_same : (r : Race) (v w : View) (q : Role) → w.beats ≡ v.beats → w.given ≡ v.given → w.joined ≡ v.joined → w.back ≡ v.back → OwnAs r v q → OwnAs r w q
own_same r v w Root b g j k o = record {
  own = b ∙ o.own;
  none = λ t n. o.none t (λ h. n (subst (Has t) (sym g) h));
  back = λ t l h. o.back t l (subst (Has (t, l)) k h);
  known = λ t l h. subst (Has t) (sym j) (o.known t l (subst (Has (t, l)) k h));
  all = λ t h. subst (λ (b : List (ℕ × List Beat)). Has (t, beats_of t b) b) (sym k) (o.all t (subst (Has t) j h));
}
own_same r v w (Task t) b g j k o = b ∙ o
own_same r v w Spent b g j k o = tt

came_back : (u t : ℕ) (l : List Beat) (xs : List (ℕ × List Beat)) (b : Bool) → nat_eq u t ≡ b → (u ≡ t) ⊎ Has (u, beats_of u xs) xs → (◌≡◌ {A = ℕ × List Beat} (t, l) (u, (if b then l else beats_of u xs))) ⊎ Has (u, (if b then l else beats_of u xs)) xs
came_back u t l xs true is h = inl (λ i. (sym (eqb-true u t is) i, l))
came_back u t l xs false is h = ⊎_elim (λ (e : u ≡ t). let z : true ≡ false = sym (eq-eqb u t e) ∙ is in absurd cc) (λ y. inr y) h

module _ (plan : PlanView) (cell : ℕ → Cell) (sets : ℕ → ℕ → FactSet) (views : List View) (h : Held plan cell sets views) (r : Raced plan cell views) (id : ℕ) (v : View) (at : get_elem? views id ≡ some v) where
  its_role : (j : ℕ) (u : View) (q : Role) → get_elem? views j ≡ some u → u.role ≡ q → IsRole views j q
  its_role j u q here is = subst (IsRole views j) is (h.roles j u here)

  -- a beat of this party isn't one of another's
  beat_apart : (q : Role) → v.role ≡ q → q ≢ Spent → (j : ℕ) (u : View) → j ≢ id → get_elem? views j ≡ some u
      → (u.role ≡ Root → (who q ≢ 0) × ((t : ℕ) → (Has t u.given → ⊥) → who q ≢ suc t) × ((t : ℕ) → Has t u.joined → who q ≢ suc t)) × ((t : ℕ) → u.role ≡ Task t → who q ≢ suc t)
  beat_apart Root is live j u n here = ((λ a. absurd (n (its_role j u Root here a ∙ sym (its_role id v Root at is)))), (λ t a e. absurd (omega arith)))
  beat_apart (Task s) is live j u n here = let role = its_role id v (Task s) at is in (
    (λ a. let out = role j u here a in (
      (λ e. absurd (omega arith)),
      (λ t none e. let same : s ≡ t = omega arith in absurd (none (subst (λ z. Has z u.given) same out.0))),
      (λ t b e. let same : s ≡ t = omega arith in absurd (out.1 (subst (λ z. Has z u.joined) (sym same) b))),
    )),
    (λ t a e. let same : t ≡ s = omega arith in absurd (n (h.apart j id u v s here at (a ∙ ap Task same) is))),
  )
  beat_apart Spent is live j u n here = absurd (live refl)

  -- a step that is no beat
  pub still_raced : (cell' : ℕ → Cell) (w : View) → ((p : ℕ) → p < length plan.places → (cell' p).tag ≡ (cell p).tag) → w.role ≡ v.role → w.beats ≡ v.beats → w.given ≡ v.given → w.joined ≡ v.joined → w.back ≡ v.back
      → Raced plan cell' (set views id w)
  still_raced cell' w tags a b g j k = record {
    race = r.race;
    is_race = r.is_race;
    tags = λ p l. tags p l ∙ r.tags p l;
    own = all_set (λ _ u. OwnAs r.race u u.role) views id w (subst (OwnAs r.race w) (sym a) (own_same r.race v w v.role b g j k (r.own id v at))) (λ i u _ here. r.own i u here);
  }

  -- a beat
  pub beat_raced : (cell' : ℕ → Cell) (w : View) (x : Beat) → v.role ≢ Spent → Finds r.race x → ((p : ℕ) → p < length plan.places → (cell' p).tag ≡ tag_next p (cell p).tag x)
      → w.role ≡ v.role → w.beats ≡ x ∷ v.beats → w.given ≡ v.given → w.joined ≡ v.joined → w.back ≡ v.back → Raced plan cell' (set views id w)
  beat_raced cell' w x live finds tags a b g j k = record {
    race = (who v.role, x) ∷ r.race;
    is_race = (r.is_race, finds);
    tags = λ p l. tags p l ∙ ap (λ t. tag_next p t x) (r.tags p l);
    own = all_set (λ _ u. OwnAs ((who v.role, x) ∷ r.race) u u.role) views id w
        (subst (OwnAs ((who v.role, x) ∷ r.race) w) (sym a) (own_mine r.race v w x v.role b g j k live (r.own id v at)))
        (λ i u n here. let z = beat_apart v.role refl live i u n here in own_other r.race u x (who v.role) u.role (r.own i u here) z.0 z.1);
  }

  pub met_raced : (w : View) (p : ℕ) → p < length plan.places → v.role ≢ Spent → w.role ≡ v.role → w.beats ≡ Met p (cell p).tag ∷ v.beats → w.given ≡ v.given → w.joined ≡ v.joined → w.back ≡ v.back → Raced plan cell (set views id w)
  met_raced w p l live a b g j k = beat_raced cell w (Met p (cell p).tag) live (r.tags p l) (λ q m. refl) a b g j k

  module _ (root : v.role ≡ Root) where
    mine : IsRootOf r.race v
    mine = subst (OwnAs r.race v) root (r.own id v at)

    pub split_raced : (t : ℕ) → (Has t v.given → ⊥) → Raced plan cell (set views id (giving t v) ++ newcomer plan t v ∷ [])
    split_raced t new = record {
      race = r.race;
      is_race = r.is_race;
      tags = r.tags;
      own = all_snoc (λ _ u. OwnAs r.race u u.role) (set views id (giving t v)) (newcomer plan t v)
          (all_set (λ _ u. OwnAs r.race u u.role) views id (giving t v)
          (subst (OwnAs r.race (giving t v)) (sym root) record { own = mine.own; none = λ u n. mine.none u (λ y. n (inr y)); back = mine.back; known = mine.known; all = mine.all })
          (λ j u n here. r.own j u here))
          (sym (mine.none t new));
    }

    pub join_raced : (k : ℕ) (o : View) → get_elem? views k ≡ some o → (t : ℕ) → o.role ≡ Task t → Raced plan cell (set (set views id (joining plan v o)) k (blank Spent))
    join_raced k o there t bears = let is_t : role_task o.role ≡ t = ap role_task bears in record {
      race = r.race;
      is_race = r.is_race;
      tags = r.tags;
      own = all_two (λ _ u. OwnAs r.race u u.role) views id k (joining plan v o) (blank Spent)
          (subst (OwnAs r.race (joining plan v o)) (sym root) record {
            own = mine.own;
            none = mine.none;
            back = λ u l b. ⊎_elim
                (λ (e : (role_task o.role, o.beats) ≡ (u, l)). let same : t ≡ u = sym is_t ∙ ap (λ (x : ℕ × List Beat). x.0) e in
                ap (λ z. part (suc z) r.race) (sym same) ∙ (sym (subst (OwnAs r.race o) bears (r.own k o there)) ∙ ap (λ (x : ℕ × List Beat). x.1) e))
                (λ b. mine.back u l b) b;
            known = λ u l b. ⊎_elim (λ (e : (role_task o.role, o.beats) ≡ (u, l)). inl (ap (λ (x : ℕ × List Beat). x.0) e)) (λ b. inr (mine.known u l b)) b;
            all = λ u b. came_back u (role_task o.role) o.beats v.back (nat_eq u (role_task o.role)) refl (⊎_elim (λ (e : role_task o.role ≡ u). inl (sym e)) (λ y. inr (mine.all u y)) b);
          })
          tt (λ j u _ _ here. r.own j u here);
    }

pub begins_raced : (plan : PlanView) (cell : ℕ → Cell) → ((p : ℕ) → p < length plan.places → (cell p).tag ≡ 0) → Raced plan cell (blank Root ∷ [])
begins_raced plan cell fresh = record { race = []; is_race = tt; tags = fresh; own = only }
  where
    only : (j : ℕ) (u : View) → get_elem? (blank Root ∷ []) j ≡ some u → OwnAs [] u u.role
    only zero u e = subst (λ (z : View). OwnAs [] z z.role) (some-injective (blank Root) u e) record { own = refl; none = λ t n. refl; back = λ t l b. absurd b; known = λ t l b. absurd b; all = λ t b. absurd b }
    only (suc j) u e = absurd (some-ne-none u (sym e))
