-- Each kind of step that leaves the cells keeps the rule.
use Rattle.std.proofs.Common.{◌≡◌, ◌≢◌, ◌⊎◌, ℕ, ◌+◌, ◌%◌, ◌<◌, ◌≤◌, Bool, true, nat_eq, if◌then◌else◌, Some, List, length, set, sym, refl, ap, ◌∙◌, subst, inl, inr, ⊎_elim, arith, eqb-true}
use Rattle.std.proofs.lemmas.Bool.{and_parts}
use Rattle.std.proofs.lemmas.Option.{cond_some}
use mathlib.Core.Option.{some}
use mathlib.Core.Logic.{dite}
use native.Mathlib.Decide.{ℕ_discrete}
use lib.ListN.{get_elem?}
use Rattle.cov_base.specs.declared.facts.Fact.{Fact}
use Rattle.cov_base.specs.declared.facts.Fact.TheVariants.{Ran, Went, Stayed}
use Rattle.cov_base.specs.declared.facts.Kind.{Kind}
use Rattle.cov_base.specs.declared.facts.Kind.TheVariants.{Straight, Conditional}
use Rattle.cov_base.specs.Meaning.{FactSet, has_fact, is_full, full_of, with_fact, breakpoint}
use Rattle.cov_base.specs.FactKind.{is_of_kind}
use Rattle.cov_base.proofs.Laws.{is_full-true, with_fact-here, with_fact-more, with_fact-cases}
use Rattle.module_area.specs.declared.cells.Cell.{Cell}
use Rattle.module_area.specs.declared.parties.View.{View}
use Rattle.module_area.specs.declared.parties.Role.{Role}
use Rattle.module_area.specs.declared.parties.Role.TheVariants.{Root, Task, Spent}
use Rattle.module_area.specs.Meaning.{PlanView, original_at, kind_at, is_over, tag_session}
use Rattle.module_area.specs.Rule.{is_controller, Has, times, total, last_tag, window_tag, is_breakpoint, is_lifted, blank, fetching, marking, planted, lifted, IsForm, Once, KeepsAs, Keeps, IsRole, Owes, Kept, IsSite, Held}
use Rattle.module_area.proofs.PlanLemmas.{one_controller, no_controller}
use Rattle.module_area.proofs.PartyLemmas.{has-add_if, more-add_if, here-add_if, at_put, at_set, all_set, some_set, total-set}

pub task_not_root : (t : ℕ) → Task t ≢ Root
task_not_root t e = cc

pub spent_not_root : Spent ≢ Root
spent_not_root e = cc

pub spent_not_task : (t : ℕ) → Spent ≢ Task t
spent_not_task t e = cc

abbrev pub one_if : Bool → ℕ
one_if b = if b then 1 else 0

full_again : (k : Kind) (f : Fact) → is_of_kind k f ≡ true → is_full k (with_fact (full_of k) f) ≡ true
full_again Straight Ran h = refl
full_again Straight Went h = absurd cc
full_again Straight Stayed h = absurd cc
full_again Conditional Ran h = absurd cc
full_again Conditional Went h = refl
full_again Conditional Stayed h = refl

-- a full set stays full
full_with : (k : Kind) (s : FactSet) (f : Fact) → is_full k s ≡ true → is_of_kind k f ≡ true → is_full k (with_fact s f) ≡ true
full_with k s f h is = subst (λ x. is_full k (with_fact x f) ≡ true) (sym (is_full-true k s h)) (full_again k f is)

some_of : (k : Kind) → (f : Fact) × (has_fact (full_of k) f ≡ true)
some_of Straight = (Ran, refl)
some_of Conditional = (Went, refl)

pub full_some : (k : Kind) (s : FactSet) → is_full k s ≡ true → (f : Fact) × (has_fact s f ≡ true)
full_some k s h = let x = some_of k in (x.0, subst (λ z. has_fact z x.0 ≡ true) (sym (is_full-true k s h)) x.1)

-- a breakpoint is no original
pub planted_not : (s : ℕ) (c : Cell) → c.half ≢ breakpoint → planted s ≢ c
planted_not s c n e = n (sym (ap (λ (z : Cell). z.half) e))

pub same_window : (s t : ℕ) → 0 < s → 0 < t → window_tag s ≡ window_tag t → s ≡ t
same_window s t ps pt e = omega arith

module _ (plan : PlanView) (p : ℕ) (c : Cell) (fine : original_at plan p ≢ breakpoint) where
  pub breakpoint_form : IsForm plan p c → c.half ≡ breakpoint → (s : ℕ) × (0 < s) × (is_over plan s p ≡ true) × (c ≡ planted s)
  breakpoint_form (inl e) b = absurd (fine (sym (ap (λ (z : Cell). z.half) e) ∙ b))
  breakpoint_form (inr (s, pos, over, inl e)) b = (s, pos, over, e)
  breakpoint_form (inr (s, pos, over, inr (inl e))) b = absurd (fine (sym (ap (λ (z : Cell). z.half) e) ∙ b))
  breakpoint_form (inr (s, pos, over, inr (inr e))) b = absurd (fine (sym (ap (λ (z : Cell). z.half) e.0) ∙ b))

  pub lifted_form : IsForm plan p c → is_lifted plan p c ≡ true → (s : ℕ) × (0 < s) × (is_over plan s p ≡ true) × (c ≡ lifted s (original_at plan p))
  lifted_form (inl e) h = let tag = ap (λ (z : Cell). z.tag) e in let odd = eqb-true _ _ (and_parts (nat_eq c.half (original_at plan p)) (nat_eq (c.tag % 2) 1) h).1 in absurd (omega arith)
  lifted_form (inr (s, pos, over, inl e)) h = absurd (fine (sym (eqb-true _ _ (and_parts (nat_eq c.half (original_at plan p)) (nat_eq (c.tag % 2) 1) h).0) ∙ ap (λ (z : Cell). z.half) e))
  lifted_form (inr (s, pos, over, inr (inl e))) h = (s, pos, over, e)
  lifted_form (inr (s, pos, over, inr (inr e))) h = let tag = ap (λ (z : Cell). z.tag) e.0 in let odd = eqb-true _ _ (and_parts (nat_eq c.half (original_at plan p)) (nat_eq (c.tag % 2) 1) h).1 in absurd (omega arith)

module _ (plan : PlanView) where
  abbrev Cells : Type 0
  Cells = ℕ → Cell

  abbrev Sets : Type 0
  Sets = ℕ → ℕ → FactSet

  -- tags do not fall, sets do not shrink, and no breakpoint comes back
  pub record Grows (cell : Cells) (sets : Sets) (cell' : Cells) (sets' : Sets) : Type 0 where
    pub tags : (p : ℕ) → p < length plan.places → (cell p).tag ≤ (cell' p).tag
    pub more : (s p : ℕ) (f : Fact) → p < length plan.places → 0 < s → has_fact (sets s p) f ≡ true → has_fact (sets' s p) f ≡ true
    pub full : (s p : ℕ) → p < length plan.places → 0 < s → is_full (kind_at plan p) (sets s p) ≡ true → is_full (kind_at plan p) (sets' s p) ≡ true
    pub stay : (s p : ℕ) → p < length plan.places → 0 < s → window_tag s ≤ (cell p).tag → cell p ≢ planted s → cell' p ≢ planted s

  pub kept_grows : (cell : Cells) (sets : Sets) (cell' : Cells) (sets' : Sets) → Grows cell sets cell' sets' → (v : View) → Kept plan cell sets v → Kept plan cell' sets' v
  kept_grows cell sets cell' sets' g v k = record {
    seen = λ p t h. let old = k.seen p t h in (old.0, let more = g.tags p old.0 in let l = old.1 in omega arith);
    pending = k.pending;
    marked = λ s p f h. let old = k.marked s p f h in (old.0, old.1, old.2, old.3, g.more s p f old.0 old.1 old.4);
    full = λ s p h. let old = k.full s p h in let at = k.seen p (window_tag s) old.1 in (old.0, old.1, g.full s p at.0 old.0 old.2);
    free = λ s p h. let old = k.free s p h in let f = k.full s p old.0 in let at = k.seen p (window_tag s) f.1 in (old.0, g.stay s p at.0 f.0 at.1 old.1);
    lifted = k.lifted;
    planted = k.planted;
    joined = k.joined;
  }

  -- a property of a set before and after a step that leaves the sets
  module _ (sets sets' : Sets) (keep : (t q : ℕ) → q < length plan.places → 0 < t → sets' t q ≡ sets t q) where
    pub back : (P : FactSet → Type 0) (t q : ℕ) → q < length plan.places → 0 < t → P (sets' t q) → P (sets t q)
    back P t q lq pos h = subst P (keep t q lq pos) h

    pub into : (P : FactSet → Type 0) (t q : ℕ) → q < length plan.places → 0 < t → P (sets t q) → P (sets' t q)
    into P t q lq pos h = subst P (sym (keep t q lq pos)) h

  module _ (cell : Cells) (sets : Sets) (views : List View) (r : Held plan cell sets views) (id : ℕ) (v : View) (at : get_elem? views id ≡ some v) where
    -- what is left to show of a step that takes the view v of the party id to w
    pub record Moves (cell' : Cells) (sets' : Sets) (w : View) : Type 0 where
      pub grows : Grows cell sets cell' sets'
      pub site : (p : ℕ) → p < length plan.places → IsSite plan cell' sets' p
      pub mine : Kept plan cell' sets' w
      pub more : (s p : ℕ) (f : Fact) → Has (s, p, f) v.marked → Has (s, p, f) w.marked
      pub news : (s p : ℕ) (f : Fact) → p < length plan.places → 0 < s → has_fact (sets' s p) f ≡ true → (has_fact (sets s p) f ≡ true) ⊎ Has (s, p, f) w.marked
      pub tie : (p : ℕ) → p < length plan.places → Keeps plan w p → (cell' p).tag ≡ last_tag p w.planted
      pub ties : (j : ℕ) (u : View) → j ≢ id → get_elem? views j ≡ some u → (p : ℕ) → p < length plan.places → Keeps plan u p → (cell' p).tag ≡ last_tag p u.planted
      pub live : v.role ≢ Spent
      pub owed : (s p : ℕ) → p < length plan.places → 0 < s → is_full (kind_at plan p) (sets' s p) ≡ true → cell' p ≡ planted s →
          Owes s p w ⊎ ((is_full (kind_at plan p) (sets s p) ≡ true) × (cell p ≡ planted s) × (Owes s p v → Owes s p w))
      pub once : (s p : ℕ) → p < length plan.places → 0 < s → (n n' : ℕ) → n' + times s p v.lifted ≡ n + times s p w.lifted → Once s (original_at plan p) (cell p) n → Once s (original_at plan p) (cell' p) n'
      pub role : w.role ≡ v.role
      pub given : (t : ℕ) → Has t v.given → Has t w.given
      pub joined : (t : ℕ) → Has t w.joined → Has t v.joined

    pub first_only : (j : ℕ) (u : View) → get_elem? views j ≡ some u → u.role ≡ Root → j ≡ 0
    first_only j u there e = subst (IsRole views j) e (r.roles j u there)

    pub role_stays : (w : View) → w.role ≡ v.role → ((t : ℕ) → Has t v.given → Has t w.given) → ((t : ℕ) → Has t w.joined → Has t v.joined) → (j : ℕ) (o : Role) → IsRole views j o → IsRole (set views id w) j o
    role_stays w e g d j Root h = h
    role_stays w e g d j Spent h = h
    role_stays w e g d j (Task t) h = λ i u here is. ⊎_elim
        (λ (x : (i ≡ id) × (w ≡ u)). let q = h id v at (sym e ∙ (ap (λ (z : View). z.role) x.1 ∙ is)) in
        subst (λ (z : View). Has t z.given × (Has t z.joined → ⊥)) x.1 (g t q.0, λ k. q.1 (d t k)))
        (λ (x : (i ≢ id) × (get_elem? views i ≡ some u)). h i u x.1 is)
        (at_set views id i w u here)

    -- the party that stands at i after the step had this role there before
    pub role_before : (w : View) → w.role ≡ v.role → (i : ℕ) (u : View) → get_elem? (set views id w) i ≡ some u → (z : View) × (get_elem? views i ≡ some z) × (z.role ≡ u.role)
    role_before w e i u here = ⊎_elim (λ (x : (i ≡ id) × (w ≡ u)). (v, subst (λ k. get_elem? views k ≡ some v) (sym x.0) at, sym e ∙ ap (λ (z : View). z.role) x.1))
        (λ (x : (i ≢ id) × (get_elem? views i ≡ some u)). (u, x.1, refl)) (at_set views id i w u here)

    pub moved : (cell' : Cells) (sets' : Sets) (w : View) → Moves cell' sets' w → Held plan cell' sets' (set views id w)
    moved cell' sets' w m = record {
      is_plan = r.is_plan;
      site = m.site;
      kept = all_set (λ _ u. Kept plan cell' sets' u) views id w m.mine (λ j u _ here. kept_grows cell sets cell' sets' m.grows u (r.kept j u here));
      known = λ s p f l pos h. ⊎_elim
          (λ old. some_set (λ u. Has (s, p, f) u.marked) views id v w at (m.more s p f) (r.known s p f l pos old))
          (λ new. (id, w, at_put views id v w at, new))
          (m.news s p f l pos h);
      ties = all_set (λ _ u. (p : ℕ) → p < length plan.places → Keeps plan u p → (cell' p).tag ≡ last_tag p u.planted) views id w m.tie m.ties;
      owed = λ s p l pos full e. ⊎_elim
          (λ mine. (id, w, at_put views id v w at, mine))
          (λ old. some_set (Owes s p) views id v w at old.2 (r.owed s p l pos old.0 old.1))
          (m.owed s p l pos full e);
      once = λ s p l pos. m.once s p l pos (total (λ u. times s p u.lifted) views) (total (λ u. times s p u.lifted) (set views id w)) (total-set (λ u. times s p u.lifted) views id v w at) (r.once s p l pos);
      roles = all_set (λ j u. IsRole (set views id w) j u.role) views id w
          (subst (IsRole (set views id w) id) (sym m.role) (role_stays w m.role m.given m.joined id v.role (r.roles id v at)))
          (λ j u _ here. role_stays w m.role m.given m.joined j u.role (r.roles j u here));
      spent = all_set (λ _ u. u.role ≡ Spent → u ≡ blank Spent) views id w (λ e. absurd (m.live (sym m.role ∙ e))) (λ j u _ here. r.spent j u here);
      apart = λ i j a b t ha hb ra rb. let x = role_before w m.role i a ha in let y = role_before w m.role j b hb in r.apart i j x.0 y.0 t x.1 y.1 (x.2 ∙ ra) (y.2 ∙ rb);
    }

    pub ties_same : (cell' : Cells) → ((p : ℕ) → p < length plan.places → (cell' p).tag ≡ (cell p).tag) → (j : ℕ) (u : View) → get_elem? views j ≡ some u → (p : ℕ) → p < length plan.places → Keeps plan u p → (cell' p).tag ≡ last_tag p u.planted
    ties_same cell' e j u here p l k = e p l ∙ r.ties j u here p l k

    -- the root does not keep what a task keeps that is out
    not_both : (i j : ℕ) (a b : View) (t p : ℕ) → get_elem? views i ≡ some a → get_elem? views j ≡ some b → a.role ≡ Root → b.role ≡ Task t → KeepsAs plan a p Root → is_controller plan t p ≡ true → ⊥
    not_both i j a b t p ha hb ra rb (inl pos) own = no_controller plan t p r.is_plan pos own
    not_both i j a b t p ha hb ra rb (inr (u, own', alt)) own = let same : u ≡ t = one_controller plan u t p r.is_plan own' own in
        let is = (subst (IsRole views j) rb (r.roles j b hb)) i a ha ra in
        ⊎_elim (λ not_given. not_given (subst (λ z. Has z a.given) (sym same) is.0)) (λ back. is.1 (subst (λ z. Has z a.joined) same back)) alt

    by_roles : (j : ℕ) (u : View) (p : ℕ) → get_elem? views j ≡ some u → (a b : Role) → u.role ≡ a → v.role ≡ b → KeepsAs plan u p a → KeepsAs plan v p b → j ≡ id
    by_roles j u p here Root Root ra rb ka kb = first_only j u here ra ∙ sym (first_only id v at rb)
    by_roles j u p here Root (Task t) ra rb ka kb = absurd (not_both j id u v t p here at ra rb ka kb)
    by_roles j u p here (Task t) Root ra rb ka kb = absurd (not_both id j v u t p at here rb ra kb ka)
    by_roles j u p here (Task t) (Task q) ra rb ka kb = r.apart j id u v t here at ra (rb ∙ ap Task (one_controller plan q t p r.is_plan kb ka))
    by_roles j u p here a Spent ra rb ka kb = absurd kb
    by_roles j u p here Spent b ra rb ka kb = absurd ka

    -- one party keeps a place
    pub one_keeper : (j : ℕ) (u : View) (p : ℕ) → get_elem? views j ≡ some u → Keeps plan u p → Keeps plan v p → j ≡ id
    one_keeper j u p here ka kb = by_roles j u p here u.role v.role refl refl ka kb

    pub once_same : (s o : ℕ) (c : Cell) (n n' k : ℕ) → n' + k ≡ n + k → Once s o c n → Once s o c n'
    once_same s o c n n' k e h = subst (Once s o c) (let x : n ≡ n' = omega arith in x) h

    pub same : Grows cell sets cell sets
    same = record { tags = λ p _. omega arith; more = λ s p f _ _ h. h; full = λ s p _ _ h. h; stay = λ s p _ _ _ n. n }

    -- ---- Boundary, Note, Read: cells, sets and what the rule reads of the notes stay, or the answer is gone
    pub quiet : v.role ≢ Spent → (w : View) → w.role ≡ v.role → w.marked ≡ v.marked → w.full ≡ v.full → w.free ≡ v.free → w.lifted ≡ v.lifted → w.seen ≡ v.seen → w.planted ≡ v.planted → w.given ≡ v.given → w.joined ≡ v.joined
        → ((p t : ℕ) → w.pending ≡ Some (p, t) → v.pending ≡ Some (p, t)) → Held plan cell sets (set views id w)
    quiet live w role marked full free lifted seen planted given joined waits = let k = r.kept id v at in moved cell sets w record {
      grows = same;
      site = r.site;
      mine = record {
        seen = λ p t h. k.seen p t (subst (Has (p, t)) seen h);
        pending = λ p t e. let a = k.pending p t (waits p t e) in (a.0, a.1, a.2, a.3, subst (Has (p, t)) (sym seen) a.4);
        marked = λ s p f h. k.marked s p f (subst (Has (s, p, f)) marked h);
        full = λ s p h. let a = k.full s p (subst (Has (s, p)) full h) in (a.0, subst (Has (p, window_tag s)) (sym seen) a.1, a.2);
        free = λ s p h. let a = k.free s p (subst (Has (s, p)) free h) in (subst (Has (s, p)) (sym full) a.0, a.1);
        lifted = λ s p h. let a = k.lifted s p (subst (Has (s, p)) lifted h) in (a.0, a.1, a.2, subst (Has (s, p)) (sym free) a.3);
        planted = λ p t h. subst (Has (p, t)) (sym seen) (k.planted p t (subst (Has (p, t)) planted h));
        joined = λ t h. subst (Has t) (sym given) (k.joined t (subst (Has t) joined h));
      };
      more = λ s p f h. subst (Has (s, p, f)) (sym marked) h;
      news = λ s p f _ _ h. inl h;
      tie = λ p l kp. r.ties id v at p l (keeps_same w p role given joined kp) ∙ ap (last_tag p) (sym planted);
      ties = λ j u _ there. r.ties j u there;
      live = live;
      owed = λ s p _ _ f e. inr (f, e, λ h. (subst (Has (s, p)) (sym full) h.0, λ x. h.1 (subst (Has (s, p)) free x)));
      once = λ s p _ _ n n' e. once_same s (original_at plan p) (cell p) n n' (times s p v.lifted) (e ∙ ap (λ l. n + times s p l) lifted);
      role = role;
      given = λ t h. subst (Has t) (sym given) h;
      joined = λ t h. subst (Has t) joined h;
    }
      where
        by_role : (w : View) (p : ℕ) (q : Role) → w.given ≡ v.given → w.joined ≡ v.joined → KeepsAs plan w p q → KeepsAs plan v p q
        by_role w p Root given joined (inl pos) = inl pos
        by_role w p Root given joined (inr (t, own, inl new)) = inr (t, own, inl (λ h. new (subst (Has t) (sym given) h)))
        by_role w p Root given joined (inr (t, own, inr back)) = inr (t, own, inr (subst (Has t) joined back))
        by_role w p (Task t) given joined k = k
        by_role w p Spent given joined k = k

        keeps_same : (w : View) (p : ℕ) → w.role ≡ v.role → w.given ≡ v.given → w.joined ≡ v.joined → Keeps plan w p → Keeps plan v p
        keeps_same w p role given joined k = by_role w p v.role given joined (subst (KeepsAs plan w p) role k)

    -- ---- Fetch: the cell of place p as it stands
    module _ (live : v.role ≢ Spent) (p : ℕ) (l : p < length plan.places) where
      was_planted : (cell p).half ≡ breakpoint → (s : ℕ) × (0 < s) × (is_over plan s p ≡ true) × ((cell p).tag ≡ window_tag s)
      was_planted e = let a = breakpoint_form plan p (cell p) (r.is_plan.no_breakpoint p l) (r.site p l).form e in (a.0, a.1, a.2, ap (λ (z : Cell). z.tag) a.3)

      was_lifted : is_lifted plan p (cell p) ≡ true → (0 < tag_session (cell p).tag) × (window_tag (tag_session (cell p).tag) ≡ (cell p).tag) × (is_full (kind_at plan p) (sets (tag_session (cell p).tag) p) ≡ true) × (cell p ≢ planted (tag_session (cell p).tag))
      was_lifted e = let a = lifted_form plan p (cell p) (r.is_plan.no_breakpoint p l) (r.site p l).form e in
          let o : ℕ = original_at plan p in
          let pos = a.1 in
          let tag : (cell p).tag ≡ window_tag a.0 = ap (λ (z : Cell). z.tag) a.3 in
          let is : tag_session (cell p).tag ≡ a.0 = omega (arith, tag, pos) in (
            subst (λ k. 0 < k) (sym is) pos,
            ap window_tag is ∙ sym tag,
            subst (λ k. is_full (kind_at plan p) (sets k p) ≡ true) (sym is) ((r.site p l).full a.0 pos a.3),
            λ b. planted_not (tag_session (cell p).tag) (lifted a.0 o) (r.is_plan.no_breakpoint p l) (sym b ∙ a.3),
          )

      pub fetch_kept : Kept plan cell sets (fetching plan p (cell p) v)
      fetch_kept = let k = r.kept id v at in let w : View = fetching plan p (cell p) v in record {
        seen = λ q t h. ⊎_elim (λ (e : (p, (cell p).tag) ≡ (q, t)). subst (λ (z : ℕ × ℕ). (z.0 < length plan.places) × (z.1 ≤ (cell z.0).tag)) e (l, omega arith)) (λ (o : Has (q, t) v.seen). k.seen q t o) h;
        pending = λ q t h. let b = cond_some (is_breakpoint (cell p)) (p, (cell p).tag) (q, t) h in
            subst (λ (z : ℕ × ℕ). (s : ℕ) × (0 < s) × (is_over plan s z.0 ≡ true) × (z.1 ≡ window_tag s) × Has z w.seen) b.1
            (let a = was_planted (eqb-true _ _ b.0) in (a.0, a.1, a.2, a.3, inl refl));
        marked = k.marked;
        full = λ s q h. ⊎_elim
            (λ (b : (is_lifted plan p (cell p) ≡ true) × ((tag_session (cell p).tag, p) ≡ (s, q))). let f = was_lifted b.0 in
            subst (λ (z : ℕ × ℕ). (0 < z.0) × Has (z.1, window_tag z.0) w.seen × (is_full (kind_at plan z.1) (sets z.0 z.1) ≡ true)) b.1 (f.0, inl (ap (λ (t : ℕ). (p, t)) (sym f.1)), f.2))
            (λ (o : Has (s, q) v.full). let f = k.full s q o in (f.0, inr f.1, f.2))
            (has-add_if (is_lifted plan p (cell p)) (s, q) (tag_session (cell p).tag, p) v.full h);
        free = λ s q h. ⊎_elim
            (λ (b : (is_lifted plan p (cell p) ≡ true) × ((tag_session (cell p).tag, p) ≡ (s, q))). let f = was_lifted b.0 in
            subst (λ (z : ℕ × ℕ). Has z w.full × (cell z.1 ≢ planted z.0)) b.1 (here-add_if (is_lifted plan p (cell p)) (tag_session (cell p).tag, p) v.full b.0, f.3))
            (λ (o : Has (s, q) v.free). let f = k.free s q o in (more-add_if (is_lifted plan p (cell p)) (s, q) (tag_session (cell p).tag, p) v.full f.0, f.1))
            (has-add_if (is_lifted plan p (cell p)) (s, q) (tag_session (cell p).tag, p) v.free h);
        lifted = λ s q h. let x = k.lifted s q h in (x.0, x.1, x.2, more-add_if (is_lifted plan p (cell p)) (s, q) (tag_session (cell p).tag, p) v.free x.3);
        planted = λ q t h. inr (k.planted q t h);
        joined = k.joined;
      }

      pub fetches : Held plan cell sets (set views id (fetching plan p (cell p) v))
      fetches = moved cell sets (fetching plan p (cell p) v) record {
        grows = same;
        site = r.site;
        mine = fetch_kept;
        more = λ s q f h. h;
        news = λ s q f _ _ h. inl h;
        tie = r.ties id v at;
        ties = λ j u _ here. r.ties j u here;
        live = live;
        owed = λ s q lq pos full e. inr (
          full,
          e,
          λ h. (
            more-add_if (is_lifted plan p (cell p)) (s, q) (tag_session (cell p).tag, p) v.full h.0,
            λ free. ⊎_elim
                (λ (b : (is_lifted plan p (cell p) ≡ true) × ((tag_session (cell p).tag, p) ≡ (s, q))). subst (λ (z : ℕ × ℕ). cell z.1 ≢ planted z.0) b.1 (was_lifted b.0).3 e)
                (λ (o : Has (s, q) v.free). h.1 o)
                (has-add_if (is_lifted plan p (cell p)) (s, q) (tag_session (cell p).tag, p) v.free free),
          ),
        );
        once = λ s q _ _ n n' e. once_same s (original_at plan q) (cell q) n n' (times s q v.lifted) e;
        role = refl;
        given = λ t h. h;
        joined = λ t h. h;
      }

    -- ---- Mark: the fact f into the set of session s at place p, after its breakpoint was fetched
    module _ (live : v.role ≢ Spent) (s p : ℕ) (f : Fact) (l : p < length plan.places) (pos_s : 0 < s) (pend : v.pending ≡ Some (p, window_tag s)) (fits : is_of_kind (kind_at plan p) f ≡ true)
        (cell' : Cells) (sets' : Sets) (cells : (q : ℕ) → q < length plan.places → cell' q ≡ cell q) (here : sets' s p ≡ with_fact (sets s p) f)
        (others : (t q : ℕ) → q < length plan.places → 0 < t → ((t ≡ s) × (q ≡ p) → ⊥) → sets' t q ≡ sets t q) where
      -- a property of a set after the step
      by_set : (P : ℕ → ℕ → FactSet → Type 0) (t q : ℕ) → q < length plan.places → 0 < t → P s p (with_fact (sets s p) f) → (((t ≡ s) × (q ≡ p) → ⊥) → P t q (sets t q)) → P t q (sets' t q)
      by_set P t q lq pos hit other = dite (ℕ_discrete t s)
          (λ et. dite (ℕ_discrete q p)
          (λ eq. subst (λ (z : ℕ × ℕ). P z.0 z.1 (sets' z.0 z.1)) (λ i. (sym et i, sym eq i)) (subst (P s p) (sym here) hit))
          (λ n. let no : (t ≡ s) × (q ≡ p) → ⊥ = λ z. n z.1 in subst (P t q) (sym (others t q lq pos no)) (other no)))
          (λ n. let no : (t ≡ s) × (q ≡ p) → ⊥ = λ z. n z.0 in subst (P t q) (sym (others t q lq pos no)) (other no))

      mark_known : (is_over plan s p ≡ true) × (window_tag s ≤ (cell p).tag) × Has (p, window_tag s) v.seen
      mark_known = let k = r.kept id v at in let a = k.pending p (window_tag s) pend in
          (subst (λ z. is_over plan z p ≡ true) (sym (same_window s a.0 pos_s a.1 a.3)) a.2, (k.seen p (window_tag s) a.4).1, a.4)

      mark_grows : Grows cell sets cell' sets'
      mark_grows = record {
        tags = λ q lq. subst (λ (z : Cell). (cell q).tag ≤ z.tag) (sym (cells q lq)) (omega arith);
        more = λ t q g lq pos. by_set (λ a b x. has_fact (sets a b) g ≡ true → has_fact x g ≡ true) t q lq pos (with_fact-more (sets s p) f g) (λ _ h. h);
        full = λ t q lq pos. by_set (λ a b x. is_full (kind_at plan b) (sets a b) ≡ true → is_full (kind_at plan b) x ≡ true) t q lq pos (λ h. full_with (kind_at plan p) (sets s p) f h fits) (λ _ h. h);
        stay = λ t q lq _ _ n e. n (sym (cells q lq) ∙ e);
      }

      pub marks : Held plan cell' sets' (set views id (marking plan s p f (sets s p) v))
      marks = let y : View = marking plan s p f (sets s p) v in let k = kept_grows cell sets cell' sets' mark_grows v (r.kept id v at) in let b : Bool = is_full (kind_at plan p) (with_fact (sets s p) f) in
          moved cell' sets' y record {
            grows = mark_grows;
            site = λ q lq. let ok = r.site q lq in record {
              form = subst (IsForm plan q) (sym (cells q lq)) ok.form;
              full = λ t pos e. mark_grows.full t q lq pos (ok.full t pos (sym (cells q lq) ∙ e));
              empty = λ t pos lt g. let lt' : (cell q).tag < window_tag t = subst (λ (z : Cell). z.tag < window_tag t) (cells q lq) lt in
                  by_set (λ a d x. (a ≡ t) → (d ≡ q) → has_fact x g ≡ true → ⊥) t q lq pos
                  (λ ea ed _. let c : window_tag s ≡ window_tag t = ap window_tag ea in let d : (cell p).tag ≡ (cell q).tag = ap (λ x. (cell x).tag) ed in let e = mark_known.1 in omega arith)
                  (λ _ _ _. ok.empty t pos lt' g) refl refl;
            };
            mine = record {
              seen = k.seen;
              pending = k.pending;
              marked = λ t q g h. ⊎_elim
                  (λ (e : (s, p, f) ≡ (t, q, g)). subst (λ (z : ℕ × ℕ × Fact). (z.1 < length plan.places) × (0 < z.0) × (is_over plan z.0 z.1 ≡ true) × (is_of_kind (kind_at plan z.1) z.2 ≡ true) × (has_fact (sets' z.0 z.1) z.2 ≡ true)) e
                  (l, pos_s, mark_known.0, fits, subst (λ x. has_fact x f ≡ true) (sym here) (with_fact-here (sets s p) f)))
                  (λ (o : Has (t, q, g) v.marked). k.marked t q g o)
                  h;
              full = λ t q h. ⊎_elim
                  (λ (e : (b ≡ true) × ((s, p) ≡ (t, q))). subst (λ (z : ℕ × ℕ). (0 < z.0) × Has (z.1, window_tag z.0) v.seen × (is_full (kind_at plan z.1) (sets' z.0 z.1) ≡ true)) e.1
                  (pos_s, mark_known.2, subst (λ x. is_full (kind_at plan p) x ≡ true) (sym here) e.0))
                  (λ (o : Has (t, q) v.full). k.full t q o)
                  (has-add_if b (t, q) (s, p) v.full h);
              free = λ t q h. let o = k.free t q h in (more-add_if b (t, q) (s, p) v.full o.0, o.1);
              lifted = k.lifted;
              planted = k.planted;
              joined = k.joined;
            };
            more = λ t q g h. inr h;
            news = λ t q g lq pos. by_set (λ a d x. has_fact x g ≡ true → (has_fact (sets a d) g ≡ true) ⊎ Has (a, d, g) y.marked) t q lq pos
                (λ h. ⊎_elim (λ o. inl o) (λ (e : g ≡ f). inr (inl (ap (λ (z : Fact). (s, p, z)) (sym e)))) (with_fact-cases (sets s p) f g h))
                (λ _ h. inl h);
            tie = ties_same cell' (λ q lq. ap (λ (z : Cell). z.tag) (cells q lq)) id v at;
            ties = λ j u _ there. ties_same cell' (λ q lq. ap (λ (z : Cell). z.tag) (cells q lq)) j u there;
            live = live;
            owed = λ t q lq pos full e. let c : cell q ≡ planted t = sym (cells q lq) ∙ e in
                by_set (λ a d x. is_full (kind_at plan d) x ≡ true → cell d ≡ planted a → Owes a d y ⊎ ((is_full (kind_at plan d) (sets a d) ≡ true) × (cell d ≡ planted a) × (Owes a d v → Owes a d y))) t q lq pos
                (λ fu z. inl (here-add_if b (s, p) v.full fu, λ free. ((r.kept id v at).free s p free).1 z))
                (λ _ fu z. inr (fu, z, λ h. (more-add_if b (t, q) (s, p) v.full h.0, h.1))) full c;
            once = λ t q lq _ n n' e h. subst (λ c. Once t (original_at plan q) c n') (sym (cells q lq)) (once_same t (original_at plan q) (cell q) n n' (times t q v.lifted) e h);
            role = refl;
            given = λ t h. h;
            joined = λ t h. h;
          }
