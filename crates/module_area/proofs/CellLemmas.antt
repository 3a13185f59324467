-- Each kind of step that changes a cell keeps the rule.
use Rattle.std.proofs.Common.{◌≡◌, ◌≢◌, ◌⊎◌, ℕ, ◌+◌, ◌*◌, ◌<◌, ◌≤◌, ◌&&◌, Bool, true, false, nat_eq, if◌then◌else◌, List, ◌∷◌, length, set, sym, refl, ap, ◌∙◌, subst, inl, inr, ⊎_elim, arith, eq-eqb, ne_eqb}
use Rattle.std.proofs.Math.Bool.{and-false}
use Rattle.std.proofs.lemmas.Bool.{or_right}
use mathlib.Core.Option.{some}
use mathlib.Core.Logic.{dite}
use native.Mathlib.Decide.{ℕ_discrete}
use lib.ListN.{get_elem?}
use Rattle.cov_base.specs.declared.facts.Fact.{Fact}
use Rattle.cov_base.specs.Meaning.{FactSet, has_fact, is_full, breakpoint}
use Rattle.module_area.specs.declared.cells.Cell.{Cell}
use Rattle.module_area.specs.declared.parties.View.{View}
use Rattle.module_area.specs.declared.parties.Role.TheVariants.{Spent}
use Rattle.module_area.specs.Meaning.{PlanView, original_at, kind_at, is_over, is_controlled}
use Rattle.module_area.specs.Rule.{Has, add_if, times, last_tag, window_tag, lifting, planting, planted, lifted, closed, IsForm, Once, Keeps, Owes, Held}
use Rattle.module_area.specs.Parties.{closing}
use Rattle.module_area.proofs.PartyLemmas.{has-add_if}
use Rattle.module_area.proofs.StepLemmas.{Grows, kept_grows, back, into, moved, once_same, ties_same, one_keeper, planted_not, same_window, full_some, one_if, breakpoint_form}

abbrev Cells : Type 0
Cells = ℕ → Cell

abbrev Sets : Type 0
Sets = ℕ → ℕ → FactSet

module _ (plan : PlanView) (cell : Cells) (sets : Sets) (views : List View) (r : Held plan cell sets views) (id : ℕ) (v : View) (at : get_elem? views id ≡ some v) where
  -- ---- Lift: a try to exchange the breakpoint of session s at place p, whose set it met full
  module _ (live : v.role ≢ Spent) (s p : ℕ) (l : p < length plan.places) (met : Has (s, p) v.full) (exchanged : Bool) (cell' : Cells) (sets' : Sets)
      (did : ((exchanged ≡ true) × (cell p ≡ planted s) × (cell' p ≡ lifted s (original_at plan p))) ⊎ ((exchanged ≡ false) × (cell p ≢ planted s) × (cell' p ≡ cell p)))
      (others : (q : ℕ) → q < length plan.places → q ≢ p → cell' q ≡ cell q) (keep : (t q : ℕ) → q < length plan.places → 0 < t → sets' t q ≡ sets t q) where
    fine : original_at plan p ≢ breakpoint
    fine = r.is_plan.no_breakpoint p l

    by_cell : (P : ℕ → Cell → Type 0) (q : ℕ) → q < length plan.places → (cell p ≡ planted s → P p (lifted s (original_at plan p))) → (cell p ≢ planted s → P p (cell p)) → (q ≢ p → P q (cell q)) → P q (cell' q)
    by_cell P q lq hit miss other = dite (ℕ_discrete q p)
        (λ e. subst (λ z. P z (cell' z)) (sym e) (⊎_elim
        (λ (x : (exchanged ≡ true) × (cell p ≡ planted s) × (cell' p ≡ lifted s (original_at plan p))). subst (P p) (sym x.2) (hit x.1))
        (λ (x : (exchanged ≡ false) × (cell p ≢ planted s) × (cell' p ≡ cell p)). subst (P p) (sym x.2) (miss x.1)) did))
        (λ n. subst (P q) (sym (others q lq n)) (other n))

    lift_known : (0 < s) × Has (p, window_tag s) v.seen × (is_full (kind_at plan p) (sets s p) ≡ true)
    lift_known = (r.kept id v at).full s p met

    lift_tag : cell p ≡ planted s → window_tag s ≡ (cell p).tag
    lift_tag e = ap (λ (z : Cell). z.tag) (sym e)

    lift_session : cell p ≡ planted s → is_over plan s p ≡ true
    lift_session e = let a = breakpoint_form plan p (cell p) fine (r.site p l).form (ap (λ (z : Cell). z.half) e) in
        subst (λ z. is_over plan z p ≡ true) (sym (same_window s a.0 lift_known.0 a.1 (lift_tag e ∙ ap (λ (z : Cell). z.tag) a.3))) a.2

    lift_same_tag : (q : ℕ) → q < length plan.places → (cell' q).tag ≡ (cell q).tag
    lift_same_tag q lq = by_cell (λ b z. z.tag ≡ (cell b).tag) q lq lift_tag (λ _. refl) (λ _. refl)

    lift_grows : Grows plan cell sets cell' sets'
    lift_grows = record {
      tags = λ q lq. let e = lift_same_tag q lq in omega arith;
      more = λ t q g lq pos. into plan sets sets' keep (λ x. has_fact x g ≡ true) t q lq pos;
      full = λ t q lq pos. into plan sets sets' keep (λ x. is_full (kind_at plan q) x ≡ true) t q lq pos;
      stay = λ t q lq _ _ n. by_cell (λ b z. cell b ≢ planted t → z ≢ planted t) q lq (λ _ _ e. planted_not t (lifted s (original_at plan p)) fine (sym e)) (λ _ m. m) (λ _ m. m) n;
    }

    lift_free : cell' p ≢ planted s
    lift_free = by_cell (λ b z. b ≡ p → z ≢ planted s) p l (λ _ _ e. planted_not s (lifted s (original_at plan p)) fine (sym e)) (λ n _. n) (λ n e. absurd (n e)) refl

    lift_hit : cell p ≡ planted s → (t q : ℕ) → q < length plan.places → 0 < t → (n n' : ℕ) → n' + times t q v.lifted ≡ n + times t q ((s, p) ∷ v.lifted) → Once t (original_at plan q) (cell q) n → Once t (original_at plan q) (cell' q) n'
    lift_hit y t q lq pos n n' e h = let x : ℕ = original_at plan p in by_cell (λ b z. (b ≡ q) → Once t (original_at plan b) z n') q lq
        (λ _ eb. let h' : Once t x (cell p) n = subst (λ b. Once t (original_at plan b) (cell b) n) (sym eb) h in
        dite (ℕ_discrete s t)
        (λ st. let one : ◌≡◌ {A = ℕ} (if nat_eq s t && nat_eq p q then 1 else 0) 1 = ap (λ b. one_if (b && nat_eq p q)) (eq-eqb s t st) ∙ ap one_if (eq-eqb p q eb) in let zero_before = h'.not_yet (y ∙ ap planted st) in
        let now : n' ≡ 1 = omega arith in let w : window_tag s ≡ window_tag t = ap window_tag st in
        record { most = omega arith; there = λ _. now; early = λ lt. absurd (omega arith); not_yet = λ z. absurd (planted_not t (lifted s x) fine (sym z)) })
        (λ st. let none_more : ◌≡◌ {A = ℕ} (if nat_eq s t && nat_eq p q then 1 else 0) 0 = ap (λ b. one_if (b && nat_eq p q)) (ne_eqb s t st) in let now : n' ≡ n = omega arith in let a = h'.most in
        record {
          most = omega arith;
          there = λ z. absurd (st (same_window s t lift_known.0 pos (ap (λ (c : Cell). c.tag) z)));
          early = λ lt. now ∙ h'.early (let b = lift_tag y in omega arith);
          not_yet = λ z. absurd (planted_not t (lifted s x) fine (sym z));
        }))
        (λ miss _. absurd (miss y))
        (λ other _. let none_more : ◌≡◌ {A = ℕ} (if nat_eq s t && nat_eq p q then 1 else 0) 0 = ap (λ b. one_if (nat_eq s t && b)) (ne_eqb p q (λ z. other (sym z))) ∙ ap one_if (and-false (nat_eq s t)) in
        once_same plan cell sets views r id v at t (original_at plan q) (cell q) n n' (times t q v.lifted) (omega arith) h)
        refl

    lift_once : (t q : ℕ) → q < length plan.places → 0 < t → (n n' : ℕ) → n' + times t q v.lifted ≡ n + times t q (add_if exchanged (s, p) v.lifted) → Once t (original_at plan q) (cell q) n → Once t (original_at plan q) (cell' q) n'
    lift_once t q lq pos n n' e h = let F : Bool → Type 0 = λ b. n' + times t q v.lifted ≡ n + times t q (add_if b (s, p) v.lifted) in ⊎_elim
        (λ (x : (exchanged ≡ true) × (cell p ≡ planted s) × (cell' p ≡ lifted s (original_at plan p))). lift_hit x.1 t q lq pos n n' (subst F x.0 e) h)
        (λ (x : (exchanged ≡ false) × (cell p ≢ planted s) × (cell' p ≡ cell p)). subst (λ c. Once t (original_at plan q) c n') (sym (by_cell (λ b z. z ≡ cell b) q lq (λ y. absurd (x.1 y)) (λ _. refl) (λ _. refl)))
        (once_same plan cell sets views r id v at t (original_at plan q) (cell q) n n' (times t q v.lifted) (subst F x.0 e) h))
        did

    hit_of : exchanged ≡ true → cell p ≡ planted s
    hit_of e = ⊎_elim (λ (x : (exchanged ≡ true) × (cell p ≡ planted s) × (cell' p ≡ lifted s (original_at plan p))). x.1)
        (λ (x : (exchanged ≡ false) × (cell p ≢ planted s) × (cell' p ≡ cell p)). let z = x.0 in absurd cc) did

    pub lifts : Held plan cell' sets' (set views id (lifting s p exchanged v))
    lifts = let w : View = lifting s p exchanged v in let k = kept_grows plan cell sets cell' sets' lift_grows v (r.kept id v at) in
        moved plan cell sets views r id v at cell' sets' w record {
          grows = lift_grows;
          site = λ q lq. let ok = r.site q lq in record {
            form = by_cell (λ b z. IsForm plan b z) q lq (λ e. inr (s, lift_known.0, lift_session e, inr (inl refl))) (λ _. (r.site p l).form) (λ _. ok.form);
            full = λ t pos. by_cell (λ b z. b < length plan.places → z ≡ lifted t (original_at plan b) → is_full (kind_at plan b) (sets' t b) ≡ true) q lq
                (λ _ lb e. let is : s ≡ t = same_window s t lift_known.0 pos (ap (λ (c : Cell). c.tag) e) in
                into plan sets sets' keep (λ x. is_full (kind_at plan p) x ≡ true) t p lb pos (subst (λ a. is_full (kind_at plan p) (sets a p) ≡ true) is lift_known.2))
                (λ _ lb e. into plan sets sets' keep (λ x. is_full (kind_at plan p) x ≡ true) t p lb pos ((r.site p l).full t pos e))
                (λ _ lb e. into plan sets sets' keep (λ x. is_full (kind_at plan q) x ≡ true) t q lb pos (ok.full t pos e)) lq;
            empty = λ t pos lt g h. ok.empty t pos (subst (λ z. z < window_tag t) (lift_same_tag q lq) lt) g (back plan sets sets' keep (λ x. has_fact x g ≡ true) t q lq pos h);
          };
          mine = record {
            seen = k.seen;
            pending = k.pending;
            marked = k.marked;
            full = k.full;
            free = λ t q h. ⊎_elim
                (λ (e : (s, p) ≡ (t, q)). subst (λ (z : ℕ × ℕ). Has z v.full × (cell' z.1 ≢ planted z.0)) e (met, lift_free))
                (λ (old : Has (t, q) v.free). k.free t q old)
                h;
            lifted = λ t q h. ⊎_elim
                (λ (e : (exchanged ≡ true) × ((s, p) ≡ (t, q))). subst (λ (z : ℕ × ℕ). (z.1 < length plan.places) × (0 < z.0) × (is_over plan z.0 z.1 ≡ true) × Has z (lifting s p exchanged v).free) e.1 (l, lift_known.0, lift_session (hit_of e.0), inl refl))
                (λ (old : Has (t, q) v.lifted). let x = k.lifted t q old in (x.0, x.1, x.2, inr x.3))
                (has-add_if exchanged (t, q) (s, p) v.lifted h);
            planted = k.planted;
            joined = k.joined;
          };
          more = λ t q g h. h;
          news = λ t q g lq pos h. inl (back plan sets sets' keep (λ x. has_fact x g ≡ true) t q lq pos h);
          tie = ties_same plan cell sets views r id v at cell' lift_same_tag id v at;
          ties = λ j u _ there. ties_same plan cell sets views r id v at cell' lift_same_tag j u there;
          live = live;
          owed = λ t q lq pos full e. inr (
            back plan sets sets' keep (λ x. is_full (kind_at plan q) x ≡ true) t q lq pos full,
            by_cell (λ b z. z ≡ planted t → cell b ≡ planted t) q lq (λ _ z. absurd (planted_not t (lifted s (original_at plan p)) fine (sym z))) (λ _ z. z) (λ _ z. z) e,
            λ h. (h.0, λ free. ⊎_elim (λ (z : (s, p) ≡ (t, q)). subst (λ (y : ℕ × ℕ). cell' y.1 ≢ planted y.0) z lift_free e) (λ (z : Has (t, q) v.free). h.1 z) free),
          );
          once = lift_once;
          role = refl;
          given = λ t h. h;
          joined = λ t h. h;
        }

  -- ---- Plant: the keeper of place p opens session s over it
  module _ (live : v.role ≢ Spent) (s p : ℕ) (l : p < length plan.places) (keeps : Keeps plan v p) (pos_s : 0 < s) (its : is_over plan s p ≡ true) (later : last_tag p v.planted < window_tag s) (cell' : Cells) (sets' : Sets)
      (here : cell' p ≡ planted s) (others : (q : ℕ) → q < length plan.places → q ≢ p → cell' q ≡ cell q) (keep : (t q : ℕ) → q < length plan.places → 0 < t → sets' t q ≡ sets t q) where
    by_plant : (P : ℕ → Cell → Type 0) (q : ℕ) → q < length plan.places → P p (planted s) → (q ≢ p → P q (cell q)) → P q (cell' q)
    by_plant P q lq hit other = dite (ℕ_discrete q p) (λ e. subst (λ z. P z (cell' z)) (sym e) (subst (P p) (sym here) hit)) (λ n. subst (P q) (sym (others q lq n)) (other n))

    low : (cell p).tag < window_tag s
    low = subst (λ z. z < window_tag s) (sym (r.ties id v at p l keeps)) later

    plant_grows : Grows plan cell sets cell' sets'
    plant_grows = record {
      tags = λ q lq. by_plant (λ b z. (cell b).tag ≤ z.tag) q lq (let e = low in omega arith) (λ _. omega arith);
      more = λ t q g lq pos. into plan sets sets' keep (λ x. has_fact x g ≡ true) t q lq pos;
      full = λ t q lq pos. into plan sets sets' keep (λ x. is_full (kind_at plan q) x ≡ true) t q lq pos;
      stay = λ t q lq pos. by_plant (λ b z. window_tag t ≤ (cell b).tag → cell b ≢ planted t → z ≢ planted t) q lq
          (λ le _ e. let a = low in let b : window_tag s ≡ window_tag t = ap (λ (z : Cell). z.tag) e in absurd (omega arith)) (λ _ _ m. m);
    }

    pub plants : Held plan cell' sets' (set views id (planting s p v))
    plants = let w : View = planting s p v in let k = kept_grows plan cell sets cell' sets' plant_grows v (r.kept id v at) in
        moved plan cell sets views r id v at cell' sets' w record {
          grows = plant_grows;
          site = λ q lq. let ok = r.site q lq in record {
            form = by_plant (λ b z. IsForm plan b z) q lq (inr (s, pos_s, its, inl refl)) (λ _. ok.form);
            full = λ t pos. by_plant (λ b z. z ≡ lifted t (original_at plan b) → is_full (kind_at plan b) (sets' t b) ≡ true) q lq
                (λ e. absurd (planted_not s (lifted t (original_at plan p)) (r.is_plan.no_breakpoint p l) e))
                (λ _ e. into plan sets sets' keep (λ x. is_full (kind_at plan q) x ≡ true) t q lq pos (ok.full t pos e));
            empty = λ t pos. by_plant (λ b z. (b ≡ q) → z.tag < window_tag t → (g : Fact) → has_fact (sets' t b) g ≡ true → ⊥) q lq
                (λ eb lt g h. (r.site p l).empty t pos (let a = low in omega arith) g (back plan sets sets' keep (λ x. has_fact x g ≡ true) t p l pos h))
                (λ _ _ lt g h. ok.empty t pos lt g (back plan sets sets' keep (λ x. has_fact x g ≡ true) t q lq pos h)) refl;
          };
          mine = record {
            seen = λ q t h. ⊎_elim
                (λ (e : (p, window_tag s) ≡ (q, t)). subst (λ (z : ℕ × ℕ). (z.0 < length plan.places) × (z.1 ≤ (cell' z.0).tag)) e (l, (let a = ap (λ (z : Cell). z.tag) here in omega arith)))
                (λ (old : Has (q, t) v.seen). k.seen q t old)
                h;
            pending = λ q t h. let b = k.pending q t h in (b.0, b.1, b.2, b.3, inr b.4);
            marked = k.marked;
            full = λ t q h. let b = k.full t q h in (b.0, inr b.1, b.2);
            free = k.free;
            lifted = k.lifted;
            planted = λ q t h. ⊎_elim (λ e. inl e) (λ old. inr (k.planted q t old)) h;
            joined = k.joined;
          };
          more = λ t q g h. h;
          news = λ t q g lq pos h. inl (back plan sets sets' keep (λ x. has_fact x g ≡ true) t q lq pos h);
          tie = λ q lq kq. dite (ℕ_discrete p q)
              (λ e. subst (λ b. (cell' q).tag ≡ (if b then window_tag s else last_tag q v.planted)) (sym (eq-eqb p q e)) (ap (λ (z : Cell). z.tag) (ap cell' (sym e) ∙ here)))
              (λ n. subst (λ b. (cell' q).tag ≡ (if b then window_tag s else last_tag q v.planted)) (sym (ne_eqb p q n)) (ap (λ (z : Cell). z.tag) (others q lq (λ e. n (sym e))) ∙ r.ties id v at q lq kq));
          ties = λ j u n there q lq kq. by_plant (λ b z. (b ≡ q) → z.tag ≡ last_tag q u.planted) q lq
              (λ e. absurd (n (one_keeper plan cell sets views r id v at j u p there (subst (Keeps plan u) (sym e) kq) keeps)))
              (λ _ _. r.ties j u there q lq kq) refl;
          live = live;
          owed = λ t q lq pos full e. by_plant (λ b z. (b ≡ q) → is_full (kind_at plan b) (sets' t b) ≡ true → z ≡ planted t → Owes t b w ⊎ ((is_full (kind_at plan b) (sets t b) ≡ true) × (cell b ≡ planted t) × (Owes t b v → Owes t b w))) q lq
              (λ _ fu z. let is : window_tag s ≡ window_tag t = ap (λ (c : Cell). c.tag) z in let some = full_some (kind_at plan p) (sets' t p) fu in
              absurd ((r.site p l).empty t pos (let a = low in omega arith) some.0 (back plan sets sets' keep (λ x. has_fact x some.0 ≡ true) t p l pos some.1)))
              (λ _ _ fu z. inr (back plan sets sets' keep (λ x. is_full (kind_at plan q) x ≡ true) t q lq pos fu, z, λ h. h))
              refl full e;
          once = λ t q lq pos n n' e h. by_plant (λ b z. (b ≡ q) → Once t (original_at plan b) z n') q lq
              (λ eb. let h' : Once t (original_at plan p) (cell p) n' = subst (λ b. Once t (original_at plan b) (cell b) n') (sym eb) (once_same plan cell sets views r id v at t (original_at plan q) (cell q) n n' (times t q v.lifted) e h) in record {
                most = h'.most;
                there = λ z. absurd (planted_not s (lifted t (original_at plan p)) (r.is_plan.no_breakpoint p l) z);
                early = λ lt. h'.early (let a = low in omega arith);
                not_yet = λ z. h'.early (let a = low in let b : window_tag s ≡ window_tag t = ap (λ (c : Cell). c.tag) z in omega arith);
              })
              (λ _ _. once_same plan cell sets views r id v at t (original_at plan q) (cell q) n n' (times t q v.lifted) e h) refl;
          role = refl;
          given = λ t h. h;
          joined = λ t h. h;
        }

  -- ---- Close: the keeper of place p ends the controlled session s over it
  module _ (live : v.role ≢ Spent) (s p : ℕ) (l : p < length plan.places) (keeps : Keeps plan v p) (pos_s : 0 < s) (its : is_controlled plan s p ≡ true) (is_open : last_tag p v.planted ≡ window_tag s) (cell' : Cells) (sets' : Sets)
      (here : cell' p ≡ closed s (original_at plan p)) (others : (q : ℕ) → q < length plan.places → q ≢ p → cell' q ≡ cell q) (keep : (t q : ℕ) → q < length plan.places → 0 < t → sets' t q ≡ sets t q) where
    by_close : (P : ℕ → Cell → Type 0) (q : ℕ) → q < length plan.places → P p (closed s (original_at plan p)) → (q ≢ p → P q (cell q)) → P q (cell' q)
    by_close P q lq hit other = dite (ℕ_discrete q p) (λ e. subst (λ z. P z (cell' z)) (sym e) (subst (P p) (sym here) hit)) (λ n. subst (P q) (sym (others q lq n)) (other n))

    over : is_over plan s p ≡ true
    over = or_right _ (is_controlled plan s p) its

    open_tag : (cell p).tag ≡ window_tag s
    open_tag = r.ties id v at p l keeps ∙ is_open

    not_planted : (t : ℕ) → closed s (original_at plan p) ≢ planted t
    not_planted t e = planted_not t (closed s (original_at plan p)) (r.is_plan.no_breakpoint p l) (sym e)

    not_lifted : (t x y : ℕ) → 0 < t → closed s x ≢ lifted t y
    not_lifted t x y pos e = let z : 2 * s ≡ window_tag t = ap (λ (c : Cell). c.tag) e in omega arith

    close_grows : Grows plan cell sets cell' sets'
    close_grows = record {
      tags = λ q lq. by_close (λ b z. (cell b).tag ≤ z.tag) q lq (let e = open_tag in omega arith) (λ _. omega arith);
      more = λ t q g lq pos. into plan sets sets' keep (λ x. has_fact x g ≡ true) t q lq pos;
      full = λ t q lq pos. into plan sets sets' keep (λ x. is_full (kind_at plan q) x ≡ true) t q lq pos;
      stay = λ t q lq pos. by_close (λ b z. window_tag t ≤ (cell b).tag → cell b ≢ planted t → z ≢ planted t) q lq (λ _ _. not_planted t) (λ _ _ m. m);
    }

    pub closes : Held plan cell' sets' (set views id (closing s p v))
    closes = let w : View = closing s p v in let k = kept_grows plan cell sets cell' sets' close_grows v (r.kept id v at) in
        moved plan cell sets views r id v at cell' sets' w record {
          grows = close_grows;
          site = λ q lq. let ok = r.site q lq in record {
            form = by_close (λ b z. IsForm plan b z) q lq (inr (s, pos_s, over, inr (inr (refl, its)))) (λ _. ok.form);
            full = λ t pos. by_close (λ b z. z ≡ lifted t (original_at plan b) → is_full (kind_at plan b) (sets' t b) ≡ true) q lq
                (λ e. absurd (not_lifted t (original_at plan p) (original_at plan p) pos e))
                (λ _ e. into plan sets sets' keep (λ x. is_full (kind_at plan q) x ≡ true) t q lq pos (ok.full t pos e));
            empty = λ t pos. by_close (λ b z. z.tag < window_tag t → (g : Fact) → has_fact (sets' t b) g ≡ true → ⊥) q lq
                (λ lt g h. (r.site p l).empty t pos (let a = open_tag in omega arith) g (back plan sets sets' keep (λ x. has_fact x g ≡ true) t p l pos h))
                (λ _ lt g h. ok.empty t pos lt g (back plan sets sets' keep (λ x. has_fact x g ≡ true) t q lq pos h));
          };
          mine = record {
            seen = λ q t h. ⊎_elim
                (λ (e : (p, 2 * s) ≡ (q, t)). subst (λ (z : ℕ × ℕ). (z.0 < length plan.places) × (z.1 ≤ (cell' z.0).tag)) e (l, (let a = ap (λ (z : Cell). z.tag) here in omega arith)))
                (λ (old : Has (q, t) v.seen). k.seen q t old)
                h;
            pending = λ q t h. let b = k.pending q t h in (b.0, b.1, b.2, b.3, inr b.4);
            marked = k.marked;
            full = λ t q h. let b = k.full t q h in (b.0, inr b.1, b.2);
            free = k.free;
            lifted = k.lifted;
            planted = λ q t h. ⊎_elim (λ e. inl e) (λ old. inr (k.planted q t old)) h;
            joined = k.joined;
          };
          more = λ t q g h. h;
          news = λ t q g lq pos h. inl (back plan sets sets' keep (λ x. has_fact x g ≡ true) t q lq pos h);
          tie = λ q lq kq. dite (ℕ_discrete p q)
              (λ e. subst (λ b. (cell' q).tag ≡ (if b then 2 * s else last_tag q v.planted)) (sym (eq-eqb p q e)) (ap (λ (z : Cell). z.tag) (ap cell' (sym e) ∙ here)))
              (λ n. subst (λ b. (cell' q).tag ≡ (if b then 2 * s else last_tag q v.planted)) (sym (ne_eqb p q n)) (ap (λ (z : Cell). z.tag) (others q lq (λ e. n (sym e))) ∙ r.ties id v at q lq kq));
          ties = λ j u n there q lq kq. by_close (λ b z. (b ≡ q) → z.tag ≡ last_tag q u.planted) q lq
              (λ e. absurd (n (one_keeper plan cell sets views r id v at j u p there (subst (Keeps plan u) (sym e) kq) keeps)))
              (λ _ _. r.ties j u there q lq kq) refl;
          live = live;
          owed = λ t q lq pos full e. by_close (λ b z. is_full (kind_at plan b) (sets' t b) ≡ true → z ≡ planted t → Owes t b w ⊎ ((is_full (kind_at plan b) (sets t b) ≡ true) × (cell b ≡ planted t) × (Owes t b v → Owes t b w))) q lq
              (λ _ z. absurd (not_planted t z))
              (λ _ fu z. inr (back plan sets sets' keep (λ x. is_full (kind_at plan q) x ≡ true) t q lq pos fu, z, λ h. h))
              full e;
          once = λ t q lq pos n n' e h. by_close (λ b z. (b ≡ q) → Once t (original_at plan b) z n') q lq
              (λ eb. let h' : Once t (original_at plan p) (cell p) n' = subst (λ b. Once t (original_at plan b) (cell b) n') (sym eb) (once_same plan cell sets views r id v at t (original_at plan q) (cell q) n n' (times t q v.lifted) e h) in record {
                most = h'.most;
                there = λ z. absurd (not_lifted t (original_at plan p) (original_at plan p) pos z);
                early = λ lt. h'.early (let a = open_tag in omega arith);
                not_yet = λ z. absurd (not_planted t z);
              })
              (λ _ _. once_same plan cell sets views r id v at t (original_at plan q) (cell q) n n' (times t q v.lifted) e h) refl;
          role = refl;
          given = λ t h. h;
          joined = λ t h. h;
        }
