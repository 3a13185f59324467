-- Each kind of step keeps the rule's part on task words.
use Rattle.std.proofs.Common.{◌≡◌, ◌≢◌, ◌⊎◌, ℕ, ◌*◌, ◌%◌, ◌<◌, ◌≤◌, Bool, true, false, not, nat_eq, if◌then◌else◌, Some, None, List, [], ◌∷◌, ◌++◌, length, set, sym, refl, ap, ◌∙◌, subst, inl, inr, ⊎_elim, arith, eq-eqb, eqb-true}
use Rattle.std.proofs.lemmas.Option.{none-some}
use mathlib.Core.Option.{some, some-injective}
use mathlib.Core.Logic.{dite}
use native.Mathlib.Decide.{ℕ_discrete}
use lib.ListN.{get_elem?}
use Rattle.cov_base.specs.Meaning.{FactSet}
use Rattle.module_area.specs.declared.cells.Cell.{Cell}
use Rattle.module_area.specs.declared.parties.View.{View}
use Rattle.module_area.specs.declared.parties.Role.{Role}
use Rattle.module_area.specs.declared.parties.Role.TheVariants.{Root, Task, Spent}
use Rattle.module_area.specs.Meaning.{PlanView, is_controlled}
use Rattle.module_area.specs.Rule.{has_task, Has, last_tag, window_tag, blank, IsRole, Held}
use Rattle.module_area.specs.Parties.{chosen, giving, newcomer, joining, role_task, bounding, noting, reading}
use Rattle.module_area.specs.Drained.{Noted, IsOverAt, IsPast, IsNumber, IsSettled, Drained}
use Rattle.module_area.proofs.PartyLemmas.{has-append, has-add_if, at_set, all_set, all_snoc, all_two, kept_tag, no_tag, first_tag, dropped_tag}
use Rattle.module_area.proofs.StepLemmas.{task_not_root, spent_not_task}

module _ (plan : PlanView) (cell : ℕ → Cell) (sets : ℕ → ℕ → FactSet) (word : ℕ → ℕ) (views : List View) (h : Held plan cell sets views) (r : Drained plan cell sets word views) (id : ℕ) (v : View) (at : get_elem? views id ≡ some v) where
  -- a task that is known past a session has no answer of it pending, and the session is closed
  pub past_idle : (s t p : ℕ) → 0 < s → IsPast plan v s t → is_controlled plan s p ≡ true → (i : ℕ) (u : View) → get_elem? views i ≡ some u → u.role ≡ Task t → u.pending ≢ Some (p, window_tag s)
  past_idle s t p pos past its i u there role pend = let e : Noted = past.0 in let bears : u.role ≡ Task e.0 = role ∙ ap Task (sym past.2) in
      let low : word e.0 ≤ e.1 = r.late id v e i u s p at past.1 pos (past.3 p its) there bears pend in
      ⊎_elim
      (λ (odd : e.1 % 2 ≡ 1). let high : e.1 ≤ word e.0 = r.noted id v e at past.1 in let same : e.1 ≡ word e.0 = omega arith in
      none-some _ (sym (r.ended i u e.0 there bears (ap (λ k. k % 2) (sym same) ∙ odd)) ∙ pend))
      (λ (n, seen, has, more). let high : n ≤ word t = r.noted id v (t, n, seen) at has in let same : word e.0 ≡ word t = ap word past.2 in absurd (omega arith))
      past.4

  -- what is left to show of a step that takes the view v of the party id to w
  pub record Turns (cell' : ℕ → Cell) (sets' : ℕ → ℕ → FactSet) (word' : ℕ → ℕ) (w : View) : Type 0 where
    pub role : w.role ≡ v.role
    pub tags : (p : ℕ) → p < length plan.places → (cell p).tag ≤ (cell' p).tag
    pub words : (t : ℕ) → word t ≤ word' t
    pub others : (t : ℕ) → (v.role ≡ Task t → ⊥) → word' t ≡ word t
    pub idle : v.role ≡ Root → w.pending ≡ None
    pub ended : (t : ℕ) → v.role ≡ Task t → word' t % 2 ≡ 1 → w.pending ≡ None
    pub number : (t : ℕ) → has_task plan.tasks t ≡ true → IsNumber w t (word' t) v.role
    pub fresh : (s p : ℕ) → 0 < s → w.pending ≡ Some (p, window_tag s) → ((v.pending ≡ Some (p, window_tag s)) × ((t : ℕ) → v.role ≡ Task t → word' t ≡ word t)) ⊎ ((cell p).tag < 2 * s)
    pub noted : (e : Noted) → Has e w.noted → Has e v.noted ⊎ ((e.1 ≡ word' e.0) × (e.2 ≡ v.seen))
    pub stay : (s p : ℕ) → p < length plan.places → 0 < s → ((j : ℕ) (u : View) → get_elem? views j ≡ some u → u.pending ≢ Some (p, window_tag s)) → sets' s p ≡ sets s p
    pub settled : (s p : ℕ) (x : FactSet) → Has (s, p, x) w.settled → Has (s, p, x) v.settled ⊎ ((p < length plan.places) × (0 < s) × IsSettled cell sets views s p x)

  module _ (cell' : ℕ → Cell) (sets' : ℕ → ℕ → FactSet) (word' : ℕ → ℕ) (w : View) (m : Turns cell' sets' word' w) where
    -- another pass's task is not the mover's
    apart_word : (i : ℕ) (u : View) (t : ℕ) → i ≢ id → get_elem? views i ≡ some u → u.role ≡ Task t → word' t ≡ word t
    apart_word i u t n there bears = m.others t (λ e. n (h.apart i id u v t there at bears e))

    -- the number of a party that didn't move
    by_roles : (j : ℕ) (u : View) (t : ℕ) → j ≢ id → get_elem? views j ≡ some u → (q : Role) → u.role ≡ q → IsNumber u t (word t) q → IsNumber u t (word' t) q
    by_roles j u t n there Root is k = (
      λ new. m.others t (λ e. new (((subst (IsRole views id) e (h.roles id v at)) j u there is).0)) ∙ k.0 new,
      λ back. m.others t (λ e. ((subst (IsRole views id) e (h.roles id v at)) j u there is).1 back) ∙ k.1 back,
    )
    by_roles j u t n there (Task q) is k = λ e. apart_word j u t n there (is ∙ ap Task e) ∙ k e
    by_roles j u t n there Spent is k = tt

    -- who noted had noted it before, or notes it now
    noter : (j : ℕ) (u : View) (e : Noted) → get_elem? (set views id w) j ≡ some u → Has e u.noted → ((i : ℕ) × (z : View) × (get_elem? views i ≡ some z) × Has e z.noted) ⊎ ((e.1 ≡ word' e.0) × (e.2 ≡ v.seen))
    noter j u e now has = ⊎_elim
        (λ (x : (j ≡ id) × (w ≡ u)). ⊎_elim (λ old. inl (id, v, at, old)) (λ new. inr new) (m.noted e (subst (λ (z : View). Has e z.noted) (sym x.1) has)))
        (λ (x : (j ≢ id) × (get_elem? views j ≡ some u)). inl (j, u, x.1, has)) (at_set views id j w u now)

    settler : (j : ℕ) (u : View) (s p : ℕ) (x : FactSet) → get_elem? (set views id w) j ≡ some u → Has (s, p, x) u.settled → (p < length plan.places) × (0 < s) × IsSettled cell sets views s p x
    settler j u s p x now has = ⊎_elim
        (λ (y : (j ≡ id) × (w ≡ u)). ⊎_elim (λ old. r.settled id v s p x at old) (λ new. new) (m.settled s p x (subst (λ (z : View). Has (s, p, x) z.settled) (sym y.1) has)))
        (λ (y : (j ≢ id) × (get_elem? views j ≡ some u)). r.settled j u s p x y.1 has) (at_set views id j w u now)

    still_late : (j : ℕ) (z : View) (e : Noted) (i : ℕ) (u : View) (s p : ℕ) → get_elem? views j ≡ some z → Has e z.noted → 0 < s → IsOverAt e.2 s p → get_elem? (set views id w) i ≡ some u → u.role ≡ Task e.0 → u.pending ≡ Some (p, window_tag s) → word' e.0 ≤ e.1
    still_late j z e i u s p there has pos over now bears pend = ⊎_elim
        (λ (x : (i ≡ id) × (w ≡ u)). let mine : v.role ≡ Task e.0 = sym m.role ∙ (ap (λ (y : View). y.role) x.1 ∙ bears) in ⊎_elim
        (λ old. let low = r.late j z e id v s p there has pos over at mine old.0 in let same = old.1 e.0 mine in omega (arith, low, same))
        (λ below. let top = (r.noted_seen j z e p over.0 there has over.1).1 in let least = over.2 in absurd (omega (arith, below, top, least)))
        (m.fresh s p pos (ap (λ (y : View). y.pending) x.1 ∙ pend)))
        (λ (x : (i ≢ id) × (get_elem? views i ≡ some u)). let low = r.late j z e i u s p there has pos over x.1 bears pend in let same = apart_word i u e.0 x.0 x.1 bears in omega (arith, low, same))
        (at_set views id i w u now)

    pub turned : Drained plan cell' sets' word' (set views id w)
    turned = record {
      idle = all_set (λ _ u. u.role ≡ Root → u.pending ≡ None) views id w (λ e. m.idle (sym m.role ∙ e)) (λ j u _ there. r.idle j u there);
      tasks = λ j u t now bears. all_set (λ _ u. (t : ℕ) → u.role ≡ Task t → has_task plan.tasks t ≡ true) views id w (λ t e. r.tasks id v t at (sym m.role ∙ e)) (λ j u _ there t e. r.tasks j u t there e) j u now t bears;
      number = λ j u t now task. all_set (λ _ u. IsNumber u t (word' t) u.role) views id w (subst (IsNumber w t (word' t)) (sym m.role) (m.number t task)) (λ j u n there. by_roles j u t n there u.role refl (r.number j u t there task)) j u now;
      noted = λ j u e now has. ⊎_elim (λ old. let a = r.noted old.0 old.1 e old.2 old.3 in let b = m.words e.0 in omega (arith, a, b)) (λ new. let a = new.0 in omega (arith, a)) (noter j u e now has);
      noted_seen = λ j u e p x now has there. ⊎_elim
          (λ old. let a = r.noted_seen old.0 old.1 e p x old.2 old.3 there in let b = m.tags p a.0 in let c = a.1 in (a.0, omega (arith, b, c)))
          (λ new. let a = (h.kept id v at).seen p x (subst (Has (p, x)) new.1 there) in let b = m.tags p a.0 in let c = a.1 in (a.0, omega (arith, b, c)))
          (noter j u e now has);
      ended = λ j u t now bears odd. all_set (λ _ u. u.role ≡ Task t → u.pending ≡ None) views id w (λ e. m.ended t (sym m.role ∙ e) odd) (λ j u n there e. r.ended j u t there e (ap (λ k. k % 2) (sym (apart_word j u t n there e)) ∙ odd)) j u now bears;
      late = λ j z e i u s p now has pos over there bears pend. ⊎_elim (λ old. still_late old.0 old.1 e i u s p old.2 old.3 pos over there bears pend) (λ new. let a = new.0 in omega (arith, a)) (noter j z e now has);
      settled = λ j u s p x now has. let y = settler j u s p x now has in (
        y.0,
        y.1,
        record {
          set = m.stay s p y.0 y.1 y.2.idle ∙ y.2.set;
          tag = let a = y.2.tag in let b = m.tags p y.0 in omega (arith, a, b);
          idle = all_set (λ _ z. z.pending ≢ Some (p, window_tag s)) views id w
              (λ pend. ⊎_elim (λ old. y.2.idle id v at old.0) (λ below. let a = y.2.tag in absurd (omega (arith, a, below))) (m.fresh s p y.1 pend))
              (λ i z _ there. y.2.idle i z there);
        },
      );
    }

  -- a step that leaves words, answers, notes and numbers alone: a lift, a plant, a close
  pub calm : (cell' : ℕ → Cell) (sets' : ℕ → ℕ → FactSet) (w : View) → w.role ≡ v.role → w.pending ≡ v.pending → w.joined ≡ v.joined → w.given ≡ v.given → w.numbers ≡ v.numbers → w.noted ≡ v.noted → w.settled ≡ v.settled
      → ((p : ℕ) → p < length plan.places → (cell p).tag ≤ (cell' p).tag)
      → ((s p : ℕ) → p < length plan.places → 0 < s → ((j : ℕ) (u : View) → get_elem? views j ≡ some u → u.pending ≢ Some (p, window_tag s)) → sets' s p ≡ sets s p)
      → Turns cell' sets' word w
  calm cell' sets' w role pending joined given numbers noted settled tags stay = record {
    role = role;
    tags = tags;
    words = λ t. omega arith;
    others = λ t _. refl;
    idle = λ e. pending ∙ r.idle id v at e;
    ended = λ t e odd. pending ∙ r.ended id v t at e odd;
    number = λ t task. by_role v.role t (r.number id v t at task);
    fresh = λ s p pos e. inl (sym pending ∙ e, λ t _. refl);
    noted = λ e has. inl (subst (Has e) noted has);
    stay = stay;
    settled = λ s p x has. inl (subst (Has (s, p, x)) settled has);
  }
    where
      by_role : (q : Role) (t : ℕ) → IsNumber v t (word t) q → IsNumber w t (word t) q
      by_role Root t k = (λ new. k.0 (λ had. new (subst (Has t) (sym given) had)), λ back. k.1 (subst (Has t) joined back) ∙ ap (last_tag t) (sym numbers))
      by_role (Task u) t k = λ e. k e ∙ ap (last_tag t) (sym numbers)
      by_role Spent t k = tt

  -- ---- Mark: it has the session's answer in hand, so no set that is known as final changes
  pub mark_drained : (s p : ℕ) → v.pending ≡ Some (p, window_tag s) → 0 < s → (cell' : ℕ → Cell) (sets' : ℕ → ℕ → FactSet) (w : View)
      → w.role ≡ v.role → w.pending ≡ v.pending → w.joined ≡ v.joined → w.given ≡ v.given → w.numbers ≡ v.numbers → w.noted ≡ v.noted → w.settled ≡ v.settled
      → ((q : ℕ) → q < length plan.places → cell' q ≡ cell q) → ((t q : ℕ) → q < length plan.places → 0 < t → ((t ≡ s) × (q ≡ p) → ⊥) → sets' t q ≡ sets t q)
      → Drained plan cell' sets' word (set views id w)
  mark_drained s p pend pos cell' sets' w role pending joined given numbers noted settled cells others = turned cell' sets' word w
      (calm cell' sets' w role pending joined given numbers noted settled
      (λ q l. let e : (cell' q).tag ≡ (cell q).tag = ap (λ (c : Cell). c.tag) (cells q l) in omega arith)
      (λ t q l pos_t idle. others t q l pos_t (λ z. idle id v at (pend ∙ (λ i. Some (sym z.1 i, window_tag (sym z.0 i)))))))

  -- ---- Lift, Plant, Close: the sets stay
  pub cell_drained : (cell' : ℕ → Cell) (sets' : ℕ → ℕ → FactSet) (w : View) → w.role ≡ v.role → w.pending ≡ v.pending → w.joined ≡ v.joined → w.given ≡ v.given → w.numbers ≡ v.numbers → w.noted ≡ v.noted → w.settled ≡ v.settled
      → ((q : ℕ) → q < length plan.places → (cell q).tag ≤ (cell' q).tag) → ((t q : ℕ) → q < length plan.places → 0 < t → sets' t q ≡ sets t q)
      → Drained plan cell' sets' word (set views id w)
  cell_drained cell' sets' w role pending joined given numbers noted settled tags keep = turned cell' sets' word w
      (calm cell' sets' w role pending joined given numbers noted settled tags (λ t q l pos _. keep t q l pos))

  -- ---- Fetch, by a pass of a task that hasn't ended
  pub fetch_drained : (t p : ℕ) (c : Cell) (w : View) → v.role ≡ Task t → last_tag t v.numbers % 2 ≢ 1 → cell p ≡ c
      → ((q x : ℕ) → w.pending ≡ Some (q, x) → (q ≡ p) × (x ≡ c.tag))
      → w.role ≡ v.role → w.joined ≡ v.joined → w.given ≡ v.given → w.numbers ≡ v.numbers → w.noted ≡ v.noted → w.settled ≡ v.settled
      → Drained plan cell sets word (set views id w)
  fetch_drained t p c w bears even here waits role joined given numbers noted settled = turned cell sets word w record {
    role = role;
    tags = λ q _. omega arith;
    words = λ u. omega arith;
    others = λ u _. refl;
    idle = λ e. absurd (task_not_root t (sym bears ∙ e));
    ended = λ u e odd. let same : u ≡ t = ap role_task (sym e ∙ bears) in
        let own : IsNumber v t (word t) (Task t) = subst (IsNumber v t (word t)) bears (r.number id v t at (r.tasks id v t at bears)) in
        absurd (even (ap (λ k. k % 2) (sym (own refl)) ∙ (ap (λ k. word k % 2) (sym same) ∙ odd)));
    number = λ u task. subst (IsNumber w u (word u)) (sym bears) (λ e. (subst (IsNumber v u (word u)) bears (r.number id v u at task)) e ∙ ap (last_tag u) (sym numbers));
    fresh = λ s q pos e. let x = waits q (window_tag s) e in let tag : (cell q).tag ≡ window_tag s = ap (λ k. (cell k).tag) x.0 ∙ (ap (λ (z : Cell). z.tag) here ∙ sym x.1) in inr (omega arith);
    noted = λ e has. inl (subst (Has e) noted has);
    stay = λ s q _ _ _. refl;
    settled = λ s q x has. inl (subst (Has (s, q, x)) settled has);
  }

  -- ---- Boundary: the word of its task rises, and its answer is gone
  pub bound_drained : (t n : ℕ) (word' : ℕ → ℕ) → v.role ≡ Task t → word' t ≡ n → word t ≤ n → ((u : ℕ) → u ≢ t → word' u ≡ word u) → Drained plan cell sets word' (set views id (bounding t n v))
  bound_drained t n word' bears here more others = turned cell sets word' (bounding t n v) record {
    role = refl;
    tags = λ q _. omega arith;
    words = λ u. dite (ℕ_discrete u t) (λ e. let a : word u ≡ word t = ap word e in let b : word' u ≡ word' t = ap word' e in omega arith) (λ ne. let a = others u ne in omega arith);
    others = λ u not_mine. others u (λ e. not_mine (bears ∙ ap Task (sym e)));
    idle = λ _. refl;
    ended = λ _ _ _. refl;
    number = λ u task. subst (IsNumber (bounding t n v) u (word' u)) (sym bears) (λ e. ap word' (sym e) ∙ (here ∙ ap (λ b. if b then n else last_tag u v.numbers) (sym (eq-eqb t u e))));
    fresh = λ s p pos e. absurd (none-some _ e);
    noted = λ e has. inl has;
    stay = λ s p _ _ _. refl;
    settled = λ s p x has. inl has;
  }

  -- ---- Note: the word of task t as it stands
  pub note_drained : (t : ℕ) → Drained plan cell sets word (set views id (noting t (word t) v))
  note_drained t = turned cell sets word (noting t (word t) v) record {
    role = refl;
    tags = λ q _. omega arith;
    words = λ u. omega arith;
    others = λ u _. refl;
    idle = r.idle id v at;
    ended = λ u e odd. r.ended id v u at e odd;
    number = λ u task. by_role v.role u (r.number id v u at task);
    fresh = λ s p pos e. inl (e, λ u _. refl);
    noted = λ e has. ⊎_elim (λ (x : (t, word t, v.seen) ≡ e). inr (subst (λ (z : Noted). (z.1 ≡ word z.0) × (z.2 ≡ v.seen)) x (refl, refl))) (λ (old : Has e v.noted). inl old) has;
    stay = λ s p _ _ _. refl;
    settled = λ s p x has. inl has;
  }
    where
      by_role : (q : Role) (u : ℕ) → IsNumber v u (word u) q → IsNumber (noting t (word t) v) u (word u) q
      by_role Root u k = k
      by_role (Task x) u k = k
      by_role Spent u k = k

  -- ---- Read: the set of session s at place p as it stands
  -- nobody has an answer of s there where it knows each other task of the plan past s, and has none itself
  pub all_past : (s p : ℕ) → 0 < s → is_controlled plan s p ≡ true → v.pending ≢ Some (p, window_tag s)
      → ((t : ℕ) → has_task plan.tasks t ≡ true → (v.role ≡ Task t → ⊥) → IsPast plan v s t) → (i : ℕ) (u : View) → get_elem? views i ≡ some u → u.pending ≢ Some (p, window_tag s)
  all_past s p pos its mine others i u there = by_role u.role refl
    where
      by_role : (q : Role) → u.role ≡ q → u.pending ≢ Some (p, window_tag s)
      by_role Root is e = none-some _ (sym (r.idle i u there is) ∙ e)
      by_role Spent is e = none-some _ (ap (λ (z : View). z.pending) (sym (h.spent i u there is)) ∙ e)
      by_role (Task t) is e = dite (ℕ_discrete i id)
          (λ same. mine (ap (λ (z : View). z.pending) (some-injective v u (sym at ∙ (ap (get_elem? views) (sym same) ∙ there))) ∙ e))
          (λ other. past_idle s t p pos (others t (r.tasks i u t there is) (λ own. other (h.apart i id u v t there at is own))) its i u there is e)

  pub read_drained : (s p : ℕ) (final : Bool) → (final ≡ true → (p < length plan.places) × (0 < s) × (2 * s ≤ (cell p).tag) × ((j : ℕ) (u : View) → get_elem? views j ≡ some u → u.pending ≢ Some (p, window_tag s)))
      → Drained plan cell sets word (set views id (reading s p final (sets s p) v))
  read_drained s p final known = turned cell sets word (reading s p final (sets s p) v) record {
    role = refl;
    tags = λ q _. omega arith;
    words = λ u. omega arith;
    others = λ u _. refl;
    idle = r.idle id v at;
    ended = λ u e odd. r.ended id v u at e odd;
    number = λ u task. by_role v.role u (r.number id v u at task);
    fresh = λ t q pos e. inl (e, λ u _. refl);
    noted = λ e has. inl has;
    stay = λ t q _ _ _. refl;
    settled = λ t q x has. ⊎_elim
        (λ (y : (final ≡ true) × ((s, p, sets s p) ≡ (t, q, x))). let k = known y.0 in inr (subst (λ (z : ℕ × ℕ × FactSet). (z.1 < length plan.places) × (0 < z.0) × IsSettled cell sets views z.0 z.1 z.2) y.1 (k.0, k.1, record { set = refl; tag = k.2; idle = k.3 })))
        (λ old. inl old)
        (has-add_if final (t, q, x) (s, p, sets s p) v.settled has);
  }
    where
      by_role : (q : Role) (u : ℕ) → IsNumber v u (word u) q → IsNumber (reading s p final (sets s p) v) u (word u) q
      by_role Root u k = k
      by_role (Task x) u k = k
      by_role Spent u k = k

  -- ---- Split: the root gives out task t
  module _ (root : v.role ≡ Root) (t : ℕ) (new : Has t v.given → ⊥) where
    giving_turns : Turns cell sets word (giving t v)
    giving_turns = record {
      role = refl;
      tags = λ q _. omega arith;
      words = λ u. omega arith;
      others = λ u _. refl;
      idle = r.idle id v at;
      ended = λ u e odd. r.ended id v u at e odd;
      number = λ u task. let k : IsNumber v u (word u) Root = subst (IsNumber v u (word u)) root (r.number id v u at task) in
          subst (IsNumber (giving t v) u (word u)) (sym root) (λ not_given. k.0 (λ had. not_given (inr had)), k.1);
      fresh = λ s p pos e. inl (e, λ u _. refl);
      noted = λ e has. inl has;
      stay = λ s p _ _ _. refl;
      settled = λ s p x has. inl has;
    }

    pub split_drained : has_task plan.tasks t ≡ true → Drained plan cell sets word (set views id (giving t v) ++ newcomer plan t v ∷ [])
    split_drained task = let vs : List View = set views id (giving t v) in let o : View = newcomer plan t v in let g = turned cell sets word (giving t v) giving_turns in
        let zero : word t ≡ 0 = (subst (IsNumber v t (word t)) root (r.number id v t at task)).0 new in record {
          idle = all_snoc (λ _ u. u.role ≡ Root → u.pending ≡ None) vs o g.idle (λ _. refl);
          tasks = λ j u q now bears. all_snoc (λ _ u. (q : ℕ) → u.role ≡ Task q → has_task plan.tasks q ≡ true) vs o (λ j u there q e. g.tasks j u q there e) (λ q e. subst (λ k. has_task plan.tasks k ≡ true) (ap role_task e) task) j u now q bears;
          number = λ j u q now its. all_snoc (λ _ u. IsNumber u q (word q) u.role) vs o (λ j u there. g.number j u q there its) (λ e. ap word (sym e) ∙ zero) j u now;
          noted = λ j u e now has. all_snoc (λ _ u. Has e u.noted → e.1 ≤ word e.0) vs o (λ j u there has. g.noted j u e there has) (λ none. absurd none) j u now has;
          noted_seen = λ j u e p x now has there. all_snoc (λ _ u. Has e u.noted → (p < length plan.places) × (x ≤ (cell p).tag)) vs o (λ j u here has. g.noted_seen j u e p x here has there) (λ none. absurd none) j u now has;
          ended = λ j u q now bears odd. all_snoc (λ _ u. u.role ≡ Task q → u.pending ≡ None) vs o (λ j u there e. g.ended j u q there e odd) (λ _. refl) j u now bears;
          late = λ j z e i u s p now has pos over here bears pend. all_snoc (λ _ y. Has e y.noted → word e.0 ≤ e.1) vs o
              (λ j y there had. all_snoc (λ _ y. y.role ≡ Task e.0 → y.pending ≡ Some (p, window_tag s) → word e.0 ≤ e.1) vs o (λ i u at_u. g.late j y e i u s p there had pos over at_u) (λ _ none. absurd (none-some _ none)) i u here bears pend)
              (λ none. absurd none) j z now has;
          settled = λ j u s p x now has. all_snoc (λ _ u. Has (s, p, x) u.settled → (p < length plan.places) × (0 < s) × IsSettled cell sets (vs ++ o ∷ []) s p x) vs o
              (λ j u there had. let y = g.settled j u s p x there had in (y.0, y.1, record { set = y.2.set; tag = y.2.tag; idle = all_snoc (λ _ z. z.pending ≢ Some (p, window_tag s)) vs o y.2.idle (none-some _) }))
              (λ none. absurd none) j u now has;
        }

  -- ---- Join: the root takes back the pass of task t, which stands at k
  module _ (root : v.role ≡ Root) (k : ℕ) (o : View) (there : get_elem? views k ≡ some o) (t : ℕ) (bears : o.role ≡ Task t) where
    abbrev both_views : List View
    both_views = set (set views id (joining plan v o)) k (blank Spent)

    -- its numbers are the pass's own for t, and the root's for others
    joined_number : (u : ℕ) → has_task plan.tasks u ≡ true → (b : Bool) → nat_eq u t ≡ b → Has u (t ∷ v.joined) → word u ≡ last_tag u (chosen (λ q. nat_eq q t) o.numbers ++ chosen (λ q. not (nat_eq q t)) v.numbers)
    joined_number u task true e back = let is : u ≡ t = eqb-true u t e in
        (subst (IsNumber o u (word u)) bears (r.number k o u there task)) (sym is)
        ∙ sym (first_tag u (chosen (λ q. nat_eq q t) o.numbers) (chosen (λ q. not (nat_eq q t)) v.numbers) (no_tag (λ q. not (nat_eq q t)) u v.numbers (ap not e)) ∙ kept_tag (λ q. nat_eq q t) u o.numbers e)
    joined_number u task false e back = ⊎_elim
        (λ (is : t ≡ u). let x = eq-eqb u t (sym is) in absurd cc)
        (λ (had : Has u v.joined). (subst (IsNumber v u (word u)) root (r.number id v u at task)).1 had ∙ sym (dropped_tag (λ q. nat_eq q t) u o.numbers (chosen (λ q. not (nat_eq q t)) v.numbers) e ∙ kept_tag (λ q. not (nat_eq q t)) u v.numbers (ap not e)))
        back

    root_number : (u : ℕ) → has_task plan.tasks u ≡ true → IsNumber (joining plan v o) u (word u) Root
    root_number u task = let is : role_task o.role ≡ t = ap role_task bears in let old : IsNumber v u (word u) Root = subst (IsNumber v u (word u)) root (r.number id v u at task) in (
      λ new. old.0 new,
      λ back. subst (λ z. Has u (z ∷ v.joined) → word u ≡ last_tag u (chosen (λ q. nat_eq q z) o.numbers ++ chosen (λ q. not (nat_eq q z)) v.numbers)) (sym is) (joined_number u task (nat_eq u t) refl) back,
    )

    -- who noted, or knows a set as final, did so before
    noter_before : (j : ℕ) (u : View) (e : Noted) → get_elem? both_views j ≡ some u → Has e u.noted → (i : ℕ) × (z : View) × (get_elem? views i ≡ some z) × Has e z.noted
    noter_before j u e now has = all_two (λ _ z. Has e z.noted → (i : ℕ) × (y : View) × (get_elem? views i ≡ some y) × Has e y.noted) views id k (joining plan v o) (blank Spent)
        (λ y. ⊎_elim (λ a. (k, o, there, a)) (λ a. (id, v, at, a)) (has-append e o.noted v.noted y)) (λ none. absurd none) (λ i z _ _ here had. (i, z, here, had)) j u now has

    settler_before : (j : ℕ) (u : View) (s p : ℕ) (x : FactSet) → get_elem? both_views j ≡ some u → Has (s, p, x) u.settled → (p < length plan.places) × (0 < s) × IsSettled cell sets views s p x
    settler_before j u s p x now has = all_two (λ _ z. Has (s, p, x) z.settled → (p < length plan.places) × (0 < s) × IsSettled cell sets views s p x) views id k (joining plan v o) (blank Spent)
        (λ y. ⊎_elim (λ a. r.settled k o s p x there a) (λ a. r.settled id v s p x at a) (has-append (s, p, x) o.settled v.settled y)) (λ none. absurd none) (λ i z _ _ here had. r.settled i z s p x here had) j u now has

    pub join_drained : Drained plan cell sets word both_views
    join_drained = let w : View = joining plan v o in record {
      idle = all_two (λ _ u. u.role ≡ Root → u.pending ≡ None) views id k w (blank Spent) (r.idle id v at) (λ _. refl) (λ j u _ _ here. r.idle j u here);
      tasks = λ j u q now e. all_two (λ _ u. (q : ℕ) → u.role ≡ Task q → has_task plan.tasks q ≡ true) views id k w (blank Spent) (λ q e. r.tasks id v q at e) (λ q e. absurd (spent_not_task q e)) (λ j u _ _ here q e. r.tasks j u q here e) j u now q e;
      number = λ j u q now its. all_two (λ _ u. IsNumber u q (word q) u.role) views id k w (blank Spent) (subst (IsNumber w q (word q)) (sym root) (root_number q its)) tt (λ j u _ _ here. r.number j u q here its) j u now;
      noted = λ j u e now has. let x = noter_before j u e now has in r.noted x.0 x.1 e x.2 x.3;
      noted_seen = λ j u e p y now has here. let x = noter_before j u e now has in r.noted_seen x.0 x.1 e p y x.2 x.3 here;
      ended = λ j u q now e odd. all_two (λ _ u. u.role ≡ Task q → u.pending ≡ None) views id k w (blank Spent) (λ e. r.ended id v q at e odd) (λ _. refl) (λ j u _ _ here e. r.ended j u q here e odd) j u now e;
      late = λ j z e i u s p now has pos over here its pend. let x = noter_before j z e now has in
          all_two (λ _ y. y.role ≡ Task e.0 → y.pending ≡ Some (p, window_tag s) → word e.0 ≤ e.1) views id k w (blank Spent)
          (λ own p_own. r.late x.0 x.1 e id v s p x.2 x.3 pos over at own p_own) (λ own. absurd (spent_not_task e.0 own)) (λ i y _ _ at_y. r.late x.0 x.1 e i y s p x.2 x.3 pos over at_y) i u here its pend;
      settled = λ j u s p x now has. let y = settler_before j u s p x now has in (
        y.0,
        y.1,
        record {
          set = y.2.set;
          tag = y.2.tag;
          idle = all_two (λ _ z. z.pending ≢ Some (p, window_tag s)) views id k w (blank Spent) (y.2.idle id v at) (none-some _) (λ j z _ _ here. y.2.idle j z here);
        },
      );
    }
