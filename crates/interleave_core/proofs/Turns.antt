-- The sessions that a task controls, and what an SVC in hand does to them.
use Rattle.std.proofs.Common.{◌≡◌, ◌≢◌, inl, inr, ℕ, zero, suc, ◌+◌, ◌-◌, ◌*◌, ◌<◌, ◌≤◌, Bool, true, false, ◌&&◌, nat_eq, nat_lt, nat_le, if◌then◌else◌, Option, Some, None, option_map, List, [], ◌∷◌, length, get_or, slice_get, AllPairs, refl, sym, ◌∙◌, ap, subst, arith, eqb-true, eq-eqb, le-leb, le_refl}
use Rattle.std.specs.List.{find}
use Rattle.std.specs.Option.{option_and_then}
use Rattle.std.proofs.lemmas.List.{get_or_past}
use Rattle.std.proofs.lemmas.Option.{same_Some, none-some}
use Rattle.std.proofs.lemmas.Bool.{and_from, cases_lt, ne_eqb}
use Rattle.cov_base.specs.declared.numbers.PlaceNo.{PlaceNo}
use Rattle.module_area.specs.Meaning.{word_at, ControlledView, has_place, is_controlled, window_at}
use Rattle.module_area.specs.Rule.{IsPlan, IsControlled, AreApart, is_controller}
use Rattle.module_area.specs.declared.cells.Cell.{Cell}
use Rattle.module_area.proofs.Laws.{any_shown}
use Rattle.s370_exec.specs.Meaning.{call_of}
use Rattle.interleave_core.proofs.ControlLemmas.{few_places}
use Rattle.interleave_core.proofs.Runs.{exists_by}
use Rattle.interleave_core.specs.Meaning.{World, TaskPart, plan_in, memory_in, controller_of, Change, change, PlaceChange, place_change, sessions_by, change_for, change_of, next_place, will_execute, change_due}
use Rattle.interleave_core.specs.declared.stage.Stage.{Stage}
use Rattle.interleave_core.specs.Views.{no_controlled, session_at, turn_number, turn_of, has_window, number_at, tag_at, IsTied, controlled_by}

-- ---- a task's sessions

-- those of the task's are among the plan's, in their order
pub record IsListed (t : ℕ) (cs : List ControlledView) (c : ControlledView) : Type 0 where
  pub number : ℕ
  pub there : number < length cs
  pub same : c ≡ get_or cs number no_controlled
  pub by_task : (get_or cs number no_controlled).by ≡ t

behind : (t : ℕ) (cs : List ControlledView) (c d : ControlledView) → IsListed t cs d → IsListed t (c ∷ cs) d
behind t cs c d is = record { number = suc is.number; there = omega (arith, is.there); same = is.same; by_task = is.by_task }

pub by_at : (t : ℕ) (cs : List ControlledView) (n : ℕ) → n < length (controlled_by t cs) → IsListed t cs (get_or (controlled_by t cs) n no_controlled)
by_at t [] n lt = absurd (omega arith)
by_at t (c ∷ cs) n lt = by (nat_eq c.by t) refl n lt (λ m l. behind t cs c _ (by_at t cs m l))
  where
    by : (b : Bool) → nat_eq c.by t ≡ b → (m : ℕ) → m < length (if b then c ∷ controlled_by t cs else controlled_by t cs) →
        ((k : ℕ) → k < length (controlled_by t cs) → IsListed t (c ∷ cs) (get_or (controlled_by t cs) k no_controlled)) → IsListed t (c ∷ cs) (get_or (if b then c ∷ controlled_by t cs else controlled_by t cs) m no_controlled)
    by true e zero l rest = record { number = zero; there = omega arith; same = refl; by_task = eqb-true c.by t e }
    by true e (suc m) l rest = rest m (omega (arith, l))
    by false e m l rest = rest m l

tail_apart : (c : ControlledView) (cs : List ControlledView) → AllPairs AreApart (c ∷ cs) → AllPairs AreApart cs
tail_apart c cs all i j d lt l = all (suc i) (suc j) d (omega (arith, lt)) (omega (arith, l))

abbrev Rise : List ControlledView → Type 0
Rise cs = (n m : ℕ) → n < m → m < length cs → (get_or cs n no_controlled).session < (get_or cs m no_controlled).session

by_rises : (t : ℕ) (cs : List ControlledView) → AllPairs AreApart cs → Rise (controlled_by t cs)
by_rises t [] all = λ n m nm lt. absurd (omega arith)
by_rises t (c ∷ cs) all = by (nat_eq c.by t) (by_rises t cs (tail_apart c cs all))
  where
    by : (b : Bool) → Rise (controlled_by t cs) → Rise (if b then c ∷ controlled_by t cs else controlled_by t cs)
    by true rest i zero ij l = absurd (omega (arith, ij))
    by true rest zero (suc j) ij l =
        let r : IsListed t cs (get_or (controlled_by t cs) j no_controlled) = by_at t cs j (omega (arith, l)) in
        subst (λ (x : ControlledView). c.session < x.session) (sym r.same) (all zero (suc r.number) no_controlled (omega arith) (omega (arith, r.there))).rising
    by true rest (suc i) (suc j) ij l = rest i j (omega (arith, ij)) (omega (arith, l))
    by false rest i j ij l = rest i j ij l

-- a place of a session that the task controls
pub record IsOwn (w : World) (t s p : ℕ) : Type 0 where
  pub positive : 0 < s
  pub inside : p < length w.places
  pub controlled : is_controlled (plan_in w) s p ≡ true
  pub controller : is_controller (plan_in w) t p ≡ true
  pub no_window : window_at (plan_in w) p ≡ 0

pub listed : (w : World) (t n i : ℕ) → i < length (session_at w t n).places → n < length (sessions_by w t)
listed w t n i lt = elim (cases_lt n (length (sessions_by w t))) [
  | inl l ↦ l
  | inr le ↦
      let none : session_at w t n ≡ no_controlled = get_or_past (sessions_by w t) n no_controlled le in
      let size : length (session_at w t n).places ≡ 0 = ap (λ (c : ControlledView). length c.places) none in
      absurd (omega (arith, lt, size))
]

pub has_at : (places : List PlaceNo) (i : ℕ) → i < length places → has_place places (number_at places i) ≡ true
has_at places i lt = any_shown (λ (q : PlaceNo). nat_eq q.0 (number_at places i)) places (record { 0 = 0 }) i lt (eq-eqb (number_at places i) (number_at places i) refl)

own_at : (w : World) (t k i : ℕ) → IsPlan (plan_in w) → k < length (plan_in w).controlled → (get_or (plan_in w).controlled k no_controlled).by ≡ t → i < length (get_or (plan_in w).controlled k no_controlled).places →
    IsOwn w t (get_or (plan_in w).controlled k no_controlled).session (number_at (get_or (plan_in w).controlled k no_controlled).places i)
own_at w t k i plan lt by l =
    let c : ControlledView = get_or (plan_in w).controlled k no_controlled in
    let is : IsControlled (plan_in w) c = plan.controlled k no_controlled lt in
    let there : has_place c.places (number_at c.places i) ≡ true = has_at c.places i l in
    record {
      positive = is.from;
      inside = is.of_plan i (record { 0 = 0 }) l;
      controlled = any_shown (λ (d : ControlledView). nat_eq d.session c.session && has_place d.places (number_at c.places i)) (plan_in w).controlled no_controlled k lt (and_from _ _ (eq-eqb c.session c.session refl) there);
      controller = any_shown (λ (d : ControlledView). nat_eq d.by t && has_place d.places (number_at c.places i)) (plan_in w).controlled no_controlled k lt (and_from _ _ (eq-eqb c.by t by) there);
      no_window = is.free i (record { 0 = 0 }) l;
    }

pub own : (w : World) (t n i : ℕ) → IsPlan (plan_in w) → i < length (session_at w t n).places → IsOwn w t (session_at w t n).session (number_at (session_at w t n).places i)
own w t n i plan lt =
    let r : IsListed t (plan_in w).controlled (session_at w t n) = by_at t (plan_in w).controlled n (listed w t n i lt) in
    subst (λ (c : ControlledView). IsOwn w t c.session (number_at c.places i)) (sym r.same)
    (own_at w t r.number i plan r.there r.by_task (subst (λ (c : ControlledView). i < length c.places) r.same lt))

-- the task that controls session s
abbrev pub controller_in : ℕ → List ControlledView → Option ℕ
controller_in s cs = option_map (λ (c : ControlledView). c.by) (find (λ (c : ControlledView). nat_eq c.session s) cs)

controls : (cs : List ControlledView) (k : ℕ) → AllPairs AreApart cs → k < length cs → controller_in (get_or cs k no_controlled).session cs ≡ Some (get_or cs k no_controlled).by
controls [] k all lt = absurd (omega arith)
controls (c ∷ cs) zero all lt = ap (λ (b : Bool). option_map (λ (d : ControlledView). d.by) (if b then Some c else find (λ (d : ControlledView). nat_eq d.session c.session) cs)) (eq-eqb c.session c.session refl)
controls (c ∷ cs) (suc k) all lt =
    let up : c.session < (get_or cs k no_controlled).session = (all zero (suc k) no_controlled (omega arith) lt).rising in
    let other : nat_eq c.session (get_or cs k no_controlled).session ≡ false = ne_eqb c.session (get_or cs k no_controlled).session (λ e. omega (arith, e, up)) in
    ap (λ (b : Bool). option_map (λ (d : ControlledView). d.by) (if b then Some c else find (λ (d : ControlledView). nat_eq d.session (get_or cs k no_controlled).session) cs)) other ∙ controls cs k (tail_apart c cs all) (omega (arith, lt))

pub controller : (w : World) (t n i : ℕ) → IsPlan (plan_in w) → i < length (session_at w t n).places → controller_of w (session_at w t n).session ≡ Some t
controller w t n i plan lt =
    let r : IsListed t (plan_in w).controlled (session_at w t n) = by_at t (plan_in w).controlled n (listed w t n i lt) in
    ap (λ (c : ControlledView). controller_of w c.session) r.same ∙ (controls (plan_in w).controlled r.number plan.apart r.there ∙ ap Some r.by_task)

-- no two places of a session are one
pub places_differ : (w : World) (t n i j : ℕ) → IsPlan (plan_in w) → i < length (session_at w t n).places → j < length (session_at w t n).places → i ≢ j →
    number_at (session_at w t n).places i ≢ number_at (session_at w t n).places j
places_differ w t n i j plan li lj apart same =
    let r : IsListed t (plan_in w).controlled (session_at w t n) = by_at t (plan_in w).controlled n (listed w t n i li) in
    let is : IsControlled (plan_in w) (session_at w t n) = subst (IsControlled (plan_in w)) (sym r.same) (plan.controlled r.number no_controlled r.there) in
    elim (cases_lt i j) [
      | inl lt ↦ let up = is.rising i j (record { 0 = 0 }) lt lj in absurd (omega (arith, up, same))
      | inr le ↦ let up = is.rising j i (record { 0 = 0 }) (omega (arith, le, apart)) li in absurd (omega (arith, up, same))
    ]

pub session_rises : (w : World) (t n m : ℕ) → IsPlan (plan_in w) → n < m → m < length (sessions_by w t) → (session_at w t n).session < (session_at w t m).session
session_rises w t n m plan nm lt = by_rises t (plan_in w).controlled plan.apart n m nm lt

-- ---- what is due of a task's sessions

-- an SVC in hand plants or closes the task's turn at the next of its places
pub record IsNext (w : World) (t : ℕ) (u : TaskPart) (x : PlaceChange) : Type 0 where
  pub closes : x.closes ≡ u.is_open
  pub there : u.changed < length (turn_of w t u).places
  pub session : x.session ≡ (turn_of w t u).session
  pub place : x.place ≡ get_or (turn_of w t u).places u.changed (record { 0 = 0 })

-- and the tag there is that of its window, or lower
pub record IsChange (w : World) (cells : List Cell) (t : ℕ) (u : TaskPart) (x : PlaceChange) : Type 0 where
  pub closes : x.closes ≡ u.is_open
  pub there : u.changed < length (turn_of w t u).places
  pub session : x.session ≡ (turn_of w t u).session
  pub place : x.place ≡ get_or (turn_of w t u).places u.changed (record { 0 = 0 })
  pub own : IsOwn w t x.session x.place.0
  -- the tag at the place
  pub window : x.closes ≡ true → (word_at cells x.place.0).tag + 1 ≡ 2 * x.session
  pub lower : x.closes ≡ false → (word_at cells x.place.0).tag + 1 < 2 * x.session

pub record IsAsked (w : World) (t : ℕ) (u : TaskPart) (ch : Change) : Type 0 where
  pub closes : ch.closes ≡ u.is_open
  pub session : ch.session ≡ turn_of w t u
  pub there : turn_number u < length (sessions_by w t)

got_session : (xs : List ControlledView) (n : ℕ) (closes : Bool) (ch : Change) → option_map (change closes) (slice_get xs n) ≡ Some ch → (ch.closes ≡ closes) × (ch.session ≡ get_or xs n no_controlled) × (n < length xs)
got_session [] n closes ch h = absurd (none-some ch h)
got_session (x ∷ xs) zero closes ch h = let same : change closes x ≡ ch = same_Some _ _ h in (ap (λ (c : Change). c.closes) (sym same), ap (λ (c : Change). c.session) (sym same), omega arith)
got_session (x ∷ xs) (suc n) closes ch h = let r = got_session xs n closes ch h in (r.0, r.1, omega (arith, r.2))

asked_is : (w : World) (t : ℕ) (u : TaskPart) (call : ℕ) (ch : Change) → change_for w t u call ≡ Some ch → IsAsked w t u ch
asked_is w t u call ch h = by (nat_eq call (if u.is_open then 5 else 4)) h
  where
    by : (b : Bool) → (if b then option_map (change u.is_open) (slice_get (sessions_by w t) (turn_number u)) else None) ≡ Some ch → IsAsked w t u ch
    by true k = let r = got_session (sessions_by w t) (turn_number u) u.is_open ch k in record { closes = r.0; session = r.1; there = r.2 }
    by false k = absurd (none-some ch k)

and_then : {A B : Type 0} (f : A → Option B) (o : Option A) (x : B) → option_and_then f o ≡ Some x → (a : A) × (o ≡ Some a) × (f a ≡ Some x)
and_then f None x h = absurd cc
and_then f (Some a) x h = (a, refl, h)

next_is : (places : List PlaceNo) (ch : Change) (done : ℕ) (x : PlaceChange) → option_map (place_change ch) (slice_get places done) ≡ Some x → (done < length places) × (x ≡ place_change ch (get_or places done (record { 0 = 0 })))
next_is [] ch done x h = absurd cc
next_is (p ∷ ps) ch zero x h = (omega arith, sym (same_Some _ _ h))
next_is (p ∷ ps) ch (suc done) x h = let r = next_is ps ch done x h in (omega (arith, r.0), r.1)

-- what an instruction asks for
pub change_asked : (w : World) (t : ℕ) (u : TaskPart) (ch : Change) → change_of w t u ≡ Some ch → IsAsked w t u ch
change_asked w t u ch h = let call = and_then (change_for w t u) (call_of (memory_in w t) u.state) ch h in asked_is w t u call.0 ch call.2

pub due_next : (w : World) (t : ℕ) (u : TaskPart) (stage : Stage) (x : PlaceChange) → change_due w t u stage ≡ Some x → IsNext w t u x
due_next w t u stage x h =
    let made = and_then (next_place u.changed) (change_of w t u) x (exists_by (will_execute w t u stage) _ x h).1 in
    let ch : Change = made.0 in
    let ask : IsAsked w t u ch = change_asked w t u ch made.1 in
    let next = next_is ch.session.places ch u.changed x made.2 in
    record {
      closes = ap (λ (y : PlaceChange). y.closes) next.1 ∙ ask.closes;
      there = subst (λ (c : ControlledView). u.changed < length c.places) ask.session next.0;
      session = ap (λ (y : PlaceChange). y.session) next.1 ∙ ap (λ (c : ControlledView). c.session) ask.session;
      place = ap (λ (y : PlaceChange). y.place) next.1 ∙ ap (λ (c : ControlledView). get_or c.places u.changed (record { 0 = 0 })) ask.session;
    }

pub due_is : (w : World) (cells : List Cell) (t : ℕ) (u : TaskPart) (stage : Stage) (x : PlaceChange) → IsPlan (plan_in w) → IsTied w cells t u → change_due w t u stage ≡ Some x → IsChange w cells t u x
due_is w cells t u stage x plan is h =
    let next : IsNext w t u x = due_next w t u stage x h in
    let tag : (word_at cells x.place.0).tag ≡ tag_at cells (turn_of w t u).places u.changed = ap (λ (q : PlaceNo). (word_at cells q.0).tag) next.place in
    record {
      closes = next.closes;
      there = next.there;
      session = next.session;
      place = next.place;
      own = subst (λ (s : ℕ). IsOwn w t s x.place.0) (sym next.session) (subst (λ (q : PlaceNo). IsOwn w t (turn_of w t u).session q.0) (sym next.place) (own w t (turn_number u) u.changed plan next.there));
      window = λ e.
          let is_open : u.is_open ≡ true = sym next.closes ∙ e in
          let at : has_window u u.changed ≡ true = ap (λ (b : Bool). if b then nat_le u.changed u.changed else nat_lt u.changed u.changed) is_open ∙ le-leb u.changed u.changed (le_refl u.changed) in
          ap (λ (n : ℕ). n + 1) tag ∙ (is.planted u.changed next.there at ∙ ap (λ (n : ℕ). 2 * n) (sym next.session));
      lower = λ e.
          let shut : u.is_open ≡ false = sym next.closes ∙ e in
          let number : turn_number u ≡ u.opened = ap (λ (b : Bool). if b then u.opened - 1 else u.opened) shut in
          let low : tag_at cells (session_at w t (turn_number u)).places u.changed + 1 < 2 * (session_at w t (turn_number u)).session =
          is.later (turn_number u) u.changed (omega (arith, number)) (listed w t (turn_number u) u.changed next.there) (λ same shut. omega arith) next.there in
          omega (arith, tag, next.session, low);
    }

-- it is of the session's controller
pub due_controller : (w : World) (t : ℕ) (u : TaskPart) (stage : Stage) (x : PlaceChange) → IsPlan (plan_in w) → change_due w t u stage ≡ Some x → controller_of w x.session ≡ Some t
due_controller w t u stage x plan h = let next : IsNext w t u x = due_next w t u stage x h in ap (controller_of w) next.session ∙ controller w t (turn_number u) u.changed plan next.there

-- and one of the world's few places
pub due_below : (w : World) (t : ℕ) (u : TaskPart) (stage : Stage) (x : PlaceChange) → IsPlan (plan_in w) → change_due w t u stage ≡ Some x → u.changed < length w.places
due_below w t u stage x plan h =
    let there = (due_next w t u stage x h).there in
    let r : IsListed t (plan_in w).controlled (turn_of w t u) = by_at t (plan_in w).controlled (turn_number u) (listed w t (turn_number u) u.changed there) in
    let few : length (turn_of w t u).places ≤ length w.places = subst (λ (c : ControlledView). length c.places ≤ length w.places) (sym r.same)
    (few_places (plan_in w) (get_or (plan_in w).controlled r.number no_controlled) (plan.controlled r.number no_controlled r.there)) in
    omega (arith, there, few)
