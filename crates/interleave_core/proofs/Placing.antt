-- A core as a session is planted or closed at a place.
use Rattle.std.proofs.Common.{◌≡◌, inl, inr, ℕ, ◌+◌, ◌*◌, ◌<◌, ◌≤◌, Bool, true, false, not, ◌||◌, nat_eq, nat_lt, if◌then◌else◌, Option, Some, None, is_some, List, length, get_or, set, refl, sym, ◌∙◌, ap, subst, arith, eqb-true}
use Rattle.std.specs.Option.{option_and_then}
use Rattle.std.proofs.lemmas.Bool.Decides.{nat_tests}
use Rattle.std.proofs.lemmas.List.{length-set, length-map}
use Rattle.std.proofs.lemmas.Bool.{ltb-true, or_right}
use Rattle.cov_base.specs.Meaning.{FactSet}
use Rattle.cov_base.specs.declared.limits.TheConstants.{SESSION_LIMIT, PLACE_LIMIT}
use Rattle.cov_base.specs.declared.numbers.PlaceNo.{PlaceNo}
use Rattle.cov_base.specs.declared.numbers.SessNo.{SessNo}
use Rattle.module_area.specs.Meaning.{word_at, PlanView, window_at, is_over, is_controlled}
use Rattle.module_area.specs.Rule.{IsForm, IsPlan, IsControlled}
use Rattle.module_area.specs.declared.cells.Cell.{Cell}
use Rattle.module_area.proofs.Laws.{over_small}
use Rattle.session_book.specs.Meaning.{no_task}
use Rattle.interleave_core.specs.Meaning.{World, TaskPart, Parts, plan_in, part_of, first_part, PlaceChange, controller_of, Stepped, of_existing, task_replaced, breakpoint_of, changed_cell, may_change, changed, change_step, change_due, parts_step, by_controller, whole_step}
use Rattle.interleave_core.specs.Views.{RunningView, IsRunning, IsStage, IsCore, IsTied, IsPlaced, parts_of, no_controlled, session_at, turn_number, turn_of}
use Rattle.interleave_core.specs.declared.events.Event.{Event}
use Rattle.interleave_core.specs.declared.events.Event.TheVariants.{Plant, Close}
use Rattle.interleave_core.specs.declared.events.Shown.TheVariants.{Planted, Closed}
use Rattle.interleave_core.specs.declared.stage.Stage.{Stage}
use Rattle.interleave_core.specs.declared.stage.Stage.TheVariants.{Ready, Awaiting, Holding, Ended}
use Rattle.interleave_core.proofs.Changes.{may_by, same_way}
use Rattle.interleave_core.proofs.ControlLemmas.{few_places}
use Rattle.interleave_core.proofs.Kept.{moved_core, running_with, stages_with, words_with, read_running, read_stage, parts_with, tied_by}
use Rattle.interleave_core.proofs.Tied.{tied_window}
use Rattle.interleave_core.proofs.Turns.{IsListed, by_at, listed, IsChange, due_is}
use Rattle.interleave_core.proofs.Starts.{part_read}

-- ---- a whole session

window_over : (plan : PlanView) (s p : ℕ) → nat_lt 0 s ≡ true → nat_eq (window_at plan p) s ≡ true → is_over plan s p ≡ true
window_over plan s p some same = rw (some, same) refl

pub window_core : (w : World) (cells : List Cell) (sets : List FactSet) (plan : PlanView) (tasks : List RunningView) (s p : ℕ) (x : Cell) →
    IsCore w cells sets plan tasks → p < length cells → 0 < s → window_at plan p ≡ s → x ≡ breakpoint_of s → IsCore w (set cells p x) sets plan tasks
window_core w cells sets plan tasks s p x is lt some window e =
    let there : window_at (plan_in w) p ≡ s = ap (λ (q : PlanView). window_at q p) (sym is.same_plan) ∙ window in
    let over : is_over (plan_in w) s p ≡ true = window_over (plan_in w) s p (above s some) (same_number (window_at (plan_in w) p) s there) in
    let form : IsForm (plan_in w) p x = inr (s, some, over, inl e) in
    moved_core w cells (set cells p x) sets sets plan tasks tasks is (length-set cells p x) refl refl (words_with w cells sets plan tasks p x is lt form) is.within is.running is.stages
    (λ t l. tied_window w cells t p x (get_or (parts_of tasks) t (first_part no_task)) is.is_plan (subst (λ (n : ℕ). 0 < n) (sym there) some) (is.tied t l))
  where
    above : (n : ℕ) → 0 < n → nat_lt 0 n ≡ true
    above n h = grind (arith, nat_tests)

    same_number : (a b : ℕ) → a ≡ b → nat_eq a b ≡ true
    same_number a b h = grind (arith, nat_tests)

-- ---- a controlled session

-- what a change at a place that is due is
record IsDue (w : World) (c : Parts) (closes : Bool) (s : ℕ) (p : PlaceNo) (t : ℕ) : Type 0 where
  there : t < length c.tasks
  due : change_due w t (part_of c t) (part_of c t).stage ≡ Some (record { closes = closes; session = s; place = p })
  step : of_existing c t (change_step w c closes s p.0 t) ≡ Some (changed w c t (part_of c t) (record { closes = closes; session = s; place = p }))

same_place : (p q : PlaceNo) → p.0 ≡ q.0 → p ≡ q
same_place p q h = ap (λ (n : ℕ). record { 0 = n }) h

due_of : (w : World) (c : Parts) (closes : Bool) (s : ℕ) (p : PlaceNo) (t : ℕ) (o : Option PlaceChange) → nat_lt t (length c.tasks) ≡ true → change_due w t (part_of c t) (part_of c t).stage ≡ o →
    is_some (option_and_then (λ (y : PlaceChange). if may_change c closes s p.0 y then Some (changed w c t (part_of c t) y) else None) o) ≡ true → IsDue w c closes s p t
due_of w c closes s p t None there due h = let f : false ≡ true = h in absurd cc
due_of w c closes s p t (Some y) there due h = by (may_change c closes s p.0 y) refl h
  where
    by : (b : Bool) → may_change c closes s p.0 y ≡ b → is_some (if b then Some (changed w c t (part_of c t) y) else None) ≡ true → IsDue w c closes s p t
    by false e k = let f : false ≡ true = k in absurd cc
    by true e k =
        let at = may_by (if closes then y.closes else not y.closes) (nat_eq y.session s) (nat_eq y.place.0 p.0) (closes || nat_lt ((word_at c.cells p.0).tag + 1) (2 * s)) e in
        let same : y ≡ record { closes = closes; session = s; place = p } =
        ap (λ (b : Bool). record { closes = b; session = y.session; place = y.place }) (same_way closes y.closes at.0)
        ∙ (ap (λ (n : ℕ). record { closes = closes; session = n; place = y.place }) (eqb-true y.session s at.1)
        ∙ ap (λ (q : PlaceNo). record { closes = closes; session = s; place = q }) (same_place y.place p (eqb-true y.place.0 p.0 at.2))) in
        record {
          there = ltb-true t (length c.tasks) there;
          due = due ∙ ap Some same;
          step = rw (there, due, e) (ap (λ (z : PlaceChange). Some (changed w c t (part_of c t) z)) same);
        }

is_due : (w : World) (c : Parts) (closes : Bool) (s : ℕ) (p : PlaceNo) (t : ℕ) → is_some (of_existing c t (change_step w c closes s p.0 t)) ≡ true → IsDue w c closes s p t
is_due w c closes s p t h = by (nat_lt t (length c.tasks)) refl h
  where
    by : (b : Bool) → nat_lt t (length c.tasks) ≡ b → is_some (if b then change_step w c closes s p.0 t (part_of c t) else None) ≡ true → IsDue w c closes s p t
    by false e k = let f : false ≡ true = k in absurd cc
    by true e k = due_of w c closes s p t (change_due w t (part_of c t) (part_of c t).stage) e refl k

in_tasks : (tasks : List RunningView) (t : ℕ) → t < length tasks → t < length (parts_of tasks)
in_tasks tasks t lt = subst (λ n. t < n) (sym (length-map tasks (λ (r : RunningView). r.part))) lt

of_turn : (w : World) (t n i : ℕ) → IsPlan (plan_in w) → i < length (session_at w t n).places → IsControlled (plan_in w) (session_at w t n)
of_turn w t n i plan lt =
    let r : IsListed t (plan_in w).controlled (session_at w t n) = by_at t (plan_in w).controlled n (listed w t n i lt) in
    subst (IsControlled (plan_in w)) (sym r.same) (plan.controlled r.number no_controlled r.there)

due_change : (w : World) (cells : List Cell) (sets : List FactSet) (plan : PlanView) (tasks : List RunningView) (t : ℕ) (m : RunningView) (x : PlaceChange) →
    IsCore w cells sets plan tasks → t < length tasks → m ≡ get_or tasks t m → change_due w t m.part m.part.stage ≡ Some x → IsChange w cells t m.part x
due_change w cells sets plan tasks t m x is lt read due =
    due_is w cells t m.part m.part.stage x is.is_plan (subst (λ (u : TaskPart). IsTied w cells t u) (part_read tasks t m lt read) (is.tied t (in_tasks tasks t lt))) due

-- the place that is due of a task is in range
pub placed : (w : World) (cells : List Cell) (sets : List FactSet) (plan : PlanView) (tasks : List RunningView) (t s p : ℕ) (m : RunningView) (x : PlaceChange) →
    IsCore w cells sets plan tasks → t < length tasks → m ≡ get_or tasks t m → change_due w t m.part m.part.stage ≡ Some x → x.session ≡ s → x.place.0 ≡ p →
    IsPlaced w (record { cells = cells; sets = sets; tasks = parts_of tasks }) t s p
placed w cells sets plan tasks t s p m x is lt read due session place =
    let is_change = due_change w cells sets plan tasks t m x is lt read due in
    let over : is_over (plan_in w) x.session x.place.0 ≡ true = or_right _ (is_controlled (plan_in w) x.session x.place.0) is_change.own.controlled in
    let small : x.session ≤ (plan_in w).sessions = over_small (plan_in w) x.session x.place.0 is.is_plan is_change.own.inside over in
    let few = few_places (plan_in w) (turn_of w t m.part) (of_turn w t (turn_number m.part) m.part.changed is.is_plan is_change.there) in
    let most = is.is_plan.sessions in
    let room : m.part.changed < PLACE_LIMIT = omega (arith, is_change.there, few, is.is_plan.places) in
    record {
      task = in_tasks tasks t lt;
      some = subst (λ (n : ℕ). 0 < n) session is_change.own.positive;
      few = subst (λ (n : ℕ). n ≤ SESSION_LIMIT) session (omega (arith, small, most));
      inside = subst (λ (n : ℕ). n < length w.places) place is_change.own.inside;
      room = subst (λ (u : TaskPart). u.changed < PLACE_LIMIT) (sym (part_read tasks t m lt read)) room;
    }

pub change_possible : (w : World) (cells : List Cell) (sets : List FactSet) (tasks : List RunningView) (closes : Bool) (s : ℕ) (p : PlaceNo) (t : ℕ) (m n : RunningView) (x : Cell) →
    t < length tasks → m ≡ get_or tasks t m → is_some (of_existing (record { cells = cells; sets = sets; tasks = parts_of tasks }) t (change_step w (record { cells = cells; sets = sets; tasks = parts_of tasks }) closes s p.0 t)) ≡ true →
    x ≡ changed_cell w (record { closes = closes; session = s; place = p }) → n ≡ record m { part = record m.part { changed = m.part.changed + 1 } } →
    of_existing (record { cells = cells; sets = sets; tasks = parts_of tasks }) t (change_step w (record { cells = cells; sets = sets; tasks = parts_of tasks }) closes s p.0 t)
    ≡ Some (record { parts = record { cells = set cells p.0 x; sets = sets; tasks = parts_of (set tasks t n) }; shown = if closes then Closed else Planted })
change_possible w cells sets tasks closes s p t m n x lt read some is_x e =
    let P : Parts = record { cells = cells; sets = sets; tasks = parts_of tasks } in
    let due : IsDue w P closes s p t = is_due w P closes s p t some in
    let part : n.part ≡ record (part_of P t) { changed = (part_of P t).changed + 1 } =
    ap (λ (r : RunningView). r.part) e ∙ ap (λ (u : TaskPart). record u { changed = u.changed + 1 }) (sym (part_read tasks t m lt read)) in
    due.step ∙ (ap (λ (c : Cell). Some (made c)) (sym is_x) ∙ ap (λ (q : Parts). Some (record { parts = q; shown = if closes then Closed else Planted })) (parts_with (set cells p.0 x) sets tasks t n (record (part_of P t) { changed = (part_of P t).changed + 1 }) part))
  where
    made : Cell → Stepped
    made c = record {
      parts = task_replaced (record { cells = set cells p.0 c; sets = sets; tasks = parts_of tasks }) t (record (get_or (parts_of tasks) t (first_part no_task)) { changed = (get_or (parts_of tasks) t (first_part no_task)).changed + 1 });
      shown = if closes then Closed else Planted;
    }

-- what is left there is one of a cell's forms
changed_form : (w : World) (closes : Bool) (s : ℕ) (p : PlaceNo) → 0 < s → is_controlled (plan_in w) s p.0 ≡ true → IsForm (plan_in w) p.0 (changed_cell w (record { closes = closes; session = s; place = p }))
changed_form w true s p some controlled = inr (s, some, or_right _ (is_controlled (plan_in w) s p.0) controlled, inr (inr (refl, controlled)))
changed_form w false s p some controlled = inr (s, some, or_right _ (is_controlled (plan_in w) s p.0) controlled, inl refl)

same_stage : (w : World) (t k : ℕ) (u : TaskPart) (stage : Stage) → IsStage w t u stage → IsStage w t (record u { changed = k }) stage
same_stage w t k u Ready is = is
same_stage w t k u Awaiting is = is
same_stage w t k u (Holding h) is = is
same_stage w t k u (Ended e) is = is

abbrev pub event_of : Bool → SessNo → PlaceNo → Event
event_of true s p = Close s p
event_of false s p = Plant s p

pub step_by : (w : World) (c : Parts) (closes : Bool) (s : SessNo) (p : PlaceNo) (t : ℕ) (x : Option Stepped) → controller_of w s.0 ≡ Some t → of_existing c t (change_step w c closes s.0 p.0 t) ≡ x → parts_step w c (event_of closes s p) ≡ x
step_by w c true s p t x by h = ap (by_controller w c true s.0 p.0 None) by ∙ h
step_by w c false s p t x by h = ap (by_controller w c false s.0 p.0 (whole_step w c s.0 p.0)) by ∙ h

pub step_whole : (w : World) (c : Parts) (s : SessNo) (p : PlaceNo) (x : Option Stepped) → controller_of w s.0 ≡ None → whole_step w c s.0 p.0 ≡ x → parts_step w c (Plant s p) ≡ x
step_whole w c s p x by h = ap (by_controller w c false s.0 p.0 (whole_step w c s.0 p.0)) by ∙ h

pub changed_core : (w : World) (cells : List Cell) (sets : List FactSet) (plan : PlanView) (tasks : List RunningView) (closes : Bool) (s : SessNo) (p : PlaceNo) (t : ℕ) (m n : RunningView) (x : Cell) →
    IsCore w cells sets plan tasks → controller_of w s.0 ≡ Some t → t < length tasks → m ≡ get_or tasks t m →
    is_some (of_existing (record { cells = cells; sets = sets; tasks = parts_of tasks }) t (change_step w (record { cells = cells; sets = sets; tasks = parts_of tasks }) closes s.0 p.0 t)) ≡ true →
    x ≡ changed_cell w (record { closes = closes; session = s.0; place = p }) → n ≡ record m { part = record m.part { changed = m.part.changed + 1 } } → IsCore w (set cells p.0 x) sets plan (set tasks t n)
changed_core w cells sets plan tasks closes s p t m n x is by lt read some is_x e =
    let P : Parts = record { cells = cells; sets = sets; tasks = parts_of tasks } in
    let due : IsDue w P closes s.0 p t = is_due w P closes s.0 p t some in
    let here : change_due w t m.part m.part.stage ≡ Some (record { closes = closes; session = s.0; place = p }) = subst (λ (u : TaskPart). change_due w t u u.stage ≡ Some (record { closes = closes; session = s.0; place = p })) (part_read tasks t m lt read) due.due in
    let is_change = due_change w cells sets plan tasks t m (record { closes = closes; session = s.0; place = p }) is lt read here in
    let p_in : p.0 < length cells = subst (λ k. p.0 < k) (sym is.cell_count) is_change.own.inside in
    let form : IsForm (plan_in w) p.0 x = subst (IsForm (plan_in w) p.0) (sym is_x) (changed_form w closes s.0 p is_change.own.positive is_change.own.controlled) in
    let was : IsRunning w t m = read_running w cells sets plan tasks t m is lt read in
    let runs : IsRunning w t n = subst (λ (r : RunningView). IsRunning w t r) (sym e) (record { memory = was.memory; bytes = was.bytes; budget = was.budget; seen = was.seen }) in
    let stage : IsStage w t n.part n.part.stage = subst (λ (r : RunningView). IsStage w t r.part r.part.stage) (sym e) (same_stage w t (m.part.changed + 1) m.part m.part.stage (read_stage w cells sets plan tasks t m is lt read)) in
    let possible = change_possible w cells sets tasks closes s.0 p t m n x lt read some is_x e in
    let tied = tied_by w cells (set cells p.0 x) sets sets plan tasks (set tasks t n) (event_of closes s p) (if closes then Closed else Planted) is (step_by w P closes s p t _ by possible) in
    moved_core w cells (set cells p.0 x) sets sets plan tasks (set tasks t n) is (length-set cells p.0 x) refl (length-set tasks t n) (words_with w cells sets plan tasks p.0 x is p_in form) is.within
    (running_with w cells sets plan tasks t n is lt runs) (stages_with w cells sets plan tasks t n is lt stage) tied
