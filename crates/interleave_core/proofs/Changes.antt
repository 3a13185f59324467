-- What a Do, a Plant or a Close that was possible did.
use Rattle.std.proofs.Common.{◌≡◌, ◌⊎◌, inl, inr, ℕ, ◌+◌, ◌*◌, ◌<◌, Bool, true, false, not, ◌&&◌, ◌||◌, nat_eq, nat_lt, if◌then◌else◌, Option, Some, None, is_none, List, ◌∷◌, length, refl, sym, ◌∙◌, ap, eqb-true}
use Rattle.std.specs.Option.{option_and_then}
use Rattle.std.proofs.lemmas.Option.{same_Some}
use Rattle.std.proofs.lemmas.Bool.{ltb-true, and_parts}
use Rattle.s370_exec.specs.Meaning.{has_returned}
use Rattle.s370_state.specs.declared.endings.Ending.TheVariants.{Returned, Spent}
use Rattle.module_area.specs.Meaning.{word_at}
use Rattle.interleave_core.specs.Meaning.{World, TaskPart, Parts, part_of, place_at, PlaceChange, controller_of, change_of, next_place, Stepped, step_of, subject_place, is_spent, with_cell, with_stage, executed, awaits_or, task_goes_on, same_due, change_due, task_done, breakpoint_of, of_existing, may_change, changed, change_step, by_controller, may_plant, whole_step}
use Rattle.cov_base.specs.declared.numbers.PlaceNo.{PlaceNo}
use Rattle.cov_base.specs.declared.numbers.SessNo.{SessNo}
use Rattle.module_area.specs.Rule.{window_tag}
use Rattle.interleave_core.specs.CoreState.{CoreState, core_after, is_task, log_after, Item, Gave}
use Rattle.interleave_core.specs.declared.events.Event.TheVariants.{Plant, Close}
use Rattle.interleave_core.specs.declared.events.Shown.{Shown}
use Rattle.interleave_core.specs.declared.events.Shown.TheVariants.{Planted, Closed}
use Rattle.interleave_core.specs.declared.stage.Due.TheVariants.{Nothing}
use Rattle.interleave_core.specs.declared.stage.Stage.{Stage}
use Rattle.interleave_core.specs.declared.stage.Stage.TheVariants.{Ready, Awaiting, Holding, Ended}
use Rattle.interleave_core.proofs.Runs.{exists_by}

-- ---- Do

none_due : (o : Option PlaceChange) (d : Option TaskPart) (v : TaskPart) → (if is_none o then d else None) ≡ Some v → (o ≡ None) × (d ≡ Some v)
none_due None d v h = (refl, h)
none_due (Some x) d v h = let n : None ≡ Some v = h in absurd cc

-- nothing was due of the task's sessions
pub done_due : (w : World) (t : ℕ) (u v : TaskPart) (stage : Stage) → task_done w t u stage ≡ Some v → change_due w t u stage ≡ None
done_due w t u v stage h = (none_due (change_due w t u stage) (task_goes_on w t u stage) v h).0

pub goes_on : (w : World) (t : ℕ) (u v : TaskPart) (stage : Stage) → task_done w t u stage ≡ Some v → task_goes_on w t u stage ≡ Some v
goes_on w t u v stage h = (none_due (change_due w t u stage) (task_goes_on w t u stage) v h).1

-- only the stage changes, or the instruction is executed, whose session has been planted or closed at each place
abbrev pub IsDone : World → ℕ → TaskPart → TaskPart → Type 0
IsDone w t u v = ((stage : Stage) × (v ≡ with_stage u stage)) ⊎ ((option_and_then (next_place u.changed) (change_of w t u) ≡ None) × (v ≡ executed w t u))

pub is_done : (w : World) (t : ℕ) (u v : TaskPart) (stage : Stage) → task_done w t u stage ≡ Some v → IsDone w t u v
is_done w t u v Ready h = by (has_returned u.state) (is_spent w t u.state) (place_at w u.state.machine.cpu.ia) (subject_place w (step_of w t u).visits) (done_due w t u v Ready h) (goes_on w t u v Ready h)
  where
    by : (returned spent : Bool) (at subject : Option ℕ) → (if not returned && (not spent && (is_none at && is_none subject)) then option_and_then (next_place u.changed) (change_of w t u) else None) ≡ None →
        (if returned then Some (with_stage u (Ended Returned)) else (if spent then Some (with_stage u (Ended Spent)) else (if is_none at then Some (awaits_or u (executed w t u) subject) else None))) ≡ Some v → IsDone w t u v
    by true spent at subject d k = inl (Ended Returned, sym (same_Some _ v k))
    by false true at subject d k = inl (Ended Spent, sym (same_Some _ v k))
    by false false (Some p) subject d k = let n : None ≡ Some v = k in absurd cc
    by false false None (Some p) d k = inl (Awaiting, sym (same_Some _ v k))
    by false false None None d k = inr (d, sym (same_Some _ v k))
is_done w t u v Awaiting h = let n : None ≡ Some v = goes_on w t u v Awaiting h in absurd cc
is_done w t u v (Ended e) h = let n : None ≡ Some v = goes_on w t u v (Ended e) h in absurd cc
is_done w t u v (Holding g) h = by (same_due g.due Nothing) g.subject (subject_place w (step_of w t u).visits) (done_due w t u v (Holding g) h) (goes_on w t u v (Holding g) h)
  where
    by : (nothing subject : Bool) (at : Option ℕ) → (if nothing && (subject || is_none at) then option_and_then (next_place u.changed) (change_of w t u) else None) ≡ None →
        (if nothing then Some (if subject then executed w t u else awaits_or u (executed w t u) at) else None) ≡ Some v → IsDone w t u v
    by false subject at d k = let n : None ≡ Some v = k in absurd cc
    by true true at d k = inr (d, sym (same_Some _ v k))
    by true false (Some p) d k = inl (Awaiting, sym (same_Some _ v k))
    by true false None d k = inr (d, sym (same_Some _ v k))

-- ---- Plant and Close

pub may_by : (a b c d : Bool) → (a && (b && (c && d))) ≡ true → (a ≡ true) × (b ≡ true) × (c ≡ true) × (d ≡ true)
may_by a b c d h = let x = and_parts a (b && (c && d)) h in let y = and_parts b (c && d) x.1 in let z = and_parts c d y.1 in (x.0, y.0, z.0, z.1)

-- the controller of session s changed it at place p
pub record Changed (w : World) (c : Parts) (closes : Bool) (s p : ℕ) (x : Stepped) : Type 0 where
  pub task : ℕ
  pub change : PlaceChange
  pub by_task : controller_of w s ≡ Some task
  pub there : task < length c.tasks
  pub due : change_due w task (part_of c task) (part_of c task).stage ≡ Some change
  pub closes_is : change.closes ≡ closes
  pub session : change.session ≡ s
  pub place : change.place.0 ≡ p
  pub made : x ≡ changed w c task (part_of c task) change

pub same_way : (a b : Bool) → (if a then b else not b) ≡ true → b ≡ a
same_way true true h = refl
same_way false false h = refl
same_way true false h = absurd cc
same_way false true h = absurd cc

due_by : (w : World) (c : Parts) (closes : Bool) (s p t : ℕ) (o : Option PlaceChange) (x : Stepped) → controller_of w s ≡ Some t → t < length c.tasks → change_due w t (part_of c t) (part_of c t).stage ≡ o →
    option_and_then (λ (y : PlaceChange). if may_change c closes s p y then Some (changed w c t (part_of c t) y) else None) o ≡ Some x → Changed w c closes s p x
due_by w c closes s p t None x by there due h = let n : None ≡ Some x = h in absurd cc
due_by w c closes s p t (Some y) x by there due h =
    let made = exists_by (may_change c closes s p y) (Some (changed w c t (part_of c t) y)) x h in
    let at = may_by (if closes then y.closes else not y.closes) (nat_eq y.session s) (nat_eq y.place.0 p) (closes || nat_lt ((word_at c.cells p).tag + 1) (2 * s)) made.0 in
    record {
      task = t;
      change = y;
      by_task = by;
      there = there;
      due = due;
      closes_is = same_way closes y.closes at.0;
      session = eqb-true y.session s at.1;
      place = eqb-true y.place.0 p at.2;
      made = sym (same_Some _ x made.1);
    }

by_task : (w : World) (c : Parts) (closes : Bool) (s p t : ℕ) (x : Stepped) → controller_of w s ≡ Some t → of_existing c t (change_step w c closes s p t) ≡ Some x → Changed w c closes s p x
by_task w c closes s p t x by h =
    let at = exists_by (nat_lt t (length c.tasks)) (change_step w c closes s p t (part_of c t)) x h in
    due_by w c closes s p t (change_due w t (part_of c t) (part_of c t).stage) x by (ltb-true t (length c.tasks) at.0) refl at.1

-- the planter planted its whole session at place p
pub record IsWholePlant (w : World) (c : Parts) (s p : ℕ) (x : Stepped) : Type 0 where
  pub by_none : controller_of w s ≡ None
  pub may : may_plant w c s p ≡ true
  pub made : x ≡ record { parts = with_cell c p (breakpoint_of s); shown = Planted }

pub plant_cases : (w : World) (c : Parts) (s p : ℕ) (x : Stepped) → by_controller w c false s p (whole_step w c s p) (controller_of w s) ≡ Some x → IsWholePlant w c s p x ⊎ Changed w c false s p x
plant_cases w c s p x h = by (controller_of w s) refl h
  where
    by : (o : Option ℕ) → controller_of w s ≡ o → by_controller w c false s p (whole_step w c s p) o ≡ Some x → IsWholePlant w c s p x ⊎ Changed w c false s p x
    by None e k =
        let made = exists_by (may_plant w c s p) (Some (record { parts = with_cell c p (breakpoint_of s); shown = Planted })) x k in
        inl (record { by_none = e; may = made.0; made = sym (same_Some _ x made.1) })
    by (Some t) e k = inr (by_task w c false s p t x e k)

pub close_by : (w : World) (c : Parts) (s p : ℕ) (x : Stepped) → by_controller w c true s p None (controller_of w s) ≡ Some x → Changed w c true s p x
close_by w c s p x h = by (controller_of w s) refl h
  where
    by : (o : Option ℕ) → controller_of w s ≡ o → by_controller w c true s p None o ≡ Some x → Changed w c true s p x
    by None e k = let n : None ≡ Some x = k in absurd cc
    by (Some t) e k = by_task w c true s p t x e k

-- ---- the logs after them

-- task t has given place p the tag
abbrev pub logs_given : (ℕ → List Item) → ℕ → ℕ → ℕ → ℕ → List Item
logs_given logs t p tag u = if nat_eq t u then Gave p tag ∷ logs u else logs u

pub logs_whole : (w : World) (c : CoreState) (s : SessNo) (p : PlaceNo) (x : Stepped) → IsWholePlant w c.parts s.0 p.0 x → (u : ℕ) → (core_after w c (Plant s p) x).core.logs u ≡ c.logs u
logs_whole w c s p x is u = ap (λ (o : Option ℕ). if is_task o u then Gave p.0 (window_tag s.0) ∷ log_after w u (part_of x.parts u) x.shown (c.logs u) else c.logs u) is.by_none

pub logs_plant : (w : World) (c : CoreState) (s : SessNo) (p : PlaceNo) (x : Stepped) (is : Changed w c.parts false s.0 p.0 x) (u : ℕ) → (core_after w c (Plant s p) x).core.logs u ≡ logs_given c.logs is.task p.0 (window_tag s.0) u
logs_plant w c s p x is u =
    let shown : x.shown ≡ Planted = ap (λ (y : Stepped). y.shown) is.made ∙ ap (λ (b : Bool). if b then Closed else Planted) is.closes_is in
    ap (λ (o : Option ℕ). if is_task o u then Gave p.0 (window_tag s.0) ∷ log_after w u (part_of x.parts u) x.shown (c.logs u) else c.logs u) is.by_task
    ∙ ap (λ (y : Shown). if nat_eq is.task u then Gave p.0 (window_tag s.0) ∷ log_after w u (part_of x.parts u) y (c.logs u) else c.logs u) shown

pub logs_close : (w : World) (c : CoreState) (s : SessNo) (p : PlaceNo) (x : Stepped) (is : Changed w c.parts true s.0 p.0 x) (u : ℕ) → (core_after w c (Close s p) x).core.logs u ≡ logs_given c.logs is.task p.0 (2 * s.0) u
logs_close w c s p x is u =
    let shown : x.shown ≡ Closed = ap (λ (y : Stepped). y.shown) is.made ∙ ap (λ (b : Bool). if b then Closed else Planted) is.closes_is in
    ap (λ (o : Option ℕ). if is_task o u then Gave p.0 (2 * s.0) ∷ log_after w u (part_of x.parts u) x.shown (c.logs u) else c.logs u) is.by_task
    ∙ ap (λ (y : Shown). if nat_eq is.task u then Gave p.0 (2 * s.0) ∷ log_after w u (part_of x.parts u) y (c.logs u) else c.logs u) shown
