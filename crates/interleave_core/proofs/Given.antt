-- A plant or a close keeps the rule.
use Rattle.std.proofs.Common.{◌≡◌, ◌≢◌, inl, ℕ, suc, ◌+◌, ◌*◌, ◌<◌, Bool, true, false, ◌&&◌, ◌||◌, nat_lt, nat_eq, if◌then◌else◌, Some, None, is_none, List, ◌∷◌, length, get_or, set, refl, sym, ◌∙◌, ap, subst, arith, eqb-true, ne_eqb, eq-eqb}
use mathlib.Core.Option.{some}
use lib.ListN.{get_elem?}
use Rattle.std.specs.Option.{option_and_then}
use Rattle.std.proofs.lemmas.Grind.{get_or-set_at}
use Rattle.std.proofs.lemmas.List.{get_or-set_other, length-set}
use Rattle.std.proofs.lemmas.Bool.{ltb-true, and_from, or_left, or_right}
use Rattle.cov_base.specs.Meaning.{FactSet, no_facts}
use Rattle.module_area.specs.Meaning.{word_at, no_cell, index_of, window_at, is_over, is_controlled}
use Rattle.module_area.specs.Rule.{Keeps, KeepsAs, Held, window_tag, tagging, planting, last_tag}
use Rattle.module_area.specs.declared.cells.Cell.{Cell}
use Rattle.module_area.specs.declared.parties.Role.{Role}
use Rattle.module_area.specs.declared.parties.Role.TheVariants.{Spent}
use Rattle.module_area.specs.declared.parties.View.{View}
use Rattle.module_area.proofs.Laws.{plants, closes as closes_step, spent_not_root, spent_not_task}
use Rattle.interleave_core.specs.Meaning.{World, TaskPart, part_of, plan_in, PlaceChange, change_of, next_place, change_due, Stepped, may_plant, breakpoint_of, with_cell, same_due, subject_place, step_of, set_of}
use Rattle.interleave_core.specs.CoreState.{CoreState, Item, Gave, task_view, task_views}
use Rattle.interleave_core.specs.declared.stage.Due.{Due}
use Rattle.interleave_core.specs.declared.stage.Due.TheVariants.{Marking, Lifting, Nothing}
use Rattle.interleave_core.specs.declared.stage.Stage.{Stage}
use Rattle.interleave_core.specs.declared.stage.Stage.TheVariants.{Ready, Awaiting, Holding, Ended}
use Rattle.interleave_core.specs.Views.{closed_of, AreTied}
use Rattle.interleave_core.proofs.Changes.{may_by, Changed, logs_given}
use Rattle.interleave_core.proofs.Logs.{changed_log}
use Rattle.interleave_core.proofs.Turns.{IsOwn, IsChange, due_is}
use Rattle.interleave_core.proofs.Rule.{task_role, view_at, views_same, views_set, InHand, InStage, Ruled}

-- the planter's, of a whole session
pub rule_plant : (w : World) (c : CoreState) (v : View) (s p : ℕ) (logs : ℕ → List Item) → Ruled w c v → may_plant w c.parts s p ≡ true → ((t : ℕ) → logs t ≡ c.logs t) →
    Ruled w (record { parts = with_cell c.parts p (breakpoint_of s); logs = logs }) (planting s p v)
rule_plant w c v s p logs is may same =
    let at = may_by (nat_lt p (length w.places)) (nat_lt 0 s) (nat_eq (window_at (plan_in w) p) s) (nat_eq (word_at c.parts.cells p).tag 0) may in
    let lt : p < length w.places = ltb-true p (length w.places) at.0 in
    let pos : 0 < s = ltb-true 0 s at.1 in
    let window : window_at (plan_in w) p ≡ s = eqb-true (window_at (plan_in w) p) s at.2 in
    let zero_tag : (word_at c.parts.cells p).tag ≡ 0 = eqb-true (word_at c.parts.cells p).tag 0 at.3 in
    let live : v.role ≢ Spent = λ e. spent_not_root (sym e ∙ is.role) in
    let keeps : Keeps (plan_in w) v p = subst (λ (r : Role). KeepsAs (plan_in w) v p r) (sym is.role) (inl (subst (λ (n : ℕ). 0 < n) (sym window) pos)) in
    let over : is_over (plan_in w) s p ≡ true = or_left (nat_lt 0 s && nat_eq (window_at (plan_in w) p) s) (is_controlled (plan_in w) s p) (and_from (nat_lt 0 s) (nat_eq (window_at (plan_in w) p) s) at.1 at.2) in
    let last : last_tag p v.planted ≡ 0 = sym (is.held.ties 0 v refl p lt keeps) ∙ zero_tag in
    let later : last_tag p v.planted < window_tag s = omega (arith, last, pos) in
    let inside : p < length c.parts.cells = subst (λ (n : ℕ). p < n) (sym is.cells) lt in
    let views : task_views w c.logs 0 (length w.job.tasks) ≡ task_views w logs 0 (length w.job.tasks) = views_same w c.logs logs 0 (length w.job.tasks) (λ t l. same t) in
    record {
      count = is.count;
      sets = is.sets;
      cells = length-set c.parts.cells p (breakpoint_of s) ∙ is.cells;
      role = is.role;
      held = subst (λ (vs : List View). Held (plan_in w) (λ q. word_at (set c.parts.cells p (breakpoint_of s)) q) (λ n q. set_of w c.parts n q) (planting s p v ∷ vs)) views
          (plants (plan_in w) (λ q. word_at c.parts.cells q) (λ n q. set_of w c.parts n q) (v ∷ task_views w c.logs 0 (length w.job.tasks)) is.held 0 v refl live s p lt keeps pos over later
          (λ q. word_at (set c.parts.cells p (breakpoint_of s)) q) (λ n q. set_of w c.parts n q) (get_or-set_at c.parts.cells p p (breakpoint_of s) no_cell refl inside)
          (λ q l n. get_or-set_other c.parts.cells p q (breakpoint_of s) no_cell n) (λ n q l k. refl));
      hands = λ t l. subst (λ (log : List Item). InStage w t (part_of c.parts t) log (part_of c.parts t).stage) (sym (same t)) (is.hands t l);
    }

-- nothing is due of a cell in hand where a place of a session is
changed_hand : (w : World) (t n p tag : ℕ) (u : TaskPart) (log : List Item) (stage : Stage) (x : PlaceChange) → change_due w t u stage ≡ Some x → InStage w t u log stage → InStage w t (record u { changed = n }) (Gave p tag ∷ log) stage
changed_hand w t n p tag u log Ready x due is = is
changed_hand w t n p tag u log Awaiting x due is = is
changed_hand w t n p tag u log (Ended e) x due is = is
changed_hand w t n p tag u log (Holding h) x due is = by h.due due is
  where
    by : (d : Due) → (if same_due d Nothing && (h.subject || is_none (subject_place w (step_of w t u).visits)) then option_and_then (next_place u.changed) (change_of w t u) else None) ≡ Some x →
        InHand w t u log h d → InHand w t (record u { changed = n }) (Gave p tag ∷ log) h d
    by Marking k has = let none : None ≡ Some x = k in absurd cc
    by Lifting k has = let none : None ≡ Some x = k in absurd cc
    by Nothing k has = has

-- a controller's, of a session that it opens or closes: the cell that it leaves, and the rule of the step
module _ (w : World) (c : CoreState) (v : View) (closes : Bool) (s p : ℕ) (x : Stepped) (logs : ℕ → List Item) (is : Ruled w c v) (tied : AreTied w c.parts) (by : Changed w c.parts closes s p x) where
  abbrev t : ℕ
  t = by.task

  abbrev u : TaskPart
  u = part_of c.parts by.task

  abbrev view : View
  view = task_view w by.task (c.logs by.task)

  abbrev views : List View
  views = v ∷ task_views w c.logs 0 (length w.job.tasks)

  abbrev cell : Cell
  cell = if closes then closed_of w s p else breakpoint_of s

  change_is : IsChange w c.parts.cells by.task u by.change
  change_is = due_is w c.parts.cells by.task u u.stage by.change is.held.is_plan (tied by.task by.there) by.due

  pub its : IsOwn w by.task s p
  its = subst (λ (n : ℕ). IsOwn w by.task n p) by.session (subst (λ (q : ℕ). IsOwn w by.task by.change.session q) by.place change_is.own)

  in_job : by.task < length w.job.tasks
  in_job = subst (λ (n : ℕ). by.task < n) is.count by.there

  stands : get_elem? views (suc by.task) ≡ some view
  stands = view_at w c.logs 0 (length w.job.tasks) by.task by.task (omega arith) in_job

  alive : view.role ≢ Spent
  alive e = spent_not_task by.task (sym e ∙ task_role w by.task (c.logs by.task))

  keeps_place : Keeps (plan_in w) view p
  keeps_place = subst (λ (r : Role). KeepsAs (plan_in w) view p r) (sym (task_role w by.task (c.logs by.task))) its.controller

  last_is : (word_at c.parts.cells p).tag ≡ last_tag p view.planted
  last_is = is.held.ties (suc by.task) view stands p its.inside keeps_place

  its_over : is_over (plan_in w) s p ≡ true
  its_over = or_right (nat_lt 0 s && nat_eq (window_at (plan_in w) p) s) (is_controlled (plan_in w) s p) its.controlled

  made_cells : x.parts.cells ≡ set c.parts.cells p cell
  made_cells = ap (λ (y : Stepped). y.parts.cells) by.made
      ∙ (ap (λ (q : ℕ). set c.parts.cells q (if by.change.closes then closed_of w by.change.session q else breakpoint_of by.change.session)) by.place
      ∙ (ap (λ (n : ℕ). set c.parts.cells p (if by.change.closes then closed_of w n p else breakpoint_of n)) by.session
      ∙ ap (λ (b : Bool). set c.parts.cells p (if b then closed_of w s p else breakpoint_of s)) by.closes_is))

  made_sets : x.parts.sets ≡ c.parts.sets
  made_sets = ap (λ (y : Stepped). y.parts.sets) by.made

  cell_here : word_at x.parts.cells p ≡ cell
  cell_here = ap (λ (cells : List Cell). word_at cells p) made_cells ∙ get_or-set_at c.parts.cells p p cell no_cell refl (subst (λ (n : ℕ). p < n) (sym is.cells) its.inside)

  pub cell_other : (q : ℕ) → q < length w.places → q ≢ p → word_at x.parts.cells q ≡ word_at c.parts.cells q
  cell_other q l n = ap (λ (cells : List Cell). word_at cells q) made_cells ∙ get_or-set_other c.parts.cells p q cell no_cell n

  set_kept : (n q : ℕ) → q < length w.places → 0 < n → set_of w x.parts n q ≡ set_of w c.parts n q
  set_kept n q l pos = ap (λ (sets : List FactSet). get_or sets (index_of (length w.places) n q) no_facts) made_sets

  pub rule_given : (tag : ℕ) → ((r : ℕ) → logs r ≡ logs_given c.logs by.task p tag r) → Held (plan_in w) (λ q. word_at x.parts.cells q) (λ n q. set_of w x.parts n q) (set views (suc by.task) (tagging p tag view)) →
      Ruled w (record { parts = x.parts; logs = logs }) v
  rule_given tag given held =
      let own_log : logs by.task ≡ Gave p tag ∷ c.logs by.task = given by.task ∙ ap (λ (b : Bool). if b then Gave p tag ∷ c.logs by.task else c.logs by.task) (eq-eqb by.task by.task refl) in
      let new : set (task_views w c.logs 0 (length w.job.tasks)) by.task (tagging p tag view) ≡ task_views w logs 0 (length w.job.tasks) =
      views_set w c.logs logs 0 (length w.job.tasks) by.task by.task (tagging p tag view) (omega arith) in_job (ap (task_view w by.task) (sym own_log))
      (λ r other. given r ∙ ap (λ (b : Bool). if b then Gave p tag ∷ c.logs r else c.logs r) (ne_eqb by.task r (λ e. other (sym e)))) in
      record {
        count = ap (λ (y : Stepped). length y.parts.tasks) by.made ∙ (length-set c.parts.tasks by.task _ ∙ is.count);
        sets = ap (λ (sets : List FactSet). length sets) made_sets ∙ is.sets;
        cells = ap (λ (cells : List Cell). length cells) made_cells ∙ (length-set c.parts.cells p cell ∙ is.cells);
        role = is.role;
        held = subst (λ (vs : List View). Held (plan_in w) (λ q. word_at x.parts.cells q) (λ n q. set_of w x.parts n q) (v ∷ vs)) new held;
        hands = changed_log w (λ n y log. InStage w n y log y.stage) c closes s p tag x logs by given (changed_hand w by.task (u.changed + 1) p tag u (c.logs by.task) u.stage by.change by.due (is.hands by.task by.there)) is.hands;
      }

  pub rule_plants : closes ≡ false → ((r : ℕ) → logs r ≡ logs_given c.logs by.task p (window_tag s) r) → Ruled w (record { parts = x.parts; logs = logs }) v
  rule_plants way given =
      let low : (word_at c.parts.cells p).tag + 1 < 2 * s = subst (λ (n : ℕ). (word_at c.parts.cells p).tag + 1 < 2 * n) by.session (subst (λ (q : ℕ). (word_at c.parts.cells q).tag + 1 < 2 * by.change.session) by.place (change_is.lower (by.closes_is ∙ way))) in
      rule_given (window_tag s) given (plants (plan_in w) (λ q. word_at c.parts.cells q) (λ n q. set_of w c.parts n q) views is.held (suc by.task) view stands alive s p its.inside keeps_place its.positive its_over (omega (arith, low, last_is))
      (λ q. word_at x.parts.cells q) (λ n q. set_of w x.parts n q) (cell_here ∙ ap (λ (b : Bool). if b then closed_of w s p else breakpoint_of s) way) cell_other set_kept)

  pub rule_closes : closes ≡ true → ((r : ℕ) → logs r ≡ logs_given c.logs by.task p (2 * s) r) → Ruled w (record { parts = x.parts; logs = logs }) v
  rule_closes way given =
      let tag : (word_at c.parts.cells p).tag + 1 ≡ 2 * s = subst (λ (n : ℕ). (word_at c.parts.cells p).tag + 1 ≡ 2 * n) by.session (subst (λ (q : ℕ). (word_at c.parts.cells q).tag + 1 ≡ 2 * by.change.session) by.place (change_is.window (by.closes_is ∙ way))) in
      rule_given (2 * s) given (closes_step (plan_in w) (λ q. word_at c.parts.cells q) (λ n q. set_of w c.parts n q) views is.held (suc by.task) view stands alive s p its.inside keeps_place its.positive its.controlled (omega (arith, tag, last_is))
      (λ q. word_at x.parts.cells q) (λ n q. set_of w x.parts n q) (cell_here ∙ ap (λ (b : Bool). if b then closed_of w s p else breakpoint_of s) way) cell_other set_kept)
