-- The sets are those of whole sessions where their windows were planted before any other event.
use Rattle.std.proofs.Common.{◌≡◌, ◌≢◌, ◌⊎◌, inl, inr, ℕ, zero, suc, ◌+◌, ◌*◌, ◌-◌, ◌<◌, Bool, true, false, ◌&&◌, ◌||◌, ◌==◌, nat_lt, nat_eq, if◌then◌else◌, Option, Some, None, List, [], ◌∷◌, ◌++◌, length, get_or, set, refl, sym, ◌∙◌, ap, subst, arith, eqb-true, eq-eqb, Contains, option_map}
use Rattle.std.proofs.lemmas.Grind.{get_or-set_at}
use Rattle.std.proofs.lemmas.List.{get_or-set_other, get_or-map, append-nil}
use Rattle.std.proofs.lemmas.Option.{same_Some, cond_some}
use Rattle.std.proofs.lemmas.Bool.{and_from, and_parts, ltb-true, both_ways, cases_eq, or_left, or_right, or_cases}
use Rattle.cov_base.specs.Meaning.{FactSet, no_facts, has_fact, with_fact, is_full, fact_of, Visit}
use Rattle.cov_base.specs.declared.numbers.PlaceNo.{PlaceNo}
use Rattle.cov_base.specs.declared.numbers.SessNo.{SessNo}
use Rattle.cov_base.specs.declared.facts.Fact.{Fact}
use Rattle.cov_base.proofs.Laws.{has_fact-none, with_fact-here, with_fact-more, with_fact-cases, has_fact-union, same_sets}
use Rattle.s370_state.specs.declared.endings.Ending.{Ending}
use Rattle.s370_exec.specs.Meaning.{Run}
use Rattle.module_area.specs.Meaning.{executes, facts_at, facts_of_all, tag_session, word_at, no_cell, kind_at, window_at, place_of, no_place}
use Rattle.module_area.specs.Rule.{Has, window_tag}
use Rattle.module_area.specs.declared.cells.Cell.{Cell}
use Rattle.module_area.specs.declared.parties.View.{View}
use Rattle.module_area.specs.declared.places.Place.{Place}
use Rattle.module_area.proofs.Laws.{same_tests, has-append, left-append, right-append}
use Rattle.session_book.specs.Meaning.{SessionView, TaskView, session_of, no_session, no_task, is_whole, observes}
use Rattle.phase_plan.specs.Meaning.{window_from, window_of, traces_from, session_set}
use Rattle.brk_table.proofs.Laws.{one_begins}
use Rattle.interleave_core.specs.Meaning.{World, TaskPart, Parts, part_of, budget_in, plan_in, place_at, Stepped, parts_step, cell_fetched, fact_marked, lifted, done_by, may_plant, breakpoint_of, with_cell, with_due, with_stage, original_under, same_cell, in_hand, hand_at, step_of, place_due, is_awaiting, task_done, set_of, fact_in}
use Rattle.interleave_core.specs.World.{IsWorld}
use Rattle.interleave_core.specs.CoreState.{CoreState, core_start, core_step, core_after, core_from, core_run, log_after, Item, Met, Gave, planted_by, planter_from, first_planter}
use Rattle.interleave_core.specs.MeaningOfEvents.{alone, IsAlone, Noted, note, noted, fact_at, visits_in_hand, HaveEnded, planted_first}
use Rattle.interleave_core.specs.declared.events.Event.{Event}
use Rattle.interleave_core.specs.declared.events.Event.TheVariants.{Fetch, Mark, Lift, Do, Plant, Close}
use Rattle.interleave_core.specs.declared.events.Shown.TheVariants.{Fetched, Marked, Lifted, Done}
use Rattle.interleave_core.specs.declared.stage.Hand.{Hand}
use Rattle.interleave_core.specs.declared.stage.Due.TheVariants.{Marking, Lifting, Nothing}
use Rattle.interleave_core.specs.declared.stage.Stage.{Stage}
use Rattle.interleave_core.specs.declared.stage.Stage.TheVariants.{Holding, Ended}
use Rattle.interleave_core.proofs.Alone.{run_alone}
use Rattle.interleave_core.proofs.Changes.{may_by, IsWholePlant, Changed, plant_cases, close_by, logs_whole, logs_plant, logs_close}
use Rattle.interleave_core.proofs.Exact.{HasShown, Sound, sound_step, sound_first, run_sound, exact_into, exact_from}
use Rattle.interleave_core.proofs.Finds.{there}
use Rattle.interleave_core.proofs.Logs.{logged, HasLog, found_at, one_log, changed_log, got_step, run_logs}
use Rattle.interleave_core.proofs.Given.{its, cell_other}
use Rattle.interleave_core.proofs.Ruled.{fetch_due, same_cells}
use Rattle.interleave_core.proofs.Runs.{got, lifted_tasks, exists_by, through}

-- ---- the tags

-- the trace of task t's whole run alone
abbrev trace_in : World → ℕ → List Visit
trace_in w t = (alone w t (budget_in w t)).trace

abbrev ArePlantedFirst : World → List Event → Type 0
ArePlantedFirst w events = (p : ℕ) → p < length w.places → 0 < window_at (plan_in w) p → Has p (planted_first events)

-- each window is open
abbrev Up : World → Parts → Type 0
Up w c = (p : ℕ) → p < length w.places → 0 < window_at (plan_in w) p → (word_at c.cells p).tag ≡ window_tag (window_at (plan_in w) p)

abbrev Entered : World → List Item → Type 0
Entered w [] = Unit {0}
Entered w (Met e ∷ log) = (0 < window_at (plan_in w) e.place → e.cell.tag ≡ window_tag (window_at (plan_in w) e.place)) × Entered w log
Entered w (Gave p tag ∷ log) = Entered w log

abbrev AllEntered : World → CoreState → Type 0
AllEntered w c = (t : ℕ) → t < length c.parts.tasks → Entered w (c.logs t)

-- a cell with the same tag, or with that of its window, is as good
up_cell : (w : World) (c : Parts) (p : ℕ) (x : Cell) → length c.cells ≡ length w.places → (p < length w.places → 0 < window_at (plan_in w) p → x.tag ≡ window_tag (window_at (plan_in w) p)) → (q : ℕ) → q < length w.places → 0 < window_at (plan_in w) q →
    (q ≢ p → (word_at c.cells q).tag ≡ window_tag (window_at (plan_in w) q)) → (word_at (set c.cells p x) q).tag ≡ window_tag (window_at (plan_in w) q)
up_cell w c p x size own q lt pos other = elim (cases_eq q p) [
  | inl same ↦
      let p_in : p < length c.cells = subst (λ (n : ℕ). p < n) (sym size) (subst (λ (n : ℕ). n < length w.places) same lt) in
      let here : word_at (set c.cells p x) q ≡ x = get_or-set_at c.cells p q x no_cell same p_in in
      ap (λ (c : Cell). c.tag) here ∙ (own (subst (λ (n : ℕ). n < length w.places) same lt) (subst (λ (n : ℕ). 0 < window_at (plan_in w) n) same pos) ∙ ap (λ (n : ℕ). window_tag (window_at (plan_in w) n)) (sym same))
  | inr apart ↦ ap (λ (c : Cell). c.tag) (get_or-set_other c.cells p q x no_cell apart) ∙ other apart
]

up_lift : (w : World) (c : Parts) (h : Hand) (b : Bool) → same_cell (word_at c.cells h.place.0) h.cell ≡ b → length c.cells ≡ length w.places → Up w c → Up w (if b then with_cell c h.place.0 (original_under w h.place.0 h.cell) else c)
up_lift w c h true e size up = λ q lt pos.
    let tag : h.cell.tag ≡ (word_at c.cells h.place.0).tag = ap (λ (x : Cell). x.tag) (sym (same_cells (word_at c.cells h.place.0) h.cell e)) in
    up_cell w c h.place.0 (original_under w h.place.0 h.cell) size (λ l some. tag ∙ up h.place.0 l some) q lt pos (λ n. up q lt pos)
up_lift w c h false e size up = up

plant_tag : (w : World) (c : Parts) (s p : ℕ) → may_plant w c s p ≡ true → (breakpoint_of s).tag ≡ window_tag (window_at (plan_in w) p)
plant_tag w c s p may =
    let at = may_by (nat_lt p (length w.places)) (nat_lt 0 s) (nat_eq (window_at (plan_in w) p) s) (nat_eq (word_at c.cells p).tag 0) may in
    ap window_tag (sym (eqb-true (window_at (plan_in w) p) s at.2))

log_kept_mark : (w : World) (t : ℕ) (u : TaskPart) (found : FactSet) (log : List Item) → Entered w log → Entered w (log_after w t u (Marked found) log)
log_kept_mark w t u found [] h = h
log_kept_mark w t u found (Met e ∷ log) h = h
log_kept_mark w t u found (Gave p tag ∷ log) h = h

log_kept_lift : (w : World) (t : ℕ) (u : TaskPart) (taken : Bool) (log : List Item) → Entered w log → Entered w (log_after w t u (Lifted taken) log)
log_kept_lift w t u taken [] h = h
log_kept_lift w t u taken (Met e ∷ log) h = h
log_kept_lift w t u taken (Gave p tag ∷ log) h = h

-- a place with a window is under no controlled session
not_own : (w : World) (c : CoreState) (v : View) (closes : Bool) (s p q : ℕ) (x : Stepped) → Sound w c v → Changed w c.parts closes s p x → 0 < window_at (plan_in w) q → q ≢ p
not_own w c v closes s p q x is by pos same =
    let none : window_at (plan_in w) p ≡ 0 = (its w c v closes s p x c.logs is.ruled is.tied by).no_window in
    let some : 0 < window_at (plan_in w) p = subst (λ (n : ℕ). 0 < window_at (plan_in w) n) same pos in
    omega (arith, none, some)

-- so its cell stays as it is
cell_stays : (w : World) (c : CoreState) (v : View) (closes : Bool) (s p : ℕ) (x : Stepped) → Sound w c v → Changed w c.parts closes s p x → (q : ℕ) → q < length w.places → 0 < window_at (plan_in w) q →
    (word_at x.parts.cells q).tag ≡ (word_at c.parts.cells q).tag
cell_stays w c v closes s p x is by q lt pos = ap (λ (y : Cell). y.tag) (cell_other w c v closes s p x c.logs is.ruled is.tied by q lt (not_own w c v closes s p q x is by pos))

up_changed : (w : World) (c : CoreState) (v : View) (closes : Bool) (s p : ℕ) (x : Stepped) → Sound w c v → Changed w c.parts closes s p x → Up w c.parts → Up w x.parts
up_changed w c v closes s p x is by up q lt pos = cell_stays w c v closes s p x is by q lt pos ∙ up q lt pos

whole_entered : (w : World) (c : CoreState) (s : SessNo) (p : PlaceNo) (x : Stepped) → IsWholePlant w c.parts s.0 p.0 x → AllEntered w c → AllEntered w (core_after w c (Plant s p) x).core
whole_entered w c s p x whole all = subst (λ (ts : List TaskPart). (t : ℕ) → t < length ts → Entered w ((core_after w c (Plant s p) x).core.logs t)) (ap (λ (y : Stepped). y.parts.tasks) (sym whole.made))
    (λ t l. subst (Entered w) (sym (logs_whole w c s p x whole t)) (all t l))

plant_entered : (w : World) (c : CoreState) (s : SessNo) (p : PlaceNo) (x : Stepped) → Changed w c.parts false s.0 p.0 x → AllEntered w c → AllEntered w (core_after w c (Plant s p) x).core
plant_entered w c s p x by all = changed_log w (λ n y log. Entered w log) c false s.0 p.0 (window_tag s.0) x (core_after w c (Plant s p) x).core.logs by (logs_plant w c s p x by) (all by.task by.there) all

open_step : (w : World) (c : CoreState) (v : View) (e : Event) (x : Stepped) → IsWorld w → parts_step w c.parts e ≡ Some x → Sound w c v → Up w c.parts → AllEntered w c → Up w x.parts × AllEntered w (core_after w c e x).core
open_step w c v (Fetch t) x world h is up all =
    let u : TaskPart = part_of c.parts t.0 in
    let at = exists_by (nat_lt t.0 (length c.parts.tasks)) (option_map (cell_fetched w c.parts t.0 u) (place_due w t.0 u u.stage)) x h in
    let lt : t.0 < length c.parts.tasks = ltb-true t.0 (length c.parts.tasks) at.0 in
    let p = got ℕ (cell_fetched w c.parts t.0 u) (place_due w t.0 u u.stage) x at.1 in
    let in_job : t.0 < length w.job.tasks = subst (λ (n : ℕ). t.0 < n) is.ruled.count lt in
    let due = fetch_due w t.0 u (c.logs t.0) u.stage p.0 world in_job (is.ruled.hands t.0 lt) p.1 in
    subst (λ (y : Stepped). Up w y.parts × AllEntered w (core_after w c (Fetch t) y).core) (sym p.2) (
      up,
      one_log w (λ n y log. Entered w log) c (cell_fetched w c.parts t.0 u p.0).parts t.0 (with_stage u (Holding (hand_at w c.parts (is_awaiting u.stage) p.0))) (Fetched (word_at c.parts.cells p.0)) refl lt
          ((λ some. up p.0 due.0 some), all t.0 lt) all,
    )
open_step w c v (Mark t) x world h is up all =
    let u : TaskPart = part_of c.parts t.0 in
    let at = exists_by (nat_lt t.0 (length c.parts.tasks)) (option_map (fact_marked w c.parts t.0 u) (in_hand Marking u.stage)) x h in
    let lt : t.0 < length c.parts.tasks = ltb-true t.0 (length c.parts.tasks) at.0 in
    let p = got Hand (fact_marked w c.parts t.0 u) (in_hand Marking u.stage) x at.1 in
    let found : FactSet = set_of w c.parts (tag_session p.0.cell.tag) p.0.place.0 in
    let u2 : TaskPart = with_due u p.0 (if is_full (kind_at (plan_in w) p.0.place.0) (with_fact found (fact_in w t.0 u p.0)) then Lifting else Nothing) in
    subst (λ (y : Stepped). Up w y.parts × AllEntered w (core_after w c (Mark t) y).core) (sym p.2)
    (up, one_log w (λ n y log. Entered w log) c (fact_marked w c.parts t.0 u p.0).parts t.0 u2 (Marked found) refl lt (log_kept_mark w t.0 u2 found (c.logs t.0) (all t.0 lt)) all)
open_step w c v (Lift t) x world h is up all =
    let u : TaskPart = part_of c.parts t.0 in
    let at = exists_by (nat_lt t.0 (length c.parts.tasks)) (option_map (lifted w c.parts t.0 u) (in_hand Lifting u.stage)) x h in
    let lt : t.0 < length c.parts.tasks = ltb-true t.0 (length c.parts.tasks) at.0 in
    let p = got Hand (lifted w c.parts t.0 u) (in_hand Lifting u.stage) x at.1 in
    let taken : Bool = same_cell (word_at c.parts.cells p.0.place.0) p.0.cell in
    let tasks : (lifted w c.parts t.0 u p.0).parts.tasks ≡ set c.parts.tasks t.0 (with_due u p.0 Nothing) = ap (λ (ts : List TaskPart). set ts t.0 (with_due u p.0 Nothing)) (lifted_tasks taken c.parts p.0.place.0 (original_under w p.0.place.0 p.0.cell)) in
    subst (λ (y : Stepped). Up w y.parts × AllEntered w (core_after w c (Lift t) y).core) (sym p.2)
    (up_lift w c.parts p.0 taken refl is.ruled.cells up, one_log w (λ n y log. Entered w log) c (lifted w c.parts t.0 u p.0).parts t.0 (with_due u p.0 Nothing) (Lifted taken) tasks lt (log_kept_lift w t.0 (with_due u p.0 Nothing) taken (c.logs t.0) (all t.0 lt)) all)
open_step w c v (Do t) x world h is up all =
    let u : TaskPart = part_of c.parts t.0 in
    let at = exists_by (nat_lt t.0 (length c.parts.tasks)) (option_map (done_by c.parts t.0) (task_done w t.0 u u.stage)) x h in
    let lt : t.0 < length c.parts.tasks = ltb-true t.0 (length c.parts.tasks) at.0 in
    let n = got TaskPart (done_by c.parts t.0) (task_done w t.0 u u.stage) x at.1 in
    subst (λ (y : Stepped). Up w y.parts × AllEntered w (core_after w c (Do t) y).core) (sym n.2)
    (up, one_log w (λ m y log. Entered w log) c (done_by c.parts t.0 n.0).parts t.0 n.0 Done refl lt (all t.0 lt) all)
open_step w c v (Plant s p) x world h is up all = elim (plant_cases w c.parts s.0 p.0 x h) [
  | inl whole ↦ (
    subst (λ (y : Stepped). Up w y.parts) (sym whole.made) (λ q lt pos. up_cell w c.parts p.0 (breakpoint_of s.0) is.ruled.cells (λ l some. plant_tag w c.parts s.0 p.0 whole.may) q lt pos (λ n. up q lt pos)),
    whole_entered w c s p x whole all,
  )
  | inr by ↦ (up_changed w c v false s.0 p.0 x is by up, plant_entered w c s p x by all)
]
open_step w c v (Close s p) x world h is up all =
    let by : Changed w c.parts true s.0 p.0 x = close_by w c.parts s.0 p.0 x h in (
      up_changed w c v true s.0 p.0 x is by up,
      changed_log w (λ n y log. Entered w log) c true s.0 p.0 (2 * s.0) x (core_after w c (Close s p) x).core.logs by (logs_close w c s p x by) (all by.task by.there) all,
    )

open_from : (w : World) (d c : CoreState) (v : View) (events : List Event) → IsWorld w → Sound w d v → Up w d.parts → AllEntered w d → core_from w d events ≡ Some c → AllEntered w c
open_from w d c v [] world is up all h = subst (λ (x : CoreState). AllEntered w x) (same_Some d c h) all
open_from w d c v (e ∷ events) world is up all h =
    let at = through (λ b. core_from w b events) (core_step w d e) c h in
    let made = got_step w d e (parts_step w d.parts e) at.0 at.1 in
    let step = open_step w d v e made.0 world made.1 is up all in
    open_from w at.0.core c (planted_by w v e) events world (subst (λ (x : CoreState). Sound w x (planted_by w v e)) made.2 (sound_step w d v e made.0 world made.1 is))
    (subst (λ (x : CoreState). Up w x.parts) made.2 step.0) (subst (λ (x : CoreState). AllEntered w x) made.2 step.1) at.2

-- what is still to be planted before any other event
abbrev Coming : World → Parts → List Event → Type 0
Coming w c events = (p : ℕ) → p < length w.places → 0 < window_at (plan_in w) p → Has p (planted_first events) ⊎ ((word_at c.cells p).tag ≡ window_tag (window_at (plan_in w) p))

ready : (w : World) (c : Parts) (events : List Event) → planted_first events ≡ [] → Coming w c events → Up w c
ready w c events none coming p lt pos = elim (coming p lt pos) [
  | inl later ↦ let n : Has {X = ℕ} p [] = subst (λ (l : List ℕ). Has p l) none later in absurd n
  | inr now ↦ now
]

-- what a plant leaves to be planted
planted_step : (w : World) (d : CoreState) (v : View) (s p : ℕ) (x : Stepped) (more : List ℕ) → Sound w d v → IsWholePlant w d.parts s p x ⊎ Changed w d.parts false s p x → (q : ℕ) → q < length w.places → 0 < window_at (plan_in w) q →
    ((p ≡ q) ⊎ Has q more) ⊎ ((word_at d.parts.cells q).tag ≡ window_tag (window_at (plan_in w) q)) → Has q more ⊎ ((word_at x.parts.cells q).tag ≡ window_tag (window_at (plan_in w) q))
planted_step w d v s p x more is how q lt pos (inl (inr later)) = inl later
planted_step w d v s p x more is (inl whole) q lt pos (inl (inl same)) = inr (subst (λ (y : Stepped). (word_at y.parts.cells q).tag ≡ window_tag (window_at (plan_in w) q)) (sym whole.made)
    (up_cell w d.parts p (breakpoint_of s) is.ruled.cells (λ l some. plant_tag w d.parts s p whole.may) q lt pos (λ n. absurd (n (sym same)))))
planted_step w d v s p x more is (inl whole) q lt pos (inr now) = inr (subst (λ (y : Stepped). (word_at y.parts.cells q).tag ≡ window_tag (window_at (plan_in w) q)) (sym whole.made)
    (up_cell w d.parts p (breakpoint_of s) is.ruled.cells (λ l some. plant_tag w d.parts s p whole.may) q lt pos (λ n. now)))
planted_step w d v s p x more is (inr by) q lt pos (inl (inl same)) = absurd (not_own w d v false s p q x is by pos (sym same))
planted_step w d v s p x more is (inr by) q lt pos (inr now) = inr (cell_stays w d v false s p x is by q lt pos ∙ now)

entered_plant : (w : World) (d : CoreState) (s : SessNo) (p : PlaceNo) (x : Stepped) → IsWholePlant w d.parts s.0 p.0 x ⊎ Changed w d.parts false s.0 p.0 x → AllEntered w d → AllEntered w (core_after w d (Plant s p) x).core
entered_plant w d s p x (inl whole) all = whole_entered w d s p x whole all
entered_plant w d s p x (inr by) all = plant_entered w d s p x by all

first_from : (w : World) (d c : CoreState) (v : View) (events : List Event) → IsWorld w → Sound w d v → AllEntered w d → Coming w d.parts events → core_from w d events ≡ Some c → AllEntered w c
first_from w d c v [] world is all coming h = subst (λ (x : CoreState). AllEntered w x) (same_Some d c h) all
first_from w d c v (Fetch t ∷ events) world is all coming h = open_from w d c v (Fetch t ∷ events) world is (ready w d.parts (Fetch t ∷ events) refl coming) all h
first_from w d c v (Mark t ∷ events) world is all coming h = open_from w d c v (Mark t ∷ events) world is (ready w d.parts (Mark t ∷ events) refl coming) all h
first_from w d c v (Lift t ∷ events) world is all coming h = open_from w d c v (Lift t ∷ events) world is (ready w d.parts (Lift t ∷ events) refl coming) all h
first_from w d c v (Do t ∷ events) world is all coming h = open_from w d c v (Do t ∷ events) world is (ready w d.parts (Do t ∷ events) refl coming) all h
first_from w d c v (Close s p ∷ events) world is all coming h = open_from w d c v (Close s p ∷ events) world is (ready w d.parts (Close s p ∷ events) refl coming) all h
first_from w d c v (Plant s p ∷ events) world is all coming h =
    let at = through (λ b. core_from w b events) (core_step w d (Plant s p)) c h in
    let made = got_step w d (Plant s p) (parts_step w d.parts (Plant s p)) at.0 at.1 in
    let how : IsWholePlant w d.parts s.0 p.0 made.0 ⊎ Changed w d.parts false s.0 p.0 made.0 = plant_cases w d.parts s.0 p.0 made.0 made.1 in
    let after : Coming w made.0.parts events = λ q lt pos. planted_step w d v s.0 p.0 made.0 (planted_first events) is how q lt pos (coming q lt pos) in
    first_from w at.0.core c (planted_by w v (Plant s p)) events world (subst (λ (x : CoreState). Sound w x (planted_by w v (Plant s p))) made.2 (sound_step w d v (Plant s p) made.0 world made.1 is))
    (subst (λ (x : CoreState). AllEntered w x) made.2 (entered_plant w d s p made.0 how all)) (subst (λ (x : CoreState). Coming w x.parts events) made.2 after) at.2

run_entered : (w : World) (c : CoreState) (events : List Event) → IsWorld w → ArePlantedFirst w events → core_run w events ≡ Some c → AllEntered w c
run_entered w c events world first h = first_from w (core_start w) c (first_planter (length w.job.tasks)) events world (sound_first w world) (λ t l. tt) (λ p lt pos. inl (first p lt pos)) h

-- ---- logs and traces

abbrev noted_one : ℕ → Fact → Noted
noted_one p f = record { place = p; fact = Some f }

shown_noted : (s p : ℕ) (f : Fact) (log : List Item) → HasShown s p f log → Has (noted_one p f) (logged log)
shown_noted s p f [] h = absurd h
shown_noted s p f (Met e ∷ log) (inl at) = right-append (noted_one p f) (logged log) (record { place = e.place; fact = e.fact } ∷ [])
    (inl (ap (λ (n : ℕ). record { place = n; fact = e.fact }) at.0 ∙ ap (λ (o : Option Fact). record { place = p; fact = o }) at.2))
shown_noted s p f (Met e ∷ log) (inr h) = left-append (noted_one p f) (logged log) (record { place = e.place; fact = e.fact } ∷ []) (shown_noted s p f log h)
shown_noted s p f (Gave q tag ∷ log) h = shown_noted s p f log h

noted_shown : (w : World) (p : ℕ) (f : Fact) (log : List Item) → 0 < window_at (plan_in w) p → Entered w log → Has (noted_one p f) (logged log) → HasShown (window_at (plan_in w) p) p f log
noted_shown w p f [] pos is h = absurd h
noted_shown w p f (Gave q tag ∷ log) pos is h = noted_shown w p f log pos is h
noted_shown w p f (Met e ∷ log) pos is h = elim (has-append (noted_one p f) (logged log) (record { place = e.place; fact = e.fact } ∷ []) h) [
  | inl old ↦ inr (noted_shown w p f log pos is.1 old)
  | inr new ↦ elim new [
    | inl same ↦
        let at : e.place ≡ p = ap (λ (n : Noted). n.place) same in
        let tag : e.cell.tag ≡ window_tag (window_at (plan_in w) e.place) = is.0 (subst (λ (n : ℕ). 0 < window_at (plan_in w) n) (sym at) pos) in
        inl (at, tag ∙ ap (λ (n : ℕ). window_tag (window_at (plan_in w) n)) at, ap (λ (n : Noted). n.fact) same)
    | inr never ↦ absurd never
  ]
]

-- one visit more
more_facts : (b : Bool) (x : FactSet) (g f : Fact) → has_fact x f ≡ true → has_fact (if b then with_fact x g else x) f ≡ true
more_facts true x g f h = with_fact-more x g f h
more_facts false x g f h = h

this_fact : (b : Bool) (x : FactSet) (g f : Fact) → b ≡ true → g ≡ f → has_fact (if b then with_fact x g else x) f ≡ true
this_fact true x g f h same = subst (λ (y : Fact). has_fact (with_fact x g) y ≡ true) same (with_fact-here x g)
this_fact false x g f h same = absurd cc

which_fact : (b : Bool) (x : FactSet) (g f : Fact) → has_fact (if b then with_fact x g else x) f ≡ true → (has_fact x f ≡ true) ⊎ ((b ≡ true) × (g ≡ f))
which_fact true x g f h = elim (with_fact-cases x g f h) [ inl old ↦ inl old | inr new ↦ inr (refl, sym new) ]
which_fact false x g f h = inl h

place_number : (w : World) (a p : ℕ) → place_at w a ≡ Some p → (place_of w.places p).at ≡ a
unfolding place_at
place_number w a p h = let k = found_at 0 a p w.places h in let same : k.0 ≡ p = omega (arith, k.3) in subst (λ (n : ℕ). (place_of w.places n).at ≡ a) same k.2

number_of_place : (w : World) (a p : ℕ) → IsWorld w → p < length w.places → (place_of w.places p).at ≡ a → place_at w a ≡ Some p
unfolding place_at
number_of_place w a p world lt at = there 0 a w.places p lt at (λ q l e. one_begins w.places p q world.places lt l (e ∙ sym at)) ∙ let number : 0 + p ≡ p = omega arith in ap Some number

note_by : (w : World) (v : Visit) (o : Option ℕ) (p : ℕ) (f : Fact) → Has (noted_one p f) (note w v o) → (o ≡ Some p) × (fact_at w p v ≡ Some f)
note_by w v None p f h = absurd h
note_by w v (Some q) p f (inl same) =
    let at : q ≡ p = ap (λ (n : Noted). n.place) same in
    (ap Some at, subst (λ (n : ℕ). fact_at w n v ≡ Some f) at (ap (λ (n : Noted). n.fact) same))
note_by w v (Some q) p f (inr never) = absurd never

noted_facts : (w : World) (p : ℕ) (f : Fact) (vs : List Visit) → Has (noted_one p f) (noted w vs) → has_fact (facts_at (place_of w.places p) vs) f ≡ true
noted_facts w p f [] h = absurd h
noted_facts w p f (v ∷ vs) h = elim (has-append (noted_one p f) (note w v (place_at w v.at)) (noted w vs) h) [
  | inl new ↦
      let by = note_by w v (place_at w v.at) p f new in
      let fact = cond_some v.begun (fact_of (kind_at (plan_in w) p) v.went) f by.1 in
      this_fact (executes (place_of w.places p) v) (facts_at (place_of w.places p) vs) (fact_of (kind_at (plan_in w) p) v.went) f
      (and_from v.begun (v.at == (place_of w.places p).at) fact.0 (eq-eqb v.at (place_of w.places p).at (sym (place_number w v.at p by.0)))) fact.1
  | inr old ↦ more_facts (executes (place_of w.places p) v) (facts_at (place_of w.places p) vs) (fact_of (kind_at (plan_in w) p) v.went) f (noted_facts w p f vs old)
]

facts_noted : (w : World) (p : ℕ) (f : Fact) (vs : List Visit) → IsWorld w → p < length w.places → has_fact (facts_at (place_of w.places p) vs) f ≡ true → Has (noted_one p f) (noted w vs)
facts_noted w p f [] world lt h = absurd (both_ways (has_fact no_facts f) (has_fact-none f) h)
facts_noted w p f (v ∷ vs) world lt h = elim (which_fact (executes (place_of w.places p) v) (facts_at (place_of w.places p) vs) (fact_of (kind_at (plan_in w) p) v.went) f h) [
  | inl old ↦ right-append (noted_one p f) (note w v (place_at w v.at)) (noted w vs) (facts_noted w p f vs world lt old)
  | inr new ↦
      let at = and_parts v.begun (v.at == (place_of w.places p).at) new.0 in
      let number : place_at w v.at ≡ Some p = number_of_place w v.at p world lt (sym (eqb-true v.at (place_of w.places p).at at.1)) in
      let fact : fact_at w p v ≡ Some f = ap (λ (b : Bool). if b then Some (fact_of (kind_at (plan_in w) p) v.went) else None) at.0 ∙ ap Some new.1 in
      left-append (noted_one p f) (note w v (place_at w v.at)) (noted w vs)
      (subst (λ (o : Option ℕ). Has (noted_one p f) (note w v o)) (sym number) (inl (ap (λ (o : Option Fact). record { place = p; fact = o }) fact)))
]

-- ---- the traces of all tasks

abbrev AllIn : ℕ → List TaskView → Type 0
AllIn phase ts = (i : ℕ) → i < length ts → (get_or ts i no_task).phase ≡ phase

tail_in : (phase : ℕ) (t : TaskView) (ts : List TaskView) → AllIn phase (t ∷ ts) → AllIn phase ts
tail_in phase t ts h i l = h (suc i) (omega (arith, l))

one_of : (b : Bool) (place : Place) (x : List Visit) (rest : List (List Visit)) (f : Fact) → b ≡ true → has_fact (facts_of_all place (if b then x ∷ rest else rest)) f ≡ (has_fact (facts_at place x) f || has_fact (facts_of_all place rest) f)
one_of true place x rest f h = has_fact-union (facts_at place x) (facts_of_all place rest) f
one_of false place x rest f h = absurd cc

head_phase : (phase : ℕ) (t : TaskView) (ts : List TaskView) → AllIn phase (t ∷ ts) → nat_eq t.phase phase ≡ true
head_phase phase t ts h = eq-eqb t.phase phase (h 0 (omega arith))

traces_into : (place : Place) (f : Fact) (trace : ℕ → List Visit) (n : ℕ) (ts : List TaskView) (phase : ℕ) → AllIn phase ts → (k m : ℕ) → n + k ≡ m → k < length ts → has_fact (facts_at place (trace m)) f ≡ true →
    has_fact (facts_of_all place (traces_from n ts phase trace)) f ≡ true
traces_into place f trace n [] phase all k m e lt h = absurd (omega arith)
traces_into place f trace n (t ∷ ts) phase all zero m e lt h =
    let same : m ≡ n = omega (arith, e) in
    one_of (nat_eq t.phase phase) place (trace n) (traces_from (n + 1) ts phase trace) f (head_phase phase t ts all)
    ∙ or_left (has_fact (facts_at place (trace n)) f) (has_fact (facts_of_all place (traces_from (n + 1) ts phase trace)) f) (subst (λ (i : ℕ). has_fact (facts_at place (trace i)) f ≡ true) same h)
traces_into place f trace n (t ∷ ts) phase all (suc k) m e lt h =
    one_of (nat_eq t.phase phase) place (trace n) (traces_from (n + 1) ts phase trace) f (head_phase phase t ts all)
    ∙ or_right (has_fact (facts_at place (trace n)) f) (has_fact (facts_of_all place (traces_from (n + 1) ts phase trace)) f) (traces_into place f trace (n + 1) ts phase (tail_in phase t ts all) k m (omega (arith, e)) (omega (arith, lt)) h)

traces_from_has : (place : Place) (f : Fact) (trace : ℕ → List Visit) (n : ℕ) (ts : List TaskView) (phase : ℕ) → AllIn phase ts → has_fact (facts_of_all place (traces_from n ts phase trace)) f ≡ true → (m : ℕ) × (m < n + length ts) × (has_fact (facts_at place (trace m)) f ≡ true)
traces_from_has place f trace n [] phase all h = absurd (both_ways (has_fact no_facts f) (has_fact-none f) h)
traces_from_has place f trace n (t ∷ ts) phase all h =
    let either = or_cases (has_fact (facts_at place (trace n)) f) (has_fact (facts_of_all place (traces_from (n + 1) ts phase trace)) f) (sym (one_of (nat_eq t.phase phase) place (trace n) (traces_from (n + 1) ts phase trace) f (head_phase phase t ts all)) ∙ h) in
    elim either [
      | inl here ↦ (n, omega arith, here)
      | inr later ↦ let r = traces_from_has place f trace (n + 1) ts phase (tail_in phase t ts all) later in (r.0, omega (arith, r.1), r.2)
    ]

below_one : (n m : ℕ) → n < m → m ≡ 1 → n ≡ 0
below_one n m h k = omega (arith, h, k)

tasks_in : (w : World) → IsWorld w → AllIn 0 w.job.tasks
tasks_in w world i l = below_one _ _ (world.job.are_tasks i no_task l).phase world.phase

-- the session of a window is one of the job's, whose phases are one
window_below : (n : ℕ) (ss : List SessionView) (m : ℕ) → 0 < window_from n ss 0 m → (k : ℕ) × (k < length ss) × (window_from n ss 0 m ≡ n + k)
window_below n [] m h = absurd (omega arith)
window_below n (s ∷ ss) m h = by (is_whole s && observes 0 m s) h (λ g. window_below (n + 1) ss m g)
  where
    by : (b : Bool) → 0 < (if b then n else window_from (n + 1) ss 0 m) → (0 < window_from (n + 1) ss 0 m → (k : ℕ) × (k < length ss) × (window_from (n + 1) ss 0 m ≡ n + 1 + k)) → (k : ℕ) × (k < length (s ∷ ss)) × ((if b then n else window_from (n + 1) ss 0 m) ≡ n + k)
    by true g more = (0, omega arith, omega arith)
    by false g more = let r = more g in (suc r.0, omega (arith, r.1), omega (arith, r.2))

session_phase : (w : World) (p : ℕ) → IsWorld w → p < length w.places → 0 < window_at (plan_in w) p → (session_of w.job (window_at (plan_in w) p)).phase ≡ 0
session_phase w p world lt pos =
    let is : window_at (plan_in w) p ≡ window_of w.job 0 (place_of w.places p) = get_or-map (window_of w.job 0) w.places p no_place 0 lt in
    let r = window_below 1 w.job.sessions (place_of w.places p).module (subst (λ (n : ℕ). 0 < n) is pos) in
    let index : window_at (plan_in w) p - 1 ≡ r.0 = omega (arith, is, r.2) in
    let low : (get_or w.job.sessions r.0 no_session).phase < length w.job.phases = (world.job.are_sessions r.0 no_session r.1).phase in
    ap (λ (n : ℕ). (get_or w.job.sessions n no_session).phase) index ∙ below_one _ _ low world.phase

-- ---- the sets

-- the log of a task that has ended
ended_log : (w : World) (t : ℕ) (u : TaskPart) (log : List Item) (e : Ending) → u.stage ≡ Ended e → IsAlone w t u → HasLog w t u log → logged log ≡ noted w (trace_in w t)
ended_log w t u log e at run has =
    let trace : trace_in w t ≡ (alone w t u.state.done).trace = ap (λ (r : Run). r.trace) (run.ended e at) in
    let hand : visits_in_hand u.stage (step_of w t u).visits ≡ [] = ap (λ (s : Stage). visits_in_hand s (step_of w t u).visits) at in
    has ∙ (ap (λ (V : List Visit). noted w ((alone w t u.state.done).trace ++ V)) hand ∙ (ap (noted w) (append-nil (alone w t u.state.done).trace) ∙ ap (noted w) (sym trace)))

-- after every list of events
pub run_whole : (w : World) (c : CoreState) (events : List Event) → IsWorld w → core_run w events ≡ Some c → HaveEnded c.parts → ArePlantedFirst w events → (p : ℕ) → p < length w.places → 0 < window_at (plan_in w) p →
    set_of w c.parts (window_at (plan_in w) p) p ≡ session_set w.job (trace_in w) (window_at (plan_in w) p) (place_of w.places p)
run_whole w c events world h ended first p lt pos =
    let is : Sound w c (planter_from w (first_planter (length w.job.tasks)) events) = run_sound w c events world h in
    let v : View = planter_from w (first_planter (length w.job.tasks)) events in
    let s : ℕ = window_at (plan_in w) p in
    let place : Place = place_of w.places p in
    let entered : AllEntered w c = run_entered w c events world first h in
    let logs : (t : ℕ) → t < length c.parts.tasks → logged (c.logs t) ≡ noted w (trace_in w t) = λ t l.
    ended_log w t (part_of c.parts t) (c.logs t) (ended t l).0 (ended t l).1 (run_alone w c events h t l) (run_logs w c events world h t l) in
    let sets : set_of w c.parts s p ≡ facts_of_all place (traces_from 0 w.job.tasks 0 (trace_in w)) = same_sets _ _ (λ f. same_tests _ _
    (λ has.
    let t = exact_into w c v is s p f pos lt has in
    let in_job : t.0 < length w.job.tasks = subst (λ (n : ℕ). t.0 < n) is.ruled.count t.1 in
    traces_into place f (trace_in w) 0 w.job.tasks 0 (tasks_in w world) t.0 t.0 (omega arith) in_job
    (noted_facts w p f (trace_in w t.0) (subst (λ (ns : List Noted). Has (noted_one p f) ns) (logs t.0 t.1) (shown_noted s p f (c.logs t.0) t.2))))
    (λ has.
    let t = traces_from_has place f (trace_in w) 0 w.job.tasks 0 (tasks_in w world) has in
    let there : t.0 < length c.parts.tasks = omega (arith, t.1, is.ruled.count) in
    exact_from w c v is ended s p f pos lt t.0 there
    (noted_shown w p f (c.logs t.0) pos (entered t.0 there) (subst (λ (ns : List Noted). Has (noted_one p f) ns) (sym (logs t.0 there)) (facts_noted w p f (trace_in w t.0) world lt t.2))))) in
    sets ∙ ap (λ (n : ℕ). facts_of_all place (traces_from 0 w.job.tasks n (trace_in w))) (sym (session_phase w p world lt pos))

contains_has : (xs : List ℕ) (p : ℕ) → Contains xs p → Has p xs
contains_has [] p h = absurd (let lt = h.1 in omega arith)
contains_has (x ∷ xs) p (zero, lt, e) = inl e
contains_has (x ∷ xs) p (suc k, lt, e) = inr (contains_has xs p (k, omega arith, e))

pub are_first : (w : World) (events : List Event) → ((p : ℕ) → p < length w.places → 0 < window_at (plan_in w) p → Contains (planted_first events) p) → ArePlantedFirst w events
are_first w events h = λ p lt pos. contains_has (planted_first events) p (h p lt pos)
