-- The event that is possible of a task.
use Rattle.std.specs.Option.{option_and_then}
use Rattle.std.proofs.Common.{◌≡◌, inl, inr, ℕ, ◌+◌, ◌*◌, Bool, true, false, not, ◌&&◌, ◌||◌, nat_eq, nat_lt, if◌then◌else◌, Option, Some, None, is_none, option_map, IfSome, length, refl, sym, ◌∙◌, ap, subst, arith, eq-eqb}
use Rattle.std.proofs.lemmas.Bool.Decides.{nat_tests}
use Rattle.std.proofs.lemmas.Bool.{lt-ltb}
use Rattle.cov_base.specs.declared.numbers.TaskNo.{TaskNo}
use Rattle.s370_state.specs.declared.endings.Ending.TheVariants.{Returned, Spent}
use Rattle.s370_exec.specs.Meaning.{has_returned}
use Rattle.module_area.specs.Meaning.{word_at}
use Rattle.module_area.specs.Rule.{IsPlan}
use Rattle.cov_base.specs.declared.numbers.PlaceNo.{PlaceNo as Number}
use Rattle.cov_base.specs.declared.numbers.SessNo.{SessNo}
use Rattle.interleave_core.specs.Meaning.{World, TaskPart, Parts, part_of, place_at, plan_in, PlaceChange, controller_of, change_of, next_place, Stepped, of_existing, task_goes_on, change_due, may_change, changed, change_step, by_controller, whole_step, cell_fetched, fact_marked, lifted, done_by, task_done, ready_done, instruction_executed, executed, with_stage, place_due, subject_place, step_of, is_spent, in_hand, same_due, stage_event, next_of, change_or_do, event_due}
use Rattle.interleave_core.specs.CoreState.{is_by, is_task}
use Rattle.interleave_core.specs.Results.{IsDue}
use Rattle.interleave_core.specs.Views.{IsStage, IsTied}
use Rattle.interleave_core.proofs.Changes.{goes_on, done_due, Changed, plant_cases, close_by}
use Rattle.interleave_core.proofs.Runs.{exists_by, got, in_hand-stage}
use Rattle.interleave_core.proofs.Turns.{IsChange, due_is, due_controller}
use Rattle.interleave_core.specs.declared.events.Event.{Event}
use Rattle.interleave_core.specs.declared.events.Event.TheVariants.{Fetch, Mark, Lift, Do, Plant, Close}
use Rattle.interleave_core.specs.declared.stage.Due.{Due}
use Rattle.interleave_core.specs.declared.stage.Due.TheVariants.{Marking, Lifting, Nothing}
use Rattle.interleave_core.specs.declared.stage.Hand.{Hand}
use Rattle.interleave_core.specs.declared.stage.Stage.{Stage}
use Rattle.interleave_core.specs.declared.stage.Stage.TheVariants.{Ready, Awaiting, Holding, Ended}

-- a change of this session at this place, under a tag that it may give
may_from : (closes way same at low : Bool) → way ≡ closes → same ≡ true → at ≡ true → (closes ≡ false → low ≡ true) → ((if closes then way else not way) && (same && (at && (closes || low)))) ≡ true
may_from true way same at low w s p l = rw (w, s, p) refl
may_from false way same at low w s p l = rw (w, s, p, l refl) refl

of_task-some : (c : Parts) (t : ℕ) (step : TaskPart → Option Stepped) (x : Stepped) → nat_lt t (length c.tasks) ≡ true → step (part_of c t) ≡ Some x → of_existing c t step ≡ Some x
of_task-some c t step x there h = rw there h

due_fetch : (w : World) (c : Parts) (t : TaskNo) (p : ℕ) → nat_lt t.0 (length c.tasks) ≡ true → place_due w t.0 (part_of c t.0) (part_of c t.0).stage ≡ Some p → IsDue w c t.0 (Fetch t)
due_fetch w c t p there h = record {
  by = eq-eqb t.0 t.0 refl;
  stepped = cell_fetched w c t.0 (part_of c t.0) p;
  step = of_task-some c t.0 (λ (u : TaskPart). option_map (cell_fetched w c t.0 u) (place_due w t.0 u u.stage)) _ there (ap (option_map (cell_fetched w c t.0 (part_of c t.0))) h);
}

due_mark : (w : World) (c : Parts) (t : TaskNo) (h : Hand) → nat_lt t.0 (length c.tasks) ≡ true → in_hand Marking (part_of c t.0).stage ≡ Some h → IsDue w c t.0 (Mark t)
due_mark w c t h there e = record {
  by = eq-eqb t.0 t.0 refl;
  stepped = fact_marked w c t.0 (part_of c t.0) h;
  step = of_task-some c t.0 (λ (u : TaskPart). option_map (fact_marked w c t.0 u) (in_hand Marking u.stage)) _ there (ap (option_map (fact_marked w c t.0 (part_of c t.0))) e);
}

due_lift : (w : World) (c : Parts) (t : TaskNo) (h : Hand) → nat_lt t.0 (length c.tasks) ≡ true → in_hand Lifting (part_of c t.0).stage ≡ Some h → IsDue w c t.0 (Lift t)
due_lift w c t h there e = record {
  by = eq-eqb t.0 t.0 refl;
  stepped = lifted w c t.0 (part_of c t.0) h;
  step = of_task-some c t.0 (λ (u : TaskPart). option_map (lifted w c t.0 u) (in_hand Lifting u.stage)) _ there (ap (option_map (lifted w c t.0 (part_of c t.0))) e);
}

due_do : (w : World) (c : Parts) (t : TaskNo) (v : TaskPart) → nat_lt t.0 (length c.tasks) ≡ true → task_done w t.0 (part_of c t.0) (part_of c t.0).stage ≡ Some v → IsDue w c t.0 (Do t)
due_do w c t v there e = record {
  by = eq-eqb t.0 t.0 refl;
  stepped = done_by c t.0 v;
  step = of_task-some c t.0 (λ (u : TaskPart). option_map (done_by c t.0) (task_done w t.0 u u.stage)) _ there (ap (option_map (done_by c t.0)) e);
}

-- a plant or a close that is due is its controller's
change_by : (w : World) (c : Parts) (t : ℕ) (closes : Bool) (whole : Option Stepped) (x : PlaceChange) → IsPlan (plan_in w) → IsTied w c.cells t (part_of c t) → nat_lt t (length c.tasks) ≡ true → change_due w t (part_of c t) (part_of c t).stage ≡ Some x → x.closes ≡ closes →
    (controller_of w x.session ≡ Some t) × (by_controller w c closes x.session x.place.0 whole (controller_of w x.session) ≡ Some (changed w c t (part_of c t) x))
change_by w c t closes whole x plan tied there due way =
    let is : IsChange w c.cells t (part_of c t) x = due_is w c.cells t (part_of c t) (part_of c t).stage x plan tied due in
    let by : controller_of w x.session ≡ Some t = due_controller w t (part_of c t) (part_of c t).stage x plan due in
    let below : closes ≡ false → nat_lt ((word_at c.cells x.place.0).tag + 1) (2 * x.session) ≡ true = λ e. lt-ltb ((word_at c.cells x.place.0).tag + 1) (2 * x.session) (is.lower (way ∙ e)) in
    let may : may_change c closes x.session x.place.0 x ≡ true = may_from closes x.closes _ _ _ way (eq-eqb x.session x.session refl) (eq-eqb x.place.0 x.place.0 refl) below in
    let step : change_step w c closes x.session x.place.0 t (part_of c t) ≡ Some (changed w c t (part_of c t) x) =
    ap (option_and_then (λ (y : PlaceChange). if may_change c closes x.session x.place.0 y then Some (changed w c t (part_of c t) y) else None)) due ∙ ap (λ (b : Bool). if b then Some (changed w c t (part_of c t) x) else None) may in
    (by, ap (by_controller w c closes x.session x.place.0 whole) by ∙ of_task-some c t (change_step w c closes x.session x.place.0 t) _ there step)

due_change : (w : World) (c : Parts) (t : TaskNo) (x : PlaceChange) → IsPlan (plan_in w) → IsTied w c.cells t.0 (part_of c t.0) → nat_lt t.0 (length c.tasks) ≡ true → change_due w t.0 (part_of c t.0) (part_of c t.0).stage ≡ Some x →
    IsDue w c t.0 (change_or_do t (Some x))
due_change w c t x plan tied there due = by x.closes refl
  where
    by : (b : Bool) → x.closes ≡ b → IsDue w c t.0 (if b then Close (record { 0 = x.session }) x.place else Plant (record { 0 = x.session }) x.place)
    by true e =
        let made = change_by w c t.0 true None x plan tied there due e in
        record { by = ap (λ (o : Option ℕ). is_task o t.0) made.0 ∙ eq-eqb t.0 t.0 refl; stepped = changed w c t.0 (part_of c t.0) x; step = made.1 }
    by false e =
        let made = change_by w c t.0 false (whole_step w c x.session x.place.0) x plan tied there due e in
        record { by = ap (λ (o : Option ℕ). is_task o t.0) made.0 ∙ eq-eqb t.0 t.0 refl; stepped = changed w c t.0 (part_of c t.0) x; step = made.1 }

-- the Do, or what is due before it
due_or_do : (w : World) (c : Parts) (t : TaskNo) (v : TaskPart) → IsPlan (plan_in w) → IsTied w c.cells t.0 (part_of c t.0) → nat_lt t.0 (length c.tasks) ≡ true → task_goes_on w t.0 (part_of c t.0) (part_of c t.0).stage ≡ Some v →
    IsDue w c t.0 (change_or_do t (change_due w t.0 (part_of c t.0) (part_of c t.0).stage))
due_or_do w c t v plan tied there goes = by (change_due w t.0 (part_of c t.0) (part_of c t.0).stage) refl
  where
    by : (o : Option PlaceChange) → change_due w t.0 (part_of c t.0) (part_of c t.0).stage ≡ o → IsDue w c t.0 (change_or_do t o)
    by None e = due_do w c t v there (ap (λ (o : Option PlaceChange). if is_none o then task_goes_on w t.0 (part_of c t.0) (part_of c t.0).stage else None) e ∙ goes)
    by (Some x) e = due_change w c t x plan tied there e

ready_by : (returned spent : Bool) (at : Option ℕ) (a b c : TaskPart) → (if returned then None else (if spent then None else at)) ≡ None →
    (v : TaskPart) × ((if returned then Some a else (if spent then Some b else (if is_none at then Some c else None))) ≡ Some v)
ready_by true spent at a b c h = (a, refl)
ready_by false true at a b c h = (b, refl)
ready_by false false None a b c h = (c, refl)
ready_by false false (Some p) a b c h = let n : Some p ≡ None = h in absurd cc

ready_some : (w : World) (t : ℕ) (u : TaskPart) → place_due w t u Ready ≡ None → (v : TaskPart) × (ready_done w t u ≡ Some v)
ready_some w t u h = ready_by (has_returned u.state) (is_spent w t u.state) (place_at w u.state.machine.cpu.ia) (with_stage u (Ended Returned)) (with_stage u (Ended Spent)) (instruction_executed w t u) h

possible_at : (w : World) (c : Parts) (t : TaskNo) (stage : Stage) → IsPlan (plan_in w) → IsTied w c.cells t.0 (part_of c t.0) → nat_lt t.0 (length c.tasks) ≡ true → (part_of c t.0).stage ≡ stage → IsStage w t.0 (part_of c t.0) stage →
    IfSome (stage_event w t (part_of c t.0) stage) (IsDue w c t.0)
possible_at w c t Ready plan tied there e is = by (place_due w t.0 (part_of c t.0) Ready) refl
  where
    by : (at : Option ℕ) → place_due w t.0 (part_of c t.0) Ready ≡ at → IsDue w c t.0 (if is_none at then change_or_do t (change_due w t.0 (part_of c t.0) Ready) else Fetch t)
    by (Some p) h = due_fetch w c t p there (ap (place_due w t.0 (part_of c t.0)) e ∙ h)
    by None h =
        let v = ready_some w t.0 (part_of c t.0) h in
        subst (λ (s : Stage). IsDue w c t.0 (change_or_do t (change_due w t.0 (part_of c t.0) s))) e (due_or_do w c t v.0 plan tied there (ap (task_goes_on w t.0 (part_of c t.0)) e ∙ v.1))
possible_at w c t Awaiting plan tied there e is = by (subject_place w (step_of w t.0 (part_of c t.0)).visits) refl
  where
    by : (at : Option ℕ) → subject_place w (step_of w t.0 (part_of c t.0)).visits ≡ at → IsDue w c t.0 (Fetch t)
    by (Some p) h = due_fetch w c t p there (ap (place_due w t.0 (part_of c t.0)) e ∙ h)
    by None h = absurd (is.1 h)
possible_at w c t (Holding h) plan tied there e is = by h.due refl
  where
    whole : TaskPart
    whole = if h.subject then executed w t.0 (part_of c t.0) else instruction_executed w t.0 (part_of c t.0)

    by : (d : Due) → h.due ≡ d → IsDue w c t.0 (event_due t (change_due w t.0 (part_of c t.0) (Holding h)) d)
    by Marking s = due_mark w c t h there (ap (in_hand Marking) e ∙ ap (λ (d : Due). if same_due d Marking then Some h else None) s)
    by Lifting s = due_lift w c t h there (ap (in_hand Lifting) e ∙ ap (λ (d : Due). if same_due d Lifting then Some h else None) s)
    by Nothing s = subst (λ (g : Stage). IsDue w c t.0 (change_or_do t (change_due w t.0 (part_of c t.0) g))) e
        (due_or_do w c t whole plan tied there (ap (task_goes_on w t.0 (part_of c t.0)) e ∙ ap (λ (d : Due). if same_due d Nothing then Some whole else None) s))
possible_at w c t (Ended x) plan tied there e is = tt

-- what is next is possible
pub next_possible : (w : World) (c : Parts) (t : TaskNo) → IsPlan (plan_in w) → IsTied w c.cells t.0 (part_of c t.0) → nat_lt t.0 (length c.tasks) ≡ true → IsStage w t.0 (part_of c t.0) (part_of c t.0).stage →
    IfSome (stage_event w t (part_of c t.0) (part_of c t.0).stage) (IsDue w c t.0)
next_possible w c t plan tied there is = possible_at w c t (part_of c t.0).stage plan tied there refl is

same_task : (t u : TaskNo) → nat_eq t.0 u.0 ≡ true → t ≡ u
same_task t u h = let e : t.0 ≡ u.0 = grind (arith, nat_tests) in ap (λ (n : ℕ). record { 0 = n }) e

fetch_only : (w : World) (t : TaskNo) (u : TaskPart) (stage : Stage) (p : ℕ) → place_due w t.0 u stage ≡ Some p → stage_event w t u stage ≡ Some (Fetch t)
fetch_only w t u Ready p h = ap (λ (o : Option ℕ). Some (if is_none o then change_or_do t (change_due w t.0 u Ready) else Fetch t)) h
fetch_only w t u Awaiting p h = refl
fetch_only w t u (Holding g) p h = let n : None ≡ Some p = h in absurd cc
fetch_only w t u (Ended e) p h = let n : None ≡ Some p = h in absurd cc

held_only : (due d : Due) (t : TaskNo) (o : Option PlaceChange) → same_due d due ≡ true → event_due t o d ≡ event_due t o due
held_only Marking Marking t o h = refl
held_only Lifting Lifting t o h = refl
held_only Nothing Nothing t o h = refl
held_only Marking Lifting t o h = let f : false ≡ true = h in absurd cc
held_only Marking Nothing t o h = let f : false ≡ true = h in absurd cc
held_only Lifting Marking t o h = let f : false ≡ true = h in absurd cc
held_only Lifting Nothing t o h = let f : false ≡ true = h in absurd cc
held_only Nothing Marking t o h = let f : false ≡ true = h in absurd cc
held_only Nothing Lifting t o h = let f : false ≡ true = h in absurd cc

hand_only : (w : World) (t : TaskNo) (u : TaskPart) (stage : Stage) (due : Due) (h : Hand) → in_hand due stage ≡ Some h → stage_event w t u stage ≡ Some (event_due t (change_due w t.0 u stage) due)
hand_only w t u stage due h e =
    let at = in_hand-stage due stage h e in
    subst (λ (s : Stage). stage_event w t u s ≡ Some (event_due t (change_due w t.0 u s) due)) (sym at.0) (ap Some (held_only due h.due t (change_due w t.0 u (Holding h)) at.1))

none_by : (returned spent : Bool) (at : Option ℕ) (a b c v : TaskPart) → (if returned then Some a else (if spent then Some b else (if is_none at then Some c else None))) ≡ Some v →
    (if returned then None else (if spent then None else at)) ≡ None
none_by true spent at a b c v h = refl
none_by false true at a b c v h = refl
none_by false false None a b c v h = refl
none_by false false (Some p) a b c v h = let n : None ≡ Some v = h in absurd cc

going_only : (w : World) (t : TaskNo) (u : TaskPart) (stage : Stage) (v : TaskPart) → task_goes_on w t.0 u stage ≡ Some v → stage_event w t u stage ≡ Some (change_or_do t (change_due w t.0 u stage))
going_only w t u Ready v h = ap (λ (o : Option ℕ). Some (if is_none o then change_or_do t (change_due w t.0 u Ready) else Fetch t))
    (none_by (has_returned u.state) (is_spent w t.0 u.state) (place_at w u.state.machine.cpu.ia) (with_stage u (Ended Returned)) (with_stage u (Ended Spent)) (instruction_executed w t.0 u) v h)
going_only w t u Awaiting v h = let n : None ≡ Some v = h in absurd cc
going_only w t u (Ended e) v h = let n : None ≡ Some v = h in absurd cc
going_only w t u (Holding g) v h = by (same_due g.due Nothing) refl h
  where
    by : (b : Bool) → same_due g.due Nothing ≡ b → (if b then Some (if g.subject then executed w t.0 u else instruction_executed w t.0 u) else None) ≡ Some v →
        Some (event_due t (change_due w t.0 u (Holding g)) g.due) ≡ Some (change_or_do t (change_due w t.0 u (Holding g)))
    by true s k = ap Some (held_only Nothing g.due t (change_due w t.0 u (Holding g)) s)
    by false s k = let n : None ≡ Some v = k in absurd cc

do_only : (w : World) (t : TaskNo) (u : TaskPart) (stage : Stage) (v : TaskPart) → task_done w t.0 u stage ≡ Some v → stage_event w t u stage ≡ Some (Do t)
do_only w t u stage v h = going_only w t u stage v (goes_on w t.0 u v stage h) ∙ ap (λ (o : Option PlaceChange). Some (change_or_do t o)) (done_due w t.0 u v stage h)

-- where a place of a session is due, the instruction would be executed
executes_on : (w : World) (t : TaskNo) (u : TaskPart) (stage : Stage) (x : PlaceChange) → change_due w t.0 u stage ≡ Some x → (v : TaskPart) × (task_goes_on w t.0 u stage ≡ Some v)
executes_on w t u Ready x h = ready (has_returned u.state) (is_spent w t.0 u.state) (place_at w u.state.machine.cpu.ia) (is_none (subject_place w (step_of w t.0 u).visits)) h
  where
    ready : (returned spent : Bool) (at : Option ℕ) (b : Bool) → (if not returned && (not spent && (is_none at && b)) then option_and_then (next_place u.changed) (change_of w t.0 u) else None) ≡ Some x →
        (v : TaskPart) × ((if returned then Some (with_stage u (Ended Returned)) else (if spent then Some (with_stage u (Ended Spent)) else (if is_none at then Some (instruction_executed w t.0 u) else None))) ≡ Some v)
    ready true spent at b k = (_, refl)
    ready false true at b k = (_, refl)
    ready false false None b k = (_, refl)
    ready false false (Some p) b k = let n : None ≡ Some x = k in absurd cc
executes_on w t u Awaiting x h = let n : None ≡ Some x = h in absurd cc
executes_on w t u (Ended e) x h = let n : None ≡ Some x = h in absurd cc
executes_on w t u (Holding g) x h = by (same_due g.due Nothing) (g.subject || is_none (subject_place w (step_of w t.0 u).visits)) h
  where
    by : (nothing b : Bool) → (if nothing && b then option_and_then (next_place u.changed) (change_of w t.0 u) else None) ≡ Some x →
        (v : TaskPart) × ((if nothing then Some (if g.subject then executed w t.0 u else instruction_executed w t.0 u) else None) ≡ Some v)
    by true b k = (_, refl)
    by false b k = let n : None ≡ Some x = k in absurd cc

change_only : (w : World) (t : TaskNo) (u : TaskPart) (stage : Stage) (x : PlaceChange) → change_due w t.0 u stage ≡ Some x → stage_event w t u stage ≡ Some (change_or_do t (Some x))
change_only w t u stage x h = let v = executes_on w t u stage x h in going_only w t u stage v.0 v.1 ∙ ap (λ (o : Option PlaceChange). Some (change_or_do t o)) h

pub next_there : (w : World) (c : Parts) (t : TaskNo) → nat_lt t.0 (length c.tasks) ≡ true → next_of w c t ≡ stage_event w t (part_of c t.0) (part_of c t.0).stage
next_there w c t there = ap (λ (b : Bool). if b then stage_event w t (part_of c t.0) (part_of c t.0).stage else None) there

only_of : (w : World) (c : Parts) (t u : TaskNo) (e : Event) → t ≡ u → nat_lt t.0 (length c.tasks) ≡ true → stage_event w t (part_of c t.0) (part_of c t.0).stage ≡ Some e → next_of w c u ≡ Some e
only_of w c t u e same there h =
    subst (λ (n : TaskNo). next_of w c n ≡ Some e) same (next_there w c t there ∙ h)

session_is : (s : SessNo) (n : ℕ) → n ≡ s.0 → record { 0 = n } ≡ s
session_is s n e = ap (λ (k : ℕ). record { 0 = k }) e

place_is : (p q : Number) → q.0 ≡ p.0 → q ≡ p
place_is p q e = ap (λ (k : ℕ). record { 0 = k }) e

-- a plant or a close that is possible
changed_only : (w : World) (c : Parts) (u : TaskNo) (closes : Bool) (s : SessNo) (p : Number) (x : Stepped) (by : Changed w c closes s.0 p.0 x) → nat_eq by.task u.0 ≡ true → next_of w c u ≡ Some (if closes then Close s p else Plant s p)
changed_only w c u closes s p x by same =
    let t : TaskNo = record { 0 = by.task } in
    let event : change_or_do t (Some by.change) ≡ (if closes then Close s p else Plant s p) =
    ap (λ (n : SessNo). if by.change.closes then Close n by.change.place else Plant n by.change.place) (session_is s by.change.session by.session)
    ∙ (ap (λ (q : Number). if by.change.closes then Close s q else Plant s q) (place_is p by.change.place by.place)
    ∙ ap (λ (b : Bool). if b then Close s p else Plant s p) by.closes_is) in
    only_of w c t u (if closes then Close s p else Plant s p) (same_task t u same) (lt-ltb by.task (length c.tasks) by.there) (change_only w t (part_of c by.task) (part_of c by.task).stage by.change by.due ∙ ap Some event)

-- what is possible is next
pub next_only : (w : World) (c : Parts) (u : TaskNo) (e : Event) → IsDue w c u.0 e → next_of w c u ≡ Some e
next_only w c u (Fetch t) d =
    let at = exists_by (nat_lt t.0 (length c.tasks)) (option_map (cell_fetched w c t.0 (part_of c t.0)) (place_due w t.0 (part_of c t.0) (part_of c t.0).stage)) d.stepped d.step in
    let p = got _ _ (place_due w t.0 (part_of c t.0) (part_of c t.0).stage) d.stepped at.1 in
    only_of w c t u (Fetch t) (same_task t u d.by) at.0 (fetch_only w t (part_of c t.0) (part_of c t.0).stage p.0 p.1)
next_only w c u (Mark t) d =
    let at = exists_by (nat_lt t.0 (length c.tasks)) (option_map (fact_marked w c t.0 (part_of c t.0)) (in_hand Marking (part_of c t.0).stage)) d.stepped d.step in
    let h = got _ _ (in_hand Marking (part_of c t.0).stage) d.stepped at.1 in
    only_of w c t u (Mark t) (same_task t u d.by) at.0 (hand_only w t (part_of c t.0) (part_of c t.0).stage Marking h.0 h.1)
next_only w c u (Lift t) d =
    let at = exists_by (nat_lt t.0 (length c.tasks)) (option_map (lifted w c t.0 (part_of c t.0)) (in_hand Lifting (part_of c t.0).stage)) d.stepped d.step in
    let h = got _ _ (in_hand Lifting (part_of c t.0).stage) d.stepped at.1 in
    only_of w c t u (Lift t) (same_task t u d.by) at.0 (hand_only w t (part_of c t.0) (part_of c t.0).stage Lifting h.0 h.1)
next_only w c u (Do t) d =
    let at = exists_by (nat_lt t.0 (length c.tasks)) (option_map (done_by c t.0) (task_done w t.0 (part_of c t.0) (part_of c t.0).stage)) d.stepped d.step in
    let v = got _ _ (task_done w t.0 (part_of c t.0) (part_of c t.0).stage) d.stepped at.1 in
    only_of w c t u (Do t) (same_task t u d.by) at.0 (do_only w t (part_of c t.0) (part_of c t.0).stage v.0 v.1)
next_only w c u (Plant s p) d = elim (plant_cases w c s.0 p.0 d.stepped d.step) [
  | inl whole ↦ let none : false ≡ true = sym (ap (λ (o : Option ℕ). is_task o u.0) whole.by_none) ∙ d.by in absurd cc
  | inr by ↦ changed_only w c u false s p d.stepped by (sym (ap (λ (o : Option ℕ). is_task o u.0) by.by_task) ∙ d.by)
]
next_only w c u (Close s p) d =
    let by : Changed w c true s.0 p.0 d.stepped = close_by w c s.0 p.0 d.stepped d.step in
    changed_only w c u true s p d.stepped by (sym (ap (λ (o : Option ℕ). is_task o u.0) by.by_task) ∙ d.by)

-- ---- it is the task's

or_do_by : (w : World) (t : TaskNo) (u : TaskPart) (stage : Stage) → IsPlan (plan_in w) → is_by w (change_or_do t (change_due w t.0 u stage)) t.0 ≡ true
or_do_by w t u stage plan = by (change_due w t.0 u stage) refl
  where
    by : (o : Option PlaceChange) → change_due w t.0 u stage ≡ o → is_by w (change_or_do t o) t.0 ≡ true
    by None e = eq-eqb t.0 t.0 refl
    by (Some x) e = way x.closes
      where
        own : is_task (controller_of w x.session) t.0 ≡ true
        own = ap (λ (o : Option ℕ). is_task o t.0) (due_controller w t.0 u stage x plan e) ∙ eq-eqb t.0 t.0 refl

        way : (b : Bool) → is_by w (if b then Close (record { 0 = x.session }) x.place else Plant (record { 0 = x.session }) x.place) t.0 ≡ true
        way true = own
        way false = own

stage_by : (w : World) (t : TaskNo) (u : TaskPart) (stage : Stage) (e : Event) → IsPlan (plan_in w) → stage_event w t u stage ≡ Some e → is_by w e t.0 ≡ true
stage_by w t u Ready e plan h = by (place_due w t.0 u Ready) h
  where
    by : (o : Option ℕ) → Some (if is_none o then change_or_do t (change_due w t.0 u Ready) else Fetch t) ≡ Some e → is_by w e t.0 ≡ true
    by None k = let same : change_or_do t (change_due w t.0 u Ready) ≡ e = cc in subst (λ (x : Event). is_by w x t.0 ≡ true) same (or_do_by w t u Ready plan)
    by (Some p) k = let same : Fetch t ≡ e = cc in subst (λ (x : Event). is_by w x t.0 ≡ true) same (eq-eqb t.0 t.0 refl)
stage_by w t u Awaiting e plan h = let same : Fetch t ≡ e = cc in subst (λ (x : Event). is_by w x t.0 ≡ true) same (eq-eqb t.0 t.0 refl)
stage_by w t u (Holding g) e plan h = by g.due h
  where
    by : (d : Due) → Some (event_due t (change_due w t.0 u (Holding g)) d) ≡ Some e → is_by w e t.0 ≡ true
    by Marking k = let same : Mark t ≡ e = cc in subst (λ (x : Event). is_by w x t.0 ≡ true) same (eq-eqb t.0 t.0 refl)
    by Lifting k = let same : Lift t ≡ e = cc in subst (λ (x : Event). is_by w x t.0 ≡ true) same (eq-eqb t.0 t.0 refl)
    by Nothing k = let same : change_or_do t (change_due w t.0 u (Holding g)) ≡ e = cc in subst (λ (x : Event). is_by w x t.0 ≡ true) same (or_do_by w t u (Holding g) plan)
stage_by w t u (Ended x) e plan h = absurd cc

pub next_by : (w : World) (c : Parts) (t : TaskNo) (e : Event) → IsPlan (plan_in w) → next_of w c t ≡ Some e → is_by w e t.0 ≡ true
next_by w c t e plan h = by_number (nat_lt t.0 (length c.tasks)) h
  where
    by_number : (b : Bool) → (if b then stage_event w t (part_of c t.0) (part_of c t.0).stage else None) ≡ Some e → is_by w e t.0 ≡ true
    by_number true q = stage_by w t (part_of c t.0) (part_of c t.0).stage e plan q
    by_number false q = absurd cc
