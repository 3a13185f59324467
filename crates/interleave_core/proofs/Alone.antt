-- Each event keeps each task where its run alone is.
use Rattle.std.proofs.Common.{◌≡◌, inl, inr, ℕ, zero, suc, ◌+◌, ◌-◌, ◌<◌, ◌≤◌, Bool, true, false, nat_le, nat_lt, if◌then◌else◌, Option, Some, None, option_map, List, [], ◌∷◌, ◌++◌, length, get_or, set, refl, sym, ◌∙◌, ap, subst, arith, is_none}
use Rattle.std.proofs.lemmas.Grind.{get_or-set_at}
use Rattle.std.proofs.lemmas.List.{get_or-map, get_or-set_other, length-set, length-map}
use Rattle.std.proofs.lemmas.Option.{same_Some}
use Rattle.std.proofs.lemmas.Bool.{leb-true, ltb-true, leb-false, cases_eq}
use Rattle.cov_base.specs.Meaning.{Memory, State, Visit}
use Rattle.s370_state.specs.declared.endings.Ending.{Ending}
use Rattle.s370_state.specs.declared.endings.Ending.TheVariants.{Returned, Spent}
use Rattle.s370_state.specs.declared.endings.Next.{Next}
use Rattle.s370_state.specs.declared.endings.Next.TheVariants.{On, Ended as NextEnded}
use Rattle.s370_exec.specs.Meaning.{Run, solo_run, solo_step, run_from, run_after, run_ended, has_returned}
use Rattle.s370_exec.proofs.Laws.{solo_step-done}
use Rattle.session_book.specs.Meaning.{task_of, no_task}
use Rattle.phase_plan.specs.Meaning.{first_state}
use Rattle.interleave_core.specs.Meaning.{World, TaskPart, Parts, part_of, first_part, memory_in, budget_in, first_parts, place_at, PlaceChange, Stepped, parts_step, cell_fetched, fact_marked, lifted, done_by, changed, with_due, original_under, same_cell, in_hand, with_stage, step_of, is_spent, executed, stage_after, place_due, task_goes_on, task_done, subject_place, instruction_executed, awaits_or, same_due}
use Rattle.module_area.specs.Meaning.{word_at}
use Rattle.interleave_core.specs.CoreState.{CoreState, CoreStepped, core_start, core_step, core_after, core_from, core_run}
use Rattle.interleave_core.specs.MeaningOfEvents.{IsAlone}
use Rattle.interleave_core.proofs.Changes.{goes_on, Changed, plant_cases, close_by}
use Rattle.interleave_core.proofs.Runs.{got, lifted_tasks, exists_by, in_hand-stage, through}
use Rattle.interleave_core.specs.declared.events.Event.{Event}
use Rattle.interleave_core.specs.declared.events.Event.TheVariants.{Fetch, Mark, Lift, Do, Plant, Close}
use Rattle.interleave_core.specs.declared.stage.Hand.{Hand}
use Rattle.interleave_core.specs.declared.stage.Due.TheVariants.{Marking, Lifting, Nothing}
use Rattle.interleave_core.specs.declared.stage.Stage.{Stage}
use Rattle.interleave_core.specs.declared.stage.Stage.TheVariants.{Ready, Awaiting, Holding, Ended}

abbrev pub has_ended : Stage → Bool
has_ended (Ended e) = true
has_ended stage = false

abbrev pub is_inside : Stage → Bool
is_inside Awaiting = true
is_inside (Holding h) = true
is_inside stage = false

-- what each event keeps of a task: a run alone that is longer goes on from where the task is
pub record Goes (m : Memory) (budget : ℕ) (first : State) (u : TaskPart) : Type 0 where
  pub trace : List Visit
  pub within : u.state.done ≤ budget
  pub state : solo_run m u.state.done first ≡ run_ended (solo_run m u.state.done first).ending u.state trace
  pub going : has_ended u.stage ≡ false → (k : ℕ) → solo_run m (u.state.done + k) first ≡ run_from m k u.state trace
  pub ended : (e : Ending) → u.stage ≡ Ended e → solo_run m budget first ≡ run_ended e u.state trace
  pub inside : is_inside u.stage ≡ true → (has_returned u.state ≡ false) × (u.state.done < budget)

pub run_zero : (m : Memory) (s : State) (trace : List Visit) → run_from m 0 s trace ≡ run_ended (if has_returned s then Returned else Spent) s trace
unfolding run_from
run_zero m s trace = refl

run_more : (m : Memory) (k : ℕ) (s : State) (trace : List Visit) → has_returned s ≡ false →
    run_from m (suc k) s trace ≡ run_after (λ t more. run_from m k t more) trace (solo_step m s).state (solo_step m s).visits (solo_step m s).next
unfolding run_from
run_more m k s trace h = rw h refl

run_returned : (m : Memory) (k : ℕ) (s : State) (trace : List Visit) → has_returned s ≡ true → run_from m k s trace ≡ run_ended Returned s trace
unfolding run_from
run_returned m zero s trace h = rw h refl
run_returned m (suc k) s trace h = rw h refl

ended_same : (e x : Ending) → Ended e ≡ Ended x → e ≡ x
ended_same e x h = cc

ready_not : (e : Ending) → Ready ≡ Ended e → ⊥
ready_not e h = let f : false ≡ true = ap has_ended h in absurd cc

-- another stage in the same instruction
goes_stage : (m : Memory) (budget : ℕ) (first : State) (u : TaskPart) (stage : Stage) → has_ended stage ≡ false → has_ended u.stage ≡ false → (has_returned u.state ≡ false) × (u.state.done < budget) →
    Goes m budget first u → Goes m budget first (with_stage u stage)
goes_stage m budget first u stage on was running g = record {
  trace = g.trace;
  within = g.within;
  state = g.state;
  going = λ h k. g.going was k;
  ended = λ e h. let f : false ≡ true = sym on ∙ ap has_ended h in absurd cc;
  inside = λ h. running;
}

pub due_in : (returned spent : Bool) (at : Option ℕ) (p : ℕ) → (if returned then None else (if spent then None else at)) ≡ Some p → (returned ≡ false) × (spent ≡ false) × (at ≡ Some p)
due_in true spent at p h = let n : None ≡ Some p = h in absurd cc
due_in false true at p h = let n : None ≡ Some p = h in absurd cc
due_in false false at p h = (refl, refl, h)

fetch_in : (w : World) (t : ℕ) (u : TaskPart) (stage : Stage) (p : ℕ) → u.stage ≡ stage → place_due w t u stage ≡ Some p → Goes (memory_in w t) (budget_in w t) (first_state (task_of w.job t)) u →
    (has_ended u.stage ≡ false) × (has_returned u.state ≡ false) × (u.state.done < budget_in w t)
fetch_in w t u Ready p at h g = let d = due_in (has_returned u.state) (is_spent w t u.state) (place_at w u.state.machine.cpu.ia) p h in (ap has_ended at, d.0, leb-false (budget_in w t) u.state.done d.1)
fetch_in w t u Awaiting p at h g = let now = g.inside (ap is_inside at) in (ap has_ended at, now.0, now.1)
fetch_in w t u (Holding x) p at h g = let n : None ≡ Some p = h in absurd cc
fetch_in w t u (Ended e) p at h g = let n : None ≡ Some p = h in absurd cc

abbrev pub GoesAt : World → ℕ → TaskPart → Type 0
GoesAt w t u = Goes (memory_in w t) (budget_in w t) (first_state (task_of w.job t)) u

pub goes_fetch : (w : World) (t : ℕ) (u : TaskPart) (p : ℕ) (h : Hand) → place_due w t u u.stage ≡ Some p → GoesAt w t u → GoesAt w t (with_stage u (Holding h))
goes_fetch w t u p h due g = let now = fetch_in w t u u.stage p refl due g in goes_stage (memory_in w t) (budget_in w t) (first_state (task_of w.job t)) u (Holding h) refl now.0 (now.1, now.2) g

pub goes_held : (w : World) (t : ℕ) (u : TaskPart) (h x : Hand) → u.stage ≡ Holding h → GoesAt w t u → GoesAt w t (with_stage u (Holding x))
goes_held w t u h x at g = goes_stage (memory_in w t) (budget_in w t) (first_state (task_of w.job t)) u (Holding x) refl (ap has_ended at) (g.inside (ap is_inside at)) g

-- a task ends before an instruction
goes_over : (m : Memory) (budget : ℕ) (first : State) (u : TaskPart) (e : Ending) (g : Goes m budget first u) → solo_run m budget first ≡ run_ended e u.state g.trace → Goes m budget first (with_stage u (Ended e))
goes_over m budget first u e g whole = record {
  trace = g.trace;
  within = g.within;
  state = g.state;
  going = λ h. let f : true ≡ false = h in absurd cc;
  ended = λ x h. let same : e ≡ x = ended_same e x h in subst (λ (y : Ending). solo_run m budget first ≡ run_ended y u.state g.trace) same whole;
  inside = λ h. let f : false ≡ true = h in absurd cc;
}

goes_returned : (m : Memory) (budget : ℕ) (first : State) (u : TaskPart) → has_ended u.stage ≡ false → has_returned u.state ≡ true → Goes m budget first u → Goes m budget first (with_stage u (Ended Returned))
goes_returned m budget first u was returned g =
    let left : u.state.done + (budget - u.state.done) ≡ budget = omega (arith, g.within) in
    goes_over m budget first u Returned g (ap (λ (n : ℕ). solo_run m n first) (sym left) ∙ (g.going was (budget - u.state.done) ∙ run_returned m (budget - u.state.done) u.state g.trace returned))

goes_spent : (m : Memory) (budget : ℕ) (first : State) (u : TaskPart) → has_ended u.stage ≡ false → has_returned u.state ≡ false → nat_le budget u.state.done ≡ true → Goes m budget first u →
    Goes m budget first (with_stage u (Ended Spent))
goes_spent m budget first u was on spent g =
    let most : budget ≤ u.state.done = leb-true budget u.state.done spent in
    let left : u.state.done + 0 ≡ budget = omega (arith, g.within, most) in
    goes_over m budget first u Spent g (ap (λ (n : ℕ). solo_run m n first) (sym left) ∙ (g.going was 0 ∙ (run_zero m u.state g.trace ∙ ap (λ (b : Bool). run_ended (if b then Returned else Spent) u.state g.trace) on)))

-- the run goes on behind an executed instruction
on_step : (m : Memory) (first : State) (u : TaskPart) (n : ℕ) (trace : List Visit) (next : Next) → (solo_step m u.state).next ≡ next → has_returned u.state ≡ false →
    ((k : ℕ) → solo_run m (u.state.done + k) first ≡ run_from m k u.state trace) → (k : ℕ) →
    solo_run m (u.state.done + 1 + k) first ≡ run_after (λ t more. run_from m k t more) trace (solo_step m u.state).state (solo_step m u.state).visits next
on_step m first u n trace next is on going k =
    let more : u.state.done + 1 + k ≡ u.state.done + suc k = omega arith in
    ap (λ (j : ℕ). solo_run m j first) more ∙ (going (suc k) ∙ (run_more m k u.state trace on
    ∙ ap (λ (x : Next). run_after (λ t more. run_from m k t more) trace (solo_step m u.state).state (solo_step m u.state).visits x) is))

executed_by : (m : Memory) (budget : ℕ) (first : State) (u : TaskPart) (next : Next) → (solo_step m u.state).next ≡ next → has_ended u.stage ≡ false → has_returned u.state ≡ false → u.state.done < budget →
    Goes m budget first u → Goes m budget first (record u { state = (solo_step m u.state).state; stage = stage_after next })
executed_by m budget first u On is was on below g =
    let s : State = (solo_step m u.state).state in
    let trace : List Visit = g.trace ++ (solo_step m u.state).visits in
    let one : s.done ≡ u.state.done + 1 = solo_step-done m u.state in
    let runs : (k : ℕ) → solo_run m (s.done + k) first ≡ run_from m k s trace = λ k. ap (λ (j : ℕ). solo_run m (j + k) first) one ∙ on_step m first u 0 g.trace On is on (g.going was) k in
    let none : s.done + 0 ≡ s.done = omega arith in
    let here : solo_run m s.done first ≡ run_ended (if has_returned s then Returned else Spent) s trace = ap (λ (j : ℕ). solo_run m j first) (sym none) ∙ (runs 0 ∙ run_zero m s trace) in
    record {
      trace = trace;
      within = omega (arith, one, below);
      state = here ∙ ap (λ (e : Ending). run_ended e s trace) (sym (ap (λ (r : Run). r.ending) here));
      going = λ h. runs;
      ended = λ e h. absurd (ready_not e h);
      inside = λ h. let f : false ≡ true = h in absurd cc;
    }
executed_by m budget first u (NextEnded e) is was on below g =
    let s : State = (solo_step m u.state).state in
    let trace : List Visit = g.trace ++ (solo_step m u.state).visits in
    let one : s.done ≡ u.state.done + 1 = solo_step-done m u.state in
    let runs : (k : ℕ) → solo_run m (s.done + k) first ≡ run_ended e s trace = λ k. ap (λ (j : ℕ). solo_run m (j + k) first) one ∙ on_step m first u 0 g.trace (NextEnded e) is on (g.going was) k in
    let none : s.done + 0 ≡ s.done = omega arith in
    let left : s.done + (budget - s.done) ≡ budget = omega (arith, one, below) in
    let here : solo_run m s.done first ≡ run_ended e s trace = ap (λ (j : ℕ). solo_run m j first) (sym none) ∙ runs 0 in
    record {
      trace = trace;
      within = omega (arith, one, below);
      state = here ∙ ap (λ (x : Ending). run_ended x s trace) (sym (ap (λ (r : Run). r.ending) here));
      going = λ h. let f : true ≡ false = h in absurd cc;
      ended = λ x h. let same : e ≡ x = ended_same e x h in subst (λ (y : Ending). solo_run m budget first ≡ run_ended y s trace) same (ap (λ (j : ℕ). solo_run m j first) (sym left) ∙ runs (budget - s.done));
      inside = λ h. let f : false ≡ true = h in absurd cc;
    }

by_next : (m : Memory) (trace : List Visit) (s : State) (visits : List Visit) (next : Next) → (run_after (λ t more. run_from m 0 t more) trace s visits next).trace ≡ trace ++ visits
by_next m trace s visits On = ap (λ (r : Run). r.trace) (run_zero m s (trace ++ visits))
by_next m trace s visits (NextEnded e) = refl

-- the trace grows by the visits of the executed instruction
pub executed_trace : (m : Memory) (budget : ℕ) (first : State) (u : TaskPart) → has_ended u.stage ≡ false → has_returned u.state ≡ false → Goes m budget first u →
    (solo_run m (solo_step m u.state).state.done first).trace ≡ (solo_run m u.state.done first).trace ++ (solo_step m u.state).visits
executed_trace m budget first u was on g =
    let one : (solo_step m u.state).state.done ≡ u.state.done + 1 + 0 = omega (arith, solo_step-done m u.state) in
    ap (λ (j : ℕ). (solo_run m j first).trace) one
    ∙ (ap (λ (r : Run). r.trace) (on_step m first u 0 g.trace (solo_step m u.state).next refl on (g.going was) 0)
    ∙ (by_next m g.trace (solo_step m u.state).state (solo_step m u.state).visits (solo_step m u.state).next
    ∙ ap (λ (t : List Visit). t ++ (solo_step m u.state).visits) (sym (ap (λ (r : Run). r.trace) g.state))))

goes_executed : (w : World) (t : ℕ) (u : TaskPart) → has_ended u.stage ≡ false → has_returned u.state ≡ false → u.state.done < budget_in w t → GoesAt w t u → GoesAt w t (executed w t u)
goes_executed w t u was on below g =
    let after : GoesAt w t (record u { state = (step_of w t u).state; stage = stage_after (step_of w t u).next }) =
    executed_by (memory_in w t) (budget_in w t) (first_state (task_of w.job t)) u (step_of w t u).next refl was on below g in
    record { trace = after.trace; within = after.within; state = after.state; going = after.going; ended = after.ended; inside = after.inside }

awaits_by : (w : World) (t : ℕ) (u : TaskPart) (at : Option ℕ) → has_ended u.stage ≡ false → has_returned u.state ≡ false → u.state.done < budget_in w t → GoesAt w t u → GoesAt w t (awaits_or u (executed w t u) at)
awaits_by w t u None was on below g = goes_executed w t u was on below g
awaits_by w t u (Some p) was on below g = goes_stage (memory_in w t) (budget_in w t) (first_state (task_of w.job t)) u Awaiting refl was (on, below) g

ready_goes : (m : Memory) (budget : ℕ) (first : State) (u v whole : TaskPart) (returned spent : Bool) (at : Option ℕ) → has_ended u.stage ≡ false → has_returned u.state ≡ returned → nat_le budget u.state.done ≡ spent →
    (has_returned u.state ≡ false → u.state.done < budget → Goes m budget first whole) → Goes m budget first u →
    (if returned then Some (with_stage u (Ended Returned)) else (if spent then Some (with_stage u (Ended Spent)) else (if is_none at then Some whole else None))) ≡ Some v → Goes m budget first v
ready_goes m budget first u v whole true spent at was r s go g h = subst (λ (x : TaskPart). Goes m budget first x) (same_Some _ v h) (goes_returned m budget first u was r g)
ready_goes m budget first u v whole false true at was r s go g h = subst (λ (x : TaskPart). Goes m budget first x) (same_Some _ v h) (goes_spent m budget first u was r s g)
ready_goes m budget first u v whole false false None was r s go g h = subst (λ (x : TaskPart). Goes m budget first x) (same_Some _ v h) (go r (leb-false budget u.state.done s))
ready_goes m budget first u v whole false false (Some p) was r s go g h = let n : None ≡ Some v = h in absurd cc

-- a Do
goes_going : (w : World) (t : ℕ) (u v : TaskPart) (stage : Stage) → u.stage ≡ stage → task_goes_on w t u stage ≡ Some v → GoesAt w t u → GoesAt w t v
goes_going w t u v Ready at h g =
    ready_goes (memory_in w t) (budget_in w t) (first_state (task_of w.job t)) u v (instruction_executed w t u) (has_returned u.state) (is_spent w t u.state) (place_at w u.state.machine.cpu.ia) (ap has_ended at) refl refl
    (λ r b. awaits_by w t u (subject_place w (step_of w t u).visits) (ap has_ended at) r b g) g h
goes_going w t u v Awaiting at h g = let n : None ≡ Some v = h in absurd cc
goes_going w t u v (Ended e) at h g = let n : None ≡ Some v = h in absurd cc
goes_going w t u v (Holding x) at h g = by (same_due x.due Nothing) x.subject h
  where
    by : (nothing subject : Bool) → (if nothing then Some (if subject then executed w t u else instruction_executed w t u) else None) ≡ Some v → GoesAt w t v
    by false subject k = let n : None ≡ Some v = k in absurd cc
    by true true k = subst (λ (y : TaskPart). GoesAt w t y) (same_Some _ v k) (goes_executed w t u (ap has_ended at) (g.inside (ap is_inside at)).0 (g.inside (ap is_inside at)).1 g)
    by true false k = subst (λ (y : TaskPart). GoesAt w t y) (same_Some _ v k)
        (awaits_by w t u (subject_place w (step_of w t u).visits) (ap has_ended at) (g.inside (ap is_inside at)).0 (g.inside (ap is_inside at)).1 g)

pub goes_done : (w : World) (t : ℕ) (u v : TaskPart) (stage : Stage) → u.stage ≡ stage → task_done w t u stage ≡ Some v → GoesAt w t u → GoesAt w t v
goes_done w t u v stage at h g = goes_going w t u v stage at (goes_on w t u v stage h) g

-- a place of a session
pub goes_changed : (w : World) (t n : ℕ) (u : TaskPart) → GoesAt w t u → GoesAt w t (record u { changed = n })
goes_changed w t n u g = record { trace = g.trace; within = g.within; state = g.state; going = g.going; ended = g.ended; inside = g.inside }

-- before any event
pub goes_first : (w : World) (t : ℕ) → GoesAt w t (first_part (task_of w.job t))
goes_first w t =
    let m : Memory = memory_in w t in
    let s : State = first_state (task_of w.job t) in
    record {
      trace = [];
      within = omega arith;
      state = run_zero m s [] ∙ ap (λ (e : Ending). run_ended e s []) (sym (ap (λ (r : Run). r.ending) (run_zero m s [])));
      going = λ h k. let none : 0 + k ≡ k = omega arith in ap (λ (j : ℕ). solo_run m j s) none;
      ended = λ e h. absurd (ready_not e h);
      inside = λ h. let f : false ≡ true = h in absurd cc;
    }

-- what it says of the task
pub goes_alone : (w : World) (t : ℕ) (u : TaskPart) → GoesAt w t u → IsAlone w t u
goes_alone w t u g = record {
  state = sym (ap (λ (r : Run). r.state) g.state);
  ended = λ e h. g.ended e h ∙ ap (λ (x : List Visit). run_ended e u.state x) (sym (ap (λ (r : Run). r.trace) g.state));
}

abbrev pub AllGo : World → Parts → Type 0
AllGo w c = (t : ℕ) → t < length c.tasks → GoesAt w t (part_of c t)

-- one task changes
pub all_but : (w : World) (c d : Parts) (t : ℕ) (u : TaskPart) → d.tasks ≡ set c.tasks t u → t < length c.tasks → GoesAt w t u → AllGo w c → AllGo w d
all_but w c d t u e lt one all s l =
    let inside : s < length c.tasks = subst (λ (n : ℕ). s < n) (ap (λ (x : List TaskPart). length x) e ∙ length-set c.tasks t u) l in
    let there : part_of d s ≡ get_or (set c.tasks t u) s (first_part no_task) = ap (λ (x : List TaskPart). get_or x s (first_part no_task)) e in
    elim (cases_eq s t) [
      | inl same ↦ subst (λ (x : TaskPart). GoesAt w s x) (sym (there ∙ get_or-set_at c.tasks t s u (first_part no_task) same lt)) (subst (λ (n : ℕ). GoesAt w n u) (sym same) one)
      | inr other ↦ subst (λ (x : TaskPart). GoesAt w s x) (sym (there ∙ get_or-set_other c.tasks t s u (first_part no_task) other)) (all s inside)
    ]

all_changed : (w : World) (c : Parts) (t : ℕ) (y : PlaceChange) (x : Stepped) → t < length c.tasks → x ≡ changed w c t (part_of c t) y → AllGo w c → AllGo w x.parts
all_changed w c t y x lt made all =
    all_but w c x.parts t (record (part_of c t) { changed = (part_of c t).changed + 1 }) (ap (λ (z : Stepped). z.parts.tasks) made) lt (goes_changed w t ((part_of c t).changed + 1) (part_of c t) (all t lt)) all

-- each event
pub all_step : (w : World) (c : Parts) (e : Event) (x : Stepped) → parts_step w c e ≡ Some x → AllGo w c → AllGo w x.parts
all_step w c (Fetch t) x h all =
    let at = exists_by (nat_lt t.0 (length c.tasks)) (option_map (cell_fetched w c t.0 (part_of c t.0)) (place_due w t.0 (part_of c t.0) (part_of c t.0).stage)) x h in
    let lt : t.0 < length c.tasks = ltb-true t.0 (length c.tasks) at.0 in
    let p = got ℕ (cell_fetched w c t.0 (part_of c t.0)) (place_due w t.0 (part_of c t.0) (part_of c t.0).stage) x at.1 in
    all_but w c x.parts t.0 _ (ap (λ (y : Stepped). y.parts.tasks) p.2) lt (goes_fetch w t.0 (part_of c t.0) p.0 _ p.1 (all t.0 lt)) all
all_step w c (Mark t) x h all =
    let at = exists_by (nat_lt t.0 (length c.tasks)) (option_map (fact_marked w c t.0 (part_of c t.0)) (in_hand Marking (part_of c t.0).stage)) x h in
    let lt : t.0 < length c.tasks = ltb-true t.0 (length c.tasks) at.0 in
    let p = got Hand (fact_marked w c t.0 (part_of c t.0)) (in_hand Marking (part_of c t.0).stage) x at.1 in
    all_but w c x.parts t.0 _ (ap (λ (y : Stepped). y.parts.tasks) p.2) lt (goes_held w t.0 (part_of c t.0) p.0 _ (in_hand-stage Marking (part_of c t.0).stage p.0 p.1).0 (all t.0 lt)) all
all_step w c (Lift t) x h all =
    let at = exists_by (nat_lt t.0 (length c.tasks)) (option_map (lifted w c t.0 (part_of c t.0)) (in_hand Lifting (part_of c t.0).stage)) x h in
    let lt : t.0 < length c.tasks = ltb-true t.0 (length c.tasks) at.0 in
    let p = got Hand (lifted w c t.0 (part_of c t.0)) (in_hand Lifting (part_of c t.0).stage) x at.1 in
    let tasks = ap (λ (y : Stepped). y.parts.tasks) p.2 ∙ ap (λ (ts : List TaskPart). set ts t.0 (with_due (part_of c t.0) p.0 Nothing)) (lifted_tasks (same_cell (word_at c.cells p.0.place.0) p.0.cell) c p.0.place.0 (original_under w p.0.place.0 p.0.cell)) in
    all_but w c x.parts t.0 (with_due (part_of c t.0) p.0 Nothing) tasks lt (goes_held w t.0 (part_of c t.0) p.0 _ (in_hand-stage Lifting (part_of c t.0).stage p.0 p.1).0 (all t.0 lt)) all
all_step w c (Do t) x h all =
    let at = exists_by (nat_lt t.0 (length c.tasks)) (option_map (done_by c t.0) (task_done w t.0 (part_of c t.0) (part_of c t.0).stage)) x h in
    let lt : t.0 < length c.tasks = ltb-true t.0 (length c.tasks) at.0 in
    let v = got TaskPart (done_by c t.0) (task_done w t.0 (part_of c t.0) (part_of c t.0).stage) x at.1 in
    all_but w c x.parts t.0 v.0 (ap (λ (y : Stepped). y.parts.tasks) v.2) lt (goes_done w t.0 (part_of c t.0) v.0 (part_of c t.0).stage refl v.1 (all t.0 lt)) all
all_step w c (Plant s p) x h all = elim (plant_cases w c s.0 p.0 x h) [
  | inl whole ↦ subst (λ (y : Stepped). AllGo w y.parts) (sym whole.made) all
  | inr by ↦ all_changed w c by.task by.change x by.there by.made all
]
all_step w c (Close s p) x h all = let by : Changed w c true s.0 p.0 x = close_by w c s.0 p.0 x h in all_changed w c by.task by.change x by.there by.made all

pub all_first : (w : World) → AllGo w (first_parts w)
all_first w t l =
    let lt : t < length w.job.tasks = subst (λ (n : ℕ). t < n) (length-map w.job.tasks first_part) l in
    subst (λ (u : TaskPart). GoesAt w t u) (sym (get_or-map first_part w.job.tasks t no_task (first_part no_task) lt)) (goes_first w t)

pub got_core : (w : World) (d : CoreState) (e : Event) (o : Option Stepped) (y : CoreStepped) → option_map (core_after w d e) o ≡ Some y → (x : Stepped) × (o ≡ Some x) × (x.parts ≡ y.core.parts)
got_core w d e None y h = let n : None ≡ Some y = h in absurd cc
got_core w d e (Some x) y h = (x, refl, ap (λ (z : CoreStepped). z.core.parts) (same_Some (core_after w d e x) y h))

all_from : (w : World) (d c : CoreState) (events : List Event) → AllGo w d.parts → core_from w d events ≡ Some c → AllGo w c.parts
all_from w d c [] all h = subst (λ (x : CoreState). AllGo w x.parts) (same_Some d c h) all
all_from w d c (e ∷ events) all h =
    let at = through (λ b. core_from w b events) (core_step w d e) c h in
    let made = got_core w d e (parts_step w d.parts e) at.0 at.1 in
    all_from w at.0.core c events (subst (λ (p : Parts). AllGo w p) made.2 (all_step w d.parts e made.0 made.1 all)) at.2

-- after every list of events
pub run_alone : (w : World) (c : CoreState) (events : List Event) → core_run w events ≡ Some c → (t : ℕ) → t < length c.parts.tasks → IsAlone w t (part_of c.parts t)
run_alone w c events h t lt = goes_alone w t (part_of c.parts t) (all_from w (core_start w) c events (all_first w) h t lt)
