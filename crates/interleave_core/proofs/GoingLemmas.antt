-- A task's events have an end: each leaves less.
use Rattle.std.specs.Option.{option_and_then, option_map_or}
use Rattle.cov_base.specs.Meaning.{State, is_full, with_fact}
use Rattle.std.proofs.Common.{◌≡◌, inl, inr, not, ◌&&◌, is_none, eqb-true, ℕ, zero, suc, ◌+◌, ◌-◌, ◌*◌, ◌<◌, ◌≤◌, Bool, true, false, nat_lt, if◌then◌else◌, Option, Some, None, option_map, [], ◌∷◌, length, refl, sym, ap, ◌∙◌, subst, arith, set}
use Rattle.std.proofs.Math.Nat.{mul-le-mul_left}
use Rattle.std.proofs.lemmas.Grind.{get_or-set_at}
use Rattle.std.proofs.lemmas.Bool.{ltb-true, leb-false}
use Rattle.cov_base.specs.declared.numbers.TaskNo.{TaskNo}
use Rattle.module_area.specs.Meaning.{tag_session, kind_at, word_at, index_of}
use Rattle.module_area.specs.Rule.{IsPlan}
use Rattle.s370_state.specs.declared.endings.Ending.TheVariants.{Returned, Spent}
use Rattle.s370_state.specs.declared.endings.Next.{Next}
use Rattle.s370_state.specs.declared.endings.Next.TheVariants.{On, Ended as NextEnded}
use Rattle.s370_exec.specs.Meaning.{has_returned}
use Rattle.s370_exec.proofs.Laws.{solo_step-done}
use Rattle.session_book.specs.Meaning.{no_task}
use Rattle.interleave_core.specs.Meaning.{World, TaskPart, Parts, part_of, first_part, plan_in, memory_in, budget_in, place_at, change_due, task_goes_on, Stepped, parts_step, run_on, of_existing, task_replaced, with_stage, with_due, with_cell, place_due, is_spent, is_awaiting, due_after_fetch, hand_at, cell_fetched, fact_marked, lifted, in_hand, same_due, same_cell, original_under, step_of, subject_place, executed, stage_after, instruction_executed, awaits_or, ready_done, task_done, done_by, set_of, fact_in, next_of, stage_event, PlaceChange, change_of, next_place, most_events}
use Rattle.interleave_core.specs.Going.{after, go_events}
use Rattle.interleave_core.specs.CoreState.{is_by, is_task}
use Rattle.interleave_core.specs.declared.events.Event.{Event}
use Rattle.interleave_core.specs.declared.events.Event.TheVariants as event
use Rattle.interleave_core.specs.declared.stage.Due.{Due}
use Rattle.interleave_core.specs.declared.stage.Due.TheVariants.{Marking, Lifting, Nothing}
use Rattle.interleave_core.specs.declared.stage.Hand.{Hand}
use Rattle.interleave_core.specs.declared.stage.Stage.{Stage}
use Rattle.interleave_core.specs.declared.stage.Stage.TheVariants.{Ready, Awaiting, Holding, Ended}
use Rattle.interleave_core.proofs.Alone.{due_in}
use Rattle.interleave_core.proofs.Changes.{goes_on, Changed, plant_cases, close_by}
use Rattle.interleave_core.proofs.Nexts.{next_by}
use Rattle.interleave_core.proofs.Runs.{in_hand-stage, same_due-true, exists_by, got}
use Rattle.interleave_core.proofs.Turns.{due_below}

abbrev due_left : Due → ℕ
due_left Marking = 3
due_left Lifting = 2
due_left Nothing = 1

abbrev left_each : World → ℕ
left_each w = 8 + length w.places

-- the instructions that are left, and the places that are left to an SVC in hand
abbrev left_later : World → ℕ → TaskPart → ℕ
left_later w t u = left_each w * (budget_in w t - u.state.done) + (length w.places - u.changed)

-- more than the events that are left to a task
abbrev left_of : World → ℕ → TaskPart → Stage → ℕ
left_of w t u Ready = if is_spent w t u.state then 1 else left_later w t u + 9
left_of w t u Awaiting = left_later w t u + 5
left_of w t u (Holding h) = left_later w t u + due_left h.due + (if h.subject then 1 else 5)
left_of w t u (Ended e) = 0

abbrev pub left : World → Parts → ℕ → ℕ
left w c t = left_of w t (part_of c t) (part_of c t).stage

-- what is left of a task that was put in the place of task t
put_left : (w : World) (c : Parts) (t : ℕ) (u : TaskPart) → t < length c.tasks → left w (task_replaced c t u) t ≡ left_of w t u u.stage
put_left w c t u lt = ap (λ (v : TaskPart). left_of w t v v.stage) (get_or-set_at c.tasks t t u (first_part no_task) refl lt)

due_few : (d : Due) → due_left d ≤ 3
due_few Marking = omega arith
due_few Lifting = omega arith
due_few Nothing = omega arith

due_some : (d : Due) → 1 ≤ due_left d
due_some Marking = omega arith
due_some Lifting = omega arith
due_some Nothing = omega arith

fetch_less : (w : World) (c : Parts) (t p : ℕ) (u : TaskPart) (s : Stage) → place_due w t u s ≡ Some p → left_of w t u (Holding (hand_at w c (is_awaiting s) p)) < left_of w t u s
fetch_less w c t p u Ready e =
    let due = due_in (has_returned u.state) (is_spent w t u.state) (place_at w u.state.machine.cpu.ia) p e in
    let few : due_left (due_after_fetch w false p (word_at c.cells p)) ≤ 3 = due_few _ in
    rw due.1 (omega (arith, few))
fetch_less w c t p u Awaiting e = let few : due_left (due_after_fetch w true p (word_at c.cells p)) ≤ 3 = due_few _ in omega (arith, few)
fetch_less w c t p u (Holding h) e = absurd cc
fetch_less w c t p u (Ended x) e = absurd cc

due_less : (w : World) (t : ℕ) (u : TaskPart) (h : Hand) (d : Due) → due_left d < due_left h.due → left_of w t u (Holding (record h { due = d })) < left_of w t u (Holding h)
due_less w t u h d less = omega (arith, less)

-- what an instruction leaves that is executed whole
abbrev later : World → ℕ → TaskPart → ℕ
later w t u = left_each w * (budget_in w t - u.state.done)

one_more : (a m n : ℕ) → n ≡ m + 1 → a * n ≡ a * m + a
one_more a m n e = ap (λ (k : ℕ). a * k) e ∙ omega arith

-- no more than one leaves that wasn't begun, and less than one that was
step_left : (w : World) (t : ℕ) (u v : TaskPart) (n : Next) → v.state ≡ (step_of w t u).state → left_of w t v (stage_after n) ≤ later w t u + 1
step_left w t u v (NextEnded e) same = omega arith
step_left w t u v On same = go_on_by (is_spent w t v.state) refl
  where
    go_on_by : (b : Bool) → is_spent w t v.state ≡ b → (if b then 1 else later w t v + (length w.places - v.changed) + 9) ≤ later w t u + 1
    go_on_by true e = omega arith
    go_on_by false e =
        let more : v.state.done ≡ u.state.done + 1 = ap (λ (s : State). s.done) same ∙ solo_step-done (memory_in w t) u.state in
        let left : v.state.done < budget_in w t = leb-false (budget_in w t) v.state.done e in
        let one : budget_in w t - u.state.done ≡ (budget_in w t - v.state.done) + 1 = omega (arith, more, left) in
        let all : later w t u ≡ later w t v + left_each w = one_more (left_each w) (budget_in w t - v.state.done) (budget_in w t - u.state.done) one in
        omega (arith, all)

executed_left : (w : World) (t : ℕ) (u : TaskPart) → left_of w t (executed w t u) (executed w t u).stage ≤ later w t u + 1
executed_left w t u = step_left w t u (executed w t u) (step_of w t u).next refl

awaiting_left : (w : World) (t : ℕ) (u whole : TaskPart) (o : Option ℕ) → left_of w t whole whole.stage ≤ later w t u + 1 → left_of w t (awaits_or u whole o) (awaits_or u whole o).stage ≤ left_later w t u + 5
awaiting_left w t u whole None h = omega (arith, h)
awaiting_left w t u whole (Some p) h = omega arith

instruction_left : (w : World) (t : ℕ) (u : TaskPart) → left_of w t (instruction_executed w t u) (instruction_executed w t u).stage ≤ left_later w t u + 5
instruction_left w t u = awaiting_left w t u (executed w t u) (subject_place w (step_of w t u).visits) (executed_left w t u)

ready_less : (w : World) (t : ℕ) (u v : TaskPart) → ready_done w t u ≡ Some v → left_of w t v v.stage < left_of w t u Ready
ready_less w t u v e = by_return (has_returned u.state) refl
  where
    some_left : (b : Bool) → 0 < (if b then 1 else left_later w t u + 9)
    some_left true = omega arith
    some_left false = omega arith

    by_place : (o : Option ℕ) → is_spent w t u.state ≡ false → (if is_none o then Some (instruction_executed w t u) else None) ≡ Some v → left_of w t v v.stage < left_of w t u Ready
    by_place None f q =
        let same : instruction_executed w t u ≡ v = cc in
        let less : left_of w t v v.stage ≤ left_later w t u + 5 = subst (λ (x : TaskPart). left_of w t x x.stage ≤ left_later w t u + 5) same (instruction_left w t u) in
        rw f (omega (arith, less))
    by_place (Some p) f q = absurd cc

    by_budget : (b : Bool) → is_spent w t u.state ≡ b → (if b then Some (with_stage u (Ended Spent)) else (if is_none (place_at w u.state.machine.cpu.ia) then Some (instruction_executed w t u) else None)) ≡ Some v → left_of w t v v.stage < left_of w t u Ready
    by_budget true f q = let same : with_stage u (Ended Spent) ≡ v = cc in rw (f, ← same) (omega arith)
    by_budget false f q = by_place (place_at w u.state.machine.cpu.ia) f q

    by_return : (b : Bool) → has_returned u.state ≡ b → left_of w t v v.stage < left_of w t u Ready
    by_return true f = let q : Some (with_stage u (Ended Returned)) ≡ Some v = rw f at e in let same : with_stage u (Ended Returned) ≡ v = cc in rw (← same) (some_left (is_spent w t u.state))
    by_return false f = by_budget (is_spent w t u.state) refl (rw f at e)

going_less : (w : World) (t : ℕ) (u v : TaskPart) (s : Stage) → task_goes_on w t u s ≡ Some v → left_of w t v v.stage < left_of w t u s
going_less w t u v Ready e = ready_less w t u v e
going_less w t u v Awaiting e = absurd cc
going_less w t u v (Ended x) e = absurd cc
going_less w t u v (Holding h) e = by_due h.due e
  where
    by_subject : (b : Bool) → (if b then executed w t u else instruction_executed w t u) ≡ v → left_of w t v v.stage < left_later w t u + due_left Nothing + (if b then 1 else 5)
    by_subject true q = let less = executed_left w t u in rw (← q) (omega (arith, less))
    by_subject false q = let less = instruction_left w t u in rw (← q) (omega (arith, less))

    some_due : (d : Due) (b : Bool) (n : ℕ) → n < left_later w t u + due_left Nothing + (if b then 1 else 5) → n < left_later w t u + due_left d + (if b then 1 else 5)
    some_due d b n less = let some : 1 ≤ due_left d = due_some d in omega (arith, less, some)

    by_due : (d : Due) → (if same_due d Nothing then Some (if h.subject then executed w t u else instruction_executed w t u) else None) ≡ Some v → left_of w t v v.stage < left_of w t u (Holding h)
    by_due Marking q = absurd cc
    by_due Lifting q = absurd cc
    by_due Nothing q = let same : (if h.subject then executed w t u else instruction_executed w t u) ≡ v = cc in some_due h.due h.subject _ (by_subject h.subject same)

done_less : (w : World) (t : ℕ) (u v : TaskPart) (s : Stage) → task_done w t u s ≡ Some v → left_of w t v v.stage < left_of w t u s
done_less w t u v s e = going_less w t u v s (goes_on w t u v s e)

-- a place of a session
place_less : (w : World) (t : ℕ) (u : TaskPart) (s : Stage) (x : PlaceChange) → IsPlan (plan_in w) → change_due w t u s ≡ Some x → left_of w t (record u { changed = u.changed + 1 }) s < left_of w t u s
place_less w t u s x plan e = by s e (due_below w t u s x plan e)
  where
    by : (g : Stage) → change_due w t u g ≡ Some x → u.changed < length w.places → left_of w t (record u { changed = u.changed + 1 }) g < left_of w t u g
    by Ready q few = ready (has_returned u.state) (is_spent w t u.state) refl q
      where
        ready : (returned spent : Bool) → is_spent w t u.state ≡ spent → (if not returned && (not spent && (is_none (place_at w u.state.machine.cpu.ia) && is_none (subject_place w (step_of w t u).visits))) then option_and_then (next_place u.changed) (change_of w t u) else None) ≡ Some x →
            left_of w t (record u { changed = u.changed + 1 }) Ready < left_of w t u Ready
        ready true spent f k = absurd cc
        ready false true f k = absurd cc
        ready false false f k = rw f (omega (arith, few))
    by Awaiting q few = absurd cc
    by (Ended y) q few = absurd cc
    by (Holding h) q few = omega (arith, few)

mark_due_less : (b : Bool) → due_left (if b then Lifting else Nothing) < due_left Marking
mark_due_less true = omega arith
mark_due_less false = omega arith

exists : (c : Parts) (t : ℕ) (b : Bool) → nat_lt t (length c.tasks) ≡ b → b ≡ true → t < length c.tasks
exists c t b e q = ltb-true t (length c.tasks) (e ∙ q)

fetched_less : (w : World) (c : Parts) (t : ℕ) (x : Stepped) → of_existing c t (λ (u : TaskPart). option_map (cell_fetched w c t u) (place_due w t u u.stage)) ≡ Some x → left w x.parts t < left w c t
fetched_less w c t x e =
    let u = part_of c t in
    let here = exists_by (nat_lt t (length c.tasks)) (option_map (cell_fetched w c t u) (place_due w t u u.stage)) x e in
    let m = got _ (cell_fetched w c t u) (place_due w t u u.stage) x here.1 in
    let v = with_stage u (Holding (hand_at w c (is_awaiting u.stage) m.0)) in
    let kept : left w (task_replaced c t v) t ≡ left_of w t v v.stage = put_left w c t v (exists c t _ refl here.0) in
    rw m.2 (rw kept (fetch_less w c t m.0 u u.stage m.1))

holding_left : (w : World) (t : ℕ) (u : TaskPart) (h : Hand) → u.stage ≡ Holding h → left_of w t u u.stage ≡ left_of w t u (Holding h)
holding_left w t u h e = ap (left_of w t u) e

marked_less : (w : World) (c : Parts) (t : ℕ) (x : Stepped) → of_existing c t (λ (u : TaskPart). option_map (fact_marked w c t u) (in_hand Marking u.stage)) ≡ Some x → left w x.parts t < left w c t
marked_less w c t x e =
    let u = part_of c t in
    let here = exists_by (nat_lt t (length c.tasks)) (option_map (fact_marked w c t u) (in_hand Marking u.stage)) x e in
    let m = got _ (fact_marked w c t u) (in_hand Marking u.stage) x here.1 in
    let h = m.0 in
    let held = in_hand-stage Marking u.stage h m.1 in
    let due : h.due ≡ Marking = same_due-true h.due Marking held.1 in
    let full = is_full (kind_at (plan_in w) h.place.0) (with_fact (set_of w c (tag_session h.cell.tag) h.place.0) (fact_in w t u h)) in
    let d = if full then Lifting else Nothing in
    let v = with_due u h d in
    let facts = record c { sets = set c.sets (index_of (length w.places) (tag_session h.cell.tag) h.place.0) (with_fact (set_of w c (tag_session h.cell.tag) h.place.0) (fact_in w t u h)) } in
    let kept : left w (task_replaced facts t v) t ≡ left_of w t v v.stage = put_left w facts t v (exists c t _ refl here.0) in
    let less : due_left d < due_left h.due = rw due (mark_due_less full) in
    rw m.2 (rw (kept, holding_left w t u h held.0) (due_less w t u h d less))

lifted_less : (w : World) (c : Parts) (t : ℕ) (x : Stepped) → of_existing c t (λ (u : TaskPart). option_map (lifted w c t u) (in_hand Lifting u.stage)) ≡ Some x → left w x.parts t < left w c t
lifted_less w c t x e =
    let u = part_of c t in
    let here = exists_by (nat_lt t (length c.tasks)) (option_map (lifted w c t u) (in_hand Lifting u.stage)) x e in
    let m = got _ (lifted w c t u) (in_hand Lifting u.stage) x here.1 in
    let h = m.0 in
    let held = in_hand-stage Lifting u.stage h m.1 in
    let due : h.due ≡ Lifting = same_due-true h.due Lifting held.1 in
    let less : due_left Nothing < due_left h.due = rw due (omega arith) in
    rw m.2 (by_cell u h held.0 less (exists c t _ refl here.0) (same_cell (word_at c.cells h.place.0) h.cell))
  where
    by_cell : (u : TaskPart) (h : Hand) → u.stage ≡ Holding h → due_left Nothing < due_left h.due → t < length c.tasks → (b : Bool) →
        left w (task_replaced (if b then with_cell c h.place.0 (original_under w h.place.0 h.cell) else c) t (with_due u h Nothing)) t < left_of w t u u.stage
    by_cell u h held less lt true =
        rw (put_left w (with_cell c h.place.0 (original_under w h.place.0 h.cell)) t (with_due u h Nothing) lt, holding_left w t u h held) (due_less w t u h Nothing less)
    by_cell u h held less lt false = rw (put_left w c t (with_due u h Nothing) lt, holding_left w t u h held) (due_less w t u h Nothing less)

run_less : (w : World) (c : Parts) (t : ℕ) (x : Stepped) → of_existing c t (λ (u : TaskPart). option_map (done_by c t) (task_done w t u u.stage)) ≡ Some x → left w x.parts t < left w c t
run_less w c t x e =
    let u = part_of c t in
    let here = exists_by (nat_lt t (length c.tasks)) (option_map (done_by c t) (task_done w t u u.stage)) x e in
    let m = got _ (done_by c t) (task_done w t u u.stage) x here.1 in
    let kept : left w (task_replaced c t m.0) t ≡ left_of w t m.0 m.0.stage = put_left w c t m.0 (exists c t _ refl here.0) in
    rw m.2 (rw kept (done_less w t u m.0 u.stage m.1))

changed_less : (w : World) (c : Parts) (t : ℕ) (closes : Bool) (s p : ℕ) (x : Stepped) (by : Changed w c closes s p x) → by.task ≡ t → IsPlan (plan_in w) → left w x.parts t < left w c t
changed_less w c t closes s p x by same plan =
    let u : TaskPart = part_of c by.task in
    let v : TaskPart = record u { changed = u.changed + 1 } in
    let parts : part_of x.parts by.task ≡ v = ap (λ (y : Stepped). part_of y.parts by.task) by.made ∙ get_or-set_at c.tasks by.task by.task v (first_part no_task) refl by.there in
    let kept : left w x.parts by.task ≡ left_of w by.task v v.stage = ap (λ (y : TaskPart). left_of w by.task y y.stage) parts in
    let less : left_of w by.task v u.stage < left_of w by.task u u.stage = place_less w by.task u u.stage by.change plan by.due in
    subst (λ (n : ℕ). left w x.parts n < left w c n) same (subst (λ (n : ℕ). n < left w c by.task) (sym kept) less)

-- an event of the task
own_less : (w : World) (c : Parts) (t : TaskNo) (e : Event) (x : Stepped) → IsPlan (plan_in w) → is_by w e t.0 ≡ true → parts_step w c e ≡ Some x → left w x.parts t.0 < left w c t.0
own_less w c t (event.Fetch r) x plan by step = subst (λ (n : ℕ). left w x.parts n < left w c n) (eqb-true r.0 t.0 by) (fetched_less w c r.0 x step)
own_less w c t (event.Mark r) x plan by step = subst (λ (n : ℕ). left w x.parts n < left w c n) (eqb-true r.0 t.0 by) (marked_less w c r.0 x step)
own_less w c t (event.Lift r) x plan by step = subst (λ (n : ℕ). left w x.parts n < left w c n) (eqb-true r.0 t.0 by) (lifted_less w c r.0 x step)
own_less w c t (event.Do r) x plan by step = subst (λ (n : ℕ). left w x.parts n < left w c n) (eqb-true r.0 t.0 by) (run_less w c r.0 x step)
own_less w c t (event.Plant s p) x plan by step = elim (plant_cases w c s.0 p.0 x step) [
  | inl whole ↦ let none : false ≡ true = sym (ap (λ (o : Option ℕ). is_task o t.0) whole.by_none) ∙ by in absurd cc
  | inr made ↦ changed_less w c t.0 false s.0 p.0 x made (eqb-true made.task t.0 (sym (ap (λ (o : Option ℕ). is_task o t.0) made.by_task) ∙ by)) plan
]
own_less w c t (event.Close s p) x plan by step =
    let made : Changed w c true s.0 p.0 x = close_by w c s.0 p.0 x step in
    changed_less w c t.0 true s.0 p.0 x made (eqb-true made.task t.0 (sym (ap (λ (o : Option ℕ). is_task o t.0) made.by_task) ∙ by)) plan

-- the task's next event leaves less
pub next_less : (w : World) (c : Parts) (t : TaskNo) (e : Event) (x : Stepped) → IsPlan (plan_in w) → next_of w c t ≡ Some e → parts_step w c e ≡ Some x → left w x.parts t.0 < left w c t.0
next_less w c t e x plan q step = own_less w c t e x plan (next_by w c t e plan q) step

-- a task that nothing is left of has no next event
pub no_next : (w : World) (c : Parts) (t : TaskNo) → left w c t.0 ≡ 0 → next_of w c t ≡ None
no_next w c t e = by_number (nat_lt t.0 (length c.tasks))
  where
    by_stage : (s : Stage) → left_of w t.0 (part_of c t.0) s ≡ 0 → stage_event w t (part_of c t.0) s ≡ None
    by_stage Ready q = by_budget (is_spent w t.0 (part_of c t.0).state) q
      where
        by_budget : (b : Bool) → (if b then 1 else left_later w t.0 (part_of c t.0) + 9) ≡ 0 → stage_event w t (part_of c t.0) Ready ≡ None
        by_budget true r = absurd (omega (arith, r))
        by_budget false r = absurd (omega (arith, r))
    by_stage Awaiting q = absurd (omega (arith, q))
    by_stage (Holding h) q = absurd (omega (arith, q, due_some h.due))
    by_stage (Ended x) q = refl

    by_number : (b : Bool) → (if b then stage_event w t (part_of c t.0) (part_of c t.0).stage else None) ≡ None
    by_number true = by_stage (part_of c t.0).stage e
    by_number false = refl

-- no more are left than a task makes
later_most : (w : World) (t : ℕ) (u : TaskPart) → left_later w t u + 9 ≤ most_events w t
later_most w t u =
    let few : left_each w * (budget_in w t - u.state.done) ≤ left_each w * budget_in w t = mul-le-mul_left (left_each w) (omega arith) in
    let all : left_each w * (budget_in w t + 1) ≡ left_each w * budget_in w t + left_each w = one_more (left_each w) (budget_in w t) (budget_in w t + 1) refl in
    omega (arith, few, all)

pub left_most : (w : World) (c : Parts) (t : ℕ) → left w c t ≤ most_events w t
left_most w c t = by (part_of c t).stage
  where
    most : left_later w t (part_of c t) + 9 ≤ most_events w t
    most = later_most w t (part_of c t)

    by : (s : Stage) → left_of w t (part_of c t) s ≤ most_events w t
    by Ready = by_budget (is_spent w t (part_of c t).state)
      where
        by_budget : (b : Bool) → (if b then 1 else left_later w t (part_of c t) + 9) ≤ most_events w t
        by_budget true = omega (arith, most)
        by_budget false = most
    by Awaiting = omega (arith, most)
    by (Holding h) = by_subject h.subject
      where
        by_subject : (b : Bool) → left_later w t (part_of c t) + due_left h.due + (if b then 1 else 5) ≤ most_events w t
        by_subject true = omega (arith, most, due_few h.due)
        by_subject false = omega (arith, most, due_few h.due)
    by (Ended e) = omega arith

-- the task's next events, at most so many, one after the other
abbrev pub gone_by : World → ℕ → Parts → TaskNo → Option Parts
gone_by w n c t = run_on w c (go_events w n c t)

-- the task's next event, and those behind it
go_one : (w : World) (n : ℕ) (c : Parts) (t : TaskNo) (e : Event) (x : Stepped) → next_of w c t ≡ Some e → parts_step w c e ≡ Some x → gone_by w (suc n) c t ≡ gone_by w n x.parts t
go_one w n c t e x q step =
    ap (λ (o : Option Event). run_on w c (option_map_or (λ (e : Event). e ∷ go_events w n (after c (parts_step w c e)) t) o [])) q
    ∙ (ap (λ (o : Option Stepped). run_on w c (e ∷ go_events w n (after c o) t)) step
    ∙ ap (option_and_then (λ (y : Stepped). run_on w y.parts (go_events w n x.parts t))) step)

pub go_none : (w : World) (n : ℕ) (c : Parts) (t : TaskNo) → next_of w c t ≡ None → gone_by w n c t ≡ Some c
go_none w zero c t q = refl
go_none w (suc n) c t q = ap (λ (o : Option Event). run_on w c (option_map_or (λ (e : Event). e ∷ go_events w n (after c (parts_step w c e)) t) o [])) q

go_stuck : (w : World) (n : ℕ) (c : Parts) (t : TaskNo) (e : Event) → next_of w c t ≡ Some e → parts_step w c e ≡ None → gone_by w (suc n) c t ≡ None
go_stuck w n c t e q step =
    ap (λ (o : Option Event). run_on w c (option_map_or (λ (e : Event). e ∷ go_events w n (after c (parts_step w c e)) t) o [])) q
    ∙ ap (option_and_then (λ (y : Stepped). run_on w y.parts (go_events w n (after c (parts_step w c e)) t))) step

-- the number of events makes no difference once it is as many as are left
go_enough : (w : World) (n : ℕ) (c : Parts) (t : TaskNo) → IsPlan (plan_in w) → left w c t.0 ≤ n → (m : ℕ) → left w c t.0 ≤ m → gone_by w n c t ≡ gone_by w m c t
go_enough w zero c t plan h m k = let none = no_next w c t (omega (arith, h)) in sym (go_none w m c t none)
go_enough w (suc n) c t plan h zero k = let none = no_next w c t (omega (arith, k)) in go_none w (suc n) c t none
go_enough w (suc n) c t plan h (suc m) k = by_next (λ d a b. go_enough w n d t plan a m b) (next_of w c t) refl
  where
    by_step : ((d : Parts) → left w d t.0 ≤ n → left w d t.0 ≤ m → gone_by w n d t ≡ gone_by w m d t) → (e : Event) → next_of w c t ≡ Some e → (o : Option Stepped) → parts_step w c e ≡ o → gone_by w (suc n) c t ≡ gone_by w (suc m) c t
    by_step more e q None step = go_stuck w n c t e q step ∙ sym (go_stuck w m c t e q step)
    by_step more e q (Some x) step =
        let less = next_less w c t e x plan q step in
        go_one w n c t e x q step ∙ (more x.parts (omega (arith, h, less)) (omega (arith, k, less)) ∙ sym (go_one w m c t e x q step))

    by_next : ((d : Parts) → left w d t.0 ≤ n → left w d t.0 ≤ m → gone_by w n d t ≡ gone_by w m d t) → (o : Option Event) → next_of w c t ≡ o → gone_by w (suc n) c t ≡ gone_by w (suc m) c t
    by_next more None q = go_none w (suc n) c t q ∙ sym (go_none w (suc m) c t q)
    by_next more (Some e) q = by_step more e q (parts_step w c e) refl

-- with as many events as a task makes, the next one and then those behind it
pub go_next : (w : World) (c d : Parts) (t : TaskNo) (e : Event) (x : Stepped) → IsPlan (plan_in w) → next_of w c t ≡ Some e → parts_step w c e ≡ Some x → x.parts ≡ d →
    gone_by w (most_events w t.0) c t ≡ gone_by w (most_events w t.0) d t
go_next w c d t e x plan q step same =
    let n = most_events w t.0 in
    go_enough w n c t plan (left_most w c t.0) (suc n) (omega (arith, left_most w c t.0))
    ∙ (go_one w n c t e x q step ∙ ap (λ (p : Parts). gone_by w n p t) same)
