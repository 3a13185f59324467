-- What is kept of a core as one of its tasks, cells or sets changes.
use Rattle.std.proofs.Common.{◌≡◌, ◌≢◌, inl, inr, ℕ, ◌+◌, ◌-◌, ◌*◌, ◌/◌, ◌<◌, ◌≤◌, Bool, true, false, ◌&&◌, nat_eq, nat_lt, if◌then◌else◌, Option, Some, None, option_map, List, length, get_or, set, refl, sym, ◌∙◌, ap, subst, arith, is_none}
use Rattle.std.proofs.lemmas.Bool.Decides.{nat_tests}
use Rattle.std.proofs.lemmas.Grind.{get_or-set_at}
use Rattle.std.proofs.lemmas.List.{get_or-map, get_or-set_other, length-set, length-map, map-set, get_or_default}
use Rattle.std.proofs.lemmas.Option.{same_Some}
use Rattle.std.proofs.lemmas.Bool.{lt-ltb, cases_eq}
use Rattle.cov_base.specs.Meaning.{breakpoint, FactSet, no_facts, is_within, with_fact, is_full, fact_of}
use Rattle.cov_base.specs.declared.numbers.PlaceNo.{PlaceNo as Number}
use Rattle.s370_exec.specs.Meaning.{has_returned, visit_of}
use Rattle.s370_state.specs.declared.endings.Ending.TheVariants.{Returned, Spent}
use Rattle.s370_state.specs.declared.endings.Next.{Next}
use Rattle.s370_state.specs.declared.endings.Next.TheVariants.{On, Ended as NextEnded}
use Rattle.cov_base.specs.declared.facts.Kind.{Kind}
use Rattle.cov_base.specs.declared.facts.Kind.TheVariants.{Straight, Conditional}
use Rattle.module_area.proofs.Laws.{same_index, index_below, over_small}
use Rattle.module_area.specs.Meaning.{tag_session, word_at, no_cell, set_in, index_of, PlanView, kind_at, original_at, is_over}
use Rattle.module_area.specs.Rule.{window_tag, IsForm, planted, lifted as lifted_cell, IsPlan}
use Rattle.module_area.specs.declared.cells.Cell.{Cell}
use Rattle.session_book.specs.Meaning.{no_task}
use Rattle.interleave_core.specs.Meaning.{World, TaskPart, Parts, plan_in, place_at, first_part, Stepped, of_existing, task_replaced, with_stage, with_due, with_cell, place_due, is_spent, is_awaiting, subject_place, step_of, due_after_fetch, in_hand, same_due, cell_fetched, fact_marked, lifted, done_by, task_done, task_goes_on, parts_step, set_of, fact_in, original_under, same_cell, hand_at, executed, stage_after, awaits_or, instruction_executed}
use Rattle.interleave_core.specs.Views.{CoreView, RunningView, IsRunning, IsStage, IsHand, AreTied, IsCore, parts_of}
use Rattle.interleave_core.proofs.Changes.{goes_on}
use Rattle.interleave_core.proofs.Runs.{in_hand-stage, session_of_window}
use Rattle.interleave_core.proofs.Tied.{tied_step}
use Rattle.interleave_core.specs.declared.events.Event.{Event}
use Rattle.interleave_core.specs.declared.events.Shown.{Shown}
use Rattle.interleave_core.specs.declared.events.Shown.TheVariants.{Fetched, Marked, Lifted, Done}
use Rattle.interleave_core.specs.declared.stage.Due.{Due}
use Rattle.interleave_core.specs.declared.stage.Due.TheVariants.{Marking, Lifting, Nothing}
use Rattle.interleave_core.specs.declared.stage.Hand.{Hand}
use Rattle.interleave_core.specs.declared.stage.Stage.{Stage}
use Rattle.interleave_core.specs.declared.stage.Stage.TheVariants.{Ready, Awaiting, Holding, Ended}

-- the fields of a core, as it changes

-- a core with these cells, sets and tasks in place of its own
pub moved_core : (w : World) (cells new_cells : List Cell) (sets new_sets : List FactSet) (plan : PlanView) (tasks new_tasks : List RunningView) → IsCore w cells sets plan tasks →
    length new_cells ≡ length cells → length new_sets ≡ length sets → length new_tasks ≡ length tasks →
    ((p : ℕ) → p < length w.places → IsForm (plan_in w) p (word_at new_cells p)) →
    ((s p : ℕ) → 0 < s → p < length w.places → is_within (kind_at (plan_in w) p) (set_in (length w.places) new_sets s p) ≡ true) →
    ((t : ℕ) (r : RunningView) → t < length new_tasks → IsRunning w t (get_or new_tasks t r)) →
    ((t : ℕ) (r : RunningView) → t < length new_tasks → IsStage w t (get_or new_tasks t r).part (get_or new_tasks t r).part.stage) →
    AreTied w (record { cells = new_cells; sets = new_sets; tasks = parts_of new_tasks }) → IsCore w new_cells new_sets plan new_tasks
moved_core w cells new_cells sets new_sets plan tasks new_tasks is cell_count set_count count words within running stages tied = record {
  job = is.job;
  phase = is.phase;
  same_plan = is.same_plan;
  is_plan = is.is_plan;
  places = is.places;
  inside = is.inside;
  count = count ∙ is.count;
  cell_count = cell_count ∙ is.cell_count;
  set_count = set_count ∙ is.set_count;
  words = words;
  within = within;
  running = running;
  stages = stages;
  tied = tied;
}

pub running_with : (w : World) (cells : List Cell) (sets : List FactSet) (plan : PlanView) (tasks : List RunningView) (t : ℕ) (r : RunningView) → IsCore w cells sets plan tasks → t < length tasks → IsRunning w t r →
    (u : ℕ) (d : RunningView) → u < length (set tasks t r) → IsRunning w u (get_or (set tasks t r) u d)
running_with w cells sets plan tasks t r is lt runs u d l = elim (cases_eq u t) [
  | inl same ↦ subst (λ (x : RunningView). IsRunning w u x) (sym (get_or-set_at tasks t u r d same lt)) (subst (λ (n : ℕ). IsRunning w n r) (sym same) runs)
  | inr other ↦ subst (λ (x : RunningView). IsRunning w u x) (sym (get_or-set_other tasks t u r d other)) (is.running u d (subst (λ n. u < n) (length-set tasks t r) l))
]

pub stages_with : (w : World) (cells : List Cell) (sets : List FactSet) (plan : PlanView) (tasks : List RunningView) (t : ℕ) (r : RunningView) → IsCore w cells sets plan tasks → t < length tasks → IsStage w t r.part r.part.stage →
    (u : ℕ) (d : RunningView) → u < length (set tasks t r) → IsStage w u (get_or (set tasks t r) u d).part (get_or (set tasks t r) u d).part.stage
stages_with w cells sets plan tasks t r is lt stage u d l = elim (cases_eq u t) [
  | inl same ↦ subst (λ (x : RunningView). IsStage w u x.part x.part.stage) (sym (get_or-set_at tasks t u r d same lt)) (subst (λ (n : ℕ). IsStage w n r.part r.part.stage) (sym same) stage)
  | inr other ↦ subst (λ (x : RunningView). IsStage w u x.part x.part.stage) (sym (get_or-set_other tasks t u r d other)) (is.stages u d (subst (λ n. u < n) (length-set tasks t r) l))
]

pub words_with : (w : World) (cells : List Cell) (sets : List FactSet) (plan : PlanView) (tasks : List RunningView) (p : ℕ) (x : Cell) → IsCore w cells sets plan tasks → p < length cells → IsForm (plan_in w) p x →
    (q : ℕ) → q < length w.places → IsForm (plan_in w) q (word_at (set cells p x) q)
words_with w cells sets plan tasks p x is lt form q l = elim (cases_eq q p) [
  | inl same ↦ subst (λ (c : Cell). IsForm (plan_in w) q c) (sym (get_or-set_at cells p q x no_cell same lt)) (subst (λ (n : ℕ). IsForm (plan_in w) n x) (sym same) form)
  | inr other ↦ subst (λ (c : Cell). IsForm (plan_in w) q c) (sym (get_or-set_other cells p q x no_cell other)) (is.words q l)
]

set_within : (w : World) (sets : List FactSet) (s p q t : ℕ) (x : FactSet) → 0 < s → 0 < t → p < length w.places → q < length w.places →
    index_of (length w.places) s p < length sets → is_within (kind_at (plan_in w) p) x ≡ true →
    is_within (kind_at (plan_in w) q) (set_in (length w.places) sets t q) ≡ true →
    is_within (kind_at (plan_in w) q) (set_in (length w.places) (set sets (index_of (length w.places) s p) x) t q) ≡ true
set_within w sets s p q t x s0 t0 p_in q_in fits own other = elim (cases_eq (index_of (length w.places) t q) (index_of (length w.places) s p)) [
  | inl same ↦
      let place : q ≡ p = (same_index (length w.places) t q s p t0 s0 q_in p_in same).1 in
      subst (λ (f : FactSet). is_within (kind_at (plan_in w) q) f ≡ true) (sym (get_or-set_at sets (index_of (length w.places) s p) (index_of (length w.places) t q) x no_facts same fits))
      (subst (λ (n : ℕ). is_within (kind_at (plan_in w) n) x ≡ true) (sym place) own)
  | inr apart ↦ subst (λ (f : FactSet). is_within (kind_at (plan_in w) q) f ≡ true) (sym (get_or-set_other sets (index_of (length w.places) s p) (index_of (length w.places) t q) x no_facts apart)) other
]

-- what was read of a task is what it is
pub read_running : (w : World) (cells : List Cell) (sets : List FactSet) (plan : PlanView) (tasks : List RunningView) (t : ℕ) (r : RunningView) →
    IsCore w cells sets plan tasks → t < length tasks → r ≡ get_or tasks t r → IsRunning w t r
read_running w cells sets plan tasks t r is lt read = subst (λ (x : RunningView). IsRunning w t x) (sym read) (is.running t r lt)

pub read_stage : (w : World) (cells : List Cell) (sets : List FactSet) (plan : PlanView) (tasks : List RunningView) (t : ℕ) (r : RunningView) →
    IsCore w cells sets plan tasks → t < length tasks → r ≡ get_or tasks t r → IsStage w t r.part r.part.stage
read_stage w cells sets plan tasks t r is lt read = subst (λ (x : RunningView). IsStage w t x.part x.part.stage) (sym read) (is.stages t r lt)

pub same_read : (tasks : List RunningView) (t : ℕ) (r m : RunningView) → t < length tasks → r ≡ get_or tasks t r → m ≡ get_or tasks t m → r ≡ m
same_read tasks t r m lt a b = a ∙ (get_or_default tasks t r m lt ∙ sym b)

with_running : (w : World) (t : ℕ) (m r : RunningView) (s : Stage) → r ≡ record m { part = with_stage m.part s } → IsRunning w t m → IsRunning w t r
with_running w t m r s e is = subst (λ (x : RunningView). IsRunning w t x) (sym e) (record { memory = is.memory; bytes = is.bytes; budget = is.budget; seen = is.seen })

-- a task with another stage, and what it held or left changed
pub stage_core : (w : World) (cells new_cells : List Cell) (sets new_sets : List FactSet) (plan : PlanView) (tasks : List RunningView) (t : ℕ) (m r : RunningView) (h : Hand) →
    IsCore w cells sets plan tasks → t < length tasks → m ≡ get_or tasks t m → r ≡ record m { part = with_stage m.part (Holding h) } → is_spent w t m.part.state ≡ false → IsHand w h →
    length new_cells ≡ length cells → length new_sets ≡ length sets → ((p : ℕ) → p < length w.places → IsForm (plan_in w) p (word_at new_cells p)) →
    ((s p : ℕ) → 0 < s → p < length w.places → is_within (kind_at (plan_in w) p) (set_in (length w.places) new_sets s p) ≡ true) →
    AreTied w (record { cells = new_cells; sets = new_sets; tasks = parts_of (set tasks t r) }) → IsCore w new_cells new_sets plan (set tasks t r)
stage_core w cells new_cells sets new_sets plan tasks t m r h is lt read e unspent hand cell_count set_count words within tied =
    let runs : IsRunning w t r = with_running w t m r (Holding h) e (read_running w cells sets plan tasks t m is lt read) in
    let stage : IsStage w t r.part r.part.stage = subst (λ (x : RunningView). IsStage w t x.part x.part.stage) (sym e) (unspent, hand) in
    moved_core w cells new_cells sets new_sets plan tasks (set tasks t r) is cell_count set_count (length-set tasks t r) words within (running_with w cells sets plan tasks t r is lt runs) (stages_with w cells sets plan tasks t r is lt stage) tied

-- a task with a cell in hand
pub held_core : (w : World) (cells : List Cell) (sets : List FactSet) (plan : PlanView) (tasks : List RunningView) (t : ℕ) (m r : RunningView) (h : Hand) →
    IsCore w cells sets plan tasks → t < length tasks → m ≡ get_or tasks t m → r ≡ record m { part = with_stage m.part (Holding h) } →
    is_spent w t m.part.state ≡ false → IsHand w h → AreTied w (record { cells = cells; sets = sets; tasks = parts_of (set tasks t r) }) → IsCore w cells sets plan (set tasks t r)
held_core w cells sets plan tasks t m r h is lt read e unspent hand tied = stage_core w cells cells sets sets plan tasks t m r h is lt read e unspent hand refl refl is.words is.within tied

-- a possible event keeps the tasks tied to the cells
pub tied_by : (w : World) (cells new_cells : List Cell) (sets new_sets : List FactSet) (plan : PlanView) (tasks new_tasks : List RunningView) (e : Event) (shown : Shown) → IsCore w cells sets plan tasks →
    parts_step w (record { cells = cells; sets = sets; tasks = parts_of tasks }) e ≡ Some (record { parts = record { cells = new_cells; sets = new_sets; tasks = parts_of new_tasks }; shown = shown }) →
    AreTied w (record { cells = new_cells; sets = new_sets; tasks = parts_of new_tasks })
tied_by w cells new_cells sets new_sets plan tasks new_tasks e shown is step =
    tied_step w (record { cells = cells; sets = sets; tasks = parts_of tasks }) e (record { parts = record { cells = new_cells; sets = new_sets; tasks = parts_of new_tasks }; shown = shown }) is.is_plan is.cell_count step is.tied

-- the parts with another task
pub parts_with : (cells : List Cell) (sets : List FactSet) (tasks : List RunningView) (t : ℕ) (r : RunningView) (u : TaskPart) → r.part ≡ u →
    task_replaced (record { cells = cells; sets = sets; tasks = parts_of tasks }) t u ≡ record { cells = cells; sets = sets; tasks = parts_of (set tasks t r) }
parts_with cells sets tasks t r u e =
    ap (λ (ts : List TaskPart). record { cells = cells; sets = sets; tasks = ts })
    (ap (λ (v : TaskPart). set (parts_of tasks) t v) (sym e) ∙ sym (map-set (λ (x : RunningView). x.part) tasks t r))

-- an event that is possible of a task that exists
pub of_task-read : (cells : List Cell) (sets : List FactSet) (tasks : List RunningView) (t : ℕ) (m : RunningView) (step : TaskPart → Option Stepped) (x : Option Stepped) →
    t < length tasks → m ≡ get_or tasks t m → step m.part ≡ x → of_existing (record { cells = cells; sets = sets; tasks = parts_of tasks }) t step ≡ x
of_task-read cells sets tasks t m step x lt read e =
    let there : nat_lt t (length (parts_of tasks)) ≡ true = lt-ltb t (length (parts_of tasks)) (subst (λ n. t < n) (sym (length-map tasks (λ (r : RunningView). r.part))) lt) in
    let part : get_or (parts_of tasks) t (first_part no_task) ≡ m.part = get_or-map (λ (r : RunningView). r.part) tasks t m (first_part no_task) lt ∙ ap (λ (r : RunningView). r.part) (sym read) in
    rw (there, part) e

-- none is possible of a task that doesn't exist, and none where the task has none
pub none_missing : (v : CoreView) (w : World) (cells : List Cell) (sets : List FactSet) (tasks : List RunningView) (t : ℕ) (step : World → Parts → TaskPart → Option Stepped) →
    ◌≡◌ {A = CoreView} (record { world = w; parts = record { cells = cells; sets = sets; tasks = parts_of tasks } }) v → length tasks ≤ t → of_existing v.parts t (step v.world v.parts) ≡ None
none_missing v w cells sets tasks t step view most =
    let count : length (parts_of tasks) ≡ length tasks = length-map tasks (λ (r : RunningView). r.part) in
    let missing : nat_lt t (length (parts_of tasks)) ≡ false = grind (arith, nat_tests) in
    subst (λ (x : CoreView). of_existing x.parts t (step x.world x.parts) ≡ None) view (rw missing refl)

pub none_due : (v : CoreView) (w : World) (cells : List Cell) (sets : List FactSet) (tasks : List RunningView) (t : ℕ) (m : RunningView) (step : World → Parts → TaskPart → Option Stepped) →
    ◌≡◌ {A = CoreView} (record { world = w; parts = record { cells = cells; sets = sets; tasks = parts_of tasks } }) v → t < length tasks → m ≡ get_or tasks t m →
    step w (record { cells = cells; sets = sets; tasks = parts_of tasks }) m.part ≡ None → of_existing v.parts t (step v.world v.parts) ≡ None
none_due v w cells sets tasks t m step view lt read e =
    subst (λ (x : CoreView). of_existing x.parts t (step x.world x.parts) ≡ None) view (of_task-read cells sets tasks t m (step w (record { cells = cells; sets = sets; tasks = parts_of tasks })) None lt read e)

pub due_unspent : (w : World) (t : ℕ) (u : TaskPart) (stage : Stage) (p : ℕ) → IsStage w t u stage → place_due w t u stage ≡ Some p → is_spent w t u.state ≡ false
due_unspent w t u Ready p is h = ready (has_returned u.state) (is_spent w t u.state) (place_at w u.state.machine.cpu.ia) h
  where
    ready : (returned spent : Bool) (at : Option ℕ) → (if returned then None else (if spent then None else at)) ≡ Some p → spent ≡ false
    ready true spent at k = let n : None ≡ Some p = k in absurd cc
    ready false true at k = let n : None ≡ Some p = k in absurd cc
    ready false false at k = refl
due_unspent w t u Awaiting p is h = is.0
due_unspent w t u (Holding g) p is h = let n : None ≡ Some p = h in absurd cc
due_unspent w t u (Ended e) p is h = let n : None ≡ Some p = h in absurd cc

is_breakpoint : (half : ℕ) (b : Bool) → (if nat_eq half breakpoint && b then Marking else Nothing) ≢ Nothing → half ≡ breakpoint
is_breakpoint half b h = by (nat_eq half breakpoint) refl h
  where
    by : (e : Bool) → nat_eq half breakpoint ≡ e → (if e && b then Marking else Nothing) ≢ Nothing → half ≡ breakpoint
    by true e k = grind (arith, nat_tests)
    by false e k = absurd (k refl)

-- a cell with the breakpoint is one of a session that is over the place
pub planted_form : (w : World) (p : ℕ) (c : Cell) → IsPlan (plan_in w) → p < length w.places → IsForm (plan_in w) p c → c.half ≡ breakpoint →
    (s : ℕ) × (0 < s) × (is_over (plan_in w) s p ≡ true) × (c ≡ planted s)
planted_form w p c is lt form half = elim form [
  | inl fresh ↦ absurd (is.no_breakpoint p lt (sym (ap (λ (x : Cell). x.half) fresh) ∙ half))
  | inr under ↦ elim under.3 [
    | inl there ↦ (under.0, under.1, under.2, there)
    | inr gone ↦ elim gone [
      | inl out ↦ absurd (is.no_breakpoint p lt (sym (ap (λ (x : Cell). x.half) out) ∙ half))
      | inr over ↦ absurd (is.no_breakpoint p lt (sym (ap (λ (x : Cell). x.half) over.0) ∙ half))
    ]
  ]
]

-- a cell that was fetched
pub fetched_hand : (w : World) (cells : List Cell) (sets : List FactSet) (plan : PlanView) (tasks : List RunningView) (subject : Bool) (p : Number) (c : Cell) (due : Due) →
    IsCore w cells sets plan tasks → p.0 < length w.places → c ≡ get_or cells p.0 c → due ≡ due_after_fetch w subject p.0 c →
    IsHand w (record { subject = subject; place = p; cell = c; due = due })
fetched_hand w cells sets plan tasks subject p c due is lt read same = record {
  place = lt;
  planted = λ h.
      let form : IsForm (plan_in w) p.0 c = subst (λ (x : Cell). IsForm (plan_in w) p.0 x) (sym (read ∙ get_or_default cells p.0 c no_cell (subst (λ n. p.0 < n) (sym is.cell_count) lt))) (is.words p.0 lt) in
      planted_form w p.0 c is.is_plan lt form (is_breakpoint c.half _ (λ k. h (same ∙ k)));
}

same_hand : (s s2 : Bool) (p : Number) (x y : Cell) (d e : Due) → s ≡ s2 → x ≡ y → d ≡ e →
    ◌≡◌ {A = Hand} (record { subject = s; place = p; cell = x; due = d }) (record { subject = s2; place = p; cell = y; due = e })
same_hand s s2 p x y d e a b c =
    ap (λ (z : Bool). record { subject = z; place = p; cell = x; due = d }) a
    ∙ (ap (λ (z : Cell). record { subject = s2; place = p; cell = z; due = d }) b ∙ ap (λ (z : Due). record { subject = s2; place = p; cell = y; due = z }) c)

stepped_is : (p q : Parts) (s : Shown) → p ≡ q → ◌≡◌ {A = Stepped} (record { parts = p; shown = s }) (record { parts = q; shown = s })
stepped_is p q s e = ap (λ (x : Parts). record { parts = x; shown = s }) e

pub read_cell : (cells : List Cell) (p : ℕ) (c : Cell) → p < length cells → c ≡ get_or cells p c → c ≡ word_at cells p
read_cell cells p c lt read = read ∙ get_or_default cells p c no_cell lt

pub fetch_possible : (w : World) (cells : List Cell) (sets : List FactSet) (tasks : List RunningView) (t : ℕ) (r m q n : RunningView) (subject : Bool) (p : Number) (c : Cell) (due : Due) →
    t < length tasks → r ≡ get_or tasks t r → m ≡ get_or tasks t m → q ≡ get_or tasks t q → place_due w t r.part r.part.stage ≡ Some p.0 → subject ≡ is_awaiting q.part.stage →
    p.0 < length cells → c ≡ get_or cells p.0 c → due ≡ due_after_fetch w subject p.0 c →
    n ≡ record m { part = with_stage m.part (Holding (record { subject = subject; place = p; cell = c; due = due })) } →
    of_existing (record { cells = cells; sets = sets; tasks = parts_of tasks }) t (λ (u : TaskPart). option_map (cell_fetched w (record { cells = cells; sets = sets; tasks = parts_of tasks }) t u) (place_due w t u u.stage))
    ≡ Some (record { parts = record { cells = cells; sets = sets; tasks = parts_of (set tasks t n) }; shown = Fetched c })
fetch_possible w cells sets tasks t r m q n subject p c due lt read_r read_m read_q at is_subject p_in read_c is_due e =
    let P : Parts = record { cells = cells; sets = sets; tasks = parts_of tasks } in
    let same_m : m ≡ r = same_read tasks t m r lt read_m read_r in
    let same_subject : subject ≡ is_awaiting r.part.stage = is_subject ∙ ap (λ (x : RunningView). is_awaiting x.part.stage) (same_read tasks t q r lt read_q read_r) in
    let same_c : c ≡ word_at cells p.0 = read_cell cells p.0 c p_in read_c in
    let same_due : due ≡ due_after_fetch w (is_awaiting r.part.stage) p.0 (word_at cells p.0) =
    is_due ∙ (ap (λ (z : Bool). due_after_fetch w z p.0 c) same_subject ∙ ap (λ (z : Cell). due_after_fetch w (is_awaiting r.part.stage) p.0 z) same_c) in
    let hand : ◌≡◌ {A = Hand} (record { subject = subject; place = p; cell = c; due = due }) (hand_at w P (is_awaiting r.part.stage) p.0) =
    same_hand subject (is_awaiting r.part.stage) p c (word_at cells p.0) due (due_after_fetch w (is_awaiting r.part.stage) p.0 (word_at cells p.0)) same_subject same_c same_due in
    let part : n.part ≡ with_stage r.part (Holding (hand_at w P (is_awaiting r.part.stage) p.0)) =
    ap (λ (x : RunningView). x.part) e ∙ (ap (λ (x : RunningView). with_stage x.part (Holding (record { subject = subject; place = p; cell = c; due = due }))) same_m
    ∙ ap (λ (h : Hand). with_stage r.part (Holding h)) hand) in
    let made : cell_fetched w P t r.part p.0 ≡ record { parts = record { cells = cells; sets = sets; tasks = parts_of (set tasks t n) }; shown = Fetched c } =
    stepped_is _ _ (Fetched (word_at cells p.0)) (parts_with cells sets tasks t n _ part) ∙ ap (λ (z : Cell). record { parts = record { cells = cells; sets = sets; tasks = parts_of (set tasks t n) }; shown = Fetched z }) (sym same_c) in
    of_task-read cells sets tasks t r (λ (u : TaskPart). option_map (cell_fetched w P t u) (place_due w t u u.stage)) _ lt read_r (ap (option_map (cell_fetched w P t r.part)) at ∙ ap Some made)

-- a hand of which something is due: it is the breakpoint of a session over the place, which is one of the job
pub record HandDue (w : World) (t : ℕ) (u : TaskPart) (h : Hand) : Type 0 where
  pub unspent : is_spent w t u.state ≡ false
  pub hand : IsHand w h
  pub session : ℕ
  pub some : 0 < session
  pub most : session ≤ length w.job.sessions
  pub over : is_over (plan_in w) session h.place.0 ≡ true
  pub planted : h.cell ≡ planted session

not_nothing : (d due : Due) → same_due d due ≡ true → due ≢ Nothing → d ≢ Nothing
not_nothing Marking due h n = λ e. absurd cc
not_nothing Lifting due h n = λ e. absurd cc
not_nothing Nothing Marking h n = let f : false ≡ true = h in absurd cc
not_nothing Nothing Lifting h n = let f : false ≡ true = h in absurd cc
not_nothing Nothing Nothing h n = absurd (n refl)

pub hand_due : (w : World) (cells : List Cell) (sets : List FactSet) (plan : PlanView) (tasks : List RunningView) (t : ℕ) (r : RunningView) (due : Due) (h : Hand) →
    IsCore w cells sets plan tasks → t < length tasks → r ≡ get_or tasks t r → in_hand due r.part.stage ≡ Some h → due ≢ Nothing → HandDue w t r.part h
hand_due w cells sets plan tasks t r due h is lt read e some =
    let at = in_hand-stage due r.part.stage h e in
    let stage : (is_spent w t r.part.state ≡ false) × IsHand w h = subst (λ (s : Stage). IsStage w t r.part s) at.0 (read_stage w cells sets plan tasks t r is lt read) in
    let under = stage.1.planted (not_nothing h.due due at.1 some) in
    record {
      unspent = stage.0;
      hand = stage.1;
      session = under.0;
      some = under.1;
      most = over_small (plan_in w) under.0 h.place.0 is.is_plan stage.1.place under.2;
      over = under.2;
      planted = under.3;
    }

pub due_hand : (w : World) (t : ℕ) (u : TaskPart) (h g : Hand) (d : Due) → HandDue w t u h → g ≡ record h { due = d } → IsHand w g
due_hand w t u h g d is e = subst (λ (x : Hand). IsHand w x) (sym e) (record { place = is.hand.place; planted = λ n. (is.session, is.some, is.over, is.planted) })

session_is : (w : World) (t : ℕ) (u : TaskPart) (h : Hand) (due : HandDue w t u h) → tag_session h.cell.tag ≡ due.session
session_is w t u h due = ap (λ (c : Cell). tag_session c.tag) due.planted ∙ session_of_window due.session due.some

half_of : (s : ℕ) → 0 < s → s - 1 ≡ window_tag s / 2
half_of s some = omega (arith, some)

pub mark_index : (w : World) (cells : List Cell) (sets : List FactSet) (plan : PlanView) (tasks : List RunningView) (t : ℕ) (u : TaskPart) (h : Hand) (n : ℕ) →
    IsCore w cells sets plan tasks → HandDue w t u h → n ≡ length cells → h.cell.tag / 2 * n + h.place.0 ≡ index_of (length w.places) (tag_session h.cell.tag) h.place.0
mark_index w cells sets plan tasks t u h n is due e =
    let less : tag_session h.cell.tag - 1 ≡ h.cell.tag / 2 = ap (λ (k : ℕ). k - 1) (session_is w t u h due) ∙ (half_of due.session due.some ∙ ap (λ (c : Cell). c.tag / 2) (sym due.planted)) in
    rw (e, is.cell_count, less) refl

pub mark_fits : (w : World) (cells : List Cell) (sets : List FactSet) (plan : PlanView) (tasks : List RunningView) (t : ℕ) (u : TaskPart) (h : Hand) →
    IsCore w cells sets plan tasks → HandDue w t u h → index_of (length w.places) (tag_session h.cell.tag) h.place.0 < length sets
mark_fits w cells sets plan tasks t u h is due =
    let session : tag_session h.cell.tag ≡ due.session = session_is w t u h due in
    subst (λ n. index_of (length w.places) (tag_session h.cell.tag) h.place.0 < n) (sym is.set_count)
    (index_below (length w.places) (length w.job.sessions) (tag_session h.cell.tag) h.place.0 (subst (λ n. 0 < n) (sym session) due.some) (subst (λ n. n ≤ length w.job.sessions) (sym session) due.most) due.hand.place)

pub within_fact : (k : Kind) (s : FactSet) (went : Bool) → is_within k s ≡ true → is_within k (with_fact s (fact_of k went)) ≡ true
within_fact Straight s went h = h
within_fact Conditional s true h = h
within_fact Conditional s false h = h

pub marked_core : (w : World) (cells : List Cell) (sets : List FactSet) (plan : PlanView) (tasks : List RunningView) (t : ℕ) (r m n : RunningView) (h g : Hand) (d : Due) (at : ℕ) (found facts : FactSet) (kind : Kind) (went : Bool) →
    IsCore w cells sets plan tasks → t < length tasks → r ≡ get_or tasks t r → m ≡ get_or tasks t m → HandDue w t r.part h →
    at ≡ index_of (length w.places) (tag_session h.cell.tag) h.place.0 → found ≡ get_or sets at found → kind ≡ kind_at (plan_in w) h.place.0 →
    facts ≡ with_fact found (fact_of kind went) → g ≡ record h { due = d } → n ≡ record m { part = with_stage m.part (Holding g) } →
    AreTied w (record { cells = cells; sets = set sets at facts; tasks = parts_of (set tasks t n) }) → IsCore w cells (set sets at facts) plan (set tasks t n)
marked_core w cells sets plan tasks t r m n h g d at found facts kind went is lt read_r read_m due index read_found is_kind is_facts is_g e tied =
    let same : r ≡ m = same_read tasks t r m lt read_r read_m in
    let fits = mark_fits w cells sets plan tasks t r.part h is due in
    let found_is : found ≡ set_in (length w.places) sets (tag_session h.cell.tag) h.place.0 =
    read_found ∙ (ap (λ (i : ℕ). get_or sets i found) index ∙ get_or_default sets (index_of (length w.places) (tag_session h.cell.tag) h.place.0) found no_facts fits) in
    let own0 : 0 < tag_session h.cell.tag = subst (λ n. 0 < n) (sym (session_is w t r.part h due)) due.some in
    let own : is_within (kind_at (plan_in w) h.place.0) found ≡ true = subst (λ (f : FactSet). is_within (kind_at (plan_in w) h.place.0) f ≡ true) (sym found_is) (is.within (tag_session h.cell.tag) h.place.0 own0 due.hand.place) in
    let grown : is_within (kind_at (plan_in w) h.place.0) facts ≡ true = subst (λ (f : FactSet). is_within (kind_at (plan_in w) h.place.0) f ≡ true) (sym is_facts)
    (subst (λ (k : Kind). is_within (kind_at (plan_in w) h.place.0) (with_fact found (fact_of k went)) ≡ true) (sym is_kind) (within_fact (kind_at (plan_in w) h.place.0) found went own)) in
    let within : (s p : ℕ) → 0 < s → p < length w.places → is_within (kind_at (plan_in w) p) (set_in (length w.places) (set sets at facts) s p) ≡ true =
    λ s p s0 p_in. subst (λ (i : ℕ). is_within (kind_at (plan_in w) p) (set_in (length w.places) (set sets i facts) s p) ≡ true) (sym index)
    (set_within w sets (tag_session h.cell.tag) h.place.0 p s facts own0 s0 due.hand.place p_in fits grown (is.within s p s0 p_in)) in
    stage_core w cells cells sets (set sets at facts) plan tasks t m n g is lt read_m e (subst (λ (x : RunningView). is_spent w t x.part.state ≡ false) same due.unspent) (due_hand w t r.part h g d due is_g)
    refl (length-set sets at facts) is.words within tied

pub mark_possible : (w : World) (cells : List Cell) (sets : List FactSet) (plan : PlanView) (tasks : List RunningView) (t : ℕ) (r m q n : RunningView) (h g : Hand) (d : Due) (at : ℕ) (found facts : FactSet) (kind : Kind) (went : Bool) →
    IsCore w cells sets plan tasks → t < length tasks → r ≡ get_or tasks t r → m ≡ get_or tasks t m → q ≡ get_or tasks t q → in_hand Marking r.part.stage ≡ Some h → HandDue w t r.part h →
    at ≡ index_of (length w.places) (tag_session h.cell.tag) h.place.0 → found ≡ get_or sets at found → kind ≡ kind_at (plan_in w) h.place.0 →
    facts ≡ with_fact found (fact_of kind went) → (visit_of (step_of w t q.part) h.subject).went ≡ went → d ≡ (if is_full kind facts then Lifting else Nothing) →
    g ≡ record h { due = d } → n ≡ record m { part = with_stage m.part (Holding g) } →
    of_existing (record { cells = cells; sets = sets; tasks = parts_of tasks }) t (λ (u : TaskPart). option_map (fact_marked w (record { cells = cells; sets = sets; tasks = parts_of tasks }) t u) (in_hand Marking u.stage))
    ≡ Some (record { parts = record { cells = cells; sets = set sets at facts; tasks = parts_of (set tasks t n) }; shown = Marked found })
mark_possible w cells sets plan tasks t r m q n h g d at found facts kind went is lt read_r read_m read_q held due index read_found is_kind is_facts is_went is_d is_g e =
    let P : Parts = record { cells = cells; sets = sets; tasks = parts_of tasks } in
    let K : Kind = kind_at (plan_in w) h.place.0 in
    let i : ℕ = index_of (length w.places) (tag_session h.cell.tag) h.place.0 in
    let X : FactSet = with_fact (set_of w P (tag_session h.cell.tag) h.place.0) (fact_in w t r.part h) in
    let same_m : m ≡ r = same_read tasks t m r lt read_m read_r in
    let fits = mark_fits w cells sets plan tasks t r.part h is due in
    let found_is : found ≡ set_of w P (tag_session h.cell.tag) h.place.0 =
    read_found ∙ (ap (λ (j : ℕ). get_or sets j found) index ∙ get_or_default sets i found no_facts fits) in
    let went_is : went ≡ (visit_of (step_of w t r.part) h.subject).went = sym is_went ∙ ap (λ (x : RunningView). (visit_of (step_of w t x.part) h.subject).went) (same_read tasks t q r lt read_q read_r) in
    let facts_is : facts ≡ X = is_facts ∙ (ap (λ (f : FactSet). with_fact f (fact_of kind went)) found_is
    ∙ (ap (λ (k : Kind). with_fact (set_of w P (tag_session h.cell.tag) h.place.0) (fact_of k went)) is_kind
    ∙ ap (λ (b : Bool). with_fact (set_of w P (tag_session h.cell.tag) h.place.0) (fact_of K b)) went_is)) in
    let d_is : d ≡ (if is_full K X then Lifting else Nothing) = is_d ∙ (ap (λ (k : Kind). if is_full k facts then Lifting else Nothing) is_kind ∙ ap (λ (f : FactSet). if is_full K f then Lifting else Nothing) facts_is) in
    let part : n.part ≡ with_due r.part h (if is_full K X then Lifting else Nothing) =
    ap (λ (x : RunningView). x.part) e ∙ (ap (λ (x : RunningView). with_stage x.part (Holding g)) same_m
    ∙ (ap (λ (z : Hand). with_stage r.part (Holding z)) is_g ∙ ap (λ (z : Due). with_due r.part h z) d_is)) in
    let made : fact_marked w P t r.part h ≡ record { parts = record { cells = cells; sets = set sets i X; tasks = parts_of (set tasks t n) }; shown = Marked (set_of w P (tag_session h.cell.tag) h.place.0) } =
    stepped_is _ _ _ (parts_with cells (set sets i X) tasks t n _ part) in
    of_task-read cells sets tasks t r (λ (u : TaskPart). option_map (fact_marked w P t u) (in_hand Marking u.stage)) _ lt read_r (ap (option_map (fact_marked w P t r.part)) held ∙ ap Some (made
    ∙ (ap (λ (f : FactSet). record { parts = record { cells = cells; sets = set sets i f; tasks = parts_of (set tasks t n) }; shown = Marked (set_of w P (tag_session h.cell.tag) h.place.0) }) (sym facts_is)
    ∙ (ap (λ (j : ℕ). record { parts = record { cells = cells; sets = set sets j facts; tasks = parts_of (set tasks t n) }; shown = Marked (set_of w P (tag_session h.cell.tag) h.place.0) }) (sym index)
    ∙ ap (λ (f : FactSet). record { parts = record { cells = cells; sets = set sets at facts; tasks = parts_of (set tasks t n) }; shown = Marked f }) (sym found_is)))))

exchanged : (b : Bool) (w : World) (cells : List Cell) (sets : List FactSet) (plan : PlanView) (tasks : List RunningView) (p : ℕ) (x : Cell) →
    IsCore w cells sets plan tasks → p < length cells → IsForm (plan_in w) p x → (length (if b then set cells p x else cells) ≡ length cells) × ((q : ℕ) → q < length w.places → IsForm (plan_in w) q (word_at (if b then set cells p x else cells) q))
exchanged true w cells sets plan tasks p x is lt form = (length-set cells p x, words_with w cells sets plan tasks p x is lt form)
exchanged false w cells sets plan tasks p x is lt form = (refl, is.words)

pub lifted_core : (w : World) (cells cells2 : List Cell) (sets : List FactSet) (plan : PlanView) (tasks : List RunningView) (t : ℕ) (r m n : RunningView) (h g : Hand) (taken : Bool) (original : ℕ) →
    IsCore w cells sets plan tasks → t < length tasks → r ≡ get_or tasks t r → m ≡ get_or tasks t m → HandDue w t r.part h → original ≡ original_at (plan_in w) h.place.0 →
    cells2 ≡ (if taken then set cells h.place.0 (record { tag = h.cell.tag; half = original }) else cells) → g ≡ record h { due = Nothing } →
    n ≡ record m { part = with_stage m.part (Holding g) } → AreTied w (record { cells = cells2; sets = sets; tasks = parts_of (set tasks t n) }) → IsCore w cells2 sets plan (set tasks t n)
lifted_core w cells cells2 sets plan tasks t r m n h g taken original is lt read_r read_m due is_original is_cells is_g e tied =
    let same : r ≡ m = same_read tasks t r m lt read_r read_m in
    let p_in : h.place.0 < length cells = subst (λ k. h.place.0 < k) (sym is.cell_count) due.hand.place in
    let out : ◌≡◌ {A = Cell} (record { tag = h.cell.tag; half = original }) (lifted_cell due.session (original_at (plan_in w) h.place.0)) =
    ap (λ (c : Cell). record { tag = c.tag; half = original }) due.planted ∙ ap (λ (o : ℕ). record { tag = window_tag due.session; half = o }) is_original in
    let form : IsForm (plan_in w) h.place.0 (record { tag = h.cell.tag; half = original }) = inr (due.session, due.some, due.over, inr (inl out)) in
    let both = exchanged taken w cells sets plan tasks h.place.0 (record { tag = h.cell.tag; half = original }) is p_in form in
    stage_core w cells cells2 sets sets plan tasks t m n g is lt read_m e (subst (λ (x : RunningView). is_spent w t x.part.state ≡ false) same due.unspent) (due_hand w t r.part h g Nothing due is_g)
    (ap (λ (xs : List Cell). length xs) is_cells ∙ both.0) refl (λ q l. subst (λ (xs : List Cell). IsForm (plan_in w) q (word_at xs q)) (sym is_cells) (both.1 q l)) is.within tied

either : (b : Bool) (P : Parts) (p : ℕ) (x : Cell) → (if b then with_cell P p x else P) ≡ record { cells = if b then set P.cells p x else P.cells; sets = P.sets; tasks = P.tasks }
either true P p x = refl
either false P p x = refl

pub lift_possible : (w : World) (cells cells2 : List Cell) (sets : List FactSet) (tasks : List RunningView) (t : ℕ) (r m n : RunningView) (h g : Hand) (taken : Bool) (original : ℕ) →
    t < length tasks → r ≡ get_or tasks t r → m ≡ get_or tasks t m → in_hand Lifting r.part.stage ≡ Some h → original ≡ original_at (plan_in w) h.place.0 → taken ≡ same_cell (word_at cells h.place.0) h.cell →
    cells2 ≡ (if taken then set cells h.place.0 (record { tag = h.cell.tag; half = original }) else cells) → g ≡ record h { due = Nothing } →
    n ≡ record m { part = with_stage m.part (Holding g) } →
    of_existing (record { cells = cells; sets = sets; tasks = parts_of tasks }) t (λ (u : TaskPart). option_map (lifted w (record { cells = cells; sets = sets; tasks = parts_of tasks }) t u) (in_hand Lifting u.stage))
    ≡ Some (record { parts = record { cells = cells2; sets = sets; tasks = parts_of (set tasks t n) }; shown = Lifted taken })
lift_possible w cells cells2 sets tasks t r m n h g taken original lt read_r read_m held is_original is_taken is_cells is_g e =
    let P : Parts = record { cells = cells; sets = sets; tasks = parts_of tasks } in
    let T : Bool = same_cell (word_at cells h.place.0) h.cell in
    let C : List Cell = if T then set cells h.place.0 (original_under w h.place.0 h.cell) else cells in
    let same_m : m ≡ r = same_read tasks t m r lt read_m read_r in
    let cells_is : cells2 ≡ C = is_cells ∙ (ap (λ (o : ℕ). if taken then set cells h.place.0 (record { tag = h.cell.tag; half = o }) else cells) is_original
    ∙ ap (λ (b : Bool). if b then set cells h.place.0 (original_under w h.place.0 h.cell) else cells) is_taken) in
    let part : n.part ≡ with_due r.part h Nothing =
    ap (λ (x : RunningView). x.part) e ∙ (ap (λ (x : RunningView). with_stage x.part (Holding g)) same_m ∙ ap (λ (z : Hand). with_stage r.part (Holding z)) is_g) in
    let parts : task_replaced (if T then with_cell P h.place.0 (original_under w h.place.0 h.cell) else P) t (with_due r.part h Nothing) ≡ record { cells = C; sets = sets; tasks = parts_of (set tasks t n) } =
    ap (λ (x : Parts). task_replaced x t (with_due r.part h Nothing)) (either T P h.place.0 (original_under w h.place.0 h.cell)) ∙ parts_with C sets tasks t n _ part in
    let made : lifted w P t r.part h ≡ record { parts = record { cells = C; sets = sets; tasks = parts_of (set tasks t n) }; shown = Lifted T } = stepped_is _ _ _ parts in
    of_task-read cells sets tasks t r (λ (u : TaskPart). option_map (lifted w P t u) (in_hand Lifting u.stage)) _ lt read_r (ap (option_map (lifted w P t r.part)) held ∙ ap Some (made
    ∙ (ap (λ (xs : List Cell). record { parts = record { cells = xs; sets = sets; tasks = parts_of (set tasks t n) }; shown = Lifted T }) (sym cells_is)
    ∙ ap (λ (b : Bool). record { parts = record { cells = cells2; sets = sets; tasks = parts_of (set tasks t n) }; shown = Lifted b }) (sym is_taken))))

pub run_possible : (w : World) (cells : List Cell) (sets : List FactSet) (tasks : List RunningView) (t : ℕ) (m n : RunningView) →
    t < length tasks → m ≡ get_or tasks t m → task_done w t m.part m.part.stage ≡ Some n.part →
    of_existing (record { cells = cells; sets = sets; tasks = parts_of tasks }) t (λ (u : TaskPart). option_map (done_by (record { cells = cells; sets = sets; tasks = parts_of tasks }) t) (task_done w t u u.stage))
    ≡ Some (record { parts = record { cells = cells; sets = sets; tasks = parts_of (set tasks t n) }; shown = Done })
run_possible w cells sets tasks t m n lt read is_done =
    let P : Parts = record { cells = cells; sets = sets; tasks = parts_of tasks } in
    of_task-read cells sets tasks t m (λ (u : TaskPart). option_map (done_by P t) (task_done w t u u.stage)) _ lt read (ap (option_map (done_by P t)) is_done ∙ ap Some (stepped_is _ _ Done (parts_with cells sets tasks t n n.part refl)))

executed_stage : (w : World) (t : ℕ) (u : TaskPart) (next : Next) → IsStage w t u (stage_after next)
executed_stage w t u On = tt
executed_stage w t u (NextEnded e) = tt

instruction_stage : (w : World) (t : ℕ) (u : TaskPart) → is_spent w t u.state ≡ false → IsStage w t (instruction_executed w t u) (instruction_executed w t u).stage
instruction_stage w t u unspent = by (subject_place w (step_of w t u).visits) refl
  where
    by : (at : Option ℕ) → subject_place w (step_of w t u).visits ≡ at → IsStage w t (awaits_or u (executed w t u) at) (awaits_or u (executed w t u) at).stage
    by None e = executed_stage w t (executed w t u) (step_of w t u).next
    by (Some p) e = (unspent, λ k. let n : Some p ≡ None = sym e ∙ k in absurd cc)

-- where a Do leaves a task
goes_stage : (w : World) (t : ℕ) (u v : TaskPart) (stage : Stage) → IsStage w t u stage → task_goes_on w t u stage ≡ Some v → IsStage w t v v.stage
goes_stage w t u v Ready is h = ready (has_returned u.state) (is_spent w t u.state) refl (place_at w u.state.machine.cpu.ia) h
  where
    ready : (returned spent : Bool) → is_spent w t u.state ≡ spent → (at : Option ℕ) →
        (if returned then Some (with_stage u (Ended Returned)) else (if spent then Some (with_stage u (Ended Spent)) else (if is_none at then Some (instruction_executed w t u) else None))) ≡ Some v → IsStage w t v v.stage
    ready true spent s at k = subst (λ (x : TaskPart). IsStage w t x x.stage) (same_Some _ v k) tt
    ready false true s at k = subst (λ (x : TaskPart). IsStage w t x x.stage) (same_Some _ v k) tt
    ready false false s None k = subst (λ (x : TaskPart). IsStage w t x x.stage) (same_Some _ v k) (instruction_stage w t u s)
    ready false false s (Some p) k = let n : None ≡ Some v = k in absurd cc
goes_stage w t u v Awaiting is h = let n : None ≡ Some v = h in absurd cc
goes_stage w t u v (Ended e) is h = let n : None ≡ Some v = h in absurd cc
goes_stage w t u v (Holding g) is h = by (same_due g.due Nothing) g.subject h
  where
    by : (nothing subject : Bool) → (if nothing then Some (if subject then executed w t u else instruction_executed w t u) else None) ≡ Some v → IsStage w t v v.stage
    by false subject k = let n : None ≡ Some v = k in absurd cc
    by true true k = subst (λ (x : TaskPart). IsStage w t x x.stage) (same_Some _ v k) (executed_stage w t (executed w t u) (step_of w t u).next)
    by true false k = subst (λ (x : TaskPart). IsStage w t x x.stage) (same_Some _ v k) (instruction_stage w t u is.0)

pub ran_core : (w : World) (cells : List Cell) (sets : List FactSet) (plan : PlanView) (tasks : List RunningView) (t : ℕ) (m n : RunningView) →
    IsCore w cells sets plan tasks → t < length tasks → m ≡ get_or tasks t m → task_done w t m.part m.part.stage ≡ Some n.part → IsRunning w t n →
    AreTied w (record { cells = cells; sets = sets; tasks = parts_of (set tasks t n) }) → IsCore w cells sets plan (set tasks t n)
ran_core w cells sets plan tasks t m n is lt read is_done runs tied =
    let stage : IsStage w t n.part n.part.stage = goes_stage w t m.part n.part m.part.stage (read_stage w cells sets plan tasks t m is lt read) (goes_on w t m.part n.part m.part.stage is_done) in
    moved_core w cells cells sets sets plan tasks (set tasks t n) is refl refl (length-set tasks t n) is.words is.within (running_with w cells sets plan tasks t n is lt runs) (stages_with w cells sets plan tasks t n is lt stage) tied
