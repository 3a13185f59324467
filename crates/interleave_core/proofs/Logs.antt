-- Each event keeps each task's log.
use Rattle.std.proofs.Common.{◌≡◌, ◌≢◌, ◌⊎◌, inl, inr, ℕ, zero, suc, ◌+◌, ◌*◌, ◌%◌, ◌<◌, ◌≤◌, Bool, true, false, ◌==◌, nat_lt, nat_eq, if◌then◌else◌, Option, Some, None, option_map, List, [], ◌∷◌, ◌++◌, length, take, get_or, set, refl, sym, ◌∙◌, ap, subst, arith, is_none, eqb-true, ne_eqb, eq-eqb}
use Rattle.std.specs.List.{position_from}
use Rattle.std.specs.Option.{option_or}
use Rattle.std.proofs.lemmas.Bool.Decides.{nat_tests}
use Rattle.std.proofs.lemmas.List.{append_assoc, append-nil, get_or-map, get_or-set_other, length-set, length-map}
use Rattle.cov_base.specs.Meaning.{Memory, can_reach, half_at, State, Visit, length_of, FactSet}
use Rattle.s370_state.specs.declared.endings.Ending.{Ending}
use Rattle.s370_decode.specs.Meaning.{first_half, op_of}
use Rattle.s370_decode.specs.declared.code.Code.{Code}
use Rattle.s370_exec.specs.Meaning.{effect, updated, link_code, is_execute, code_at, first_tests, rest_tests, Run, Step, solo_run, solo_step, visit, no_visit, has_returned}
use Rattle.s370_exec.specs.Fetch.{whole_tests}
use Rattle.s370_exec.proofs.Laws.{solo_step-visits, solo_step-rest_refused, solo_step-unread, solo_step-read, solo_step-ex}
use Rattle.module_area.specs.Meaning.{place_of, tag_session, word_at}
use Rattle.module_area.specs.declared.places.Place.{Place}
use Rattle.brk_table.specs.Places.{ArePlaces, IsPlace, AreSeen}
use Rattle.module_area.specs.declared.cells.Cell.{Cell}
use Rattle.interleave_core.specs.Meaning.{World, TaskPart, Parts, part_of, memory_in, budget_in, place_at, first_part, Stepped, parts_step, cell_fetched, fact_marked, lifted, done_by, with_due, original_under, same_cell, in_hand, subject_place, step_of, place_due, is_awaiting, is_spent, executed, stage_after, awaits_or, with_stage, instruction_executed, task_goes_on, task_done, same_due, hand_at, set_of}
use Rattle.interleave_core.specs.World.{IsWorld}
use Rattle.interleave_core.specs.CoreState.{Item, Met, Gave, CoreState, CoreStepped, core_start, core_step, core_after, core_from, core_run, log_after}
use Rattle.interleave_core.specs.MeaningOfEvents.{alone, Noted, note, noted, fact_at, visits_in_hand}
use Rattle.interleave_core.specs.declared.events.Shown.{Shown}
use Rattle.interleave_core.specs.declared.events.Shown.TheVariants.{Fetched, Marked, Lifted, Done}
use Rattle.interleave_core.specs.declared.events.Event.{Event}
use Rattle.interleave_core.specs.declared.events.Event.TheVariants.{Fetch, Mark, Lift, Do, Plant, Close}
use Rattle.interleave_core.specs.declared.stage.Hand.{Hand}
use Rattle.interleave_core.specs.declared.stage.Due.TheVariants.{Marking, Lifting, Nothing}
use Rattle.interleave_core.proofs.Changes.{goes_on, Changed, plant_cases, close_by, logs_given, logs_whole, logs_plant, logs_close}
use Rattle.interleave_core.proofs.Runs.{got, lifted_tasks, exists_by, in_hand-stage, through}
use Rattle.interleave_core.proofs.Alone.{GoesAt, AllGo, has_ended, is_inside, executed_trace, all_step, all_first, run_zero, due_in}
use Rattle.s370_state.specs.declared.endings.Ending.TheVariants.{Returned, Spent}
use Rattle.s370_state.specs.declared.endings.Next.{Next}
use Rattle.s370_state.specs.declared.endings.Next.TheVariants.{On, Ended as NextEnded}
use Rattle.session_book.specs.Meaning.{task_of, no_task}
use Rattle.phase_plan.specs.Meaning.{first_state}
use Rattle.module_area.specs.Rule.{window_tag}
use Rattle.std.proofs.lemmas.Grind.{get_or-set_at}
use Rattle.std.proofs.lemmas.Option.{same_Some}
use Rattle.std.proofs.lemmas.Bool.{ltb-true, cases_eq}
use Rattle.interleave_core.specs.declared.stage.Due.{Due}
use Rattle.interleave_core.specs.declared.stage.Stage.{Stage}
use Rattle.interleave_core.specs.declared.stage.Stage.TheVariants.{Ready, Awaiting, Holding, Ended}

-- ---- each task's log has the places and facts of its run alone so far, and of the instruction in hand

-- of a log the fetches, the oldest first
abbrev pub logged : List Item → List Noted
logged [] = []
logged (Met e ∷ log) = logged log ++ record { place = e.place; fact = e.fact } ∷ []
logged (Gave p tag ∷ log) = logged log

abbrev pub HasLog : World → ℕ → TaskPart → List Item → Type 0
HasLog w t u log = logged log ≡ noted w ((alone w t u.state.done).trace ++ visits_in_hand u.stage (step_of w t u).visits)

abbrev pub HaveLogs : World → Parts → (ℕ → List Item) → Type 0
HaveLogs w c logs = (t : ℕ) → t < length c.tasks → HasLog w t (part_of c t) (logs t)

pub noted-append : (w : World) (a b : List Visit) → noted w (a ++ b) ≡ noted w a ++ noted w b
noted-append w [] b = refl
noted-append w (v ∷ a) b = ap (λ (n : List Noted). note w v (place_at w v.at) ++ n) (noted-append w a b) ∙ sym (append_assoc (note w v (place_at w v.at)) (noted w a) (noted w b))

-- a place that was found begins there
pub found_at : (n a p : ℕ) (places : List Place) → position_from (λ (p : Place). a == p.at) n places ≡ Some p → (k : ℕ) × (k < length places) × ((place_of places k).at ≡ a) × (n + k ≡ p)
found_at n a p [] h = let f : None ≡ Some p = h in absurd cc
found_at n a p (x ∷ xs) h = by (a == x.at) refl h (λ g. found_at (n + 1) a p xs g)
  where
    by : (b : Bool) → (a == x.at) ≡ b → (if b then Some n else position_from (λ (q : Place). a == q.at) (n + 1) xs) ≡ Some p → (position_from (λ (q : Place). a == q.at) (n + 1) xs ≡ Some p → (k : ℕ) × (k < length xs) × ((place_of xs k).at ≡ a) × (n + 1 + k ≡ p)) →
        (k : ℕ) × (k < length (x ∷ xs)) × ((place_of (x ∷ xs) k).at ≡ a) × (n + k ≡ p)
    by true e g more = let is : n ≡ p = same_Some n p g in (zero, omega arith, sym (eqb-true a x.at e), omega (arith, is))
    by false e g more = let r = more g in (suc r.0, omega (arith, r.1), r.2, omega (arith, r.3))

tests_pass : (odd reached : Bool) (x y : Option Ending) → odd ≡ false → reached ≡ true → (if odd then x else (if reached then None else y)) ≡ None
tests_pass odd reached x y o r = rw (o, r) refl

even_test : (a : ℕ) → a % 2 ≡ 0 → (a % 2 == 1) ≡ false
even_test a h = grind (arith, nat_tests)

pub at_place : (w : World) (m : Memory) (a p : ℕ) → ArePlaces w.places → AreSeen m w.places → place_at w a ≡ Some p → first_tests m a ≡ None
unfolding place_at
at_place w m a p are seen h =
    let k = found_at 0 a p w.places h in
    let is : IsPlace (place_of w.places k.0) = are.each k.0 _ k.1 in
    tests_pass (a % 2 == 1) (can_reach m a 2) _ _ (even_test a (subst (λ (n : ℕ). n % 2 ≡ 0) k.2 is.even)) (subst (λ (n : ℕ). can_reach m n 2 ≡ true) k.2 (seen k.0 k.1).reached)

-- the visits of a step: none, or first that of the instruction
visits_by : (m : Memory) (s : State) (c : Code) (b : Bool) → whole_tests m s.machine.bytes s.machine.cpu.ia ≡ None → c ≡ code_at m s.machine.bytes s.machine.cpu.ia (half_at m s.machine.bytes s.machine.cpu.ia) →
    is_execute (first_half c) ≡ b → (v : Visit) × (vs : List Visit) × ((solo_step m s).visits ≡ v ∷ vs) × (v.at ≡ s.machine.cpu.ia)
visits_by m s c true tests code x = let e = solo_step-ex m s s.machine.cpu.ia c refl tests code x in (_, _, ap (λ (r : Step). r.visits) e, refl)
visits_by m s c false tests code x =
    let e = solo_step-read m s s.machine.cpu.ia c (effect m s.machine s.io c (op_of (first_half c)) (updated c None) (link_code c None)) refl tests code x refl in (_, _, ap (λ (r : Step). r.visits) e, refl)

tests_by : (m : Memory) (s : State) (tests : Option Ending) → whole_tests m s.machine.bytes s.machine.cpu.ia ≡ tests →
    ((solo_step m s).visits ≡ []) ⊎ ((v : Visit) × (vs : List Visit) × ((solo_step m s).visits ≡ v ∷ vs) × (v.at ≡ s.machine.cpu.ia))
tests_by m s None h = inr (visits_by m s (code_at m s.machine.bytes s.machine.cpu.ia (half_at m s.machine.bytes s.machine.cpu.ia)) _ h refl refl)
tests_by m s (Some e) h = elim (solo_step-unread m s s.machine.cpu.ia e refl h) [
  | inl k ↦ inl (ap (λ (r : Step). r.visits) k)
  | inr k ↦ inr (visit s s.machine.cpu.ia false false false, [], ap (λ (r : Step). r.visits) k, refl)
]

pub visits_are : (m : Memory) (s : State) → ((solo_step m s).visits ≡ []) ⊎ ((v : Visit) × (vs : List Visit) × ((solo_step m s).visits ≡ v ∷ vs) × (v.at ≡ s.machine.cpu.ia))
visits_are m s = tests_by m s (whole_tests m s.machine.bytes s.machine.cpu.ia) refl

pub pass_by : (m : Memory) (s : State) (tests : Option Ending) → first_tests m s.machine.cpu.ia ≡ None → whole_tests m s.machine.bytes s.machine.cpu.ia ≡ tests →
    (v : Visit) × (vs : List Visit) × ((solo_step m s).visits ≡ v ∷ vs) × (v.at ≡ s.machine.cpu.ia)
pass_by m s None pass h = visits_by m s (code_at m s.machine.bytes s.machine.cpu.ia (half_at m s.machine.bytes s.machine.cpu.ia)) _ h refl refl
pass_by m s (Some e) pass h =
    let a : ℕ = s.machine.cpu.ia in
    let rest : rest_tests m a (length_of (half_at m s.machine.bytes a)) ≡ Some e = subst (λ (o : Option Ending). option_or o (rest_tests m a (length_of (half_at m s.machine.bytes a))) ≡ Some e) pass h in
    (visit s a false false false, [], ap (λ (r : Step). r.visits) (solo_step-rest_refused m s a (half_at m s.machine.bytes a) e refl pass refl rest), refl)

-- one fetch of an instruction more
push_first : (w : World) (V trace vs : List Visit) (v : Visit) (p : ℕ) (L : List Noted) → V ≡ v ∷ vs → place_at w v.at ≡ Some p → L ≡ noted w (trace ++ []) →
    L ++ record { place = p; fact = fact_at w p (get_or V 0 no_visit) } ∷ [] ≡ noted w (trace ++ take 1 V)
push_first w V trace vs v p L is at e =
    let before : L ≡ noted w trace = e ∙ ap (noted w) (append-nil trace) in
    let one : noted w (v ∷ []) ≡ record { place = p; fact = fact_at w p v } ∷ [] = ap (λ (o : Option ℕ). note w v o ++ []) at in
    subst (λ (X : List Visit). L ++ record { place = p; fact = fact_at w p (get_or X 0 no_visit) } ∷ [] ≡ noted w (trace ++ take 1 X)) (sym is)
    (ap (λ (n : List Noted). n ++ record { place = p; fact = fact_at w p v } ∷ []) before ∙ (ap (λ (n : List Noted). noted w trace ++ n) (sym one) ∙ sym (noted-append w trace (v ∷ []))))

-- and of its subject
push_subject : (w : World) (V trace : List Visit) (p : ℕ) (L : List Noted) → length V ≤ 2 → subject_place w V ≡ Some p → L ≡ noted w (trace ++ take 1 V) →
    L ++ record { place = p; fact = fact_at w p (get_or V 1 no_visit) } ∷ [] ≡ noted w (trace ++ V)
push_subject w [] trace p L few at e = let n : None ≡ Some p = at in absurd cc
push_subject w (v ∷ []) trace p L few at e = let n : None ≡ Some p = at in absurd cc
push_subject w (v ∷ (s ∷ (x ∷ xs))) trace p L few at e = absurd (omega arith)
push_subject w (v ∷ (s ∷ [])) trace p L few at e =
    let one : noted w (s ∷ []) ≡ record { place = p; fact = fact_at w p s } ∷ [] = ap (λ (o : Option ℕ). note w s o ++ []) at in
    let parts : noted w ((trace ++ v ∷ []) ++ s ∷ []) ≡ noted w (trace ++ v ∷ []) ++ noted w (s ∷ []) = noted-append w (trace ++ v ∷ []) (s ∷ []) in
    ap (λ (n : List Noted). n ++ record { place = p; fact = fact_at w p s } ∷ []) e ∙ (ap (λ (n : List Noted). noted w (trace ++ v ∷ []) ++ n) (sym one)
    ∙ (sym parts ∙ ap (noted w) (append_assoc trace (v ∷ []) (s ∷ []))))

-- an instruction whose subject is at no place
no_subject : (w : World) (V : List Visit) → length V ≤ 2 → subject_place w V ≡ None → noted w V ≡ noted w (take 1 V)
no_subject w [] few at = refl
no_subject w (v ∷ []) few at = refl
no_subject w (v ∷ (s ∷ (x ∷ xs))) few at = absurd (omega arith)
no_subject w (v ∷ (s ∷ [])) few at = ap (λ (o : Option ℕ). note w v (place_at w v.at) ++ (note w s o ++ [])) at

-- and it itself too
no_place : (w : World) (m : Memory) (s : State) → place_at w s.machine.cpu.ia ≡ None → noted w (take 1 (solo_step m s).visits) ≡ []
no_place w m s at = elim (visits_are m s) [
  | inl none ↦ ap (λ (V : List Visit). noted w (take 1 V)) none
  | inr some ↦ ap (λ (V : List Visit). noted w (take 1 V)) some.2 ∙ ap (λ (o : Option ℕ). note w some.0 o ++ []) (ap (place_at w) some.3 ∙ at)
]

with_nil : (w : World) (trace V : List Visit) → noted w ((trace ++ V) ++ []) ≡ noted w trace ++ noted w V
with_nil w trace V = ap (noted w) (append-nil (trace ++ V)) ∙ noted-append w trace V

found_logged : (w : World) (t : ℕ) (u : TaskPart) (f : FactSet) (log : List Item) → logged (log_after w t u (Marked f) log) ≡ logged log
found_logged w t u f [] = refl
found_logged w t u f (Met e ∷ log) = refl
found_logged w t u f (Gave p tag ∷ log) = refl

lifted_logged : (w : World) (t : ℕ) (u : TaskPart) (b : Bool) (log : List Item) → logged (log_after w t u (Lifted b) log) ≡ logged log
lifted_logged w t u b [] = refl
lifted_logged w t u b (Met e ∷ log) = refl
lifted_logged w t u b (Gave p tag ∷ log) = refl

abbrev trace_of : World → ℕ → TaskPart → List Visit
trace_of w t u = (alone w t u.state.done).trace

abbrev visits_of : World → ℕ → TaskPart → List Visit
visits_of w t u = (step_of w t u).visits

few : (w : World) (t : ℕ) (u : TaskPart) → length (visits_of w t u) ≤ 2
few w t u = solo_step-visits (memory_in w t) u.state

log_fetch : (w : World) (t : ℕ) (u : TaskPart) (stage : Stage) (p : ℕ) (c : Cell) (due : Due) (log : List Item) → AreSeen (memory_in w t) w.places → ArePlaces w.places → u.stage ≡ stage → place_due w t u stage ≡ Some p →
    logged log ≡ noted w (trace_of w t u ++ visits_in_hand stage (visits_of w t u)) →
    logged log ++ record { place = p; fact = fact_at w p (get_or (visits_of w t u) (if is_awaiting stage then 1 else 0) no_visit) } ∷ [] ≡ noted w (trace_of w t u ++ (if is_awaiting stage then visits_of w t u else take 1 (visits_of w t u)))
log_fetch w t u Ready p c due log seen are at h e =
    let place = (due_in (has_returned u.state) (is_spent w t u.state) (place_at w u.state.machine.cpu.ia) p h).2 in
    let v = pass_by (memory_in w t) u.state _ (at_place w (memory_in w t) u.state.machine.cpu.ia p are seen place) refl in
    push_first w (visits_of w t u) (trace_of w t u) v.1 v.0 p (logged log) v.2 (ap (place_at w) v.3 ∙ place) e
log_fetch w t u Awaiting p c due log seen are at h e = push_subject w (visits_of w t u) (trace_of w t u) p (logged log) (few w t u) h e
log_fetch w t u (Holding x) p c due log seen are at h e = let n : None ≡ Some p = h in absurd cc
log_fetch w t u (Ended x) p c due log seen are at h e = let n : None ≡ Some p = h in absurd cc

nothing_in_hand : (next : Next) (visits : List Visit) → visits_in_hand (stage_after next) visits ≡ []
nothing_in_hand On visits = refl
nothing_in_hand (NextEnded e) visits = refl

log_executed : (w : World) (t : ℕ) (u : TaskPart) (log : List Item) → has_ended u.stage ≡ false → has_returned u.state ≡ false → GoesAt w t u →
    logged log ≡ noted w (trace_of w t u) ++ noted w (visits_of w t u) → HasLog w t (executed w t u) log
log_executed w t u log was on g h =
    let trace : trace_of w t (executed w t u) ≡ trace_of w t u ++ visits_of w t u = executed_trace (memory_in w t) (budget_in w t) (first_state (task_of w.job t)) u was on g in
    let hand : visits_in_hand (stage_after (step_of w t u).next) (visits_of w t (executed w t u)) ≡ [] = nothing_in_hand (step_of w t u).next (visits_of w t (executed w t u)) in
    h ∙ (sym (with_nil w (trace_of w t u) (visits_of w t u)) ∙ (ap (λ (V : List Visit). noted w (V ++ [])) (sym trace) ∙ ap (λ (V : List Visit). noted w (trace_of w t (executed w t u) ++ V)) (sym hand)))

log_whole : (w : World) (t : ℕ) (u : TaskPart) (log : List Item) (at : Option ℕ) → subject_place w (visits_of w t u) ≡ at → has_ended u.stage ≡ false → has_returned u.state ≡ false → GoesAt w t u →
    logged log ≡ noted w (trace_of w t u ++ take 1 (visits_of w t u)) → HasLog w t (awaits_or u (executed w t u) at) log
log_whole w t u log None at was on g h =
    log_executed w t u log was on g (h ∙ (noted-append w (trace_of w t u) (take 1 (visits_of w t u)) ∙ ap (λ (n : List Noted). noted w (trace_of w t u) ++ n) (sym (no_subject w (visits_of w t u) (few w t u) at))))
log_whole w t u log (Some p) at was on g h = h

log_ready : (w : World) (t : ℕ) (u v : TaskPart) (log : List Item) (returned spent : Bool) (at : Option ℕ) → has_returned u.state ≡ returned → place_at w u.state.machine.cpu.ia ≡ at → has_ended u.stage ≡ false → GoesAt w t u →
    (if returned then Some (with_stage u (Ended Returned)) else (if spent then Some (with_stage u (Ended Spent)) else (if is_none at then Some (instruction_executed w t u) else None))) ≡ Some v →
    logged log ≡ noted w (trace_of w t u ++ []) → HasLog w t v log
log_ready w t u v log true spent at r p was g h e = subst (λ (x : TaskPart). HasLog w t x log) (same_Some _ v h) e
log_ready w t u v log false true at r p was g h e = subst (λ (x : TaskPart). HasLog w t x log) (same_Some _ v h) e
log_ready w t u v log false false (Some x) r p was g h e = let n : None ≡ Some v = h in absurd cc
log_ready w t u v log false false None r p was g h e =
    let first : logged log ≡ noted w (trace_of w t u ++ take 1 (visits_of w t u)) =
    e ∙ (noted-append w (trace_of w t u) [] ∙ (ap (λ (n : List Noted). noted w (trace_of w t u) ++ n) (sym (no_place w (memory_in w t) u.state p)) ∙ sym (noted-append w (trace_of w t u) (take 1 (visits_of w t u))))) in
    subst (λ (x : TaskPart). HasLog w t x log) (same_Some _ v h) (log_whole w t u log (subject_place w (visits_of w t u)) refl was r g first)

log_going : (w : World) (t : ℕ) (u v : TaskPart) (stage : Stage) (log : List Item) → u.stage ≡ stage → task_goes_on w t u stage ≡ Some v → GoesAt w t u →
    logged log ≡ noted w (trace_of w t u ++ visits_in_hand stage (visits_of w t u)) → HasLog w t v log
log_going w t u v Ready log at h g e = log_ready w t u v log (has_returned u.state) (is_spent w t u.state) (place_at w u.state.machine.cpu.ia) refl refl (ap has_ended at) g h e
log_going w t u v Awaiting log at h g e = let n : None ≡ Some v = h in absurd cc
log_going w t u v (Ended x) log at h g e = let n : None ≡ Some v = h in absurd cc
log_going w t u v (Holding x) log at h g e = by (same_due x.due Nothing) x.subject h e
  where
    by : (nothing subject : Bool) → (if nothing then Some (if subject then executed w t u else instruction_executed w t u) else None) ≡ Some v →
        logged log ≡ noted w (trace_of w t u ++ (if subject then visits_of w t u else take 1 (visits_of w t u))) → HasLog w t v log
    by false subject k f = let n : None ≡ Some v = k in absurd cc
    by true true k f = subst (λ (y : TaskPart). HasLog w t y log) (same_Some _ v k)
        (log_executed w t u log (ap has_ended at) (g.inside (ap is_inside at)).0 g (f ∙ noted-append w (trace_of w t u) (visits_of w t u)))
    by true false k f = subst (λ (y : TaskPart). HasLog w t y log) (same_Some _ v k)
        (log_whole w t u log (subject_place w (visits_of w t u)) refl (ap has_ended at) (g.inside (ap is_inside at)).0 g f)

log_done : (w : World) (t : ℕ) (u v : TaskPart) (stage : Stage) (log : List Item) → u.stage ≡ stage → task_done w t u stage ≡ Some v → GoesAt w t u →
    logged log ≡ noted w (trace_of w t u ++ visits_in_hand stage (visits_of w t u)) → HasLog w t v log
log_done w t u v stage log at h g e = log_going w t u v stage log at (goes_on w t u v stage h) g e

-- what holds of a core after every list of events
pub record Logged (w : World) (c : CoreState) : Type 0 where
  pub count : length c.parts.tasks ≡ length w.job.tasks
  pub go : AllGo w c.parts
  pub logs : HaveLogs w c.parts c.logs

-- what holds of each task and its log, where one task and its log change
pub all_logs : (P : ℕ → TaskPart → List Item → Type 0) (c : CoreState) (d : Parts) (t : ℕ) (u : TaskPart) (logs : ℕ → List Item) → d.tasks ≡ set c.parts.tasks t u → t < length c.parts.tasks → P t u (logs t) →
    ((s : ℕ) → s ≢ t → logs s ≡ c.logs s) → ((s : ℕ) → s < length c.parts.tasks → P s (part_of c.parts s) (c.logs s)) → (s : ℕ) → s < length d.tasks → P s (part_of d s) (logs s)
all_logs P c d t u logs e lt own others is s l =
    let inside : s < length c.parts.tasks = subst (λ (n : ℕ). s < n) (ap (λ (x : List TaskPart). length x) e ∙ length-set c.parts.tasks t u) l in
    let there : part_of d s ≡ get_or (set c.parts.tasks t u) s (first_part no_task) = ap (λ (x : List TaskPart). get_or x s (first_part no_task)) e in
    elim (cases_eq s t) [
      | inl same ↦ subst (λ (x : TaskPart). P s x (logs s)) (sym (there ∙ get_or-set_at c.parts.tasks t s u (first_part no_task) same lt)) (subst (λ (n : ℕ). P n u (logs n)) (sym same) own)
      | inr other ↦ subst (λ (x : TaskPart). P s x (logs s)) (sym (there ∙ get_or-set_other c.parts.tasks t s u (first_part no_task) other)) (subst (P s (part_of c.parts s)) (sym (others s other)) (is s inside))
    ]

-- after one task's event
pub one_log : (w : World) (P : ℕ → TaskPart → List Item → Type 0) (c : CoreState) (d : Parts) (t : ℕ) (u : TaskPart) (shown : Shown) → d.tasks ≡ set c.parts.tasks t u → t < length c.parts.tasks → P t u (log_after w t u shown (c.logs t)) →
    ((s : ℕ) → s < length c.parts.tasks → P s (part_of c.parts s) (c.logs s)) → (s : ℕ) → s < length d.tasks → P s (part_of d s) (if nat_eq t s then log_after w s (part_of d s) shown (c.logs s) else c.logs s)
one_log w P c d t u shown e lt own is = all_logs P c d t u (λ s. if nat_eq t s then log_after w s (part_of d s) shown (c.logs s) else c.logs s) e lt
    (subst (λ (b : Bool). P t u (if b then log_after w t (part_of d t) shown (c.logs t) else c.logs t)) (sym (eq-eqb t t refl)) (subst (λ (x : TaskPart). P t u (log_after w t x shown (c.logs t))) (sym part) own))
    (λ s other. ap (λ (b : Bool). if b then log_after w s (part_of d s) shown (c.logs s) else c.logs s) (ne_eqb t s (λ e. other (sym e)))) is
  where
    part : part_of d t ≡ u
    part = ap (λ (x : List TaskPart). get_or x t (first_part no_task)) e ∙ get_or-set_at c.parts.tasks t t u (first_part no_task) refl lt

-- after a change of the sessions that a task controls
pub changed_log : (w : World) (P : ℕ → TaskPart → List Item → Type 0) (c : CoreState) (closes : Bool) (s p tag : ℕ) (x : Stepped) (logs : ℕ → List Item) (by : Changed w c.parts closes s p x) → ((u : ℕ) → logs u ≡ logs_given c.logs by.task p tag u) →
    P by.task (record (part_of c.parts by.task) { changed = (part_of c.parts by.task).changed + 1 }) (Gave p tag ∷ c.logs by.task) →
    ((t : ℕ) → t < length c.parts.tasks → P t (part_of c.parts t) (c.logs t)) → (t : ℕ) → t < length x.parts.tasks → P t (part_of x.parts t) (logs t)
changed_log w P c closes s p tag x logs by given own is = all_logs P c x.parts by.task (record (part_of c.parts by.task) { changed = (part_of c.parts by.task).changed + 1 }) logs (ap (λ (y : Stepped). y.parts.tasks) by.made) by.there
    (subst (P by.task (record (part_of c.parts by.task) { changed = (part_of c.parts by.task).changed + 1 })) (sym (given by.task ∙ ap (λ (b : Bool). if b then Gave p tag ∷ c.logs by.task else c.logs by.task) (eq-eqb by.task by.task refl))) own)
    (λ u other. given u ∙ ap (λ (b : Bool). if b then Gave p tag ∷ c.logs u else c.logs u) (ne_eqb by.task u (λ e. other (sym e)))) is

log_changed : (w : World) (c : CoreState) (closes : Bool) (s p tag : ℕ) (x : Stepped) (logs : ℕ → List Item) (by : Changed w c.parts closes s p x) → ((u : ℕ) → logs u ≡ logs_given c.logs by.task p tag u) → Logged w c →
    (length x.parts.tasks ≡ length w.job.tasks) × HaveLogs w x.parts logs
log_changed w c closes s p tag x logs by given is = (
  ap (λ (y : Stepped). length y.parts.tasks) by.made ∙ (length-set c.parts.tasks by.task _ ∙ is.count),
  changed_log w (λ n y log. HasLog w n y log) c closes s p tag x logs by given (is.logs by.task by.there) is.logs,
)

log_step : (w : World) (c : CoreState) (e : Event) (x : Stepped) → IsWorld w → parts_step w c.parts e ≡ Some x → Logged w c → (length x.parts.tasks ≡ length w.job.tasks) × HaveLogs w x.parts (core_after w c e x).core.logs
log_step w c (Fetch t) x world h is =
    let u : TaskPart = part_of c.parts t.0 in
    let at = exists_by (nat_lt t.0 (length c.parts.tasks)) (option_map (cell_fetched w c.parts t.0 u) (place_due w t.0 u u.stage)) x h in
    let lt : t.0 < length c.parts.tasks = ltb-true t.0 (length c.parts.tasks) at.0 in
    let p = got ℕ (cell_fetched w c.parts t.0 u) (place_due w t.0 u u.stage) x at.1 in
    let seen = world.seen t.0 (subst (λ (n : ℕ). t.0 < n) is.count lt) in
    let own = log_fetch w t.0 u u.stage p.0 (word_at c.parts.cells p.0) Nothing (c.logs t.0) seen world.places refl p.1 (is.logs t.0 lt) in
    subst (λ (y : Stepped). (length y.parts.tasks ≡ length w.job.tasks) × HaveLogs w y.parts (core_after w c (Fetch t) y).core.logs) (sym p.2)
    (length-set c.parts.tasks t.0 _ ∙ is.count, one_log w (λ n y log. HasLog w n y log) c (cell_fetched w c.parts t.0 u p.0).parts t.0 (with_stage u (Holding (hand_at w c.parts (is_awaiting u.stage) p.0))) (Fetched (word_at c.parts.cells p.0)) refl lt own is.logs)
log_step w c (Mark t) x world h is =
    let u : TaskPart = part_of c.parts t.0 in
    let at = exists_by (nat_lt t.0 (length c.parts.tasks)) (option_map (fact_marked w c.parts t.0 u) (in_hand Marking u.stage)) x h in
    let lt : t.0 < length c.parts.tasks = ltb-true t.0 (length c.parts.tasks) at.0 in
    let p = got Hand (fact_marked w c.parts t.0 u) (in_hand Marking u.stage) x at.1 in
    let found : FactSet = set_of w c.parts (tag_session p.0.cell.tag) p.0.place.0 in
    let stage = (in_hand-stage Marking u.stage p.0 p.1).0 in
    let before : logged (c.logs t.0) ≡ noted w (trace_of w t.0 u ++ visits_in_hand (Holding p.0) (visits_of w t.0 u)) = subst (λ (s : Stage). logged (c.logs t.0) ≡ noted w (trace_of w t.0 u ++ visits_in_hand s (visits_of w t.0 u))) stage (is.logs t.0 lt) in
    subst (λ (y : Stepped). (length y.parts.tasks ≡ length w.job.tasks) × HaveLogs w y.parts (core_after w c (Mark t) y).core.logs) (sym p.2)
    (length-set c.parts.tasks t.0 _ ∙ is.count, one_log w (λ n y log. HasLog w n y log) c (fact_marked w c.parts t.0 u p.0).parts t.0 _ (Marked found) refl lt (found_logged w t.0 u found (c.logs t.0) ∙ before) is.logs)
log_step w c (Lift t) x world h is =
    let u : TaskPart = part_of c.parts t.0 in
    let at = exists_by (nat_lt t.0 (length c.parts.tasks)) (option_map (lifted w c.parts t.0 u) (in_hand Lifting u.stage)) x h in
    let lt : t.0 < length c.parts.tasks = ltb-true t.0 (length c.parts.tasks) at.0 in
    let p = got Hand (lifted w c.parts t.0 u) (in_hand Lifting u.stage) x at.1 in
    let taken : Bool = same_cell (word_at c.parts.cells p.0.place.0) p.0.cell in
    let stage = (in_hand-stage Lifting u.stage p.0 p.1).0 in
    let before : logged (c.logs t.0) ≡ noted w (trace_of w t.0 u ++ visits_in_hand (Holding p.0) (visits_of w t.0 u)) = subst (λ (s : Stage). logged (c.logs t.0) ≡ noted w (trace_of w t.0 u ++ visits_in_hand s (visits_of w t.0 u))) stage (is.logs t.0 lt) in
    let tasks : (lifted w c.parts t.0 u p.0).parts.tasks ≡ set c.parts.tasks t.0 (with_due u p.0 Nothing) = ap (λ (ts : List TaskPart). set ts t.0 (with_due u p.0 Nothing)) (lifted_tasks (same_cell (word_at c.parts.cells p.0.place.0) p.0.cell) c.parts p.0.place.0 (original_under w p.0.place.0 p.0.cell)) in
    subst (λ (y : Stepped). (length y.parts.tasks ≡ length w.job.tasks) × HaveLogs w y.parts (core_after w c (Lift t) y).core.logs) (sym p.2)
    (ap (λ (ts : List TaskPart). length ts) tasks ∙ (length-set c.parts.tasks t.0 _ ∙ is.count), one_log w (λ n y log. HasLog w n y log) c (lifted w c.parts t.0 u p.0).parts t.0 (with_due u p.0 Nothing) (Lifted taken) tasks lt (lifted_logged w t.0 (with_due u p.0 Nothing) taken (c.logs t.0) ∙ before) is.logs)
log_step w c (Do t) x world h is =
    let u : TaskPart = part_of c.parts t.0 in
    let at = exists_by (nat_lt t.0 (length c.parts.tasks)) (option_map (done_by c.parts t.0) (task_done w t.0 u u.stage)) x h in
    let lt : t.0 < length c.parts.tasks = ltb-true t.0 (length c.parts.tasks) at.0 in
    let v = got TaskPart (done_by c.parts t.0) (task_done w t.0 u u.stage) x at.1 in
    subst (λ (y : Stepped). (length y.parts.tasks ≡ length w.job.tasks) × HaveLogs w y.parts (core_after w c (Do t) y).core.logs) (sym v.2)
    (length-set c.parts.tasks t.0 v.0 ∙ is.count, one_log w (λ n y log. HasLog w n y log) c (done_by c.parts t.0 v.0).parts t.0 v.0 Done refl lt (log_done w t.0 u v.0 u.stage (c.logs t.0) refl v.1 (is.go t.0 lt) (is.logs t.0 lt)) is.logs)
log_step w c (Plant s p) x world h is = elim (plant_cases w c.parts s.0 p.0 x h) [
  | inl whole ↦
      let tasks : c.parts.tasks ≡ x.parts.tasks = ap (λ (y : Stepped). y.parts.tasks) (sym whole.made) in (
        ap (λ (ts : List TaskPart). length ts) (sym tasks) ∙ is.count,
        subst (λ (ts : List TaskPart). (t : ℕ) → t < length ts → HasLog w t (get_or ts t (first_part no_task)) ((core_after w c (Plant s p) x).core.logs t)) tasks
            (λ t l. subst (HasLog w t (part_of c.parts t)) (sym (logs_whole w c s p x whole t)) (is.logs t l)),
      )
  | inr by ↦ log_changed w c false s.0 p.0 (window_tag s.0) x (core_after w c (Plant s p) x).core.logs by (logs_plant w c s p x by) is
]
log_step w c (Close s p) x world h is =
    let by : Changed w c.parts true s.0 p.0 x = close_by w c.parts s.0 p.0 x h in
    log_changed w c true s.0 p.0 (2 * s.0) x (core_after w c (Close s p) x).core.logs by (logs_close w c s p x by) is

none_yet : (m : Memory) (w : World) (s : State) → s.done ≡ 0 → [] ≡ noted w ((solo_run m s.done s).trace ++ [])
none_yet m w s zero_done =
    let start : (solo_run m 0 s).trace ≡ [] = ap (λ (r : Run). r.trace) (run_zero m s []) in
    sym (ap (λ (n : ℕ). noted w ((solo_run m n s).trace ++ [])) zero_done ∙ ap (λ (V : List Visit). noted w (V ++ [])) start)

log_first : (w : World) → Logged w (core_start w)
log_first w = record {
  count = length-map w.job.tasks first_part;
  go = all_first w;
  logs = λ t l.
      let lt : t < length w.job.tasks = subst (λ (n : ℕ). t < n) (length-map w.job.tasks first_part) l in
      subst (λ (u : TaskPart). HasLog w t u []) (sym (get_or-map first_part w.job.tasks t no_task (first_part no_task) lt)) (none_yet (memory_in w t) w (first_state (task_of w.job t)) refl);
}

pub got_step : (w : World) (d : CoreState) (e : Event) (o : Option Stepped) (y : CoreStepped) → option_map (core_after w d e) o ≡ Some y → (x : Stepped) × (o ≡ Some x) × ((core_after w d e x).core ≡ y.core)
got_step w d e None y h = let n : None ≡ Some y = h in absurd cc
got_step w d e (Some x) y h = (x, refl, ap (λ (z : CoreStepped). z.core) (same_Some (core_after w d e x) y h))

log_from : (w : World) (d c : CoreState) (events : List Event) → IsWorld w → Logged w d → core_from w d events ≡ Some c → Logged w c
log_from w d c [] world is h = subst (λ (x : CoreState). Logged w x) (same_Some d c h) is
log_from w d c (e ∷ events) world is h =
    let at = through (λ b. core_from w b events) (core_step w d e) c h in
    let made = got_step w d e (parts_step w d.parts e) at.0 at.1 in
    let step = log_step w d e made.0 world made.1 is in
    let next : Logged w (core_after w d e made.0).core = record { count = step.0; go = all_step w d.parts e made.0 made.1 is.go; logs = step.1 } in
    log_from w at.0.core c events world (subst (λ (x : CoreState). Logged w x) made.2 next) at.2

-- after every list of events
pub run_logs : (w : World) (c : CoreState) (events : List Event) → IsWorld w → core_run w events ≡ Some c → HaveLogs w c.parts c.logs
run_logs w c events world h = (log_from w (core_start w) c events world (log_first w) h).logs
