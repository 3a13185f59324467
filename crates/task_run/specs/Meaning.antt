-- What the claim of the program says by this crate's clauses.
use Rattle.std.specs.Prelude.{ℕ, zero, suc, ◌+◌, if◌then◌else◌, Option, List, [], ◌∷◌, ◌++◌, ◌*◌, Bool, ◌&&◌, nat_eq, ◌-◌, ◌==◌, Some, None, length, ◌≡◌, true, false, not, take}
use Rattle.cov_base.specs.Meaning.{Memory, half_at, wrap, State, CpuView, Machine, Visit, FactSet, no_facts, with_fact, fact_of, has_fact, union}
use Rattle.s370_exec.specs.Meaning.{call_of, is_execute, solo_step, has_returned}
use Rattle.s370_state.specs.declared.endings.Next.{Next}
use Rattle.s370_state.specs.declared.endings.Next.TheVariants.{On, Ended}
use Rattle.s370_state.specs.declared.endings.Ending.{Ending}
use Rattle.s370_state.specs.declared.endings.Ending.TheVariants.{Returned, Spent}
use Rattle.module_area.specs.declared.cells.Cell.{Cell}
use Rattle.module_area.specs.declared.places.Place.{Place}
use Rattle.module_area.specs.declared.parties.Beat.{Beat}
use Rattle.module_area.specs.declared.parties.Beat.TheVariants.{Met}
use Rattle.module_area.specs.Meaning.{PlanView, kind_at, is_place, ControlView, has_place, places_under, to_open, control_after, first_control, facts_at, facts_of_all, has_session, gives}
use Rattle.std.specs.List.{sum_by, filter}
use Rattle.cov_base.specs.declared.numbers.SessNo.{SessNo}
use Rattle.cov_base.specs.declared.facts.Fact.{Fact}
use Rattle.cov_base.specs.declared.numbers.TaskNo.{TaskNo}

-- 1. Instructions: what an observer is shown of them, and the course of a task with a hook behind each.

-- the address behind the call that the state's instruction is, or executes: that of EX, which has 4 bytes, or of SVC
abbrev pub behind_call : Memory → Machine → ℕ
behind_call m s = wrap (s.cpu.ia + (if is_execute (half_at m s.bytes s.cpu.ia) then 4 else 2))

-- The course of a task, of which something is done behind each instruction.

-- what is left behind an instruction: the processor, how the task goes on, and the key by which it does later
pub record Behind (K : Type 0) : Type 0 where
  pub cpu : CpuView
  pub next : Next
  pub key : K

-- what is done behind an instruction that has left the machine so, and how the task would go on
abbrev pub DoneBehind : Type 0 → Type 0
DoneBehind K = K → Memory → Machine → Next → Behind K

-- nothing is done
abbrev pub nothing : {K : Type 0} → DoneBehind K
nothing k m s next = record { cpu = s.cpu; next = next; key = k }

-- the visits of an instruction, and the supervisor call that it executes, if it is one
pub record Turn : Type 0 where
  pub visits : List Visit
  pub call : Option ℕ

abbrev pub turn_of : Memory → State → Turn
turn_of m s = record { visits = (solo_step m s).visits; call = call_of m s }

abbrev pub visits_of : List Turn → List Visit
visits_of [] = []
visits_of (t ∷ ts) = t.visits ++ visits_of ts

abbrev pub calls_of : List Turn → List (Option ℕ)
calls_of [] = []
calls_of (t ∷ ts) = t.call ∷ calls_of ts

-- A whole run, turn by turn: its ending, the last state, and the instruction address before the step that ended it, or, where
-- none did, as it stands.
pub record Tour : Type 0 where
  pub ending : Ending
  pub state : State
  pub at : ℕ
  pub turns : List Turn

abbrev pub ends_here : Ending → State → Tour
ends_here e s = record { ending = e; state = s; at = s.machine.cpu.ia; turns = [] }

abbrev pub turned : List Turn → Tour → Tour
turned turns tour = record { ending = tour.ending; state = tour.state; at = tour.at; turns = turns ++ tour.turns }

-- one instruction with what is done behind it
abbrev pub step_behind : {K : Type 0} → DoneBehind K → Memory → K → State → Behind K
step_behind after m k s = after k m (solo_step m s).state.machine (solo_step m s).next

abbrev pub with_cpu : State → CpuView → State
with_cpu s cpu = record { machine = record { cpu = cpu; bytes = s.machine.bytes }; io = s.io; done = s.done }

abbrev pub state_behind : {K : Type 0} → DoneBehind K → Memory → K → State → State
state_behind after m k s = with_cpu (solo_step m s).state (step_behind after m k s).cpu

-- by how the task goes on behind an instruction that began at this address
abbrev pub tour_behind : (State → Tour) → ℕ → State → Next → Tour
tour_behind rest began s On = rest s
tour_behind rest began s (Ended e) = record { ending = e; state = s; at = began; turns = [] }

-- with so many instructions left of the budget
unfoldable pub course_on : {K : Type 0} → DoneBehind K → Memory → ℕ → K → State → Tour
course_on after m zero k s = ends_here (if has_returned s then Returned else Spent) s
course_on after m (suc n) k s =
    if has_returned s then ends_here Returned s
    else turned (turn_of m s ∷ [])
    (tour_behind (λ t. course_on after m n (step_behind after m k s).key t) s.machine.cpu.ia (state_behind after m k s)
    (step_behind after m k s).next)

-- 2. Fetches: what the observer over planted cells has met.

-- What fetches have answered, visit by visit.

-- the visits at places
abbrev pub at_places : List Place → List Visit → List Visit
at_places places [] = []
at_places places (v ∷ vs) = if is_place places v.at then v ∷ at_places places vs else at_places places vs

-- by place and cell of its fetch the visit was begun at the place, and the fetch answered the odd tag of the session
abbrev pub is_under : ℕ → ℕ → ℕ × Cell → Visit → Bool
is_under s p x v = (nat_eq x.0 p && nat_eq (x.1.tag + 1) (2 * s)) && v.begun

-- the facts of those of the visits
abbrev pub facts_under : PlanView → ℕ → ℕ → List (ℕ × Cell) → List Visit → FactSet
facts_under plan s p [] vs = no_facts
facts_under plan s p (x ∷ xs) [] = no_facts
facts_under plan s p (x ∷ xs) (v ∷ vs) =
    if is_under s p x v then with_fact (facts_under plan s p xs vs) (fact_of (kind_at plan p) v.went)
    else facts_under plan s p xs vs

-- 3. Runs: how tasks run over planted cells, and the sessions that they open and close.

-- The supervisor calls of a run, and what they make of the sessions that the task controls.

-- the control after these calls
abbrev pub control_by : ControlView → List (Option ℕ) → ControlView
control_by c [] = c
control_by c (k ∷ ks) = control_by (control_after c k) ks

-- the number of the session's places, and those of several sessions together
abbrev pub places_of : PlanView → Option SessNo → ℕ
places_of plan None = 0
places_of plan (Some s) = length (places_under plan s.0)

abbrev pub places_in_all : PlanView → List SessNo → ℕ
places_in_all plan sessions = sum_by (λ (s : SessNo). places_of plan (Some s)) sessions

-- the tag of place p once this session, if there is one, was opened there, or closed; before that it had this one
abbrev pub tag_opened : PlanView → ℕ → ℕ → Option SessNo → ℕ
tag_opened plan p tag None = tag
tag_opened plan p tag (Some s) = if has_place (places_under plan s.0) p then 2 * s.0 - 1 else tag

abbrev pub tag_closed : PlanView → ℕ → ℕ → Option SessNo → ℕ
tag_closed plan p tag None = tag
tag_closed plan p tag (Some s) = if has_place (places_under plan s.0) p then 2 * s.0 else tag

abbrev pub tag_after : PlanView → ℕ → ControlView → ℕ → Option ℕ → ℕ
tag_after plan p c tag None = tag
tag_after plan p c tag (Some k) =
    if k == 4 then tag_opened plan p tag (to_open c) else (if k == 5 then tag_closed plan p tag c.opened else tag)

-- the tag that the place has after these calls: of session s, 2s-1 while it is open and 2s behind that
abbrev pub tag_by : PlanView → ℕ → ControlView → ℕ → List (Option ℕ) → ℕ
tag_by plan p c tag [] = tag
tag_by plan p c tag (k ∷ ks) = tag_by plan p (control_after c k) (tag_after plan p c tag k) ks

-- What a task's run fetches and gives, as its part of the race.

-- more beats: these fetches, one after the other
abbrev pub mets : List (ℕ × Cell) → List Beat → List Beat
mets [] bs = bs
mets (x ∷ xs) bs = mets xs (Met x.0 x.1.tag ∷ bs)

-- of the fetches at these visits those of the instruction before which i were done
abbrev pub pairs_at : ℕ → List (ℕ × Cell) → List Visit → List (ℕ × Cell)
pairs_at i [] vs = []
pairs_at i (x ∷ xs) [] = []
pairs_at i (x ∷ xs) (v ∷ vs) = if nat_eq v.before i then x ∷ pairs_at i xs vs else pairs_at i xs vs

-- and the tags of this session, if there is one, as it is opened, and closed
abbrev pub open_beats : PlanView → Option SessNo → List Beat → List Beat
open_beats plan None bs = bs
open_beats plan (Some s) bs = gives (2 * s.0 - 1) (places_under plan s.0) bs

abbrev pub end_beats : PlanView → Option SessNo → List Beat → List Beat
end_beats plan None bs = bs
end_beats plan (Some s) bs = gives (2 * s.0) (places_under plan s.0) bs

abbrev pub call_beats : PlanView → ControlView → Option ℕ → List Beat → List Beat
call_beats plan c None bs = bs
call_beats plan c (Some k) bs =
    if k == 4 then open_beats plan (to_open c) bs else (if k == 5 then end_beats plan c.opened bs else bs)

-- instruction by instruction, of which i were done before, its fetches and then the tags that its call gives
abbrev pub beats_by : PlanView → ControlView → ℕ → List (Option ℕ) → List (ℕ × Cell) → List Visit → List Beat → List Beat
beats_by plan c i [] xs vs bs = bs
beats_by plan c i (k ∷ ks) xs vs bs =
    beats_by plan (control_after c k) (i + 1) ks xs vs (call_beats plan c k (mets (pairs_at i xs vs) bs))

-- The course that a task takes.

-- how it runs over its area's plan, from its memory, budget and first state
abbrev pub Course : Type 0
Course = PlanView → Memory → ℕ → State → Tour

-- alone
abbrev pub solo : Course
solo plan m budget s = course_on nothing m budget (tt {0}) s

-- the visits of a run and the calls of its instructions
pub record Walk : Type 0 where
  pub trace : List Visit
  pub calls : List (Option ℕ)

abbrev pub walk : Course → PlanView → Memory → ℕ → State → Walk
walk course plan m budget s = let t = course plan m budget s in record { trace = visits_of t.turns; calls = calls_of t.turns }

-- What a controlled session's set at a place lies between, by the runs of the phase's tasks; and which sessions a run
-- opens and closes.

-- the session is the open one
abbrev pub is_opened : ℕ → Option SessNo → Bool
is_opened s None = false
is_opened s (Some t) = nat_eq t.0 s

-- the visits of the instructions before which the session is open: those behind the call that opens it, up to and
-- including the one that closes it
abbrev pub visits_under : ControlView → List (Option ℕ) → ℕ → List Visit → List Visit
visits_under c calls s visits = filter (λ (v : Visit). is_opened s (control_by c (take v.before calls)).opened) visits

-- the task's control after its run; the sessions that the run has opened, and those of them that it has closed
abbrev pub last_control : PlanView → (ℕ → Walk) → ℕ → ControlView
last_control plan walks t = control_by (first_control plan t) (walks t).calls

abbrev pub opened_by : ControlView → List SessNo
opened_by d = take d.next d.sessions

abbrev pub closed_by : ControlView → List SessNo
closed_by d = filter (λ (s : SessNo). not (is_opened s.0 d.opened)) (opened_by d)

-- The facts at the place that session s of this controller has at least: those of the controller's own visits while the
-- session is open.
abbrev pub least_set : PlanView → (ℕ → Walk) → ℕ → ℕ → Place → FactSet
least_set plan walks by s place = facts_at place (visits_under (first_control plan by) (walks by).calls s (walks by).trace)

-- the traces of the other tasks
abbrev pub traces_but : (ℕ → Walk) → List TaskNo → ℕ → List (List Visit)
traces_but walks [] by = []
traces_but walks (t ∷ ts) by = if nat_eq t.0 by then traces_but walks ts by else (walks t.0).trace ∷ traces_but walks ts by

-- The facts that it has at most: none where its controller never opens it, else those and all that the other tasks of
-- the phase show there.
abbrev pub most_set : PlanView → (ℕ → Walk) → ℕ → ℕ → Place → FactSet
most_set plan walks by s place =
    if has_session (opened_by (last_control plan walks by)) s
    then union (least_set plan walks by s place) (facts_of_all place (traces_but walks plan.tasks by)) else no_facts

-- no fewer facts than the least set, and no others than the most
pub record IsBetween (fewest all set : FactSet) : Type 0 where
  pub least : (f : Fact) → has_fact fewest f ≡ true → has_fact set f ≡ true
  pub most : (f : Fact) → has_fact set f ≡ true → has_fact all f ≡ true

-- how many places are opened, and closed, by the runs of these tasks: each session's places count at each of both
abbrev pub opened_places : PlanView → (ℕ → Walk) → ℕ
opened_places plan walks = sum_by (λ (t : TaskNo). places_in_all plan (opened_by (last_control plan walks t.0))) plan.tasks

abbrev pub closed_places : PlanView → (ℕ → Walk) → ℕ
closed_places plan walks = sum_by (λ (t : TaskNo). places_in_all plan (closed_by (last_control plan walks t.0))) plan.tasks
