-- What the passes of a phase's tasks leave of the sessions that the tasks control.
use Rattle.std.specs.Prelude.{◌≡◌, ℕ, ◌+◌, ◌*◌, ◌<◌, ◌≤◌, ◌^◌, true, false, List, [], length, get_or, All, AllPairs}
use Rattle.std.specs.List.{sum_by}
use Rattle.cov_base.specs.declared.facts.Fact.{Fact}
use Rattle.cov_base.specs.declared.numbers.TaskNo.{TaskNo}
use Rattle.cov_base.specs.Meaning.{has_fact}
use Rattle.module_area.specs.Meaning.{facts_at, first_control, PlanView, ControlledView, place_of, has_place, has_session}
use Rattle.module_area.specs.Notes.{Notes, calls}
use Rattle.module_area.specs.Rule.{has_task, is_controller}
use Rattle.module_area.specs.declared.cells.Cell.{Cell}
use Rattle.task_run.specs.Meaning.{at_places, facts_under, tag_by, places_in_all, Walk, least_set, last_control, opened_by, closed_by, beats_by}
use Rattle.task_run.specs.Observed.{IsRecorded}
use Rattle.job_run.specs.Meaning.{AreFetches, facts_met}

abbrev pub no_controlled : ControlledView
no_controlled = record { session = 0; by = 0; places = [] }

-- the task controls the session, and this is one of its places
pub record IsOwn (plan : PlanView) (t s p : ℕ) : Type 0 where
  pub at : ℕ
  pub exists : at < length plan.controlled
  pub session : (get_or plan.controlled at no_controlled).session ≡ s
  pub by : (get_or plan.controlled at no_controlled).by ≡ t
  pub place : has_place (get_or plan.controlled at no_controlled).places p ≡ true

-- the task's run shows the fact at the place, and where the session is the task's own, while it is open
pub record IsOf (plan : PlanView) (walks : ℕ → Walk) (t s p : ℕ) (f : Fact) : Type 0 where
  pub shows : has_fact (facts_at (place_of plan.places p) (walks t).trace) f ≡ true
  pub own : IsOwn plan t s p → has_fact (least_set plan walks t s (place_of plan.places p)) f ≡ true

-- the run never opens the session
abbrev pub NeverOpens : PlanView → (ℕ → Walk) → ℕ → ℕ → Type 0
NeverOpens plan walks t s = has_session (opened_by (last_control plan walks t)) s ≡ false

-- The pass of a task has these fetches, one for each visit of its run at a place, whose tags never fall at a place, up to the
-- highest that it has seen there. It has the facts of the visits whose fetch answered a session's odd tag, or met the
-- session's set full, and has marked no others.
pub record HasFetched (plan : PlanView) (walks : ℕ → Walk) (t : ℕ) (n : Notes) (fetches : List (ℕ × Cell)) : Type 0 where
  pub are : AreFetches plan t (walks t).calls fetches (at_places plan.places (walks t).trace)
  pub rising : AllPairs (λ x y. x.0 ≡ y.0 → x.1.tag ≤ y.1.tag) fetches
  pub most : All (λ x. x.1.tag ≤ n.seen x.0) fetches
  -- where the task controls a session the last tag is the one that its calls have given last
  pub last : (p : ℕ) → is_controller plan t p ≡ true → n.last p ≡ tag_by plan p (first_control plan t) 0 (walks t).calls
  pub shown : (s p : ℕ) (f : Fact) → has_fact (facts_under plan s p fetches (at_places plan.places (walks t).trace)) f ≡ true
      → IsRecorded n s p f
  pub nothing_else : (s p : ℕ) (f : Fact) → n.marked s p f ≡ true
      → has_fact (facts_under plan s p fetches (at_places plan.places (walks t).trace)) f ≡ true
  pub beats : n.beats ≡ beats_by plan (first_control plan t) 0 (walks t).calls fetches (at_places plan.places (walks t).trace) []

-- What the pass of a task has after its run: of each of its own sessions the facts of the run while it is open, and no
-- fact that the run doesn't show; no tag as high as that of an own session that it never opened; one plant for each place
-- of each session that it opened, and one close for each of those that it closed; so few calls that those of 64 tasks are
-- no more than a pass may make; and its fetches.
pub record Leaves (plan : PlanView) (walks : ℕ → Walk) (t : ℕ) (n : Notes) : Type 0 where
  pub least : (s p : ℕ) (f : Fact) → IsOwn plan t s p → has_fact (least_set plan walks t s (place_of plan.places p)) f ≡ true
      → IsRecorded n s p f
  pub most : (s p : ℕ) (f : Fact) → n.marked s p f ≡ true → IsOf plan walks t s p f
  pub last : (s p : ℕ) → IsOwn plan t s p → NeverOpens plan walks t s → n.last p + 1 < 2 * s
  pub plants : n.tally.plants ≡ places_in_all plan (opened_by (last_control plan walks t))
  pub closes : n.tally.closes ≡ places_in_all plan (closed_by (last_control plan walks t))
  pub few : calls n < 2 ^ 42
  pub fetches : List (ℕ × Cell)
  pub fetched : HasFetched plan walks t n fetches

-- a mark is of the run of one of these tasks
pub record IsOfOne (plan : PlanView) (walks : ℕ → Walk) (tasks : List TaskNo) (s p : ℕ) (f : Fact) : Type 0 where
  pub task : ℕ
  pub there : has_task tasks task ≡ true
  pub is : IsOf plan walks task s p f

-- the root has the fetches of these tasks' passes
pub record HaveFetched (plan : PlanView) (walks : ℕ → Walk) (tasks : List TaskNo) (n : Notes)
    (fetches : ℕ → List (ℕ × Cell)) : Type 0 where
  pub each : (t : ℕ) → has_task tasks t ≡ true
      → AreFetches plan t (walks t).calls (fetches t) (at_places plan.places (walks t).trace)
  pub rising : (t : ℕ) → has_task tasks t ≡ true → AllPairs (λ x y. x.0 ≡ y.0 → x.1.tag ≤ y.1.tag) (fetches t)
  pub most : (t : ℕ) → has_task tasks t ≡ true → All (λ x. x.1.tag ≤ n.seen x.0) (fetches t)
  pub last : (t p : ℕ) → has_task tasks t ≡ true → is_controller plan t p ≡ true
      → n.last p ≡ tag_by plan p (first_control plan t) 0 (walks t).calls
  pub shown : (s p : ℕ) (f : Fact) → has_fact (facts_met plan walks fetches s p tasks) f ≡ true → IsRecorded n s p f
  pub nothing_else : (s p : ℕ) (f : Fact) → n.marked s p f ≡ true → has_fact (facts_met plan walks fetches s p tasks) f ≡ true
  pub beats : (t : ℕ) → has_task tasks t ≡ true
      → n.back t ≡ beats_by plan (first_control plan t) 0 (walks t).calls (fetches t) (at_places plan.places (walks t).trace) []

-- and what the root has once the passes of these tasks are joined to it
pub record JoinsTasks (plan : PlanView) (walks : ℕ → Walk) (tasks : List TaskNo) (old new : Notes) : Type 0 where
  pub least : (t s p : ℕ) (f : Fact) → has_task tasks t ≡ true → IsOwn plan t s p
      → has_fact (least_set plan walks t s (place_of plan.places p)) f ≡ true → IsRecorded new s p f
  pub most : (s p : ℕ) (f : Fact) → new.marked s p f ≡ true → IsOfOne plan walks tasks s p f
  pub last : (t s p : ℕ) → has_task tasks t ≡ true → IsOwn plan t s p → NeverOpens plan walks t s → new.last p + 1 < 2 * s
  pub plants : new.tally.plants ≡ old.tally.plants
      + sum_by (λ (t : TaskNo). places_in_all plan (opened_by (last_control plan walks t.0))) tasks
  pub closes : new.tally.closes ≡ old.tally.closes
      + sum_by (λ (t : TaskNo). places_in_all plan (closed_by (last_control plan walks t.0))) tasks
  pub fetches : ℕ → List (ℕ × Cell)
  pub fetched : HaveFetched plan walks tasks new fetches
  pub own : new.beats ≡ old.beats
