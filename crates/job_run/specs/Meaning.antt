-- What the claim of the program says by this crate's clauses.
use Rattle.std.specs.Prelude.{◌≡◌, ◌≢◌, ℕ, suc, ◌+◌, ◌*◌, ◌<◌, ◌≤◌, true, false, not, nat_eq, Option, List, [], length, take, sum_by, count_by, All, AllPairs, Some, ◌∷◌, ◌++◌, get_or}
use Rattle.cov_base.specs.declared.facts.Fact.{Fact}
use Rattle.cov_base.specs.declared.numbers.TaskNo.{TaskNo}
use Rattle.cov_base.specs.Meaning.{has_fact, is_within, no_facts, union, Visit, FactSet}
use Rattle.module_area.specs.Meaning.{fact_count, full_places, full_pairs, facts_at, visits_at_places, FinalsView, set_at, PlanView, ControlledView, place_of, kind_at, window_at, has_place, is_over, first_control, tag_session, Race, IsRace, part, window_beats, has_task}
use Rattle.module_area.specs.declared.cells.Cell.{Cell}
use Rattle.module_area.specs.declared.tallies.Tally.{Tally}
use Rattle.task_run.specs.Meaning.{Tour, visits_of, at_places, facts_under, tag_by, Walk, Course, solo, walk, IsBetween, least_set, most_set, opened_places, closed_places, beats_by}
use Rattle.module_area.specs.declared.places.Place.{Place}
use Rattle.session_book.specs.Meaning.{JobView, ResultView, session_of}
use Rattle.phase_plan.specs.Meaning.{of_task, session_set, traces_from, plan_view}

-- What one area is left with after its phase's tasks have run over its plan.

-- the set of a controlled session at each of its places lies between its bounds
pub record IsBounded (plan : PlanView) (walks : ℕ → Walk) (f : FinalsView) (c : ControlledView) : Type 0 where
  pub between : All (λ p. IsBetween (least_set plan walks c.by c.session (place_of plan.places p.0))
      (most_set plan walks c.by c.session (place_of plan.places p.0)) (set_at f c.session p.0)) c.places

-- Place and cell of the fetch at a visit of task t. A tag that is not 0 is of a session over the place. Where the task
-- controls a session there the tag is the last that its calls before have given the place.
pub record IsFetch (plan : PlanView) (t : ℕ) (calls : List (Option ℕ)) (x : ℕ × Cell) (v : Visit) : Type 0 where
  pub exists : x.0 < length plan.places
  pub at : (place_of plan.places x.0).at ≡ v.at
  pub over : x.1.tag ≢ 0 → is_over plan (tag_session x.1.tag) x.0 ≡ true
  pub own : All (λ c. c.by ≡ t → has_place c.places x.0 ≡ true
      → x.1.tag ≡ tag_by plan x.0 (first_control plan t) 0 (take v.before calls)) plan.controlled

-- one for each of the visits, in order
abbrev pub AreFetches : PlanView → ℕ → List (Option ℕ) → List (ℕ × Cell) → List Visit → Type 0
AreFetches plan t calls [] [] = Unit {0}
AreFetches plan t calls (x ∷ xs) (v ∷ vs) = IsFetch plan t calls x v × AreFetches plan t calls xs vs
AreFetches plan t calls xs vs = ⊥

-- by the fetches of each task, the facts of these tasks' visits at the place whose fetch answered the session's odd tag
abbrev pub facts_met : PlanView → (ℕ → Walk) → (ℕ → List (ℕ × Cell)) → ℕ → ℕ → List TaskNo → FactSet
facts_met plan walks fetches s p [] = no_facts
facts_met plan walks fetches s p (t ∷ ts) =
    union (facts_under plan s p (fetches t.0) (at_places plan.places (walks t.0).trace)) (facts_met plan walks fetches s p ts)

-- There is a fetch for each visit of each task at places, such that each set has exactly the facts of the visits whose fetch
-- answered the session's odd tag: so no visit counts in two sessions. All fetches and all givings of tags have one order, the
-- race, in which each fetch answers the tag that its place was given last. The root gives the tags of the windows; a task's part
-- of the race is, instruction by instruction, its fetches and then what its call gives; nobody else has a part. So the tags that
-- one task's fetches answer at one place never fall, and none is above the last that the place's controller has given it.
pub record IsExact (plan : PlanView) (walks : ℕ → Walk) (f : FinalsView) : Type 0 where
  pub fetches : ℕ → List (ℕ × Cell)
  pub each : All (λ t. AreFetches plan t.0 (walks t.0).calls (fetches t.0) (at_places plan.places (walks t.0).trace)) plan.tasks
  pub rising : All (λ t. AllPairs (λ x y. x.0 ≡ y.0 → x.1.tag ≤ y.1.tag) (fetches t.0)) plan.tasks
  pub most : All (λ t. All (λ x. All (λ c. has_place c.places x.0 ≡ true
      → x.1.tag ≤ tag_by plan x.0 (first_control plan c.by) 0 (walks c.by).calls) plan.controlled) (fetches t.0)) plan.tasks
  pub sets : (s p : ℕ) → 0 < s → s ≤ plan.sessions → p < length plan.places
      → set_at f s p ≡ facts_met plan walks fetches s p plan.tasks
  pub race : Race
  pub is_race : IsRace race
  pub windows : part 0 race ≡ window_beats plan [] (length plan.windows)
  pub parts : All (λ t. part (suc t.0) race ≡ beats_by plan (first_control plan t.0) 0 (walks t.0).calls (fetches t.0)
      (at_places plan.places (walks t.0).trace) []) plan.tasks
  pub others : (t : ℕ) → has_task plan.tasks t ≡ false → part (suc t) race ≡ []

-- The sets of whole sessions are what the trace shows, and those of controlled sessions lie between their bounds; all are
-- exact by what the fetches answered. Where a session isn't over a place its set is empty there. Each place with a window
-- was planted once, and each place of a controlled session where its controller's run opens it; it was closed there where
-- that run closes it. Each visit at a place fetched once. The lifts are no fewer than the places whose whole session's set
-- is full, and no more than the sessions and places whose set is full.
pub record EndsArea (plan : PlanView) (walks : ℕ → Walk) (trace : List Visit) (f : FinalsView) (t : Tally) : Type 0 where
  pub places : f.places ≡ length plan.places
  pub size : length f.sets ≡ plan.sessions * length plan.places
  pub sets : (p : ℕ) → p < length plan.places → 0 < window_at plan p
      → set_at f (window_at plan p) p ≡ facts_at (place_of plan.places p) trace
  pub bounded : All (IsBounded plan walks f) plan.controlled
  pub exact : IsExact plan walks f
  pub within : (s p : ℕ) → 0 < s → s ≤ plan.sessions → p < length plan.places → is_within (kind_at plan p) (set_at f s p) ≡ true
  pub over : (s p : ℕ) (g : Fact) → 0 < s → s ≤ plan.sessions → p < length plan.places → has_fact (set_at f s p) g ≡ true
      → is_over plan s p ≡ true
  pub plants : t.plants ≡ count_by (λ w. not (nat_eq w 0)) plan.windows + opened_places plan walks
  pub fetches : t.fetches ≡ visits_at_places plan.places trace
  pub facts : sum_by fact_count f.sets ≤ t.marks
  pub marks : t.marks ≤ t.fetches
  pub lifts_least : full_places plan f ≤ t.lifts
  pub lifts_most : t.lifts ≤ full_pairs plan f
  pub lifts_whole : plan.controlled ≡ [] → t.lifts ≡ full_places plan f
  pub closes : t.closes ≡ closed_places plan walks

-- The run of each task, by the course that tasks take, and what the areas of a job's run are left with.

abbrev pub run_by : Course → JobView → List Place → ℕ → Tour
run_by course j places t = of_task course j places t

-- its visits, and the supervisor calls of its instructions
abbrev pub walk_by : Course → JobView → List Place → ℕ → Walk
walk_by course j places t = of_task (walk course) j places t

abbrev pub trace_by : Course → JobView → List Place → ℕ → List Visit
trace_by course j places t = visits_of (run_by course j places t).turns

abbrev pub result_of_run : Tour → ResultView
result_of_run r = record {
  ending = Some r.ending;
  done = r.state.done;
  cpu = r.state.machine.cpu;
  output = r.state.io.output;
  bytes = r.state.machine.bytes;
}

-- what a task comes to
abbrev pub result_by : Course → JobView → List Place → ℕ → ResultView
result_by course j places t = result_of_run (run_by course j places t)

-- what a whole session's executions show at a place
abbrev pub set_by : Course → JobView → List Place → ℕ → ℕ → FactSet
set_by course j places s p = session_set j (trace_by course j places) s (place_of places p)

-- what the set of session s of this controller has there at least, and at most
abbrev pub least_by : Course → JobView → List Place → ℕ → ℕ → ℕ → FactSet
least_by course j places by s p =
    least_set (plan_view j places (session_of j s).phase) (walk_by course j places) by s (place_of places p)

abbrev pub most_by : Course → JobView → List Place → ℕ → ℕ → ℕ → FactSet
most_by course j places by s p =
    most_set (plan_view j places (session_of j s).phase) (walk_by course j places) by s (place_of places p)

abbrev pub joined : List (List Visit) → List Visit
joined [] = []
joined (trace ∷ traces) = trace ++ joined traces

-- the visits of all tasks of a phase
abbrev pub phase_trace : Course → JobView → List Place → ℕ → List Visit
phase_trace course j places phase = joined (traces_from 0 j.tasks phase (trace_by course j places))

-- what the areas tell: the tallies and sets of those that were finished, and how many were asked for
pub record Account : Type 0 where
  pub ledger : List Tally
  pub finals : List FinalsView
  pub made : ℕ

-- one area for each phase from this one on, which the visits of the phase's tasks have left so
abbrev pub AreEnded : Course → JobView → List Place → ℕ → List (List ℕ) → List FinalsView → List Tally → Type 0
AreEnded course j places phase [] [] [] = Unit {0}
AreEnded course j places phase (n ∷ ns) (f ∷ fs) (t ∷ ts) =
    EndsArea (plan_view j places phase) (walk_by course j places) (phase_trace course j places phase) f t
    × AreEnded course j places (phase + 1) ns fs ts
AreEnded course j places phase ns fs ts = ⊥

-- one area was made and finished for each phase of the job
pub record HasRunBy (course : Course) (j : JobView) (places : List Place) (before after : Account) : Type 0 where
  pub tallies : List Tally
  pub sets : List FinalsView
  pub ended : AreEnded course j places 0 j.phases sets tallies
  pub in_ledger : after.ledger ≡ before.ledger ++ tallies
  pub in_finals : after.finals ≡ before.finals ++ sets
  pub in_made : after.made ≡ before.made + length j.phases

-- where each task runs as it does alone
abbrev pub solo_result : JobView → List Place → ℕ → ResultView
solo_result j places t = result_by solo j places t

-- The sets of a job's sessions, in the areas of their phases.

abbrev pub no_finals : FinalsView
no_finals = record { places = 0; sets = [] }

-- the set of the session at the place, in the entry of its phase
abbrev pub set_left : JobView → List FinalsView → ℕ → ℕ → FactSet
set_left j finals s p = set_at (get_or finals (session_of j s).phase no_finals) s p
