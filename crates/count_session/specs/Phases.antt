-- The passes of a phase, and what the counts of a phase come to.
use Rattle.std.specs.Prelude.{◌≡◌, ℕ, ◌<◌, true, false, nat_lt, List, length, get_or, map}
use Rattle.cov_base.specs.Meaning.{Visit}
use Rattle.cov_base.specs.declared.facts.Fact.{Fact}
use Rattle.cov_base.specs.declared.numbers.TaskNo.{TaskNo}
use Rattle.module_area.specs.Meaning.{place_of, window_at}
use Rattle.module_area.specs.declared.places.Place.{Place}
use Rattle.task_services.specs.Meaning.{course_of}
use Rattle.session_book.specs.Meaning.{JobView}
use Rattle.phase_plan.specs.Meaning.{plan_view, traces_from}
use Rattle.job_run.specs.Meaning.{trace_by}
use Rattle.job_run.specs.Slots.{StandBefore}
use Rattle.count_session.specs.Meaning.{count_at, count_of_all}
use Rattle.count_session.specs.Passes.{IsPassOf, notes_of, plan_in}
use Rattle.count_session.specs.Slots.{CountSlot}
use Rattle.count_session.specs.Tallied.{count_in}
use Rattle.count_session.specs.declared.cells.CountCells.{CountCells}
use Rattle.count_session.specs.declared.counts.PlaceCount.{PlaceCount}
use Rattle.count_session.specs.declared.pass.CountPass.{CountPass}

-- the traces of these tasks
abbrev pub traces_of : JobView → List Place → List TaskNo → List (List Visit)
traces_of j places tasks = map (λ (t : TaskNo). trace_by (course_of j.services) j places t.0) tasks

-- the pass was split off from a root that has planted every place with a window, and has counted nothing
pub record IsFresh (cells : CountCells) (p : CountPass) : Type 0 where
  pub area : IsPassOf cells p
  pub task : (notes_of cells p).root ≡ false
  pub one : (notes_of cells p).passes ≡ 1
  pub planted : (q : ℕ) → q < length (plan_in cells).places → (notes_of cells p).planted q ≡ nat_lt 0 (window_at (plan_in cells) q)
  pub nothing : (notes_of cells p).adds ≡ 0
  pub added : (q : ℕ) (f : Fact) → (notes_of cells p).added q f ≡ 0

-- the pass has counted these visits since it was split off
pub record HasCounted (cells : CountCells) (visits : List Visit) (p : CountPass) : Type 0 where
  pub area : IsPassOf cells p
  pub task : (notes_of cells p).root ≡ false
  pub one : (notes_of cells p).passes ≡ 1
  pub added : (q : ℕ) (f : Fact) → q < length (plan_in cells).places → 0 < window_at (plan_in cells) q
      → (notes_of cells p).added q f ≡ count_at (place_of (plan_in cells).places q) f visits

-- The root has planted every place with a window, and split off passes for the tasks that are given. It has what the passes
-- of those that are back have counted.
pub record HasJoined (cells : CountCells) (j : JobView) (places : List Place) (root : CountPass)
    (given_to back_of : List TaskNo) : Type 0 where
  pub area : IsPassOf cells root
  pub is : (notes_of cells root).root ≡ true
  pub planted : (q : ℕ) → q < length (plan_in cells).places
      → (notes_of cells root).planted q ≡ nat_lt 0 (window_at (plan_in cells) q)
  pub given : (notes_of cells root).given ≡ length given_to
  pub passes : (notes_of cells root).passes ≡ length back_of
  pub added : (q : ℕ) (f : Fact) → q < length (plan_in cells).places → 0 < window_at (plan_in cells) q
      → (notes_of cells root).added q f ≡ count_of_all (place_of (plan_in cells).places q) f (traces_of j places back_of)

-- a phase's counts at the places of its sessions are those of the traces of its tasks
pub record IsCounted (j : JobView) (places : List Place) (phase : ℕ) (counts : List PlaceCount) : Type 0 where
  pub size : length counts ≡ length places
  pub each : (p : ℕ) (f : Fact) → p < length places → 0 < window_at (plan_view j places phase) p
      → count_in counts p f
      ≡ count_of_all (place_of places p) f (traces_from 0 j.tasks phase (trace_by (course_of j.services) j places))

abbrev pub AreCounted : JobView → List Place → ℕ → List (List PlaceCount) → Type 0
AreCounted j places phases counts =
    (length counts ≡ phases) × ((k : ℕ) (d : List PlaceCount) → k < phases → IsCounted j places k (get_or counts k d))

-- the tasks of the earlier phases have run, with the job's services, the others are as they begin, and no slot has a pass
abbrev pub AreBefore : JobView → List Place → ℕ → List CountSlot → Type 0
AreBefore j places phase slots = StandBefore (course_of j.services) j places phase slots
