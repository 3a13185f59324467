-- How often traces give a fact at a place, and what a pass has added of some visits.
use Rattle.std.specs.Prelude.{◌≡◌, ℕ, ◌+◌, ◌*◌, ◌<◌, ◌≤◌, false, if◌then◌else◌, Option, List, length}
use Rattle.cov_base.specs.Meaning.{Visit}
use Rattle.cov_base.specs.declared.facts.Fact.{Fact}
use Rattle.module_area.specs.Meaning.{ControlView, PlanView, place_of}
use Rattle.brk_table.specs.Meaning.{TablesView}
use Rattle.count_session.specs.Notes.{CountNotes}
use Rattle.count_session.specs.Passes.{IsPassOf, notes_of, plan_in}
use Rattle.count_session.specs.declared.cells.CountCells.{CountCells}
use Rattle.count_session.specs.declared.pass.CountPass.{CountPass}
use Rattle.count_session.specs.Meaning.{count_at}
use Rattle.task_run.specs.Meaning.{visits_of}
use Rattle.task_run.specs.Steps.{memory_at, stands}
use Rattle.s370_state.specs.declared.endings.Ending.{Ending}
use Rattle.session_book.specs.declared.services.Service.{Service}
use Rattle.task_run.specs.Ran.{run_from}
use Rattle.task_run.specs.declared.tasks.Task.{Task}
use Rattle.task_services.specs.Meaning.{course_of}

-- where the place is planted
abbrev pub planted_count : PlanView → CountNotes → ℕ → Fact → List Visit → ℕ
planted_count plan n p f visits = if n.planted p then count_at (place_of plan.places p) f visits else 0

-- From the old to the new notes the pass has added each fact that these visits give at planted places, once for each
-- visit, and nothing else.
pub record Adds (plan : PlanView) (old new : CountNotes) (visits : List Visit) : Type 0 where
  pub same : new ≡ record old { pending = new.pending; added = new.added; adds = new.adds }
  pub added : (p : ℕ) (f : Fact) → p < length plan.places → new.added p f ≡ old.added p f + planted_count plan old p f visits
  pub adds : new.adds ≤ old.adds + length visits

-- The pass is a task's, of an area over these tables, with at most two adds for each instruction done and one for each visit
-- of the next that was shown.
pub record HasRoom (cells : CountCells) (tables : TablesView) (pass : CountPass) (done shown : ℕ) : Type 0 where
  pub area : IsPassOf cells pass
  pub places : (plan_in cells).places ≡ tables.places
  pub task : (notes_of cells pass).root ≡ false
  pub adds : (notes_of cells pass).adds ≤ 2 * done + shown

-- From the one state to the other the pass has added what these visits give.
abbrev pub HasAdded : CountCells → TablesView → CountPass → List Visit → CountPass → Type 0
HasAdded cells tables old visits new = Adds (plan_in cells) (notes_of cells old) (notes_of cells new) visits

-- no call changes the pass or the control
abbrev pub IsLeft : CountCells → CountPass → ControlView → Option ℕ → CountPass → ControlView → Type 0
IsLeft cells old control call new after = (new ≡ old) × (after ≡ control)

-- The task has run to this end with these services, and the pass has added what its run gives.
pub record RanCounted (services : List Service) (cells : CountCells) (p q : CountPass) (old new : Task)
    (result : Ending) : Type 0 where
  pub memory : memory_at new.bench ≡ memory_at old.bench
  pub budget : new.budget ≡ old.budget
  pub done : new.done ≤ old.budget
  pub ending : result ≡ (run_from (course_of services) (plan_in cells) old).ending
  pub state : stands new.bench new.done ≡ (run_from (course_of services) (plan_in cells) old).state
  pub adds : Adds (plan_in cells) (notes_of cells p) (notes_of cells q)
      (visits_of (run_from (course_of services) (plan_in cells) old).turns)
