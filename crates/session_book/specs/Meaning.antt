-- What the claim of the program says by this crate's clauses.
use Rattle.std.specs.Prelude.{ℕ, Option, option_map, position, List, replicate, slice_set, ◌-◌, Bool, ◌&&◌, nat_eq, None, is_some, not, [], get_or}
use Rattle.cov_base.specs.Meaning.{ImageView, CpuView}
use Rattle.cov_base.specs.declared.constants.TheConstants.{RETURN_ADDRESS}
use Rattle.module_area.specs.Meaning.{DataView}
use Rattle.s370_state.specs.declared.endings.Ending.{Ending}
use Rattle.std.specs.List.{list_any}
use Rattle.std.specs.Str.{bytes_eq}
use Rattle.cov_base.specs.declared.numbers.TaskNo.{TaskNo}
use Rattle.session_book.specs.declared.services.Service.{Service}

-- A job as lists, wherever memory holds it.

-- a session: its phase and modules by index, and for a controlled one its controller's index among the tasks
pub record SessionView : Type 0 where
  pub name : List ℕ
  pub phase : ℕ
  pub modules : List ℕ
  pub by : Option ℕ

-- a task: its phase by index, its private storage and its output's room in bytes, its budget in instructions
pub record TaskView : Type 0 where
  pub name : List ℕ
  pub phase : ℕ
  pub entry : ℕ
  pub private : ℕ
  pub budget : ℕ
  pub room : ℕ
  -- as the task begins
  pub regs : List ℕ
  pub cards : List DataView
  pub input : List ℕ

pub record JobView : Type 0 where
  pub images : List ImageView
  -- for each module the lines of its listing, where it has one
  pub listings : List (Option (List (List ℕ)))
  -- in the order of their cards
  pub services : List Service
  pub phases : List (List ℕ)
  pub sessions : List SessionView
  pub tasks : List TaskView

-- registers as a task begins, before its REG cards: zero, but 14 the return address and 15 the entry
abbrev pub first_regs : ℕ → List ℕ
first_regs entry = slice_set (slice_set (replicate 16 0) 14 RETURN_ADDRESS) 15 entry

-- What the tasks of a job have come to.

-- a task's ending, where it has ended, the instructions done, and its state
pub record ResultView : Type 0 where
  pub ending : Option Ending
  pub done : ℕ
  pub cpu : CpuView
  pub output : List ℕ
  pub bytes : List ℕ

-- Modules, sessions and tasks by their numbers.

abbrev pub no_module : ImageView
no_module = record { name = []; base = 0; bytes = [] }

abbrev pub module_of : JobView → ℕ → ImageView
module_of j m = get_or j.images m no_module

abbrev pub no_session : SessionView
no_session = record { name = []; phase = 0; modules = []; by = None }

abbrev pub no_task : TaskView
no_task = record { name = []; phase = 0; entry = 0; private = 0; budget = 0; room = 0; regs = []; cards = []; input = [] }

-- sessions number from 1
abbrev pub session_of : JobView → ℕ → SessionView
session_of j s = get_or j.sessions (s - 1) no_session

abbrev pub task_of : JobView → ℕ → TaskView
task_of j t = get_or j.tasks t no_task

-- no task opens and closes it
abbrev pub is_whole : SessionView → Bool
is_whole s = not (is_some s.by)

-- the session is one of the phase and names the module
abbrev pub observes : ℕ → ℕ → SessionView → Bool
observes phase m s = nat_eq s.phase phase && list_any (nat_eq m) s.modules

-- The task of a name.

abbrev pub numbered : ℕ → TaskNo
numbered n = record { 0 = n }

-- the task of this name; the names of a job's tasks differ
abbrev pub task_named : JobView → List ℕ → Option TaskNo
task_named j name = option_map numbered (position (λ t. bytes_eq t.name name) j.tasks)
