-- What the calls pick of their steps, and the rule over the words of cells and sets alone.
use Rattle.std.specs.Prelude.{◌≡◌, ℕ, ◌+◌, ◌-◌, ◌/◌, ◌≤◌, length, get_or}
use Rattle.atomic_table.specs.Table.{State}
use Rattle.cov_base.specs.declared.numbers.TaskNo.{TaskNo}
use Rattle.module_area.specs.declared.parties.View.{View}
use Rattle.module_area.specs.Meaning.{PlanView, tag_session}
use Rattle.module_area.specs.Rule.{last_tag, tagging, Held}
use Rattle.module_area.specs.Parties.{role_task, bounding, noting}
use Rattle.module_area.specs.Notes.{IsWord, no_tally}
use Rattle.shared_area.specs.declared.rule.NoSlot.{NoSlot}
use Rattle.shared_area.specs.Words.{base_of, cells_in, sets_in}
use Rattle.shared_area.specs.Told.{notes_in, seen_at}

-- where the words are those of cells and sets alone
pub record IsFront (plan : PlanView) (s : State NoSlot View) : Type 0 where
  pub wide : base_of plan ≤ length s.words
  pub held : Held plan (cells_in s.words) (sets_in plan s.words) s.views

-- its keeper gave place p the tag, by a plant or a close
pub record Tagged (p t : ℕ) (v v' : View) : Type 0 where
  pub after : v' ≡ tagging p t v
  pub higher : seen_at p v.seen ≤ t

-- a boundary added k to the word of its task
pub record Bounded (k : ℕ) (v : View) (w : ℕ) (v' : View) : Type 0 where
  pub after : v' ≡ bounding (role_task v.role) (w + k) v
  pub own : w ≡ last_tag (role_task v.role) v.numbers

-- a look at the word of task t found the number
pub record WordNoted (t : ℕ) (v : View) (w : ℕ) (v' : View) : Type 0 where
  pub after : v' ≡ noting t w v
  pub is_word : IsWord (notes_in v no_tally) t w

-- the tag in a cell's word
abbrev pub tag_in : ℕ → ℕ
tag_in w = w / 65536

-- the session that a cell's word names
abbrev pub session_in : ℕ → ℕ
session_in w = tag_session (w / 65536)

abbrev pub no_task : TaskNo
no_task = record { 0 = 0 }

-- the task whose word this is
abbrev pub task_at : PlanView → ℕ → ℕ
task_at plan i = (get_or plan.tasks (i - base_of plan) no_task).0
