-- How a cell, the sets of facts and a task's number lie in words, and where the words lie.
use Rattle.std.specs.Prelude.{◌≡◌, ◌<◌, ◌≤◌, slice_index, ℕ, ◌+◌, ◌-◌, ◌*◌, ◌/◌, ◌%◌, Bool, false, nat_eq, if◌then◌else◌, List, [], ◌∷◌, length, get_or, take}
use Rattle.std.specs.Int.{bit_at}
use Rattle.cov_base.specs.declared.facts.Fact.{Fact}
use Rattle.cov_base.specs.declared.facts.Fact.TheVariants.{Ran, Went, Stayed}
use Rattle.cov_base.specs.declared.facts.Kind.{Kind}
use Rattle.cov_base.specs.declared.facts.Kind.TheVariants.{Straight, Conditional}
use Rattle.cov_base.specs.Meaning.{FactSet}
use Rattle.cov_base.specs.declared.limits.TheConstants.{SESSION_LIMIT}
use Rattle.cov_base.specs.declared.numbers.TaskNo.{TaskNo}
use Rattle.module_area.specs.declared.cells.Cell.{Cell}
use Rattle.module_area.specs.Meaning.{PlanView, kind_at}
use Rattle.module_area.specs.Rule.{has_task}
use Rattle.module_area.specs.Words.{cell_of}

-- the word of a cell under the tag of session s's window
abbrev pub word_of : ℕ → ℕ → ℕ
word_of s half = (2 * s - 1) * 65536 + half

-- the word of a cell under the tag of session s that is over
abbrev pub closed_word_of : ℕ → ℕ → ℕ
closed_word_of s half = 2 * s * 65536 + half

-- the bit of a fact at place p, in a word of the sets at 32 places: each has two, and Ran shares one with Went
abbrev pub bit_of : ℕ → Fact → ℕ
bit_of p Ran = 2 * (p % 32)
bit_of p Went = 2 * (p % 32)
bit_of p Stayed = 2 * (p % 32) + 1

abbrev pub has_bit : ℕ → ℕ → Bool
has_bit w i = nat_eq (bit_at w i) 1

-- the set at place p, of the kind, in its word
abbrev pub facts_of : Kind → ℕ → ℕ → FactSet
facts_of Straight p w = record { ran = has_bit w (bit_of p Ran); went = false; stayed = has_bit w (bit_of p Stayed) }
facts_of Conditional p w = record { ran = false; went = has_bit w (bit_of p Went); stayed = has_bit w (bit_of p Stayed) }

-- the words of one session's sets at n places
abbrev pub session_words : ℕ → ℕ
session_words n = (n + 31) / 32

-- of each session its first word, where there are n places
pub record AreFirsts (n : ℕ) (firsts : List ℕ) : Type 0 where
  pub each : (i : ℕ) → i < SESSION_LIMIT → slice_index firsts i ≡ n + i * session_words n
  pub small : (i : ℕ) → i < SESSION_LIMIT → slice_index firsts i ≤ 98304

-- the word of the set of session s at place p, of n places: the cells come first, then session after session
abbrev pub set_word : ℕ → ℕ → ℕ → ℕ
set_word n s p = n + ((s - 1) * session_words n + p / 32)

-- how many words the cells and sets take; behind them lie those of the tasks, in the plan's order
abbrev pub base_of : PlanView → ℕ
base_of plan = length plan.places + plan.sessions * session_words (length plan.places)

-- the words of cells, sets and tasks, or an idle one
abbrev pub word_count : PlanView → ℕ
word_count plan = if nat_eq (base_of plan + length plan.tasks) 0 then 1 else base_of plan + length plan.tasks

-- the words of cells and sets
abbrev pub front : PlanView → List ℕ → List ℕ
front plan words = take (base_of plan) words

-- the index of the task among these
abbrev pub position : List TaskNo → ℕ → ℕ
position [] t = 0
position (u ∷ us) t = if nat_eq u.0 t then 0 else 1 + position us t

-- the word of a task of the plan
abbrev pub task_word : PlanView → ℕ → ℕ
task_word plan t = base_of plan + position plan.tasks t

-- each task's number; 0 for what is none of the plan's
abbrev pub numbers_in : PlanView → List ℕ → ℕ → ℕ
numbers_in plan words t = if has_task plan.tasks t then get_or words (task_word plan t) 0 else 0

abbrev pub cells_in : List ℕ → ℕ → Cell
cells_in words p = cell_of (get_or words p 0)

abbrev pub sets_in : PlanView → List ℕ → ℕ → ℕ → FactSet
sets_in plan words s p = facts_of (kind_at plan p) p (get_or words (set_word (length plan.places) s p) 0)
