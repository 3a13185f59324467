-- The rule over all words and all passes, and what a step tells.
use Rattle.std.specs.Prelude.{◌≡◌, ◌≢◌, ℕ, ◌+◌, ◌*◌, ◌%◌, ◌<◌, ◌≤◌, Bool, true, false, nat_eq, Some, List, length}
use mathlib.Core.Option.{some}
use lib.ListN.{get_elem?}
use Rattle.atomic_table.specs.Table.{State}
use Rattle.cov_base.specs.declared.facts.Fact.{Fact}
use Rattle.cov_base.specs.Meaning.{FactSet, has_fact}
use Rattle.cov_base.specs.FactKind.{is_of_kind}
use Rattle.module_area.specs.declared.cells.Cell.{Cell}
use Rattle.module_area.specs.declared.parties.Role.TheVariants.{Root, Task, Spent}
use Rattle.module_area.specs.declared.parties.View.{View}
use Rattle.module_area.specs.Meaning.{PlanView, kind_at}
use Rattle.module_area.specs.Rule.{last_tag, window_tag, fetching, marking, lifting, Held}
use Rattle.module_area.specs.Parties.{reading}
use Rattle.module_area.specs.Again.{only}
use Rattle.module_area.specs.Notes.{IsAnswer, IsFound, is_final, no_tally, same_set}
use Rattle.module_area.specs.Drained.{Drained}
use Rattle.module_area.specs.Race.{Raced}
use Rattle.shared_area.specs.declared.rule.NoSlot.{NoSlot}
use Rattle.shared_area.specs.Words.{facts_of, cells_in, sets_in, base_of, front, numbers_in}
use Rattle.shared_area.specs.Told.{has_pair, has_settled, notes_in}

-- the first party is the root
abbrev pub IsRooted : List View → Type 0
IsRooted views = (v : View) × (get_elem? views 0 ≡ some v) × (v.role ≡ Root)

-- the words are those of the cells, the sets, then the tasks; there is a root
pub record IsArea (plan : PlanView) (s : State NoSlot View) : Type 0 where
  pub wide : base_of plan + length plan.tasks ≤ length s.words
  pub rooted : IsRooted s.views
  pub held : Held plan (cells_in (front plan s.words)) (sets_in plan (front plan s.words)) s.views
  pub drained : Drained plan (cells_in (front plan s.words)) (sets_in plan (front plan s.words)) (numbers_in plan s.words) s.views
  pub raced : Raced plan (cells_in (front plan s.words)) s.views

-- a living pass of a task that has not ended, and a place that it may fetch
pub record MayFetch (plan : PlanView) (p : ℕ) (v : View) : Type 0 where
  pub live : v.role ≢ Spent
  pub place : p < length plan.places
  pub task : ℕ
  pub bears : v.role ≡ Task task
  pub even : last_tag task v.numbers % 2 ≢ 1

-- a fetch at place p found the cell
pub record Fetched (plan : PlanView) (p : ℕ) (v : View) (cell : Cell) (v' : View) : Type 0 where
  pub after : v' ≡ fetching plan p cell v
  pub answer : IsAnswer plan (notes_in v no_tally) p cell
  pub within : cell.tag ≤ 2 * plan.sessions
  pub small : cell.tag ≤ 32

-- a living party that has just fetched the breakpoint of session s at place p, and a fact that it may mark there
pub record MayMark (plan : PlanView) (s p : ℕ) (f : Fact) (v : View) : Type 0 where
  pub live : v.role ≢ Spent
  pub place : p < length plan.places
  pub session : 0 < s
  pub in_plan : s ≤ plan.sessions
  pub pending : v.pending ≡ Some (p, window_tag s)
  pub kind : is_of_kind (kind_at plan p) f ≡ true

-- a mark of the fact for session s at place p found the set
pub record Marked (plan : PlanView) (s p : ℕ) (f : Fact) (v : View) (found : FactSet) (v' : View) : Type 0 where
  pub after : v' ≡ marking plan s p f found v
  pub is_found : IsFound plan (notes_in v no_tally) s p found

-- whether the set has the fact
abbrev pub has : Fact → FactSet → Bool
has f found = has_fact found f

-- and no other
abbrev pub is_only : Fact → FactSet → Bool
is_only f found = same_set found (only f)

-- a look at the set that was found: the mark itself where the set is such a one, and else nothing
pub record Looked (is : FactSet → Bool) (plan : PlanView) (s p : ℕ) (f : Fact) (v : View) (found : FactSet)
    (v' : View) : Type 0 where
  pub there : is found ≡ true → Marked plan s p f v found v'
  pub wanting : is found ≡ false → v' ≡ v

-- by the word of the set
abbrev pub LookedIn : (FactSet → Bool) → PlanView → ℕ → ℕ → Fact → View → ℕ → View → Type 0
LookedIn is plan s p f v w v' = Looked is plan s p f v (facts_of (kind_at plan p) p w) v'

-- a lift for session s at place p, of the word `old`, found the word
pub record Lifted (s p old : ℕ) (v : View) (w : ℕ) (v' : View) : Type 0 where
  pub after : v' ≡ lifting s p (nat_eq w old) v
  pub again : has_pair s p v.free ≡ true → nat_eq w old ≡ false

-- a look at the set of session s at place p found the set
pub record SetRead (plan : PlanView) (s p : ℕ) (v : View) (found : FactSet) (v' : View) : Type 0 where
  pub after : v' ≡ reading s p (is_final plan (notes_in v no_tally) s p) found v
  pub is_found : IsFound plan (notes_in v no_tally) s p found
  pub settled : (x : FactSet) → has_settled s p x v.settled ≡ true → found ≡ x
