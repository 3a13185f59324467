-- The rule's part on task words: what holds of them, of the cells, the sets and all parties' notes at every moment.
use Rattle.std.specs.Prelude.{◌≡◌, ◌≢◌, ◌⊎◌, ℕ, ◌*◌, ◌%◌, ◌<◌, ◌≤◌, true, Some, None, List, length}
use mathlib.Core.Option.{some}
use lib.ListN.{get_elem?}
use Rattle.cov_base.specs.Meaning.{FactSet}
use Rattle.module_area.specs.declared.cells.Cell.{Cell}
use Rattle.module_area.specs.declared.parties.Role.{Role}
use Rattle.module_area.specs.declared.parties.Role.TheVariants.{Root, Task, Spent}
use Rattle.module_area.specs.declared.parties.View.{View}
use Rattle.module_area.specs.Meaning.{PlanView, is_controlled}
use Rattle.module_area.specs.Rule.{has_task, Has, last_tag, window_tag}

-- a look at a task's word: task, number, and what the party had seen then
abbrev pub Noted : Type 0
Noted = ℕ × ℕ × List (ℕ × ℕ)

-- by these tags session s is over at place p
abbrev pub IsOverAt : List (ℕ × ℕ) → ℕ → ℕ → Type 0
IsOverAt seen s p = (x : ℕ) × Has (p, x) seen × (2 * s ≤ x)

-- by these tags the controlled session s is closed at all its places
abbrev pub IsClosed : PlanView → List (ℕ × ℕ) → ℕ → Type 0
IsClosed plan seen s = (p : ℕ) → is_controlled plan s p ≡ true → IsOverAt seen s p

-- The party knows task t past session s: when it knew s closed it noted an odd number of t, or a number of t below
-- another that it noted.
abbrev pub IsPast : PlanView → View → ℕ → ℕ → Type 0
IsPast plan v s t =
    (e : Noted) × Has e v.noted × (e.0 ≡ t) × IsClosed plan e.2 s
    × ((e.1 % 2 ≡ 1) ⊎ ((n : ℕ) × (seen : List (ℕ × ℕ)) × Has (t, n, seen) v.noted × (e.1 < n)))

-- The word of task t is 0 while no pass was split for it, then the number of its pass, which the root has once the pass
-- has come back.
abbrev pub IsNumber : View → ℕ → ℕ → Role → Type 0
IsNumber v t n Root = ((Has t v.given → ⊥) → n ≡ 0) × (Has t v.joined → n ≡ last_tag t v.numbers)
IsNumber v t n (Task u) = u ≡ t → n ≡ last_tag t v.numbers
IsNumber v t n Spent = Unit {0}

-- a set that is known as final: it stands so, its session is over there, and nobody can mark in it
pub record IsSettled (cell : ℕ → Cell) (sets : ℕ → ℕ → FactSet) (views : List View) (s p : ℕ) (x : FactSet) : Type 0 where
  pub set : sets s p ≡ x
  pub tag : 2 * s ≤ (cell p).tag
  pub idle : (j : ℕ) (u : View) → get_elem? views j ≡ some u → u.pending ≢ Some (p, window_tag s)

pub record Drained (plan : PlanView) (cell : ℕ → Cell) (sets : ℕ → ℕ → FactSet) (word : ℕ → ℕ) (views : List View) : Type 0 where
  -- the root fetches nothing, and each pass is for a task of the plan
  pub idle : (j : ℕ) (v : View) → get_elem? views j ≡ some v → v.role ≡ Root → v.pending ≡ None
  pub tasks : (j : ℕ) (v : View) (t : ℕ) → get_elem? views j ≡ some v → v.role ≡ Task t → has_task plan.tasks t ≡ true
  pub number : (j : ℕ) (v : View) (t : ℕ) → get_elem? views j ≡ some v → has_task plan.tasks t ≡ true → IsNumber v t (word t) v.role
  -- no number that a party noted is above the word, and no tag that it had seen by then above the cell's
  pub noted : (j : ℕ) (v : View) (e : Noted) → get_elem? views j ≡ some v → Has e v.noted → e.1 ≤ word e.0
  pub noted_seen : (j : ℕ) (v : View) (e : Noted) (p x : ℕ) → get_elem? views j ≡ some v → Has e v.noted → Has (p, x) e.2
      → (p < length plan.places) × (x ≤ (cell p).tag)
  -- an odd word is that of a task without a pending answer
  pub ended : (j : ℕ) (v : View) (t : ℕ) → get_elem? views j ≡ some v → v.role ≡ Task t → word t % 2 ≡ 1 → v.pending ≡ None
  -- a task with a pending answer of a session that was known as over at a note of the task made no boundary since
  pub late : (j : ℕ) (v : View) (e : Noted) (i : ℕ) (u : View) (s p : ℕ) → get_elem? views j ≡ some v → Has e v.noted → 0 < s
      → IsOverAt e.2 s p → get_elem? views i ≡ some u → u.role ≡ Task e.0 → u.pending ≡ Some (p, window_tag s) → word e.0 ≤ e.1
  -- what is known as final is so
  pub settled : (j : ℕ) (v : View) (s p : ℕ) (x : FactSet) → get_elem? views j ≡ some v → Has (s, p, x) v.settled
      → (p < length plan.places) × (0 < s) × IsSettled cell sets views s p x
