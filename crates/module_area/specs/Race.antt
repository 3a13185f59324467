-- There is always a race of an area, in which each party's beats are its own ones in their order.
use Rattle.std.specs.Prelude.{◌≡◌, ℕ, suc, ◌<◌, nat_eq, if◌then◌else◌, List, [], ◌∷◌, length}
use mathlib.Core.Option.{some}
use lib.ListN.{get_elem?}
use Rattle.module_area.specs.declared.cells.Cell.{Cell}
use Rattle.module_area.specs.declared.parties.Role.{Role}
use Rattle.module_area.specs.declared.parties.Role.TheVariants.{Root, Task, Spent}
use Rattle.module_area.specs.declared.parties.Beat.{Beat}
use Rattle.module_area.specs.declared.parties.View.{View}
use Rattle.module_area.specs.Meaning.{PlanView, Race, tag_in, IsRace, part}
use Rattle.module_area.specs.Rule.{Has}

abbrev pub who : Role → ℕ
who (Task t) = suc t
who r = 0

-- the beats that came back of task t
abbrev pub beats_of : ℕ → List (ℕ × List Beat) → List Beat
beats_of t [] = []
beats_of t (x ∷ xs) = if nat_eq t x.0 then x.1 else beats_of t xs

-- the root's own part; what came back is a task's whole part; what was not given out has none
pub record IsRootOf (r : Race) (v : View) : Type 0 where
  pub own : v.beats ≡ part 0 r
  pub none : (t : ℕ) → (Has t v.given → ⊥) → part (suc t) r ≡ []
  pub back : (t : ℕ) (l : List Beat) → Has (t, l) v.back → part (suc t) r ≡ l
  pub known : (t : ℕ) (l : List Beat) → Has (t, l) v.back → Has t v.joined
  pub all : (t : ℕ) → Has t v.joined → Has (t, beats_of t v.back) v.back

abbrev pub OwnAs : Race → View → Role → Type 0
OwnAs r v Root = IsRootOf r v
OwnAs r v (Task t) = v.beats ≡ part (suc t) r
OwnAs r v Spent = Unit {0}

-- there is a race, which left the cells' tags
pub record Raced (plan : PlanView) (cell : ℕ → Cell) (views : List View) : Type 0 where
  pub race : Race
  pub is_race : IsRace race
  pub tags : (p : ℕ) → p < length plan.places → (cell p).tag ≡ tag_in p race
  pub own : (j : ℕ) (v : View) → get_elem? views j ≡ some v → OwnAs race v v.role
