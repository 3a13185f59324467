-- What closing, splitting, joining, boundaries and looks add to a party's lists.
use Rattle.std.specs.Prelude.{ℕ, ◌*◌, Bool, not, nat_eq, None, List, [], ◌∷◌, ◌++◌}
use Rattle.cov_base.specs.Meaning.{FactSet}
use Rattle.module_area.specs.declared.parties.Role.{Role}
use Rattle.module_area.specs.declared.parties.Role.TheVariants.{Task}
use Rattle.module_area.specs.declared.parties.View.{View}
use Rattle.module_area.specs.Meaning.{PlanView}
use Rattle.module_area.specs.Rule.{is_controller, add_if, blank, tagging}

-- what was planted at places that the test chooses
abbrev pub chosen : (ℕ → Bool) → List (ℕ × ℕ) → List (ℕ × ℕ)
chosen f [] = []
chosen f (x ∷ xs) = add_if (f x.0) x (chosen f xs)

abbrev pub closing : ℕ → ℕ → View → View
closing s p v = tagging p (2 * s) v

-- the root after it gave out task t
abbrev pub giving : ℕ → View → View
giving t v = record v { given = t ∷ v.given }

-- The pass of task t has seen what the root has seen, and takes over the places that the task controls.
abbrev pub newcomer : PlanView → ℕ → View → View
newcomer plan t v = record (blank (Task t)) { seen = v.seen; planted = chosen (is_controller plan t) v.planted }

abbrev pub role_task : Role → ℕ
role_task (Task t) = t
role_task r = 0

-- the root after it took in another party and the places that this one controls
abbrev pub joining : PlanView → View → View → View
joining plan v o = let t : ℕ = role_task o.role in record v {
  marked = o.marked ++ v.marked;
  full = o.full ++ v.full;
  free = o.free ++ v.free;
  lifted = o.lifted ++ v.lifted;
  seen = o.seen ++ v.seen;
  planted = chosen (is_controller plan t) o.planted ++ chosen (λ p. not (is_controller plan t p)) v.planted;
  joined = t ∷ v.joined;
  numbers = chosen (λ u. nat_eq u t) o.numbers ++ chosen (λ u. not (nat_eq u t)) v.numbers;
  noted = o.noted ++ v.noted;
  settled = o.settled ++ v.settled;
  back = (t, o.beats) ∷ v.back;
}

-- A boundary of task t gave its word the number.
abbrev pub bounding : ℕ → ℕ → View → View
bounding t n v = record v { pending = None; numbers = (t, n) ∷ v.numbers }

-- A look at the word of task t found the number.
abbrev pub noting : ℕ → ℕ → View → View
noting t n v = record v { noted = (t, n, v.seen) ∷ v.noted }

-- A look at the set of session s at place p found the set, and it is final, or that isn't known.
abbrev pub reading : ℕ → ℕ → Bool → FactSet → View → View
reading s p final found v = record v { settled = add_if final (s, p, found) v.settled; found = found ∷ v.found }
