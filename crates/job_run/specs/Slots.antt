-- The slots in which the tasks of a job stand.
use Rattle.std.specs.Prelude.{◌≡◌, ℕ, ◌+◌, ◌-◌, ◌<◌, ◌≤◌, Bool, true, false, nat_eq, Option, None, List, [], length, get_or, map, All, vec_capacity}
use Rattle.cov_base.specs.Meaning.{FactSet}
use Rattle.module_area.specs.Meaning.{FinalsView, set_at}
use Rattle.module_area.specs.declared.places.Place.{Place}
use Rattle.task_run.specs.Meaning.{Course}
use Rattle.session_book.specs.Meaning.{JobView, task_of}
use Rattle.job_run.specs.Meaning.{no_finals}
use Rattle.job_run.specs.Tasks.{AreRun, Ends, HasExtra}
use Rattle.job_run.specs.declared.outcome.Done.{Done}
use Rattle.job_run.specs.declared.slots.Slot.{Slot}
use Rattle.job_run.specs.declared.slots.Room.{Room}

abbrev pub dones : {P E : Type 0} → List (Slot P E) → List Done
dones slots = map (λ s. s.done) slots

abbrev pub extras_of : {P E : Type 0} → List (Slot P E) → List (Option E)
extras_of slots = map (λ s. s.extra) slots

abbrev pub AreEmpty : {P E : Type 0} → List (Slot P E) → Type 0
AreEmpty slots = All (λ s. s.pass ≡ None) slots

-- the room is empty, and enough for so many tasks and their extras
pub record HasRoom {E : Type 0} (count : ℕ) (room : Room E) : Type 0 where
  pub tasks : room.tasks.items ≡ []
  pub extras : room.extras.items ≡ []
  pub tasks_room : count ≤ vec_capacity room.tasks
  pub extras_room : count ≤ vec_capacity room.extras

abbrev pub in_phase : JobView → ℕ → ℕ → Bool
in_phase j phase t = nat_eq (task_of j t).phase phase

-- the phase's tasks before the next stand from this index on, before the end; the first and the last are of the phase
pub record IsRange (j : JobView) (phase next from end : ℕ) : Type 0 where
  pub order : from ≤ end
  pub exists : end ≤ next
  pub first : from < end → in_phase j phase from ≡ true
  pub last : from < end → in_phase j phase (end - 1) ≡ true
  pub all : (t : ℕ) → t < next → in_phase j phase t ≡ true → (from ≤ t) × (t < end)

-- the extras of the phase's tasks tell this of them, where these are the phase's sets
pub record HaveExtras {P E : Type 0} (ends : Ends E) (j : JobView) (places : List Place) (phase : ℕ) (sets : ℕ → ℕ → FactSet)
    (slots : List (Slot P E)) : Type 0 where
  pub each : (t : ℕ) (d : Slot P E) → t < length slots → in_phase j phase t ≡ true
      → HasExtra ends j places sets t (get_or slots t d)

-- and those of the tasks of each phase before the next, where these are the sets that the phases' areas have ended with
pub record HaveAllExtras {P E : Type 0} (ends : Ends E) (j : JobView) (places : List Place) (next : ℕ) (finals : List FinalsView)
    (slots : List (Slot P E)) : Type 0 where
  pub each : (phase : ℕ) → phase < next → HaveExtras ends j places phase (set_at (get_or finals phase no_finals)) slots

-- and those of the tasks of all phases
abbrev pub HaveJobExtras : {P E : Type 0} → Ends E → JobView → List Place → List FinalsView → List (Slot P E) → Type 0
HaveJobExtras ends j places finals slots = HaveAllExtras ends j places (length j.phases) finals slots

-- the tasks of other phases, and their extras, are as before
pub record KeepsOthers {P E : Type 0} (j : JobView) (phase : ℕ) (old new : List (Slot P E)) : Type 0 where
  pub count : length new ≡ length old
  pub done : (t : ℕ) (d : Slot P E) → t < length old → in_phase j phase t ≡ false → (get_or new t d).done ≡ (get_or old t d).done
  pub extra : (t : ℕ) (d : Slot P E) → t < length old → in_phase j phase t ≡ false → (get_or new t d).extra ≡ (get_or old t d).extra

-- the tasks of the phases before this one have run, and no slot has a pass
pub record StandBefore {P E : Type 0} (course : Course) (j : JobView) (places : List Place) (phase : ℕ)
    (slots : List (Slot P E)) : Type 0 where
  pub tasks : AreRun course j places phase slots
  pub empty : AreEmpty slots

-- so they stand before the next phase: this one's tasks have run, and tell this by their extras, where its area has ended with
-- these sets
pub record Passed {P E : Type 0} (course : Course) (ends : Ends E) (j : JobView) (places : List Place) (phase : ℕ)
    (old new : List (Slot P E)) (f : FinalsView) : Type 0 where
  pub before : StandBefore course j places (phase + 1) new
  pub extras : HaveExtras ends j places phase (set_at f) new
  pub others : KeepsOthers j phase old new
