-- A task of a job before its first instruction.
use Rattle.std.specs.Prelude.{◌≡◌, ℕ, List}
use Rattle.s370_state.specs.Meaning.{machine_of}
use Rattle.module_area.specs.declared.places.Place.{Place}
use Rattle.brk_table.specs.Meaning.{memory_of}
use Rattle.brk_table.specs.Places.{AreSeen}
use Rattle.space_map.specs.Space.{memory_of_space}
use Rattle.session_book.specs.Meaning.{JobView, task_of}
use Rattle.phase_plan.specs.Meaning.{first_state}
use Rattle.phase_plan.specs.declared.beginning.Begun.{Begun}

-- task t as its card says, which sees the places
pub record IsBegun (j : JobView) (places : List Place) (t : ℕ) (b : Begun) : Type 0 where
  pub memory : memory_of_space b.space ≡ memory_of (task_of j t).private j.images places
  pub state : record { machine = machine_of b.cpu b.space.bytes; io = b.io; done = 0 } ≡ first_state (task_of j t)
  pub seen : AreSeen (memory_of (task_of j t).private j.images places) places
