-- A state by its parts, and what visits tell of a subject.
use Rattle.std.specs.Prelude.{ℕ, Bool, Option, Some, None, List, ◌∷◌}
use Rattle.cov_base.specs.Meaning.{CpuView, IoView, State, Visit}
use Rattle.s370_state.specs.Meaning.{machine_of}

abbrev pub state_of : CpuView → List ℕ → IoView → ℕ → State
state_of cpu bytes io done = record { machine = machine_of cpu bytes; io = io; done = done }

-- the address and outcome of the visit that an EX makes of its subject
abbrev pub subject_seen : List Visit → Option (ℕ × Bool)
subject_seen (v ∷ (s ∷ vs)) = Some (s.at, s.went)
subject_seen visits = None
