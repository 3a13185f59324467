-- A task that opens and closes no sessions, and an observer that cares for none.
use Rattle.std.specs.Prelude.{◌≡◌, ℕ, Option, None, []}
use Rattle.module_area.specs.Meaning.{ControlView}

abbrev pub no_sessions : ControlView
no_sessions = record { sessions = []; next = 0; opened = None }

-- a supervisor call changes nothing that it notes
abbrev pub IgnoresCalls : {O P : Type 0} → (O → P → ControlView → Option ℕ → P → ControlView → Type 0) → O → Type 0
IgnoresCalls {O} {P} answers o = (p q : P) (c d : ControlView) (call : Option ℕ) → answers o p c call q d → q ≡ p
