-- Fetching a whole instruction.
use Rattle.std.specs.Prelude.{ℕ, Option, List}
use Rattle.std.specs.Option.{option_or}
use Rattle.cov_base.specs.Meaning.{Memory, half_at, length_of}
use Rattle.s370_state.specs.declared.endings.Ending.{Ending}
use Rattle.s370_decode.specs.declared.code.Code.{Code}
use Rattle.s370_exec.specs.Meaning.{first_tests, rest_tests, code_at}

-- an instruction's halfwords in their order
abbrev pub whole_tests : Memory → List ℕ → ℕ → Option Ending
whole_tests m bytes a = option_or (first_tests m a) (rest_tests m a (length_of (half_at m bytes a)))

-- the instruction that stands there
abbrev pub whole_at : Memory → List ℕ → ℕ → Code
whole_at m bytes a = code_at m bytes a (half_at m bytes a)
