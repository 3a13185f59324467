-- What the parts of an operation do: the tests of its uses of storage, and what follows where these pass.
use Rattle.std.specs.Prelude.{◌≡◌, ℕ, ◌&&◌, if◌then◌else◌, Some, None, Result, Ok, Err, IfOk, IfErr, List}
use Rattle.cov_base.specs.Meaning.{CpuView, Machine, Memory, can_reach}
use Rattle.s370_state.specs.declared.endings.Ending.{Ending}
use Rattle.s370_state.specs.declared.endings.Next.{Next}
use Rattle.s370_state.specs.declared.space.Refused.{Refused}
use Rattle.s370_state.specs.declared.space.Refused.TheVariants.{Addressing}
use Rattle.s370_state.specs.Meaning.{Use, Outcome, After, use_tests, finish, machine_of}
use Rattle.s370_state.specs.Row.{after}

-- the answer of a space for two operands
abbrev pub both_reach_answer : Memory → ℕ → ℕ → ℕ → ℕ → Result (Unit {0}) Refused
both_reach_answer m a n b k = if can_reach m a n && can_reach m b k then Ok tt else Err Addressing

-- no test of these uses ends the task
abbrev pub Pass : Memory → List Use → Type 0
Pass m uses = use_tests m uses ≡ None

-- the answer is that of the tests of these uses: the ending that they give, or that they pass
pub record Tested {A : Type 0} (m : Memory) (uses : List Use) (answer : Result A Ending) : Type 0 where
  pub refused : IfErr answer (λ e. use_tests m uses ≡ Some e)
  pub passed : IfOk answer (λ _. Pass m uses)

-- what becomes of a machine by its outcome
abbrev pub finished : (Machine → Outcome) → Machine → After
finished outcome s = finish s (outcome s)

-- From old to new an operation whose tests have passed does as its outcome says, and the memory stays.
pub record Follows {S : Type 0} (memory_of : S → Memory) (bytes_of : S → List ℕ) (outcome : Memory → Machine → Outcome)
    (cpu : CpuView) (space : S) (cpu' : CpuView) (space' : S) (next : Next) : Type 0 where
  pub memory : memory_of space' ≡ memory_of space
  pub effect : after cpu' (bytes_of space') next ≡ finished (outcome (memory_of space)) (machine_of cpu (bytes_of space))
