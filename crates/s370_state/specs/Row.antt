-- An operation that does as its row says.
use Rattle.std.specs.Prelude.{◌≡◌, ℕ, Bool, true, false, Option, List}
use Rattle.cov_base.specs.Meaning.{CpuView, Machine, Memory}
use Rattle.s370_state.specs.declared.endings.Next.{Next}
use Rattle.s370_state.specs.declared.endings.Next.TheVariants.{On}
use Rattle.s370_state.specs.Meaning.{Row, After, operate, machine_of}

abbrev pub after : CpuView → List ℕ → Next → After
after c b n = record { machine = record { cpu = c; bytes = b }; next = n }

-- processor and storage are as they were
pub record IsSame {S : Type 0} (cpu : CpuView) (space : S) (cpu' : CpuView) (space' : S) : Type 0 where
  pub same_cpu : cpu' ≡ cpu
  pub same_space : space' ≡ space

-- From old to new an operation does as its row says, and the memory stays.
pub record Performs {S : Type 0} (memory_of : S → Memory) (bytes_of : S → List ℕ) (row : Memory → Machine → Option Row)
    (cpu : CpuView) (space : S) (cpu' : CpuView) (space' : S) (next : Next) : Type 0 where
  pub memory : memory_of space' ≡ memory_of space
  pub effect : let s =
      machine_of cpu (bytes_of space) in after cpu' (bytes_of space') next ≡ operate (memory_of space) s (row (memory_of space) s)

-- From old to new an operation does as its row says, and the task goes on, where it answers so; else all is as it was.
abbrev pub Attempts : {S : Type 0} → (S → Memory) → (S → List ℕ) → (Memory → Machine → Option Row) → CpuView → S → CpuView → S
    → Bool → Type 0
Attempts memory_of bytes_of row cpu space cpu' space' true = Performs memory_of bytes_of row cpu space cpu' space' On
Attempts memory_of bytes_of row cpu space cpu' space' false = IsSame cpu space cpu' space'
