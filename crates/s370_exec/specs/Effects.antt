-- An instruction's effect as its parts tell it.
use Rattle.std.specs.Prelude.{ℕ, Bool, true, false, Option, List}
use Rattle.cov_base.specs.Meaning.{CpuView, Machine, IoView, Memory}
use Rattle.s370_state.specs.declared.endings.Ending.{Ending}
use Rattle.s370_state.specs.declared.endings.Next.{Next}
use Rattle.s370_state.specs.declared.endings.Next.TheVariants.{On, Ended}
use Rattle.s370_decode.specs.Meaning.{first_half, op_of}
use Rattle.s370_decode.specs.declared.code.Code.{Code}
use Rattle.s370_decode.specs.declared.op.Op.{Op}
use Rattle.s370_decode.specs.declared.op.Op.TheVariants.{EX, SVC}
use Rattle.s370_exec.specs.declared.instruction.Told.{Told}
use Rattle.s370_exec.specs.declared.instruction.Told.TheVariants.{GoesOn, HasEnded}
use Rattle.s370_exec.specs.Meaning.{Effect, effect, updated, link_code}

abbrev pub effect_of : CpuView → List ℕ → IoView → Next → Effect
effect_of cpu bytes io next = record { machine = record { cpu = cpu; bytes = bytes }; io = io; next = next }

-- how the task goes on, or how it has ended
abbrev pub next_of : Told → Ending → Next
next_of GoesOn e = On
next_of HasEnded e = Ended e

-- of the operation that its code gives, under EX or not
abbrev pub executed : Code → Option ℕ → Memory → Machine → IoView → Effect
executed c x m s io = effect m s io c (op_of (first_half c)) (updated c x) (link_code c x)

-- neither EX nor SVC
abbrev pub is_plain : Op → Bool
is_plain EX = false
is_plain SVC = false
is_plain _ = true
