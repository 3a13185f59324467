-- And, or and exclusive or, and what they leave in a register.
use Rattle.std.specs.Prelude.{ℕ, ◌==◌, Option, bit_and, bit_or, bit_xor, slice_set}
use Rattle.cov_base.specs.Meaning.{CpuView, Machine, Memory}
use Rattle.s370_decode.specs.declared.code.Code.{Code}
use Rattle.s370_state.specs.Meaning.{Row}
use Rattle.s370_logic.specs.Meaning.{zero_code, row_registers, row_word, row_immediate, row_fields}
use Rattle.s370_logic.specs.declared.bitwise.Connective.{Connective}
use Rattle.s370_logic.specs.declared.bitwise.Connective.TheVariants.{And, Or, ExclusiveOr}

-- the operation on the bits of two numbers
abbrev pub connected : Connective → ℕ → ℕ → ℕ
connected And = bit_and
connected Or = bit_or
connected ExclusiveOr = bit_xor

-- register r has a result, with its condition code
abbrev pub with_result : CpuView → ℕ → ℕ → CpuView
with_result cpu r w = record cpu { regs = slice_set cpu.regs r w; condition = zero_code (w == 0) }

-- the row of the operation on registers, with a word, with I2 and on fields
abbrev pub joins_registers : Connective → Code → Memory → Machine → Option Row
joins_registers f = row_registers (connected f)

abbrev pub joins_word : Connective → Code → Memory → Machine → Option Row
joins_word f = row_word (connected f)

abbrev pub joins_immediate : Connective → Code → Memory → Machine → Option Row
joins_immediate f = row_immediate (connected f)

abbrev pub joins_fields : Connective → Code → Memory → Machine → Option Row
joins_fields f = row_fields (connected f)
