-- What a sum without signs leaves in a register.
use Rattle.std.specs.Prelude.{ℕ, ◌%◌, slice_set}
use Rattle.cov_base.specs.Meaning.{CpuView}
use Rattle.s370_logic.specs.Meaning.{carry_code}

-- register r has the low word of a sum, with its condition code
abbrev pub with_sum : CpuView → ℕ → ℕ → CpuView
with_sum cpu r n = record cpu { regs = slice_set cpu.regs r (n % 4294967296); condition = carry_code n }
