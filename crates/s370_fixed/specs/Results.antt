-- What operations leave in the processor.
use Rattle.std.specs.Prelude.{ℕ, ◌+◌, ℤ, List, slice_index, slice_set}
use Rattle.std.specs.Int.{cast_signed, w64}
use Rattle.cov_base.specs.Meaning.{CpuView, Machine, Memory}
use Rattle.s370_state.specs.Meaning.{Outcome, signed, pair, with_pair, number_at}
use Rattle.s370_fixed.specs.Meaning.{low_word, is_word, result_code, signed_half, divided, product}

-- register r as a signed number
abbrev pub signed_in : CpuView → ℕ → ℤ
signed_in cpu r = signed (slice_index cpu.regs r)

-- the halfword at an address, extended by its sign
abbrev pub signed_half_at : Memory → List ℕ → ℕ → ℤ
signed_half_at m bytes a = signed_half (number_at m bytes a 2)

-- register r has the low word of a number
abbrev pub with_low_word : CpuView → ℕ → ℤ → CpuView
with_low_word cpu r z = record cpu { regs = slice_set cpu.regs r (low_word z) }

-- the pair r has the product of its second register and a number
abbrev pub with_product : CpuView → ℕ → ℤ → CpuView
with_product cpu r z = record cpu { regs = with_pair cpu.regs r (product (signed_in cpu (r + 1)) z) }

-- register r has the low word of a signed result, with its condition code
abbrev pub with_result : CpuView → ℕ → ℤ → CpuView
with_result cpu r z = record cpu { regs = slice_set cpu.regs r (low_word z); condition = result_code (is_word z) z }

-- the pair r is divided
abbrev pub pair_divided : ℕ → ℤ → Memory → Machine → Outcome
pair_divided r d m s = divided s r (cast_signed w64 (pair s.cpu r)) d
