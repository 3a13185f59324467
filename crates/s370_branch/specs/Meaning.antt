-- What the claim of the program says by this crate's clauses.
use Rattle.std.specs.Prelude.{ℕ, ◌+◌, ◌*◌, ◌%◌, Bool, true, false, not, ◌&&◌, nat_le, int_lt, if◌then◌else◌, ◌==◌, Option, Some, None, List, slice_index, slice_set}
use Rattle.cov_base.specs.Meaning.{CpuView, wrap}
use Rattle.s370_state.specs.Meaning.{signed}
use Rattle.s370_decode.specs.Meaning.{r1, r2, ex, e2}
use Rattle.s370_decode.specs.declared.code.Code.{Code}
use Rattle.s370_decode.specs.declared.op.Op.{Op}
use Rattle.s370_decode.specs.declared.op.Op.TheVariants.{BC, BCR, BCT, BCTR, BAL, BALR, BAS, BASR, BXH, BXLE}

-- Branches (Principles of Operation, "Branching"). The branch address is taken before any register changes.

-- the mask's bits 8, 4, 2 and 1 select the condition codes 0, 1, 2 and 3
unfoldable pub is_selected : ℕ → ℕ → Bool
is_selected mask code =
    if code == 0 then nat_le 8 mask
    else (if code == 1 then nat_le 4 (mask % 8) else (if code == 2 then nat_le 2 (mask % 4) else mask % 2 == 1))

-- R1 less 1
abbrev pub less_one : CpuView → Code → ℕ
less_one s c = (slice_index s.regs (r1 c) + 4294967295) % 4294967296

-- R1 plus the increment, R3
abbrev pub index_sum : CpuView → Code → ℕ
index_sum s c = (slice_index s.regs (r1 c) + slice_index s.regs (r2 c)) % 4294967296

-- the comparand is R3 where its number is odd, else the next register
abbrev pub comparand : CpuView → Code → ℕ
comparand s c = slice_index s.regs (if r2 c % 2 == 1 then r2 c else r2 c + 1)

-- the sum is high in the signed comparison with the comparand as it stood before
abbrev pub is_high : CpuView → Code → Bool
is_high s c = int_lt (signed (comparand s c)) (signed (index_sum s c))

-- whether the instruction as given branches; R2 of 0 in the RR forms is no branch
unfoldable pub goes : Op → CpuView → Code → Bool
goes BC s c = is_selected (r1 c) s.condition
goes BCR s c = not (r2 c == 0) && is_selected (r1 c) s.condition
goes BCT s c = not (less_one s c == 0)
goes BCTR s c = not (r2 c == 0) && not (less_one s c == 0)
goes BAL s c = true
goes BALR s c = not (r2 c == 0)
goes BAS s c = true
goes BASR s c = not (r2 c == 0)
goes BXH s c = is_high s c
goes BXLE s c = not (is_high s c)
goes _ s c = false

-- bits 8-31 of R2
abbrev pub by_register : CpuView → Code → ℕ
by_register s c = wrap (slice_index s.regs (r2 c))

-- two bits of length code, two of condition code, four of program mask, and the updated address
abbrev pub link_word : CpuView → ℕ → ℕ → ℕ
link_word s next link = link * 1073741824 + s.condition * 268435456 + s.mask * 16777216 + next

abbrev pub with_first : CpuView → Code → ℕ → List ℕ
with_first s c v = slice_set s.regs (r1 c) v

-- the processor after a branch
abbrev pub arrives : CpuView → ℕ → Bool → ℕ → List ℕ → Option CpuView
arrives s next goes to regs = Some (record { regs = regs; ia = if goes then to else next; condition = s.condition; mask = s.mask })

-- Where the operation is a branch: it goes to bits 8-31 of R2 in the RR forms, else to the second operand's address, which is
-- without an index in RS, or on to `next`, the updated address; and what becomes of R1, by that or by link, the length code.
abbrev pub branched : Op → CpuView → Code → ℕ → ℕ → Option CpuView
branched BC s c next link = arrives s next (goes BC s c) (ex s c) s.regs
branched BCR s c next link = arrives s next (goes BCR s c) (by_register s c) s.regs
branched BCT s c next link = arrives s next (goes BCT s c) (ex s c) (with_first s c (less_one s c))
branched BCTR s c next link = arrives s next (goes BCTR s c) (by_register s c) (with_first s c (less_one s c))
branched BAL s c next link = arrives s next (goes BAL s c) (ex s c) (with_first s c (link_word s next link))
branched BALR s c next link = arrives s next (goes BALR s c) (by_register s c) (with_first s c (link_word s next link))
branched BAS s c next link = arrives s next (goes BAS s c) (ex s c) (with_first s c next)
branched BASR s c next link = arrives s next (goes BASR s c) (by_register s c) (with_first s c next)
branched BXH s c next link = arrives s next (goes BXH s c) (e2 s c) (with_first s c (index_sum s c))
branched BXLE s c next link = arrives s next (goes BXLE s c) (e2 s c) (with_first s c (index_sum s c))
branched _ s c next link = None
