-- What the claim of the program says by this crate's clauses.
use Rattle.std.specs.Prelude.{ℕ, ◌+◌, ◌*◌, ◌/◌, ◌%◌, ◌==◌, if◌then◌else◌, slice_index, Bool, List, [], ◌∷◌, ◌++◌, codes}
use Rattle.cov_base.specs.Meaning.{CpuView, address, words}
use Rattle.s370_decode.specs.declared.code.Code.{Code}
use Rattle.std.specs.List.{list_any}
use Rattle.std.specs.Str.{bytes_eq}
use Rattle.s370_decode.specs.declared.op.Op.{Op}
use Rattle.s370_decode.specs.declared.op.Op.TheVariants.{A, AH, AL, ALR, AP, AR, BAL, BALR, BAS, BASR, BC, BCR, BCT, BCTR, BXH, BXLE, C, CDS, CH, CL, CLC, CLCL, CLI, CLM, CLR, CP, CR, CS, CVB, CVD, D, DP, DR, ED, EDMK, EX, IC, ICM, L, LA, LCR, LH, LM, LNR, LPR, LR, LTR, M, MH, MP, MR, MVC, MVCIN, MVCL, MVI, MVN, MVO, MVZ, N, NC, NI, NR, O, OC, OI, OR, PACK, Privileged, S, SH, SL, SLA, SLDA, SLDL, SLL, SLR, SP, SPM, SR, SRA, SRDA, SRDL, SRL, SRP, ST, STC, STCM, STH, STM, SVC, TM, TR, TRT, TS, UNPK, X, XC, XI, XR, ZAP, Unknown}

-- The fields of an instruction, and the addresses of its operands.

-- the byte at k
abbrev pub part : Code → ℕ → ℕ
part c k = slice_index c.bytes k

abbrev pub first_half : Code → ℕ
first_half c = part c 0 * 256 + part c 1

-- bits 8-11
unfoldable pub r1 : Code → ℕ
r1 c = part c 1 / 16

-- bits 12-15
unfoldable pub r2 : Code → ℕ
r2 c = part c 1 % 16

-- bits 8-15
unfoldable pub i2 : Code → ℕ
i2 c = part c 1

-- bits 16-19
unfoldable pub b1 : Code → ℕ
b1 c = part c 2 / 16

-- bits 20-31
unfoldable pub d1 : Code → ℕ
d1 c = (part c 2 % 16) * 256 + part c 3

-- bits 32-35 of six bytes, else 16-19
unfoldable pub b2 : Code → ℕ
b2 c = if c.len == 6 then part c 4 / 16 else part c 2 / 16

-- bits 36-47 of six bytes, else 20-31
unfoldable pub d2 : Code → ℕ
d2 c = if c.len == 6 then (part c 4 % 16) * 256 + part c 5 else (part c 2 % 16) * 256 + part c 3

-- the address of the first operand of SI and SS
abbrev pub e1 : CpuView → Code → ℕ
e1 s c = address s (b1 c) 0 (d1 c)

-- the address of the second operand of RS and SS
abbrev pub e2 : CpuView → Code → ℕ
e2 s c = address s (b2 c) 0 (d2 c)

-- by how many bits or digits a shift goes: the low six bits of that
abbrev pub shift_distance : CpuView → Code → ℕ
shift_distance s c = e2 s c % 64

-- the address of the second operand of RX, with its index
abbrev pub ex : CpuView → Code → ℕ
ex s c = address s (b2 c) (r2 c) (d2 c)

-- The mnemonics of machine instructions and the extended ones of branches (Principles of Operation, Appendix
-- "Lists of Instructions"; High Level Assembler, "Extended Mnemonic Codes"): upper case, by length, then by letters.

unfoldable pub mnemonics : List (List ℕ)
mnemonics =
    words (codes "A B C D L M N O S X AH AL AP AR BC BE BH BL BM BO BP BR BZ CH CL CP CR CS DP DR ED EX IC LA LH LM LR MH"
    ++ codes " MP MR NC NI NR OC OI OR SH SL SP SR ST TM TR TS XC XI XR ALR BAL BAS BCR BCT BER BHR BLR BMR BNE BNH BNL"
    ++ codes " BNM BNO BNP BNZ BOR BPR BXH BZR CDS CLC CLI CLM CLR CVB CVD ICM LCR LNR LPR LTR MVC MVI MVN MVO MVZ NOP"
    ++ codes " SLA SLL SLR SPM SRA SRL SRP STC STH STM SVC TRT ZAP BALR BASR BCTR BNER BNHR BNLR BNMR BNOR BNPR BNZR"
    ++ codes " BXLE CLCL EDMK MVCL NOPR PACK SLDA SLDL SRDA SRDL STCM UNPK MVCIN")

-- the word is one of them
unfoldable pub is_mnemonic : List ℕ → Bool
is_mnemonic word = list_any (λ m. bytes_eq m word) mnemonics

-- The operation of each code (Principles of Operation, Appendix "Lists of Instructions").

-- the codes that have one; of the privileged ones none is told from another
unfoldable pub operations : List (ℕ × Op)
operations =
    (0x04, SPM) ∷ (0x05, BALR) ∷ (0x06, BCTR) ∷ (0x07, BCR) ∷ (0x08, Privileged) ∷
    (0x09, Privileged) ∷ (0x0A, SVC) ∷ (0x0D, BASR) ∷ (0x0E, MVCL) ∷ (0x0F, CLCL) ∷
    (0x10, LPR) ∷ (0x11, LNR) ∷ (0x12, LTR) ∷ (0x13, LCR) ∷ (0x14, NR) ∷ (0x15, CLR) ∷ (0x16, OR) ∷ (0x17, XR) ∷
    (0x18, LR) ∷ (0x19, CR) ∷ (0x1A, AR) ∷ (0x1B, SR) ∷ (0x1C, MR) ∷ (0x1D, DR) ∷ (0x1E, ALR) ∷ (0x1F, SLR) ∷
    (0x40, STH) ∷ (0x41, LA) ∷ (0x42, STC) ∷ (0x43, IC) ∷ (0x44, EX) ∷ (0x45, BAL) ∷ (0x46, BCT) ∷ (0x47, BC) ∷
    (0x48, LH) ∷ (0x49, CH) ∷ (0x4A, AH) ∷ (0x4B, SH) ∷ (0x4C, MH) ∷ (0x4D, BAS) ∷ (0x4E, CVD) ∷ (0x4F, CVB) ∷
    (0x50, ST) ∷ (0x54, N) ∷ (0x55, CL) ∷ (0x56, O) ∷ (0x57, X) ∷ (0x58, L) ∷ (0x59, C) ∷
    (0x5A, A) ∷ (0x5B, S) ∷ (0x5C, M) ∷ (0x5D, D) ∷ (0x5E, AL) ∷ (0x5F, SL) ∷
    (0x80, Privileged) ∷ (0x82, Privileged) ∷ (0x83, Privileged) ∷ (0x84, Privileged) ∷ (0x85, Privileged) ∷
    (0x86, BXH) ∷ (0x87, BXLE) ∷ (0x88, SRL) ∷ (0x89, SLL) ∷ (0x8A, SRA) ∷
    (0x8B, SLA) ∷ (0x8C, SRDL) ∷ (0x8D, SLDL) ∷ (0x8E, SRDA) ∷ (0x8F, SLDA) ∷
    (0x90, STM) ∷ (0x91, TM) ∷ (0x92, MVI) ∷ (0x93, TS) ∷ (0x94, NI) ∷ (0x95, CLI) ∷ (0x96, OI) ∷
    (0x97, XI) ∷ (0x98, LM) ∷ (0x9C, Privileged) ∷ (0x9D, Privileged) ∷ (0x9E, Privileged) ∷ (0x9F, Privileged) ∷
    (0xAC, Privileged) ∷ (0xAD, Privileged) ∷ (0xAE, Privileged) ∷
    (0xB1, Privileged) ∷ (0xB6, Privileged) ∷ (0xB7, Privileged) ∷ (0xBA, CS) ∷
    (0xBB, CDS) ∷ (0xBD, CLM) ∷ (0xBE, STCM) ∷ (0xBF, ICM) ∷
    (0xD1, MVN) ∷ (0xD2, MVC) ∷ (0xD3, MVZ) ∷ (0xD4, NC) ∷ (0xD5, CLC) ∷ (0xD6, OC) ∷
    (0xD7, XC) ∷ (0xDC, TR) ∷ (0xDD, TRT) ∷ (0xDE, ED) ∷ (0xDF, EDMK) ∷
    (0xE8, MVCIN) ∷
    (0xF0, SRP) ∷ (0xF1, MVO) ∷ (0xF2, PACK) ∷ (0xF3, UNPK) ∷ (0xF8, ZAP) ∷
    (0xF9, CP) ∷ (0xFA, AP) ∷ (0xFB, SP) ∷ (0xFC, MP) ∷ (0xFD, DP) ∷ []

-- a code that isn't listed is Unknown
unfoldable pub op_in : List (ℕ × Op) → ℕ → Op
op_in [] code = Unknown
op_in (o ∷ os) code = if o.0 == code then o.1 else op_in os code

-- of the first halfword
abbrev pub op_of : ℕ → Op
op_of h = op_in operations (h / 256)
