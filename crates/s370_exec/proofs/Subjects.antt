-- The subject of EX as it is executed: the operation stays.
use Rattle.std.proofs.Common.{◌≡◌, ℕ, ◌+◌, ◌*◌, ◌/◌, ◌%◌, ◌<◌, ◌==◌, Bool, true, false, if◌then◌else◌, List, refl, sym, ◌∙◌, ap, arith}
use Rattle.std.specs.Prelude.{slice_index, bit_or}
use Rattle.std.proofs.lemmas.Bool.{eqb-true}
use Rattle.std.proofs.lemmas.Nat.{or_of_8}
use Rattle.cov_base.specs.Meaning.{Memory, CpuView, half_at}
use Rattle.s370_decode.specs.Meaning.{first_half, r1, op_of, op_in, operations}
use Rattle.s370_decode.specs.declared.code.Code.{Code}
use Rattle.s370_branch.specs.Meaning.{goes}
use Rattle.s370_exec.specs.Meaning.{code_at, is_execute, modifier, merged}

pub modifier-below : (s : CpuView) (c : Code) → modifier s c < 256
modifier-below s c = by_zero (r1 c == 0) (slice_index s.regs (r1 c))
  where
    by_zero : (z : Bool) (v : ℕ) → (if z then 0 else v % 256) < 256
    by_zero true v = omega arith
    by_zero false v = omega arith

pub first_half-code_at : (m : Memory) (bytes : List ℕ) (a h : ℕ) → first_half (code_at m bytes a h) ≡ h
unfolding code_at
first_half-code_at m bytes a h = omega arith

-- whether the code that was read is an EX, its first halfword tells
pub execute-code_at : (m : Memory) (bytes : List ℕ) (a : ℕ) (c : Code) (b : Bool) → c ≡ code_at m bytes a (half_at m bytes a) → is_execute (first_half c) ≡ b → is_execute (half_at m bytes a) ≡ b
execute-code_at m bytes a c b code h = sym (ap is_execute (ap first_half code ∙ first_half-code_at m bytes a (half_at m bytes a))) ∙ h

pub at-code_at : (m : Memory) (bytes : List ℕ) (a h : ℕ) → (code_at m bytes a h).at ≡ a
unfolding code_at
at-code_at m bytes a h = refl

pub at-merged : (s : CpuView) (c k : Code) → (merged s c k).at ≡ k.at
unfolding merged
at-merged s c k = refl

-- the subject stays what it was, EX or not
pub is_execute-merged : (m : Memory) (bytes : List ℕ) (a h : ℕ) (s : CpuView) (c : Code) → is_execute (first_half (merged s c (code_at m bytes a h))) ≡ is_execute h
unfolding merged code_at
is_execute-merged m bytes a h s c =
    let v : ℕ = bit_or (h % 256) (modifier s c) in
    let below : v < 256 = or_of_8 (h % 256) (modifier s c) (omega arith) (modifier-below s c) in
    let code : (h / 256 * 256 + v) / 256 ≡ h / 256 = omega (arith, below) in
    ap (λ n. n == 68) code

-- EX is no branch
pub execute_stays : (h : ℕ) (s : CpuView) (c : Code) → is_execute h ≡ true → goes (op_of h) s c ≡ false
unfolding goes op_in operations
execute_stays h s c is = let code : h / 256 ≡ 68 = eqb-true (h / 256) 68 is in rw code refl
