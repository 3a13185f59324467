-- The supervisor call of a step, by its instruction's first halfword.
use Rattle.std.proofs.Common.{◌≡◌, ℕ, ◌+◌, ◌*◌, ◌/◌, ◌%◌, ◌<◌, ◌==◌, true, false, if◌then◌else◌, Some, None, List, sym, ◌∙◌, ap, arith}
use Rattle.std.specs.Option.{option_or}
use Rattle.std.proofs.lemmas.Nat.{or_of_8}
use Rattle.cov_base.specs.Meaning.{length_of, Memory, half_at, CpuView, State}
use Rattle.s370_state.specs.declared.endings.Ending.{Ending}
use Rattle.s370_decode.specs.Meaning.{part, first_half, ex}
use Rattle.s370_decode.specs.declared.code.Code.{Code}
use Rattle.s370_exec.specs.Meaning.{call_in, call_of, subject_call, first_tests, rest_tests, subject_tests, code_at, is_execute, modifier, merged}
use Rattle.s370_exec.proofs.Laws.{call_of-unread, call_of-read, subject_call-read, first_half-code_at, modifier-below}
use Rattle.task_run.specs.Called.{call_at}

-- an instruction whose second byte is one
call_by_half : (c : Code) → part c 1 < 256 → call_in c ≡ call_at (first_half c)
call_by_half c small =
    let high : (part c 0 * 256 + part c 1) / 256 ≡ part c 0 = omega (arith, small) in
    let low : (part c 0 * 256 + part c 1) % 256 ≡ part c 1 = omega (arith, small) in
    sym (ap (λ n. if n == 10 then Some ((part c 0 * 256 + part c 1) % 256) else None) high ∙ ap (λ n. if part c 0 == 10 then Some n else None) low)

second_small : (m : Memory) (bytes : List ℕ) (a h : ℕ) → part (code_at m bytes a h) 1 < 256
unfolding code_at
second_small m bytes a h = omega arith

-- neither first halfword nor rest may be refused
pub call_of-refused : (m : Memory) (s : State) (a : ℕ) (e : Ending) → a ≡ s.machine.cpu.ia → first_tests m a ≡ Some e → call_of m s ≡ None
call_of-refused m s a e at h = call_of-unread m s a e at (ap (λ o. option_or o (rest_tests m a (length_of (half_at m s.machine.bytes a)))) h)

pub call_of-rest_refused : (m : Memory) (s : State) (a h : ℕ) (e : Ending) → a ≡ s.machine.cpu.ia → first_tests m a ≡ None → h ≡ half_at m s.machine.bytes a → rest_tests m a (length_of h) ≡ Some e → call_of m s ≡ None
call_of-rest_refused m s a h e at none half tests =
    call_of-unread m s a e at (ap (λ o. option_or o (rest_tests m a (length_of (half_at m s.machine.bytes a)))) none ∙ (ap (λ k. rest_tests m a (length_of k)) (sym half) ∙ tests))

none_refused : (m : Memory) (s : State) (a h : ℕ) → first_tests m a ≡ None → h ≡ half_at m s.machine.bytes a → rest_tests m a (length_of h) ≡ None →
    option_or (first_tests m a) (rest_tests m a (length_of (half_at m s.machine.bytes a))) ≡ None
none_refused m s a h none half tests = ap (λ o. option_or o (rest_tests m a (length_of (half_at m s.machine.bytes a)))) none ∙ (ap (λ k. rest_tests m a (length_of k)) (sym half) ∙ tests)

code_there : (m : Memory) (s : State) (a h : ℕ) (c : Code) → h ≡ half_at m s.machine.bytes a → c ≡ code_at m s.machine.bytes a h → c ≡ code_at m s.machine.bytes a (half_at m s.machine.bytes a)
code_there m s a h c half code = code ∙ ap (code_at m s.machine.bytes a) half

first_there : (m : Memory) (s : State) (a h : ℕ) (c : Code) → c ≡ code_at m s.machine.bytes a h → first_half c ≡ h
first_there m s a h c code = ap first_half code ∙ first_half-code_at m s.machine.bytes a h

-- an EX: the call is its subject's
pub call_of-execute : (m : Memory) (s : State) (a h : ℕ) (c : Code) → a ≡ s.machine.cpu.ia → first_tests m a ≡ None → h ≡ half_at m s.machine.bytes a → rest_tests m a (length_of h) ≡ None →
    c ≡ code_at m s.machine.bytes a h → is_execute h ≡ true → call_of m s ≡ subject_call m s c
call_of-execute m s a h c at none half tests code execute =
    call_of-read m s a c true at (none_refused m s a h none half tests) (code_there m s a h c half code) (ap is_execute (first_there m s a h c code) ∙ execute)

-- another instruction
pub call_of-begun : (m : Memory) (s : State) (a h : ℕ) (c : Code) → a ≡ s.machine.cpu.ia → first_tests m a ≡ None → h ≡ half_at m s.machine.bytes a → rest_tests m a (length_of h) ≡ None →
    c ≡ code_at m s.machine.bytes a h → is_execute h ≡ false → call_of m s ≡ call_at h
call_of-begun m s a h c at none half tests code other =
    call_of-read m s a c false at (none_refused m s a h none half tests) (code_there m s a h c half code) (ap is_execute (first_there m s a h c code) ∙ other)
    ∙ (ap call_in code ∙ (call_by_half (code_at m s.machine.bytes a h) (second_small m s.machine.bytes a h) ∙ ap call_at (first_half-code_at m s.machine.bytes a h)))

-- the subject of an EX: ORing leaves a byte a byte
merged_small : (m : Memory) (bytes : List ℕ) (a h : ℕ) (s : CpuView) (c : Code) → part (merged s c (code_at m bytes a h)) 1 < 256
unfolding merged code_at
merged_small m bytes a h s c = or_of_8 (h % 256) (modifier s c) (omega arith) (modifier-below s c)

pub subject_call-begun : (m : Memory) (s : State) (c : Code) (a h k : ℕ) (x : Code) → a ≡ ex s.machine.cpu c → first_tests m a ≡ None → h ≡ half_at m s.machine.bytes a → subject_tests m a h ≡ None →
    x ≡ merged s.machine.cpu c (code_at m s.machine.bytes a h) → k ≡ first_half x → subject_call m s c ≡ call_at k
subject_call-begun m s c a h k x at none half tests code first =
    subject_call-read m s c a h x at none half tests code ∙ (ap call_in code ∙ (call_by_half (merged s.machine.cpu c (code_at m s.machine.bytes a h)) (merged_small m s.machine.bytes a h s.machine.cpu c)
    ∙ ap call_at (sym (first ∙ ap first_half code))))
