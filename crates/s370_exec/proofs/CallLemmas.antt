-- The supervisor call that a step executes, by the tests of its halfwords.
use Rattle.std.proofs.Common.{◌≡◌, ℕ, Bool, if◌then◌else◌, Option, Some, None, refl, ◌∙◌}
use Rattle.std.specs.Option.{option_or}
use Rattle.cov_base.specs.Meaning.{length_of, Memory, half_at, State}
use Rattle.s370_state.specs.declared.endings.Ending.{Ending}
use Rattle.s370_decode.specs.Meaning.{first_half, ex}
use Rattle.s370_decode.specs.declared.code.Code.{Code}
use Rattle.s370_exec.specs.Meaning.{call_in, unless_ended, subject_call, call_of, first_tests, rest_tests, subject_tests, code_at, is_execute, merged}
use Rattle.s370_exec.specs.Fetch.{whole_tests}
use Rattle.s370_exec.proofs.Subjects.{execute-code_at}

subject_call-at : (m : Memory) (s : State) (c : Code) (a h : ℕ) (first rest : Option Ending) (x : Code) → a ≡ ex s.machine.cpu c → h ≡ half_at m s.machine.bytes a →
    first_tests m a ≡ first → subject_tests m a h ≡ rest → x ≡ merged s.machine.cpu c (code_at m s.machine.bytes a h) →
    subject_call m s c ≡ unless_ended first (unless_ended rest (call_in x))
unfolding subject_call
subject_call-at m s c a h first rest x at half tests later code = rw (← tests, ← later, code, half, at) refl

-- the subject isn't fetched
pub subject_call-refused : (m : Memory) (s : State) (c : Code) (a : ℕ) (e : Ending) → a ≡ ex s.machine.cpu c → first_tests m a ≡ Some e → subject_call m s c ≡ None
subject_call-refused m s c a e at tests = subject_call-at m s c a (half_at m s.machine.bytes a) (Some e) _ _ at refl tests refl refl

pub subject_call-unread : (m : Memory) (s : State) (c : Code) (a h : ℕ) (e : Ending) → a ≡ ex s.machine.cpu c → first_tests m a ≡ None → h ≡ half_at m s.machine.bytes a →
    subject_tests m a h ≡ Some e → subject_call m s c ≡ None
subject_call-unread m s c a h e at none half tests = subject_call-at m s c a h None (Some e) _ at half none tests refl

pub subject_call-read : (m : Memory) (s : State) (c : Code) (a h : ℕ) (x : Code) → a ≡ ex s.machine.cpu c → first_tests m a ≡ None → h ≡ half_at m s.machine.bytes a →
    subject_tests m a h ≡ None → x ≡ merged s.machine.cpu c (code_at m s.machine.bytes a h) → subject_call m s c ≡ call_in x
subject_call-read m s c a h x at none half tests code = subject_call-at m s c a h None None x at half none tests code

call_of-at : (m : Memory) (s : State) (a h : ℕ) (first rest : Option Ending) (c : Code) (b : Bool) → a ≡ s.machine.cpu.ia → h ≡ half_at m s.machine.bytes a →
    first_tests m a ≡ first → rest_tests m a (length_of h) ≡ rest → c ≡ code_at m s.machine.bytes a h → is_execute h ≡ b →
    call_of m s ≡ unless_ended first (unless_ended rest (if b then subject_call m s c else call_in c))
unfolding call_of
call_of-at m s a h first rest c b at half tests later code execute = rw (← execute, ← tests, ← later, code, half, at) refl

by_tests : (first rest : Option Ending) (e : Ending) (call : Option ℕ) → option_or first rest ≡ Some e → unless_ended first (unless_ended rest call) ≡ None
by_tests (Some f) rest e call h = refl
by_tests None (Some f) e call h = refl
by_tests None None e call h = let k : None ≡ Some e = h in absurd cc

by_none : (first rest : Option Ending) (call : Option ℕ) → option_or first rest ≡ None → unless_ended first (unless_ended rest call) ≡ call
by_none (Some f) rest call h = let k : Some f ≡ None = h in absurd cc
by_none None (Some f) call h = let k : Some f ≡ None = h in absurd cc
by_none None None call h = refl

-- the instruction isn't fetched whole
pub call_of-unread : (m : Memory) (s : State) (a : ℕ) (e : Ending) → a ≡ s.machine.cpu.ia → whole_tests m s.machine.bytes a ≡ Some e → call_of m s ≡ None
call_of-unread m s a e at h = call_of-at m s a (half_at m s.machine.bytes a) _ _ _ _ at refl refl refl refl refl ∙ by_tests (first_tests m a) _ e _ h

-- it is, and is an EX or not
pub call_of-read : (m : Memory) (s : State) (a : ℕ) (c : Code) (b : Bool) → a ≡ s.machine.cpu.ia → whole_tests m s.machine.bytes a ≡ None →
    c ≡ code_at m s.machine.bytes a (half_at m s.machine.bytes a) → is_execute (first_half c) ≡ b → call_of m s ≡ (if b then subject_call m s c else call_in c)
call_of-read m s a c b at h code execute =
    call_of-at m s a (half_at m s.machine.bytes a) _ _ c b at refl refl refl code (execute-code_at m s.machine.bytes a c b code execute) ∙ by_none (first_tests m a) _ _ h
