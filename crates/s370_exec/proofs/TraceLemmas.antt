-- How long a trace is, and how many instructions a run does.
use Rattle.std.proofs.Common.{◌≡◌, ℕ, ◌+◌, ◌≤◌, true, false, Option, Some, None, [], ◌∷◌, length, refl, arith}
use Rattle.std.proofs.lemmas.Bool.{cond_both}
use Rattle.cov_base.specs.Meaning.{length_of, Memory, half_at, State}
use Rattle.s370_state.specs.declared.endings.Ending.{Ending}
use Rattle.s370_decode.specs.Meaning.{ex, op_of}
use Rattle.s370_decode.specs.declared.code.Code.{Code}
use Rattle.s370_branch.specs.Meaning.{goes}
use Rattle.s370_exec.specs.Meaning.{effect, updated, link_code, code_at, first_tests, rest_tests, subject_tests, is_execute, Step, solo_step, from_first, fetched, begun_step, stepped, ended, visit, behind, subject_step, subject_fetched}

-- a step does one instruction, and visits so many at most
record IsStepOf (most : ℕ) (s : State) (t : Step) : Type 0 where
  pub done : t.state.done ≡ s.done + 1
  pub visits : length t.visits ≤ most

one_ended : (most : ℕ) (s : State) (e : Ending) → IsStepOf most s (ended s e [])
one_ended most s e = record { done = refl; visits = omega arith }

subject_fetched-one : (m : Memory) (s : State) (c : Code) (a h : ℕ) (rest : Option Ending) → IsStepOf 1 s (subject_fetched m s c a h rest)
subject_fetched-one m s c a h (Some e) = record { done = refl; visits = omega arith }
subject_fetched-one m s c a h None = record { done = refl; visits = omega arith }

from_first-of : (most : ℕ) (s : State) (first : Option Ending) (t : Step) → IsStepOf most s t → IsStepOf most s (from_first s first t)
from_first-of most s (Some e) t is = one_ended most s e
from_first-of most s None t is = is

subject_step-one : (m : Memory) (s : State) (c : Code) → IsStepOf 1 s (subject_step m s c)
unfolding subject_step
subject_step-one m s c =
    let a : ℕ = ex s.machine.cpu c in
    let h : ℕ = half_at m s.machine.bytes a in
    from_first-of 1 s (first_tests m a) (subject_fetched m s c a h (subject_tests m a h)) (subject_fetched-one m s c a h (subject_tests m a h))

begun_step-two : (m : Memory) (s : State) (c : Code) (h : ℕ) → IsStepOf 2 s (begun_step m s c h)
begun_step-two m s c h =
    let subject : Step = subject_step m s c in
    let one : IsStepOf 1 s subject = subject_step-one m s c in
    cond_both (is_execute h) (behind (visit s c.at true false false) subject)
    (stepped s (effect m s.machine s.io c (op_of h) (updated c None) (link_code c None)) (visit s c.at true (goes (op_of h) s.machine.cpu c) false ∷ [])) (IsStepOf 2 s)
    (λ e. record { done = one.done; visits = omega (arith, one.visits) })
    (λ e. record { done = refl; visits = omega arith })

fetched-two : (m : Memory) (s : State) (a h : ℕ) (rest : Option Ending) → IsStepOf 2 s (fetched m s a h rest)
fetched-two m s a h (Some e) = record { done = refl; visits = omega arith }
fetched-two m s a h None = begun_step-two m s (code_at m s.machine.bytes a h) h

one_step : (m : Memory) (s : State) → IsStepOf 2 s (solo_step m s)
unfolding solo_step
one_step m s =
    let a : ℕ = s.machine.cpu.ia in
    let h : ℕ = half_at m s.machine.bytes a in
    from_first-of 2 s (first_tests m a) (fetched m s a h (rest_tests m a (length_of h))) (fetched-two m s a h (rest_tests m a (length_of h)))

pub solo_step-done : (m : Memory) (s : State) → (solo_step m s).state.done ≡ s.done + 1
solo_step-done m s = (one_step m s).done

pub solo_step-visits : (m : Memory) (s : State) → length (solo_step m s).visits ≤ 2
solo_step-visits m s = (one_step m s).visits
