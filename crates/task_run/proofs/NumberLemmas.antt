-- A step's visits stand under the number of instructions done before it.
use Rattle.std.proofs.Common.{◌≡◌, ℕ, true, false, Option, Some, None, List, [], ◌∷◌, inl, inr, refl, sym, ap, ◌∙◌}
use Rattle.std.proofs.lemmas.Bool.{cond_both}
use Rattle.cov_base.specs.Meaning.{length_of, Memory, half_at, State, Visit}
use Rattle.s370_state.specs.declared.endings.Ending.{Ending}
use Rattle.s370_decode.specs.Meaning.{ex, op_of}
use Rattle.s370_decode.specs.declared.code.Code.{Code}
use Rattle.s370_branch.specs.Meaning.{goes}
use Rattle.s370_exec.specs.Meaning.{effect, updated, link_code, code_at, first_tests, rest_tests, subject_tests, is_execute, Step, solo_step, from_first, fetched, begun_step, stepped, visit, behind, subject_step, subject_fetched}
use Rattle.module_area.specs.Rule.{Has}

abbrev AreBehind : ℕ → List Visit → Type 0
AreBehind n vs = (v : Visit) → Has v vs → v.before ≡ n

one : (n : ℕ) (v : Visit) (vs : List Visit) → v.before ≡ n → AreBehind n vs → AreBehind n (v ∷ vs)
one n v vs e rest w there = elim there [
  | inl same ↦ sym (ap (λ (x : Visit). x.before) same) ∙ e
  | inr later ↦ rest w later
]

none : (n : ℕ) → AreBehind n []
none n v there = absurd there

of_subject : (m : Memory) (s : State) (c : Code) (a h : ℕ) (rest : Option Ending) → AreBehind s.done (subject_fetched m s c a h rest).visits
of_subject m s c a h (Some e) = one s.done _ [] refl (none s.done)
of_subject m s c a h None = one s.done _ [] refl (none s.done)

of_first : (s : State) (first : Option Ending) (t : Step) → AreBehind s.done t.visits → AreBehind s.done (from_first s first t).visits
of_first s (Some e) t h = none s.done
of_first s None t h = h

of_subject_step : (m : Memory) (s : State) (c : Code) → AreBehind s.done (subject_step m s c).visits
unfolding subject_step
of_subject_step m s c =
    let a : ℕ = ex s.machine.cpu c in
    let h : ℕ = half_at m s.machine.bytes a in
    of_first s (first_tests m a) (subject_fetched m s c a h (subject_tests m a h)) (of_subject m s c a h (subject_tests m a h))

of_begun : (m : Memory) (s : State) (c : Code) (h : ℕ) → AreBehind s.done (begun_step m s c h).visits
of_begun m s c h =
    cond_both (is_execute h) (behind (visit s c.at true false false) (subject_step m s c))
    (stepped s (effect m s.machine s.io c (op_of h) (updated c None) (link_code c None)) (visit s c.at true (goes (op_of h) s.machine.cpu c) false ∷ []))
    (λ (t : Step). AreBehind s.done t.visits)
    (λ e. one s.done _ (subject_step m s c).visits refl (of_subject_step m s c))
    (λ e. one s.done _ [] refl (none s.done))

of_fetched : (m : Memory) (s : State) (a h : ℕ) (rest : Option Ending) → AreBehind s.done (fetched m s a h rest).visits
of_fetched m s a h (Some e) = one s.done _ [] refl (none s.done)
of_fetched m s a h None = of_begun m s (code_at m s.machine.bytes a h) h

pub step_visits : (m : Memory) (s : State) (v : Visit) → Has v (solo_step m s).visits → v.before ≡ s.done
unfolding solo_step
step_visits m s v there =
    let a : ℕ = s.machine.cpu.ia in
    let h : ℕ = half_at m s.machine.bytes a in
    of_first s (first_tests m a) (fetched m s a h (rest_tests m a (length_of h))) (of_fetched m s a h (rest_tests m a (length_of h))) v there
