-- How many instructions were done before a visit, and what a first visit says.
use Rattle.std.proofs.Common.{◌≡◌, ℕ, ◌+◌, ◌<◌, ◌≤◌, zero, suc, Bool, true, false, nat_eq, if◌then◌else◌, Option, Some, None, option_map, List, [], ◌∷◌, ◌++◌, length, ◌⊎◌, inl, inr, refl, sym, subst, arith}
use Rattle.std.specs.List.{find}
use Rattle.std.specs.Option.{option_or}
use Rattle.std.proofs.lemmas.Bool.{cond_both, cases_lt}
use Rattle.cov_base.specs.Meaning.{length_of, Memory, half_at, State, Visit}
use Rattle.cov_base.specs.declared.facts.Fact.{Fact}
use Rattle.cov_base.specs.declared.limits.TheConstants.{BUDGET_LIMIT}
use Rattle.s370_state.specs.declared.endings.Ending.{Ending}
use Rattle.s370_state.specs.declared.endings.Ending.TheVariants.{Returned}
use Rattle.s370_state.specs.declared.endings.Next.{Next}
use Rattle.s370_state.specs.declared.endings.Next.TheVariants.{On, Ended}
use Rattle.s370_decode.specs.Meaning.{ex, op_of}
use Rattle.s370_decode.specs.declared.code.Code.{Code}
use Rattle.s370_branch.specs.Meaning.{goes}
use Rattle.s370_exec.specs.Meaning.{effect, updated, link_code, code_at, first_tests, rest_tests, subject_tests, is_execute, Step, Run, solo_step, from_first, fetched, begun_step, stepped, visit, behind, subject_step, subject_fetched, run_from, run_after, run_ended, has_returned}
use Rattle.s370_exec.proofs.Laws.{solo_step-done}
use Rattle.module_area.specs.Meaning.{shows, place_of}
use Rattle.module_area.specs.declared.places.Place.{Place}
use Rattle.task_run.proofs.Laws.{course_solo}
use Rattle.session_book.specs.Meaning.{JobView, TaskView, task_of, session_of, no_task}
use Rattle.phase_plan.specs.Meaning.{task_memory, first_state}
use Rattle.session_book.specs.JobView.{IsJob}
use Rattle.evidence_check.specs.Meaning.{trace_of, first_in, first_from, session_first}
use Rattle.evidence_check.specs.Noting.{first_of}
use Rattle.evidence_check.specs.declared.firsts.First.{First}
use Rattle.std.proofs.Math.ListN.{get_or-eq_default}

-- each visit comes before so many instructions were done
abbrev pub AreBelow : ℕ → List Visit → Type 0
AreBelow top [] = Unit {0}
AreBelow top (v ∷ vs) = (v.before < top) × AreBelow top vs

below_append : (top : ℕ) (vs ws : List Visit) → AreBelow top vs → AreBelow top ws → AreBelow top (vs ++ ws)
below_append top [] ws a b = b
below_append top (v ∷ vs) ws a b = (a.0, below_append top vs ws a.1 b)

subject_fetched-below : (m : Memory) (s : State) (c : Code) (a h top : ℕ) (rest : Option Ending) → s.done < top → AreBelow top (subject_fetched m s c a h rest).visits
subject_fetched-below m s c a h top (Some e) lt = (lt, tt)
subject_fetched-below m s c a h top None lt = (lt, tt)

from_first-below : (s : State) (first : Option Ending) (t : Step) (top : ℕ) → AreBelow top t.visits → AreBelow top (from_first s first t).visits
from_first-below s (Some e) t top is = tt
from_first-below s None t top is = is

subject_step-below : (m : Memory) (s : State) (c : Code) (top : ℕ) → s.done < top → AreBelow top (subject_step m s c).visits
unfolding subject_step
subject_step-below m s c top lt =
    let a : ℕ = ex s.machine.cpu c in
    let h : ℕ = half_at m s.machine.bytes a in
    from_first-below s (first_tests m a) (subject_fetched m s c a h (subject_tests m a h)) top (subject_fetched-below m s c a h top (subject_tests m a h) lt)

begun_step-below : (m : Memory) (s : State) (c : Code) (h top : ℕ) → s.done < top → AreBelow top (begun_step m s c h).visits
begun_step-below m s c h top lt =
    let subject : Step = subject_step m s c in
    cond_both (is_execute h) (behind (visit s c.at true false false) subject)
    (stepped s (effect m s.machine s.io c (op_of h) (updated c None) (link_code c None)) (visit s c.at true (goes (op_of h) s.machine.cpu c) false ∷ [])) (λ t. AreBelow top t.visits)
    (λ e. (lt, subject_step-below m s c top lt))
    (λ e. (lt, tt))

fetched-below : (m : Memory) (s : State) (a h top : ℕ) (rest : Option Ending) → s.done < top → AreBelow top (fetched m s a h rest).visits
fetched-below m s a h top (Some e) lt = (lt, tt)
fetched-below m s a h top None lt = begun_step-below m s (code_at m s.machine.bytes a h) h top lt

step_below : (m : Memory) (s : State) (top : ℕ) → s.done < top → AreBelow top (solo_step m s).visits
unfolding solo_step
step_below m s top lt =
    let a : ℕ = s.machine.cpu.ia in
    let h : ℕ = half_at m s.machine.bytes a in
    from_first-below s (first_tests m a) (fetched m s a h (rest_tests m a (length_of h))) top (fetched-below m s a h top (rest_tests m a (length_of h)) lt)

after_below : (more : State → List Visit → Run) (u : State) (trace visits : List Visit) (next : Next) (top : ℕ) → AreBelow top trace → AreBelow top visits →
    ((longer : List Visit) → AreBelow top longer → AreBelow top (more u longer).trace) → AreBelow top (run_after more trace u visits next).trace
after_below more u trace visits On top a b rest = rest (trace ++ visits) (below_append top trace visits a b)
after_below more u trace visits (Ended e) top a b rest = below_append top trace visits a b

run_below : (m : Memory) (n : ℕ) (s : State) (trace : List Visit) (top : ℕ) → s.done + n ≤ top → AreBelow top trace → AreBelow top (run_from m n s trace).trace
unfolding run_from
run_below m zero s trace top le is = is
run_below m (suc n) s trace top le is =
    cond_both (has_returned s) (run_ended Returned s trace) (run_after (λ t more. run_from m n t more) trace (solo_step m s).state (solo_step m s).visits (solo_step m s).next)
    (λ (r : Run). AreBelow top r.trace)
    (λ e. is)
    (λ e. after_below (λ t more. run_from m n t more) (solo_step m s).state trace (solo_step m s).visits (solo_step m s).next top is (step_below m s top (omega arith))
    (λ longer so_far. run_below m n (solo_step m s).state longer top (omega (arith, solo_step-done m s)) so_far))

budget_most : (j : JobView) (t : ℕ) → IsJob j → (task_of j t).budget ≤ BUDGET_LIMIT
budget_most j t is = elim (cases_lt t (length j.tasks)) [
  | inl lt ↦ (is.are_tasks t no_task lt).budget
  | inr le ↦ rw (get_or-eq_default j.tasks no_task {n = t} le) (omega arith)
]

pub trace_below : (j : JobView) (places : List Place) (t : ℕ) → IsJob j → AreBelow BUDGET_LIMIT (trace_of j places t)
trace_below j places t is =
    let m : Memory = task_memory j places t in
    let s : State = first_state (task_of j t) in
    subst (AreBelow BUDGET_LIMIT) (sym (course_solo m (task_of j t).budget tt s).trace) (run_below m (task_of j t).budget s [] BUDGET_LIMIT (omega (arith, budget_most j t is)) tt)

-- what a first visit's entry can say
pub record IsFirst (tasks : ℕ) (v : First) : Type 0 where
  pub task : v.task < tasks
  pub before : v.before < BUDGET_LIMIT

this_or_later : (b : Bool) (top : ℕ) (v w : Visit) (later : Option Visit) → v.before < top → (later ≡ Some w → w.before < top) → (if b then Some v else later) ≡ Some w → w.before < top
this_or_later true top v w later below rest e = let same : v ≡ w = cc in rw same at below
this_or_later false top v w later below rest e = rest e

found_below : (test : Visit → Bool) (top : ℕ) (vs : List Visit) (w : Visit) → AreBelow top vs → find test vs ≡ Some w → w.before < top
found_below test top [] w is h = absurd cc
found_below test top (v ∷ vs) w is h = this_or_later (test v) top v w (find test vs) is.0 (found_below test top vs w is.1) h

mapped : (t : ℕ) (o : Option Visit) (v : First) → option_map (first_of t) o ≡ Some v → (w : Visit) × (o ≡ Some w) × (first_of t w ≡ v)
mapped t None v h = absurd cc
mapped t (Some w) v h = (w, refl, cc)

in_first : (place : Place) (f : Fact) (t tasks : ℕ) (vs : List Visit) (v : First) → t < tasks → AreBelow BUDGET_LIMIT vs → first_in place f t vs ≡ Some v → IsFirst tasks v
in_first place f t tasks vs v lt is h =
    let m = mapped t (find (shows place f) vs) v h in
    let before = found_below (shows place f) BUDGET_LIMIT vs m.0 is m.1 in
    rw (← m.2) (record { task = lt; before = before })

either : (x y : Option First) (v : First) → option_or x y ≡ Some v → (x ≡ Some v) ⊎ (y ≡ Some v)
either None y v h = inr h
either (Some w) y v h = inl h

or_nothing : (b : Bool) (x : Option First) (v : First) → (if b then x else None) ≡ Some v → x ≡ Some v
or_nothing true x v h = h
or_nothing false x v h = absurd cc

from_is_first : (n tasks : ℕ) (ts : List TaskView) (phase : ℕ) (trace : ℕ → List Visit) (place : Place) (f : Fact) (v : First) → n + length ts ≤ tasks → ((t : ℕ) → AreBelow BUDGET_LIMIT (trace t)) →
    first_from n ts phase trace place f ≡ Some v → IsFirst tasks v
from_is_first n tasks [] phase trace place f v le is h = absurd cc
from_is_first n tasks (t ∷ ts) phase trace place f v le is h =
    elim (either (if nat_eq t.phase phase then first_in place f n (trace n) else None) (first_from (n + 1) ts phase trace place f) v h) [
      | inl own ↦ in_first place f n tasks (trace n) v (omega arith) (is n) (or_nothing (nat_eq t.phase phase) (first_in place f n (trace n)) v own)
      | inr rest ↦ from_is_first (n + 1) tasks ts phase trace place f v (omega arith) is rest
    ]

pub session_is_first : (j : JobView) (places : List Place) (s n : ℕ) (f : Fact) (v : First) → IsJob j → session_first j places s n f ≡ Some v → IsFirst (length j.tasks) v
session_is_first j places s n f v is h =
    from_is_first 0 (length j.tasks) j.tasks (session_of j s).phase (trace_of j places) (place_of places n) f v (omega arith) (λ t. trace_below j places t is) h
