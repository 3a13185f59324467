-- A run that is told with its trace, instruction by instruction, is the course.
use Rattle.std.proofs.Common.{◌≡◌, ℕ, zero, suc, Bool, true, false, if◌then◌else◌, List, ◌++◌, refl, sym, ◌∙◌, ap, append_assoc, append-nil}
use Rattle.cov_base.specs.Meaning.{Memory, State, Visit}
use Rattle.s370_exec.specs.Meaning.{Run, solo_step, run_ended, run_after, has_returned}
use Rattle.s370_state.specs.declared.endings.Ending.TheVariants.{Returned, Spent}
use Rattle.s370_state.specs.declared.endings.Next.{Next}
use Rattle.s370_state.specs.declared.endings.Next.TheVariants.{On, Ended}
use Rattle.task_run.specs.Meaning.{DoneBehind, Tour, course_on, state_behind, step_behind, visits_of}
use Rattle.task_run.proofs.CourseLemmas.{course-returned, course-none, course-more, course-ended}

-- the run of a tour behind a trace
abbrev pub run_of : List Visit → Tour → Run
run_of trace tour = run_ended tour.ending tour.state (trace ++ visits_of tour.turns)

-- how the run is told, with so many instructions left of the budget
pub record TellsRun {K : Type 0} (after : DoneBehind K) (m : Memory) (run : ℕ → K → State → List Visit → Run) : Type 0 where
  pub none : (k : K) (s : State) (trace : List Visit) → run 0 k s trace ≡ run_ended (if has_returned s then Returned else Spent) s trace
  pub returned : (n : ℕ) (k : K) (s : State) (trace : List Visit) → has_returned s ≡ true → run (suc n) k s trace ≡ run_ended Returned s trace
  pub more : (n : ℕ) (k : K) (s : State) (trace : List Visit) → has_returned s ≡ false → run (suc n) k s trace
      ≡ run_after (λ t trace. run n (step_behind after m k s).key t trace) trace (state_behind after m k s) (solo_step m s).visits (step_behind after m k s).next

module _ {K : Type 0} (after : DoneBehind K) (m : Memory) (run : ℕ → K → State → List Visit → Run) (tells : TellsRun after m run) where
  abbrev IsRunOf : ℕ → K → State → Type 0
  IsRunOf n k s = (trace : List Visit) → run n k s trace ≡ run_of trace (course_on after m n k s)

  run_next : (n : ℕ) (k : K) (s : State) (next : Next) → IsRunOf n (step_behind after m k s).key (state_behind after m k s) → has_returned s ≡ false → (step_behind after m k s).next ≡ next → IsRunOf (suc n) k s
  run_next n k s On rest here is = λ trace.
      let vs = (solo_step m s).visits in
      let key = (step_behind after m k s).key in
      let tour = course_on after m n key (state_behind after m k s) in
      tells.more n k s trace here ∙ (ap (run_after (λ t trace. run n key t trace) trace (state_behind after m k s) vs) is
      ∙ (rest (trace ++ vs) ∙ (ap (run_ended tour.ending tour.state) (append_assoc trace vs (visits_of tour.turns))
      ∙ sym (ap (run_of trace) (course-more after m n k s (step_behind after m k s) here refl is)))))
  run_next n k s (Ended e) rest here is = λ trace.
      let vs = (solo_step m s).visits in
      let key = (step_behind after m k s).key in
      tells.more n k s trace here ∙ (ap (run_after (λ t trace. run n key t trace) trace (state_behind after m k s) vs) is
      ∙ (ap (λ ws. run_ended e (state_behind after m k s) (trace ++ ws)) (sym (append-nil vs))
      ∙ sym (ap (run_of trace) (course-ended after m n k s (step_behind after m k s) e here refl is))))

  run_from : (n : ℕ) (k : K) (s : State) (b : Bool) → IsRunOf n (step_behind after m k s).key (state_behind after m k s) → has_returned s ≡ b → IsRunOf (suc n) k s
  run_from n k s true rest here = λ trace.
      tells.returned n k s trace here ∙ (ap (run_ended Returned s) (sym (append-nil trace)) ∙ sym (ap (run_of trace) (course-returned after m (suc n) k s here)))
  run_from n k s false rest here = run_next n k s (step_behind after m k s).next rest here refl

  pub run_as : (n : ℕ) (k : K) (s : State) (trace : List Visit) → run n k s trace ≡ run_of trace (course_on after m n k s)
  run_as zero k s = λ trace.
      tells.none k s trace ∙ (ap (run_ended (if has_returned s then Returned else Spent) s) (sym (append-nil trace)) ∙ sym (ap (run_of trace) (course-none after m k s)))
  run_as (suc n) k s = run_from n k s (has_returned s) (run_as n (step_behind after m k s).key (state_behind after m k s)) refl
