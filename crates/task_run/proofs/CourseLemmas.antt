-- A course, instruction by instruction.
use Rattle.std.proofs.Common.{◌≡◌, ℕ, zero, suc, true, false, if◌then◌else◌, List, [], ◌∷◌, ◌++◌, refl, sym, ap, append_assoc}
use Rattle.cov_base.specs.Meaning.{Memory, State}
use Rattle.s370_exec.specs.Meaning.{solo_step, has_returned}
use Rattle.s370_state.specs.declared.endings.Ending.{Ending}
use Rattle.s370_state.specs.declared.endings.Ending.TheVariants.{Returned, Spent}
use Rattle.s370_state.specs.declared.endings.Next.TheVariants.{On, Ended}
use Rattle.task_run.specs.Meaning.{DoneBehind, Behind, Tour, Turn, course_on, ends_here, step_behind, turn_of, turned, with_cpu}

pub course-returned : {K : Type 0} (after : DoneBehind K) (m : Memory) (n : ℕ) (k : K) (s : State) → has_returned s ≡ true → course_on after m n k s ≡ ends_here Returned s
unfolding course_on
course-returned after m zero k s here = rw here refl
course-returned after m (suc n) k s here = rw here refl

pub course-none : {K : Type 0} (after : DoneBehind K) (m : Memory) (k : K) (s : State) → course_on after m 0 k s ≡ ends_here (if has_returned s then Returned else Spent) s
unfolding course_on
course-none after m k s = refl

pub course-more : {K : Type 0} (after : DoneBehind K) (m : Memory) (n : ℕ) (k : K) (s : State) (b : Behind K) → has_returned s ≡ false → step_behind after m k s ≡ b → b.next ≡ On →
    course_on after m (suc n) k s ≡ turned (turn_of m s ∷ []) (course_on after m n b.key (with_cpu (solo_step m s).state b.cpu))
unfolding course_on
course-more after m n k s b here behind next = rw (here, behind, next) refl

-- a tour of one instruction, which began there
abbrev pub last_turn : Turn → ℕ → Ending → State → Tour
last_turn turn began e s = record { ending = e; state = s; at = began; turns = turn ∷ [] }

pub course-ended : {K : Type 0} (after : DoneBehind K) (m : Memory) (n : ℕ) (k : K) (s : State) (b : Behind K) (e : Ending) → has_returned s ≡ false → step_behind after m k s ≡ b → b.next ≡ Ended e →
    course_on after m (suc n) k s ≡ last_turn (turn_of m s) s.machine.cpu.ia e (with_cpu (solo_step m s).state b.cpu)
unfolding course_on
course-ended after m n k s b e here behind next = rw (here, behind, next) refl

pub turned-more : (turns : List Turn) (turn : Turn) (tour : Tour) → turned turns (turned (turn ∷ []) tour) ≡ turned (turns ++ turn ∷ []) tour
turned-more turns turn tour = ap (λ (ts : List Turn). record tour { turns = ts }) (sym (append_assoc turns (turn ∷ []) tour.turns))
