-- What a pass has made that has gone through the turns of a task's course.
use Rattle.std.proofs.Common.{◌≡◌, ℕ, ◌+◌, zero, suc, Bool, true, false, Option, List, [], ◌∷◌, ◌++◌, length, refl, sym, subst, arith, append_assoc, append-nil}
use Rattle.cov_base.specs.Meaning.{Memory, State, Visit}
use Rattle.module_area.specs.Meaning.{ControlView, PlanView}
use Rattle.module_area.specs.Notes.{Notes}
use Rattle.module_area.specs.Rule.{IsPlan}
use Rattle.task_run.proofs.CourseLemmas.{course-returned, course-none, course-more, course-ended}
use Rattle.task_run.specs.Meaning.{DoneBehind, Tour, Turn, calls_of, course_on, step_behind, turn_of, visits_of, with_cpu}
use Rattle.brk_table.specs.Meaning.{TablesView}
use Rattle.task_run.specs.Hooks.{Way}
use Rattle.task_run.specs.Runs.{EndsAs, Goes, Stand, Takes, course_of, stand}
use Rattle.task_run.specs.Steps.{memory_at, stands}
use Rattle.task_run.specs.declared.bench.Bench.{Bench}
use Rattle.task_run.specs.declared.task.TaskEnd.{TaskEnd}
use Rattle.s370_exec.proofs.Laws.{solo_step-done}
use Rattle.s370_exec.specs.Meaning.{solo_step, has_returned}
use Rattle.s370_state.specs.declared.endings.Next.{Next}
use Rattle.s370_state.specs.declared.endings.Next.TheVariants.{On, Ended}
use Rattle.task_run.specs.Noting.{MakesEach, HasAnswered}
use Rattle.task_run.specs.Aside.{IsAside}
use Rattle.task_run.proofs.AsideLemmas.{Made-aside}
use Rattle.task_run.proofs.MadeLemmas.{Made, Made-none, Made-more, AddsTurn-step}

-- it is the turn of a task that has done so many instructions before
pub record IsTurn (m : Memory) (done : ℕ) (turn : Turn) : Type 0 where
  pub state : State
  pub count : state.done ≡ done
  pub is : turn ≡ turn_of m state

abbrev pub AreTurns : Memory → ℕ → List Turn → Type 0
AreTurns m done [] = Unit {0}
AreTurns m done (t ∷ ts) = IsTurn m done t × AreTurns m (done + 1) ts

turns_next : {K : Type 0} (after : DoneBehind K) (m : Memory) (n : ℕ) (k : K) (s : State) (next : Next) → ((j : K) (t : State) → AreTurns m t.done (course_on after m n j t).turns) → has_returned s ≡ false →
    (step_behind after m k s).next ≡ next → AreTurns m s.done (course_on after m (suc n) k s).turns
turns_next after m n k s On rest here is =
    let b = step_behind after m k s in
    subst (λ (tour : Tour). AreTurns m s.done tour.turns) (sym (course-more after m n k s b here refl is))
    (record { state = s; count = refl; is = refl }, subst (λ i. AreTurns m i (course_on after m n b.key (with_cpu (solo_step m s).state b.cpu)).turns) (solo_step-done m s) (rest b.key (with_cpu (solo_step m s).state b.cpu)))
turns_next after m n k s (Ended e) rest here is =
    subst (λ (tour : Tour). AreTurns m s.done tour.turns) (sym (course-ended after m n k s (step_behind after m k s) e here refl is)) (record { state = s; count = refl; is = refl }, tt)

turns_from : {K : Type 0} (after : DoneBehind K) (m : Memory) (n : ℕ) (k : K) (s : State) (b : Bool) → ((j : K) (t : State) → AreTurns m t.done (course_on after m n j t).turns) → has_returned s ≡ b →
    AreTurns m s.done (course_on after m (suc n) k s).turns
turns_from after m n k s true rest here = subst (λ (tour : Tour). AreTurns m s.done tour.turns) (sym (course-returned after m (suc n) k s here)) tt
turns_from after m n k s false rest here = turns_next after m n k s (step_behind after m k s).next rest here refl

pub course_turns : {K : Type 0} (after : DoneBehind K) (m : Memory) (n : ℕ) (k : K) (s : State) → AreTurns m s.done (course_on after m n k s).turns
course_turns after m zero k s = subst (λ (tour : Tour). AreTurns m s.done tour.turns) (sym (course-none after m k s)) tt
course_turns after m (suc n) k s = turns_from after m n k s (has_returned s) (course_turns after m n) refl

-- What a pass has made of a turn, with what was done behind it.
pub record NotesTurn (plan : PlanView) (old : Notes) (c : ControlView) (turn : Turn) (new : Notes) (d : ControlView) : Type 0 where
  pub visited : Notes
  pub made : MakesEach plan old turn.visits visited
  pub called : Notes
  pub answered : HasAnswered plan visited c turn.call called d
  pub aside : IsAside called new

module _ (m : Memory) (plan : PlanView) (is : IsPlan plan) (first : Notes) (c : ControlView) where
  one_turn : (i : ℕ) (turn : Turn) (old new : Notes) (d e : ControlView) (trace : List Visit) (called : List (Option ℕ)) → IsTurn m i turn → NotesTurn plan old d turn new e → Made plan first old c d i trace called →
      Made plan first new c e (i + 1) (trace ++ turn.visits) (called ++ turn.call ∷ [])
  one_turn i turn old new d e trace called t n made =
      subst (λ (u : Turn). NotesTurn plan old d u new e → Made plan first new c e (i + 1) (trace ++ u.visits) (called ++ u.call ∷ [])) (sym t.is)
      (λ h. Made-aside plan first h.called new c e (i + 1) (trace ++ (solo_step m t.state).visits) _ h.aside
      (Made-more m plan first old h.called c d e i t.state trace called is t.count made (AddsTurn-step m plan old h.visited h.called d e t.state h.made h.answered))) n

  pub gone : {H P : Type 0} (notes : P → Notes) (takes : ℕ → Turn → Stand H P → Stand H P → Type 0) → ((i : ℕ) (turn : Turn) (v w : Stand H P) → takes i turn v w → NotesTurn plan (notes v.pass) v.control turn (notes w.pass) w.control) →
      (i : ℕ) (turns : List Turn) (x y : Stand H P) (trace : List Visit) (called : List (Option ℕ)) → AreTurns m i turns → Goes takes i turns x y → Made plan first (notes x.pass) c x.control i trace called →
      Made plan first (notes y.pass) c y.control (i + length turns) (trace ++ visits_of turns) (called ++ calls_of turns)
  gone {H} {P} notes takes so i [] x y trace called are same made =
      let count : i + 0 ≡ i = omega arith in
      subst (λ (w : Stand H P). Made plan first (notes w.pass) c w.control (i + 0) (trace ++ []) (called ++ [])) same
      (rw (count, append-nil trace, append-nil called) made)
  gone {H} {P} notes takes so i (t ∷ ts) x y trace called are goes made =
      let z = goes.0 in
      let rest = gone notes takes so (i + 1) ts z y (trace ++ t.visits) (called ++ t.call ∷ []) are.1 goes.1.1
      (one_turn i t (notes x.pass) (notes z.pass) x.control z.control trace called are.0 (so (i + 1) t x z goes.1.0) made) in
      let count : i + 1 + length ts ≡ i + suc (length ts) = omega arith in
      subst (λ k. Made plan first (notes y.pass) c y.control k (trace ++ visits_of (t ∷ ts)) (called ++ calls_of (t ∷ ts))) count
      (subst (λ vs. Made plan first (notes y.pass) c y.control (i + 1 + length ts) vs (called ++ calls_of (t ∷ ts))) (append_assoc trace t.visits (visits_of ts))
      (subst (λ ks. Made plan first (notes y.pass) c y.control (i + 1 + length ts) ((trace ++ t.visits) ++ visits_of ts) ks) (append_assoc called (t.call ∷ []) (calls_of ts)) rest))

-- A run that has gone through the turns of its course has made all of them.
module _ {H O P : Type 0} (makes : O → TablesView → P → List Visit → P → Type 0) (answers : O → P → ControlView → Option ℕ → P → ControlView → Type 0) (way : Way H O P) (o : O) (t : TablesView)
    (plan : PlanView) (is : IsPlan plan) (notes : P → Notes) (budget : ℕ) (h g : H) (p q : P) (old new : Bench) (end : TaskEnd) where
  pub made_all :
      ((i : ℕ) (turn : Turn) (v w : Stand H P) → Takes makes answers way.Aside o t i turn v w → NotesTurn plan (notes v.pass) v.control turn (notes w.pass) w.control) →
      EndsAs way h budget old new end → Goes (Takes makes answers way.Aside o t) 0 (course_of way h budget old).turns (stand h p old) (stand g q new) →
      Made plan (notes p) (notes q) old.control new.control end.done (visits_of (course_of way h budget old).turns) (calls_of (course_of way h budget old).turns)
  made_all so ends goes =
      let tour = course_of way h budget old in
      let all : 0 + length tour.turns ≡ end.done = omega (arith, ends.count) in
      subst (λ i. Made plan (notes p) (notes q) old.control new.control i (visits_of tour.turns) (calls_of tour.turns)) all
      (gone (memory_at old) plan is (notes p) old.control notes (Takes makes answers way.Aside o t) so 0 tour.turns (stand h p old) (stand g q new) [] []
      (course_turns way.after (memory_at old) budget (way.key h) (stands old 0)) goes (Made-none plan (notes p) old.control))
