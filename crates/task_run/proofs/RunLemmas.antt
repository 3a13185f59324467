-- What the instructions that are done have led to.
use Rattle.std.proofs.Common.{◌≡◌, ℕ, ◌+◌, ◌-◌, ◌<◌, ◌≤◌, suc, true, false, if◌then◌else◌, List, [], ◌∷◌, ◌++◌, length, sym, ◌∙◌, ap, subst, arith, append-nil, length-append}
use Rattle.cov_base.specs.Meaning.{Memory, State}
use Rattle.s370_exec.specs.Meaning.{solo_step, has_returned}
use Rattle.s370_state.specs.declared.endings.Ending.{Ending}
use Rattle.s370_state.specs.declared.endings.Ending.TheVariants.{Returned, Spent}
use Rattle.s370_state.specs.declared.endings.Next.TheVariants.{On, Ended}
use Rattle.task_run.specs.Meaning.{DoneBehind, Behind, Tour, Turn, course_on, ends_here, step_behind, turn_of, turned, with_cpu}
use Rattle.task_run.specs.Runs.{Goes}
use Rattle.task_run.proofs.CourseLemmas.{course-returned, course-none, course-more, course-ended, last_turn, turned-more}
use Rattle.task_run.proofs.GoesLemmas.{goes_more}

-- i instructions of the course have led to this key and state, and between them from x to y
pub record LedTo {K S : Type 0} (after : DoneBehind K) (m : Memory) (takes : ℕ → Turn → S → S → Type 0) (budget : ℕ) (first : K) (start : State) (x : S) (i : ℕ) (key : K) (now : State) (y : S) : Type 0 where
  pub turns : List Turn
  pub count : length turns ≡ i
  pub course : course_on after m budget first start ≡ turned turns (course_on after m (budget - i) key now)
  pub goes : Goes takes 0 turns x y

left : (budget i : ℕ) → i < budget → budget - i ≡ suc (budget - (i + 1))
left budget i lt = omega arith

pub LedTo-more : {K S : Type 0} (after : DoneBehind K) (m : Memory) (takes : ℕ → Turn → S → S → Type 0) (budget : ℕ) (first : K) (start : State) (x : S) (i : ℕ) (k : K) (s t : State) (y z : S) (b : Behind K) →
    LedTo after m takes budget first start x i k s y → i < budget → has_returned s ≡ false → step_behind after m k s ≡ b → b.next ≡ On → with_cpu (solo_step m s).state b.cpu ≡ t →
    takes (i + 1) (turn_of m s) y z → LedTo after m takes budget first start x (i + 1) b.key t z
LedTo-more after m takes budget first start x i k s t y z b r lt here behind next state took = record {
  turns = r.turns ++ turn_of m s ∷ [];
  count = let added = length-append r.turns (turn_of m s ∷ []) in omega (arith, added, r.count);
  course = r.course ∙ (ap (λ n. turned r.turns (course_on after m n k s)) (left budget i lt)
      ∙ (ap (turned r.turns) (course-more after m (budget - (i + 1)) k s b here behind next)
      ∙ (turned-more r.turns (turn_of m s) _ ∙ ap (λ (u : State). turned (r.turns ++ turn_of m s ∷ []) (course_on after m (budget - (i + 1)) b.key u)) state)));
  goes = goes_more takes 0 i r.turns (turn_of m s) x y z (omega (arith, r.count)) r.goes took;
}

-- the tour has this end, and its turns lead from x to y
pub record Ran {S : Type 0} (takes : ℕ → Turn → S → S → Type 0) (tour : Tour) (x y : S) (e : Ending) (last : State) (at done : ℕ) : Type 0 where
  pub ending : tour.ending ≡ e
  pub state : tour.state ≡ last
  pub address : tour.at ≡ at
  pub count : length tour.turns ≡ done
  pub goes : Goes takes 0 tour.turns x y

ran : {S : Type 0} (takes : ℕ → Turn → S → S → Type 0) (tour : Tour) (x y : S) (ending : Ending) (last : State) (at done : ℕ) (turns : List Turn) →
    tour ≡ record { ending = ending; state = last; at = at; turns = turns } → length turns ≡ done → Goes takes 0 turns x y → Ran takes tour x y ending last at done
ran takes tour x y ending last at done turns is count goes = record {
  ending = ap (λ (t : Tour). t.ending) is;
  state = ap (λ (t : Tour). t.state) is;
  address = ap (λ (t : Tour). t.at) is;
  count = ap (λ (t : Tour). length t.turns) is ∙ count;
  goes = subst (λ (ts : List Turn). Goes takes 0 ts x y) (sym (ap (λ (t : Tour). t.turns) is)) goes;
}

pub Ran-ended : {K S : Type 0} (after : DoneBehind K) (m : Memory) (takes : ℕ → Turn → S → S → Type 0) (budget : ℕ) (first : K) (start : State) (x : S) (i : ℕ) (k : K) (s t : State) (y z : S) (b : Behind K) (e : Ending) (at : ℕ) →
    LedTo after m takes budget first start x i k s y → i < budget → has_returned s ≡ false → step_behind after m k s ≡ b → b.next ≡ Ended e → with_cpu (solo_step m s).state b.cpu ≡ t →
    takes (i + 1) (turn_of m s) y z → s.machine.cpu.ia ≡ at → Ran takes (course_on after m budget first start) x z e t at (i + 1)
Ran-ended after m takes budget first start x i k s t y z b e at r lt here behind next state took ia =
    ran takes (course_on after m budget first start) x z e t at (i + 1) (r.turns ++ turn_of m s ∷ [])
    (r.course ∙ (ap (λ n. turned r.turns (course_on after m n k s)) (left budget i lt)
    ∙ (ap (turned r.turns) (course-ended after m (budget - (i + 1)) k s b e here behind next)
    ∙ (λ j. turned r.turns (last_turn (turn_of m s) (ia j) e (state j))))))
    (let added = length-append r.turns (turn_of m s ∷ []) in omega (arith, added, r.count))
    (goes_more takes 0 i r.turns (turn_of m s) x y z (omega (arith, r.count)) r.goes took)

stays : (turns : List Turn) (e : Ending) (s : State) → turned turns (ends_here e s) ≡ record { ending = e; state = s; at = s.machine.cpu.ia; turns = turns }
stays turns e s = ap (λ (ts : List Turn). record (ends_here e s) { turns = ts }) (append-nil turns)

pub Ran-returned : {K S : Type 0} (after : DoneBehind K) (m : Memory) (takes : ℕ → Turn → S → S → Type 0) (budget : ℕ) (first : K) (start : State) (x : S) (i : ℕ) (k : K) (s : State) (y : S) (at : ℕ) →
    LedTo after m takes budget first start x i k s y → has_returned s ≡ true → s.machine.cpu.ia ≡ at → Ran takes (course_on after m budget first start) x y Returned s at i
Ran-returned after m takes budget first start x i k s y at r here ia =
    ran takes (course_on after m budget first start) x y Returned s at i r.turns
    (r.course ∙ (ap (turned r.turns) (course-returned after m (budget - i) k s here) ∙ (stays r.turns Returned s ∙ ap (λ a. record (ends_here Returned s) { at = a; turns = r.turns }) ia))) r.count r.goes

pub Ran-all : {K S : Type 0} (after : DoneBehind K) (m : Memory) (takes : ℕ → Turn → S → S → Type 0) (budget : ℕ) (first : K) (start : State) (x : S) (i : ℕ) (k : K) (s : State) (y : S) (e : Ending) (at : ℕ) →
    LedTo after m takes budget first start x i k s y → budget ≤ i → (if has_returned s then Returned else Spent) ≡ e → s.machine.cpu.ia ≡ at → Ran takes (course_on after m budget first start) x y e s at i
Ran-all after m takes budget first start x i k s y e at r all ending ia =
    let none : budget - i ≡ 0 = omega arith in
    ran takes (course_on after m budget first start) x y e s at i r.turns
    (r.course ∙ (ap (λ n. turned r.turns (course_on after m n k s)) none ∙ (ap (turned r.turns) (course-none after m k s)
    ∙ (stays r.turns (if has_returned s then Returned else Spent) s ∙ (λ j. record { ending = ending j; state = s; at = ia j; turns = r.turns }))))) r.count r.goes
