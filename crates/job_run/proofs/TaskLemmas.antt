-- Tasks before and after their runs.
use Rattle.std.proofs.Common.{◌≡◌, inl, inr, ℕ, ◌+◌, ◌*◌, ◌<◌, ◌≤◌, ◌^◌, Bool, true, false, nat_eq, nat_lt, Option, Some, None, List, [], ◌∷◌, ◌++◌, length, get_or, ◌-◌, refl, sym, ◌∙◌, ap, subst, arith}
use Rattle.std.proofs.lemmas.Bool.Decides.{nat_tests}
use Rattle.std.proofs.lemmas.Bool.{eq-eqb, ltb-true, lt-ltb, cases_eq}
use Rattle.std.proofs.lemmas.List.{get_or-map, get_or_append_left, length-map}
use Rattle.std.proofs.Math.Seq.{get_or-append_seam}
use Rattle.std.proofs.lemmas.List.Elements.{All-get_or}
use Rattle.cov_base.specs.Meaning.{FactSet, Memory, ImageView, State}
use Rattle.cov_base.specs.declared.limits.TheConstants.{PLACE_LIMIT, BUDGET_LIMIT}
use Rattle.s370_state.specs.declared.endings.Ending.{Ending}
use Rattle.module_area.specs.Meaning.{FinalsView, set_at, PlanView}
use Rattle.module_area.specs.Notes.{Notes, calls}
use Rattle.module_area.specs.declared.places.Place.{Place}
use Rattle.brk_table.specs.Meaning.{memory_of}
use Rattle.task_run.specs.Meaning.{Course, walk, Tour}
use Rattle.task_run.specs.Ran.{run_from, walk_from}
use Rattle.task_run.specs.Steps.{stands}
use Rattle.session_book.specs.Meaning.{JobView, ResultView, task_of, no_task}
use Rattle.phase_plan.specs.Meaning.{plan_view}
use Rattle.session_book.specs.JobView.{IsJob, IsTask}
use Rattle.space_map.specs.Space.{SpaceView, memory_of_space}
use Rattle.job_run.specs.Meaning.{run_by, walk_by, result_by, result_of_run, no_finals}
use Rattle.job_run.specs.Passes.{Runs}
use Rattle.job_run.specs.Slots.{dones, in_phase, HaveExtras, HaveAllExtras, KeepsOthers}
use Rattle.job_run.specs.Tasks.{Ends, HasNotRun, HasExtra, IsEnded, AreNew, AreRun, has_run, done_result, no_result, results_of}
use Rattle.job_run.specs.declared.outcome.Done.{Done}
use Rattle.job_run.specs.declared.slots.Slot.{Slot}

same_run : (course : Course) (p p' : PlanView) (m m' : Memory) (b b' : ℕ) (s s' : State) → p ≡ p' → m ≡ m' → b ≡ b' → s ≡ s' → course p m b s ≡ course p' m' b' s'
same_run course p p' m m' b b' s s' plan memory budget state =
    ap (λ (x : PlanView). course x m b s) plan ∙ (ap (λ (n : Memory). course p' n b s) memory ∙ (ap (λ (n : ℕ). course p' m' n s) budget ∙ ap (λ (n : State). course p' m' b' n) state))

same_walk : (course : Course) (p p' : PlanView) (m m' : Memory) (b b' : ℕ) (s s' : State) → p ≡ p' → m ≡ m' → b ≡ b' → s ≡ s' → walk course p m b s ≡ walk course p' m' b' s'
same_walk course p p' m m' b b' s s' plan memory budget state =
    ap (λ (x : PlanView). walk course x m b s) plan ∙ (ap (λ (n : Memory). walk course p' n b s) memory ∙ (ap (λ (n : ℕ). walk course p' m' n s) budget ∙ ap (λ (n : State). walk course p' m' b' n) state))

-- a task that has not run yet runs as its card says
pub begun_run : (course : Course) (plan : PlanView) (j : JobView) (places : List Place) (t : ℕ) (d : Done) → plan ≡ plan_view j places (task_of j t).phase → HasNotRun j places t d →
    run_from course plan d.task ≡ run_by course j places t
begun_run course plan j places t d of b = same_run course _ _ _ _ _ _ _ _ of b.begun.memory b.budget b.begun.state

pub begun_walk : (course : Course) (plan : PlanView) (j : JobView) (places : List Place) (t : ℕ) (d : Done) → plan ≡ plan_view j places (task_of j t).phase → HasNotRun j places t d →
    walk_from course plan d.task ≡ walk_by course j places t
begun_walk course plan j places t d of b = same_walk course _ _ _ _ _ _ _ _ of b.begun.memory b.budget b.begun.state

result_at : State → Option Ending → ResultView
result_at s e = record { ending = e; done = s.done; cpu = s.machine.cpu; output = s.io.output; bytes = s.machine.bytes }

-- a state and an ending are a result
same_result : (run : Tour) (s : State) (o : Option Ending) (e : Ending) → o ≡ Some e → s ≡ run.state → e ≡ run.ending →
    record { ending = o; done = s.done; cpu = s.machine.cpu; output = s.io.output; bytes = s.machine.bytes } ≡ result_of_run run
unfolding result_at
same_result run s o e is p q = ap (λ (t : State). result_at t o) p ∙ (ap (λ (x : Option Ending). result_at run.state x) is ∙ ap (λ (x : Ending). result_at run.state (Some x)) q)

pub private_of : (size : ℕ) (images : List ImageView) (places : List Place) → (memory_of size images places).private ≡ size
unfolding memory_of
private_of size images places = refl

-- private storage keeps its size
pub still_filled : (s s' : SpaceView) → memory_of_space s ≡ memory_of_space s' → length s.bytes ≡ (memory_of_space s').private
still_filled s s' e = sym (private_of (length s.bytes) s.images s.places) ∙ ap (λ (m : Memory). m.private) e

-- what a task has come to
pub has_ended : (course : Course) (plan : PlanView) (before after : Notes) (j : JobView) (places : List Place) (t : ℕ) (d e : Done) → plan ≡ plan_view j places (task_of j t).phase → HasNotRun j places t d →
    Runs course plan before after d e → IsEnded course j places t e
has_ended course plan before after j places t d e of b r = record {
  result = same_result (run_from course plan d.task) (stands e.task.bench e.task.done) e.ending r.ending r.is r.ran.state r.ran.ending ∙ ap result_of_run (begun_run course plan j places t d of b);
  filled = still_filled e.task.bench.space d.task.bench.space r.ran.memory ∙ (ap (λ (m : Memory). m.private) b.begun.memory ∙ private_of (task_of j t).private j.images places);
}

-- its calls of the area are few
pub run_few : (course : Course) (plan : PlanView) (before after : Notes) (j : JobView) (places : List Place) (t : ℕ) (d e : Done) → IsTask (length j.phases) (task_of j t) → HasNotRun j places t d →
    Runs course plan before after d e → calls before ≡ 0 → calls after < 2 ^ 42
run_few course plan before after j places t d e is b r none = few_calls (calls after) d.task.budget (omega (arith, r.ran.few, none)) (omega (arith, b.budget, is.budget))
  where
    few_calls : (n budget : ℕ) → n ≤ (6 + PLACE_LIMIT) * budget → budget ≤ BUDGET_LIMIT → n < 2 ^ 42
    few_calls n budget h k = omega arith

pub AreRun-start : {P E : Type 0} (course : Course) (j : JobView) (places : List Place) (slots : List (Slot P E)) → AreNew j places slots → AreRun course j places 0 slots
AreRun-start course j places slots new = record {
  count = new.count;
  ended = λ t d l h. absurd (omega (arith, ltb-true (task_of j t).phase 0 h));
  begun = λ t d l h. new.begun t d l;
}

-- a task that has run by the next phase is of this one, or had run before
pub earlier_or : (p phase : ℕ) → nat_eq p phase ≡ false → nat_lt p phase ≡ nat_lt p (phase + 1)
earlier_or p phase h = grind (arith, nat_tests)

pub not_next : (p phase : ℕ) → nat_eq p phase ≡ true → nat_lt p (phase + 1) ≡ false → ⊥
not_next p phase h k = let e : nat_lt p (phase + 1) ≡ true = grind (arith, nat_tests) in let never : true ≡ false = sym e ∙ k in absurd cc

-- an extra tells the same of a slot that has changed elsewhere
pub extra_same : {P E : Type 0} (ends : Ends E) (j : JobView) (places : List Place) (sets : ℕ → ℕ → FactSet) (t : ℕ) (s s' : Slot P E) → s'.done ≡ s.done → s'.extra ≡ s.extra → HasExtra ends j places sets t s → HasExtra ends j places sets t s'
extra_same ends j places sets t s s' done extra h = record {
  extra = h.extra;
  has = extra ∙ h.has;
  first = h.first;
  begun = h.begun;
  tells = subst (λ (d : Done). ends (plan_view j places (task_of j t).phase) h.first.task d.task h.extra sets) (sym done) h.tells;
}

-- the tasks of this phase have run, and no other has changed
pub AreRun-next : {P E : Type 0} (course : Course) (j : JobView) (places : List Place) (phase : ℕ) (old new : List (Slot P E)) → AreRun course j places phase old →
    length new ≡ length old → ((t : ℕ) (d : Slot P E) → t < length old → in_phase j phase t ≡ true → IsEnded course j places t (get_or new t d).done) →
    ((t : ℕ) (d : Slot P E) → t < length old → in_phase j phase t ≡ false → (get_or new t d).done ≡ (get_or old t d).done) → AreRun course j places (phase + 1) new
AreRun-next course j places phase old new a same ended kept = record {
  count = same ∙ a.count;
  ended = λ t d l h. is_ended t d (omega (arith, l, same)) h (in_phase j phase t) refl;
  begun = λ t d l h. is_begun t d (omega (arith, l, same)) h (in_phase j phase t) refl;
}
  where
    is_ended : (t : ℕ) (d : Slot _ _) → t < length old → has_run j (phase + 1) t ≡ true → (b : Bool) → in_phase j phase t ≡ b → IsEnded course j places t (get_or new t d).done
    is_ended t d l h true e = ended t d l e
    is_ended t d l h false e = subst (λ (x : Done). IsEnded course j places t x) (sym (kept t d l e)) (a.ended t d l (earlier_or (task_of j t).phase phase e ∙ h))

    is_begun : (t : ℕ) (d : Slot _ _) → t < length old → has_run j (phase + 1) t ≡ false → (b : Bool) → in_phase j phase t ≡ b → HasNotRun j places t (get_or new t d).done
    is_begun t d l h true e = absurd (not_next (task_of j t).phase phase e h)
    is_begun t d l h false e = subst (λ (x : Done). HasNotRun j places t x) (sym (kept t d l e)) (a.begun t d l (earlier_or (task_of j t).phase phase e ∙ h))

pub is_task : (j : JobView) (t : ℕ) → IsJob j → t < length j.tasks → IsTask (length j.phases) (task_of j t)
is_task j t job l = All-get_or (IsTask (length j.phases)) j.tasks t no_task l job.are_tasks

pub no_done : Done
no_done = record {
  ending = None;
  task = record {
    bench = record {
      cpu = record { regs = []; ia = 0; condition = 0; mask = 0 };
      space = record { bytes = []; images = []; places = [] };
      io = record { input = []; taken = 0; output = []; room = 0 };
      control = record { sessions = []; next = 0; opened = None };
    };
    done = 0;
    budget = 0;
  };
}

pub no_slot : {P E : Type 0} → Slot P E
no_slot = record { done = no_done; pass = None; extra = None; apart = [] }

-- after the last phase
pub all_ended : {P E : Type 0} (course : Course) (j : JobView) (places : List Place) (slots : List (Slot P E)) (t : ℕ) → IsJob j → AreRun course j places (length j.phases) slots → t < length j.tasks →
    (results_of (dones slots) t ≡ result_by course j places t) × (length (results_of (dones slots) t).bytes ≡ (task_of j t).private)
all_ended course j places slots t job a l =
    let here : t < length slots = omega (arith, l, a.count) in
    let there : t < length (dones slots) = omega (arith, here, length-map slots (λ s. s.done)) in
    let ended : IsEnded course j places t (get_or slots t no_slot).done = a.ended t no_slot here (lt-ltb (task_of j t).phase (length j.phases) (is_task j t job l).phase) in
    let found : results_of (dones slots) t ≡ done_result (get_or slots t no_slot).done =
    get_or-map done_result (dones slots) t no_done no_result there ∙ ap done_result (get_or-map (λ s. s.done) slots t no_slot no_done here) in
    (found ∙ ended.result, ap (λ (r : ResultView). length r.bytes) found ∙ ended.filled)

-- and its extra tells of it, by the sets of its phase
pub all_extras : {P E : Type 0} (ends : Ends E) (j : JobView) (places : List Place) (finals : List FinalsView) (slots : List (Slot P E)) (t : ℕ) (d : Slot P E) → IsJob j → HaveAllExtras ends j places (length j.phases) finals slots →
    length slots ≡ length j.tasks → t < length j.tasks → HasExtra ends j places (set_at (get_or finals (task_of j t).phase no_finals)) t (get_or slots t d)
all_extras ends j places finals slots t d job a count l = (a.each (task_of j t).phase (is_task j t job l).phase).each t d (omega (arith, l, count)) (eq-eqb (task_of j t).phase (task_of j t).phase refl)

-- the tasks of other phases, and their extras

pub KeepsOthers-trans : {P E : Type 0} (j : JobView) (phase : ℕ) (a b c : List (Slot P E)) → KeepsOthers j phase a b → KeepsOthers j phase b c → KeepsOthers j phase a c
KeepsOthers-trans j phase a b c k m = record {
  count = m.count ∙ k.count;
  done = λ t d l h. m.done t d (omega (arith, l, k.count)) h ∙ k.done t d l h;
  extra = λ t d l h. m.extra t d (omega (arith, l, k.count)) h ∙ k.extra t d l h;
}

-- the extras of one phase after the other

pub HaveAllExtras-start : {P E : Type 0} (ends : Ends E) (j : JobView) (places : List Place) (finals : List FinalsView) (slots : List (Slot P E)) → HaveAllExtras ends j places 0 finals slots
HaveAllExtras-start ends j places finals slots = record { each = λ phase never. absurd (omega (arith, never)) }

other_phase : (p phase next : ℕ) → nat_eq p phase ≡ true → phase < next → nat_eq p next ≡ false
other_phase p phase next h l = grind (arith, nat_tests)

-- the next phase's tasks have run, and its area has ended with these sets
pub HaveAllExtras-next : {P E : Type 0} (ends : Ends E) (j : JobView) (places : List Place) (next : ℕ) (finals : List FinalsView) (f : FinalsView) (old new : List (Slot P E)) → length finals ≡ next →
    HaveAllExtras ends j places next finals old → KeepsOthers j next old new → HaveExtras ends j places next (set_at f) new → HaveAllExtras ends j places (next + 1) (finals ++ f ∷ []) new
HaveAllExtras-next ends j places next finals f old new count a keeps last = record {
  each = λ phase l. elim (cases_eq phase next) [
    | inl same ↦ subst (λ (p : ℕ). HaveExtras ends j places p (set_at (get_or (finals ++ f ∷ []) p no_finals)) new) (sym same)
        (subst (λ (g : FinalsView). HaveExtras ends j places next (set_at g) new) (sym (subst (λ (n : ℕ). get_or (finals ++ f ∷ []) n no_finals ≡ f) count (get_or-append_seam finals f [] no_finals))) last)
    | inr other ↦ earlier_phase phase (omega (arith, l, other))
  ];
}
  where
    earlier_phase : (phase : ℕ) → phase < next → HaveExtras ends j places phase (set_at (get_or (finals ++ f ∷ []) phase no_finals)) new
    earlier_phase phase l = record {
      each = λ t d here h.
          let out : in_phase j next t ≡ false = other_phase (task_of j t).phase phase next h l in
          let there : t < length old = omega (arith, here, keeps.count) in
          subst (λ (g : FinalsView). HasExtra ends j places (set_at g) t (get_or new t d)) (sym (get_or_append_left finals (f ∷ []) no_finals phase (omega (arith, l, count))))
          (extra_same ends j places (set_at (get_or finals phase no_finals)) t (get_or old t d) (get_or new t d) (keeps.done t d there out) (keeps.extra t d there out) ((a.each phase l).each t d there h));
    }
