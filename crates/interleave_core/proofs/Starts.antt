-- A core before its first event, and what each core fits.
use Rattle.std.proofs.Common.{◌≡◌, ◌⊎◌, inl, inr, ℕ, All, ◌+◌, ◌*◌, ◌<◌, true, Some, List, [], ◌∷◌, ◌++◌, length, get_or, map, replicate, nat_lt, refl, sym, ◌∙◌, ap, subst, arith, eq-or-lt_of_le}
use Rattle.std.proofs.lemmas.List.{get_or-map, length-map, length-replicate, length-append, ext_get_or, get_or_push, get_or_append_left}
use Rattle.std.proofs.lemmas.Bool.{lt-ltb}
use Rattle.cov_base.specs.Meaning.{FactSet, no_facts, is_within}
use Rattle.cov_base.proofs.Laws.{within_none}
use Rattle.brk_table.specs.Places.{ArePlaces, IsIn}
use Rattle.session_book.specs.JobView.{IsJob}
use Rattle.module_area.specs.Meaning.{index_of, set_in, fresh_word, word_at, no_cell, PlanView, kind_at, no_place}
use Rattle.module_area.specs.Rule.{IsPlan}
use Rattle.module_area.specs.declared.cells.Cell.{Cell}
use Rattle.session_book.specs.Meaning.{task_of, no_task}
use Rattle.space_map.proofs.Laws.{private_filled-as}
use Rattle.interleave_core.specs.Meaning.{World, TaskPart, Parts, first_part, first_parts, plan_in, results_of, in_hand}
use Rattle.interleave_core.specs.World.{IsWorld}
use Rattle.interleave_core.specs.Results.{Fits}
use Rattle.interleave_core.specs.Views.{RunningView, IsRunning, IsStage, IsHand, IsCore, AreReady, AreSteady, AreTied, parts_of}
use Rattle.interleave_core.specs.declared.stage.Due.TheVariants.{Marking}
use Rattle.interleave_core.specs.declared.stage.Hand.{Hand}
use Rattle.interleave_core.specs.declared.stage.Stage.{Stage}
use Rattle.interleave_core.proofs.Runs.{in_hand-stage, no_set_at}
use Rattle.interleave_core.proofs.Tied.{tied_first}

pub part_read : (tasks : List RunningView) (t : ℕ) (r : RunningView) → t < length tasks → r ≡ get_or tasks t r → get_or (parts_of tasks) t (first_part no_task) ≡ r.part
part_read tasks t r lt read = get_or-map (λ (x : RunningView). x.part) tasks t r (first_part no_task) lt ∙ ap (λ (x : RunningView). x.part) (sym read)

pub bytes_read : (cells : List Cell) (sets : List FactSet) (tasks : List RunningView) (t : ℕ) (r : RunningView) → t < length tasks → r ≡ get_or tasks t r →
    (results_of (record { cells = cells; sets = sets; tasks = parts_of tasks }) t).bytes ≡ r.part.state.machine.bytes
bytes_read cells sets tasks t r lt read = ap (λ (u : TaskPart). u.state.machine.bytes) (part_read tasks t r lt read)

-- a task that was read is where it stands
pub stage_read : (w : World) (cells : List Cell) (sets : List FactSet) (plan : PlanView) (tasks : List RunningView) (t : ℕ) (r : RunningView) → IsCore w cells sets plan tasks → t < length tasks → r ≡ get_or tasks t r →
    IsStage w t (get_or (parts_of tasks) t (first_part no_task)) (get_or (parts_of tasks) t (first_part no_task)).stage
stage_read w cells sets plan tasks t r is lt read =
    subst (λ (u : TaskPart). IsStage w t u u.stage) (sym (part_read tasks t r lt read)) (subst (λ (x : RunningView). IsStage w t x.part x.part.stage) (sym read) (is.stages t r lt))

pub exists_read : (tasks : List RunningView) (t : ℕ) → t < length tasks → nat_lt t (length (parts_of tasks)) ≡ true
exists_read tasks t lt = lt-ltb t (length (parts_of tasks)) (subst (λ n. t < n) (sym (length-map tasks (λ (r : RunningView). r.part))) lt)

no_running : RunningView
no_running = record { part = first_part no_task; space = record { bytes = []; images = []; places = [] }; budget = 0 }

bytes_fit : (w : World) (t : ℕ) (r : RunningView) → IsRunning w t r → length r.part.state.machine.bytes ≡ (task_of w.job t).private
bytes_fit w t r is =
    ap (λ (b : List ℕ). length b) (sym is.bytes) ∙ private_filled-as r.space (task_of w.job t).private w.job.images w.places is.memory

pub Fits-core : (w : World) (cells : List Cell) (sets : List FactSet) (plan : PlanView) (tasks : List RunningView) → IsCore w cells sets plan tasks →
    Fits w (record { cells = cells; sets = sets; tasks = parts_of tasks })
Fits-core w cells sets plan tasks is = record {
  cells = is.cell_count;
  tasks = length-map tasks (λ (r : RunningView). r.part) ∙ is.count;
  bytes = λ t l.
      let lt : t < length tasks = subst (λ (n : ℕ). t < n) (length-map tasks (λ (r : RunningView). r.part)) l in
      ap (λ (u : TaskPart). length u.state.machine.bytes) (get_or-map (λ (x : RunningView). x.part) tasks t no_running (first_part no_task) lt) ∙ bytes_fit w t (get_or tasks t no_running) (is.running t no_running lt);
  within = is.within;
}

hand_held : (w : World) (t : ℕ) (u : TaskPart) (stage : Stage) (h : Hand) → IsStage w t u stage → in_hand Marking stage ≡ Some h → IsHand w h
hand_held w t u stage h is due = (subst (IsStage w t u) (in_hand-stage Marking stage h due).0 is).1

pub steady_core : (w : World) (cells : List Cell) (sets : List FactSet) (plan : PlanView) (tasks : List RunningView) → IsCore w cells sets plan tasks →
    AreSteady w (record { cells = cells; sets = sets; tasks = parts_of tasks })
steady_core w cells sets plan tasks is = record {
  is_plan = is.is_plan;
  cell_count = is.cell_count;
  words = is.words;
  hands = λ t h l due.
      let lt : t < length tasks = subst (λ (n : ℕ). t < n) (length-map tasks (λ (r : RunningView). r.part)) l in
      let part : get_or (parts_of tasks) t (first_part no_task) ≡ (get_or tasks t no_running).part = get_or-map (λ (x : RunningView). x.part) tasks t no_running (first_part no_task) lt in
      hand_held w t (get_or (parts_of tasks) t (first_part no_task)) (get_or (parts_of tasks) t (first_part no_task)).stage h (subst (λ (u : TaskPart). IsStage w t u u.stage) (sym part) (is.stages t no_running lt)) due;
  tied = is.tied;
}

pub IsWorld-core : (w : World) (cells : List Cell) (sets : List FactSet) (plan : PlanView) (tasks : List RunningView) → IsCore w cells sets plan tasks → IsWorld w
IsWorld-core w cells sets plan tasks is = record {
  job = is.job;
  phase = is.phase;
  is_plan = is.is_plan;
  places = is.places;
  inside = is.inside;
  seen = λ t l. (is.running t no_running (subst (λ (n : ℕ). t < n) (sym is.count) l)).seen;
}

-- one task more
pub AreReady-push : (w : World) (n : ℕ) (tasks more : List RunningView) (r : RunningView) → AreReady w n tasks → more ≡ tasks ++ r ∷ [] → IsRunning w n r → r.part ≡ first_part (task_of w.job n) →
    AreReady w (n + 1) more
AreReady-push w n tasks more r are e runs part = subst (λ (xs : List RunningView). AreReady w (n + 1) xs) (sym e) (record {
  count = length-append tasks (r ∷ []) ∙ ap (λ k. k + 1) are.count;
  running = λ t d l. elim (last_or t l) [
    | inl same ↦ subst (λ (x : RunningView). IsRunning w t x) (sym (at_end t d same)) (subst (λ k. IsRunning w k r) (sym (same ∙ are.count)) runs)
    | inr lt ↦ subst (λ (x : RunningView). IsRunning w t x) (sym (get_or_append_left tasks (r ∷ []) d t lt)) (are.running t d lt)
  ];
  parts = λ t d l. elim (last_or t l) [
    | inl same ↦ ap (λ (x : RunningView). x.part) (at_end t d same) ∙ (part ∙ ap (λ (k : ℕ). first_part (task_of w.job k)) (sym (same ∙ are.count)))
    | inr lt ↦ ap (λ (x : RunningView). x.part) (get_or_append_left tasks (r ∷ []) d t lt) ∙ are.parts t d lt
  ];
})
  where
    last_or : (t : ℕ) → t < length (tasks ++ r ∷ []) → (t ≡ length tasks) ⊎ (t < length tasks)
    last_or t l = let size = length-append tasks (r ∷ []) in
        let below : t < length tasks + 1 = subst (λ (n : ℕ). t < n) size l in
        eq-or-lt_of_le {n = t} {m = length tasks} (omega (arith, below))

    at_end : (t : ℕ) (d : RunningView) → t ≡ length tasks → get_or (tasks ++ r ∷ []) t d ≡ r
    at_end t d same = get_or_push tasks r d t (sym same)

pub ready_parts : (w : World) (tasks : List RunningView) → AreReady w (length w.job.tasks) tasks → parts_of tasks ≡ map first_part w.job.tasks
ready_parts w tasks are = ext_get_or (first_part no_task) (parts_of tasks) (map first_part w.job.tasks)
    (length-map tasks (λ (r : RunningView). r.part) ∙ (are.count ∙ sym (length-map w.job.tasks first_part)))
    (λ t l.
    let lt : t < length tasks = subst (λ (n : ℕ). t < n) (length-map tasks (λ (r : RunningView). r.part)) l in
    get_or-map (λ (x : RunningView). x.part) tasks t no_running (first_part no_task) lt
    ∙ (are.parts t no_running lt ∙ sym (get_or-map first_part w.job.tasks t no_task (first_part no_task) (subst (λ (n : ℕ). t < n) are.count lt))))

pub parts_are : (w : World) (cells : List Cell) (sets : List FactSet) (tasks : List RunningView) → cells ≡ map fresh_word w.places → sets ≡ replicate (length w.job.sessions * length w.places) no_facts →
    AreReady w (length w.job.tasks) tasks → ◌≡◌ {A = Parts} (record { cells = cells; sets = sets; tasks = parts_of tasks }) (first_parts w)
parts_are w cells sets tasks is_cells is_sets are = rw (is_cells, is_sets, ready_parts w tasks are) refl

-- a core before its first event is one
pub IsCore-first : (w : World) (cells : List Cell) (sets : List FactSet) (plan : PlanView) (tasks : List RunningView) → IsJob w.job → length w.job.phases ≡ 1 → plan ≡ plan_in w → IsPlan (plan_in w) → ArePlaces w.places → All (IsIn w.job.images) w.places →
    cells ≡ map fresh_word w.places → sets ≡ replicate (length w.job.sessions * length w.places) no_facts → AreReady w (length w.job.tasks) tasks → IsCore w cells sets plan tasks
IsCore-first w cells sets plan tasks job phase same is_plan places inside is_cells is_sets are = record {
  job = job;
  phase = phase;
  same_plan = same;
  is_plan = is_plan;
  places = places;
  inside = inside;
  count = are.count;
  cell_count = ap (λ (cs : List Cell). length cs) is_cells ∙ length-map w.places fresh_word;
  set_count = ap (λ (xs : List FactSet). length xs) is_sets ∙ length-replicate (length w.job.sessions * length w.places) no_facts;
  words = λ p l. inl (ap (λ (cs : List Cell). word_at cs p) is_cells ∙ get_or-map fresh_word w.places p no_place no_cell l);
  within = λ s p pos l. subst (λ (xs : List FactSet). is_within (kind_at (plan_in w) p) (set_in (length w.places) xs s p) ≡ true) (sym is_sets)
      (ap (is_within (kind_at (plan_in w) p)) (no_set_at (length w.job.sessions * length w.places) (index_of (length w.places) s p)) ∙ within_none (kind_at (plan_in w) p));
  running = are.running;
  stages = λ t r l. subst (λ (u : TaskPart). IsStage w t u u.stage) (sym (are.parts t r l)) tt;
  tied = subst (AreTied w) (sym (parts_are w cells sets tasks is_cells is_sets are)) (tied_first w is_plan);
}
