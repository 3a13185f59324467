-- Passes of an area split off, run with and joined.
use Rattle.std.proofs.Common.{[], ◌≡◌, inl, inr, ℕ, ◌+◌, ◌<◌, ◌≤◌, ◌^◌, Bool, true, false, not, ◌&&◌, ◌||◌, nat_eq, Option, unwrap_or, List, ◌∷◌, ◌++◌, length, map, refl, sym, ◌∙◌, ap, subst, arith}
use Rattle.std.specs.Cmp.{nat_eq_equiv}
use Rattle.std.proofs.Math.Bool.{and-true, or-false}
use Rattle.std.proofs.lemmas.Bool.{cases_Bool, eqb-true}
use Rattle.std.proofs.lemmas.List.{append_assoc, append-nil, length-append}
use Rattle.std.proofs.lemmas.List.Folds.{list_any-append}
use Rattle.cov_base.specs.Meaning.{Memory, Visit}
use Rattle.cov_base.specs.declared.limits.TheConstants.{PLACE_LIMIT}
use Rattle.cov_base.specs.declared.numbers.TaskNo.{TaskNo}
use Rattle.module_area.specs.Meaning.{ControlView, first_control, PlanView}
use Rattle.module_area.specs.Notes.{Notes, bearer, calls, split_notes, after_split, after_join}
use Rattle.module_area.specs.Rule.{IsPlan, has_task}
use Rattle.module_area.specs.Tied.{IsTied}
use Rattle.module_area.specs.declared.places.Place.{Place}
use Rattle.module_area.proofs.Laws.{first_tied}
use Rattle.brk_table.specs.Kept.{AreCodes, AreKept}
use Rattle.brk_table.specs.Meaning.{TablesView}
use Rattle.brk_table.specs.Places.{AreSeen}
use Rattle.space_map.proofs.Laws.{are_kept}
use Rattle.task_run.specs.Steps.{memory_at}
use Rattle.task_run.specs.First.{IsOver}
use Rattle.task_run.specs.Observed.{Observes}
use Rattle.task_run.proofs.Laws.{Observes-none}
use Rattle.task_run.specs.Controlled.{Follows, HasWindows, HasPlanted}
use Rattle.task_run.specs.Meaning.{Course, Walk}
use Rattle.task_run.specs.Ran.{walk_from}
use Rattle.session_book.specs.Meaning.{JobView, TaskView, task_of}
use Rattle.phase_plan.specs.Meaning.{tasks_from, traces_from, plan_view}
use Rattle.session_book.specs.JobView.{IsJob, IsTask}
use Rattle.job_run.specs.Bounds.{JoinsTasks, Leaves}
use Rattle.job_run.specs.Crews.{phase_at, all_tasks}
use Rattle.job_run.specs.Passes.{after_planting, JoinsAll, trace_of, visits_of, HasJoined, Runs, HasSeen}
use Rattle.job_run.specs.Meaning.{joined, phase_trace, trace_by, walk_by}
use Rattle.job_run.specs.Slots.{in_phase}
use Rattle.job_run.specs.Tasks.{HasNotRun, IsEquipped}
use Rattle.job_run.specs.declared.outcome.Done.{Done}
use Rattle.job_run.proofs.AreaLemmas.{planted_last}
use Rattle.job_run.proofs.BoundLemmas.{joins_none, joins_one, leaves}
use Rattle.job_run.proofs.JoinLemmas.{joins-more}
use Rattle.job_run.proofs.TaskLemmas.{begun_walk, is_task, run_few}

-- a task that has not run is over the plan of the tables, which have the instructions of the job's modules
pub is_over_begun : (plan : PlanView) (j : JobView) (tables : TablesView) (t : ℕ) (d : Done) → plan.places ≡ tables.places → IsJob j → AreCodes j.images tables → t < length j.tasks → HasNotRun j tables.places t d →
    IsOver plan (memory_at d.task.bench) tables
is_over_begun plan j tables t d of job are l b = record {
  same = of;
  seen = subst (λ (m : Memory). AreSeen m tables.places) (sym b.begun.memory) b.begun.seen;
  kept = subst (λ (m : Memory). AreKept m tables) (sym b.begun.memory) (are_kept (task_of j t).private j.images tables (is_task j t job l).private job.images are);
}

-- the area is over the plan of the task's phase
pub plan_here : (plan : PlanView) (j : JobView) (places : List Place) (phase t : ℕ) → plan ≡ plan_view j places phase → in_phase j phase t ≡ true → plan ≡ plan_view j places (task_of j t).phase
plan_here plan j places phase t of h = of ∙ ap (plan_view j places) (sym (eqb-true (task_of j t).phase phase h))

-- the visits of tasks

joined-more : {X : Type 0} (f : X → List Visit) (xs : List X) (x : X) → joined (map f (xs ++ x ∷ [])) ≡ joined (map f xs) ++ f x
joined-more f [] x = append-nil (f x)
joined-more f (y ∷ xs) x = ap (λ vs. f y ++ vs) (joined-more f xs x) ∙ sym (append_assoc (f y) (joined (map f xs)) (f x))

pub traces-map : (n : ℕ) (ts : List TaskView) (phase : ℕ) (trace : ℕ → List Visit) → map (λ (t : TaskNo). trace t.0) (tasks_from n ts phase) ≡ traces_from n ts phase trace
traces-map n [] phase trace = refl
traces-map n (t ∷ ts) phase trace = let rest = traces-map (n + 1) ts phase trace in elim (cases_Bool (nat_eq t.phase phase)) [
  | inl e ↦ rw e (ap (λ vs. trace n ∷ vs) rest)
  | inr e ↦ rw e rest
]

pub all_visits : (course : Course) (j : JobView) (places : List Place) (phase : ℕ) → visits_of (walk_by course j places) (all_tasks (phase_at j phase)) ≡ phase_trace course j places phase
all_visits course j places phase = ap joined (traces-map 0 j.tasks phase (trace_by course j places))

-- the root, while passes are split off and joined

has_more : (ts : List TaskNo) (t u : ℕ) → (has_task ts u || nat_eq u t) ≡ has_task (ts ++ record { 0 = t } ∷ []) u
has_more ts t u = ap (λ b. has_task ts u || b) (nat_eq_equiv.symm u t ∙ sym (or-false (nat_eq t u))) ∙ sym (list_any-append (λ (v : TaskNo). nat_eq v.0 u) ts (record { 0 = t } ∷ []))

out_less : (g b e : Bool) → ((g && not b) && not e) ≡ (g && not (b || e))
out_less true true e = refl
out_less true false e = refl
out_less false b e = refl

module _ {P : Type 0} (is_pass : P → Type 0) (notes : P → Notes) (plan : PlanView) (course : Course) (j : JobView) (places : List Place) where
  -- nothing is split off yet
  pub joins-start : (root : P) → is_pass root → notes root ≡ after_planting plan → calls (notes root) ≤ PLACE_LIMIT → HasJoined is_pass notes plan course j places root [] []
  joins-start root area start few = record {
    area = area;
    bears = ap (λ (n : Notes). n.bears) start;
    given = λ t. ap (λ (n : Notes). n.given t) start;
    out = λ t. ap (λ (n : Notes). n.out t) start;
    same = λ e. start ∙ sym (ap (λ (n : Notes). record (after_planting plan) { given = n.given; out = n.out }) start);
    observes = subst (λ (n : Notes). JoinsAll plan (after_planting plan) n []) (sym start) (Observes-none plan (after_planting plan));
    joins = joins_none plan (walk_by course j places) (after_planting plan) (notes root) (λ s p f. ap (λ (n : Notes). n.marked s p f) start) (ap (λ (n : Notes). n.tally) start) (ap (λ (n : Notes). n.beats) start);
    few = omega (arith, few);
  }

  pub given-one : (old new : P) (given : List TaskNo) (t : ℕ) → is_pass new → notes new ≡ after_split (notes old) t → HasJoined is_pass notes plan course j places old given [] →
      HasJoined is_pass notes plan course j places new (given ++ record { 0 = t } ∷ []) []
  given-one old new given t area is h = record {
    area = area;
    bears = ap (λ (n : Notes). n.bears) is ∙ h.bears;
    given = λ u. ap (λ (n : Notes). n.given u) is ∙ (ap (λ b. b || nat_eq u t) (h.given u) ∙ has_more given t u);
    out = λ u. ap (λ (n : Notes). n.out u) is ∙ (ap (λ b. b || nat_eq u t) (h.out u) ∙ out_more u);
    same = λ e. is ∙ (ap (λ (n : Notes). after_split n t) (h.same refl) ∙ sym (ap (λ (n : Notes). record (after_planting plan) { given = n.given; out = n.out }) is));
    observes = subst (λ (n : Notes). JoinsAll plan (after_planting plan) n []) (sym (is ∙ ap (λ (n : Notes). after_split n t) (h.same refl))) (Observes-none plan _);
    joins = joins_none plan (walk_by course j places) (after_planting plan) (notes new) (λ s p f. ap (λ (n : Notes). n.marked s p f) (is ∙ ap (λ (n : Notes). after_split n t) (h.same refl)))
        (ap (λ (n : Notes). n.tally) (is ∙ ap (λ (n : Notes). after_split n t) (h.same refl))) (ap (λ (n : Notes). n.beats) (is ∙ ap (λ (n : Notes). after_split n t) (h.same refl)));
    few = omega (arith, h.few, ap (λ (n : Notes). calls n) is);
  }
    where
      out_more : (u : ℕ) → ((has_task given u && true) || nat_eq u t) ≡ (has_task (given ++ record { 0 = t } ∷ []) u && true)
      out_more u = ap (λ b. b || nat_eq u t) (and-true (has_task given u)) ∙ (has_more given t u ∙ sym (and-true (has_task (given ++ record { 0 = t } ∷ []) u)))

  pub taken-one : (old new other : P) (given back : List TaskNo) (t : ℕ) → IsPlan plan → has_task back t ≡ false → is_pass new → notes new ≡ after_join plan (notes old) (notes other) → HasJoined is_pass notes plan course j places old given back →
      HasSeen is_pass notes plan course j places t other → HasJoined is_pass notes plan course j places new given (back ++ record { 0 = t } ∷ [])
  taken-one old new other given back t plans first area is h s = record {
    area = area;
    bears = ap (λ (n : Notes). n.bears) is ∙ h.bears;
    given = λ u. ap (λ (n : Notes). n.given u) is ∙ h.given u;
    out = λ u. ap (λ (n : Notes). n.out u) is ∙ (ap (λ b. b && not (nat_eq u (bearer (notes other)))) (h.out u)
        ∙ (ap (λ k. (has_task given u && not (has_task back u)) && not (nat_eq u k)) its ∙ (out_less (has_task given u) (has_task back u) (nat_eq u t) ∙ ap (λ b. has_task given u && not b) (has_more back t u))));
    same = λ e. absurd (omega (arith, ap (λ (ts : List TaskNo). length ts) e, length-append back (record { 0 = t } ∷ [])));
    observes = subst (λ (n : Notes). JoinsAll plan (after_planting plan) n (visits_of (walk_by course j places) (back ++ record { 0 = t } ∷ []))) (sym is)
        (subst (λ (vs : List Visit). JoinsAll plan (after_planting plan) (after_join plan (notes old) (notes other)) vs) (sym (joined-more (trace_of (walk_by course j places)) back (record { 0 = t })))
        (joins-more plan (after_planting plan) (notes old) (notes other) t (visits_of (walk_by course j places) back) (walk_by course j places t).trace h.observes s.observes));
    joins = subst (λ (n : Notes). JoinsTasks plan (walk_by course j places) (back ++ record { 0 = t } ∷ []) (after_planting plan) n) (sym is) (joins_one plan (walk_by course j places) back t (after_planting plan) (notes old) (notes other) plans its first h.joins s.leaves);
    few = omega (arith, ap (λ (n : Notes). calls n) is, h.few, s.leaves.few, length-append back (record { 0 = t } ∷ []));
  }
    where
      its : bearer (notes other) ≡ t
      its = ap (λ (o : Option ℕ). unwrap_or o 0) s.observes.grows.bears

-- a pass that has run what a task's card says
pub seen_by : {P : Type 0} (course : Course) (is_pass : P → Type 0) (notes : P → Notes) (plan : PlanView) (j : JobView) (places : List Place) (t : ℕ) (before after : Notes) (p : P) (d e : Done) → IsPlan plan →
    plan ≡ plan_view j places (task_of j t).phase → IsTask (length j.phases) (task_of j t) →
    is_pass p → before ≡ split_notes plan (after_planting plan) t → notes p ≡ after → IsEquipped j places t d → Runs course plan before after d e → HasSeen is_pass notes plan course j places t p
seen_by course is_pass notes plan j places t before after p d e is of task area fresh at start r =
    let split : Notes = split_notes plan (after_planting plan) t in
    let walks : ℕ → Walk = walk_by course j places in
    let walked : walk_from course plan d.task ≡ walks t = begun_walk course plan j places t d of start.begun in
    let first : d.task.bench.control ≡ first_control plan t = start.control ∙ ap (λ (q : PlanView). first_control q t) (sym of) in
    let follows : Follows plan split after (walks t).trace (walks t).calls (first_control plan t) e.task.bench.control =
    subst (λ (n : Notes). Follows plan n after (walks t).trace (walks t).calls (first_control plan t) e.task.bench.control) fresh
    (subst (λ (w : Walk). Follows plan before after w.trace w.calls (first_control plan t) e.task.bench.control) walked
    (subst (λ (c : ControlView). Follows plan before after (walk_from course plan d.task).trace (walk_from course plan d.task).calls c e.task.bench.control) first r.ran.follows)) in
    let windows : HasWindows plan split (first_control plan t) (walks t).calls =
    subst (λ (n : Notes). HasWindows plan n (first_control plan t) (walks t).calls) fresh
    (subst (λ (w : Walk). HasWindows plan before (first_control plan t) w.calls) walked
    (subst (λ (c : ControlView). HasWindows plan before c (walk_from course plan d.task).calls) first r.ran.windows)) in
    let planted : HasPlanted plan split after e.task.bench.control = subst (λ (n : Notes). HasPlanted plan n after e.task.bench.control) fresh r.ran.planted in
    let few : calls after < 2 ^ 42 = run_few course plan before after j places t d e task start.begun r (ap (λ (n : Notes). calls n) fresh) in
    record {
      area = area;
      observes = subst (λ (n : Notes). Observes plan split n (walks t).trace) (sym at) follows.observes;
      leaves = subst (λ (n : Notes). Leaves plan walks t n) (sym at) (leaves plan walks t (after_planting plan) after e.task.bench.control is (λ q. planted_last plan t q is) (first_tied plan (after_planting plan) t is (λ q. planted_last plan t q is)) follows windows planted r.ran.tied few);
    }

-- the control with which a task of the phase begins, and its tie to the pass that was split off for it

pub first_of : (plan : PlanView) (j : JobView) (places : List Place) (t : ℕ) (d : Done) → plan ≡ plan_view j places (task_of j t).phase → IsEquipped j places t d → d.task.bench.control ≡ first_control plan t
first_of plan j places t d of start = start.control ∙ ap (λ (q : PlanView). first_control q t) (sym of)

pub tied_of : (plan : PlanView) (j : JobView) (places : List Place) (t : ℕ) (n : Notes) (d : Done) → IsPlan plan → plan ≡ plan_view j places (task_of j t).phase → n ≡ split_notes plan (after_planting plan) t →
    IsEquipped j places t d → IsTied plan n d.task.bench.control
tied_of plan j places t n d is of fresh start =
    subst (λ (c : ControlView). IsTied plan n c) (sym (first_of plan j places t d of start))
    (subst (λ (m : Notes). IsTied plan m (first_control plan t)) (sym fresh) (first_tied plan (after_planting plan) t is (λ q. planted_last plan t q is)))
