-- What the drains of a job's run tell of its controlled sessions.
use Rattle.std.proofs.Common.{◌≡◌, inl, inr, ℕ, zero, suc, ◌+◌, ◌-◌, ◌<◌, ◌≤◌, Bool, true, false, ◌||◌, if◌then◌else◌, Option, Some, None, IfSome, List, [], ◌∷◌, length, get_or, map, All, refl, sym, ap, ◌∙◌, subst, arith, nat_eq, eqb-true}
use Rattle.std.proofs.lemmas.Bool.Decides.{nat_tests}
use Rattle.std.specs.List.{filter, list_any}
use Rattle.std.proofs.lemmas.List.{get_or-map}
use Rattle.std.proofs.lemmas.List.Elements.{All-tail}
use Rattle.cov_base.specs.Meaning.{FactSet}
use Rattle.cov_base.specs.declared.numbers.SessNo.{SessNo}
use Rattle.cov_base.specs.declared.numbers.TaskNo.{TaskNo}
use Rattle.module_area.specs.Meaning.{set_at, ControlView, first_control, number_of, sessions_of, PlanView, ControlledView, has_session}
use Rattle.module_area.specs.Rule.{has_task}
use Rattle.module_area.specs.declared.places.Place.{Place}
use Rattle.session_book.specs.Meaning.{JobView, SessionView, TaskView, no_session, no_task, session_of, task_of, ResultView}
use Rattle.phase_plan.specs.Meaning.{with_controlled, controlled_from, plan_view}
use Rattle.session_book.specs.JobView.{IsJob, IsTaskOf}
use Rattle.task_run.specs.Meaning.{Walk, solo}
use Rattle.task_run.specs.Ran.{walk_from}
use Rattle.job_run.specs.Outcomes.{AreExtras, HasEnded, IsOutcomeBy}
use Rattle.job_run.specs.Meaning.{solo_result, walk_by, no_finals}
use Rattle.job_run.specs.Sets.{SetsView}
use Rattle.job_run.specs.Tasks.{done_result, no_result}
use Rattle.job_run.specs.declared.outcome.Done.{Done}
use Rattle.job_run.proofs.Laws.{begun_walk}
use Rattle.early_report.specs.DrainView.{DrainView}
use Rattle.early_report.specs.Meaning.{others, closing_count}
use Rattle.early_report.specs.Drains.{controller_in, controller_of}
use Rattle.early_report.specs.Text.{drained_in, drained_of, taken_at}
use Rattle.early_report.specs.Told.{IsTold, HasTold}
use Rattle.early_report.specs.declared.drains.Stage.{Stage}
use Rattle.run_reports.specs.Meaning.{AreDrained, IsDrained, closing_of, other_tasks}

-- ---- a session and its drain

told_drained : (closing : Option ℕ) (plan : PlanView) (done : ℕ) (sets : ℕ → ℕ → FactSet) (d : DrainView) → IsTold plan closing done sets d →
    IsDrained closing (others plan.tasks (controller_of plan d.session)) done (taken_at d.stage d.at)
told_drained None plan done sets d told = ap (λ (s : Stage). taken_at s d.at) told
told_drained (Some closing) plan done sets d (inl t) =
    subst (IsDrained (Some closing) (others plan.tasks (controller_of plan d.session)) done) (sym (ap (λ (s : Stage). taken_at s d.at) t.stage)) (t.from, t.to, t.alone)
told_drained (Some closing) plan done sets d (inr p) =
    subst (IsDrained (Some closing) (others plan.tasks (controller_of plan d.session)) done) (sym (ap (λ (s : Stage). taken_at s d.at) p.stage))
    (λ e. let none : has_task [] p.entry.0.0 ≡ true = subst (λ (ts : List TaskNo). has_task ts p.entry.0.0 ≡ true) e p.other in absurd cc)

-- the drain of the session among these
record Tells (plan : PlanView) (closing : ℕ → Option ℕ) (done : ℕ) (sets : ℕ → ℕ → FactSet) (s : ℕ) (drains : List DrainView) : Type 0 where
  drain : DrainView
  session : drain.session ≡ s
  is : drained_in drains s ≡ taken_at drain.stage drain.at
  told : IsTold plan (closing s) done sets drain

other_than : (b : Bool) (first rest : Option ℕ) → b ≡ false → (if b then first else rest) ≡ rest
other_than true first rest e = absurd cc
other_than false first rest e = refl

tells_first : (plan : PlanView) (closing : ℕ → Option ℕ) (done : ℕ) (sets : ℕ → ℕ → FactSet) (s : ℕ) (d : DrainView) (ds : List DrainView) (b : Bool) → nat_eq d.session s ≡ b → IsTold plan (closing d.session) done sets d →
    (list_any (λ (n : ℕ). nat_eq n s) (map (λ (x : DrainView). x.session) ds) ≡ true → Tells plan closing done sets s ds) → list_any (λ (n : ℕ). nat_eq n s) (map (λ (x : DrainView). x.session) (d ∷ ds)) ≡ true → Tells plan closing done sets s (d ∷ ds)
tells_first plan closing done sets s d ds true e told rest h = record {
  drain = d;
  session = eqb-true d.session s e;
  is = rw e refl;
  told = subst (λ (n : ℕ). IsTold plan (closing n) done sets d) (eqb-true d.session s e) told;
}
tells_first plan closing done sets s d ds false e told rest h =
    let t = rest (ap (λ (b : Bool). b || list_any (λ (n : ℕ). nat_eq n s) (map (λ (x : DrainView). x.session) ds)) (sym e) ∙ h) in
    record { drain = t.drain; session = t.session; is = other_than (nat_eq d.session s) (taken_at d.stage d.at) (drained_in ds s) e ∙ t.is; told = t.told }

tells : (plan : PlanView) (closing : ℕ → Option ℕ) (done : ℕ) (sets : ℕ → ℕ → FactSet) (s : ℕ) (drains : List DrainView) → list_any (λ (n : ℕ). nat_eq n s) (map (λ (d : DrainView). d.session) drains) ≡ true →
    All (λ (d : DrainView). IsTold plan (closing d.session) done sets d) drains → Tells plan closing done sets s drains
tells plan closing done sets s [] h all = absurd cc
tells plan closing done sets s (d ∷ ds) h all =
    tells_first plan closing done sets s d ds (nat_eq d.session s) refl (all 0 d (omega arith))
    (λ there. tells plan closing done sets s ds there (All-tail (λ (d : DrainView). IsTold plan (closing d.session) done sets d) d ds all)) h

-- ---- a controlled session in its phase's plan

abbrev controls : ℕ → ControlledView → Bool
controls t c = nat_eq c.by t

-- the session is one of the task's, and its first entry is
record Stands (cs : List ControlledView) (t s : ℕ) : Type 0 where
  by_task : controller_in cs s ≡ t
  its : has_session (map number_of (filter (controls t) cs)) s ≡ true

stands_first : (c : ControlledView) (cs : List ControlledView) → Stands (c ∷ cs) c.by c.session
stands_first c cs =
    let same : nat_eq c.session c.session ≡ true = grind (arith, nat_tests) in
    let own : nat_eq c.by c.by ≡ true = grind (arith, nat_tests) in
    record { by_task = rw same refl; its = rw (own, same) refl }

stands_later : (c : ControlledView) (cs : List ControlledView) (t s : ℕ) → nat_eq c.session s ≡ false → Stands cs t s → Stands (c ∷ cs) t s
stands_later c cs t s differs h = record { by_task = rw differs h.by_task; its = by_controller (nat_eq c.by t) refl }
  where
    by_controller : (b : Bool) → nat_eq c.by t ≡ b → has_session (map number_of (filter (controls t) (c ∷ cs))) s ≡ true
    by_controller true e = rw (e, differs) h.its
    by_controller false e = rw e h.its

stands_with : (n : ℕ) (x : SessionView) (places : List Place) (o : Option ℕ) (cs : List ControlledView) (t s : ℕ) → n < s → Stands cs t s → Stands (with_controlled n x places o cs) t s
stands_with n x places None cs t s below h = h
stands_with n x places (Some u) cs t s below h = let differs : nat_eq n s ≡ false = grind (arith, nat_tests) in stands_later (record { session = n; by = u; places = _ }) cs t s differs h

stands_behind : (n : ℕ) (x : SessionView) (xs : List SessionView) (places : List Place) (phase t s : ℕ) (b : Bool) → nat_eq x.phase phase ≡ b → n < s → Stands (controlled_from (n + 1) xs places phase) t s → Stands (controlled_from n (x ∷ xs) places phase) t s
stands_behind n x xs places phase t s true e below rest = rw e (stands_with n x places x.by (controlled_from (n + 1) xs places phase) t s below rest)
stands_behind n x xs places phase t s false e below rest = rw e rest

stands_at : (n : ℕ) (ss : List SessionView) (places : List Place) (phase t k s : ℕ) → s ≡ n + k → k < length ss → (get_or ss k no_session).phase ≡ phase → (get_or ss k no_session).by ≡ Some t →
    Stands (controlled_from n ss places phase) t s
stands_at n [] places phase t k s is l of by = absurd (omega (arith, l))
stands_at n (x ∷ xs) places phase t zero s is l of by =
    let here : nat_eq x.phase phase ≡ true = grind (arith, nat_tests) in
    let number : s ≡ n = omega (arith, is) in
    rw (here, by, number) (stands_first (record { session = n; by = t; places = _ }) (controlled_from (n + 1) xs places phase))
stands_at n (x ∷ xs) places phase t (suc k) s is l of by =
    stands_behind n x xs places phase t s (nat_eq x.phase phase) refl (omega (arith, is)) (stands_at (n + 1) xs places phase t k s (omega (arith, is)) (omega (arith, l)) of by)

-- ---- the job's sessions

some_of : {X : Type 0} (xs : List X) (i : ℕ) → i < length xs → X
some_of [] i l = absurd (omega (arith, l))
some_of (x ∷ xs) i l = x

controlled_task : (tasks : List TaskView) (phase : ℕ) (o : Option ℕ) (t : ℕ) → o ≡ Some t → IfSome o (IsTaskOf tasks phase) → IsTaskOf tasks phase t
controlled_task tasks phase o t e h = subst (λ (p : Option ℕ). IfSome p (IsTaskOf tasks phase)) e h

numbers : (ns : List SessNo) (s : ℕ) → list_any (λ (n : ℕ). nat_eq n s) (map (λ (n : SessNo). n.0) ns) ≡ has_session ns s
numbers [] s = refl
numbers (n ∷ ns) s = ap (λ (b : Bool). nat_eq n.0 s || b) (numbers ns s)

said_so : (a b : Option ℕ) (plan : PlanView) (t u done : ℕ) (x y : Option ℕ) → a ≡ b → t ≡ u → x ≡ y → IsDrained a (others plan.tasks t) done x → IsDrained b (others plan.tasks u) done y
said_so a b plan t u done x y first second third h = rw (sym first, sym second, sym third) h

-- the drain of a session tells so of it, among those of its controller, which ran over the plan of this phase
drained_at : (j : JobView) (places : List Place) (phase s by : ℕ) (first last : Done) (drains : List DrainView) (sets : ℕ → ℕ → FactSet) → walk_from solo (plan_view j places phase) first.task ≡ walk_by solo j places by → first.task.bench.control ≡ first_control (plan_view j places phase) by →
    HasTold (plan_view j places phase) first.task last.task drains sets → Stands (plan_view j places phase).controlled by s →
    IsDrained (closing_count (first_control (plan_view j places phase) by) (walk_by solo j places by).calls s) (others (plan_view j places phase).tasks by) last.task.done (drained_in drains s)
drained_at j places phase s by first last drains sets calls control told stands =
    said_so (closing s) (closing_count (first_control plan by) (walk_by solo j places by).calls s) plan (controller_of plan t.drain.session) by last.task.done (taken_at t.drain.stage t.drain.at) (drained_in drains s) counts controller (sym t.is)
    (told_drained (closing s) plan last.task.done sets t.drain t.told)
  where
    plan : PlanView
    plan = plan_view j places phase

    closing : ℕ → Option ℕ
    closing n = closing_count first.task.bench.control (walk_from solo plan first.task).calls n

    has : list_any (λ (n : ℕ). nat_eq n s) (map (λ (x : DrainView). x.session) drains) ≡ true
    has = ap (list_any (λ (n : ℕ). nat_eq n s)) (told.sessions ∙ ap (λ (c : ControlView). map (λ (n : SessNo). n.0) c.sessions) control) ∙ (numbers (sessions_of plan by) s ∙ stands.its)

    t : Tells plan closing last.task.done sets s drains
    t = tells plan closing last.task.done sets s drains has told.each

    counts : closing s ≡ closing_count (first_control plan by) (walk_by solo j places by).calls s
    counts = ap (λ (c : ControlView). closing_count c (walk_from solo plan first.task).calls s) control ∙ ap (λ (w : Walk). closing_count (first_control plan by) w.calls s) calls

    controller : controller_of plan t.drain.session ≡ by
    controller = ap (controller_of plan) t.session ∙ stands.by_task

drained_each : {E : Type 0} (items : E → List DrainView) (j : JobView) (places : List Place) (tasks : List Done) (sets : SetsView) (lists : List E) → IsJob j → IsOutcomeBy solo j places tasks sets →
    AreExtras (λ plan old new extra finals. HasTold plan old new (items extra) finals) j places tasks sets lists → (s by : ℕ) → 0 < s → s ≤ length j.sessions → (session_of j s).by ≡ Some by →
    IsDrained (closing_of j places by s) (other_tasks j places by s) (solo_result j places by).done (drained_of j (map items lists) s)
drained_each {E = E} items j places tasks sets lists job outcome extras s by some most is =
    rw (is, list, sym of_phase, sym done) (drained_at j places (task_of j by).phase s by ended.first last (items extra) finals (begun_walk solo plan j places by ended.first refl ended.begun.begun) ended.begun.control ended.tells stands)
  where
    its : IsTaskOf j.tasks (session_of j s).phase by
    its = controlled_task j.tasks (session_of j s).phase (session_of j s).by by is (job.controllers (s - 1) no_session (omega (arith, some, most)))

    task : by < length j.tasks
    task = (its no_task).0

    of_phase : (task_of j by).phase ≡ (session_of j s).phase
    of_phase = (its no_task).1

    plan : PlanView
    plan = plan_view j places (task_of j by).phase

    in_tasks : by < length tasks
    in_tasks = omega (arith, task, outcome.count)

    in_lists : by < length lists
    in_lists = omega (arith, task, extras.count)

    last : Done
    last = get_or tasks by (some_of tasks by in_tasks)

    extra : E
    extra = get_or lists by (some_of lists by in_lists)

    ended : HasEnded (λ plan old new extra finals. HasTold plan old new (items extra) finals) j places sets by last extra
    ended = extras.each by (some_of tasks by in_tasks) (some_of lists by in_lists) task

    finals : ℕ → ℕ → FactSet
    finals = λ s p. set_at (get_or sets.finals (task_of j by).phase no_finals) s p

    stands : Stands plan.controlled by s
    stands = stands_at 1 j.sessions places (task_of j by).phase by (s - 1) s (omega (arith, some)) (omega (arith, some, most)) (sym of_phase) is

    done : last.task.done ≡ (solo_result j places by).done
    done = ap (λ (r : ResultView). r.done) (sym (get_or-map done_result tasks by (some_of tasks by in_tasks) no_result in_tasks) ∙ outcome.are_results by task)

    list : get_or (map items lists) by [] ≡ items extra
    list = get_or-map items lists by (some_of lists by in_lists) [] in_lists

-- what each task's drains tell
pub are_drained : {E : Type 0} (items : E → List DrainView) (j : JobView) (places : List Place) (tasks : List Done) (sets : SetsView) (lists : List E) → IsJob j → IsOutcomeBy solo j places tasks sets →
    AreExtras (λ plan old new extra finals. HasTold plan old new (items extra) finals) j places tasks sets lists → AreDrained j places (drained_of j (map items lists))
are_drained items j places tasks sets lists job outcome extras = record { each = drained_each items j places tasks sets lists job outcome extras }
