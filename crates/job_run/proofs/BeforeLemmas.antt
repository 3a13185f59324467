-- The tasks of a phase before one of them.
use Rattle.std.proofs.Common.{◌≡◌, inl, inr, ℕ, zero, suc, ◌+◌, ◌<◌, ◌≤◌, true, false, nat_eq, List, [], ◌∷◌, ◌++◌, length, get_or, take, refl, sym, ◌∙◌, ap, subst, arith, zero-add}
use Rattle.std.proofs.lemmas.Bool.{cases_Bool, eq-eqb, or_left, or_right}
use Rattle.std.proofs.lemmas.Bool.Decides.{nat_tests}
use Rattle.std.proofs.lemmas.List.{append-nil, take_more, take_all, length-take-le}
use Rattle.cov_base.specs.declared.numbers.TaskNo.{TaskNo}
use Rattle.module_area.specs.Rule.{has_task}
use Rattle.session_book.specs.Meaning.{TaskView, task_of, no_task}
use Rattle.phase_plan.specs.Meaning.{tasks_from}
use Rattle.job_run.specs.Crews.{PhaseView, IsTaskOf, is_its, all_tasks, tasks_before}

-- the first task of some, and the rest

first_its : (n : ℕ) (x : TaskView) (ts : List TaskView) (phase : ℕ) → nat_eq x.phase phase ≡ true → tasks_from n (x ∷ ts) phase ≡ record { 0 = n } ∷ tasks_from (n + 1) ts phase
first_its n x ts phase e = rw e refl

first_other : (n : ℕ) (x : TaskView) (ts : List TaskView) (phase : ℕ) → nat_eq x.phase phase ≡ false → tasks_from n (x ∷ ts) phase ≡ tasks_from (n + 1) ts phase
first_other n x ts phase e = rw e refl

by_first : (Q : List TaskNo → Type 0) (n : ℕ) (x : TaskView) (ts : List TaskView) (phase : ℕ) → Q (record { 0 = n } ∷ tasks_from (n + 1) ts phase) → Q (tasks_from (n + 1) ts phase) → Q (tasks_from n (x ∷ ts) phase)
by_first Q n x ts phase its other = elim (cases_Bool (nat_eq x.phase phase)) [
  | inl e ↦ subst Q (sym (first_its n x ts phase e)) its
  | inr e ↦ subst Q (sym (first_other n x ts phase e)) other
]

-- one task more
tasks_from-more : (n : ℕ) (ts : List TaskView) (t : TaskView) (phase : ℕ) → tasks_from n (ts ++ t ∷ []) phase ≡ tasks_from n ts phase ++ tasks_from (n + length ts) (t ∷ []) phase
tasks_from-more n [] t phase = ap (λ k. tasks_from k (t ∷ []) phase) (let z : n ≡ n + 0 = omega arith in z)
tasks_from-more n (x ∷ ts) t phase =
    let rest : tasks_from (n + 1) (ts ++ t ∷ []) phase ≡ tasks_from (n + 1) ts phase ++ tasks_from (n + length (x ∷ ts)) (t ∷ []) phase =
    tasks_from-more (n + 1) ts t phase ∙ ap (λ k. tasks_from (n + 1) ts phase ++ tasks_from k (t ∷ []) phase) (let z : n + 1 + length ts ≡ n + length (x ∷ ts) = omega arith in z) in
    elim (cases_Bool (nat_eq x.phase phase)) [
      | inl e ↦ first_its n x (ts ++ t ∷ []) phase e ∙ (ap (λ us. record { 0 = n } ∷ us) rest ∙ ap (λ us. us ++ tasks_from (n + length (x ∷ ts)) (t ∷ []) phase) (sym (first_its n x ts phase e)))
      | inr e ↦ first_other n x (ts ++ t ∷ []) phase e ∙ (rest ∙ ap (λ us. us ++ tasks_from (n + length (x ∷ ts)) (t ∷ []) phase) (sym (first_other n x ts phase e)))
    ]

before_more : (p : PhaseView) (t : ℕ) → t < length p.job.tasks → tasks_before p (t + 1) ≡ tasks_before p t ++ tasks_from t (task_of p.job t ∷ []) p.number
before_more p t l =
    let size : 0 + length (take t p.job.tasks) ≡ t = omega (arith, length-take-le t p.job.tasks (omega (arith, l))) in
    ap (λ us. tasks_from 0 us p.number) (take_more p.job.tasks t no_task l)
    ∙ (tasks_from-more 0 (take t p.job.tasks) (task_of p.job t) p.number
    ∙ ap (λ k. tasks_before p t ++ tasks_from k (task_of p.job t ∷ []) p.number) size)

pub before_one : (p : PhaseView) (t : ℕ) → IsTaskOf p t → tasks_before p (t + 1) ≡ tasks_before p t ++ record { 0 = t } ∷ []
before_one p t h = before_more p t h.exists ∙ ap (λ us. tasks_before p t ++ us) (let e = h.its in rw e refl)

pub before_other : (p : PhaseView) (t : ℕ) → t < length p.job.tasks → is_its p t ≡ false → tasks_before p (t + 1) ≡ tasks_before p t
before_other p t l h = before_more p t l ∙ (ap (λ us. tasks_before p t ++ us) (rw h refl) ∙ append-nil (tasks_before p t))

pub before_all : (p : PhaseView) (n : ℕ) → length p.job.tasks ≤ n → tasks_before p n ≡ all_tasks p
before_all p n l = ap (λ us. tasks_from 0 us p.number) (take_all n p.job.tasks l)

-- a later task isn't among them
not_from : (n : ℕ) (ts : List TaskView) (phase k : ℕ) → n + length ts ≤ k → has_task (tasks_from n ts phase) k ≡ false
not_from n [] phase k l = refl
not_from n (x ∷ ts) phase k l =
    let apart : nat_eq n k ≡ false = (let z : n < k = omega (arith, l) in grind (arith, nat_tests)) in
    let rest : has_task (tasks_from (n + 1) ts phase) k ≡ false = not_from (n + 1) ts phase k (omega (arith, l)) in
    by_first (λ us. has_task us k ≡ false) n x ts phase (rw (apart, rest) refl) rest

pub not_before : (p : PhaseView) (t : ℕ) → t < length p.job.tasks → has_task (tasks_before p t) t ≡ false
not_before p t l = not_from 0 (take t p.job.tasks) p.number t (omega (arith, length-take-le t p.job.tasks (omega (arith, l))))

-- there are no more of them than tasks of the job
few_from : (n : ℕ) (ts : List TaskView) (phase : ℕ) → length (tasks_from n ts phase) ≤ length ts
few_from n [] phase = omega arith
few_from n (x ∷ ts) phase = let few = few_from (n + 1) ts phase in by_first (λ us. length us ≤ length (x ∷ ts)) n x ts phase (omega (arith, few)) (omega (arith, few))

pub few_before : (p : PhaseView) (t : ℕ) → t < length p.job.tasks → length (tasks_before p t) ≤ t
few_before p t l = let f = few_from 0 (take t p.job.tasks) p.number in omega (arith, f, length-take-le t p.job.tasks (omega (arith, l)))

-- each task of the phase is among all of them
its_from : (n : ℕ) (ts : List TaskView) (phase t : ℕ) → t < length ts → nat_eq (get_or ts t no_task).phase phase ≡ true → has_task (tasks_from n ts phase) (n + t) ≡ true
its_from n [] phase t l h = absurd (omega arith)
its_from n (x ∷ ts) phase zero l h = rw h (or_left (nat_eq n (n + 0)) (has_task (tasks_from (n + 1) ts phase) (n + 0)) (eq-eqb n (n + 0) (omega arith)))
its_from n (x ∷ ts) phase (suc t) l h =
    let there : n + 1 + t ≡ n + suc t = omega arith in
    let rest : has_task (tasks_from (n + 1) ts phase) (n + suc t) ≡ true = subst (λ (k : ℕ). has_task (tasks_from (n + 1) ts phase) k ≡ true) there (its_from (n + 1) ts phase t (omega arith) h) in
    by_first (λ us. has_task us (n + suc t) ≡ true) n x ts phase (or_right (nat_eq n (n + suc t)) (has_task (tasks_from (n + 1) ts phase) (n + suc t)) rest) rest

pub is_among : (p : PhaseView) (t : ℕ) → IsTaskOf p t → has_task (all_tasks p) t ≡ true
is_among p t h = subst (λ (k : ℕ). has_task (all_tasks p) k ≡ true) (zero-add t) (its_from 0 p.job.tasks p.number t h.exists h.its)
