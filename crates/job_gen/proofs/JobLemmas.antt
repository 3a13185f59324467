-- The generated job keeps the rules of jobs.
use Rattle.std.proofs.Common.{◌≡◌, ◌≢◌, ℕ, ◌+◌, ◌/◌, ◌%◌, ◌^◌, ◌<◌, ◌≤◌, Option, Some, None, List, [], ◌∷◌, length, get_or, map, All, AllPairs, refl, sym, ap, ◌∙◌, arith, length-append, decimal, codes}
use Rattle.std.specs.List.{range_with_len}
use Rattle.std.proofs.lemmas.Fmt.{length-decimal-le}
use Rattle.std.proofs.lemmas.List.{get_or-map, length-map, length-replicate}
use Rattle.std.proofs.lemmas.List.Elements.{All-cons, All-nil}
use Rattle.std.proofs.lemmas.List.FromFn.{get_or-map-range_with_len, length-map-range_with_len}
use Rattle.cov_base.specs.Lists.{Differ}
use Rattle.cov_base.specs.Meaning.{ImageView, padded}
use Rattle.module_area.specs.Images.{IsImage, AreClear}
use Rattle.session_book.specs.Meaning.{TaskView, SessionView, JobView}
use Rattle.session_book.specs.declared.services.Service.{Service}
use Rattle.session_book.specs.JobView.{IsJob, IsTask, IsSession, IsListing, AreParted, HasController}
use Rattle.job_gen.specs.declared.instruction.Instruction.{Instruction}
use Rattle.job_gen.specs.declared.instruction.Operation.{Operation}
use Rattle.job_gen.specs.declared.instruction.Operation.TheVariants.{La, Ar, Ltr, Bc, Lcr, St, Bct, Br}
use Rattle.job_gen.specs.Meaning.{object, code_from, name_of, groups, object_text, number_text, plain_line, statement_lines, heading, made_listing, task_name, trial_task, trial_session, trial_code, trial_module, trial_job}
use Rattle.job_gen.proofs.CodeLemmas.{code_size, code_some}
use Rattle.job_gen.proofs.LineLemmas.{second_group}

short_name : (o : Operation) → length (name_of o) ≤ 3
short_name La = omega arith
short_name Ar = omega arith
short_name Ltr = omega arith
short_name Bc = omega arith
short_name Lcr = omega arith
short_name St = omega arith
short_name Bct = omega arith
short_name Br = omega arith

short_second : (half : Option ℕ) → length (second_group half) ≤ 5
short_second None = omega arith
short_second (Some half) = omega arith

short_groups : (i : Instruction) → length (groups i) ≤ 27
unfolding groups
short_groups i = let k = short_second i.second in omega arith

short_object : (i : Instruction) → length (object_text i) ≤ 27
unfolding object_text
short_object i = let k = short_groups i in rw (length-append, length-replicate) (omega arith)

short_number : (n : ℕ) → n < 2 ^ 32 → length (number_text n) ≤ 15
unfolding number_text
short_number n h = let k : length (decimal n) ≤ 10 = length-decimal-le 10 n (omega arith) (omega arith) (omega arith) in rw (length-append, length-replicate) (omega arith)

pub short_line : (at n : ℕ) (i : Instruction) → n < 2 ^ 32 → length (plain_line at n i) ≤ 150
unfolding plain_line
short_line at n i h =
    let a = short_object i in
    let b = short_number n h in
    let c = short_name i.operation in
    simp length-append (omega arith)

short_lines : (is : List Instruction) (at n : ℕ) → n + length is ≤ 2 ^ 32 → All (λ l. length l ≤ 150) (statement_lines at n is)
short_lines [] at n h = All-nil _
short_lines (i ∷ is) at n h = All-cons (λ l. length l ≤ 150) (plain_line at n i) (statement_lines (at + length (object i)) (n + 1) is) (short_line at n i (omega arith)) (short_lines is (at + length (object i)) (n + 1) (omega arith))

short_listing : (code : List Instruction) → length code ≤ 2000 → All (λ l. length l ≤ 150) (made_listing code)
unfolding made_listing
short_listing code h = All-cons (λ l. length l ≤ 150) heading (statement_lines 0 1 code) (omega arith) (short_lines code 0 1 (omega arith))

same_number : (k l : ℕ) → task_name k ≡ task_name l → k ≡ l
same_number k l e =
    let tens : 48 + k / 10 ≡ 48 + l / 10 = ap (λ xs. get_or xs 1 0) e in
    let units : 48 + k % 10 ≡ 48 + l % 10 = ap (λ xs. get_or xs 2 0) e in
    omega arith

task_is : (k : ℕ) → IsTask 1 (trial_task k)
unfolding trial_task
task_is k = record { phase = omega arith; entry = omega arith; private = omega arith; some = omega arith; budget = omega arith; room = omega arith; regs = refl; cards = All-nil _ }

name_is : (k : ℕ) → (trial_task k).name ≡ task_name k
unfolding trial_task
name_is k = refl

tasks_are : (n : ℕ) → All (IsTask 1) (map trial_task (range_with_len 1 n))
tasks_are n i d h =
    let within : i < n = omega (arith, length-map-range_with_len trial_task 1 n) in
    rw (get_or-map-range_with_len trial_task 1 n i (1 + i) d within refl) (task_is (1 + i))

name_at : (n k : ℕ) (d : List ℕ) → k < n → get_or (map (λ (t : TaskView). t.name) (map trial_task (range_with_len 1 n))) k d ≡ task_name (1 + k)
name_at n k d h =
    let tasks = map trial_task (range_with_len 1 n) in
    get_or-map (λ (t : TaskView). t.name) tasks k (trial_task 0) d (omega (arith, length-map-range_with_len trial_task 1 n))
    ∙ (ap (λ (t : TaskView). t.name) (get_or-map-range_with_len trial_task 1 n k (1 + k) (trial_task 0) h refl) ∙ name_is (1 + k))

names_differ : (n : ℕ) → Differ (map (λ (t : TaskView). t.name) (map trial_task (range_with_len 1 n)))
names_differ n i j d before h =
    let tasks = map trial_task (range_with_len 1 n) in
    let size : length tasks ≡ n = length-map-range_with_len trial_task 1 n in
    let names : length (map (λ (t : TaskView). t.name) tasks) ≡ length tasks = length-map tasks (λ (t : TaskView). t.name) in
    let first = name_at n i d (omega arith) in
    let second = name_at n j d (omega arith) in
    λ e. absurd (omega (arith, same_number (1 + i) (1 + j) (sym first ∙ (e ∙ second))))

trial_code_is : (number : ℕ) → trial_code number ≡ code_from 400 number 0
unfolding trial_code
trial_code_is number = refl

trial_code_most : (number : ℕ) → length (trial_code number) ≤ 2000
trial_code_most number = let k = (code_size 400 number 0).most in rw trial_code_is (omega arith)

module_is : (number : ℕ) → IsImage (trial_module number)
module_is number =
    let size = code_size 400 number 0 in
    let even = size.even in
    let fits = size.fits in
    let some = code_some 400 number 0 in
    rw trial_code_is (record { doubleword = refl; from = omega arith; even = even; some = some; to = omega arith })

-- the most bytes are 400 blocks of 8, and 6
pub trial_module_size : (number : ℕ) → length (trial_module number).bytes ≤ 3206
trial_module_size number = let k = (code_size 400 number 0).fits in rw trial_code_is (omega arith)

module_fits : (number : ℕ) → length (trial_module number).bytes ≤ 262144
module_fits number = let k = trial_module_size number in omega arith

one : {X : Type 0} (P : X → Type 0) (x : X) → P x → All P (x ∷ [])
one P x p = All-cons P x [] p (All-nil P)

alone : {X : Type 0} (R : X → X → Type 0) (x : X) → AllPairs R (x ∷ [])
alone R x i j d before h = absurd (omega arith)

pub trial_is_job : (number tasks : ℕ) → tasks ≤ 64 → IsJob (trial_job number tasks)
unfolding trial_job
trial_is_job number tasks most = record {
  listings = refl;
  images = record { each = one IsImage (trial_module number) (module_is number); apart = alone AreClear (trial_module number) };
  sizes = one (λ (i : ImageView). length i.bytes ≤ 262144) (trial_module number) (module_fits number);
  modules = omega arith;
  lines = one IsListing (Some (made_listing (trial_code number))) (short_listing (trial_code number) (trial_code_most number));
  phases = omega arith;
  sessions = omega arith;
  tasks = omega (arith, length-map-range_with_len trial_task 1 tasks);
  are_sessions = one (IsSession 1 1) trial_session (record { phase = omega arith; some = omega arith; modules = one (λ m. m < 1) 0 (omega arith); differ = alone (λ m n. m ≢ n) 0 });
  parted = alone AreParted trial_session;
  controllers = one (HasController (map trial_task (range_with_len 1 tasks))) trial_session tt;
  are_tasks = tasks_are tasks;
  module_names = alone (λ a b. a ≢ b) (trial_module number).name;
  phase_names = alone (λ a b. a ≢ b) (padded (codes "P"));
  session_names = alone (λ a b. a ≢ b) trial_session.name;
  task_names = names_differ tasks;
}

-- a job of these cards, which is the generated one where each kind of them is
abbrev pub job_with : List ImageView → List (Option (List (List ℕ))) → List Service → List (List ℕ) → List SessionView → List TaskView → JobView
job_with images listings services phases sessions tasks = record { images = images; listings = listings; services = services; phases = phases; sessions = sessions; tasks = tasks }

pub trial_made : (number count : ℕ) (images : List ImageView) (listings : List (Option (List (List ℕ)))) (services : List Service) (phases : List (List ℕ)) (sessions : List SessionView) (tasks : List TaskView) →
    images ≡ trial_module number ∷ [] → listings ≡ Some (made_listing (trial_code number)) ∷ [] → services ≡ [] → phases ≡ padded (codes "P") ∷ [] → sessions ≡ trial_session ∷ [] → tasks ≡ map trial_task (range_with_len 1 count) →
    job_with images listings services phases sessions tasks ≡ trial_job number count
unfolding trial_job
trial_made number count images listings services phases sessions tasks a b c d e f = rw (a, b, c, d, e, f) refl
