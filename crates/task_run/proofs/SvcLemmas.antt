-- A step that ends a task BadSvc has read its first halfword, and leaves all but the count.
use Rattle.std.proofs.Common.{◌≡◌, ℕ, ◌%◌, Bool, true, false, if◌then◌else◌, ◌==◌, nat_le, Option, Some, None, List, [], ◌∷◌, ◌++◌, refl, sym, ◌∙◌, ap, subst}
use Rattle.std.proofs.lemmas.Bool.{cond_both, both_ways}
use Rattle.cov_base.specs.Meaning.{length_of, Memory, can_reach, half_at, IoView, Machine, State}
use Rattle.s370_state.specs.Meaning.{Outcome, Completes, Overflows, Program, Row, Use, after_tests, all_reached, all_stored, finish, is_enabled, next_after, operate, perform, reg, stores, reads, tests, touch_ending, touched, use_tests, bytes_free}
use Rattle.s370_state.specs.declared.endings.Ending.{Ending}
use Rattle.s370_state.specs.declared.endings.Ending.TheVariants.{Exit, Abend, BadSvc, OutFull}
use Rattle.s370_state.specs.declared.endings.Next.{Next}
use Rattle.s370_state.specs.declared.endings.Next.TheVariants.{On, Ended}
use Rattle.s370_decode.specs.Meaning.{ex, first_half, i2, op_of}
use Rattle.s370_decode.specs.declared.code.Code.{Code}
use Rattle.s370_decode.specs.declared.op.Op.{Op}
use Rattle.s370_exec.specs.Meaning.{Effect, at_address, call, call_address, effect, ended_by, get_call, get_size, get_tested, is_completed, link_code, onward, onward_by, operand, put_call, put_tested, unchanged, updated, code_at, first_tests, is_execute, merged, rest_tests, subject_tests, Step, begun_step, behind, fetched, from_first, solo_step, stepped, subject_fetched, subject_step, visit}
use Rattle.s370_exec.proofs.Laws.{of_effect}
use Rattle.brk_table.specs.Meaning.{TablesView}
use Rattle.task_run.specs.Hooks.{IsBehind, Way}
use Rattle.task_run.specs.Steps.{memory_at, stands}
use Rattle.task_run.specs.declared.bench.Bench.{Bench}
use Rattle.task_run.specs.declared.observer.Observer as observer

abbrev is_bad : Ending → Bool
is_bad (BadSvc number) = true
is_bad e = false

abbrev ends_bad : Next → Bool
ends_bad On = false
ends_bad (Ended e) = is_bad e

-- of tests that give an ending or none
abbrev tests_bad : Option Ending → Bool
tests_bad None = false
tests_bad (Some e) = is_bad e

first_good : (m : Memory) (a : ℕ) → tests_bad (first_tests m a) ≡ false
first_good m a = cond_both (a % 2 == 1) (Some (Abend 6)) (if can_reach m a 2 then None else Some (Abend 5)) (λ (o : Option Ending). tests_bad o ≡ false)
    (λ e. refl) (λ e. cond_both (can_reach m a 2) None (Some (Abend 5)) (λ (o : Option Ending). tests_bad o ≡ false) (λ f. refl) (λ f. refl))

touch_good : (o : Option ℕ) → tests_bad (touch_ending o) ≡ false
touch_good None = refl
touch_good (Some a) = refl

uses_good : (m : Memory) (us : List Use) → tests_bad (use_tests m us) ≡ false
unfolding use_tests
uses_good m us = cond_both (all_reached m us) (if all_stored m us then touch_ending (touched m us) else Some (Abend 4)) (Some (Abend 5)) (λ (o : Option Ending). tests_bad o ≡ false)
    (λ e. cond_both (all_stored m us) (touch_ending (touched m us)) (Some (Abend 4)) (λ (o : Option Ending). tests_bad o ≡ false) (λ f. touch_good (touched m us)) (λ f. refl)) (λ e. refl)

tests_good : (m : Memory) (well : Bool) (us : List Use) → tests_bad (tests m well us) ≡ false
unfolding tests
tests_good m true us = uses_good m us
tests_good m false us = refl

overflow_good : (mask code : ℕ) → ends_bad (next_after mask code) ≡ false
unfolding next_after
overflow_good mask code = cond_both (code == 0) On (if is_enabled mask code then Ended (Abend code) else On) (λ (n : Next). ends_bad n ≡ false) (λ e. refl)
    (λ e. cond_both (is_enabled mask code) (Ended (Abend code)) On (λ (n : Next). ends_bad n ≡ false) (λ f. refl) (λ f. refl))

finish_good : (s : Machine) (o : Outcome) → ends_bad (finish s o).next ≡ false
finish_good s (Completes t) = refl
finish_good s (Overflows t code) = overflow_good s.cpu.mask code
finish_good s (Program code) = refl

after_good : (s : Machine) (o : Outcome) (t : Option Ending) → tests_bad t ≡ false → ends_bad (after_tests s o t).next ≡ false
after_good s o None h = finish_good s o
after_good s o (Some e) h = h

operate_good : (m : Memory) (s : Machine) (row : Option Row) → ends_bad (operate m s row).next ≡ false
unfolding perform
operate_good m s (Some row) = after_good s row.outcome (tests m row.well row.uses) (tests_good m row.well row.uses)
operate_good m s None = refl

completed_good : (next : ℕ) (io : IoView) (s : Machine) (e : Ending) (b : Bool) → is_bad e ≡ false → ends_bad (ended_by next io s e b).next ≡ false
completed_good next io s e true h = h
completed_good next io s e false h = h

onward_good : (next : ℕ) (io : IoView) (s : Machine) (n : Next) → ends_bad n ≡ false → ends_bad (onward_by next io s n).next ≡ false
onward_good next io s On h = refl
onward_good next io s (Ended e) h = completed_good next io s e (is_completed e) h

row_good : (m : Memory) (s : Machine) (io : IoView) (next : ℕ) (row : Option Row) → ends_bad (onward next io (operate m s row)).next ≡ false
row_good m s io next row = onward_good next io (operate m s row).machine (operate m s row).next (operate_good m s row)

put_good : (m : Memory) (s : Machine) (io : IoView) (next : ℕ) (t : Option Ending) → tests_bad t ≡ false → ends_bad (put_tested m s io next t).next ≡ false
put_good m s io next (Some e) h = h
put_good m s io next None h =
    cond_both (nat_le (reg s 0) (bytes_free io)) (unchanged (at_address s next) (record io { output = io.output ++ operand m s.bytes (call_address s) (reg s 0) }) On)
    (unchanged s io (Ended OutFull)) (λ (e : Effect). ends_bad e.next ≡ false) (λ f. refl) (λ f. refl)

get_good : (s : Machine) (io : IoView) (next n : ℕ) (t : Option Ending) → tests_bad t ≡ false → ends_bad (get_tested s io next n t).next ≡ false
get_good s io next n (Some e) h = h
get_good s io next n None h = refl

-- where it ends the task BadSvc it has changed nothing
abbrev KeepsMachine : Machine → Effect → Type 0
KeepsMachine s e = ends_bad e.next ≡ true → e.machine ≡ s

never : (s : Machine) (e : Effect) → ends_bad e.next ≡ false → KeepsMachine s e
never s e good bad = absurd (both_ways (ends_bad e.next) good bad)

put_stays : (m : Memory) (s : Machine) (io : IoView) (next : ℕ) → KeepsMachine s (put_call next m s io)
unfolding put_call
put_stays m s io next = never s (put_tested m s io next (use_tests m (reads (call_address s) (reg s 0) ∷ []))) (put_good m s io next (use_tests m (reads (call_address s) (reg s 0) ∷ [])) (uses_good m (reads (call_address s) (reg s 0) ∷ [])))

get_stays : (m : Memory) (s : Machine) (io : IoView) (next : ℕ) → KeepsMachine s (get_call next m s io)
unfolding get_call
get_stays m s io next = never s (get_tested s io next (get_size s io) (use_tests m (stores (call_address s) (get_size s io) ∷ []))) (get_good s io next (get_size s io) (use_tests m (stores (call_address s) (get_size s io) ∷ [])) (uses_good m (stores (call_address s) (get_size s io) ∷ [])))

call_stays : (m : Memory) (s : Machine) (io : IoView) (n next : ℕ) → KeepsMachine s (call n next m s io)
unfolding call
call_stays m s io n next = by_tests (n == 1) (n == 2) (n == 3) (n == 4) (n == 5)
  where
    by_tests : (a b c d e : Bool) → KeepsMachine s (if a then put_call next m s io else (if b then get_call next m s io else (if c then unchanged s io (Ended Exit) else
        (if d then unchanged (at_address s next) io On else (if e then unchanged (at_address s next) io On else unchanged s io (Ended (BadSvc n)))))))
    by_tests true b c d e = put_stays m s io next
    by_tests false true c d e = get_stays m s io next
    by_tests false false true d e = λ bad. refl
    by_tests false false false true e = λ bad. absurd cc
    by_tests false false false false true = λ bad. absurd cc
    by_tests false false false false false = λ bad. refl

row_stays : (m : Memory) (s : Machine) (io : IoView) (next : ℕ) (row : Option Row) → KeepsMachine s (onward next io (operate m s row))
row_stays m s io next row = never s (onward next io (operate m s row)) (row_good m s io next row)

effect_stays : (m : Memory) (s : Machine) (io : IoView) (c : Code) (op : Op) (next link : ℕ) → KeepsMachine s (effect m s io c op next link)
effect_stays m s io c op next link = of_effect (KeepsMachine s) m s io c op next link (λ cpu bad. absurd cc) (row_stays m s io next) (call_stays m s io (i2 c) next) (λ bad. refl)

-- and the step likewise
abbrev IsLeft : State → Step → Type 0
IsLeft s t = ends_bad t.next ≡ true → t.state.machine ≡ s.machine

first_left : (s : State) (o : Option Ending) (t : Step) → IsLeft s t → IsLeft s (from_first s o t)
first_left s (Some e) t h = λ bad. refl
first_left s None t h = h

subject_fetched_left : (m : Memory) (s : State) (c : Code) (a h : ℕ) (o : Option Ending) → IsLeft s (subject_fetched m s c a h o)
subject_fetched_left m s c a h (Some e) = λ bad. refl
subject_fetched_left m s c a h None =
    let d : Code = merged s.machine.cpu c (code_at m s.machine.bytes a h) in
    effect_stays m s.machine s.io d (op_of (first_half d)) (updated d (Some c.at)) (link_code d (Some c.at))

subject_left : (m : Memory) (s : State) (c : Code) → IsLeft s (subject_step m s c)
unfolding subject_step
subject_left m s c =
    let a : ℕ = ex s.machine.cpu c in
    let h : ℕ = half_at m s.machine.bytes a in
    first_left s (first_tests m a) (subject_fetched m s c a h (subject_tests m a h)) (subject_fetched_left m s c a h (subject_tests m a h))

begun_left : (m : Memory) (s : State) (c : Code) (h : ℕ) → IsLeft s (begun_step m s c h)
begun_left m s c h =
    cond_both (is_execute h) (behind (visit s c.at true false false) (subject_step m s c))
    (stepped s (effect m s.machine s.io c (op_of h) (updated c None) (link_code c None)) _)
    (IsLeft s) (λ e. subject_left m s c) (λ e. effect_stays m s.machine s.io c (op_of h) (updated c None) (link_code c None))

fetched_left : (m : Memory) (s : State) (a h : ℕ) (o : Option Ending) → IsLeft s (fetched m s a h o)
fetched_left m s a h (Some e) = λ bad. refl
fetched_left m s a h None = begun_left m s (code_at m s.machine.bytes a h) h

step_left : (m : Memory) (s : State) → IsLeft s (solo_step m s)
unfolding solo_step
step_left m s =
    let a : ℕ = s.machine.cpu.ia in
    let h : ℕ = half_at m s.machine.bytes a in
    first_left s (first_tests m a) (fetched m s a h (rest_tests m a (length_of h))) (fetched_left m s a h (rest_tests m a (length_of h)))

read_by : (s : State) (o : Option Ending) (t : Step) → tests_bad o ≡ false → ends_bad (from_first s o t).next ≡ true → o ≡ None
read_by s (Some e) t good bad = absurd (both_ways (is_bad e) good bad)
read_by s None t good bad = refl

-- its first halfword has been read
step_read : (m : Memory) (s : State) → ends_bad (solo_step m s).next ≡ true → first_tests m s.machine.cpu.ia ≡ None
unfolding solo_step
step_read m s bad =
    let a : ℕ = s.machine.cpu.ia in
    let h : ℕ = half_at m s.machine.bytes a in
    read_by s (first_tests m a) (fetched m s a h (rest_tests m a (length_of h))) (first_good m a) bad

bad_svc-read : (m : Memory) (s : State) (number : ℕ) → (solo_step m s).next ≡ Ended (BadSvc number) → first_tests m (solo_step m s).state.machine.cpu.ia ≡ None
bad_svc-read m s number e =
    let bad : ends_bad (solo_step m s).next ≡ true = ap ends_bad e in
    let same : s.machine.cpu.ia ≡ (solo_step m s).state.machine.cpu.ia = sym (ap (λ (x : Machine). x.cpu.ia) (step_left m s bad)) in
    subst (λ (a : ℕ). first_tests m a ≡ None) same (step_read m s bad)

-- so where a hook is asked behind it
pub bad_svc-behind : {H O P : Type 0} {way : Way H O P} {by : observer.Ghosts O P} {h : H} {o : O} {t : TablesView} {q : P} {new : Bench} {done : ℕ} {next : Next} (number : ℕ) →
    IsBehind way by h o t q new done next → next ≡ Ended (BadSvc number) → first_tests (memory_at new) new.cpu.ia ≡ None
bad_svc-behind number b bad =
    let m = memory_at b.bench in
    let s = stands b.bench b.before in
    rw (b.steps.memory, sym (ap (λ (t : State). t.machine.cpu.ia) b.steps.does.state)) (bad_svc-read m s number (b.steps.does.next ∙ bad))
