-- A visit whose breakpoint is to be marked is begun.
use Rattle.std.proofs.Common.{◌≡◌, inl, inr, ℕ, ◌<◌, Bool, true, false, not, if◌then◌else◌, Option, Some, None, List, [], ◌∷◌, length, get_or, refl, sym, ◌∙◌, ap, subst, arith}
use Rattle.std.specs.Option.{option_or}
use Rattle.cov_base.specs.Meaning.{length_of, Memory, half_at, State, Visit}
use Rattle.s370_state.specs.declared.endings.Ending.{Ending}
use Rattle.s370_state.specs.declared.endings.Ending.TheVariants.{Abend}
use Rattle.s370_decode.specs.Meaning.{first_half, ex, op_of}
use Rattle.s370_decode.specs.declared.code.Code.{Code}
use Rattle.s370_branch.specs.Meaning.{goes}
use Rattle.s370_exec.specs.Meaning.{Effect, effect, updated, link_code, first_tests, rest_tests, subject_tests, is_execute, code_at, merged, Step, solo_step, ended, visit, subject_step, no_visit}
use Rattle.s370_exec.specs.Fetch.{whole_tests}
use Rattle.module_area.specs.Meaning.{place_of, no_place, original_at}
use Rattle.module_area.specs.declared.places.Place.{Place}
use Rattle.brk_table.specs.Places.{IsPlace}
use Rattle.space_map.proofs.Laws.{later_reached, later_untouched}
use Rattle.s370_exec.proofs.Laws.{solo_step-unread, solo_step-read, solo_step-ex, subject_step-refused, subject_step-unread}
use Rattle.s370_exec.proofs.Laws.{subject_step-begun, rest_none}
use Rattle.session_book.specs.Meaning.{task_of}
use Rattle.interleave_core.specs.Meaning.{World, TaskPart, memory_in, plan_in, place_at, step_of, subject_place}
use Rattle.interleave_core.specs.World.{IsWorld}
use Rattle.interleave_core.proofs.Logs.{found_at, at_place}

rest_pass : (w : World) (t k : ℕ) → IsWorld w → k < length w.places → rest_tests (memory_in w t) (place_of w.places k).at (length_of (place_of w.places k).original) ≡ None
rest_pass w t k world lt =
    let p : Place = place_of w.places k in
    let is : IsPlace p = world.places.each k no_place lt in
    rest_none (memory_in w t) p.at p.original p.len is.size
    (λ i from to. later_reached (task_of w.job t).private w.job.images w.places p i is (world.inside k no_place lt) to)
    (λ i from to. later_untouched (task_of w.job t).private w.job.images w.places k i world.places lt from to)

half_here : (w : World) (t k : ℕ) (bytes : List ℕ) → IsWorld w → t < length w.job.tasks → k < length w.places → half_at (memory_in w t) bytes (place_of w.places k).at ≡ (place_of w.places k).original
half_here w t k bytes world there lt = (world.seen t there k lt).original bytes

-- an instruction at a place is read whole
pub rest_read : (w : World) (t a p : ℕ) (bytes : List ℕ) → IsWorld w → t < length w.job.tasks → place_at w a ≡ Some p → rest_tests (memory_in w t) a (length_of (half_at (memory_in w t) bytes a)) ≡ None
unfolding place_at
rest_read w t a p bytes world there h =
    let k = found_at 0 a p w.places h in
    subst (λ (b : ℕ). rest_tests (memory_in w t) b (length_of (half_at (memory_in w t) bytes b)) ≡ None) k.2
    (ap (rest_tests (memory_in w t) (place_of w.places k.0).at) (ap length_of (half_here w t k.0 bytes world there k.1)) ∙ rest_pass w t k.0 world k.1)

pub half_of_place : (w : World) (t a p : ℕ) (bytes : List ℕ) → IsWorld w → t < length w.job.tasks → place_at w a ≡ Some p → half_at (memory_in w t) bytes a ≡ original_at (plan_in w) p
unfolding place_at
half_of_place w t a p bytes world there h =
    let k = found_at 0 a p w.places h in
    let number : k.0 ≡ p = omega (arith, k.3) in
    ap (half_at (memory_in w t) bytes) (sym k.2) ∙ (half_here w t k.0 bytes world there k.1 ∙ ap (λ (n : ℕ). (place_of w.places n).original) number)

first_pass : (w : World) (t a p : ℕ) → IsWorld w → t < length w.job.tasks → place_at w a ≡ Some p → first_tests (memory_in w t) a ≡ None
first_pass w t a p world there h = at_place w (memory_in w t) a p world.places (world.seen t there) h

both_pass : (a b : Option Ending) → a ≡ None → b ≡ None → option_or a b ≡ None
both_pass a b h k = rw (h, k) refl

whole_pass : (w : World) (t a p : ℕ) (bytes : List ℕ) → IsWorld w → t < length w.job.tasks → place_at w a ≡ Some p → whole_tests (memory_in w t) bytes a ≡ None
whole_pass w t a p bytes world there h = both_pass _ _ (first_pass w t a p world there h) (rest_read w t a p bytes world there h)

begun_by : (m : Memory) (s : State) (c : Code) (b : Bool) → whole_tests m s.machine.bytes s.machine.cpu.ia ≡ None → c ≡ code_at m s.machine.bytes s.machine.cpu.ia (half_at m s.machine.bytes s.machine.cpu.ia) →
    is_execute (first_half c) ≡ b → (get_or (solo_step m s).visits 0 no_visit).begun ≡ true
begun_by m s c true tests code x = ap (λ (r : Step). (get_or r.visits 0 no_visit).begun) (solo_step-ex m s s.machine.cpu.ia c refl tests code x)
begun_by m s c false tests code x =
    ap (λ (r : Step). (get_or r.visits 0 no_visit).begun) (solo_step-read m s s.machine.cpu.ia c (effect m s.machine s.io c (op_of (first_half c)) (updated c None) (link_code c None)) refl tests code x refl)

pub begun_instruction : (w : World) (t p : ℕ) (u : TaskPart) → IsWorld w → t < length w.job.tasks → place_at w u.state.machine.cpu.ia ≡ Some p → (get_or (step_of w t u).visits 0 no_visit).begun ≡ true
begun_instruction w t p u world there h =
    let m : Memory = memory_in w t in
    begun_by m u.state (code_at m u.state.machine.bytes u.state.machine.cpu.ia (half_at m u.state.machine.bytes u.state.machine.cpu.ia)) _ (whole_pass w t u.state.machine.cpu.ia p u.state.machine.bytes world there h) refl refl

none_there : (A : Type 0) (p : ℕ) → None ≡ Some p → A
none_there A p h = absurd cc

abbrev pub SubjectBegun : World → ℕ → List Visit → Type 0
SubjectBegun w p visits = (get_or visits 1 no_visit).begun ≡ not (is_execute (original_at (plan_in w) p))

-- the subject's own visit, behind that of EX, is begun but where the subject is another EX
subject_first : (w : World) (t p : ℕ) (s : State) (c : Code) (v : Visit) (first : Option Ending) → IsWorld w → t < length w.job.tasks →
    first_tests (memory_in w t) (ex s.machine.cpu c) ≡ first → subject_place w (v ∷ (subject_step (memory_in w t) s c).visits) ≡ Some p → SubjectBegun w p (v ∷ (subject_step (memory_in w t) s c).visits)
subject_first w t p s c v (Some e) world there tests h =
    let step : subject_step (memory_in w t) s c ≡ ended s e [] = subject_step-refused (memory_in w t) s c (ex s.machine.cpu c) e refl tests in
    none_there _ p (subst (λ (r : Step). subject_place w (v ∷ r.visits) ≡ Some p) step h)
subject_first w t p s c v None world there tests h = read (ex s.machine.cpu c) (half_at (memory_in w t) s.machine.bytes (ex s.machine.cpu c)) refl refl tests (is_execute (half_at (memory_in w t) s.machine.bytes (ex s.machine.cpu c))) refl h
  where
    m : Memory
    m = memory_in w t

    by_step : (r : Step) (a half : ℕ) → subject_step m s c ≡ r → subject_place w (v ∷ r.visits) ≡ place_at w a → half ≡ half_at m s.machine.bytes a → (get_or (v ∷ r.visits) 1 no_visit).begun ≡ not (is_execute half) →
        subject_place w (v ∷ (subject_step m s c).visits) ≡ Some p → SubjectBegun w p (v ∷ (subject_step m s c).visits)
    by_step r a half step at is begun k =
        let found : place_at w a ≡ Some p = sym at ∙ subst (λ (x : Step). subject_place w (v ∷ x.visits) ≡ Some p) step k in
        let same : half ≡ original_at (plan_in w) p = is ∙ half_of_place w t a p s.machine.bytes world there found in
        subst (λ (x : Step). SubjectBegun w p (v ∷ x.visits)) (sym step) (begun ∙ ap (λ (n : ℕ). not (is_execute n)) same)

    by_execute : (a half : ℕ) (b : Bool) → is_execute half ≡ b → subject_tests m a half ≡ (if b then Some (Abend 3) else rest_tests m a (length_of half))
    by_execute a half b x = ap (λ (c : Bool). if c then Some (Abend 3) else rest_tests m a (length_of half)) x

    tested : (a half : ℕ) (rest : Option Ending) → a ≡ ex s.machine.cpu c → half ≡ half_at m s.machine.bytes a → first_tests m a ≡ None → is_execute half ≡ false → rest_tests m a (length_of half) ≡ rest →
        subject_place w (v ∷ (subject_step m s c).visits) ≡ Some p → SubjectBegun w p (v ∷ (subject_step m s c).visits)
    tested a half None is is_half pass other rest k =
        let x : Code = merged s.machine.cpu c (code_at m s.machine.bytes a half) in
        let e : Effect = effect m s.machine s.io x (op_of (first_half x)) (updated x (Some c.at)) (link_code x (Some c.at)) in
        by_step _ a half (subject_step-begun m s c a half x e is pass is_half (by_execute a half false other ∙ rest) refl refl) refl is_half (ap not (sym other)) k
    tested a half (Some e) is is_half pass other rest k =
        let step : subject_step m s c ≡ ended s e (visit s a false false true ∷ []) = subject_step-unread m s c a half e is pass is_half (by_execute a half false other ∙ rest) in
        let found : place_at w a ≡ Some p = subst (λ (r : Step). subject_place w (v ∷ r.visits) ≡ Some p) step k in
        let fine : rest_tests m a (length_of half) ≡ None = ap (λ (n : ℕ). rest_tests m a (length_of n)) is_half ∙ rest_read w t a p s.machine.bytes world there found in
        let no : Some e ≡ None = sym rest ∙ fine in
        absurd cc

    read : (a half : ℕ) → a ≡ ex s.machine.cpu c → half ≡ half_at m s.machine.bytes a → first_tests m a ≡ None → (b : Bool) → is_execute half ≡ b → subject_place w (v ∷ (subject_step m s c).visits) ≡ Some p →
        SubjectBegun w p (v ∷ (subject_step m s c).visits)
    read a half is is_half pass true execute k = by_step _ a half (subject_step-unread m s c a half (Abend 3) is pass is_half (by_execute a half true execute)) refl is_half (ap not (sym execute)) k
    read a half is is_half pass false other k = tested a half (rest_tests m a (length_of half)) is is_half pass other refl k

-- an instruction that visits a subject at all is an EX that was read whole
subject_by : (w : World) (t p : ℕ) (s : State) (tests : Option Ending) → IsWorld w → t < length w.job.tasks →
    whole_tests (memory_in w t) s.machine.bytes s.machine.cpu.ia ≡ tests → subject_place w (solo_step (memory_in w t) s).visits ≡ Some p → SubjectBegun w p (solo_step (memory_in w t) s).visits
subject_by w t p s (Some e) world there tests h = elim (solo_step-unread (memory_in w t) s s.machine.cpu.ia e refl tests) [
  | inl none ↦ none_there _ p (subst (λ (r : Step). subject_place w r.visits ≡ Some p) none h)
  | inr one ↦ none_there _ p (subst (λ (r : Step). subject_place w r.visits ≡ Some p) one h)
]
subject_by w t p s None world there tests h = by (code_at m s.machine.bytes s.machine.cpu.ia (half_at m s.machine.bytes s.machine.cpu.ia)) (is_execute (first_half (code_at m s.machine.bytes s.machine.cpu.ia (half_at m s.machine.bytes s.machine.cpu.ia)))) refl refl
  where
    m : Memory
    m = memory_in w t

    by : (c : Code) (b : Bool) → c ≡ code_at m s.machine.bytes s.machine.cpu.ia (half_at m s.machine.bytes s.machine.cpu.ia) → is_execute (first_half c) ≡ b → SubjectBegun w p (solo_step m s).visits
    by c true code x =
        let step = solo_step-ex m s s.machine.cpu.ia c refl tests code x in
        subst (λ (r : Step). SubjectBegun w p r.visits) (sym step) (subject_first w t p s c (visit s s.machine.cpu.ia true (goes (op_of (first_half c)) s.machine.cpu c) false) (first_tests m (ex s.machine.cpu c)) world there refl (subst (λ (r : Step). subject_place w r.visits ≡ Some p) step h))
    by c false code x =
        let step = solo_step-read m s s.machine.cpu.ia c (effect m s.machine s.io c (op_of (first_half c)) (updated c None) (link_code c None)) refl tests code x refl in
        none_there _ p (subst (λ (r : Step). subject_place w r.visits ≡ Some p) step h)

pub begun_subject : (w : World) (t p : ℕ) (u : TaskPart) → IsWorld w → t < length w.job.tasks → subject_place w (step_of w t u).visits ≡ Some p → SubjectBegun w p (step_of w t u).visits
begun_subject w t p u world there h = subject_by w t p u.state _ world there refl h
