-- The solo step by the tests of its halfwords.
use Rattle.std.proofs.Common.{◌≡◌, ◌⊎◌, inl, inr, ℕ, Bool, true, false, Option, Some, None, [], ◌∷◌, refl, sym, ◌∙◌, ap}
use Rattle.std.specs.Option.{option_or}
use Rattle.cov_base.specs.Meaning.{length_of, Memory, half_at, State}
use Rattle.s370_state.specs.declared.endings.Ending.{Ending}
use Rattle.s370_decode.specs.Meaning.{first_half, ex, op_of}
use Rattle.s370_decode.specs.declared.code.Code.{Code}
use Rattle.s370_branch.specs.Meaning.{goes}
use Rattle.s370_exec.specs.Meaning.{Effect, effect, updated, link_code, first_tests, rest_tests, subject_tests, code_at, is_execute, merged, solo_step, from_first, fetched, ended, stepped, begun_step, visit, subject_step, subject_fetched, subject_begun, behind, visit_of}
use Rattle.s370_exec.specs.Fetch.{whole_tests}
use Rattle.s370_exec.specs.Solo.{subject_seen}
use Rattle.s370_exec.proofs.Subjects.{first_half-code_at, at-code_at, at-merged, execute_stays, execute-code_at}

-- the first halfword is refused
pub solo_step-refused : (m : Memory) (s : State) (a : ℕ) (e : Ending) → a ≡ s.machine.cpu.ia → first_tests m a ≡ Some e → solo_step m s ≡ ended s e []
unfolding solo_step
solo_step-refused m s a e at h =
    let ia : ℕ = s.machine.cpu.ia in
    let there : first_tests m ia ≡ Some e = rw at at h in
    ap (λ o. from_first s o (fetched m s ia (half_at m s.machine.bytes ia) (rest_tests m ia (length_of (half_at m s.machine.bytes ia))))) there

-- it is read
solo_step-fetched : (m : Memory) (s : State) (h : ℕ) (rest : Option Ending) → first_tests m s.machine.cpu.ia ≡ None →
    h ≡ half_at m s.machine.bytes s.machine.cpu.ia → rest_tests m s.machine.cpu.ia (length_of h) ≡ rest → solo_step m s ≡ fetched m s s.machine.cpu.ia h rest
unfolding solo_step
solo_step-fetched m s h rest none half tests =
    let ia : ℕ = s.machine.cpu.ia in
    rw (← tests, half) (ap (λ o. from_first s o (fetched m s ia (half_at m s.machine.bytes ia) (rest_tests m ia (length_of (half_at m s.machine.bytes ia))))) none)

-- a later halfword is refused
pub solo_step-rest_refused : (m : Memory) (s : State) (a h : ℕ) (e : Ending) → a ≡ s.machine.cpu.ia → first_tests m a ≡ None → h ≡ half_at m s.machine.bytes a →
    rest_tests m a (length_of h) ≡ Some e → solo_step m s ≡ ended s e (visit s a false false false ∷ [])
solo_step-rest_refused m s a h e at none half tests =
    let none_there : first_tests m s.machine.cpu.ia ≡ None = rw at at none in
    let half_there : h ≡ half_at m s.machine.bytes s.machine.cpu.ia = rw at at half in
    let tests_there : rest_tests m s.machine.cpu.ia (length_of h) ≡ Some e = rw at at tests in
    rw at (solo_step-fetched m s h (Some e) none_there half_there tests_there)

-- an instruction's halfwords are read
begun_at : (m : Memory) (s : State) (a h : ℕ) (c : Code) → a ≡ s.machine.cpu.ia → first_tests m a ≡ None →
    h ≡ half_at m s.machine.bytes a → rest_tests m a (length_of h) ≡ None → c ≡ code_at m s.machine.bytes a h → solo_step m s ≡ begun_step m s c h
begun_at m s a h c at none half tests code =
    let none_there : first_tests m s.machine.cpu.ia ≡ None = rw at at none in
    let half_there : h ≡ half_at m s.machine.bytes s.machine.cpu.ia = rw at at half in
    let tests_there : rest_tests m s.machine.cpu.ia (length_of h) ≡ None = rw at at tests in
    let same : code_at m s.machine.bytes s.machine.cpu.ia h ≡ c = rw (← at) (sym code) in
    rw (← same) (solo_step-fetched m s h None none_there half_there tests_there)

-- it is no EX
pub solo_step-begun : (m : Memory) (s : State) (a h : ℕ) (c : Code) (e : Effect) → a ≡ s.machine.cpu.ia → first_tests m a ≡ None →
    h ≡ half_at m s.machine.bytes a → rest_tests m a (length_of h) ≡ None → c ≡ code_at m s.machine.bytes a h → is_execute h ≡ false →
    e ≡ effect m s.machine s.io c (op_of (first_half c)) (updated c None) (link_code c None) →
    solo_step m s ≡ stepped s e (visit s a true (goes (op_of (first_half c)) s.machine.cpu c) false ∷ [])
solo_step-begun m s a h c e at none half tests code other made =
    let first : first_half c ≡ h = ap first_half code ∙ first_half-code_at m s.machine.bytes a h in
    let place : c.at ≡ a = ap (λ x. x.at) code ∙ at-code_at m s.machine.bytes a h in
    rw (made, first, ← place) (begun_at m s a h c at none half tests code ∙ rw other refl)

-- it is an EX
pub solo_step-execute : (m : Memory) (s : State) (a h : ℕ) (c : Code) → a ≡ s.machine.cpu.ia → first_tests m a ≡ None →
    h ≡ half_at m s.machine.bytes a → rest_tests m a (length_of h) ≡ None → c ≡ code_at m s.machine.bytes a h → is_execute h ≡ true →
    solo_step m s ≡ behind (visit s a true (goes (op_of (first_half c)) s.machine.cpu c) false) (subject_step m s c)
solo_step-execute m s a h c at none half tests code execute =
    let first : first_half c ≡ h = ap first_half code ∙ first_half-code_at m s.machine.bytes a h in
    let place : c.at ≡ a = ap (λ x. x.at) code ∙ at-code_at m s.machine.bytes a h in
    rw (first, execute_stays h s.machine.cpu c execute, ← place) (begun_at m s a h c at none half tests code ∙ rw execute refl)

-- the first halfword of an EX's subject is refused
pub subject_step-refused : (m : Memory) (s : State) (c : Code) (a : ℕ) (e : Ending) → a ≡ ex s.machine.cpu c → first_tests m a ≡ Some e → subject_step m s c ≡ ended s e []
unfolding subject_step
subject_step-refused m s c a e at h =
    let b : ℕ = ex s.machine.cpu c in
    let there : first_tests m b ≡ Some e = rw at at h in
    ap (λ o. from_first s o (subject_fetched m s c b (half_at m s.machine.bytes b) (subject_tests m b (half_at m s.machine.bytes b)))) there

-- it is read
subject_step-read : (m : Memory) (s : State) (c : Code) (a h : ℕ) (rest : Option Ending) → a ≡ ex s.machine.cpu c → first_tests m a ≡ None → h ≡ half_at m s.machine.bytes a →
    subject_tests m a h ≡ rest → subject_step m s c ≡ subject_fetched m s c a h rest
unfolding subject_step
subject_step-read m s c a h rest at none half tests =
    let b : ℕ = ex s.machine.cpu c in
    let there : first_tests m b ≡ None = rw at at none in
    rw (← tests, half, at) (ap (λ o. from_first s o (subject_fetched m s c b (half_at m s.machine.bytes b) (subject_tests m b (half_at m s.machine.bytes b)))) there)

-- the subject is another EX, or one of its later halfwords is refused
pub subject_step-unread : (m : Memory) (s : State) (c : Code) (a h : ℕ) (e : Ending) → a ≡ ex s.machine.cpu c → first_tests m a ≡ None → h ≡ half_at m s.machine.bytes a →
    subject_tests m a h ≡ Some e → subject_step m s c ≡ ended s e (visit s a false false true ∷ [])
subject_step-unread m s c a h e at none half tests = subject_step-read m s c a h (Some e) at none half tests

-- the subject is begun as EX executes it
pub subject_step-begun : (m : Memory) (s : State) (c : Code) (a h : ℕ) (x : Code) (e : Effect) → a ≡ ex s.machine.cpu c → first_tests m a ≡ None →
    h ≡ half_at m s.machine.bytes a → subject_tests m a h ≡ None → x ≡ merged s.machine.cpu c (code_at m s.machine.bytes a h) →
    e ≡ effect m s.machine s.io x (op_of (first_half x)) (updated x (Some c.at)) (link_code x (Some c.at)) →
    subject_step m s c ≡ stepped s e (visit s a true (goes (op_of (first_half x)) s.machine.cpu x) true ∷ [])
subject_step-begun m s c a h x e at none half tests merges made =
    let place : x.at ≡ a = ap (λ y. y.at) merges ∙ (at-merged s.machine.cpu c (code_at m s.machine.bytes a h) ∙ at-code_at m s.machine.bytes a h) in
    let begun : subject_step m s c ≡ subject_begun m s c.at x = subject_step-read m s c a h None at none half tests ∙ rw merges refl in
    rw (made, ← place) begun

-- the step by whether its instruction is read whole

or_none-first : (p q : Option Ending) → option_or p q ≡ None → p ≡ None
or_none-first None q h = refl
or_none-first (Some e) q h = let k : Some e ≡ None = h in absurd cc

or_none-rest : (p q : Option Ending) → option_or p q ≡ None → q ≡ None
or_none-rest None q h = h
or_none-rest (Some e) q h = let k : Some e ≡ None = h in absurd cc

unread_by : (m : Memory) (s : State) (a : ℕ) (e : Ending) (first : Option Ending) → a ≡ s.machine.cpu.ia → first_tests m a ≡ first →
    option_or first (rest_tests m a (length_of (half_at m s.machine.bytes a))) ≡ Some e →
    (solo_step m s ≡ ended s e []) ⊎ (solo_step m s ≡ ended s e (visit s a false false false ∷ []))
unread_by m s a e (Some f) at h k = inl (solo_step-refused m s a e at (h ∙ k))
unread_by m s a e None at h k = inr (solo_step-rest_refused m s a (half_at m s.machine.bytes a) e at h refl k)

-- it isn't: the step ends, with no visit or one that isn't begun
pub solo_step-unread : (m : Memory) (s : State) (a : ℕ) (e : Ending) → a ≡ s.machine.cpu.ia → whole_tests m s.machine.bytes a ≡ Some e →
    (solo_step m s ≡ ended s e []) ⊎ (solo_step m s ≡ ended s e (visit s a false false false ∷ []))
solo_step-unread m s a e at h = unread_by m s a e (first_tests m a) at refl h

pub unread-state : (m : Memory) (s : State) (a : ℕ) (e : Ending) → a ≡ s.machine.cpu.ia → whole_tests m s.machine.bytes a ≡ Some e →
    (solo_step m s).state ≡ (ended s e []).state
unread-state m s a e at h = elim (solo_step-unread m s a e at h) [ inl k ↦ ap (λ r. r.state) k | inr k ↦ ap (λ r. r.state) k ]

pub unread-next : (m : Memory) (s : State) (a : ℕ) (e : Ending) → a ≡ s.machine.cpu.ia → whole_tests m s.machine.bytes a ≡ Some e →
    (solo_step m s).next ≡ (ended s e []).next
unread-next m s a e at h = elim (solo_step-unread m s a e at h) [ inl k ↦ ap (λ r. r.next) k | inr k ↦ ap (λ r. r.next) k ]

pub unread-subject : (m : Memory) (s : State) (a : ℕ) (e : Ending) → a ≡ s.machine.cpu.ia → whole_tests m s.machine.bytes a ≡ Some e →
    subject_seen (solo_step m s).visits ≡ None
unread-subject m s a e at h = elim (solo_step-unread m s a e at h) [ inl k ↦ ap (λ r. subject_seen r.visits) k | inr k ↦ ap (λ r. subject_seen r.visits) k ]

pub unread-went : (m : Memory) (s : State) (a : ℕ) (e : Ending) → a ≡ s.machine.cpu.ia → whole_tests m s.machine.bytes a ≡ Some e →
    (visit_of (solo_step m s) false).went ≡ false
unread-went m s a e at h = elim (solo_step-unread m s a e at h) [ inl k ↦ ap (λ r. (visit_of r false).went) k | inr k ↦ ap (λ r. (visit_of r false).went) k ]

-- it is, and is no EX
pub solo_step-read : (m : Memory) (s : State) (a : ℕ) (c : Code) (e : Effect) → a ≡ s.machine.cpu.ia → whole_tests m s.machine.bytes a ≡ None →
    c ≡ code_at m s.machine.bytes a (half_at m s.machine.bytes a) → is_execute (first_half c) ≡ false →
    e ≡ effect m s.machine s.io c (op_of (first_half c)) (updated c None) (link_code c None) →
    solo_step m s ≡ stepped s e (visit s a true (goes (op_of (first_half c)) s.machine.cpu c) false ∷ [])
solo_step-read m s a c e at h code other made =
    solo_step-begun m s a (half_at m s.machine.bytes a) c e at (or_none-first _ _ h) refl (or_none-rest (first_tests m a) _ h) code (execute-code_at m s.machine.bytes a c false code other) made

-- it is, and is an EX
pub solo_step-ex : (m : Memory) (s : State) (a : ℕ) (c : Code) → a ≡ s.machine.cpu.ia → whole_tests m s.machine.bytes a ≡ None →
    c ≡ code_at m s.machine.bytes a (half_at m s.machine.bytes a) → is_execute (first_half c) ≡ true →
    solo_step m s ≡ behind (visit s a true (goes (op_of (first_half c)) s.machine.cpu c) false) (subject_step m s c)
solo_step-ex m s a c at h code execute =
    solo_step-execute m s a (half_at m s.machine.bytes a) c at (or_none-first _ _ h) refl (or_none-rest (first_tests m a) _ h) code (execute-code_at m s.machine.bytes a c true code execute)

went_by : (m : Memory) (s : State) (a : ℕ) (c : Code) (b : Bool) → a ≡ s.machine.cpu.ia → whole_tests m s.machine.bytes a ≡ None →
    c ≡ code_at m s.machine.bytes a (half_at m s.machine.bytes a) → is_execute (first_half c) ≡ b →
    (visit_of (solo_step m s) false).went ≡ goes (op_of (first_half c)) s.machine.cpu c
went_by m s a c true at h code x = ap (λ r. (visit_of r false).went) (solo_step-ex m s a c at h code x)
went_by m s a c false at h code x = ap (λ r. (visit_of r false).went) (solo_step-read m s a c (effect m s.machine s.io c (op_of (first_half c)) (updated c None) (link_code c None)) at h code x refl)

pub read-went : (m : Memory) (s : State) (a : ℕ) (c : Code) → a ≡ s.machine.cpu.ia → whole_tests m s.machine.bytes a ≡ None →
    c ≡ code_at m s.machine.bytes a (half_at m s.machine.bytes a) → (visit_of (solo_step m s) false).went ≡ goes (op_of (first_half c)) s.machine.cpu c
read-went m s a c at h code = went_by m s a c (is_execute (first_half c)) at h code refl

pub read-subject : (m : Memory) (s : State) (a : ℕ) (c : Code) → a ≡ s.machine.cpu.ia → whole_tests m s.machine.bytes a ≡ None →
    c ≡ code_at m s.machine.bytes a (half_at m s.machine.bytes a) → is_execute (first_half c) ≡ false → subject_seen (solo_step m s).visits ≡ None
read-subject m s a c at h code x =
    ap (λ r. subject_seen r.visits) (solo_step-read m s a c (effect m s.machine s.io c (op_of (first_half c)) (updated c None) (link_code c None)) at h code x refl)

pub ex-subject : (m : Memory) (s : State) (a : ℕ) (c : Code) → a ≡ s.machine.cpu.ia → whole_tests m s.machine.bytes a ≡ None →
    c ≡ code_at m s.machine.bytes a (half_at m s.machine.bytes a) → is_execute (first_half c) ≡ true →
    subject_seen (solo_step m s).visits ≡ subject_seen (visit s a true (goes (op_of (first_half c)) s.machine.cpu c) false ∷ (subject_step m s c).visits)
ex-subject m s a c at h code x = ap (λ r. subject_seen r.visits) (solo_step-ex m s a c at h code x)
