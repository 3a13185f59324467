-- The sets of a job's sessions.
use Rattle.std.proofs.Common.{◌≡◌, ℕ, ◌+◌, ◌-◌, ◌<◌, ◌≤◌, zero, suc, Bool, true, false, not, ◌&&◌, nat_eq, nat_lt, Option, Some, None, is_some, IsSome, List, [], ◌∷◌, ◌++◌, length, get_or, map, All, AllPairs, refl, sym, ◌∙◌, ap, subst, arith, zero-add}
use Rattle.std.specs.List.{list_any, flat_map}
use Rattle.std.proofs.lemmas.Bool.{and_parts, both_ways, eqb-true, ltb-true}
use Rattle.std.proofs.lemmas.Bool.Decides.{nat_tests}
use Rattle.std.proofs.lemmas.List.{get_or-map, length-map}
use Rattle.std.proofs.lemmas.List.Concat.{flat_map-cons}
use Rattle.std.proofs.lemmas.List.Elements.{All-get_or}
use Rattle.std.proofs.lemmas.Option.{same_Some}
use Rattle.cov_base.specs.Meaning.{FactSet, is_within, Visit}
use Rattle.cov_base.specs.declared.numbers.PlaceNo.{PlaceNo}
use Rattle.cov_base.proofs.Laws.{within_none}
use Rattle.module_area.specs.Meaning.{facts_at, FinalsView, set_at, PlanView, ControlledView, place_of, no_place, window_at}
use Rattle.module_area.specs.declared.places.Place.{Place}
use Rattle.task_run.proofs.Laws.{facts_of_all-one}
use Rattle.task_run.specs.Meaning.{Course, IsBetween}
use Rattle.session_book.specs.Meaning.{JobView, SessionView, session_of, no_session, is_whole, observes}
use Rattle.phase_plan.specs.Meaning.{window_from, window_of, plan_view, traces_from, places_from, with_controlled, controlled_from}
use Rattle.session_book.specs.JobView.{IsJob, IsSession, AreParted, is_same_controller}
use Rattle.job_run.specs.Meaning.{IsBounded, Account, joined, phase_trace, set_by, least_by, most_by, trace_by, walk_by, no_finals, set_left}
use Rattle.job_run.specs.Runs.{HasLeftBy}
use Rattle.job_run.specs.Sets.{SetsView, IsSized, set_in}
use Rattle.job_run.specs.Outcomes.{AreExtras, HasEnded, IsOutcomeBy}
use Rattle.job_run.specs.Slots.{dones, extras_of, HaveAllExtras}
use Rattle.job_run.specs.Tasks.{Ends, AreRun}
use Rattle.job_run.specs.declared.slots.Slot.{Slot}
use Rattle.job_run.specs.declared.outcome.Done.{Done}
use Rattle.job_run.proofs.PhaseLemmas.{AreaOf, left_at, left_count}
use Rattle.job_run.proofs.TaskLemmas.{all_ended, all_extras, no_slot}

-- sessions of one phase share no module
has_other : (m n : ℕ) (ns ms : List ℕ) → list_any (nat_eq m) (n ∷ ns) ≡ true → nat_eq m n ≡ false → list_any (nat_eq m) ns ≡ true
has_other m n ns ms h e = let q : list_any (nat_eq m) (n ∷ ns) ≡ list_any (nat_eq m) ns = rw e refl in sym q ∙ h

no_other : (m : ℕ) (ns ms : List ℕ) → list_any (nat_eq m) ns ≡ true → All (λ n. list_any (nat_eq n) ms ≡ false) ns → list_any (nat_eq m) ms ≡ false
no_other m [] ms h all = absurd cc
no_other m (n ∷ ns) ms h all = by_first m n ns ms (nat_eq m n) refl h all (no_other m ns ms)
  where
    by_first : (m n : ℕ) (ns ms : List ℕ) (q : Bool) → nat_eq m n ≡ q → list_any (nat_eq m) (n ∷ ns) ≡ true → All (λ k. list_any (nat_eq k) ms ≡ false) (n ∷ ns) →
        (list_any (nat_eq m) ns ≡ true → All (λ k. list_any (nat_eq k) ms ≡ false) ns → list_any (nat_eq m) ms ≡ false) → list_any (nat_eq m) ms ≡ false
    by_first m n ns ms true e h all rest = subst (λ (k : ℕ). list_any (nat_eq k) ms ≡ false) (sym (eqb-true m n e)) (all 0 0 (omega arith))
    by_first m n ns ms false e h all rest = rest (has_other m n ns ms h e) (λ k d l. all (suc k) d (omega arith))

apart_of : (a b : Option ℕ) → not (is_some a) ≡ true → is_same_controller a b ≡ false
apart_of None b e = refl
apart_of (Some t) b e = absurd cc

not_both : (phase m : ℕ) (s t : SessionView) → is_whole s ≡ true → AreParted s t → observes phase m s ≡ true → observes phase m t ≡ true → ⊥
not_both phase m s t whole parted h k =
    let first = and_parts (nat_eq s.phase phase) (list_any (nat_eq m) s.modules) h in
    let second = and_parts (nat_eq t.phase phase) (list_any (nat_eq m) t.modules) k in
    let same : s.phase ≡ t.phase = eqb-true s.phase phase first.0 ∙ sym (eqb-true t.phase phase second.0) in
    both_ways (list_any (nat_eq m) t.modules) (no_other m s.modules t.modules first.1 (parted same (apart_of s.by t.by whole))) second.1

-- a module that a whole session names is observed by it alone
later_is : (n : ℕ) (s : SessionView) (ss : List SessionView) (phase m k : ℕ) (q : Bool) → (is_whole s && observes phase m s) ≡ q → (q ≡ true → ⊥) → window_from (n + 1) ss phase m ≡ n + 1 + k →
    window_from n (s ∷ ss) phase m ≡ n + suc k
later_is n s ss phase m k true e never h = absurd (never refl)
later_is n s ss phase m k false e never h = let there : n + 1 + k ≡ n + suc k = omega arith in rw e (h ∙ there)

pub window_is : (n : ℕ) (ss : List SessionView) (phase m k : ℕ) → AllPairs AreParted ss → k < length ss → is_whole (get_or ss k no_session) ≡ true → observes phase m (get_or ss k no_session) ≡ true → window_from n ss phase m ≡ n + k
window_is n [] phase m k parted l whole h = absurd (omega arith)
window_is n (s ∷ ss) phase m zero parted l whole h = let same : n + 0 ≡ n = omega arith in rw (whole, h, same) refl
window_is n (s ∷ ss) phase m (suc k) parted l whole h =
    later_is n s ss phase m k (is_whole s && observes phase m s) refl
    (λ e. let first = and_parts (is_whole s) (observes phase m s) e in not_both phase m s (get_or ss k no_session) first.0 (parted 0 (suc k) no_session (omega arith) l) first.1 h)
    (window_is (n + 1) ss phase m k (λ i j d a b. parted (suc i) (suc j) d (omega arith) (omega arith)) (omega arith) whole h)

pub window_at-session : (j : JobView) (places : List Place) (s p : ℕ) → IsJob j → is_whole (session_of j s) ≡ true → 0 < s → s ≤ length j.sessions → p < length places →
    observes (session_of j s).phase (place_of places p).«module» (session_of j s) ≡ true → window_at (plan_view j places (session_of j s).phase) p ≡ s
window_at-session j places s p job whole some most l h =
    let k : 1 + (s - 1) ≡ s = omega arith in
    get_or-map (window_of j (session_of j s).phase) places p no_place 0 l
    ∙ (window_is 1 j.sessions (session_of j s).phase (place_of places p).«module» (s - 1) job.parted (omega arith) whole h ∙ k)

-- what holds of all controlled sessions of a phase holds of each, and at each place of it

row_with : (C : ControlledView → Type 0) (n : ℕ) (s : SessionView) (places : List Place) (cs : List ControlledView) (o : Option ℕ) → All C (with_controlled n s places o cs) → All C cs
row_with C n s places cs None all = all
row_with C n s places cs (Some t) all = λ k d l. all (suc k) d (omega arith)

rows_after : (C : ControlledView → Type 0) (n : ℕ) (s : SessionView) (ss : List SessionView) (places : List Place) (phase : ℕ) (q : Bool) → nat_eq s.phase phase ≡ q → All C (controlled_from n (s ∷ ss) places phase) →
    All C (controlled_from (n + 1) ss places phase)
rows_after C n s ss places phase true e all = row_with C n s places (controlled_from (n + 1) ss places phase) s.by (subst (All C) (rw e refl) all)
rows_after C n s ss places phase false e all = subst (All C) (rw e refl) all

abbrev row : ℕ → SessionView → List Place → ℕ → ControlledView
row n s places t = record { session = n; by = t; places = places_from 0 places s.modules }

first_row : (C : ControlledView → Type 0) (n t : ℕ) (s : SessionView) (ss : List SessionView) (places : List Place) (phase : ℕ) → nat_eq s.phase phase ≡ true → s.by ≡ Some t → All C (controlled_from n (s ∷ ss) places phase) →
    C (row n s places t)
first_row C n t s ss places phase of by all =
    let here : controlled_from n (s ∷ ss) places phase ≡ row n s places t ∷ controlled_from (n + 1) ss places phase = rw (of, by) refl in
    subst (All C) here all 0 (row n s places t) (omega arith)

row_of : (C : ControlledView → Type 0) (n k t : ℕ) (ss : List SessionView) (places : List Place) (phase : ℕ) → k < length ss → nat_eq (get_or ss k no_session).phase phase ≡ true → (get_or ss k no_session).by ≡ Some t →
    All C (controlled_from n ss places phase) → C (row (n + k) (get_or ss k no_session) places t)
row_of C n k t [] places phase l of by all = absurd (omega arith)
row_of C n zero t (s ∷ ss) places phase l of by all = let same : n + 0 ≡ n = omega arith in subst (λ (m : ℕ). C (row m s places t)) (sym same) (first_row C n t s ss places phase of by all)
row_of C n (suc k) t (s ∷ ss) places phase l of by all =
    let there : n + suc k ≡ n + 1 + k = omega arith in
    subst (λ (m : ℕ). C (row m (get_or ss k no_session) places t)) (sym there)
    (row_of C (n + 1) k t ss places phase (omega arith) of by (rows_after C n s ss places phase (nat_eq s.phase phase) refl all))

place_after : (Q : PlaceNo → Type 0) (n : ℕ) (x : Place) (xs : List Place) (modules : List ℕ) (q : Bool) → list_any (nat_eq x.«module») modules ≡ q → All Q (places_from n (x ∷ xs) modules) → All Q (places_from (n + 1) xs modules)
place_after Q n x xs modules true e all =
    let at : places_from n (x ∷ xs) modules ≡ record { 0 = n } ∷ places_from (n + 1) xs modules = rw e refl in
    λ k d l. subst (All Q) at all (suc k) d (omega arith)
place_after Q n x xs modules false e all = let at : places_from n (x ∷ xs) modules ≡ places_from (n + 1) xs modules = rw e refl in subst (All Q) at all

place_in : (Q : PlaceNo → Type 0) (n p : ℕ) (places : List Place) (modules : List ℕ) → p < length places → list_any (nat_eq (place_of places p).«module») modules ≡ true → All Q (places_from n places modules) → Q (record { 0 = n + p })
place_in Q n p [] modules l h all = absurd (omega arith)
place_in Q n zero (x ∷ xs) modules l h all =
    let same : n + 0 ≡ n = omega arith in
    let at : places_from n (x ∷ xs) modules ≡ record { 0 = n } ∷ places_from (n + 1) xs modules = rw h refl in
    subst (λ (m : ℕ). Q (record { 0 = m })) (sym same) (subst (All Q) at all 0 (record { 0 = n }) (omega arith))
place_in Q n (suc p) (x ∷ xs) modules l h all =
    let there : n + suc p ≡ n + 1 + p = omega arith in
    subst (λ (m : ℕ). Q (record { 0 = m })) (sym there) (place_in Q (n + 1) p xs modules (omega arith) h (place_after Q n x xs modules (list_any (nat_eq x.«module») modules) refl all))

-- several traces are as one
joined-flat : (traces : List (List Visit)) → joined traces ≡ flat_map (λ t. t) traces
joined-flat [] = refl
joined-flat (t ∷ ts) = ap (λ (vs : List Visit). t ++ vs) (joined-flat ts) ∙ sym (flat_map-cons (λ u. u) t ts)

pub set_by-trace : (run : Course) (j : JobView) (places : List Place) (s p : ℕ) → set_by run j places s p ≡ facts_at (place_of places p) (phase_trace run j places (session_of j s).phase)
set_by-trace run j places s p =
    let traces : List (List Visit) = traces_from 0 j.tasks (session_of j s).phase (trace_by run j places) in
    facts_of_all-one (place_of places p) traces ∙ ap (facts_at (place_of places p)) (sym (joined-flat traces))

is_session : (j : JobView) (s : ℕ) → IsJob j → 0 < s → s ≤ length j.sessions → IsSession (length j.images) (length j.phases) (session_of j s)
is_session j s job some most = All-get_or (IsSession (length j.images) (length j.phases)) j.sessions (s - 1) no_session (omega arith) job.are_sessions

-- the session's phase is one of the job
pub phase_in : (j : JobView) (s : ℕ) → IsJob j → 0 < s → s ≤ length j.sessions → (session_of j s).phase < length j.phases
phase_in j s job some most = (is_session j s job some most).phase

-- the sets of an area hold those of each session
pub sized : (run : Course) (j : JobView) (places : List Place) (phase : ℕ) (f : FinalsView) → AreaOf run j places phase f → IsSized j (length places) f
sized run j places phase f a = record { count = a.ends.places; sets = a.ends.size }

here_is : (v : SetsView) (s p : ℕ) → p < v.places → set_in v s p ≡ set_left v.job v.finals s p
here_is v s p l = let here : nat_lt p v.places ≡ true = grind (arith, nat_tests) in rw here refl

pub left_of : (run : Course) (j : JobView) (places : List Place) (before after : Account) (sets : List FinalsView) (v : SetsView) → HasLeftBy run j places before after sets →
    v ≡ record { job = j; places = length places; finals = sets } → HasLeftBy run j places before after v.finals
left_of run j places before after sets v l e = subst (λ (w : SetsView). HasLeftBy run j places before after w.finals) (sym e) l

-- the outcome's sets are those of the entries that `finals` has gained
pub set_is_left : (run : Course) (j : JobView) (places : List Place) (before after : Account) (v : SetsView) (s p : ℕ) (l : HasLeftBy run j places before after v.finals) → v.job ≡ j → v.places ≡ length places → p < length places →
    set_in v s p ≡ set_left j l.ran.sets s p
set_is_left run j places before after v s p l of size here =
    here_is v s p (omega (arith, here, size)) ∙ (ap (λ (i : JobView). set_left i v.finals s p) of ∙ ap (λ (fs : List FinalsView). set_left j fs s p) l.are)

-- by how the area of the session's phase was left
pub set_is : (run : Course) (j : JobView) (places : List Place) (v : SetsView) (s p : ℕ) → IsJob j → is_whole (session_of j s) ≡ true → v.job ≡ j → v.places ≡ length places →
    AreaOf run j places (session_of j s).phase (get_or v.finals (session_of j s).phase no_finals) → 0 < s → s ≤ length j.sessions → p < length places →
    observes (session_of j s).phase (place_of places p).«module» (session_of j s) ≡ true → set_in v s p ≡ set_by run j places s p
set_is run j places v s p job whole of size a some most l h =
    let f : FinalsView = get_or v.finals (session_of j s).phase no_finals in
    let w : window_at (plan_view j places (session_of j s).phase) p ≡ s = window_at-session j places s p job whole some most l h in
    let left : set_at f s p ≡ facts_at (place_of places p) (phase_trace run j places (session_of j s).phase) = rw w at (a.ends.sets p l (omega (arith, w, some))) in
    let of_job : set_at (get_or v.finals (session_of v.job s).phase no_finals) s p ≡ set_at f s p = ap (λ (i : JobView). set_at (get_or v.finals (session_of i s).phase no_finals) s p) of in
    here_is v s p (omega (arith, l, size)) ∙ (of_job ∙ (left ∙ sym (set_by-trace run j places s p)))

-- the set of a controlled session lies between its bounds
set_between : (course : Course) (j : JobView) (places : List Place) (v : SetsView) (s p by : ℕ) → v.job ≡ j → v.places ≡ length places →
    AreaOf course j places (session_of j s).phase (get_or v.finals (session_of j s).phase no_finals) → 0 < s → s ≤ length j.sessions → p < length places → (session_of j s).by ≡ Some by →
    observes (session_of j s).phase (place_of places p).«module» (session_of j s) ≡ true → IsBetween (least_by course j places by s p) (most_by course j places by s p) (set_in v s p)
set_between course j places v s p by of size a some most l its h =
    let phase : ℕ = (session_of j s).phase in
    let f : FinalsView = get_or v.finals phase no_finals in
    let plan : PlanView = plan_view j places phase in
    let parts = and_parts (nat_eq phase phase) (list_any (nat_eq (place_of places p).«module») (session_of j s).modules) h in
    let number : 1 + (s - 1) ≡ s = omega arith in
    let first : IsBounded plan (walk_by course j places) f (row (1 + (s - 1)) (session_of j s) places by) = row_of (IsBounded plan (walk_by course j places) f) 1 (s - 1) by j.sessions places phase (omega arith) parts.0 its a.ends.bounded in
    let at : IsBounded plan (walk_by course j places) f (row s (session_of j s) places by) = subst (λ (m : ℕ). IsBounded plan (walk_by course j places) f (row m (session_of j s) places by)) number first in
    let bounds : IsBetween (least_by course j places by s p) (most_by course j places by s p) (set_at f s p) =
    subst (λ (q : ℕ). IsBetween (least_by course j places by s q) (most_by course j places by s q) (set_at f s q)) (zero-add p)
    (place_in (λ q. IsBetween (least_by course j places by s q.0) (most_by course j places by s q.0) (set_at f s q.0)) 0 p places (session_of j s).modules l parts.1 at.between) in
    let of_job : set_at (get_or v.finals (session_of v.job s).phase no_finals) s p ≡ set_at f s p = ap (λ (i : JobView). set_at (get_or v.finals (session_of i s).phase no_finals) s p) of in
    subst (λ (x : FactSet). IsBetween (least_by course j places by s p) (most_by course j places by s p) x) (sym (here_is v s p (omega (arith, l, size)) ∙ of_job)) bounds

pub set_within : (run : Course) (j : JobView) (places : List Place) (v : SetsView) (s p : ℕ) → v.job ≡ j → v.places ≡ length places →
    AreaOf run j places (session_of j s).phase (get_or v.finals (session_of j s).phase no_finals) → 0 < s → s ≤ length j.sessions →
    is_within (place_of places p).kind (set_in v s p) ≡ true
set_within run j places v s p of size a some most = by_place (nat_lt p v.places) refl
  where
    by_place : (q : Bool) → nat_lt p v.places ≡ q → is_within (place_of places p).kind (set_in v s p) ≡ true
    by_place true e =
        let l : p < length places = omega (arith, ltb-true p v.places e, size) in
        let of_job = ap (λ (i : JobView). set_at (get_or v.finals (session_of i s).phase no_finals) s p) of in
        rw e (subst (λ (x : FactSet). is_within (place_of places p).kind x ≡ true) (sym of_job) (a.ends.within s p some most l))
    by_place false e = rw e (within_none (place_of places p).kind)

pub all_sized : (run : Course) (j : JobView) (places : List Place) (before after : Account) (sets : List FinalsView) → HasLeftBy run j places before after sets → All (IsSized j (length places)) sets
all_sized run j places before after sets l k d h = sized run j places k (get_or sets k d) (left_at run j places before after sets k d l (omega (arith, h, left_count run j places before after sets l)))

is_outcome : {P E : Type 0} (course : Course) (j : JobView) (places : List Place) (before after : Account) (slots : List (Slot P E)) (sets : SetsView) → IsJob j → HasLeftBy course j places before after sets.finals →
    AreRun course j places (length j.phases) slots → sets.job ≡ j → sets.places ≡ length places → IsOutcomeBy course j places (dones slots) sets
is_outcome course j places before after slots sets job left ended of size = record {
  count = length-map slots (λ s. s.done) ∙ ended.count;
  are_results = λ t l. (all_ended course j places slots t job ended l).0;
  filled = λ t l. (all_ended course j places slots t job ended l).1;
  job = of;
  size = size;
  are_sets = λ s p some most l whole h. set_is course j places sets s p job whole of size (area s some most) some most l h;
  are_bounded = λ s p by some most l its h. set_between course j places sets s p by of size (area s some most) some most l its h;
  within = λ s p some most. set_within course j places sets s p of size (area s some most) some most;
}
  where
    area : (s : ℕ) → 0 < s → s ≤ length j.sessions → AreaOf course j places (session_of j s).phase (get_or sets.finals (session_of j s).phase no_finals)
    area s some most = left_at course j places before after sets.finals (session_of j s).phase no_finals left (phase_in j s job some most)

pub outcome : {P E : Type 0} (course : Course) (j : JobView) (places : List Place) (before after : Account) (slots : List (Slot P E)) (tasks : List Done) (finals : List FinalsView) (sets : SetsView) → IsJob j →
    HasLeftBy course j places before after finals → AreRun course j places (length j.phases) slots → tasks ≡ dones slots → sets ≡ record { job = j; places = length places; finals = finals } →
    IsOutcomeBy course j places tasks sets
outcome course j places before after slots tasks finals sets job left ended moved same =
    let whole : IsOutcomeBy course j places (dones slots) (record { job = j; places = length places; finals = finals }) =
    is_outcome course j places before after slots (record { job = j; places = length places; finals = finals }) job left ended refl refl in
    subst (λ (v : SetsView). IsOutcomeBy course j places tasks v) (sym same)
    (subst (λ (ds : List Done). IsOutcomeBy course j places ds (record { job = j; places = length places; finals = finals })) (sym moved) whole)

-- the extras that were moved out of the slots

pub has_some : {P E : Type 0} (course : Course) (ends : Ends E) (j : JobView) (places : List Place) (finals : List FinalsView) (slots : List (Slot P E)) → IsJob j → AreRun course j places (length j.phases) slots →
    HaveAllExtras ends j places (length j.phases) finals slots → All (λ s. IsSome s.extra) slots
has_some course ends j places finals slots job a h t d l = let x = all_extras ends j places finals slots t d job h a.count (omega (arith, l, a.count)) in rw x.has refl

pub are_extras : {P E : Type 0} (course : Course) (ends : Ends E) (j : JobView) (places : List Place) (slots : List (Slot P E)) (tasks : List Done) (extras : List E) (finals : List FinalsView) (sets : SetsView) → IsJob j →
    AreRun course j places (length j.phases) slots → HaveAllExtras ends j places (length j.phases) finals slots → tasks ≡ dones slots → map Some extras ≡ extras_of slots → sets ≡ record { job = j; places = length places; finals = finals } →
    AreExtras ends j places tasks sets extras
are_extras course ends j places slots tasks extras finals sets job a h moved taken same = record {
  count = count;
  each = λ t d e l. has_ended t d e l;
}
  where
    count : length extras ≡ length j.tasks
    count = sym (length-map extras Some) ∙ (ap (λ (es : List (Option _)). length es) taken ∙ (length-map slots (λ s. s.extra) ∙ a.count))

    has_ended : (t : ℕ) (d : Done) (e : _) → t < length j.tasks → HasEnded ends j places sets t (get_or tasks t d) (get_or extras t e)
    has_ended t d e l =
        let here : t < length slots = omega (arith, l, a.count) in
        let slot : Slot _ _ = get_or slots t no_slot in
        let x = all_extras ends j places finals slots t no_slot job h a.count l in
        let done : get_or tasks t d ≡ slot.done = ap (λ (ds : List Done). get_or ds t d) moved ∙ get_or-map (λ s. s.done) slots t no_slot d here in
        let extra : Some (get_or extras t e) ≡ Some x.extra =
        sym (get_or-map Some extras t e (Some e) (omega (arith, l, count))) ∙ (ap (λ (es : List (Option _)). get_or es t (Some e)) taken ∙ (get_or-map (λ s. s.extra) slots t no_slot (Some e) here ∙ x.has)) in
        let its : get_or extras t e ≡ x.extra = same_Some (get_or extras t e) x.extra extra in
        record {
          first = x.first;
          begun = x.begun;
          tells = rw (done, its, same) x.tells;
        }
