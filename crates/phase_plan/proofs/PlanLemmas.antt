-- The plan of a phase is one that an area takes.
use Rattle.std.proofs.Common.{◌≡◌, ◌≢◌, ◌⊎◌, ℕ, ◌+◌, ◌<◌, ◌≤◌, zero, suc, Bool, true, false, Option, Some, None, IfSome, List, [], ◌∷◌, length, get_or, map, All, AllPairs, Contains, refl, sym, ap, subst, ◌∙◌, ⊎_elim, arith, nat_eq, eqb-true, eq-eqb, lt_trans, lt_of_not-le}
use Rattle.std.specs.List.{list_any}
use mathlib.Core.Logic.{dite}
use native.Mathlib.Decide.{dec_le}
use Rattle.std.proofs.lemmas.List.{length-map, get_or-map}
use Rattle.std.proofs.lemmas.List.Kept.{AllPairs-cons}
use Rattle.std.proofs.lemmas.List.Elements.{All-get_or, All-cons, All-same, All-contains}
use Rattle.std.proofs.lemmas.Bool.{or_right, true_from_ne_false}
use Rattle.std.proofs.lemmas.Option.{none-some}
use Rattle.cov_base.specs.declared.numbers.TaskNo.{TaskNo}
use Rattle.cov_base.specs.declared.numbers.PlaceNo.{PlaceNo}
use Rattle.module_area.specs.Meaning.{ControlledView, no_place, place_of}
use Rattle.module_area.specs.Rule.{IsPlan, IsControlled, has_task}
use Rattle.module_area.specs.declared.places.Place.{Place}
use Rattle.brk_table.specs.Places.{ArePlaces, IsPlace}
use Rattle.session_book.specs.Meaning.{JobView, SessionView, TaskView, no_session, no_task}
use Rattle.phase_plan.specs.Meaning.{window_from, window_of, tasks_from, places_from, controlled_from, plan_view}
use Rattle.session_book.specs.JobView.{IsJob, AreParted, IsTaskOf, is_same_controller}
use Rattle.phase_plan.proofs.ControlledLemmas.{session_at, IsNumber, numbers_at, numbers_rise, IsAt, all_at, all_follow, IsWindow, window_is, share_none, by_none}

window_most : (ss : List SessionView) (phase m w : ℕ) → (w ≡ 0) ⊎ IsWindow 1 ss phase m w → w ≤ length ss
window_most ss phase m w h = ⊎_elim (λ e. omega arith) (λ a. let l = a.exists in let e = a.number in omega arith) h

pub window_in_range : (j : JobView) (phase : ℕ) (places : List Place) (p : ℕ) → get_or (map (window_of j phase) places) p 0 ≤ length j.sessions
window_in_range j phase [] p = omega arith
window_in_range j phase (x ∷ xs) zero = window_most j.sessions phase x.module (window_of j phase x) (window_is 1 j.sessions phase x.module)
window_in_range j phase (x ∷ xs) (suc p) = window_in_range j phase xs p

abbrev AreFrom : ℕ → List TaskNo → Type 0
AreFrom n ts = All (λ (t : TaskNo). n ≤ t.0) ts

abbrev Differing : List TaskNo → Type 0
Differing ts = AllPairs (λ (t u : TaskNo). t.0 ≢ u.0) ts

from_cons : (n : ℕ) (xs : List TaskNo) → AreFrom (n + 1) xs → AreFrom n (record { 0 = n } ∷ xs)
from_cons n xs h = All-cons (λ (t : TaskNo). n ≤ t.0) (record { 0 = n }) xs (omega arith) (λ k d l. omega (arith, h k d l))

from_first : (n : ℕ) (t : TaskView) (ts : List TaskView) (phase : ℕ) (q : Bool) → nat_eq t.phase phase ≡ q → AreFrom (n + 1) (tasks_from (n + 1) ts phase) → AreFrom n (tasks_from n (t ∷ ts) phase)
from_first n t ts phase true e h = rw e (from_cons n (tasks_from (n + 1) ts phase) h)
from_first n t ts phase false e h = rw e (λ k d l. omega (arith, h k d l))

tasks_from_least : (n : ℕ) (ts : List TaskView) (phase : ℕ) → AreFrom n (tasks_from n ts phase)
tasks_from_least n [] phase = λ k d l. absurd (omega arith)
tasks_from_least n (t ∷ ts) phase = from_first n t ts phase (nat_eq t.phase phase) refl (tasks_from_least (n + 1) ts phase)

differing_cons : (n : ℕ) (xs : List TaskNo) → AreFrom (n + 1) xs → Differing xs → Differing (record { 0 = n } ∷ xs)
differing_cons n xs h d = AllPairs-cons (λ (t u : TaskNo). t.0 ≢ u.0) (record { 0 = n }) xs (λ k e l. λ same. absurd (omega (arith, h k e l, same))) d

differing_first : (n : ℕ) (t : TaskView) (ts : List TaskView) (phase : ℕ) (q : Bool) → nat_eq t.phase phase ≡ q → Differing (tasks_from (n + 1) ts phase) → Differing (tasks_from n (t ∷ ts) phase)
differing_first n t ts phase true e h = rw e (differing_cons n (tasks_from (n + 1) ts phase) (tasks_from_least (n + 1) ts phase) h)
differing_first n t ts phase false e h = rw e h

pub tasks_differ : (n : ℕ) (ts : List TaskView) (phase : ℕ) → Differing (tasks_from n ts phase)
tasks_differ n [] phase = λ i j d l m. absurd (omega arith)
tasks_differ n (t ∷ ts) phase = differing_first n t ts phase (nat_eq t.phase phase) refl (tasks_differ (n + 1) ts phase)

task_more : (n : ℕ) (t : TaskView) (ts : List TaskView) (phase u : ℕ) (q : Bool) → nat_eq t.phase phase ≡ q → has_task (tasks_from (n + 1) ts phase) u ≡ true → has_task (tasks_from n (t ∷ ts) phase) u ≡ true
task_more n t ts phase u true e h = rw e (or_right (nat_eq n u) (has_task (tasks_from (n + 1) ts phase) u) h)
task_more n t ts phase u false e h = rw e h

-- a task of the phase is one of the plan's
has_it : (n k u : ℕ) (ts : List TaskView) (phase : ℕ) (d : TaskView) → u ≡ n + k → k < length ts → (get_or ts k d).phase ≡ phase → has_task (tasks_from n ts phase) u ≡ true
has_it n k u [] phase d e l f = absurd (omega arith)
has_it n zero u (t ∷ ts) phase d e l f = let here : nat_eq t.phase phase ≡ true = eq-eqb t.phase phase f in let same : nat_eq n u ≡ true = eq-eqb n u (omega arith) in
    rw here (rw same refl)
has_it n (suc k) u (t ∷ ts) phase d e l f = task_more n t ts phase u (nat_eq t.phase phase) refl (has_it (n + 1) k u ts phase d (omega arith) (omega arith) f)

controller_there : (ts : List TaskView) (phase t : ℕ) (o : Option ℕ) → o ≡ Some t → IfSome o (IsTaskOf ts phase) → IsTaskOf ts phase t
controller_there ts phase t o e h = subst (λ x. IfSome x (IsTaskOf ts phase)) e h

window_there : (j : JobView) (phase : ℕ) (places : List Place) (p : ℕ) → p < length places → get_or (map (window_of j phase) places) p 0 ≡ window_from 1 j.sessions phase (place_of places p).module
window_there j phase places p l = get_or-map (window_of j phase) places p no_place 0 l

same_as_none : (o : Option ℕ) → is_same_controller o None ≡ false
same_as_none None = refl
same_as_none (Some t) = refl

-- no whole session is over a module of a controlled one
free_of : (ss : List SessionView) (phase m w k t : ℕ) → AllPairs AreParted ss → k < length ss → (session_at ss k).phase ≡ phase → (session_at ss k).by ≡ Some t
    → list_any (nat_eq m) (session_at ss k).modules ≡ true → IsWindow 1 ss phase m w → ⊥
free_of ss phase m w k t parted l of by has a = let none : (session_at ss a.at).by ≡ None = by_none (session_at ss a.at) (session_at ss a.at).by refl a.whole in
    dite (dec_le (suc a.at) k)
    (λ lt. share_none (session_at ss a.at) (session_at ss k) m (parted a.at k no_session lt l) (a.of_phase ∙ sym of) (rw none refl) a.over has)
    (λ n. dite (dec_le (suc k) a.at)
    (λ lt. share_none (session_at ss k) (session_at ss a.at) m (parted k a.at no_session lt a.exists) (of ∙ sym a.of_phase) (rw none (same_as_none (session_at ss k).by)) has a.over)
    (λ i. let x = lt_of_not-le n in let y = lt_of_not-le i in let same : a.at ≡ k = omega arith in none-some t (sym (ap (λ z. (session_at ss z).by) (sym same) ∙ none) ∙ by)))

numbers_of_it : (n : ℕ) (ss : List SessionView) (places : List Place) (phase : ℕ) (c : ControlledView) (a : IsAt n ss places phase c) → All (IsNumber 0 places (session_at ss a.at).modules) c.places
numbers_of_it n ss places phase c a = All-same (IsNumber 0 places (session_at ss a.at).modules) c.places (places_from 0 places (session_at ss a.at).modules) a.over (numbers_at 0 places (session_at ss a.at).modules)

-- the module of a number is one of these
module_of_it : (places : List Place) (modules : List ℕ) (p : PlaceNo) → IsNumber 0 places modules p → (p.0 < length places) × (list_any (nat_eq (place_of places p.0).module) modules ≡ true)
module_of_it places modules p a = let e = a.number in let l = a.exists in let same : p.0 ≡ a.at = omega arith in (omega arith, rw same a.of)

is_free : (j : JobView) (places : List Place) (phase : ℕ) → IsJob j → (c : ControlledView) (a : IsAt 1 j.sessions places phase c) → (p : PlaceNo) → IsNumber 0 places (session_at j.sessions a.at).modules p
    → get_or (map (window_of j phase) places) p.0 0 ≡ 0
is_free j places phase job c a p b = let m = module_of_it places (session_at j.sessions a.at).modules p b in
    window_there j phase places p.0 m.0 ∙ ⊎_elim (λ z. z)
    (λ w. absurd (free_of j.sessions phase (place_of places p.0).module (window_from 1 j.sessions phase (place_of places p.0).module) a.at c.by job.parted a.exists a.of_phase a.by_task m.1 w))
    (window_is 1 j.sessions phase (place_of places p.0).module)

is_controlled : (j : JobView) (places : List Place) (phase : ℕ) → IsJob j → (c : ControlledView) → IsAt 1 j.sessions places phase c → IsControlled (plan_view j places phase) c
is_controlled j places phase job c a =
    let each = numbers_of_it 1 j.sessions places phase c a in
    let there = controller_there j.tasks (session_at j.sessions a.at).phase c.by (session_at j.sessions a.at).by a.by_task (job.controllers a.at no_session a.exists) no_task in
    record {
      from = let e = a.number in omega arith;
      to = let e = a.number in let l = a.exists in omega arith;
      by_task = has_it 0 c.by c.by j.tasks phase no_task (omega arith) there.0 (there.1 ∙ a.of_phase);
      of_plan = λ k d l. (module_of_it places (session_at j.sessions a.at).modules (get_or c.places k d) (each k d l)).0;
      free = λ k d l. is_free j places phase job c a (get_or c.places k d) (each k d l);
      rising = rw a.over (numbers_rise 0 places (session_at j.sessions a.at).modules);
    }

-- a place of two controlled sessions has one controller
one_controller : (j : JobView) (places : List Place) (phase : ℕ) → IsJob j → (c d : ControlledView) → IsAt 1 j.sessions places phase c → IsAt 1 j.sessions places phase d → c.session < d.session
    → (p : PlaceNo) → Contains c.places p → Contains d.places p → c.by ≡ d.by
one_controller j places phase job c d a b lt p hc hd =
    let m = module_of_it places (session_at j.sessions a.at).modules p (All-contains (IsNumber 0 places (session_at j.sessions a.at).modules) c.places p (numbers_of_it 1 j.sessions places phase c a) hc) in
    let n = module_of_it places (session_at j.sessions b.at).modules p (All-contains (IsNumber 0 places (session_at j.sessions b.at).modules) d.places p (numbers_of_it 1 j.sessions places phase d b) hd) in
    let e = a.number in let f = b.number in let before : a.at < b.at = omega arith in
    eqb-true c.by d.by (true_from_ne_false _ (λ off. share_none (session_at j.sessions a.at) (session_at j.sessions b.at) (place_of places p.0).module
    (job.parted a.at b.at no_session before b.exists) (a.of_phase ∙ sym b.of_phase) (rw (a.by_task, b.by_task) off) m.1 n.1))

-- no place has the number of a controlled session for its window
no_window : (j : JobView) (places : List Place) (phase : ℕ) (c : ControlledView) → IsAt 1 j.sessions places phase c → (p : ℕ) → p < length places → get_or (map (window_of j phase) places) p 0 ≢ c.session
no_window j places phase c a p l = λ same. ⊎_elim
    (λ z. let e = a.number in let w = sym (window_there j phase places p l ∙ z) ∙ same in absurd (omega arith))
    (λ w. let e = a.number in let f = w.number in let g = sym (window_there j phase places p l) ∙ same in let at : w.at ≡ a.at = omega arith in
    none-some c.by (sym (ap (λ k. (session_at j.sessions k).by) (sym at) ∙ by_none (session_at j.sessions w.at) (session_at j.sessions w.at).by refl w.whole) ∙ a.by_task))
    (window_is 1 j.sessions phase (place_of places p).module)

pub is_plan : (j : JobView) (places : List Place) (phase : ℕ) → IsJob j → ArePlaces places → IsPlan (plan_view j places phase)
is_plan j places phase job are = let all = all_at 1 j.sessions places phase in let follow = all_follow 1 j.sessions places phase in record {
  windows = length-map places _;
  in_range = λ p l. window_in_range j phase places p;
  no_breakpoint = λ p l. (All-get_or IsPlace places p no_place l are.each).no_breakpoint;
  kinds = λ p l. (All-get_or IsPlace places p no_place l are.each).kind;
  places = are.most;
  sessions = job.sessions;
  tasks_differ = tasks_differ 0 j.tasks phase;
  controlled = λ k d l. is_controlled j places phase job (get_or (controlled_from 1 j.sessions places phase) k d) (all k d l);
  apart = λ i k d l m. record {
    rising = follow i k d l m;
    one_controller = one_controller j places phase job (get_or (controlled_from 1 j.sessions places phase) i d) (get_or (controlled_from 1 j.sessions places phase) k d)
        (all i d (lt_trans l m)) (all k d m) (follow i k d l m);
  };
  no_windows = λ k d l. no_window j places phase (get_or (controlled_from 1 j.sessions places phase) k d) (all k d l);
}
