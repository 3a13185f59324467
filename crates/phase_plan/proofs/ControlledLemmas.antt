-- The controlled sessions of a phase's plan, and the places that they share with none of its whole sessions.
use Rattle.std.proofs.Common.{◌≡◌, ◌⊎◌, ℕ, ◌+◌, ◌<◌, suc, Bool, true, false, not, ◌&&◌, Option, Some, None, is_some, List, [], ◌∷◌, length, get_or, All, AllPairs, refl, sym, ap, ◌∙◌, inl, inr, ⊎_elim, arith, nat_eq, eqb-true}
use Rattle.std.specs.List.{list_any}
use Rattle.std.proofs.lemmas.List.Kept.{AllPairs-cons}
use Rattle.std.proofs.lemmas.List.Elements.{All-cons, All-weaker}
use Rattle.std.proofs.lemmas.List.Folds.{Any-from_list_any}
use Rattle.std.proofs.lemmas.Bool.{and_parts}
use Rattle.cov_base.specs.declared.numbers.PlaceNo.{PlaceNo}
use Rattle.module_area.specs.Meaning.{ControlledView, place_of}
use Rattle.module_area.specs.declared.places.Place.{Place}
use Rattle.session_book.specs.Meaning.{SessionView, no_session, is_whole, observes}
use Rattle.phase_plan.specs.Meaning.{window_from, places_from, with_controlled, controlled_from}
use Rattle.session_book.specs.JobView.{AreParted, is_same_controller}

-- the session at an index
abbrev pub session_at : List SessionView → ℕ → SessionView
session_at ss k = get_or ss k no_session

abbrev has : List ℕ → ℕ → Bool
has modules m = list_any (nat_eq m) modules

-- the places of some modules, counted on from n

pub record IsNumber (n : ℕ) (places : List Place) (modules : List ℕ) (p : PlaceNo) : Type 0 where
  pub at : ℕ
  pub exists : at < length places
  pub number : p.0 ≡ n + at
  pub of : has modules (place_of places at).module ≡ true

number_later : (n : ℕ) (x : Place) (xs : List Place) (modules : List ℕ) (p : PlaceNo) → IsNumber (n + 1) xs modules p → IsNumber n (x ∷ xs) modules p
number_later n x xs modules p a = record { at = suc a.at; exists = let l = a.exists in omega arith; number = let e = a.number in omega arith; of = a.of }

numbers_first : (n : ℕ) (x : Place) (xs : List Place) (modules : List ℕ) (q : Bool) → has modules x.module ≡ q
    → All (IsNumber n (x ∷ xs) modules) (places_from (n + 1) xs modules) → All (IsNumber n (x ∷ xs) modules) (places_from n (x ∷ xs) modules)
numbers_first n x xs modules true e h = rw e (All-cons (IsNumber n (x ∷ xs) modules) (record { 0 = n }) (places_from (n + 1) xs modules) (record { at = 0; exists = omega arith; number = omega arith; of = e }) h)
numbers_first n x xs modules false e h = rw e h

pub numbers_at : (n : ℕ) (places : List Place) (modules : List ℕ) → All (IsNumber n places modules) (places_from n places modules)
numbers_at n [] modules = λ k d l. absurd (omega arith)
numbers_at n (x ∷ xs) modules = numbers_first n x xs modules (has modules x.module) refl
    (All-weaker (IsNumber (n + 1) xs modules) (IsNumber n (x ∷ xs) modules) (number_later n x xs modules) (places_from (n + 1) xs modules) (numbers_at (n + 1) xs modules))

abbrev Rise : List PlaceNo → Type 0
Rise ps = AllPairs (λ (p q : PlaceNo). p.0 < q.0) ps

later_than : (n : ℕ) (xs : List Place) (modules : List ℕ) (p : PlaceNo) → IsNumber (n + 1) xs modules p → n < p.0
later_than n xs modules p a = let e = a.number in omega arith

rise_first : (n : ℕ) (x : Place) (xs : List Place) (modules : List ℕ) (q : Bool) → has modules x.module ≡ q → Rise (places_from (n + 1) xs modules) → Rise (places_from n (x ∷ xs) modules)
rise_first n x xs modules true e h = rw e (AllPairs-cons (λ (p q : PlaceNo). p.0 < q.0) (record { 0 = n }) (places_from (n + 1) xs modules)
    (All-weaker (IsNumber (n + 1) xs modules) (λ p. n < p.0) (later_than n xs modules) (places_from (n + 1) xs modules) (numbers_at (n + 1) xs modules)) h)
rise_first n x xs modules false e h = rw e h

pub numbers_rise : (n : ℕ) (places : List Place) (modules : List ℕ) → Rise (places_from n places modules)
numbers_rise n [] modules = λ i j d l m. absurd (omega arith)
numbers_rise n (x ∷ xs) modules = rise_first n x xs modules (has modules x.module) refl (numbers_rise (n + 1) xs modules)

-- the controlled sessions of the phase, counted on from n

pub record IsAt (n : ℕ) (ss : List SessionView) (places : List Place) (phase : ℕ) (c : ControlledView) : Type 0 where
  pub at : ℕ
  pub exists : at < length ss
  pub number : c.session ≡ n + at
  pub of_phase : (session_at ss at).phase ≡ phase
  pub by_task : (session_at ss at).by ≡ Some c.by
  pub over : c.places ≡ places_from 0 places (session_at ss at).modules

at_later : (n : ℕ) (s : SessionView) (ss : List SessionView) (places : List Place) (phase : ℕ) (c : ControlledView) → IsAt (n + 1) ss places phase c → IsAt n (s ∷ ss) places phase c
at_later n s ss places phase c a = record { at = suc a.at; exists = let l = a.exists in omega arith; number = let e = a.number in omega arith; of_phase = a.of_phase; by_task = a.by_task; over = a.over }

at_with : (n : ℕ) (s : SessionView) (ss : List SessionView) (places : List Place) (phase : ℕ) (cs : List ControlledView) (o : Option ℕ) → s.by ≡ o → s.phase ≡ phase
    → All (IsAt n (s ∷ ss) places phase) cs → All (IsAt n (s ∷ ss) places phase) (with_controlled n s places o cs)
at_with n s ss places phase cs None e f h = h
at_with n s ss places phase cs (Some t) e f h = All-cons (IsAt n (s ∷ ss) places phase) (record { session = n; by = t; places = places_from 0 places s.modules }) cs
    (record { at = 0; exists = omega arith; number = omega arith; of_phase = f; by_task = e; over = refl }) h

at_first : (n : ℕ) (s : SessionView) (ss : List SessionView) (places : List Place) (phase : ℕ) (q : Bool) → nat_eq s.phase phase ≡ q
    → All (IsAt n (s ∷ ss) places phase) (controlled_from (n + 1) ss places phase) → All (IsAt n (s ∷ ss) places phase) (controlled_from n (s ∷ ss) places phase)
at_first n s ss places phase true e h = rw e (at_with n s ss places phase (controlled_from (n + 1) ss places phase) s.by refl (eqb-true _ _ e) h)
at_first n s ss places phase false e h = rw e h

pub all_at : (n : ℕ) (ss : List SessionView) (places : List Place) (phase : ℕ) → All (IsAt n ss places phase) (controlled_from n ss places phase)
all_at n [] places phase = λ k d l. absurd (omega arith)
all_at n (s ∷ ss) places phase = at_first n s ss places phase (nat_eq s.phase phase) refl
    (All-weaker (IsAt (n + 1) ss places phase) (IsAt n (s ∷ ss) places phase) (at_later n s ss places phase) (controlled_from (n + 1) ss places phase) (all_at (n + 1) ss places phase))

abbrev Follow : List ControlledView → Type 0
Follow cs = AllPairs (λ (c d : ControlledView). c.session < d.session) cs

after_it : (n : ℕ) (ss : List SessionView) (places : List Place) (phase : ℕ) (c : ControlledView) → IsAt (n + 1) ss places phase c → n < c.session
after_it n ss places phase c a = let e = a.number in omega arith

follow_with : (n : ℕ) (s : SessionView) (places : List Place) (cs : List ControlledView) (o : Option ℕ) → All (λ (c : ControlledView). n < c.session) cs → Follow cs → Follow (with_controlled n s places o cs)
follow_with n s places cs None a h = h
follow_with n s places cs (Some t) a h = AllPairs-cons (λ (c d : ControlledView). c.session < d.session) (record { session = n; by = t; places = places_from 0 places s.modules }) cs a h

follow_first : (n : ℕ) (s : SessionView) (ss : List SessionView) (places : List Place) (phase : ℕ) (q : Bool) → nat_eq s.phase phase ≡ q → Follow (controlled_from (n + 1) ss places phase) → Follow (controlled_from n (s ∷ ss) places phase)
follow_first n s ss places phase true e h = rw e (follow_with n s places (controlled_from (n + 1) ss places phase) s.by
    (All-weaker (IsAt (n + 1) ss places phase) (λ (c : ControlledView). n < c.session) (after_it n ss places phase) (controlled_from (n + 1) ss places phase) (all_at (n + 1) ss places phase)) h)
follow_first n s ss places phase false e h = rw e h

pub all_follow : (n : ℕ) (ss : List SessionView) (places : List Place) (phase : ℕ) → Follow (controlled_from n ss places phase)
all_follow n [] places phase = λ i j d l m. absurd (omega arith)
all_follow n (s ∷ ss) places phase = follow_first n s ss places phase (nat_eq s.phase phase) refl (all_follow (n + 1) ss places phase)

-- the whole session that observes a module, counted on from n

pub record IsWindow (n : ℕ) (ss : List SessionView) (phase m w : ℕ) : Type 0 where
  pub at : ℕ
  pub exists : at < length ss
  pub number : w ≡ n + at
  pub whole : is_whole (session_at ss at) ≡ true
  pub of_phase : (session_at ss at).phase ≡ phase
  pub over : has (session_at ss at).modules m ≡ true

abbrev Windows : ℕ → List SessionView → ℕ → ℕ → ℕ → Type 0
Windows n ss phase m w = (w ≡ 0) ⊎ IsWindow n ss phase m w

window_later : (n : ℕ) (s : SessionView) (ss : List SessionView) (phase m w : ℕ) → IsWindow (n + 1) ss phase m w → IsWindow n (s ∷ ss) phase m w
window_later n s ss phase m w a = record { at = suc a.at; exists = let l = a.exists in omega arith; number = let e = a.number in omega arith; whole = a.whole; of_phase = a.of_phase; over = a.over }

window_first : (n : ℕ) (s : SessionView) (ss : List SessionView) (phase m : ℕ) (q : Bool) → (is_whole s && observes phase m s) ≡ q
    → Windows (n + 1) ss phase m (window_from (n + 1) ss phase m) → Windows n (s ∷ ss) phase m (window_from n (s ∷ ss) phase m)
window_first n s ss phase m true e h = let both = and_parts (is_whole s) (observes phase m s) e in let o = and_parts (nat_eq s.phase phase) (has s.modules m) both.1 in
    rw e (inr (record {
      at = 0;
      exists = omega arith;
      number = omega arith;
      whole = both.0;
      of_phase = eqb-true _ _ o.0;
      over = o.1;
    }))
window_first n s ss phase m false e h = rw e (⊎_elim (λ z. inl z) (λ a. inr (window_later n s ss phase m (window_from (n + 1) ss phase m) a)) h)

pub window_is : (n : ℕ) (ss : List SessionView) (phase m : ℕ) → Windows n ss phase m (window_from n ss phase m)
window_is n [] phase m = inl refl
window_is n (s ∷ ss) phase m = window_first n s ss phase m (is_whole s && observes phase m s) refl (window_is (n + 1) ss phase m)

-- what parts sessions

has_index : (modules : List ℕ) (m : ℕ) → has modules m ≡ true → (k : ℕ) × (k < length modules) × (get_or modules k m ≡ m)
has_index modules m h = let a = Any-from_list_any (nat_eq m) modules h in
    let same : m ≡ a.1 = eqb-true _ _ a.4 in
    (a.0, a.2, ap (λ x. get_or modules a.0 x) same ∙ (a.3 ∙ sym same))

pub share_none : (s t : SessionView) (m : ℕ) → AreParted s t → s.phase ≡ t.phase → is_same_controller s.by t.by ≡ false → has s.modules m ≡ true → has t.modules m ≡ true → ⊥
share_none s t m parted same other hs ht = let i = has_index s.modules m hs in
    let off : list_any (nat_eq (get_or s.modules i.0 m)) t.modules ≡ false = parted same other i.0 m i.1 in
    let never : has t.modules m ≡ false = sym (ap (λ x. list_any (nat_eq x) t.modules) i.2) ∙ off in
    absurd cc

pub by_none : (s : SessionView) (o : Option ℕ) → s.by ≡ o → is_whole s ≡ true → s.by ≡ None
by_none s None e h = e
by_none s (Some t) e h = let z : true ≡ false = sym h ∙ ap (λ x. not (is_some x)) e in absurd cc
