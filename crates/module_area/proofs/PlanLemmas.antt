-- What the sessions of a plan say of a place.
use Rattle.std.proofs.Common.{◌≡◌, ◌⊎◌, ℕ, suc, ◌<◌, ◌≤◌, Bool, true, false, ◌&&◌, ◌||◌, nat_eq, nat_lt, List, [], ◌∷◌, length, get_or, Contains, sym, refl, ap, ◌∙◌, inl, inr, ⊎_elim, arith, eqb-true, eq-eqb, lt_of_not-le}
use Rattle.std.specs.List.{list_any}
use Rattle.std.proofs.lemmas.List.Folds.{list_any_at}
use Rattle.std.proofs.lemmas.Bool.{and_from, and_parts}
use mathlib.Core.Logic.{dite}
use native.Mathlib.Decide.{dec_le}
use Rattle.cov_base.specs.declared.numbers.PlaceNo.{PlaceNo}
use Rattle.module_area.specs.Meaning.{PlanView, ControlledView, has_place, is_controlled, is_over, window_at}
use Rattle.module_area.specs.Rule.{IsPlan, is_controller}

any_step : {X : Type 0} (f : X → Bool) (x : X) (xs : List X) (d : X) (b : Bool) → f x ≡ b → (b || list_any f xs) ≡ true
    → (list_any f xs ≡ true → (k : ℕ) × (k < length xs) × (f (get_or xs k d) ≡ true)) → (k : ℕ) × (k < length (x ∷ xs)) × (f (get_or (x ∷ xs) k d) ≡ true)
any_step f x xs d true e h rest = (0, omega arith, e)
any_step f x xs d false e h rest = let r = rest h in let l = r.1 in (suc r.0, omega arith, r.2)

pub any_at : {X : Type 0} (f : X → Bool) (xs : List X) (d : X) → list_any f xs ≡ true → (k : ℕ) × (k < length xs) × (f (get_or xs k d) ≡ true)
any_at f [] d h = absurd cc
any_at f (x ∷ xs) d h = any_step f x xs d (f x) refl h (any_at f xs d)

pub any_shown : {X : Type 0} (f : X → Bool) (xs : List X) (d : X) (k : ℕ) → k < length xs → f (get_or xs k d) ≡ true → list_any f xs ≡ true
any_shown f xs d k l h = list_any_at f xs k d l h

abbrev pub number : ℕ → PlaceNo
number p = record { 0 = p }

place_in : (places : List PlaceNo) (p : ℕ) → has_place places p ≡ true → Contains places (number p)
place_in places p h = let a = any_at (λ (q : PlaceNo). nat_eq q.0 p) places (number p) h in (a.0, a.1, ap number (eqb-true _ _ a.2))

abbrev pub no_session : ControlledView
no_session = record { session = 0; by = 0; places = [] }

abbrev pub session_at : PlanView → ℕ → ControlledView
session_at plan i = get_or plan.controlled i no_session

controller_at : (plan : PlanView) (t p : ℕ) → is_controller plan t p ≡ true → (i : ℕ) × (i < length plan.controlled) × ((session_at plan i).by ≡ t) × Contains (session_at plan i).places (number p)
controller_at plan t p h = let a = any_at (λ (c : ControlledView). nat_eq c.by t && has_place c.places p) plan.controlled no_session h in
    (a.0, a.1, eqb-true _ _ (and_parts _ _ a.2).0, place_in (session_at plan a.0).places p (and_parts (nat_eq (session_at plan a.0).by t) _ a.2).1)

-- a place is under one controller
pub one_controller : (plan : PlanView) (t u p : ℕ) → IsPlan plan → is_controller plan t p ≡ true → is_controller plan u p ≡ true → t ≡ u
one_controller plan t u p ok ht hu = let a = controller_at plan t p ht in let b = controller_at plan u p hu in dite (dec_le (suc a.0) b.0)
    (λ lt. sym a.2 ∙ ((ok.apart a.0 b.0 no_session lt b.1).one_controller (number p) a.3 b.3 ∙ b.2))
    (λ n. dite (dec_le (suc b.0) a.0)
    (λ lt. sym a.2 ∙ (sym ((ok.apart b.0 a.0 no_session lt a.1).one_controller (number p) b.3 a.3) ∙ b.2))
    (λ m. let x = lt_of_not-le n in let y = lt_of_not-le m in let same : a.0 ≡ b.0 = omega arith in sym a.2 ∙ (ap (λ i. (session_at plan i).by) same ∙ b.2)))

-- a place with a window is under none
pub no_controller : (plan : PlanView) (t p : ℕ) → IsPlan plan → 0 < window_at plan p → is_controller plan t p ≡ true → ⊥
no_controller plan t p ok pos h = let a = controller_at plan t p h in let c = a.3 in
    let z : window_at plan (get_or (session_at plan a.0).places c.0 (number p)).0 ≡ 0 = (ok.controlled a.0 no_session a.1).free c.0 (number p) c.1 in
    let e : window_at plan p ≡ 0 = sym (ap (λ (q : PlaceNo). window_at plan q.0) c.2) ∙ z in absurd (omega arith)

pub controlled_at : (plan : PlanView) (s p : ℕ) → is_controlled plan s p ≡ true → (i : ℕ) × (i < length plan.controlled) × ((session_at plan i).session ≡ s) × Contains (session_at plan i).places (number p)
controlled_at plan s p h = let a = any_at (λ (c : ControlledView). nat_eq c.session s && has_place c.places p) plan.controlled no_session h in
    (a.0, a.1, eqb-true _ _ (and_parts _ _ a.2).0, place_in (session_at plan a.0).places p (and_parts (nat_eq (session_at plan a.0).session s) _ a.2).1)

pub no_controlled : (plan : PlanView) (s p : ℕ) → IsPlan plan → 0 < window_at plan p → is_controlled plan s p ≡ true → ⊥
no_controlled plan s p ok pos h = let a = controlled_at plan s p h in let c = a.3 in
    let z : window_at plan (get_or (session_at plan a.0).places c.0 (number p)).0 ≡ 0 = (ok.controlled a.0 no_session a.1).free c.0 (number p) c.1 in
    let e : window_at plan p ≡ 0 = sym (ap (λ (q : PlaceNo). window_at plan q.0) c.2) ∙ z in absurd (omega arith)

pub over_cases : (plan : PlanView) (s p : ℕ) → is_over plan s p ≡ true → (window_at plan p ≡ s) ⊎ (is_controlled plan s p ≡ true)
over_cases plan s p h = by_test (nat_lt 0 s && nat_eq (window_at plan p) s) (is_controlled plan s p) refl refl h
  where
    by_test : (a b : Bool) → (nat_lt 0 s && nat_eq (window_at plan p) s) ≡ a → is_controlled plan s p ≡ b → (a || b) ≡ true → (window_at plan p ≡ s) ⊎ (is_controlled plan s p ≡ true)
    by_test true b ea eb x = inl (eqb-true _ _ (and_parts (nat_lt 0 s) _ ea).1)
    by_test false b ea eb x = inr (eb ∙ x)

-- the controlled session at an index has a controller
controller_there : (plan : PlanView) (i p : ℕ) → i < length plan.controlled → has_place (session_at plan i).places p ≡ true → is_controller plan (session_at plan i).by p ≡ true
controller_there plan i p l h = any_shown (λ (c : ControlledView). nat_eq c.by (session_at plan i).by && has_place c.places p) plan.controlled no_session i l
    (and_from _ _ (eq-eqb (session_at plan i).by (session_at plan i).by refl) h)

-- some controlled session of the test over the place gives a controller of the test
pub tested_controller : (plan : PlanView) (f : ℕ → Bool) (p : ℕ) → list_any (λ (c : ControlledView). f c.by && has_place c.places p) plan.controlled ≡ true → (t : ℕ) × (is_controller plan t p ≡ true) × (f t ≡ true)
tested_controller plan f p h = let a = any_at (λ (c : ControlledView). f c.by && has_place c.places p) plan.controlled no_session h in
    ((session_at plan a.0).by, controller_there plan a.0 p a.1 (and_parts (f (session_at plan a.0).by) _ a.2).1, (and_parts _ _ a.2).0)

-- a controlled session over a place has a controller there
pub controller_of : (plan : PlanView) (s p : ℕ) → is_controlled plan s p ≡ true → (t : ℕ) × (is_controller plan t p ≡ true)
controller_of plan s p h = let a = any_at (λ (c : ControlledView). nat_eq c.session s && has_place c.places p) plan.controlled no_session h in
    ((session_at plan a.0).by, controller_there plan a.0 p a.1 (and_parts (nat_eq (session_at plan a.0).session s) _ a.2).1)

-- a place with a window is under its whole session alone
pub over_window : (plan : PlanView) (s p : ℕ) → IsPlan plan → 0 < window_at plan p → is_over plan s p ≡ true → window_at plan p ≡ s
over_window plan s p ok pos h = ⊎_elim (λ e. e) (λ c. absurd (no_controlled plan s p ok pos c)) (over_cases plan s p h)

pub over_small : (plan : PlanView) (s p : ℕ) → IsPlan plan → p < length plan.places → is_over plan s p ≡ true → s ≤ plan.sessions
over_small plan s p ok l h = ⊎_elim (λ e. let x = ok.in_range p l in omega arith)
    (λ c. let a = controlled_at plan s p c in let x = (ok.controlled a.0 no_session a.1).to in let e = a.2 in omega arith) (over_cases plan s p h)

-- in a phase without controlled sessions a session over a place is its whole session
pub over_whole : (plan : PlanView) (s p : ℕ) → plan.controlled ≡ [] → is_over plan s p ≡ true → window_at plan p ≡ s
over_whole plan s p none h = ⊎_elim (λ e. e) (λ c. let z : false ≡ true = sym (ap (list_any (λ (d : ControlledView). nat_eq d.session s && has_place d.places p)) none) ∙ c in absurd cc) (over_cases plan s p h)
