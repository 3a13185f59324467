-- Which places a controlled session is over, and that it is closed where its tags are over at each of them.
use Rattle.std.proofs.Common.{◌≡◌, ℕ, ◌*◌, ◌<◌, ◌≤◌, Bool, true, false, not, ◌&&◌, ◌||◌, nat_eq, nat_le, List, length, get_or, All, refl, ◌∙◌, ap, subst, eqb-true}
use Rattle.std.specs.List.{list_all}
use Rattle.std.proofs.lemmas.Bool.{and_from, and_parts, or_left, or_right, le-leb, leb-true}
use Rattle.std.proofs.lemmas.List.Sums.{AllPass-from_list_all, list_all-from_AllPass}
use Rattle.cov_base.specs.declared.numbers.PlaceNo.{PlaceNo}
use Rattle.module_area.specs.Meaning.{PlanView, ControlledView, has_place, is_controlled, places_under}
use Rattle.module_area.specs.Notes.{is_closed}
use Rattle.module_area.specs.Rule.{IsPlan}
use Rattle.module_area.proofs.PlanLemmas.{any_at, any_shown, number, no_session, session_at}
use Rattle.module_area.proofs.TieLemmas.{places_at, has_here}

-- what holds at each of the places holds at one of them
pub at_place : (P : ℕ → Type 0) (places : List PlaceNo) (p : ℕ) → All (λ (q : PlaceNo). P q.0) places → has_place places p ≡ true → P p
at_place P places p all has =
    let a = any_at (λ (q : PlaceNo). nat_eq q.0 p) places (number p) has in
    subst P (eqb-true _ _ a.2) (all a.0 (number p) a.1)

-- a place that the session is over is one of the session's
pub under_place : (plan : PlanView) (s p : ℕ) → IsPlan plan → is_controlled plan s p ≡ true → has_place (places_under plan s) p ≡ true
under_place plan s p ok there =
    let a = any_at (λ (c : ControlledView). nat_eq c.session s && has_place c.places p) plan.controlled no_session there in
    let c : ControlledView = session_at plan a.0 in
    let its = and_parts (nat_eq c.session s) (has_place c.places p) a.2 in
    ap (λ (ps : List PlaceNo). has_place ps p) (places_at plan.controlled s a.0 ok.apart a.1 (eqb-true c.session s its.0)) ∙ its.1

abbrev is_past : (ℕ → ℕ) → ℕ → PlaceNo → Bool
is_past seen s q = nat_le (2 * s) (seen q.0)

abbrev is_shut : (ℕ → ℕ) → ℕ → ControlledView → Bool
is_shut seen s c = not (nat_eq c.session s) || list_all (is_past seen s) c.places

-- a closed session is over at its places
pub closed_place : (plan : PlanView) (seen : ℕ → ℕ) (s p : ℕ) → is_closed plan seen s ≡ true → is_controlled plan s p ≡ true → 2 * s ≤ seen p
closed_place plan seen s p closed there =
    let a = any_at (λ (c : ControlledView). nat_eq c.session s && has_place c.places p) plan.controlled no_session there in
    let c : ControlledView = session_at plan a.0 in
    let its = and_parts (nat_eq c.session s) (has_place c.places p) a.2 in
    let shut : is_shut seen s c ≡ true = AllPass-from_list_all (is_shut seen s) plan.controlled closed a.0 no_session a.1 in
    let past : list_all (is_past seen s) c.places ≡ true = subst (λ b. (not b || list_all (is_past seen s) c.places) ≡ true) its.0 shut in
    at_place (λ q. 2 * s ≤ seen q) c.places p
    (λ i d l. leb-true (2 * s) (seen (get_or c.places i d).0) (AllPass-from_list_all (is_past seen s) c.places past i d l)) its.1

-- and one that is over at its places is closed
pub closed_of_places : (plan : PlanView) (seen : ℕ → ℕ) (s : ℕ) → ((p : ℕ) → is_controlled plan s p ≡ true → 2 * s ≤ seen p) → is_closed plan seen s ≡ true
closed_of_places plan seen s over =
    list_all-from_AllPass (is_shut seen s) plan.controlled (λ k d l. shut k d l (nat_eq (get_or plan.controlled k d).session s) refl)
  where
    shut : (k : ℕ) (d : ControlledView) → k < length plan.controlled → (b : Bool) → nat_eq (get_or plan.controlled k d).session s ≡ b → is_shut seen s (get_or plan.controlled k d) ≡ true
    shut k d l false e = or_left (not (nat_eq (get_or plan.controlled k d).session s)) _ (ap not e)
    shut k d l true e =
        let c : ControlledView = get_or plan.controlled k d in
        or_right (not (nat_eq c.session s)) _ (list_all-from_AllPass (is_past seen s) c.places (λ i q m.
        let p : ℕ = (get_or c.places i q).0 in
        le-leb (2 * s) (seen p) (over p (any_shown (λ (x : ControlledView). nat_eq x.session s && has_place x.places p) plan.controlled d k l
        (and_from (nat_eq c.session s) (has_place c.places p) e (has_here c.places i q m))))))
