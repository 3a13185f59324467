-- Opening the next session and closing the open one keep the tie.
use Rattle.std.proofs.Common.{◌≡◌, ℕ, zero, suc, ◌+◌, ◌-◌, ◌*◌, ◌<◌, ◌≤◌, Bool, true, false, not, ◌&&◌, nat_eq, nat_lt, if◌then◌else◌, Option, Some, None, List, [], ◌∷◌, length, take, drop, get_or, All, AllPairs, sym, refl, ap, ◌∙◌, subst, arith, eqb-true, eq-eqb, ne_eqb}
use Rattle.std.proofs.lemmas.List.{get_or-drop, get_or-take, get_or_default, length-drop, length-take-le}
use Rattle.std.proofs.lemmas.List.Folds.{list_any_more}
use Rattle.cov_base.specs.declared.limits.TheConstants.{PLACE_LIMIT, SESSION_LIMIT}
use Rattle.cov_base.specs.declared.numbers.PlaceNo.{PlaceNo}
use Rattle.cov_base.specs.declared.numbers.SessNo.{SessNo}
use Rattle.module_area.specs.Meaning.{PlanView, ControlledView, has_place, is_controlled, window_at, ControlView, places_in, places_under, unless_open, to_open, opening, has_session}
use Rattle.module_area.specs.Rule.{IsPlan, AreApart}
use Rattle.module_area.specs.Notes.{Notes, keeps_as}
use Rattle.std.specs.Prelude.{slice_get}
use Rattle.std.proofs.lemmas.Option.{slice_get_within, get_or_from_slice_get, same_Some}
use Rattle.std.proofs.lemmas.Bool.{and_from, and_parts, or_right}
use Rattle.module_area.specs.Control.{after_plants, after_closes}
use Rattle.module_area.specs.Tied.{keeps_session_as, keeps_session, IsTied}
use Rattle.module_area.specs.Allowed.{MayPlant, MayClose}
use Rattle.module_area.proofs.PlanLemmas.{any_at, any_shown, no_session}

-- the places of the session at an index, whose sessions rise
pub places_at : (cs : List ControlledView) (s i : ℕ) → AllPairs AreApart cs → i < length cs → (get_or cs i no_session).session ≡ s → places_in cs s ≡ (get_or cs i no_session).places
places_at [] s i apart l e = absurd (omega arith)
places_at (c ∷ cs) s zero apart l e = ap (λ b. if b then c.places else places_in cs s) (eq-eqb c.session s e)
places_at (c ∷ cs) s (suc i) apart l e = let low = (apart 0 (suc i) no_session (omega arith) l).rising in let r : (get_or cs i no_session).session ≡ s = e in
    ap (λ b. if b then c.places else places_in cs s) (ne_eqb c.session s (λ z. let low' : c.session < (get_or cs i no_session).session = low in absurd (omega (arith, low', r, z))))
    ∙ places_at cs s i (λ a b d lt lb. apart (suc a) (suc b) d (omega arith) (omega arith)) (omega arith) e

kept_at : (plan : PlanView) (bears : Option ℕ) (out : ℕ → Bool) (s : ℕ) → keeps_session_as plan bears out s ≡ true
    → (i : ℕ) × (i < length plan.controlled) × ((get_or plan.controlled i no_session).session ≡ s) × ((p : ℕ) → has_place (get_or plan.controlled i no_session).places p ≡ true → keeps_as plan bears out p ≡ true)
kept_at plan (Some t) out s h = let a = any_at (λ (c : ControlledView). nat_eq c.session s && nat_eq c.by t) plan.controlled no_session h in let c : ControlledView = get_or plan.controlled a.0 no_session in
    (a.0, a.1, eqb-true _ _ (and_parts _ _ a.2).0, λ p has. any_shown (λ (c : ControlledView). nat_eq c.by t && has_place c.places p) plan.controlled no_session a.0 a.1 (and_from (nat_eq c.by t) (has_place c.places p) (and_parts (nat_eq c.session s) _ a.2).1 has))
kept_at plan None out s h = let a = any_at (λ (c : ControlledView). nat_eq c.session s && not (out c.by)) plan.controlled no_session h in let c : ControlledView = get_or plan.controlled a.0 no_session in
    (a.0, a.1, eqb-true _ _ (and_parts _ _ a.2).0, λ p has. or_right (nat_lt 0 (window_at plan p)) _ (any_shown (λ (c : ControlledView). not (out c.by) && has_place c.places p) plan.controlled no_session a.0 a.1 (and_from (not (out c.by)) (has_place c.places p) (and_parts (nat_eq c.session s) _ a.2).1 has)))

pub has_here : (places : List PlaceNo) (k : ℕ) (d : PlaceNo) → k < length places → has_place places (get_or places k d).0 ≡ true
has_here places k d l = any_shown (λ (q : PlaceNo). nat_eq q.0 (get_or places k d).0) places d k l (eq-eqb (get_or places k d).0 (get_or places k d).0 refl)

place_above : (places : List PlaceNo) (d : PlaceNo) (i : ℕ) → AllPairs (λ (p q : PlaceNo). p.0 < q.0) places → i < length places → i ≤ (get_or places i d).0
place_above places d zero rising l = omega arith
place_above places d (suc i) rising l = let before = place_above places d i rising (omega arith) in let up = rising i (suc i) d (omega arith) l in omega arith

rising_short : (places : List PlaceNo) (n : ℕ) → AllPairs (λ (p q : PlaceNo). p.0 < q.0) places → All (λ (p : PlaceNo). p.0 < n) places → length places ≤ n
rising_short [] n rising below = omega arith
rising_short (p ∷ ps) n rising below = let last = place_above (p ∷ ps) p (length ps) rising (omega arith) in let b = below (length ps) p (omega arith) in omega arith

module _ (plan : PlanView) (n : Notes) (ok : IsPlan plan) (s : ℕ) (kept : keeps_session plan n s ≡ true) where
  abbrev its : ControlledView
  its = get_or plan.controlled (kept_at plan n.bears n.out s kept).0 no_session

  under : places_under plan s ≡ its.places
  under = let a = kept_at plan n.bears n.out s kept in places_at plan.controlled s a.0 ok.apart a.1 a.2

  controlled_here : (p : ℕ) → has_place its.places p ≡ true → is_controlled plan s p ≡ true
  controlled_here p has = let a = kept_at plan n.bears n.out s kept in any_shown (λ (c : ControlledView). nat_eq c.session s && has_place c.places p) plan.controlled no_session a.0 a.1 (and_from _ _ (eq-eqb _ _ a.2) has)

  -- what the next session's places allow
  pub may_plant : All (λ p. n.last p.0 + 1 < 2 * s) (places_under plan s) → MayPlant plan n s (places_under plan s)
  may_plant later = let a = kept_at plan n.bears n.out s kept in let c = ok.controlled a.0 no_session a.1 in
      subst (MayPlant plan n s) (sym under) record {
        of_plan = c.of_plan;
        over = λ k d l. or_right _ (is_controlled plan s (get_or its.places k d).0) (controlled_here (get_or its.places k d).0 (has_here its.places k d l));
        keeper = λ k d l. a.3 (get_or its.places k d).0 (has_here its.places k d l);
        later = subst (All (λ (p : PlaceNo). n.last p.0 + 1 < 2 * s)) under later;
        rising = c.rising;
      }

  pub may_close : All (λ p. n.last p.0 + 1 ≡ 2 * s) (places_under plan s) → MayClose plan n s (places_under plan s)
  may_close planted = let a = kept_at plan n.bears n.out s kept in let c = ok.controlled a.0 no_session a.1 in
      subst (MayClose plan n s) (sym under) record {
        of_plan = c.of_plan;
        over = λ k d l. controlled_here (get_or its.places k d).0 (has_here its.places k d l);
        keeper = λ k d l. a.3 (get_or its.places k d).0 (has_here its.places k d l);
        planted = subst (All (λ (p : PlaceNo). n.last p.0 + 1 ≡ 2 * s)) under planted;
        rising = c.rising;
      }

  -- a session of the job, over no more places than a plan has
  pub from_one : 0 < s
  from_one = let a = kept_at plan n.bears n.out s kept in let c = ok.controlled a.0 no_session a.1 in subst (λ k. 0 < k) a.2 c.from

  pub to_last : s ≤ SESSION_LIMIT
  to_last = let a = kept_at plan n.bears n.out s kept in let c = ok.controlled a.0 no_session a.1 in let t : its.session ≤ plan.sessions = c.to in let m = ok.sessions in let e = a.2 in omega arith

  pub few_places : length (places_under plan s) ≤ PLACE_LIMIT
  few_places = let a = kept_at plan n.bears n.out s kept in let c = ok.controlled a.0 no_session a.1 in let m = ok.places in
      let few = rising_short its.places (length plan.places) c.rising c.of_plan in let e = ap (λ (xs : List PlaceNo). length xs) under in omega arith

later_by : (b : Bool) (s t k : ℕ) → s < t → k + 1 < 2 * t → (if b then 2 * s - 1 else k) + 1 < 2 * t
later_by true s t k lt h = omega arith
later_by false s t k lt h = h

closed_by : (b : Bool) (s t k : ℕ) → s < t → k + 1 < 2 * t → (if b then 2 * s else k) + 1 < 2 * t
closed_by true s t k lt h = omega arith
closed_by false s t k lt h = h

-- the tie after the next session was opened
tied_open_at : (plan : PlanView) (n : Notes) (c : ControlView) (d : SessNo) → IsTied plan n c → c.opened ≡ None → c.next < length c.sessions → 0 < (get_or c.sessions c.next d).0
    → IsTied plan (after_plants n (get_or c.sessions c.next d).0 (places_under plan (get_or c.sessions c.next d).0)) (record c { next = c.next + 1; opened = Some (get_or c.sessions c.next d) })
tied_open_at plan n c d h none l pos = let s : SessNo = get_or c.sessions c.next d in record {
  keeps = h.keeps;
  rising = h.rising;
  next = omega arith;
  opened = λ t e. ap (has_session (take (c.next + 1) c.sessions)) (sym (ap (λ (z : SessNo). z.0) (same_Some _ _ e)))
      ∙ (list_any_more (λ (t : SessNo). nat_eq t.0 s.0) c.sessions c.next d l ∙ or_right _ (nat_eq s.0 s.0) (eq-eqb s.0 s.0 refl));
  planted = λ t e. subst (λ (z : SessNo). All (λ (p : PlaceNo). (after_plants n s.0 (places_under plan s.0)).last p.0 + 1 ≡ 2 * z.0) (places_under plan z.0)) (same_Some _ _ e)
      (λ k p lk. let x : (after_plants n s.0 (places_under plan s.0)).last (get_or (places_under plan s.0) k p).0 ≡ 2 * s.0 - 1 = ap (λ b. if b then 2 * s.0 - 1 else n.last (get_or (places_under plan s.0) k p).0) (has_here (places_under plan s.0) k p lk) in omega (arith, x, pos));
  later = λ k t lk. let size = length-drop (c.next + 1) c.sessions in
      let at : get_or (drop (c.next + 1) c.sessions) k t ≡ get_or c.sessions (c.next + 1 + k) t = get_or-drop (c.next + 1) c.sessions k t in
      let at' : get_or (drop c.next c.sessions) (k + 1) t ≡ get_or c.sessions (c.next + (k + 1)) t = get_or-drop c.next c.sessions (k + 1) t in
      let index : c.next + (k + 1) ≡ c.next + 1 + k = omega arith in
      let same : get_or (drop (c.next + 1) c.sessions) k t ≡ get_or (drop c.next c.sessions) (k + 1) t = at ∙ (ap (λ j. get_or c.sessions j t) (sym index) ∙ sym at') in
      let up : (get_or c.sessions c.next t).0 < (get_or c.sessions (c.next + 1 + k) t).0 = h.rising c.next (c.next + 1 + k) t (omega arith) (omega arith) in
      let first : get_or c.sessions c.next t ≡ s = get_or_default c.sessions c.next t d l in
      λ j p lj. later_by (has_place (places_under plan s.0) (get_or (places_under plan (get_or (drop (c.next + 1) c.sessions) k t).0) j p).0) s.0 (get_or (drop (c.next + 1) c.sessions) k t).0 (n.last (get_or (places_under plan (get_or (drop (c.next + 1) c.sessions) k t).0) j p).0)
      (let a = ap (λ (z : SessNo). z.0) first in let b = ap (λ (z : SessNo). z.0) at in omega (arith, a, b, up))
      (subst (λ (z : SessNo). All (λ (p : PlaceNo). n.last p.0 + 1 < 2 * z.0) (places_under plan z.0)) (sym same) (h.later (k + 1) t (let size' = length-drop c.next c.sessions in omega arith)) j p lj);
}

-- and after the open one was closed
pub tied_close : (plan : PlanView) (n : Notes) (c : ControlView) (s : SessNo) → IsTied plan n c → c.opened ≡ Some s
    → IsTied plan (after_closes n s.0 (places_under plan s.0)) (record c { opened = None })
tied_close plan n c s h e = let a = any_at (λ (t : SessNo). nat_eq t.0 s.0) (take c.next c.sessions) s (h.opened s e) in let room = h.next in let few = length-take-le c.next c.sessions (omega arith) in
    let low : a.0 < c.next = let b = a.1 in omega (arith, b, few) in
    let is_s : (get_or c.sessions a.0 s).0 ≡ s.0 = ap (λ (z : SessNo). z.0) (sym (get_or-take c.next c.sessions a.0 s low)) ∙ eqb-true _ _ a.2 in record {
      keeps = h.keeps;
      rising = h.rising;
      next = h.next;
      opened = λ t none. absurd cc;
      planted = λ t none. absurd cc;
      later = λ k t lk. let size = length-drop c.next c.sessions in
          let at : get_or (drop c.next c.sessions) k t ≡ get_or c.sessions (c.next + k) t = get_or-drop c.next c.sessions k t in
          let up : (get_or c.sessions a.0 t).0 < (get_or c.sessions (c.next + k) t).0 = h.rising a.0 (c.next + k) t (omega (arith, low)) (omega (arith, size, lk)) in
          let first : get_or c.sessions a.0 t ≡ get_or c.sessions a.0 s = get_or_default c.sessions a.0 t s (omega (arith, low, room)) in
          λ j p lj. closed_by (has_place (places_under plan s.0) (get_or (places_under plan (get_or (drop c.next c.sessions) k t).0) j p).0) s.0 (get_or (drop c.next c.sessions) k t).0 (n.last (get_or (places_under plan (get_or (drop c.next c.sessions) k t).0) j p).0)
          (let x = ap (λ (z : SessNo). z.0) first in let y = ap (λ (z : SessNo). z.0) at in omega (arith, x, y, up, is_s))
          (h.later k t lk j p lj);
    }

-- the session that opening opens is the next one, and none is open
opens_next : (o next : Option SessNo) (s : SessNo) → unless_open o next ≡ Some s → (o ≡ None) × (next ≡ Some s)
opens_next None next s e = (refl, e)
opens_next (Some t) next s e = absurd cc

module _ (plan : PlanView) (n : Notes) (c : ControlView) (tie : IsTied plan n c) (s : SessNo) (to : to_open c ≡ Some s) where
  pub next_at : (c.opened ≡ None) × (c.next < length c.sessions) × (get_or c.sessions c.next s ≡ s)
  next_at = let a = opens_next c.opened (slice_get c.sessions c.next) s to in (a.0, slice_get_within c.sessions c.next s a.1, get_or_from_slice_get c.sessions c.next s s a.1)

  pub next_kept : keeps_session plan n s.0 ≡ true
  next_kept = let a = next_at in sym (tie.keeps s.0) ∙ any_shown (λ (t : SessNo). nat_eq t.0 s.0) c.sessions s c.next a.1 (eq-eqb _ _ (ap (λ (t : SessNo). t.0) a.2))

  pub next_later : All (λ p. n.last p.0 + 1 < 2 * s.0) (places_under plan s.0)
  next_later = let a = next_at in let size = length-drop c.next c.sessions in let l = a.1 in
      let at : get_or (drop c.next c.sessions) 0 s ≡ s = get_or-drop c.next c.sessions 0 s ∙ (ap (λ i. get_or c.sessions i s) (let z : c.next + 0 ≡ c.next = omega arith in z) ∙ a.2) in
      subst (λ (z : SessNo). All (λ (p : PlaceNo). n.last p.0 + 1 < 2 * z.0) (places_under plan z.0)) at (tie.later 0 s (omega arith))

  pub tied_open : 0 < s.0 → IsTied plan (after_plants n s.0 (places_under plan s.0)) (opening c (Some s))
  tied_open pos = let a = next_at in
      subst (λ (z : SessNo). IsTied plan (after_plants n z.0 (places_under plan z.0)) (opening c (Some z))) a.2
      (tied_open_at plan n c s tie a.0 a.1 (subst (λ (z : SessNo). 0 < z.0) (sym a.2) pos))

-- the open session is one of the pass's own
pub open_kept : (plan : PlanView) (n : Notes) (c : ControlView) (s : SessNo) → IsTied plan n c → c.opened ≡ Some s → keeps_session plan n s.0 ≡ true
open_kept plan n c s tie e = let a = any_at (λ (t : SessNo). nat_eq t.0 s.0) (take c.next c.sessions) s (tie.opened s e) in let room = tie.next in let few = length-take-le c.next c.sessions (omega arith) in
    let low : a.0 < c.next = let b = a.1 in omega (arith, b, few) in
    let same : get_or (take c.next c.sessions) a.0 s ≡ get_or c.sessions a.0 s = get_or-take c.next c.sessions a.0 s low in
    sym (tie.keeps s.0) ∙ any_shown (λ (t : SessNo). nat_eq t.0 s.0) c.sessions s a.0 (omega (arith, low, room)) (sym (ap (λ (t : SessNo). nat_eq t.0 s.0) same) ∙ a.2)

session_above : (sessions : List SessNo) (d : SessNo) (i : ℕ) → AllPairs (λ (s t : SessNo). s.0 < t.0) sessions → i < length sessions → i ≤ (get_or sessions i d).0
session_above sessions d zero rising l = omega arith
session_above sessions d (suc i) rising l = let before = session_above sessions d i rising (omega arith) in let up = rising i (suc i) d (omega arith) l in omega arith

-- the next session's index is at most its number
pub next_small : (plan : PlanView) (n : Notes) (c : ControlView) (s : SessNo) → IsPlan plan → IsTied plan n c → to_open c ≡ Some s → c.next ≤ SESSION_LIMIT
next_small plan n c s ok tie to = let a = next_at plan n c tie s to in let low = session_above c.sessions s c.next tie.rising a.1 in
    let e : (get_or c.sessions c.next s).0 ≡ s.0 = ap (λ (t : SessNo). t.0) a.2 in let m = to_last plan n ok s.0 (next_kept plan n c tie s to) in omega arith
