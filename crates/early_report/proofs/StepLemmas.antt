-- How drains stand behind an instruction and a boundary.
use Rattle.std.proofs.Common.{◌≡◌, ℕ, ◌*◌, ◌≤◌, Bool, true, false, if◌then◌else◌, ◌&&◌, ◌==◌, Option, Some, None, option_map, unwrap_or, List, [], All, refl, sym, ◌∙◌, ap, subst, arith, eqb-true}
use Rattle.std.proofs.Math.Bool.{and-false}
use Rattle.std.proofs.lemmas.Bool.{and_parts}
use Rattle.cov_base.specs.Meaning.{Visit}
use Rattle.cov_base.specs.declared.numbers.PlaceNo.{PlaceNo}
use Rattle.cov_base.specs.declared.numbers.SessNo.{SessNo}
use Rattle.module_area.specs.Meaning.{PlanView, has_place, ControlView, places_under, unless_open, to_open, opening, closing, control_after}
use Rattle.module_area.specs.Rule.{IsPlan}
use Rattle.module_area.specs.Control.{after_closes, after_call}
use Rattle.module_area.specs.Notes.{Notes, after_boundary, is_closed}
use Rattle.module_area.specs.Tied.{IsTied}
use Rattle.module_area.proofs.Laws.{has_here, at_place, under_place, closed_of_places}
use Rattle.task_run.specs.Answered.{Turns}
use Rattle.task_run.specs.Meaning.{is_opened}
use Rattle.task_run.proofs.Laws.{step_known, step_over}
use Rattle.early_report.specs.DrainView.{DrainView}
use Rattle.early_report.specs.Drains.{HasClosed}
use Rattle.early_report.specs.Followed.{IsOwn, IsReadyAt, IsReady, closed_since}
use Rattle.early_report.specs.Meaning.{closes}
use Rattle.early_report.specs.declared.drains.Stage.{Stage}
use Rattle.early_report.specs.declared.drains.Stage.TheVariants.{Unused, Begun, Drained, Taken}
use Rattle.early_report.proofs.FollowLemmas.{own_later}
use Rattle.early_report.proofs.ReadLemmas.{closed_at}
use Rattle.early_report.proofs.TieLemmas.{tied_later}

-- by these tags the session is over at each of its places, so it is closed
pub closed_by : (plan : PlanView) (seen : ℕ → ℕ) (s : ℕ) → IsPlan plan → All (λ (p : PlaceNo). 2 * s ≤ seen p.0) (places_under plan s) → is_closed plan seen s ≡ true
closed_by plan seen s ok over =
    closed_of_places plan seen s (λ p there. at_place (λ q. 2 * s ≤ seen q) (places_under plan s) p over (under_place plan s p ok there))

-- which session an instruction has closed

closed_same : (o : Option SessNo) → closed_since o o ≡ None
closed_same None = refl
closed_same (Some u) = refl

closed_none : (o : Option SessNo) → closed_since o None ≡ o
closed_none None = refl
closed_none (Some u) = refl

opened_stays : (c : ControlView) (o : Option SessNo) (next : Option SessNo) → closed_since o (opening (record c { opened = o }) (unless_open o next)).opened ≡ None
opened_stays c None next = refl
opened_stays c (Some u) next = refl

-- the call is SVC 5
abbrev is_five : Option ℕ → Bool
is_five call = unwrap_or (option_map (λ k. k == 5) call) false

closes_at : (c : ControlView) (o : Option SessNo) (call : Option ℕ) (s : ℕ) → is_opened s (closed_since o (control_after (record c { opened = o }) call).opened) ≡ (is_opened s o && is_five call)
closes_at c o None s = ap (is_opened s) (closed_same o) ∙ sym (and-false (is_opened s o))
closes_at c o (Some k) s = by_test (k == 4) (k == 5) refl refl
  where
    by_test : (f g : Bool) → (k == 4) ≡ f → (k == 5) ≡ g →
        is_opened s (closed_since o (if f then opening (record c { opened = o }) (to_open (record c { opened = o })) else (if g then closing (record c { opened = o }) else record c { opened = o })).opened) ≡ (is_opened s o && g)
    by_test true true ef eg = absurd (omega (arith, eqb-true k 4 ef, eqb-true k 5 eg))
    by_test true false ef eg = ap (is_opened s) (opened_stays c o _) ∙ sym (and-false (is_opened s o))
    by_test false true ef eg = ap (is_opened s) (closed_none o) ∙ and_true (is_opened s o)
      where
        and_true : (b : Bool) → b ≡ (b && true)
        and_true true = refl
        and_true false = refl
    by_test false false ef eg = ap (is_opened s) (closed_same o) ∙ sym (and-false (is_opened s o))

pub closed_is : (c : ControlView) (call : Option ℕ) (s : ℕ) → is_opened s (closed_since c.opened (control_after c call).opened) ≡ closes c call s
closed_is c call s = closes_at c c.opened call s

-- the notes behind it

open_is : (s : ℕ) (o : Option SessNo) → is_opened s o ≡ true → (u : SessNo) × (o ≡ Some u) × (u.0 ≡ s)
open_is s None h = absurd cc
open_is s (Some u) h = (u, refl, eqb-true u.0 s h)

after_five : (plan : PlanView) (n : Notes) (c : ControlView) (call : Option ℕ) (u : SessNo) → is_five call ≡ true → c.opened ≡ Some u → after_call plan n c call ≡ after_closes n u.0 (places_under plan u.0)
after_five plan n c None u five is = absurd cc
after_five plan n c (Some k) u five is = let e : k ≡ 5 = eqb-true k 5 five in rw (e, is) refl

pub closed_after : (plan : PlanView) (mid new : Notes) (s : ℕ) → IsPlan plan → new ≡ after_closes mid s (places_under plan s) → IsOwn plan new s → HasClosed plan (after_boundary new false) s
closed_after plan mid new s ok notes own =
    let at : (g : ℕ → ℕ) → All (λ (p : PlaceNo). 2 * s ≤ (if has_place (places_under plan s) p.0 then 2 * s else g p.0)) (places_under plan s) =
    λ g i p l. rw (has_here (places_under plan s) i p l) (omega arith) in
    record {
      controlled = own.controlled;
      own = own.own;
      seen = closed_by plan new.seen s ok (subst (λ (n : Notes). All (λ (p : PlaceNo). 2 * s ≤ n.seen p.0) (places_under plan s)) (sym notes) (at mid.seen));
      given = closed_by plan new.last s ok (subst (λ (n : Notes). All (λ (p : PlaceNo). 2 * s ≤ n.last p.0) (places_under plan s)) (sym notes) (at mid.last));
      idle = λ p. refl;
    }

pub closed_now : (plan : PlanView) (old new : Notes) (visits : List Visit) (c : ControlView) (call : Option ℕ) (s : ℕ) → IsPlan plan → Turns plan old new visits c call → closes c call s ≡ true → IsOwn plan old s → HasClosed plan (after_boundary new false) s
closed_now plan old new visits c call s ok t closes own =
    let a = open_is s c.opened (and_parts (is_opened s c.opened) (is_five call) closes).0 in
    let notes : new ≡ after_closes t.mid s (places_under plan s) =
    t.notes ∙ (after_five plan t.mid c call a.0 (and_parts (is_opened s c.opened) (is_five call) closes).1 a.1 ∙ ap (λ k. after_closes t.mid k (places_under plan k)) a.2) in
    closed_after plan t.mid new s ok notes (own_later plan old new s (step_known plan old new visits c call t).bears own)

-- a session that was closed before stays so
pub closed_still : (plan : PlanView) (old new : Notes) (visits : List Visit) (c : ControlView) (call : Option ℕ) (s : ℕ) → IsPlan plan → IsTied plan old c → Turns plan old new visits c call → HasClosed plan old s → HasClosed plan (after_boundary new false) s
closed_still plan old new visits c call s ok tie t h =
    let seen = closed_at plan old.seen s h.controlled h.seen in
    let given = closed_at plan old.last s h.controlled h.given in
    record {
      controlled = h.controlled;
      own = (step_known plan old new visits c call t).bears ∙ h.own;
      seen = closed_by plan new.seen s ok (λ i p l. (step_over plan old new visits c call tie t _ (2 * s) (given i p l) (seen i p l)).1);
      given = closed_by plan new.last s ok (λ i p l. (step_over plan old new visits c call tie t _ (2 * s) (given i p l) (seen i p l)).0);
      idle = λ p. refl;
    }

-- so each drain is ready to follow the instruction
pub ready_step : (plan : PlanView) (old new : Notes) (visits : List Visit) (c : ControlView) (call : Option ℕ) (d : DrainView) → IsPlan plan → IsTied plan old c → Turns plan old new visits c call → IsReady plan old None d →
    IsReady plan (after_boundary new false) (closed_since c.opened (control_after c call).opened) d
ready_step plan old new visits c call d ok tie t r = record {
  own = own_later plan old (after_boundary new false) d.session (step_known plan old new visits c call t).bears r.own;
  stands = at d.stage r.stands;
}
  where
    at : (stage : Stage) → IsReadyAt stage plan old None d → IsReadyAt stage plan (after_boundary new false) (closed_since c.opened (control_after c call).opened) d
    at Unused x = (x.0, λ is. closed_now plan old new visits c call d.session ok t (sym (closed_is c call d.session) ∙ is) r.own)
    at Begun x = (tied_later plan old (after_boundary new false) d [] (step_known plan old new visits c call t).noted (step_known plan old new visits c call t).bears (closed_still plan old new visits c call d.session ok tie t x.0.closed) x.0, x.1)
    at Drained x = x
    at Taken x = x
