-- What stands of a drain that follows an instruction while other drains follow it.
use Rattle.std.proofs.Common.{◌≡◌, ℕ, ◌+◌, ◌<◌, Bool, true, ◌||◌, Option, List, [], ◌∷◌, length, get_or, take, inl, inr, sym, ◌∙◌, ap, subst, arith}
use Rattle.std.proofs.Math.Bool.{or-false}
use Rattle.std.specs.List.{list_any}
use Rattle.std.proofs.Math.ListN.{set}
use mathlib.Core.Logic.{dite}
use native.Mathlib.Decide.{dec_le}
use Rattle.std.proofs.lemmas.List.{get_or-set_other, get_or-set_same, get_or_default, take_more_set}
use Rattle.std.proofs.lemmas.List.Folds.{list_any-append}
use Rattle.cov_base.specs.Meaning.{FactSet}
use Rattle.cov_base.specs.declared.numbers.PlaceNo.{PlaceNo}
use Rattle.cov_base.specs.declared.numbers.SessNo.{SessNo}
use Rattle.module_area.specs.Meaning.{PlanView}
use Rattle.module_area.specs.Notes.{Notes}
use Rattle.early_report.specs.DrainView.{DrainView}
use Rattle.early_report.specs.Drains.{IsLooking, AreKnown}
use Rattle.early_report.specs.Followed.{IsOwn, IsReadyAt, IsReady, IsAsked, WentAt, Went}
use Rattle.early_report.specs.declared.drains.Stage.{Stage}
use Rattle.early_report.specs.declared.drains.Stage.TheVariants.{Unused, Begun, Drained, Taken}
use Rattle.early_report.proofs.TieLemmas.{closed_looks, tied_looks}

pub own_later : (plan : PlanView) (old new : Notes) (s : ℕ) → new.bears ≡ old.bears → IsOwn plan old s → IsOwn plan new s
own_later plan old new s bears o = record { controlled = o.controlled; own = bears ∙ o.own }

pub known_later : (old new : Notes) (s : ℕ) (places : List PlaceNo) (sets : List FactSet) → ((s p : ℕ) (x : FactSet) → old.settled s p x ≡ true → new.settled s p x ≡ true) → AreKnown old s places sets → AreKnown new s places sets
known_later old new s places sets more k = record { size = k.size; each = λ i p x l. more _ _ _ (k.each i p x l) }

module _ (plan : PlanView) (old new : Notes) (looking : IsLooking old new) where
  ready_at : (t : Stage) (closed : Option SessNo) (d : DrainView) → IsReadyAt t plan old closed d → IsReadyAt t plan new closed d
  ready_at Unused closed d r = (r.0, λ is. closed_looks plan old new d.session looking (r.1 is))
  ready_at Begun closed d r = (tied_looks plan old new d looking r.0, r.1)
  ready_at Drained closed d r = r
  ready_at Taken closed d r = r

  pub ready_looking : (closed : Option SessNo) (d : DrainView) → IsReady plan old closed d → IsReady plan new closed d
  ready_looking closed d r = record { own = own_later plan old new d.session (ap (λ (n : Notes). n.bears) looking.same) r.own; stands = ready_at d.stage closed d r.stands }

  asked_looking : (s polls done : ℕ) (e : DrainView) → IsAsked plan old s polls done e → IsAsked plan new s polls done e
  asked_looking s polls done e (inl w) = inl record { session = w.session; stage = w.stage; tie = tied_looks plan old new e looking w.tie; entry = w.entry; last = w.last; working = w.working; polled = w.polled }
  asked_looking s polls done e (inr t) = inr record { session = t.session; stage = t.stage; known = known_later old new s _ e.sets looking.known t.known; polled = t.polled; at = t.at }

  went_at : (t : Stage) (closed : Option SessNo) (done : ℕ) (d e : DrainView) → WentAt t plan old closed done d e → WentAt t plan new closed done d e
  went_at Unused closed done d e (inl w) = inl w
  went_at Unused closed done d e (inr w) = inr (w.0, asked_looking d.session 0 done e w.1)
  went_at Begun closed done d e w = asked_looking d.session d.polls done e w
  went_at Drained closed done d e w = w
  went_at Taken closed done d e w = w

  pub went_looking : (closed : Option SessNo) (done : ℕ) (d e : DrainView) → Went plan old closed done d e → Went plan new closed done d e
  went_looking closed done d e w = went_at d.stage closed done d e w

-- One drain more has followed the instruction: those before it have, and those behind it are as they were.
pub one_gone : (plan : PlanView) (n m : Notes) (closed : Option SessNo) (done i : ℕ) (olds nows : List DrainView) (d e : DrainView) → IsLooking n m → i < length nows → get_or olds i d ≡ d →
    Went plan m closed done d e → ((k : ℕ) (x : DrainView) → k < i → Went plan n closed done (get_or olds k x) (get_or nows k x)) → i < length olds →
    (k : ℕ) (x : DrainView) → k < i + 1 → Went plan m closed done (get_or olds k x) (get_or (set nows i e) k x)
one_gone plan n m closed done i olds nows d e looking l at went before l' k x lt = dite (dec_le (k + 1) i)
    (λ low. subst (Went plan m closed done (get_or olds k x)) (sym (get_or-set_other nows i k e x (λ same. absurd (omega (arith, low, same)))))
    (went_looking plan n m looking closed done (get_or olds k x) (get_or nows k x) (before k x (omega (arith, low)))))
    (λ high. let same : k ≡ i = omega (arith, high, lt) in
    subst (λ j. Went plan m closed done (get_or olds j x) (get_or (set nows i e) j x)) (sym same)
    (subst (λ (z : DrainView × DrainView). Went plan m closed done z.0 z.1) (λ j. (sym (get_or_default olds i x d l' ∙ at) j, sym (get_or-set_same nows i e x l) j)) went))

-- whether one of the first drains waits, with one more
pub any_set : {X : Type 0} (f : X → Bool) (xs : List X) (i : ℕ) (y : X) → i < length xs → list_any f (take (i + 1) (set xs i y)) ≡ (list_any f (take i xs) || f y)
any_set f xs i y l = ap (list_any f) (take_more_set xs i y l) ∙ (list_any-append f (take i xs) (y ∷ []) ∙ ap (λ b. list_any f (take i xs) || b) (or-false (f y)))
