-- Why the sets that a drained session's pass reads are its final ones.
use Rattle.std.proofs.Common.{◌≡◌, ℕ, suc, ◌+◌, ◌*◌, ◌<◌, ◌≤◌, Bool, true, false, ◌&&◌, ◌||◌, nat_eq, List, [], ◌∷◌, length, get_or, drop, All, refl, sym, ◌∙◌, ap, subst, arith, eqb-true, eq-eqb, le-leb}
use Rattle.std.specs.List.{list_any}
use Rattle.std.proofs.lemmas.List.{drop_more}
use Rattle.std.proofs.lemmas.Bool.{not_from_false, and_from, or_left, or_right}
use Rattle.cov_base.specs.Meaning.{FactSet}
use Rattle.cov_base.specs.declared.numbers.PlaceNo.{PlaceNo}
use Rattle.module_area.specs.Meaning.{PlanView, ControlledView, has_place, is_controlled, places_in, places_under}
use Rattle.module_area.specs.Rule.{IsPlan}
use Rattle.module_area.specs.Notes.{Notes, IsFound, after_read, is_closed, is_final, same_bit, same_set}
use Rattle.module_area.proofs.Laws.{any_shown, no_session, closed_place}
use Rattle.early_report.specs.DrainView.{DrainView}
use Rattle.early_report.specs.Drains.{has_controlled, IsDrainOf, is_over, Reads, IsLooking}

-- the first controlled session of that number, whose places are the session's
pub record IsSession (cs : List ControlledView) (s : ℕ) : Type 0 where
  pub index : ℕ
  pub within : index < length cs
  pub is_it : (get_or cs index no_session).session ≡ s
  pub places : places_in cs s ≡ (get_or cs index no_session).places

session_in : (cs : List ControlledView) (s : ℕ) → list_any (λ (c : ControlledView). nat_eq c.session s) cs ≡ true → IsSession cs s
session_in [] s h = absurd cc
session_in (c ∷ cs) s h = by_test (nat_eq c.session s) refl h (session_in cs s)
  where
    by_test : (b : Bool) → nat_eq c.session s ≡ b → (b || list_any (λ (c : ControlledView). nat_eq c.session s) cs) ≡ true → (list_any (λ (c : ControlledView). nat_eq c.session s) cs ≡ true → IsSession cs s) → IsSession (c ∷ cs) s
    by_test true e k rest = record { index = 0; within = omega arith; is_it = eqb-true c.session s e; places = rw e refl }
    by_test false e k rest = let r = rest k in let l = r.within in record { index = suc r.index; within = omega (arith, l); is_it = r.is_it; places = rw e r.places }

pub session_of : (plan : PlanView) (s : ℕ) → has_controlled plan s ≡ true → IsSession plan.controlled s
session_of plan s h = session_in plan.controlled s h

pub controlled_at : (plan : PlanView) (s : ℕ) → has_controlled plan s ≡ true → All (λ (p : PlaceNo). is_controlled plan s p.0 ≡ true) (places_under plan s)
controlled_at plan s there i p l =
    let r = session_of plan s there in
    let c : ControlledView = get_or plan.controlled r.index no_session in
    let size = ap (λ (ps : List PlaceNo). length ps) r.places in
    let has : has_place c.places (get_or c.places i p).0 ≡ true = any_shown (λ (q : PlaceNo). nat_eq q.0 (get_or c.places i p).0) c.places p i (omega (arith, size, l)) (eq-eqb _ _ refl) in
    subst (λ (ps : List PlaceNo). is_controlled plan s (get_or ps i p).0 ≡ true) (sym r.places)
    (any_shown (λ (c : ControlledView). nat_eq c.session s && has_place c.places (get_or (get_or plan.controlled r.index no_session).places i p).0) plan.controlled no_session r.index r.within (and_from _ _ (eq-eqb c.session s r.is_it) has))

-- a session that is closed by these tags has an even tag or a later one at each of its places
pub closed_at : (plan : PlanView) (seen : ℕ → ℕ) (s : ℕ) → has_controlled plan s ≡ true → is_closed plan seen s ≡ true → All (λ (p : PlaceNo). 2 * s ≤ seen p.0) (places_under plan s)
closed_at plan seen s there closed i p l = closed_place plan seen s (get_or (places_under plan s) i p).0 closed (controlled_at plan s there i p l)

-- a controlled session is one of the plan, over places of the plan
module _ (plan : PlanView) (s : ℕ) (ok : IsPlan plan) (there : has_controlled plan s ≡ true) where
  pub from_one : 0 < s
  from_one = let r = session_of plan s there in let from = (ok.controlled r.index no_session r.within).from in let e = r.is_it in omega (arith, from, e)

  pub of_plan : s ≤ plan.sessions
  of_plan = let r = session_of plan s there in let to = (ok.controlled r.index no_session r.within).to in let e = r.is_it in omega (arith, to, e)

  pub places_of_plan : All (λ (p : PlaceNo). p.0 < length plan.places) (places_under plan s)
  places_of_plan = let r = session_of plan s there in subst (All (λ (p : PlaceNo). p.0 < length plan.places)) (sym r.places) (ok.controlled r.index no_session r.within).of_plan

-- what the pass of a drained drain reads is final
pub final_there : (plan : PlanView) (n : Notes) (d : DrainView) → IsDrainOf plan n d → is_over d.stage ≡ true → All (λ (p : PlaceNo). is_final plan n d.session p.0 ≡ true) (places_under plan d.session)
final_there plan n d tie over i p l =
    and_from _ _ (controlled_at plan d.session tie.closed.controlled i p l)
    (and_from _ _ (le-leb (2 * d.session) _ (closed_at plan n.seen d.session tie.closed.controlled tie.closed.seen i p l))
    (and_from _ _ (tie.drained over) (not_from_false _ (tie.closed.idle _))))

same_bit-same : (b : Bool) → same_bit b b ≡ true
same_bit-same true = refl
same_bit-same false = refl

same_set-same : (x : FactSet) → same_set x x ≡ true
same_set-same x = and_from _ _ (same_bit-same x.ran) (and_from _ _ (same_bit-same x.went) (same_bit-same x.stayed))

-- one read more
pub read_known : (plan : PlanView) (n : Notes) (s p : ℕ) (x : FactSet) → is_final plan n s p ≡ true → (after_read plan n s p x).settled s p x ≡ true
read_known plan n s p x is = or_right (n.settled s p x) _ (rw (is, eq-eqb s s refl, eq-eqb p p refl, same_set-same x) refl)

pub read_keeps : (plan : PlanView) (n : Notes) (s p t q : ℕ) (x y : FactSet) → n.settled t q y ≡ true → (after_read plan n s p x).settled t q y ≡ true
read_keeps plan n s p t q x y h = or_left (n.settled t q y) _ h

pub Reads-next : (plan : PlanView) (s : ℕ) (old new : Notes) (ps : List PlaceNo) (xs : List FactSet) (i : ℕ) (p : PlaceNo) (x : FactSet) → i < length ps → get_or ps i p ≡ p → IsFound plan old s p.0 x →
    Reads plan s (after_read plan old s p.0 x) new (drop (i + 1) ps) xs → Reads plan s old new (drop i ps) (x ∷ xs)
Reads-next plan s old new ps xs i p x l at found rest = rw (drop_more ps i p l, at) (found, rest)

-- reads change nothing but what is known as final and the sets that were found
pub Reads-aside : (plan : PlanView) (s : ℕ) (old new : Notes) (ps : List PlaceNo) (xs : List FactSet) → Reads plan s old new ps xs → new ≡ record old { settled = new.settled; found = new.found }
Reads-aside plan s old new [] [] r = r ∙ ap (λ (n : Notes). record old { settled = n.settled; found = n.found }) (sym r)
Reads-aside plan s old new [] (x ∷ xs) r = absurd r
Reads-aside plan s old new (p ∷ ps) [] r = absurd r
Reads-aside plan s old new (p ∷ ps) (x ∷ xs) r = Reads-aside plan s (after_read plan old s p.0 x) new ps xs r.1

pub Reads-keep : (plan : PlanView) (s : ℕ) (old new : Notes) (ps : List PlaceNo) (xs : List FactSet) → Reads plan s old new ps xs → (t q : ℕ) (y : FactSet) → old.settled t q y ≡ true → new.settled t q y ≡ true
Reads-keep plan s old new [] [] r t q y h = ap (λ (n : Notes). n.settled t q y) r ∙ h
Reads-keep plan s old new [] (x ∷ xs) r t q y h = absurd r
Reads-keep plan s old new (p ∷ ps) [] r t q y h = absurd r
Reads-keep plan s old new (p ∷ ps) (x ∷ xs) r t q y h = Reads-keep plan s (after_read plan old s p.0 x) new ps xs r.1 t q y (read_keeps plan old s p.0 t q x y h)

pub Reads-looks : (plan : PlanView) (s : ℕ) (old new : Notes) (ps : List PlaceNo) (xs : List FactSet) → Reads plan s old new ps xs → IsLooking old new
Reads-looks plan s old new ps xs r = record { more = []; same = Reads-aside plan s old new ps xs r; known = Reads-keep plan s old new ps xs r }
