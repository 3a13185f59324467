-- What steps leave of a pass's boundaries and looks, and what these leave of a run.
use Rattle.std.proofs.Common.{◌≡◌, ℕ, ◌+◌, ◌-◌, ◌*◌, ◌<◌, ◌≤◌, Bool, true, false, if◌then◌else◌, ◌==◌, unwrap_or, Option, Some, None, List, refl, sym, ◌∙◌, ap, subst, arith}
use Rattle.std.proofs.lemmas.Bool.{cond_both, eq-eqb}
use Rattle.cov_base.specs.Meaning.{Visit}
use Rattle.cov_base.specs.declared.numbers.SessNo.{SessNo}
use Rattle.module_area.specs.Meaning.{PlanView, has_place, ControlView, places_under, to_open}
use Rattle.module_area.specs.Notes.{Notes, calls, bearer, own_number, after_boundary}
use Rattle.module_area.specs.Control.{after_plants, after_closes, after_open, after_end, after_call}
use Rattle.module_area.specs.Tied.{IsTied}
use Rattle.module_area.proofs.Laws.{tied_same, next_later, at_place}
use Rattle.task_run.specs.Answered.{RisesAt, known_tag, Turns}
use Rattle.task_run.specs.Aside.{IsAside}
use Rattle.task_run.specs.Controlled.{Follows}
use Rattle.task_run.proofs.FollowsLemmas.{Changes, Observes-changed, Answered-changed}
use Rattle.task_run.proofs.MadeLemmas.{Made}

-- an instruction makes no boundary, and looks at no task and no set

-- the pass bears the same task, and knows the same of tasks and of final sets
pub record KnowsSame (old new : Notes) : Type 0 where
  pub bears : new.bears ≡ old.bears
  pub numbers : new.numbers ≡ old.numbers
  pub noted : new.noted ≡ old.noted
  pub settled : new.settled ≡ old.settled

same_known : (n : Notes) → KnowsSame n n
same_known n = record { bears = refl; numbers = refl; noted = refl; settled = refl }

open_known : (plan : PlanView) (n : Notes) (o : Option SessNo) → KnowsSame n (after_open plan n o)
open_known plan n None = same_known n
open_known plan n (Some s) = record { bears = refl; numbers = refl; noted = refl; settled = refl }

end_known : (plan : PlanView) (n : Notes) (o : Option SessNo) → KnowsSame n (after_end plan n o)
end_known plan n None = same_known n
end_known plan n (Some s) = record { bears = refl; numbers = refl; noted = refl; settled = refl }

call_known : (plan : PlanView) (n : Notes) (c : ControlView) (call : Option ℕ) → KnowsSame n (after_call plan n c call)
call_known plan n c None = same_known n
call_known plan n c (Some k) =
    cond_both (k == 4) (after_open plan n (to_open c)) (if k == 5 then after_end plan n c.opened else n) (KnowsSame n)
    (λ e. open_known plan n (to_open c))
    (λ e. cond_both (k == 5) (after_end plan n c.opened) n (KnowsSame n) (λ f. end_known plan n c.opened) (λ f. same_known n))

pub step_known : (plan : PlanView) (old new : Notes) (visits : List Visit) (c : ControlView) (call : Option ℕ) → Turns plan old new visits c call → KnowsSame old new
step_known plan old new visits c call t =
    let still = t.makes.still in
    let k : KnowsSame t.mid new = subst (KnowsSame t.mid) (sym t.notes) (call_known plan t.mid c call) in
    record {
      bears = k.bears ∙ t.makes.observes.grows.bears;
      numbers = k.numbers ∙ still.numbers;
      noted = k.noted ∙ still.noted;
      settled = k.settled ∙ still.settled;
    }

pub same_number : (old new : Notes) → KnowsSame old new → own_number new ≡ own_number old
same_number old new k = λ i. k.numbers i (unwrap_or (k.bears i) 0)

-- no tag that the pass has seen at a place and gave it last falls by a call of its task

abbrev AtLeast : Notes → ℕ → ℕ → Type 0
AtLeast n p x = (x ≤ n.last p) × (x ≤ n.seen p)

open_over : (plan : PlanView) (n : Notes) (c : ControlView) (o : Option SessNo) → to_open c ≡ o → IsTied plan n c → (p x : ℕ) → AtLeast n p x → AtLeast (after_open plan n o) p x
open_over plan n c None e tie p x h = h
open_over plan n c (Some s) e tie p x h = by_place (has_place (places_under plan s.0) p) refl
  where
    by_place : (b : Bool) → has_place (places_under plan s.0) p ≡ b → AtLeast (after_plants n s.0 (places_under plan s.0)) p x
    by_place true has = let later : n.last p + 1 < 2 * s.0 = at_place (λ (q : ℕ). n.last q + 1 < 2 * s.0) (places_under plan s.0) p (next_later plan n c tie s e) has in
        let high : x ≤ 2 * s.0 - 1 = omega (arith, later, h.0) in rw has (high, high)
    by_place false has = rw has h

end_over : (plan : PlanView) (n : Notes) (c : ControlView) (o : Option SessNo) → c.opened ≡ o → IsTied plan n c → (p x : ℕ) → AtLeast n p x → AtLeast (after_end plan n o) p x
end_over plan n c None e tie p x h = h
end_over plan n c (Some s) e tie p x h = by_place (has_place (places_under plan s.0) p) refl
  where
    by_place : (b : Bool) → has_place (places_under plan s.0) p ≡ b → AtLeast (after_closes n s.0 (places_under plan s.0)) p x
    by_place true has = let planted : n.last p + 1 ≡ 2 * s.0 = at_place (λ (q : ℕ). n.last q + 1 ≡ 2 * s.0) (places_under plan s.0) p (tie.planted s e) has in
        let high : x ≤ 2 * s.0 = omega (arith, planted, h.0) in rw has (high, high)
    by_place false has = rw has h

call_over : (plan : PlanView) (n : Notes) (c : ControlView) (call : Option ℕ) → IsTied plan n c → (p x : ℕ) → AtLeast n p x → AtLeast (after_call plan n c call) p x
call_over plan n c None tie p x h = h
call_over plan n c (Some k) tie p x h =
    cond_both (k == 4) (after_open plan n (to_open c)) (if k == 5 then after_end plan n c.opened else n) (λ (m : Notes). AtLeast m p x)
    (λ e. open_over plan n c (to_open c) refl tie p x h)
    (λ e. cond_both (k == 5) (after_end plan n c.opened) n (λ (m : Notes). AtLeast m p x) (λ f. end_over plan n c c.opened refl tie p x h) (λ f. h))

-- so what is over for the pass at a place, by the tag that it gave it last and the highest that it has seen, stays over
pub step_over : (plan : PlanView) (old new : Notes) (visits : List Visit) (c : ControlView) (call : Option ℕ) → IsTied plan old c → Turns plan old new visits c call →
    (p x : ℕ) → x ≤ old.last p → x ≤ old.seen p → (x ≤ new.last p) × (x ≤ new.seen p)
step_over plan old new visits c call tie t p x last seen =
    let still = t.makes.still in
    let grows = t.makes.observes.grows in
    let tied : IsTied plan t.mid c = tied_same plan old t.mid c still.last grows.bears grows.out tie in
    let same : old.last p ≡ t.mid.last p = ap (λ (g : ℕ → ℕ). g p) (sym still.last) in
    let higher = still.seen p in
    subst (λ (n : Notes). AtLeast n p x) (sym t.notes) (call_over plan t.mid c call tied p x (omega (arith, same, last), omega (arith, higher, seen)))

-- boundaries, and looks at tasks and sets

pub aside_none : (n : Notes) → IsAside n n
aside_none n = record { same = refl }

pub aside_more : (a b c : Notes) → IsAside a b → IsAside b c → IsAside a c
aside_more a b c x y = record { same = y.same ∙ ap (λ (n : Notes). record n { pending = c.pending; numbers = c.numbers; noted = c.noted; settled = c.settled; found = c.found }) x.same }

pub aside_boundary : (n : Notes) (ended : Bool) → IsAside n (after_boundary n ended)
aside_boundary n ended = record { same = refl }

pub boundary_number : (n : Notes) (ended : Bool) → own_number (after_boundary n ended) ≡ own_number n + (if ended then 1 else 2)
boundary_number n ended = ap (λ (b : Bool). if b then own_number n + (if ended then 1 else 2) else own_number n) (eq-eqb (bearer n) (bearer n) refl)

-- what a run has made stands after them

aside_changed : (plan : PlanView) (old new : Notes) → IsAside old new → Changes plan old new
aside_changed plan old new a = record {
  marked = ap (λ (n : Notes). n.marked) a.same;
  full = ap (λ (n : Notes). n.full) a.same;
  free = ap (λ (n : Notes). n.free) a.same;
  answered = ap (λ (n : Notes). n.answered) a.same;
  bears = ap (λ (n : Notes). n.bears) a.same;
  given = ap (λ (n : Notes). n.given) a.same;
  out = ap (λ (n : Notes). n.out) a.same;
  fetches = ap (λ (n : Notes). n.tally.fetches) a.same;
  marks = ap (λ (n : Notes). n.tally.marks) a.same;
  lifts = ap (λ (n : Notes). n.tally.lifts) a.same;
  seen = λ p pos. ap (λ (n : Notes). n.seen p) a.same;
}

pub aside_calls : (old new : Notes) → IsAside old new → calls new ≡ calls old
aside_calls old new a = ap (λ (n : Notes). calls n) a.same

pub tied_aside : (plan : PlanView) (old new : Notes) (c : ControlView) → IsAside old new → IsTied plan old c → IsTied plan new c
tied_aside plan old new c a tie = tied_same plan old new c (ap (λ (n : Notes). n.last) a.same) (ap (λ (n : Notes). n.bears) a.same) (ap (λ (n : Notes). n.out) a.same) tie

pub Follows-aside : (plan : PlanView) (old mid new : Notes) (trace : List Visit) (called : List (Option ℕ)) (c d : ControlView) → IsAside mid new → Follows plan old mid trace called c d → Follows plan old new trace called c d
unfolding Answered-changed
Follows-aside plan old mid new trace called c d a f = let ch = aside_changed plan mid new a in record {
  observes = Observes-changed plan old mid new trace f.observes ch;
  answered = Answered-changed plan old mid new _ trace f.answered ch;
  rises = λ tie none p. subst (RisesAt p (known_tag plan old p) f.answered.pairs) (sym (ap (λ (n : Notes). known_tag plan n p) a.same)) (f.rises tie none p);
  control = f.control;
  last = ap (λ (n : Notes). n.last) a.same ∙ f.last;
  plants = ap (λ (n : Notes). n.tally.plants) a.same ∙ f.plants;
  closes = ap (λ (n : Notes). n.tally.closes) a.same ∙ f.closes;
  beats = ap (λ (n : Notes). n.beats) a.same ∙ f.beats;
}

pub Made-aside : (plan : PlanView) (old mid new : Notes) (c d : ControlView) (i : ℕ) (trace : List Visit) (called : List (Option ℕ)) → IsAside mid new → Made plan old mid c d i trace called → Made plan old new c d i trace called
Made-aside plan old mid new c d i trace called a r = record {
  follows = Follows-aside plan old mid new trace called c d a r.follows;
  count = r.count;
  before = r.before;
  few = omega (arith, aside_calls mid new a, r.few);
}
