-- One instruction more of what a pass follows.
use Rattle.std.proofs.Common.{◌≡◌, ℕ, suc, ◌+◌, ◌-◌, ◌*◌, ◌<◌, ◌≤◌, Bool, true, false, if◌then◌else◌, ◌==◌, nat_eq, Option, Some, None, List, [], ◌∷◌, ◌++◌, length, get_or, All, inl, inr, refl, sym, ◌∙◌, ap, subst, arith, ne_eqb}
use Rattle.std.proofs.lemmas.Bool.{cond_both}
use Rattle.std.proofs.lemmas.List.{take_all, take-append-le}
use Rattle.std.proofs.lemmas.List.Folds.{list_any_none}
use Rattle.cov_base.specs.Meaning.{Visit}
use Rattle.cov_base.specs.declared.facts.Fact.{Fact}
use Rattle.cov_base.specs.declared.numbers.PlaceNo.{PlaceNo}
use Rattle.cov_base.specs.declared.numbers.SessNo.{SessNo}
use Rattle.module_area.specs.Rule.{Has, IsPlan, IsControlled}
use Rattle.module_area.specs.Meaning.{PlanView, ControlledView, has_place, window_at, ControlView, places_in, places_under, to_open, control_after}
use Rattle.module_area.specs.Notes.{Notes}
use Rattle.module_area.specs.Control.{after_open, after_end, after_call}
use Rattle.module_area.specs.Tied.{IsTied}
use Rattle.module_area.proofs.Laws.{tied_same}
use Rattle.task_run.specs.Observed.{Observes, IsRecorded}
use Rattle.task_run.specs.Answered.{known_tag, Answered, Turns}
use Rattle.task_run.proofs.ObservedLemmas.{Observes-none, Observes-append}
use Rattle.task_run.proofs.AnsweredLemmas.{Answered-none, Answered-append, Answered-tags, at_has, at_places-append}
use Rattle.task_run.proofs.BeatLemmas.{calls_beats, beats_more}
use Rattle.task_run.proofs.RiseLemmas.{rises_append, rises_high}
use Rattle.task_run.specs.Meaning.{at_places, control_by, mets, call_beats, beats_by}
use Rattle.task_run.specs.Controlled.{notes_by, last_by, Follows}
use Rattle.task_run.proofs.KnownLemmas.{call_rises}
use Rattle.task_run.proofs.WindowLemmas.{tied_by}

-- places of controlled sessions have no window

free_in : (plan : PlanView) (cs : List ControlledView) (s p : ℕ) → All (IsControlled plan) cs → 0 < window_at plan p → has_place (places_in cs s) p ≡ false
free_in plan [] s p all pos = refl
free_in plan (c ∷ cs) s p all pos =
    cond_both (nat_eq c.session s) c.places (places_in cs s) (λ (ps : List PlaceNo). has_place ps p ≡ false)
    (λ e. list_any_none (λ (q : PlaceNo). nat_eq q.0 p) c.places (λ k d l. ne_eqb (get_or c.places k d).0 p (λ z.
    let none : window_at plan (get_or c.places k d).0 ≡ 0 = (all 0 c (omega arith)).free k d l in
    let here : window_at plan p ≡ 0 = ap (window_at plan) (sym z) ∙ none in
    absurd (omega (arith, here, pos)))))
    (λ e. free_in plan cs s p (λ k d l. all (suc k) d (omega arith)) pos)

-- what a call changes of the notes: tags and counts of what is planted and closed, at places without a window
pub record Changes (plan : PlanView) (old new : Notes) : Type 0 where
  pub marked : new.marked ≡ old.marked
  pub full : new.full ≡ old.full
  pub free : new.free ≡ old.free
  pub answered : new.answered ≡ old.answered
  pub bears : new.bears ≡ old.bears
  pub given : new.given ≡ old.given
  pub out : new.out ≡ old.out
  pub fetches : new.tally.fetches ≡ old.tally.fetches
  pub marks : new.tally.marks ≡ old.tally.marks
  pub lifts : new.tally.lifts ≡ old.tally.lifts
  pub seen : (p : ℕ) → 0 < window_at plan p → new.seen p ≡ old.seen p

none_changed : (plan : PlanView) (n : Notes) → Changes plan n n
none_changed plan n = record { marked = refl; full = refl; free = refl; answered = refl; bears = refl; given = refl; out = refl; fetches = refl; marks = refl; lifts = refl; seen = λ p pos. refl }

open_changed : (plan : PlanView) (n : Notes) (o : Option SessNo) → IsPlan plan → Changes plan n (after_open plan n o)
open_changed plan n None is = none_changed plan n
open_changed plan n (Some s) is = record {
  marked = refl;
  full = refl;
  free = refl;
  answered = refl;
  bears = refl;
  given = refl;
  out = refl;
  fetches = refl;
  marks = refl;
  lifts = refl;
  seen = λ p pos. ap (λ (b : Bool). if b then 2 * s.0 - 1 else n.seen p) (free_in plan plan.controlled s.0 p is.controlled pos);
}

end_changed : (plan : PlanView) (n : Notes) (o : Option SessNo) → IsPlan plan → Changes plan n (after_end plan n o)
end_changed plan n None is = none_changed plan n
end_changed plan n (Some s) is = record {
  marked = refl;
  full = refl;
  free = refl;
  answered = refl;
  bears = refl;
  given = refl;
  out = refl;
  fetches = refl;
  marks = refl;
  lifts = refl;
  seen = λ p pos. ap (λ (b : Bool). if b then 2 * s.0 else n.seen p) (free_in plan plan.controlled s.0 p is.controlled pos);
}

call_changed : (plan : PlanView) (n : Notes) (c : ControlView) (call : Option ℕ) → IsPlan plan → Changes plan n (after_call plan n c call)
call_changed plan n c None is = none_changed plan n
call_changed plan n c (Some k) is =
    cond_both (k == 4) (after_open plan n (to_open c)) (if k == 5 then after_end plan n c.opened else n) (Changes plan n)
    (λ e. open_changed plan n (to_open c) is)
    (λ e. cond_both (k == 5) (after_end plan n c.opened) n (Changes plan n) (λ f. end_changed plan n c.opened is) (λ f. none_changed plan n))

-- what was known before it is known behind it

pub shown_changed : (plan : PlanView) (b c : Notes) (s p : ℕ) (f : Fact) → Changes plan b c → IsRecorded b s p f → IsRecorded c s p f
shown_changed plan b c s p f ch shown = elim shown [
  | inl m ↦ inl (ap (λ (g : ℕ → ℕ → Fact → Bool). g s p f) ch.marked ∙ m)
  | inr m ↦ inr (ap (λ (g : ℕ → ℕ → Bool). g s p) ch.full ∙ m)
]

pub Observes-changed : (plan : PlanView) (a b c : Notes) (visits : List Visit) → Observes plan a b visits → Changes plan b c → Observes plan a c visits
Observes-changed plan a b c visits o ch = record {
  grows = record {
    marked = λ s p f m. ap (λ (g : ℕ → ℕ → Fact → Bool). g s p f) ch.marked ∙ o.grows.marked s p f m;
    full = λ s p m. ap (λ (g : ℕ → ℕ → Bool). g s p) ch.full ∙ o.grows.full s p m;
    free = λ s p m. ap (λ (g : ℕ → ℕ → Bool). g s p) ch.free ∙ o.grows.free s p m;
    met = λ s p m. elim (o.grows.met s p (sym (ap (λ (g : ℕ → ℕ → Bool). g s p) ch.full) ∙ m)) [
      | inl old ↦ inl old
      | inr free ↦ inr (ap (λ (g : ℕ → ℕ → Bool). g s p) ch.free ∙ free)
    ];
    bears = ch.bears ∙ o.grows.bears;
    given = ch.given ∙ o.grows.given;
    out = ch.out ∙ o.grows.out;
  };
  nothing_else = λ s p f m. o.nothing_else s p f (sym (ap (λ (g : ℕ → ℕ → Fact → Bool). g s p f) ch.marked) ∙ m);
  shown = λ s p f stays h. shown_changed plan b c s p f ch (o.shown s p f stays h);
  stays = λ s p stays. let x = o.stays s p stays in let some = x.some in let whole = x.whole in
      record { some = some; whole = whole; seen = ap (λ k. k + 1) (ch.seen p (omega (arith, some, whole))) ∙ x.seen };
  fetches = ch.fetches ∙ o.fetches;
  marks = omega (arith, ch.marks, o.marks);
  lifts = omega (arith, ch.lifts, o.lifts);
}

unfoldable pub Answered-changed : (plan : PlanView) (a b c : Notes) (last : ℕ → ℕ → ℕ) (visits : List Visit) → Answered plan a b last visits → Changes plan b c → Answered plan a c last visits
Answered-changed plan a b c last visits x ch = record {
  pairs = x.pairs;
  appended = ch.answered ∙ x.appended;
  each = x.each;
  shown = λ s p f h. shown_changed plan b c s p f ch (x.shown s p f h);
  nothing_else = λ s p f m. x.nothing_else s p f (sym (ap (λ (g : ℕ → ℕ → Fact → Bool). g s p f) ch.marked) ∙ m);
}

-- one call more

pub control_more : (c : ControlView) (ks : List (Option ℕ)) (k : Option ℕ) → control_by c (ks ++ k ∷ []) ≡ control_after (control_by c ks) k
control_more c [] k = refl
control_more c (j ∷ ks) k = control_more (control_after c j) ks k

notes_more : (plan : PlanView) (n : Notes) (c : ControlView) (ks : List (Option ℕ)) (k : Option ℕ) → notes_by plan n c (ks ++ k ∷ []) ≡ after_call plan (notes_by plan n c ks) (control_by c ks) k
notes_more plan n c [] k = refl
notes_more plan n c (j ∷ ks) k = notes_more plan (after_call plan n c j) (control_after c j) ks k

-- notes that agree in what is planted and closed
pub record AreAlike (x y : Notes) : Type 0 where
  pub last : x.last ≡ y.last
  pub plants : x.tally.plants ≡ y.tally.plants
  pub closes : x.tally.closes ≡ y.tally.closes

open_alike : (plan : PlanView) (x y : Notes) (o : Option SessNo) → AreAlike x y → AreAlike (after_open plan x o) (after_open plan y o)
open_alike plan x y None a = a
open_alike plan x y (Some s) a = record {
  last = ap {B = ℕ → ℕ} (λ (g : ℕ → ℕ). (λ q. if has_place (places_under plan s.0) q then 2 * s.0 - 1 else g q)) a.last;
  plants = ap (λ n. n + length (places_under plan s.0)) a.plants;
  closes = a.closes;
}

end_alike : (plan : PlanView) (x y : Notes) (o : Option SessNo) → AreAlike x y → AreAlike (after_end plan x o) (after_end plan y o)
end_alike plan x y None a = a
end_alike plan x y (Some s) a = record {
  last = ap {B = ℕ → ℕ} (λ (g : ℕ → ℕ). (λ q. if has_place (places_under plan s.0) q then 2 * s.0 else g q)) a.last;
  plants = a.plants;
  closes = ap (λ n. n + length (places_under plan s.0)) a.closes;
}

call_alike : (plan : PlanView) (x y : Notes) (c : ControlView) (call : Option ℕ) → AreAlike x y → AreAlike (after_call plan x c call) (after_call plan y c call)
call_alike plan x y c None a = a
call_alike plan x y c (Some k) a = by_test (k == 4) (k == 5)
  where
    by_test : (b d : Bool) → AreAlike (if b then after_open plan x (to_open c) else (if d then after_end plan x c.opened else x)) (if b then after_open plan y (to_open c) else (if d then after_end plan y c.opened else y))
    by_test true d = open_alike plan x y (to_open c) a
    by_test false true = end_alike plan x y c.opened a
    by_test false false = a

whose_opens : (plan : PlanView) (n : Notes) (o : Option SessNo) → ((after_open plan n o).bears ≡ n.bears) × ((after_open plan n o).out ≡ n.out)
whose_opens plan n None = (refl, refl)
whose_opens plan n (Some s) = (refl, refl)

whose_ends : (plan : PlanView) (n : Notes) (o : Option SessNo) → ((after_end plan n o).bears ≡ n.bears) × ((after_end plan n o).out ≡ n.out)
whose_ends plan n None = (refl, refl)
whose_ends plan n (Some s) = (refl, refl)

whose : (plan : PlanView) (n : Notes) (c : ControlView) (call : Option ℕ) → ((after_call plan n c call).bears ≡ n.bears) × ((after_call plan n c call).out ≡ n.out)
whose plan n c None = (refl, refl)
whose plan n c (Some k) =
    cond_both (k == 4) (after_open plan n (to_open c)) (if k == 5 then after_end plan n c.opened else n) (λ (m : Notes). (m.bears ≡ n.bears) × (m.out ≡ n.out))
    (λ e. whose_opens plan n (to_open c))
    (λ e. cond_both (k == 5) (after_end plan n c.opened) n (λ (m : Notes). (m.bears ≡ n.bears) × (m.out ≡ n.out)) (λ f. whose_ends plan n c.opened) (λ f. (refl, refl)))

-- no call changes for which task the pass is
by_bears : (plan : PlanView) (n : Notes) (c : ControlView) (calls : List (Option ℕ)) → (notes_by plan n c calls).bears ≡ n.bears
by_bears plan n c [] = refl
by_bears plan n c (k ∷ ks) = by_bears plan (after_call plan n c k) (control_after c k) ks ∙ (whose plan n c k).0

by_out : (plan : PlanView) (n : Notes) (c : ControlView) (calls : List (Option ℕ)) → (notes_by plan n c calls).out ≡ n.out
by_out plan n c [] = refl
by_out plan n c (k ∷ ks) = by_out plan (after_call plan n c k) (control_after c k) ks ∙ (whose plan n c k).1

pub Follows-none : (plan : PlanView) (n : Notes) (c : ControlView) → Follows plan n n [] [] c c
unfolding Answered-none
Follows-none plan n c = record { observes = Observes-none plan n; answered = Answered-none plan n _; rises = λ tie none p. omega arith; control = refl; last = refl; plants = refl; closes = refl; beats = refl }

-- the pass makes the visits of one instruction more, and what its call asks for
pub Follows-more : (plan : PlanView) (old mid new : Notes) (trace visits : List Visit) (calls : List (Option ℕ)) (k : Option ℕ) (c d e : ControlView) → IsPlan plan →
    ((v : Visit) → Has v trace → v.before < length calls) → ((v : Visit) → Has v visits → v.before ≡ length calls) →
    Follows plan old mid trace calls c d → Turns plan mid new visits d k → e ≡ control_after d k → Follows plan old new (trace ++ visits) (calls ++ k ∷ []) c e
unfolding Answered-append Answered-tags Answered-changed
Follows-more plan old mid new trace visits calls k c d e is before here f t next =
    let ch : Changes plan t.mid new = subst (Changes plan t.mid) (sym t.notes) (call_changed plan t.mid d k is) in
    let alone : Notes = notes_by plan old c calls in
    let still = t.makes.still in
    let alike : AreAlike t.mid alone = record { last = still.last ∙ f.last; plants = still.plants ∙ f.plants; closes = still.closes ∙ f.closes } in
    let by_call : AreAlike (after_call plan t.mid d k) (after_call plan alone d k) = call_alike plan t.mid alone d k alike in
    let more : after_call plan alone d k ≡ notes_by plan old c (calls ++ k ∷ []) = ap (λ (x : ControlView). after_call plan alone x k) f.control ∙ sym (notes_more plan old c calls k) in
    let same : AreAlike new (notes_by plan old c (calls ++ k ∷ [])) = subst (AreAlike new) more (subst (λ (n : Notes). AreAlike n (after_call plan alone d k)) (sym t.notes) by_call) in
    record {
      observes = Observes-changed plan old t.mid new (trace ++ visits) (Observes-append plan old mid t.mid trace visits f.observes t.makes.observes) ch;
      answered = Answered-changed plan old t.mid new (last_by plan old c (calls ++ k ∷ [])) (trace ++ visits)
          (Answered-append plan old mid t.mid (last_by plan old c (calls ++ k ∷ [])) (λ n. mid.last) trace visits
          (Answered-tags plan old mid (last_by plan old c (calls ++ k ∷ [])) (last_by plan old c calls) trace
          (λ v there p. ap (λ (ks : List (Option ℕ)). (notes_by plan old c ks).last p) (sym (take-append-le v.before calls (k ∷ []) (let b = before v there in omega arith)))) f.answered)
          t.makes.answered t.makes.observes.grows f.observes.grows.bears f.observes.grows.out
          (λ v there p. ap (λ (g : ℕ → ℕ). g p) f.last ∙ ap (λ (ks : List (Option ℕ)). (notes_by plan old c ks).last p)
          (sym (take-append-le v.before calls (k ∷ []) (let b = here v there in omega arith) ∙ take_all v.before calls (let b = here v there in omega arith))))) ch;
      rises = λ tie none p.
          let stays : IsTied plan t.mid d =
          tied_same plan alone t.mid d alike.last (t.makes.observes.grows.bears ∙ (f.observes.grows.bears ∙ sym (by_bears plan old c calls))) (t.makes.observes.grows.out ∙ (f.observes.grows.out ∙ sym (by_out plan old c calls)))
          (subst (IsTied plan alone) (sym f.control) (tied_by plan old c calls is tie none)) in
          let visited = rises_append p (known_tag plan old p) (known_tag plan mid p) (known_tag plan t.mid p) f.answered.pairs t.makes.answered.pairs (f.rises tie none p) (t.makes.rises p) in
          rises_high p (known_tag plan old p) (known_tag plan t.mid p) (known_tag plan new p) (f.answered.pairs ++ t.makes.answered.pairs) visited
          (subst (λ (n : Notes). known_tag plan t.mid p ≤ known_tag plan n p) (sym t.notes) (call_rises plan is t.mid d stays p k));
      control = next ∙ (ap (λ (x : ControlView). control_after x k) f.control ∙ sym (control_more c calls k));
      last = same.last;
      plants = same.plants;
      closes = same.closes;
      beats = ap (λ (n : Notes). n.beats) t.notes
          ∙ (calls_beats plan t.mid d k
          ∙ (ap (call_beats plan d k) (t.makes.beats ∙ ap (mets t.makes.answered.pairs) f.beats)
          ∙ (ap (λ (x : ControlView). call_beats plan x k (mets t.makes.answered.pairs (beats_by plan c 0 calls f.answered.pairs (at_places plan.places trace) old.beats))) f.control
          ∙ (sym (beats_more plan old mid (last_by plan old c calls) (λ n. mid.last) c 0 calls k f.answered.pairs t.makes.answered.pairs (at_places plan.places trace) (at_places plan.places visits) old.beats f.answered.each t.makes.answered.each
          (λ v h. let z = before v (at_has plan.places trace v h) in omega (arith, z)) (λ v h. let z = here v (at_has plan.places visits v h) in omega (arith, z)))
          ∙ ap (λ vs. beats_by plan c 0 (calls ++ k ∷ []) (f.answered.pairs ++ t.makes.answered.pairs) vs old.beats) (sym (at_places-append plan.places trace visits))))));
    }
