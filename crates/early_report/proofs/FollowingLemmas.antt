-- Drains that follow a task, instruction by instruction.
use Rattle.std.proofs.Common.{◌≡◌, ℕ, ◌+◌, ◌<◌, suc, true, false, Option, Some, None, List, [], ◌∷◌, ◌++◌, length, get_or, map, All, inl, inr, refl, sym, ◌∙◌, ap, subst, arith, append_assoc, append-nil, length-append}
use Rattle.std.specs.List.{list_any}
use Rattle.cov_base.specs.Meaning.{FactSet, Visit}
use Rattle.cov_base.specs.declared.numbers.SessNo.{SessNo}
use Rattle.brk_table.specs.Meaning.{TablesView}
use Rattle.module_area.specs.Meaning.{PlanView, ControlView, control_after}
use Rattle.module_area.specs.Rule.{IsPlan}
use Rattle.module_area.specs.Notes.{Notes, after_boundary, bearer, is_working, own_number}
use Rattle.module_area.specs.Tied.{IsTied}
use Rattle.task_run.specs.Meaning.{Turn, calls_of, control_by, is_opened}
use Rattle.task_run.specs.Hooks.{Way}
use Rattle.task_run.specs.Runs.{EndsAs, Goes, Stand, Takes, course_of, stand}
use Rattle.task_run.specs.declared.bench.Bench.{Bench}
use Rattle.task_run.specs.declared.task.TaskEnd.{TaskEnd}
use Rattle.task_run.specs.Answered.{Turns}
use Rattle.task_run.proofs.Laws.{control_more}
use Rattle.early_report.specs.DrainView.{DrainView}
use Rattle.early_report.specs.Followed.{IsReadyAt, IsReady, HaveGone, StandsBy, Stands, closed_since, first_drains, is_begun}
use Rattle.early_report.specs.Following.{HasFollowed, FollowsOne}
use Rattle.early_report.specs.declared.drains.Stage.{Stage}
use Rattle.early_report.specs.declared.runner.Following.{Following}
use Rattle.early_report.proofs.EarlyLemmas.{StandAll, bears_on, known_on, number_on, none_begun, sessions_next, stand_first, stand_next}
use Rattle.early_report.proofs.StandLemmas.{count_after, stands_on}
use Rattle.early_report.proofs.StepLemmas.{ready_step}

-- a drain that stands behind so many instructions is ready for the next

ready_by : (plan : PlanView) (n : Notes) (closing : Option ℕ) (done : ℕ) (d : DrainView) → done < 4294967295 → StandsBy plan n closing done d → IsReadyAt d.stage plan n None d
ready_by plan n None done d small is = subst (λ (t : Stage). IsReadyAt t plan n None d) (sym (ap (λ (d : DrainView). d.stage) is)) (is, λ h. absurd cc)
ready_by plan n (Some k) done d small (inl t) = subst (λ (t : Stage). IsReadyAt t plan n None d) (sym t.stage) tt
ready_by plan n (Some k) done d small (inr w) = subst (λ (t : Stage). IsReadyAt t plan n None d) (sym w.stage) (w.tie, let sum = w.polls in let some = w.some in omega (arith, sum, some, small))

ready_stands : (plan : PlanView) (n : Notes) (closing : Option ℕ) (done : ℕ) (d : DrainView) → done < 4294967295 → Stands plan n closing done d → IsReady plan n None d
ready_stands plan n closing done d small r = record { own = r.own; stands = ready_by plan n closing done d small r.by }

-- so all are ready behind it
pub ready_next : (plan : PlanView) (old mid : Notes) (visits : List Visit) (c d : ControlView) (call : Option ℕ) (i : ℕ) (h : Following) → i < 4294967295 → IsTied plan old c → Turns plan old mid visits c call →
    d ≡ control_after c call → HasFollowed plan old c i h → All (IsReady plan (after_boundary mid false) (closed_since h.opened d.opened)) h.drains.items
ready_next plan old mid visits c d call i h small tie turns control r k x l =
    let e : DrainView = get_or h.drains.items k x in
    subst (λ (o : Option SessNo). IsReady plan (after_boundary mid false) o e) (λ j. closed_since (sym r.opened j) (ap (λ (c : ControlView). c.opened) (sym control) j))
    (ready_step plan old mid visits c call e r.is_plan tie turns (ready_stands plan old (r.each k x l).0 i e small (r.each k x l).1))

-- the pass has made an instruction that they have followed
module _ (plan : PlanView) (old mid new : Notes) (visits : List Visit) (c d : ControlView) (call : Option ℕ) (i : ℕ) (h g : Following) (turns : Turns plan old mid visits c call) (control : d ≡ control_after c call)
    (opened : h.opened ≡ c.opened) (one : FollowsOne plan mid new d (i + 1) h g) where
  its_gone : HaveGone plan new (closed_since c.opened (control_after c call).opened) (i + 1) h.drains.items g.drains.items
  its_gone = subst (λ (o : Option SessNo). HaveGone plan new o (i + 1) h.drains.items g.drains.items) (λ j. closed_since (opened j) (ap (λ (c : ControlView). c.opened) control j)) one.gone

  bears : new.bears ≡ old.bears
  bears = bears_on plan old mid new visits c call turns one.looking

  known : (s p : ℕ) (x : FactSet) → old.settled s p x ≡ true → new.settled s p x ≡ true
  known = known_on plan old mid new visits c call turns one.looking

  pub followed_more : HasFollowed plan old c i h → g.waits ≡ list_any (λ (d : DrainView). is_begun d.stage) g.drains.items → HasFollowed plan new d (i + 1) g
  followed_more r waits = record {
    is_plan = r.is_plan;
    number = let more = number_on plan old mid new visits c call turns one.looking in omega (arith, more, r.number);
    opened = one.opened;
    each = λ k x l.
        let within : k < length h.drains.items = omega (arith, its_gone.count, l) in
        let a : DrainView = get_or h.drains.items k x in
        let closed : Option SessNo = closed_since c.opened (control_after c call).opened in
        let before = r.each k x within in
        (count_after before.0 (is_opened a.session closed) (i + 1), (stands_on plan old new known closed i before.0 a (get_or g.drains.items k x) bears before.1 (its_gone.each k x within)).0);
    waits = waits;
  }

  module _ (first : ControlView) (called : List (Option ℕ)) (by : c ≡ control_by first called) (count : length called ≡ i) (stand : StandAll plan old first called i h.drains.items) where
    pub stand_more : StandAll plan new first (called ++ call ∷ []) (i + 1) g.drains.items
    stand_more = stand_next plan old new first c called call i h.drains.items g.drains.items bears known by count stand its_gone

    pub sessions_more : map (λ (d : DrainView). d.session) g.drains.items ≡ map (λ (d : DrainView). d.session) h.drains.items
    sessions_more = sessions_next plan old new first c called call i h.drains.items g.drains.items bears known by count stand its_gone

-- Before the first instruction none is begun.
pub followed_none : (plan : PlanView) (n : Notes) (c : ControlView) (h : Following) → IsPlan plan → is_working n ≡ true → own_number n ≡ 0 → h.opened ≡ c.opened → h.waits ≡ false → h.drains.items ≡ first_drains plan (bearer n) →
    HasFollowed plan n c 0 h
followed_none plan n c h is working number opened waits first =
    let stand = stand_first plan n c h.drains.items is working first in record {
      is_plan = is;
      number = number;
      opened = opened;
      each = λ k x l. (None, stand k x l);
      waits = waits ∙ none_begun plan n c h.drains.items stand;
    }

-- What a pass and the drains have made of a turn.
pub record DrainsTurn (plan : PlanView) (old : Notes) (c : ControlView) (h : Following) (done : ℕ) (turn : Turn) (new : Notes) (d : ControlView) (g : Following) : Type 0 where
  pub called : Notes
  pub turns : Turns plan old called turn.visits c turn.call
  pub control : d ≡ control_after c turn.call
  pub follows : FollowsOne plan called new d done h g

-- Behind instructions with these calls, from this control on, they stand so, each for the session that it was for.
pub record StandSo (plan : PlanView) (first : ControlView) (sessions : List ℕ) (n : Notes) (c : ControlView) (h : Following) (i : ℕ) (called : List (Option ℕ)) : Type 0 where
  pub count : length called ≡ i
  pub control : c ≡ control_by first called
  pub opened : h.opened ≡ c.opened
  pub stand : StandAll plan n first called i h.drains.items
  pub kept : map (λ (d : DrainView). d.session) h.drains.items ≡ sessions

module _ (plan : PlanView) (first : ControlView) (sessions : List ℕ) where
  so_more : (i : ℕ) (turn : Turn) (old new : Notes) (c d : ControlView) (h g : Following) (called : List (Option ℕ)) → DrainsTurn plan old c h (i + 1) turn new d g → StandSo plan first sessions old c h i called →
      StandSo plan first sessions new d g (i + 1) (called ++ turn.call ∷ [])
  so_more i turn old new c d h g called t so = record {
    count = let size = length-append called (turn.call ∷ []) in omega (arith, size, so.count);
    control = t.control ∙ (ap (λ (c : ControlView). control_after c turn.call) so.control ∙ sym (control_more first called turn.call));
    opened = t.follows.opened;
    stand = stand_more plan old t.called new turn.visits c d turn.call i h g t.turns t.control so.opened t.follows first called so.control so.count so.stand;
    kept = sessions_more plan old t.called new turn.visits c d turn.call i h g t.turns t.control so.opened t.follows first called so.control so.count so.stand ∙ so.kept;
  }

  pub so_all : {P : Type 0} (notes : P → Notes) (takes : ℕ → Turn → Stand Following P → Stand Following P → Type 0) →
      ((i : ℕ) (turn : Turn) (v w : Stand Following P) → takes i turn v w → DrainsTurn plan (notes v.pass) v.control v.hook i turn (notes w.pass) w.control w.hook) →
      (i : ℕ) (turns : List Turn) (x y : Stand Following P) (called : List (Option ℕ)) → Goes takes i turns x y → StandSo plan first sessions (notes x.pass) x.control x.hook i called →
      StandSo plan first sessions (notes y.pass) y.control y.hook (i + length turns) (called ++ calls_of turns)
  so_all {P} notes takes each i [] x y called same so =
      let count : i + 0 ≡ i = omega arith in
      subst (λ (w : Stand Following P). StandSo plan first sessions (notes w.pass) w.control w.hook (i + 0) (called ++ [])) same (rw (count, append-nil called) so)
  so_all {P} notes takes each i (t ∷ ts) x y called goes so =
      let z = goes.0 in
      let count : i + 1 + length ts ≡ i + suc (length ts) = omega arith in
      subst (λ k. StandSo plan first sessions (notes y.pass) y.control y.hook k (called ++ calls_of (t ∷ ts))) count
      (subst (StandSo plan first sessions (notes y.pass) y.control y.hook (i + 1 + length ts)) (append_assoc called (t.call ∷ []) (calls_of ts))
      (so_all notes takes each (i + 1) ts z y (called ++ t.call ∷ []) goes.1.1
      (so_more i t (notes x.pass) (notes z.pass) x.control z.control x.hook z.hook called (each (i + 1) t x z goes.1.0) so)))

-- A run that has gone through the turns of its course has left them so.
module _ {O P : Type 0} (makes : O → TablesView → P → List Visit → P → Type 0) (answers : O → P → ControlView → Option ℕ → P → ControlView → Type 0) (way : Way Following O P) (o : O) (t : TablesView)
    (plan : PlanView) (is : IsPlan plan) (notes : P → Notes) (budget : ℕ) (h g : Following) (p q : P) (old new : Bench) (end : TaskEnd) where
  pub stood_all :
      ((i : ℕ) (turn : Turn) (v w : Stand Following P) → Takes makes answers way.Aside o t i turn v w → DrainsTurn plan (notes v.pass) v.control v.hook i turn (notes w.pass) w.control w.hook) →
      is_working (notes p) ≡ true → h.opened ≡ old.control.opened → h.drains.items ≡ first_drains plan (bearer (notes p)) → EndsAs way h budget old new end →
      Goes (Takes makes answers way.Aside o t) 0 (course_of way h budget old).turns (stand h p old) (stand g q new) →
      StandSo plan old.control (map (λ (d : DrainView). d.session) h.drains.items) (notes q) new.control g end.done (calls_of (course_of way h budget old).turns)
  stood_all each working opened first ends goes =
      let tour = course_of way h budget old in
      let all : 0 + length tour.turns ≡ end.done = omega (arith, ends.count) in
      subst (λ i. StandSo plan old.control (map (λ (d : DrainView). d.session) h.drains.items) (notes q) new.control g i (calls_of tour.turns)) all
      (so_all plan old.control (map (λ (d : DrainView). d.session) h.drains.items) notes (Takes makes answers way.Aside o t) each 0 tour.turns (stand h p old) (stand g q new) [] goes
      (record { count = refl; control = refl; opened = opened; stand = stand_first plan (notes p) old.control h.drains.items is working first; kept = refl }))
