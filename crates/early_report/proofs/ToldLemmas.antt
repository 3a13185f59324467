-- What a run's drains tell at its end.
use Rattle.std.proofs.Common.{◌≡◌, ℕ, suc, ◌<◌, ◌≤◌, Bool, true, false, ◌||◌, nat_eq, Option, Some, None, List, [], ◌∷◌, length, get_or, map, All, AllPairs, inl, inr, refl, sym, ◌∙◌, ap, subst, arith, eqb-true, eq-eqb, ⊎_elim}
use Rattle.std.proofs.lemmas.Bool.{both_ways, or_left, or_cases}
use Rattle.std.proofs.lemmas.List.{get_or-map, length-map, same_lists}
use Rattle.cov_base.specs.Meaning.{FactSet}
use Rattle.cov_base.specs.declared.numbers.PlaceNo.{PlaceNo}
use Rattle.cov_base.specs.declared.numbers.SessNo.{SessNo}
use Rattle.cov_base.specs.declared.numbers.TaskNo.{TaskNo}
use Rattle.s370_state.specs.declared.endings.Ending.{Ending}
use Rattle.module_area.specs.Meaning.{PlanView, ControlView, places_under, sessions_of, has_session}
use Rattle.module_area.specs.Rule.{IsPlan, has_task}
use Rattle.module_area.specs.Ended.{AreSettled}
use Rattle.module_area.specs.Notes.{Notes, bearer, root_notes}
use Rattle.module_area.specs.Tied.{IsTied, keeps_session_as}
use Rattle.module_area.proofs.Laws.{any_at, any_shown, first_tied}
use Rattle.task_run.specs.Aside.{IsAside}
use Rattle.task_run.specs.Meaning.{Course}
use Rattle.task_run.specs.Ran.{RanAs, walk_from}
use Rattle.task_run.specs.declared.tasks.Task.{Task}
use Rattle.task_run.proofs.Laws.{Follows-aside, tied_aside, aside_calls}
use Rattle.early_report.specs.DrainView.{DrainView}
use Rattle.early_report.specs.Meaning.{others}
use Rattle.early_report.specs.Drains.{unused, controller_of, AreKnown}
use Rattle.early_report.specs.Followed.{StandsBy, Stands, WaitsSince, first_drains}
use Rattle.early_report.specs.Told.{IsTold}
use Rattle.early_report.proofs.LookLemmas.{no_entry}
use Rattle.early_report.proofs.ReadLemmas.{from_one, of_plan, places_of_plan}

-- the run stands after what is aside of it
pub ran_aside : (course : Course) (plan : PlanView) (before mid after : Notes) (old new : Task) (e : Ending) → IsAside mid after → RanAs course plan before mid old new e → RanAs course plan before after old new e
ran_aside course plan before mid after old new e a r = record {
  memory = r.memory;
  budget = r.budget;
  done = r.done;
  ending = r.ending;
  state = r.state;
  follows = Follows-aside plan before mid after (walk_from course plan old).trace (walk_from course plan old).calls old.bench.control new.bench.control a r.follows;
  windows = r.windows;
  planted = record {
    plants = ap (λ (n : Notes). n.tally.plants) a.same ∙ r.planted.plants;
    closes = let c = ap (λ (n : Notes). n.tally.closes) a.same in let p = r.planted.closes in omega (arith, c, p);
  };
  tied = tied_aside plan mid after new.bench.control a r.tied;
  few = let c = aside_calls mid after a in let f = r.few in omega (arith, c, f);
}

-- sets that are known as final are the phase's
pub known_sets : (plan : PlanView) (n : Notes) (s : ℕ) (xs : List FactSet) (sets : ℕ → ℕ → FactSet) → AreSettled plan n sets → 0 < s → s ≤ plan.sessions → All (λ (p : PlaceNo). p.0 < length plan.places) (places_under plan s) →
    AreKnown n s (places_under plan s) xs → xs ≡ map (λ (p : PlaceNo). sets s p.0) (places_under plan s)
known_sets plan n s xs sets settled from to of known =
    let ps : List PlaceNo = places_under plan s in
    same_lists xs (map (λ (p : PlaceNo). sets s p.0) ps) (known.size ∙ sym (length-map ps (λ (p : PlaceNo). sets s p.0)))
    (λ k x l. let none : PlaceNo = record { 0 = 0 } in
    let l' : k < length ps = (let size = known.size in omega (arith, size, l)) in
    sym (get_or-map (λ (p : PlaceNo). sets s p.0) ps k none x l' ∙ settled s (get_or ps k none).0 (get_or xs k x) from to (of k none l') (known.each k none x l')))

-- a waiting drain's last entry is another task of the plan
other_task : (plan : PlanView) (n : Notes) (closing done : ℕ) (d : DrainView) (w : WaitsSince plan n closing done d) → has_task (others plan.tasks (controller_of plan d.session)) w.entry.0.0 ≡ true
other_task plan n closing done d w =
    let r = w.tie.last w.entry w.last in
    let l = r.within in
    let tasks : map (λ (e : TaskNo × ℕ). e.0) d.noted ≡ others plan.tasks (controller_of plan d.session) = w.tie.tasks ∙ ap (λ (o : Option ℕ). others plan.tasks (bearer (record n { bears = o }))) w.tie.closed.own in
    let at : get_or (map (λ (e : TaskNo × ℕ). e.0) d.noted) r.index no_entry.0 ≡ w.entry.0 = get_or-map (λ (e : TaskNo × ℕ). e.0) d.noted r.index w.entry no_entry.0 l ∙ ap (λ (e : TaskNo × ℕ). e.0) r.is_there in
    let size = length-map d.noted (λ (e : TaskNo × ℕ). e.0) in
    subst (λ (ts : List TaskNo). has_task ts w.entry.0.0 ≡ true) tasks
    (any_shown (λ (u : TaskNo). nat_eq u.0 w.entry.0.0) (map (λ (e : TaskNo × ℕ). e.0) d.noted) no_entry.0 r.index (omega (arith, size, l)) (eq-eqb _ w.entry.0.0 (ap (λ (u : TaskNo). u.0) at)))

told_by : (plan : PlanView) (n : Notes) (sets : ℕ → ℕ → FactSet) → IsPlan plan → AreSettled plan n sets → (closing : Option ℕ) (done : ℕ) (d : DrainView) → Stands plan n closing done d → StandsBy plan n closing done d → IsTold plan closing done sets d
told_by plan n sets ok settled None done d r is = ap (λ (d : DrainView). d.stage) is
told_by plan n sets ok settled (Some closing) done d r (inl t) = inl record {
  stage = t.stage;
  are_sets = known_sets plan n d.session d.sets sets settled (from_one plan d.session ok r.own.controlled) (of_plan plan d.session ok r.own.controlled) (places_of_plan plan d.session ok r.own.controlled) t.known;
  from = let p = t.polls in omega (arith, p);
  to = t.to;
  polls = t.polls;
  alone = t.alone;
}
told_by plan n sets ok settled (Some closing) done d r (inr w) = inr record {
  stage = w.stage;
  entry = w.entry;
  last = w.last;
  noted = let r = w.tie.last w.entry w.last in (r.index, r.within, r.is_there);
  working = w.working;
  other = other_task plan n closing done d w;
  polls = w.polls;
}

pub told : (plan : PlanView) (n : Notes) (sets : ℕ → ℕ → FactSet) (closing : Option ℕ) (done : ℕ) (d : DrainView) → IsPlan plan → AreSettled plan n sets → Stands plan n closing done d → IsTold plan closing done sets d
told plan n sets closing done d ok settled r = told_by plan n sets ok settled closing done d r r.by

-- the sessions of a control that its pass is tied to are those of the task

above_first : (x : SessNo) (xs : List SessNo) (s : ℕ) → AllPairs (λ (s t : SessNo). s.0 < t.0) (x ∷ xs) → has_session xs s ≡ true → x.0 < s
above_first x xs s rising has =
    let a = any_at (λ (t : SessNo). nat_eq t.0 s) xs x has in
    let up : x.0 < (get_or xs a.0 x).0 = rising 0 (suc a.0) x (omega arith) (let l = a.1 in omega (arith, l)) in
    let e = eqb-true _ s a.2 in omega (arith, up, e)

rising_tail : (x : SessNo) (xs : List SessNo) → AllPairs (λ (s t : SessNo). s.0 < t.0) (x ∷ xs) → AllPairs (λ (s t : SessNo). s.0 < t.0) xs
rising_tail x xs rising i j d lt l = rising (suc i) (suc j) d (omega arith) (omega arith)

has_first : (x : SessNo) (xs : List SessNo) → has_session (x ∷ xs) x.0 ≡ true
has_first x xs = or_left (nat_eq x.0 x.0) (has_session xs x.0) (eq-eqb x.0 x.0 refl)

not_above : (x : SessNo) (xs : List SessNo) (y : SessNo) (ys : List SessNo) → AllPairs (λ (s t : SessNo). s.0 < t.0) (y ∷ ys) → ((s : ℕ) → has_session (x ∷ xs) s ≡ has_session (y ∷ ys) s) → y.0 ≤ x.0
not_above x xs y ys rising same = ⊎_elim
    (λ (e : nat_eq y.0 x.0 ≡ true). let z = eqb-true y.0 x.0 e in omega (arith, z))
    (λ (has : has_session ys x.0 ≡ true). let up = above_first y ys x.0 rising has in omega (arith, up))
    (or_cases (nat_eq y.0 x.0) (has_session ys x.0) (sym (same x.0) ∙ has_first x xs))

abbrev session : ℕ → SessNo
session k = record { 0 = k }

not_there : (x : SessNo) (xs : List SessNo) → AllPairs (λ (s t : SessNo). s.0 < t.0) (x ∷ xs) → has_session xs x.0 ≡ false
not_there x xs rising = by_test (has_session xs x.0) refl
  where
    by_test : (b : Bool) → has_session xs x.0 ≡ b → b ≡ false
    by_test true e = let up = above_first x xs x.0 rising e in absurd (omega (arith, up))
    by_test false e = refl

pub rising_same : (xs ys : List SessNo) → AllPairs (λ (s t : SessNo). s.0 < t.0) xs → AllPairs (λ (s t : SessNo). s.0 < t.0) ys → ((s : ℕ) → has_session xs s ≡ has_session ys s) → xs ≡ ys
rising_same [] [] rx ry same = refl
rising_same [] (y ∷ ys) rx ry same = absurd (both_ways (has_session (y ∷ ys) y.0) (sym (same y.0)) (has_first y ys))
rising_same (x ∷ xs) [] rx ry same = absurd (both_ways (has_session (x ∷ xs) x.0) (same x.0) (has_first x xs))
rising_same (x ∷ xs) (y ∷ ys) rx ry same =
    let low = not_above x xs y ys ry same in
    let high = not_above y ys x xs rx (λ s. sym (same s)) in
    let first : x ≡ y = ap session (let e : x.0 ≡ y.0 = omega (arith, low, high) in e) in
    let number : x.0 ≡ y.0 = ap (λ (s : SessNo). s.0) first in
    λ i. first i ∷ rising_same xs ys (rising_tail x xs rx) (rising_tail y ys ry) (λ s. by_test s (nat_eq x.0 s) refl number (same s)) i
  where
    by_test : (s : ℕ) (b : Bool) → nat_eq x.0 s ≡ b → x.0 ≡ y.0 → (nat_eq x.0 s || has_session xs s) ≡ (nat_eq y.0 s || has_session ys s) → has_session xs s ≡ has_session ys s
    by_test s true e number h = let z = eqb-true x.0 s e in
        subst (λ k. has_session xs k ≡ false) z (not_there x xs rx) ∙ sym (subst (λ k. has_session ys k ≡ false) (sym number ∙ z) (not_there y ys ry))
    by_test s false e number h = ap (λ b. b || has_session xs s) (sym e) ∙ (h ∙ ap (λ b. b || has_session ys s) (ap (λ k. nat_eq k s) (sym number) ∙ e))

pub its_sessions : (plan : PlanView) (n : Notes) (c : ControlView) (t : ℕ) → IsPlan plan → IsTied plan n c → n.bears ≡ Some t → sessions_of plan t ≡ c.sessions
its_sessions plan n c t ok tie own =
    let first = first_tied plan root_notes t ok (λ p h. refl) in
    rising_same (sessions_of plan t) c.sessions first.rising tie.rising (λ s. first.keeps s ∙ sym (tie.keeps s ∙ ap (λ (o : Option ℕ). keeps_session_as plan o n.out s) own))

first_numbers : (plan : PlanView) (ss : List SessNo) → map (λ (d : DrainView). d.session) (map (λ (s : SessNo). unused plan s.0) ss) ≡ map (λ (s : SessNo). s.0) ss
first_numbers plan [] = refl
first_numbers plan (s ∷ ss) = ap (λ (ks : List ℕ). s.0 ∷ ks) (first_numbers plan ss)

pub first_sessions : (plan : PlanView) (n : Notes) (c : ControlView) (ds : List DrainView) → IsPlan plan → IsTied plan n c → n.bears ≡ Some (bearer n) → ds ≡ first_drains plan (bearer n) →
    map (λ (d : DrainView). d.session) ds ≡ map (λ (s : SessNo). s.0) c.sessions
first_sessions plan n c ds ok tie own is = ap (map (λ (d : DrainView). d.session)) is ∙ (first_numbers plan (sessions_of plan (bearer n)) ∙ ap (map (λ (s : SessNo). s.0)) (its_sessions plan n c (bearer n) ok tie own))
