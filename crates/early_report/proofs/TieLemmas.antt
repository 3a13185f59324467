-- How a drain stands to its pass, while this goes on.
use Rattle.std.proofs.Common.{◌≡◌, ℕ, zero, suc, ◌+◌, ◌-◌, ◌<◌, ◌≤◌, Bool, true, false, not, if◌then◌else◌, nat_eq, Option, Some, None, List, [], ◌∷◌, ◌++◌, length, get_or, map, drop, All, refl, sym, ◌∙◌, ap, subst, arith, eq-eqb}
use mathlib.Core.Logic.{dite}
use native.Mathlib.Decide.{dec_le}
use Rattle.std.proofs.lemmas.List.{get_or-drop, get_or_default, length-drop, length-map, length-replicate}
use Rattle.std.proofs.lemmas.List.Elements.{All-filter}
use Rattle.cov_base.specs.Meaning.{FactSet, no_facts}
use Rattle.cov_base.specs.declared.numbers.TaskNo.{TaskNo}
use Rattle.module_area.specs.Meaning.{PlanView, places_under}
use Rattle.module_area.specs.Rule.{has_task}
use Rattle.module_area.specs.Notes.{Notes, NotedView, bearer, is_past}
use Rattle.module_area.proofs.Laws.{any_shown}
use Rattle.early_report.specs.DrainView.{DrainView}
use Rattle.early_report.specs.Meaning.{others}
use Rattle.early_report.specs.Drains.{unused, controller_of, HasClosed, IsReached, IsDrainOf, IsLooking, is_noted, is_over, Begins, Polls, Reads, from_entry, polled}
use Rattle.early_report.specs.declared.drains.Stage.TheVariants.{Begun, Taken}
use Rattle.early_report.proofs.ReadLemmas.{Reads-aside}
use Rattle.early_report.proofs.LookLemmas.{noted_by, past_more, noted_more, is_drained_more, Begins-looks, Begins-tasks, Begins-noted, Polls-looks, Polls-past, drained_by, task_at, no_entry}

pub closed_looks : (plan : PlanView) (old new : Notes) (s : ℕ) → IsLooking old new → HasClosed plan old s → HasClosed plan new s
closed_looks plan old new s r h = subst (λ (n : Notes). HasClosed plan n s) (sym r.same) (record { controlled = h.controlled; own = h.own; seen = h.seen; given = h.given; idle = h.idle })

-- what is known of tasks past the session stays
pub tied_later : (plan : PlanView) (old new : Notes) (d : DrainView) (more : List NotedView) → new.noted ≡ more ++ old.noted → new.bears ≡ old.bears → HasClosed plan new d.session → IsDrainOf plan old d → IsDrainOf plan new d
tied_later plan old new d more noted bears closed tie = record {
  closed = closed;
  tasks = tie.tasks ∙ ap (λ (o : Option ℕ). others plan.tasks (bearer (record old { bears = o }))) (sym bears);
  noted = λ i e l. noted_more plan old new more d.session _ _ noted (tie.noted i e l);
  last = λ e is. let r = tie.last e is in record {
    index = r.index;
    within = r.within;
    is_there = r.is_there;
    before = λ i l. rw noted (past_more plan more old.noted d.session _ (r.before i l));
  };
  sets = tie.sets;
  drained = λ o. is_drained_more plan old new more d.session noted bears (tie.drained o);
}

pub tied_looks : (plan : PlanView) (old new : Notes) (d : DrainView) → IsLooking old new → IsDrainOf plan old d → IsDrainOf plan new d
tied_looks plan old new d r tie = tied_later plan old new d r.more (noted_by old new r) (ap (λ (n : Notes). n.bears) r.same) (closed_looks plan old new d.session r tie.closed) tie

-- the entries' tasks are tasks of the plan
pub tasks_of_plan : (plan : PlanView) (t : ℕ) (es : List (TaskNo × ℕ)) → map (λ (e : TaskNo × ℕ). e.0) es ≡ others plan.tasks t → All (λ (e : TaskNo × ℕ). has_task plan.tasks e.0.0 ≡ true) es
tasks_of_plan plan t es tasks i d l =
    let each : All (λ (u : TaskNo). has_task plan.tasks u.0 ≡ true) (others plan.tasks t) =
    All-filter (λ (u : TaskNo). not (nat_eq u.0 t)) (λ (u : TaskNo). has_task plan.tasks u.0 ≡ true) plan.tasks (λ k u m. any_shown (λ (v : TaskNo). nat_eq v.0 (get_or plan.tasks k u).0) plan.tasks u k m (eq-eqb _ _ refl)) in
    let size = length-map es (λ (e : TaskNo × ℕ). e.0) in
    let at : (get_or (map (λ (e : TaskNo × ℕ). e.0) es) i no_entry.0).0 ≡ (get_or es i d).0.0 = ap (λ (u : TaskNo). u.0) (task_at es i no_entry.0 l ∙ ap (λ (e : TaskNo × ℕ). e.0) (get_or_default es i no_entry d l)) in
    subst (λ k. has_task plan.tasks k ≡ true) at (subst (All (λ (u : TaskNo). has_task plan.tasks u.0 ≡ true)) (sym tasks) each i no_entry.0 (omega (arith, size, l)))

firsts_of : (us : List TaskNo) → map (λ (e : TaskNo × ℕ). e.0) (map (λ (u : TaskNo). (u, 0)) us) ≡ us
firsts_of [] = refl
firsts_of (u ∷ us) = ap (λ (vs : List TaskNo). u ∷ vs) (firsts_of us)

pub unused_tasks : (plan : PlanView) (n : Notes) (d : DrainView) → d ≡ unused plan d.session → HasClosed plan n d.session → map (λ (e : TaskNo × ℕ). e.0) d.noted ≡ others plan.tasks (bearer n)
unused_tasks plan n d first closed = ap (λ (d : DrainView). map (λ (e : TaskNo × ℕ). e.0) d.noted) first ∙ (firsts_of (others plan.tasks (controller_of plan d.session))
    ∙ sym (ap (λ (o : Option ℕ). others plan.tasks (bearer (record n { bears = o }))) closed.own))

-- an unused drain is begun
pub begun_tied : (plan : PlanView) (old new : Notes) (d : DrainView) (es : List (TaskNo × ℕ)) → d ≡ unused plan d.session → HasClosed plan old d.session → Begins old new (others plan.tasks (bearer old)) es →
    IsDrainOf plan new (record d { stage = Begun; noted = es })
begun_tied plan old new d es first closed begins =
    let r = Begins-looks old new (others plan.tasks (bearer old)) es begins in record {
      closed = closed_looks plan old new d.session r closed;
      tasks = Begins-tasks old new (others plan.tasks (bearer old)) es begins ∙ ap (λ (n : Notes). others plan.tasks (bearer n)) (sym r.same);
      noted = Begins-noted plan d.session old new (others plan.tasks (bearer old)) es closed.seen begins;
      last = λ e is. let none : None ≡ Some e = sym (ap (λ (d : DrainView). d.last) first) ∙ is in absurd cc;
      sets = ap (λ (d : DrainView). length d.sets) first ∙ length-replicate (length (places_under plan d.session)) no_facts;
      drained = λ o. absurd cc;
    }

-- the entry at which the last poll has stopped is not before the first one of its task
long_from : (x : TaskNo × ℕ) (es : List (TaskNo × ℕ)) (j : ℕ) → j < length es → get_or es j x ≡ x → length es ≤ length (from_entry (Some x) es) + j
long_from x [] j l at = absurd (omega arith)
long_from x (e ∷ es) zero l at = rw (eq-eqb e.0.0 x.0.0 (ap (λ (y : TaskNo × ℕ). y.0.0) at)) (omega arith)
long_from x (e ∷ es) (suc j) l at = by_test (nat_eq e.0.0 x.0.0) (long_from x es j (omega arith) at)
  where
    by_test : (b : Bool) → length es ≤ length (from_entry (Some x) es) + j → length (e ∷ es) ≤ length (if b then e ∷ es else from_entry (Some x) es) + suc j
    by_test true rest = omega arith
    by_test false rest = omega arith

-- each entry before that from which a poll goes on is past
before_start : (plan : PlanView) (n : Notes) (d : DrainView) (from : ℕ) (o : Option (TaskNo × ℕ)) → d.last ≡ o → IsDrainOf plan n d → from ≤ length d.noted → drop from d.noted ≡ from_entry d.last d.noted →
    (i : ℕ) (e : TaskNo × ℕ) → i < from → is_past plan n.noted d.session (get_or d.noted i e).0.0 ≡ true
before_start plan n d from None is tie within start i e l =
    let whole : drop from d.noted ≡ d.noted = start ∙ ap (λ (o : Option (TaskNo × ℕ)). from_entry o d.noted) is in
    let size = ap (λ (es : List (TaskNo × ℕ)). length es) whole in
    absurd (omega (arith, size, length-drop from d.noted, within, l))
before_start plan n d from (Some x) is tie within start i e l =
    let r = tie.last x is in
    let its : drop from d.noted ≡ from_entry (Some x) d.noted = start ∙ ap (λ (o : Option (TaskNo × ℕ)). from_entry o d.noted) is in
    let size = ap (λ (es : List (TaskNo × ℕ)). length es) its in
    let long = long_from x d.noted r.index r.within r.is_there in
    let m = r.within in
    let low : i < r.index = omega (arith, size, long, length-drop from d.noted, within, l) in
    rw (get_or_default d.noted i e x (omega (arith, low, m))) (r.before i low)

-- what a poll leaves
module _ (plan : PlanView) (old new : Notes) (d : DrainView) (tie : IsDrainOf plan old d) (from : ℕ) (within : from ≤ length d.noted) (start : drop from d.noted ≡ from_entry d.last d.noted) where
  rest_noted : All (λ (e : TaskNo × ℕ). is_noted plan old d.session e.0.0 e.1 ≡ true) (drop from d.noted)
  rest_noted i e l = rw (get_or-drop from d.noted i e) (tie.noted (from + i) e (let size = length-drop from d.noted in omega (arith, size, l)))

  front_past : (answer : Option (TaskNo × ℕ)) → Polls old new (drop from d.noted) answer → (i : ℕ) (e : TaskNo × ℕ) → i < from → is_past plan new.noted d.session (get_or d.noted i e).0.0 ≡ true
  front_past answer p i e l = let r = Polls-looks old new (drop from d.noted) answer p in rw (noted_by old new r) (past_more plan r.more old.noted d.session _ (before_start plan old d from d.last refl tie within start i e l))

  pub pending_tied : (x : TaskNo × ℕ) → Polls old new (drop from d.noted) (Some x) → IsDrainOf plan new (polled d (Some x))
  pending_tied x p =
      let later = tied_looks plan old new d (Polls-looks old new (drop from d.noted) (Some x) p) tie in
      let at = (Polls-past plan d.session old new (drop from d.noted) (Some x) rest_noted p).some x refl in record {
        closed = later.closed;
        tasks = later.tasks;
        noted = later.noted;
        last = λ e is. let same : x ≡ e = cc in subst (IsReached plan new d.session d.noted) same record {
          index = from + at.0;
          within = let size = length-drop from d.noted in let l = at.1 in omega (arith, size, l);
          is_there = sym (get_or-drop from d.noted at.0 x) ∙ at.2;
          before = λ i l. dite (dec_le (suc i) from)
              (λ low. front_past (Some x) p i x low)
              (λ high. let index : from + (i - from) ≡ i = omega (arith, high) in
              subst (λ (e : TaskNo × ℕ). is_past plan new.noted d.session e.0.0 ≡ true) (get_or-drop from d.noted (i - from) x ∙ ap (λ k. get_or d.noted k x) index) (at.3 (i - from) (omega (arith, high, l))));
        };
        sets = later.sets;
        drained = later.drained;
      }

  pub drained_tied : Polls old new (drop from d.noted) None → IsDrainOf plan new (polled d None)
  drained_tied p =
      let later = tied_looks plan old new d (Polls-looks old new (drop from d.noted) None p) tie in
      let rest = (Polls-past plan d.session old new (drop from d.noted) None rest_noted p).all refl in record {
        closed = later.closed;
        tasks = later.tasks;
        noted = later.noted;
        last = later.last;
        sets = later.sets;
        drained = λ o. drained_by plan new d.session (controller_of plan d.session) d.noted later.closed.own
            (later.tasks ∙ ap (λ (o : Option ℕ). others plan.tasks (bearer (record new { bears = o }))) later.closed.own)
            (λ i e l. dite (dec_le (suc i) from)
            (λ low. front_past None p i e low)
            (λ high. let index : from + (i - from) ≡ i = omega (arith, high) in let size = length-drop from d.noted in
            subst (λ (e : TaskNo × ℕ). is_past plan new.noted d.session e.0.0 ≡ true) (get_or-drop from d.noted (i - from) e ∙ ap (λ k. get_or d.noted k e) index) (rest (i - from) e (omega (arith, high, l, size)))));
      }

-- the sets of a drained drain are read
pub taken_tied : (plan : PlanView) (old new : Notes) (d : DrainView) (xs : List FactSet) → IsDrainOf plan old d → is_over d.stage ≡ true → Reads plan d.session old new (places_under plan d.session) xs → length xs ≡ length (places_under plan d.session) →
    IsDrainOf plan new (record d { stage = Taken; sets = xs })
taken_tied plan old new d xs tie over reads size = subst (λ (n : Notes). IsDrainOf plan n (record d { stage = Taken; sets = xs })) (sym (Reads-aside plan d.session old new (places_under plan d.session) xs reads)) record {
  closed = record { controlled = tie.closed.controlled; own = tie.closed.own; seen = tie.closed.seen; given = tie.closed.given; idle = tie.closed.idle };
  tasks = tie.tasks;
  noted = tie.noted;
  last = λ e is. let r = tie.last e is in record { index = r.index; within = r.within; is_there = r.is_there; before = r.before };
  sets = size;
  drained = λ o. tie.drained over;
}
