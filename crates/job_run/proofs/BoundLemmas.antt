-- What a task's pass leaves of the task's sessions, passes joined one after the other, and the bounds of the sets.
use Rattle.std.proofs.Common.{◌≡◌, ◌↔◌, ℕ, ◌+◌, ◌*◌, ◌<◌, ◌≤◌, ◌^◌, Bool, true, false, ◌&&◌, ◌||◌, ◌==◌, if◌then◌else◌, nat_eq, Option, Some, None, List, [], ◌∷◌, ◌++◌, length, get_or, take, drop, All, inl, inr, refl, sym, ◌∙◌, ap, subst, arith, eqb-true, eq-eqb, zero-add}
use Rattle.std.proofs.Math.Bool.{and-false, and-true}
use Rattle.std.specs.List.{filter}
use Rattle.std.proofs.lemmas.Bool.{or_cases, or_left, or_right, and_from, both_ways, cases_Bool, and_right}
use Rattle.std.proofs.lemmas.List.{get_or_default, take-append-drop}
use Rattle.std.proofs.lemmas.List.Folds.{list_any-append}
use Rattle.std.proofs.lemmas.List.Sums.{sum_by_push}
use Rattle.cov_base.specs.Meaning.{FactSet, has_fact, same_fact, fact_of, Visit}
use Rattle.cov_base.specs.declared.facts.Fact.{Fact}
use Rattle.cov_base.specs.declared.numbers.PlaceNo.{PlaceNo}
use Rattle.cov_base.specs.declared.numbers.SessNo.{SessNo}
use Rattle.cov_base.specs.declared.numbers.TaskNo.{TaskNo}
use Rattle.cov_base.proofs.Laws.{has_fact-union, has_fact-full_of}
use Rattle.module_area.specs.declared.cells.Cell.{Cell}
use Rattle.module_area.specs.declared.places.Place.{Place}
use Rattle.module_area.specs.declared.tallies.Tally.{Tally}
use Rattle.module_area.specs.Meaning.{PlanView, ControlledView, place_of, kind_at, has_place, ControlView, first_control, places_under, executes, facts_at, facts_of_all, is_place, FinalsView, set_at, has_session}
use Rattle.module_area.specs.Rule.{IsPlan, IsControlled, has_task, is_controller}
use Rattle.module_area.specs.Ended.{HasSets}
use Rattle.module_area.specs.Notes.{Notes, bearer, calls, keeps, split_notes, after_join}
use Rattle.module_area.specs.Tied.{keeps_session_as, IsTied}
use Rattle.module_area.proofs.Laws.{any_at, any_shown, one_controller, has_here, places_at, at_place}
use Rattle.brk_table.proofs.Laws.{is_place-there}
use Rattle.task_run.specs.Answered.{Answered, ArePairs, IsPair}
use Rattle.task_run.specs.Meaning.{at_places, facts_under, is_under, control_by, places_in_all, Walk, is_opened, visits_under, last_control, opened_by, closed_by, least_set, most_set, traces_but, IsBetween}
use Rattle.task_run.proofs.Laws.{has_fact-more, closes_closed, facts_at-kind}
use Rattle.task_run.specs.Controlled.{last_by, Follows, HasWindows, HasPlanted}
use Rattle.job_run.specs.Meaning.{IsBounded}
use Rattle.job_run.proofs.ExactLemmas.{has_fetched, have_none, have_more, one_of, with_task}
use Rattle.job_run.specs.Bounds.{IsOwn, Leaves, JoinsTasks, NeverOpens, no_controlled}

-- facts of visits while a session is open, and of pairs under its odd tag

-- one visit at a place, whose pair has the place's number, or another
same_step : (plan : PlanView) (old : Notes) (last : ℕ → ℕ → ℕ) (s p : ℕ) (open_at : ℕ → Bool) (x : ℕ × Cell) (v : Visit) →
    ((before : ℕ) → nat_eq (last before p + 1) (2 * s) ≡ open_at before) → keeps plan old p ≡ true → p < length plan.places → IsPair plan old last x v →
    (open_at v.before && executes (place_of plan.places p) v) ≡ is_under s p x v
same_step plan old last s p open_at x v window kept exists pair = elim (cases_Bool (nat_eq x.0 p)) [
  | inl here ↦
      let e : x.0 ≡ p = eqb-true x.0 p here in
      let tag : x.1.tag ≡ last v.before p = subst (λ (q : ℕ). keeps plan old q ≡ true → x.1.tag ≡ last v.before q) e pair.kept kept in
      let at : (v.at == (place_of plan.places p).at) ≡ true = eq-eqb v.at (place_of plan.places p).at (sym (ap (λ (q : ℕ). (place_of plan.places q).at) (sym e) ∙ pair.begins.begins)) in
      let odd : nat_eq (x.1.tag + 1) (2 * s) ≡ open_at v.before = ap (λ (k : ℕ). nat_eq (k + 1) (2 * s)) tag ∙ window v.before in
      rw (at, here, odd) (there v.begun (open_at v.before))
  | inr other ↦
      let not_at : (v.at == (place_of plan.places p).at) ≡ false = elim (cases_Bool (v.at == (place_of plan.places p).at)) [
        | inl e ↦ absurd (both_ways (nat_eq x.0 p) other (eq-eqb x.0 p (sym (pair.begins.only p exists (sym (eqb-true v.at (place_of plan.places p).at e))))))
        | inr e ↦ e
      ] in
      rw (not_at, other) (nowhere v.begun (open_at v.before))
]
  where
    there : (b o : Bool) → (o && (b && true)) ≡ ((true && o) && b)
    there b o = ap (λ q. o && q) (and-true b)

    nowhere : (b o : Bool) → (o && (b && false)) ≡ ((false && o) && b)
    nowhere b o = and_right o (b && false) (and-false b)

-- the facts of a visit where the session is open
filtered : (place : Place) (o : Bool) (v : Visit) (vs : List Visit) (f : Fact) →
    has_fact (facts_at place (if o then v ∷ vs else vs)) f ≡ (((o && executes place v) && same_fact f (fact_of place.kind v.went)) || has_fact (facts_at place vs) f)
filtered place true v vs f = has_fact-more (executes place v) (fact_of place.kind v.went) f (facts_at place vs)
filtered place false v vs f = refl

-- a visit at no place shows nothing at this one
elsewhere : (plan : PlanView) (p : ℕ) (v : Visit) (o : Bool) → p < length plan.places → is_place plan.places v.at ≡ false → (o && executes (place_of plan.places p) v) ≡ false
elsewhere plan p v o exists none =
    let not_at : (v.at == (place_of plan.places p).at) ≡ false = elim (cases_Bool (v.at == (place_of plan.places p).at)) [
      | inl e ↦ absurd (both_ways (is_place plan.places v.at) none (is_place-there plan.places p v.at exists (sym (eqb-true v.at (place_of plan.places p).at e))))
      | inr e ↦ e
    ] in
    rw not_at (and_right o (v.begun && false) (and-false v.begun))

same_under : (plan : PlanView) (old : Notes) (last : ℕ → ℕ → ℕ) (s p : ℕ) (open_at : ℕ → Bool) (f : Fact) →
    ((before : ℕ) → nat_eq (last before p + 1) (2 * s) ≡ open_at before) → keeps plan old p ≡ true → p < length plan.places →
    (pairs : List (ℕ × Cell)) (vs : List Visit) → ArePairs plan old last pairs (at_places plan.places vs) →
    has_fact (facts_at (place_of plan.places p) (filter (λ (v : Visit). open_at v.before) vs)) f ≡ has_fact (facts_under plan s p pairs (at_places plan.places vs)) f
same_under plan old last s p open_at f window kept exists [] [] each = refl
same_under plan old last s p open_at f window kept exists (x ∷ xs) [] each = absurd each
same_under plan old last s p open_at f window kept exists pairs (v ∷ vs) each =
    by_place (λ xs more. same_under plan old last s p open_at f window kept exists xs vs more) (is_place plan.places v.at) refl pairs each
  where
    place : Place
    place = place_of plan.places p

    its : List Visit
    its = filter (λ (w : Visit). open_at w.before) vs

    ws : List Visit
    ws = at_places plan.places vs

    by_place : ((xs : List (ℕ × Cell)) → ArePairs plan old last xs ws → has_fact (facts_at place its) f ≡ has_fact (facts_under plan s p xs ws) f) →
        (q : Bool) → is_place plan.places v.at ≡ q → (pairs : List (ℕ × Cell)) → ArePairs plan old last pairs (if q then v ∷ ws else ws) →
        has_fact (facts_at place (if open_at v.before then v ∷ its else its)) f ≡ has_fact (facts_under plan s p pairs (if q then v ∷ ws else ws)) f
    by_place rest true e [] each = absurd each
    by_place rest true e (x ∷ xs) each =
        filtered place (open_at v.before) v its f
        ∙ (ap (λ (b : Bool). (b && same_fact f (fact_of place.kind v.went)) || has_fact (facts_at place its) f) (same_step plan old last s p open_at x v window kept exists each.0)
        ∙ (ap (λ (b : Bool). (is_under s p x v && same_fact f (fact_of place.kind v.went)) || b) (rest xs each.1)
        ∙ sym (has_fact-more (is_under s p x v) (fact_of (kind_at plan p) v.went) f (facts_under plan s p xs ws))))
    by_place rest false e pairs each =
        filtered place (open_at v.before) v its f
        ∙ (ap (λ (b : Bool). (b && same_fact f (fact_of place.kind v.went)) || has_fact (facts_at place its) f) (elsewhere plan p v (open_at v.before) exists e)
        ∙ rest pairs each)

-- the window as a test

as_test : (k s : ℕ) (o : Option SessNo) → (k ≡ 2 * s) ↔ (o ≡ Some (record { 0 = s })) → nat_eq k (2 * s) ≡ is_opened s o
as_test k s o same = elim (cases_Bool (nat_eq k (2 * s))) [
  | inl e ↦ let is : is_opened s o ≡ is_opened s (Some (record { 0 = s })) = ap (is_opened s) (same.0 (eqb-true k (2 * s) e)) in e ∙ sym (is ∙ eq-eqb s s refl)
  | inr e ↦ e ∙ sym (not_open o same e)
]
  where
    not_open : (o : Option SessNo) → (k ≡ 2 * s) ↔ (o ≡ Some (record { 0 = s })) → nat_eq k (2 * s) ≡ false → is_opened s o ≡ false
    not_open None same e = refl
    not_open (Some t) same e = elim (cases_Bool (nat_eq t.0 s)) [
      | inl here ↦
          let is : Some t ≡ Some (record { 0 = s }) = ap (λ (n : ℕ). Some (record { 0 = n })) (eqb-true t.0 s here) in
          absurd (both_ways (nat_eq k (2 * s)) e (eq-eqb k (2 * s) (same.1 is)))
      | inr other ↦ other
    ]

-- a task's own places

own_controller : (plan : PlanView) (t s p : ℕ) → IsOwn plan t s p → is_controller plan t p ≡ true
own_controller plan t s p own =
    any_shown (λ (c : ControlledView). nat_eq c.by t && has_place c.places p) plan.controlled no_controlled own.at own.exists
    (and_from (nat_eq (get_or plan.controlled own.at no_controlled).by t) (has_place (get_or plan.controlled own.at no_controlled).places p) (eq-eqb _ _ own.by) own.place)

own_session : (plan : PlanView) (n : Notes) (d : ControlView) (t s p : ℕ) → IsTied plan n d → n.bears ≡ Some t → IsOwn plan t s p → has_session d.sessions s ≡ true
own_session plan n d t s p tied bears own =
    tied.keeps s ∙ (ap (λ (o : Option ℕ). keeps_session_as plan o n.out s) bears
    ∙ any_shown (λ (c : ControlledView). nat_eq c.session s && nat_eq c.by t) plan.controlled no_controlled own.at own.exists
    (and_from (nat_eq (get_or plan.controlled own.at no_controlled).session s) (nat_eq (get_or plan.controlled own.at no_controlled).by t) (eq-eqb _ _ own.session) (eq-eqb _ _ own.by)))

own_place : (plan : PlanView) (t s p : ℕ) → IsPlan plan → IsOwn plan t s p → has_place (places_under plan s) p ≡ true
own_place plan t s p is own = ap (λ (ps : List PlaceNo). has_place ps p) (places_at plan.controlled s own.at is.apart own.exists own.session) ∙ own.place

own_exists : (plan : PlanView) (t s p : ℕ) → IsPlan plan → IsOwn plan t s p → p < length plan.places
own_exists plan t s p is own =
    let c : ControlledView = get_or plan.controlled own.at no_controlled in
    at_place (λ (q : ℕ). q < length plan.places) c.places p (is.controlled own.at no_controlled own.exists).of_plan own.place

-- the facts of a task's own visits while its session is open are those of its pairs under the session's odd tag
own_facts : (plan : PlanView) (walks : ℕ → Walk) (t : ℕ) (root n : Notes) (s p : ℕ) (f : Fact) → IsPlan plan → IsTied plan (split_notes plan root t) (first_control plan t) →
    HasWindows plan (split_notes plan root t) (first_control plan t) (walks t).calls →
    (a : Answered plan (split_notes plan root t) n (last_by plan (split_notes plan root t) (first_control plan t) (walks t).calls) (walks t).trace) → IsOwn plan t s p →
    has_fact (least_set plan walks t s (place_of plan.places p)) f ≡ has_fact (facts_under plan s p a.pairs (at_places plan.places (walks t).trace)) f
own_facts plan walks t root n s p f is tied windows a own =
    same_under plan (split_notes plan root t) (last_by plan (split_notes plan root t) (first_control plan t) (walks t).calls) s p
    (λ before. is_opened s (control_by (first_control plan t) (take before (walks t).calls)).opened) f
    (λ before. as_test _ s _ (windows.exact before (record { 0 = s }) p (own_session plan (split_notes plan root t) (first_control plan t) t s p tied refl own) (own_place plan t s p is own)))
    (own_controller plan t s p own) (own_exists plan t s p is own) a.pairs (walks t).trace a.each

-- a session that wasn't opened is yet to be

behind : (sessions : List SessNo) (n s : ℕ) → has_session sessions s ≡ true → has_session (take n sessions) s ≡ false → has_session (drop n sessions) s ≡ true
behind sessions n s has none = elim (or_cases (has_session (take n sessions) s) (has_session (drop n sessions) s) (sym (list_any-append (λ (u : SessNo). nat_eq u.0 s) (take n sessions) (drop n sessions)) ∙ (ap (λ (ss : List SessNo). has_session ss s) (take-append-drop n sessions) ∙ has))) [
  | inl first ↦ absurd (both_ways (has_session (take n sessions) s) none first)
  | inr last ↦ last
]

-- at the places of an own session that was never opened the last tag is below the session's
own_last : (plan : PlanView) (n : Notes) (d : ControlView) (t s p : ℕ) → IsPlan plan → IsTied plan n d → n.bears ≡ Some t → IsOwn plan t s p → has_session (opened_by d) s ≡ false → n.last p + 1 < 2 * s
own_last plan n d t s p is tied bears own never =
    let none : SessNo = record { 0 = s } in
    let there = any_at (λ (u : SessNo). nat_eq u.0 s) (drop d.next d.sessions) none (behind d.sessions d.next s (own_session plan n d t s p tied bears own) never) in
    let all = tied.later there.0 none there.1 in
    let later : All (λ (q : PlaceNo). n.last q.0 + 1 < 2 * s) (places_under plan s) =
    subst (λ (k : ℕ). All (λ (q : PlaceNo). n.last q.0 + 1 < 2 * k) (places_under plan k)) (eqb-true _ _ there.2) all in
    at_place (λ (k : ℕ). n.last k + 1 < 2 * s) (places_under plan s) p later (own_place plan t s p is own)

-- what the pass of a task leaves
pub leaves : (plan : PlanView) (walks : ℕ → Walk) (t : ℕ) (root n : Notes) (d : ControlView) → IsPlan plan → ((p : ℕ) → is_controller plan t p ≡ true → root.last p ≡ 0) → IsTied plan (split_notes plan root t) (first_control plan t) →
    Follows plan (split_notes plan root t) n (walks t).trace (walks t).calls (first_control plan t) d → HasWindows plan (split_notes plan root t) (first_control plan t) (walks t).calls →
    HasPlanted plan (split_notes plan root t) n d → IsTied plan n d → calls n < 2 ^ 42 → Leaves plan walks t n
leaves plan walks t root n d is none first follows windows planted tied few =
    let last : d ≡ last_control plan walks t = follows.control in
    let bears : n.bears ≡ Some t = follows.observes.grows.bears in
    record {
      least = λ s p f own there. follows.answered.shown s p f (sym (own_facts plan walks t root n s p f is first windows follows.answered own) ∙ there);
      most = λ s p f m. record {
        shows = elim (follows.observes.nothing_else s p f m) [ inl before ↦ absurd (never before) | inr shows ↦ shows.there ];
        own = λ own. elim (follows.answered.nothing_else s p f m) [
          | inl before ↦ absurd (never before)
          | inr there ↦ own_facts plan walks t root n s p f is first windows follows.answered own ∙ there
        ];
      };
      last = λ s p own none. own_last plan n d t s p is tied bears own (ap (λ (c : ControlView). has_session (opened_by c) s) last ∙ none);
      plants = planted.plants ∙ (zero-add _ ∙ ap (λ (c : ControlView). places_in_all plan (opened_by c)) last);
      closes = closes_closed plan (split_notes plan root t) n d planted tied ∙ (zero-add _ ∙ ap (λ (c : ControlView). places_in_all plan (closed_by c)) last);
      few = few;
      fetches = follows.answered.pairs;
      fetched = has_fetched plan walks t root n d none first follows;
    }
  where
    never : false ≡ true → ⊥
    never e = cc

-- passes joined one after the other

-- before any is joined
pub joins_none : (plan : PlanView) (walks : ℕ → Walk) (old new : Notes) → ((s p : ℕ) (f : Fact) → new.marked s p f ≡ false) → new.tally ≡ old.tally → new.beats ≡ old.beats → JoinsTasks plan walks [] old new
joins_none plan walks old new unmarked same own = record {
  own = own;
  least = λ t s p f never. absurd cc;
  most = λ s p f m. absurd (both_ways (new.marked s p f) (unmarked s p f) m);
  last = λ t s p never. absurd cc;
  plants = omega (arith, ap (λ (t : Tally). t.plants) same);
  closes = omega (arith, ap (λ (t : Tally). t.closes) same);
  fetches = λ t. [];
  fetched = have_none plan walks new unmarked;
}

of_before : (tasks : List TaskNo) (t u : ℕ) → has_task tasks u ≡ true → has_task (tasks ++ record { 0 = t } ∷ []) u ≡ true
of_before tasks t u h = list_any-append (λ (w : TaskNo). nat_eq w.0 u) tasks (record { 0 = t } ∷ []) ∙ or_left (has_task tasks u) (nat_eq t u || false) h

of_last : (tasks : List TaskNo) (t : ℕ) → has_task (tasks ++ record { 0 = t } ∷ []) t ≡ true
of_last tasks t = list_any-append (λ (w : TaskNo). nat_eq w.0 t) tasks (record { 0 = t } ∷ []) ∙ or_right (has_task tasks t) (nat_eq t t || false) (or_left (nat_eq t t) false (eq-eqb t t refl))

pub joins_one : (plan : PlanView) (walks : ℕ → Walk) (tasks : List TaskNo) (t : ℕ) (old mid other : Notes) → IsPlan plan → bearer other ≡ t → has_task tasks t ≡ false → JoinsTasks plan walks tasks old mid → Leaves plan walks t other →
    JoinsTasks plan walks (tasks ++ record { 0 = t } ∷ []) old (after_join plan mid other)
joins_one plan walks tasks t old mid other is bears first j l =
    let planted = sum_by_push (λ (u : TaskNo). places_in_all plan (opened_by (last_control plan walks u.0))) tasks (record { 0 = t }) in
    let closed = sum_by_push (λ (u : TaskNo). places_in_all plan (closed_by (last_control plan walks u.0))) tasks (record { 0 = t }) in
    record {
      least = λ u s p f has own there. elim (one_of tasks t u has) [
        | inl before ↦ elim (j.least u s p f before own there) [ inl m ↦ inl (or_left (mid.marked s p f) (other.marked s p f) m) | inr m ↦ inr (or_left (mid.full s p) (other.full s p) m) ]
        | inr same ↦ elim (l.least s p f (subst (λ (k : ℕ). IsOwn plan k s p) (sym same) own) (subst (λ (k : ℕ). has_fact (least_set plan walks k s (place_of plan.places p)) f ≡ true) (sym same) there)) [
          | inl m ↦ inl (or_right (mid.marked s p f) (other.marked s p f) m)
          | inr m ↦ inr (or_right (mid.full s p) (other.full s p) m)
        ]
      ];
      most = λ s p f m. elim (or_cases (mid.marked s p f) (other.marked s p f) m) [
        | inl before ↦ let one = j.most s p f before in record { task = one.task; there = of_before tasks t one.task one.there; is = one.is }
        | inr now ↦ record { task = t; there = of_last tasks t; is = l.most s p f now }
      ];
      last = λ u s p has own never. elim (cases_Bool (is_controller plan (bearer other) p)) [
        | inl its ↦
            let its' : is_controller plan t p ≡ true = ap (λ (k : ℕ). is_controller plan k p) (sym bears) ∙ its in
            let same : u ≡ t = one_controller plan u t p is (own_controller plan u s p own) its' in
            rw its (l.last s p (subst (λ (k : ℕ). IsOwn plan k s p) same own) (subst (λ (k : ℕ). NeverOpens plan walks k s) same never))
        | inr not_its ↦ rw not_its (elim (one_of tasks t u has) [
          | inl before ↦ j.last u s p before own never
          | inr same ↦
              let its : is_controller plan (bearer other) p ≡ true = ap (λ (k : ℕ). is_controller plan k p) (bears ∙ same) ∙ own_controller plan u s p own in
              absurd (both_ways (is_controller plan (bearer other) p) not_its its)
        ])
      ];
      plants = omega (arith, planted, j.plants, l.plants);
      closes = omega (arith, closed, j.closes, l.closes);
      own = j.own;
      fetches = with_task j.fetches t l.fetches;
      fetched = have_more plan walks tasks t mid other j.fetches l.fetches is bears first j.fetched l.fetched;
    }

-- the bounds of a controlled session's set

-- the facts of one of the traces are among those of all
fact_of_other : (walks : ℕ → Walk) (tasks : List TaskNo) (place : Place) (by t : ℕ) (f : Fact) → has_task tasks t ≡ true → nat_eq t by ≡ false → has_fact (facts_at place (walks t).trace) f ≡ true →
    has_fact (facts_of_all place (traces_but walks tasks by)) f ≡ true
fact_of_other walks [] place by t f has other there = absurd cc
fact_of_other walks (u ∷ us) place by t f has other there = by_first (λ more. fact_of_other walks us place by t f more other there) (nat_eq u.0 by) refl
  where
    by_first : (has_task us t ≡ true → has_fact (facts_of_all place (traces_but walks us by)) f ≡ true) → (q : Bool) → nat_eq u.0 by ≡ q → has_fact (facts_of_all place (if q then traces_but walks us by else (walks u.0).trace ∷ traces_but walks us by)) f ≡ true
    by_first later true e = elim (or_cases (nat_eq u.0 t) (has_task us t) has) [
      | inl same ↦ absurd (both_ways (nat_eq t by) other (ap (λ (k : ℕ). nat_eq k by) (sym (eqb-true u.0 t same)) ∙ e))
      | inr rest ↦ later rest
    ]
    by_first later false e =
        has_fact-union (facts_at place (walks u.0).trace) (facts_of_all place (traces_but walks us by)) f
        ∙ elim (or_cases (nat_eq u.0 t) (has_task us t) has) [
          | inl same ↦ or_left _ _ (ap (λ (k : ℕ). has_fact (facts_at place (walks k).trace) f) (eqb-true u.0 t same) ∙ there)
          | inr rest ↦ or_right (has_fact (facts_at place (walks u.0).trace) f) _ (later rest)
        ]

-- a session's set where its controller's run is one of the plan's
between : (plan : PlanView) (walks : ℕ → Walk) (old ended : Notes) (finals : FinalsView) (by s p : ℕ) → IsPlan plan → JoinsTasks plan walks plan.tasks old ended → HasSets plan ended finals →
    has_task plan.tasks by ≡ true → IsOwn plan by s p → 0 < s → s ≤ plan.sessions → p < length plan.places →
    IsBetween (least_set plan walks by s (place_of plan.places p)) (most_set plan walks by s (place_of plan.places p)) (set_at finals s p)
between plan walks old ended finals by s p is j sets its own some most l = record {
  least = λ f there. elim (j.least by s p f its own there) [
    | inl marked ↦ sets.marked s p f some most l ∙ marked
    | inr full ↦ ap (λ (x : FactSet). has_fact x f) (sets.full s p some most l full) ∙ has_fact-full_of (kind_at plan p) f (facts_at-kind (place_of plan.places p) (visits_under (first_control plan by) (walks by).calls s (walks by).trace) f there)
  ];
  most = λ f has.
      let marked : ended.marked s p f ≡ true = sym (sets.marked s p f some most l) ∙ has in
      let planted : 2 * s ≤ ended.last p + 1 = sets.planted s p f some most l has in
      let one = j.most s p f marked in
      rw (opens planted) (has_fact-union (least_set plan walks by s (place_of plan.places p)) (facts_of_all (place_of plan.places p) (traces_but walks plan.tasks by)) f ∙ elim (cases_Bool (nat_eq one.task by)) [
        | inl same ↦
            let e : one.task ≡ by = eqb-true one.task by same in
            or_left _ _ (subst (λ (k : ℕ). has_fact (least_set plan walks k s (place_of plan.places p)) f ≡ true) e (one.is.own (subst (λ (k : ℕ). IsOwn plan k s p) (sym e) own)))
        | inr other ↦ or_right (has_fact (least_set plan walks by s (place_of plan.places p)) f) _ (fact_of_other walks plan.tasks (place_of plan.places p) by one.task f one.there other one.is.shows)
      ]);
}
  where
    opens : 2 * s ≤ ended.last p + 1 → has_session (opened_by (last_control plan walks by)) s ≡ true
    opens planted = elim (cases_Bool (has_session (opened_by (last_control plan walks by)) s)) [
      | inl is_one ↦ is_one
      | inr never ↦ absurd (omega (arith, planted, j.last by s p its own never))
    ]

pub bounded : (plan : PlanView) (walks : ℕ → Walk) (old ended : Notes) (finals : FinalsView) → IsPlan plan → JoinsTasks plan walks plan.tasks old ended → HasSets plan ended finals →
    All (IsBounded plan walks finals) plan.controlled
bounded plan walks old ended finals is j sets i d l = record {
  between = λ k q lk.
      let c : ControlledView = get_or plan.controlled i d in
      let it : IsControlled plan c = is.controlled i d l in
      let same : get_or plan.controlled i no_controlled ≡ c = get_or_default plan.controlled i no_controlled d l in
      let own : IsOwn plan c.by c.session (get_or c.places k q).0 = record {
        at = i;
        exists = l;
        session = ap (λ (x : ControlledView). x.session) same;
        by = ap (λ (x : ControlledView). x.by) same;
        place = ap (λ (x : ControlledView). has_place x.places (get_or c.places k q).0) same ∙ has_here c.places k q lk;
      } in
      between plan walks old ended finals c.by c.session (get_or c.places k q).0 is j sets it.by_task own it.from it.to (it.of_plan k q lk);
}
