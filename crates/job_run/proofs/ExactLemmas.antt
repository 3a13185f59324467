-- The fetches of a task's pass, those of passes joined one after the other, and the sets that they make.
use Rattle.std.proofs.Common.{◌≡◌, ◌⊎◌, ℕ, zero, suc, ◌<◌, ◌≤◌, min, max, Bool, true, false, ◌&&◌, ◌||◌, if◌then◌else◌, nat_eq, Option, List, [], ◌∷◌, ◌++◌, length, get_or, take, All, AllPairs, inl, inr, refl, sym, ◌∙◌, ap, subst, arith, eqb-true, eq-eqb}
use Rattle.std.proofs.Math.Bool.{or-false, or_assoc}
use Rattle.std.proofs.lemmas.Bool.{or_cases, or_left, or_right, and_from, and_parts, both_ways, cases_Bool}
use Rattle.std.proofs.lemmas.List.Folds.{list_any-append}
use Rattle.cov_base.specs.Meaning.{FactSet, has_fact, same_fact, fact_of, no_facts, union, Visit}
use Rattle.cov_base.specs.FactKind.{is_of_kind}
use Rattle.cov_base.specs.declared.facts.Fact.{Fact}
use Rattle.cov_base.specs.declared.numbers.TaskNo.{TaskNo}
use Rattle.cov_base.proofs.Laws.{same_fact-true, has_fact-none, has_fact-union, same_sets, is_of_kind-fact_of, has_fact-full_of}
use Rattle.module_area.specs.declared.cells.Cell.{Cell}
use Rattle.module_area.specs.Meaning.{PlanView, ControlledView, ControlView, kind_at, has_place, first_control, FinalsView, set_at, window_beats}
use Rattle.module_area.specs.Rule.{IsPlan, has_task, is_controller}
use Rattle.module_area.specs.Ended.{HasRace, HasSets}
use Rattle.module_area.specs.declared.parties.Beat.{Beat}
use Rattle.module_area.specs.Notes.{Notes, bearer, keeps, split_notes, after_join}
use Rattle.module_area.specs.Tied.{IsTied}
use Rattle.module_area.proofs.Laws.{same_tests, any_shown, one_controller}
use Rattle.task_run.specs.Answered.{known_tag, ArePairs, IsPair}
use Rattle.task_run.specs.Meaning.{at_places, facts_under, is_under, tag_by, Walk, beats_by}
use Rattle.task_run.proofs.Laws.{has_fact-more, rises_all, rises_between, tag_last}
use Rattle.task_run.specs.Controlled.{last_by, Follows}
use Rattle.job_run.specs.Bounds.{HasFetched, HaveFetched}
use Rattle.job_run.specs.Meaning.{IsFetch, AreFetches, facts_met, IsExact}

-- the fetches of a task's pass, before whose run the root has planted nothing where the task controls a session

is_fetch : (plan : PlanView) (t : ℕ) (calls : List (Option ℕ)) (root : Notes) (x : ℕ × Cell) (v : Visit) → ((p : ℕ) → is_controller plan t p ≡ true → root.last p ≡ 0) →
    IsPair plan (split_notes plan root t) (last_by plan (split_notes plan root t) (first_control plan t) calls) x v → IsFetch plan t calls x v
is_fetch plan t calls root x v none pair = record {
  exists = pair.begins.exists;
  at = pair.begins.begins;
  over = pair.over;
  own = λ i d l by place.
      let its : is_controller plan t x.0 ≡ true = any_shown (λ (c : ControlledView). nat_eq c.by t && has_place c.places x.0) plan.controlled d i l
      (and_from (nat_eq (get_or plan.controlled i d).by t) (has_place (get_or plan.controlled i d).places x.0) (eq-eqb _ _ by) place) in
      let first : (split_notes plan root t).last x.0 ≡ 0 = first_tag (is_controller plan t x.0) its in
      pair.kept its ∙ (tag_last plan x.0 (split_notes plan root t) (first_control plan t) (take v.before calls) ∙ ap (λ (tag : ℕ). tag_by plan x.0 (first_control plan t) tag (take v.before calls)) first);
}
  where
    first_tag : (b : Bool) → is_controller plan t x.0 ≡ true → (if b then root.last x.0 else 0) ≡ 0
    first_tag true its = none x.0 its
    first_tag false its = refl

are_fetches : (plan : PlanView) (t : ℕ) (calls : List (Option ℕ)) (root : Notes) (xs : List (ℕ × Cell)) (vs : List Visit) → ((p : ℕ) → is_controller plan t p ≡ true → root.last p ≡ 0) →
    ArePairs plan (split_notes plan root t) (last_by plan (split_notes plan root t) (first_control plan t) calls) xs vs → AreFetches plan t calls xs vs
are_fetches plan t calls root [] [] none each = tt
are_fetches plan t calls root [] (v ∷ vs) none each = absurd each
are_fetches plan t calls root (x ∷ xs) [] none each = absurd each
are_fetches plan t calls root (x ∷ xs) (v ∷ vs) none each = (is_fetch plan t calls root x v none each.0, are_fetches plan t calls root xs vs none each.1)

pub has_fetched : (plan : PlanView) (walks : ℕ → Walk) (t : ℕ) (root n : Notes) (d : ControlView) → ((p : ℕ) → is_controller plan t p ≡ true → root.last p ≡ 0) → IsTied plan (split_notes plan root t) (first_control plan t) →
    (f : Follows plan (split_notes plan root t) n (walks t).trace (walks t).calls (first_control plan t) d) → HasFetched plan walks t n f.answered.pairs
has_fetched plan walks t root n d none tie f = record {
  are = are_fetches plan t (walks t).calls root f.answered.pairs (at_places plan.places (walks t).trace) none f.answered.each;
  rising = rises_all (known_tag plan split) (known_tag plan n) f.answered.pairs (f.rises tie refl);
  most = λ i x l.
      let y : ℕ × Cell = get_or f.answered.pairs i x in
      let high = (rises_between y.0 (known_tag plan split y.0) (known_tag plan n y.0) f.answered.pairs (f.rises tie refl y.0) i x l refl).1 in
      omega (arith, high, known_seen (keeps plan n y.0) (n.last y.0) (n.seen y.0));
  last = λ p its.
      ap (λ (g : ℕ → ℕ). g p) f.last
      ∙ (tag_last plan p split (first_control plan t) (walks t).calls ∙ ap (λ (tag : ℕ). tag_by plan p (first_control plan t) tag (walks t).calls) (first_tag (is_controller plan t p) (root.last p) its (none p)));
  shown = f.answered.shown;
  nothing_else = λ s p g m. elim (f.answered.nothing_else s p g m) [ inl before ↦ absurd (never before) | inr there ↦ there ];
  beats = f.beats;
}
  where
    split : Notes
    split = split_notes plan root t

    first_tag : (b : Bool) (k : ℕ) → b ≡ true → (b ≡ true → k ≡ 0) → (if b then k else 0) ≡ 0
    first_tag true k its none = none refl
    first_tag false k its none = refl

    known_seen : (b : Bool) (last seen : ℕ) → (if b then min last seen else seen) ≤ seen
    known_seen true last seen = omega arith
    known_seen false last seen = omega arith

    never : false ≡ true → ⊥
    never e = cc

-- passes joined one after the other

-- a task joined before, or this one
pub one_of : (tasks : List TaskNo) (t u : ℕ) → has_task (tasks ++ record { 0 = t } ∷ []) u ≡ true → (has_task tasks u ≡ true) ⊎ (t ≡ u)
one_of tasks t u h = elim (or_cases (has_task tasks u) (nat_eq t u || false) (sym (list_any-append (λ (w : TaskNo). nat_eq w.0 u) tasks (record { 0 = t } ∷ [])) ∙ h)) [
  | inl before ↦ inl before
  | inr here ↦ elim (or_cases (nat_eq t u) false here) [ inl same ↦ inr (eqb-true t u same) | inr never ↦ absurd cc ]
]

pub have_none : (plan : PlanView) (walks : ℕ → Walk) (n : Notes) → ((s p : ℕ) (f : Fact) → n.marked s p f ≡ false) → HaveFetched plan walks [] n (λ t. [])
have_none plan walks n unmarked = record {
  each = λ t never. absurd cc;
  rising = λ t never. absurd cc;
  most = λ t never. absurd cc;
  last = λ t p never. absurd cc;
  shown = λ s p f h. absurd (both_ways (has_fact no_facts f) (has_fact-none f) h);
  nothing_else = λ s p f m. absurd (both_ways (n.marked s p f) (unmarked s p f) m);
  beats = λ t never. absurd cc;
}

-- the fetches with those of one task more
abbrev pub with_task : (ℕ → List (ℕ × Cell)) → ℕ → List (ℕ × Cell) → ℕ → List (ℕ × Cell)
with_task fetches t own u = if nat_eq u t then own else fetches u

own_of : (fetches : ℕ → List (ℕ × Cell)) (t : ℕ) (own : List (ℕ × Cell)) → with_task fetches t own t ≡ own
own_of fetches t own = ap (λ (b : Bool). if b then own else fetches t) (eq-eqb t t refl)

-- those of the others stay
met_before : (plan : PlanView) (walks : ℕ → Walk) (fetches : ℕ → List (ℕ × Cell)) (own : List (ℕ × Cell)) (s p t : ℕ) (tasks : List TaskNo) → has_task tasks t ≡ false →
    facts_met plan walks (with_task fetches t own) s p tasks ≡ facts_met plan walks fetches s p tasks
met_before plan walks fetches own s p t [] none = refl
met_before plan walks fetches own s p t (u ∷ us) none = by_first (nat_eq u.0 t) refl none (met_before plan walks fetches own s p t us)
  where
    its : List (ℕ × Cell) → FactSet
    its xs = facts_under plan s p xs (at_places plan.places (walks u.0).trace)

    by_first : (q : Bool) → nat_eq u.0 t ≡ q → (q || has_task us t) ≡ false → (has_task us t ≡ false → facts_met plan walks (with_task fetches t own) s p us ≡ facts_met plan walks fetches s p us) →
        union (its (with_task fetches t own u.0)) (facts_met plan walks (with_task fetches t own) s p us) ≡ union (its (fetches u.0)) (facts_met plan walks fetches s p us)
    by_first true e never rest = absurd cc
    by_first false e none rest =
        let here : with_task fetches t own u.0 ≡ fetches u.0 = ap (λ (b : Bool). if b then own else fetches u.0) e in
        ap (λ (xs : List (ℕ × Cell)). union (its xs) (facts_met plan walks (with_task fetches t own) s p us)) here ∙ ap (λ (more : FactSet). union (its (fetches u.0)) more) (rest none)

-- one task more at the end
met_last : (plan : PlanView) (walks : ℕ → Walk) (fetches : ℕ → List (ℕ × Cell)) (s p : ℕ) (f : Fact) (tasks : List TaskNo) (t : TaskNo) →
    has_fact (facts_met plan walks fetches s p (tasks ++ t ∷ [])) f
    ≡ (has_fact (facts_met plan walks fetches s p tasks) f || has_fact (facts_under plan s p (fetches t.0) (at_places plan.places (walks t.0).trace)) f)
met_last plan walks fetches s p f [] t =
    let own : FactSet = facts_under plan s p (fetches t.0) (at_places plan.places (walks t.0).trace) in
    has_fact-union own no_facts f ∙ (ap (λ (b : Bool). has_fact own f || b) (has_fact-none f) ∙ (or-false (has_fact own f) ∙ ap (λ (b : Bool). b || has_fact own f) (sym (has_fact-none f))))
met_last plan walks fetches s p f (u ∷ us) t =
    let first : FactSet = facts_under plan s p (fetches u.0) (at_places plan.places (walks u.0).trace) in
    let own : FactSet = facts_under plan s p (fetches t.0) (at_places plan.places (walks t.0).trace) in
    let more : FactSet = facts_met plan walks fetches s p us in
    has_fact-union first (facts_met plan walks fetches s p (us ++ t ∷ [])) f
    ∙ (ap (λ (b : Bool). has_fact first f || b) (met_last plan walks fetches s p f us t)
    ∙ (sym (or_assoc (has_fact first f) (has_fact more f) (has_fact own f)) ∙ ap (λ (b : Bool). b || has_fact own f) (sym (has_fact-union first more f))))

met_more : (plan : PlanView) (walks : ℕ → Walk) (fetches : ℕ → List (ℕ × Cell)) (own : List (ℕ × Cell)) (s p : ℕ) (f : Fact) (tasks : List TaskNo) (t : ℕ) → has_task tasks t ≡ false →
    has_fact (facts_met plan walks (with_task fetches t own) s p (tasks ++ record { 0 = t } ∷ [])) f
    ≡ (has_fact (facts_met plan walks fetches s p tasks) f || has_fact (facts_under plan s p own (at_places plan.places (walks t).trace)) f)
met_more plan walks fetches own s p f tasks t none =
    met_last plan walks (with_task fetches t own) s p f tasks (record { 0 = t })
    ∙ (ap (λ (x : FactSet). has_fact x f || has_fact (facts_under plan s p (with_task fetches t own t) (at_places plan.places (walks t).trace)) f) (met_before plan walks fetches own s p t tasks none)
    ∙ ap (λ (xs : List (ℕ × Cell)). has_fact (facts_met plan walks fetches s p tasks) f || has_fact (facts_under plan s p xs (at_places plan.places (walks t).trace)) f) (own_of fetches t own))

pub have_more : (plan : PlanView) (walks : ℕ → Walk) (tasks : List TaskNo) (t : ℕ) (mid other : Notes) (fetches : ℕ → List (ℕ × Cell)) (own : List (ℕ × Cell)) → IsPlan plan → bearer other ≡ t → has_task tasks t ≡ false →
    HaveFetched plan walks tasks mid fetches → HasFetched plan walks t other own → HaveFetched plan walks (tasks ++ record { 0 = t } ∷ []) (after_join plan mid other) (with_task fetches t own)
have_more plan walks tasks t mid other fetches own is bears none h l = record {
  each = λ u has. by_task (λ k xs. AreFetches plan k (walks k).calls xs (visits k)) l.are h.each u (nat_eq u t) refl has;
  rising = λ u has. by_task (λ k xs. AllPairs (λ (x y : ℕ × Cell). x.0 ≡ y.0 → x.1.tag ≤ y.1.tag) xs) l.rising h.rising u (nat_eq u t) refl has;
  most = λ u has. by_task (λ k xs. All (λ (x : ℕ × Cell). x.1.tag ≤ max (mid.seen x.0) (other.seen x.0)) xs)
      (λ i x lt. let high = l.most i x lt in omega (arith, high)) (λ k there i x lt. let high = h.most k there i x lt in omega (arith, high)) u (nat_eq u t) refl has;
  last = λ u p has its. elim (cases_Bool (is_controller plan (bearer other) p)) [
    | inl own ↦
        let own' : is_controller plan t p ≡ true = ap (λ (k : ℕ). is_controller plan k p) (sym bears) ∙ own in
        let same : u ≡ t = one_controller plan u t p is its own' in
        rw own (l.last p own' ∙ ap (λ (k : ℕ). tag_by plan p (first_control plan k) 0 (walks k).calls) (sym same))
    | inr other's ↦ rw other's (elim (one_of tasks t u has) [
      | inl before ↦ h.last u p before its
      | inr same ↦ absurd (both_ways (is_controller plan (bearer other) p) other's (ap (λ (k : ℕ). is_controller plan k p) (bears ∙ same) ∙ its))
    ])
  ];
  shown = λ s p f there. elim (or_cases (has_fact (facts_met plan walks fetches s p tasks) f) (has_fact (under s p) f) (sym (met_more plan walks fetches own s p f tasks t none) ∙ there)) [
    | inl before ↦ elim (h.shown s p f before) [ inl m ↦ inl (or_left (mid.marked s p f) (other.marked s p f) m) | inr m ↦ inr (or_left (mid.full s p) (other.full s p) m) ]
    | inr now ↦ elim (l.shown s p f now) [ inl m ↦ inl (or_right (mid.marked s p f) (other.marked s p f) m) | inr m ↦ inr (or_right (mid.full s p) (other.full s p) m) ]
  ];
  nothing_else = λ s p f m. met_more plan walks fetches own s p f tasks t none ∙ elim (or_cases (mid.marked s p f) (other.marked s p f) m) [
    | inl before ↦ or_left (has_fact (facts_met plan walks fetches s p tasks) f) (has_fact (under s p) f) (h.nothing_else s p f before)
    | inr now ↦ or_right (has_fact (facts_met plan walks fetches s p tasks) f) (has_fact (under s p) f) (l.nothing_else s p f now)
  ];
  beats = λ u has. ap (λ (k : ℕ). if nat_eq u k then other.beats else mid.back u) bears ∙ by_back u (nat_eq u t) refl has;
}
  where
    visits : ℕ → List Visit
    visits u = at_places plan.places (walks u).trace

    under : ℕ → ℕ → FactSet
    under s p = facts_under plan s p own (visits t)

    beats : ℕ → List (ℕ × Cell) → List Beat
    beats k xs = beats_by plan (first_control plan k) 0 (walks k).calls xs (visits k) []

    by_back : (u : ℕ) (q : Bool) → nat_eq u t ≡ q → has_task (tasks ++ record { 0 = t } ∷ []) u ≡ true → (if q then other.beats else mid.back u) ≡ beats u (if q then own else fetches u)
    by_back u true e has = l.beats ∙ ap (λ (k : ℕ). beats k own) (sym (eqb-true u t e))
    by_back u false e has = elim (one_of tasks t u has) [
      | inl there ↦ h.beats u there
      | inr same ↦ absurd (both_ways (nat_eq u t) e (eq-eqb u t (sym same)))
    ]

    by_task : (P : ℕ → List (ℕ × Cell) → Type 0) → P t own → ((u : ℕ) → has_task tasks u ≡ true → P u (fetches u)) → (u : ℕ) (q : Bool) → nat_eq u t ≡ q → has_task (tasks ++ record { 0 = t } ∷ []) u ≡ true → P u (if q then own else fetches u)
    by_task P now before u true e has = subst (λ (k : ℕ). P k own) (sym (eqb-true u t e)) now
    by_task P now before u false e has = elim (one_of tasks t u has) [
      | inl there ↦ before u there
      | inr same ↦ absurd (both_ways (nat_eq u t) e (eq-eqb u t (sym same)))
    ]

-- the sets of the area's end

kind_under : (plan : PlanView) (s p : ℕ) (f : Fact) (xs : List (ℕ × Cell)) (vs : List Visit) → has_fact (facts_under plan s p xs vs) f ≡ true → is_of_kind (kind_at plan p) f ≡ true
kind_under plan s p f [] vs h = absurd (both_ways (has_fact no_facts f) (has_fact-none f) h)
kind_under plan s p f (x ∷ xs) [] h = absurd (both_ways (has_fact no_facts f) (has_fact-none f) h)
kind_under plan s p f (x ∷ xs) (v ∷ vs) h =
    elim (or_cases (is_under s p x v && same_fact f (fact_of (kind_at plan p) v.went)) (has_fact (facts_under plan s p xs vs) f) (sym (has_fact-more (is_under s p x v) (fact_of (kind_at plan p) v.went) f (facts_under plan s p xs vs)) ∙ h)) [
      | inl now ↦
          let same = same_fact-true f (fact_of (kind_at plan p) v.went) (and_parts (is_under s p x v) (same_fact f (fact_of (kind_at plan p) v.went)) now).1 in
          subst (λ (g : Fact). is_of_kind (kind_at plan p) g ≡ true) (sym same) (is_of_kind-fact_of (kind_at plan p) v.went)
      | inr later ↦ kind_under plan s p f xs vs later
    ]

kind_met : (plan : PlanView) (walks : ℕ → Walk) (fetches : ℕ → List (ℕ × Cell)) (s p : ℕ) (f : Fact) (tasks : List TaskNo) → has_fact (facts_met plan walks fetches s p tasks) f ≡ true → is_of_kind (kind_at plan p) f ≡ true
kind_met plan walks fetches s p f [] h = absurd (both_ways (has_fact no_facts f) (has_fact-none f) h)
kind_met plan walks fetches s p f (t ∷ ts) h =
    let visits : List Visit = at_places plan.places (walks t.0).trace in
    elim (or_cases (has_fact (facts_under plan s p (fetches t.0) visits) f) (has_fact (facts_met plan walks fetches s p ts) f) (sym (has_fact-union (facts_under plan s p (fetches t.0) visits) (facts_met plan walks fetches s p ts) f) ∙ h)) [
      | inl now ↦ kind_under plan s p f (fetches t.0) visits now
      | inr later ↦ kind_met plan walks fetches s p f ts later
    ]

-- a fetch is at a place of the plan
fetched_place : (plan : PlanView) (t : ℕ) (calls : List (Option ℕ)) (xs : List (ℕ × Cell)) (vs : List Visit) → AreFetches plan t calls xs vs → (i : ℕ) (d : ℕ × Cell) → i < length xs → (get_or xs i d).0 < length plan.places
fetched_place plan t calls [] vs are i d l = absurd (omega (arith, l))
fetched_place plan t calls (x ∷ xs) [] are i d l = absurd are
fetched_place plan t calls (x ∷ xs) (v ∷ vs) are zero d l = are.0.exists
fetched_place plan t calls (x ∷ xs) (v ∷ vs) are (suc i) d l = fetched_place plan t calls xs vs are.1 i d (omega (arith, l))

pub sets_exact : (plan : PlanView) (walks : ℕ → Walk) (ended : Notes) (finals : FinalsView) (fetches : ℕ → List (ℕ × Cell)) → IsPlan plan → HaveFetched plan walks plan.tasks ended fetches → HasSets plan ended finals
    → HasRace ended → ((t : ℕ) → ended.given t ≡ has_task plan.tasks t) → ended.beats ≡ window_beats plan [] (length plan.windows) → IsExact plan walks finals
sets_exact plan walks ended finals fetches is h sets race given own = record {
  race = race.race;
  is_race = race.is_race;
  windows = race.root ∙ own;
  parts = λ i d l. let t : ℕ = (get_or plan.tasks i d).0 in race.each t (given t ∙ its i d l) ∙ h.beats t (its i d l);
  others = λ t none. race.others t (given t ∙ none);
  fetches = fetches;
  each = λ i d l. h.each (get_or plan.tasks i d).0 (its i d l);
  rising = λ i d l. h.rising (get_or plan.tasks i d).0 (its i d l);
  most = λ i d l j x lx k c lc has.
      let t : ℕ = (get_or plan.tasks i d).0 in
      let y : ℕ × Cell = get_or (fetches t) j x in
      let s : ControlledView = get_or plan.controlled k c in
      let exists : y.0 < length plan.places = fetched_place plan t (walks t).calls (fetches t) (at_places plan.places (walks t).trace) (h.each t (its i d l)) j x lx in
      let its_place : is_controller plan s.by y.0 ≡ true = any_shown (λ (u : ControlledView). nat_eq u.by s.by && has_place u.places y.0) plan.controlled c k lc (and_from (nat_eq s.by s.by) (has_place s.places y.0) (eq-eqb _ _ refl) has) in
      let low = h.most t (its i d l) j x lx in
      let seen = sets.seen y.0 exists in
      let last = h.last s.by y.0 (is.controlled k c lc).by_task its_place in
      omega (arith, low, seen, last);
  sets = λ s p some most l. same_sets (set_at finals s p) (facts_met plan walks fetches s p plan.tasks) (λ f.
      same_tests (has_fact (set_at finals s p) f) (has_fact (facts_met plan walks fetches s p plan.tasks) f)
      (λ has. h.nothing_else s p f (sym (sets.marked s p f some most l) ∙ has))
      (λ there. elim (h.shown s p f there) [
        | inl marked ↦ sets.marked s p f some most l ∙ marked
        | inr full ↦ ap (λ (x : FactSet). has_fact x f) (sets.full s p some most l full) ∙ has_fact-full_of (kind_at plan p) f (kind_met plan walks fetches s p f plan.tasks there)
      ]));
}
  where
    its : (i : ℕ) (d : TaskNo) → i < length plan.tasks → has_task plan.tasks (get_or plan.tasks i d).0 ≡ true
    its i d l = any_shown (λ (u : TaskNo). nat_eq u.0 (get_or plan.tasks i d).0) plan.tasks d i l (eq-eqb _ _ refl)
