-- The sets that an area ends with are the facts of the visits that its passes observed.
use Rattle.std.proofs.Common.{◌≡◌, ℕ, ◌<◌, ◌≤◌, true, false, ◌&&◌, List, [], ◌∷◌, ◌++◌, length, inl, inr, refl, sym, ◌∙◌, ap, subst, arith}
use Rattle.std.specs.List.{flat_map}
use Rattle.std.proofs.lemmas.Bool.{or_cases, and_parts, both_ways}
use Rattle.cov_base.specs.Meaning.{FactSet, no_facts, has_fact, union, same_fact, fact_of, Visit}
use Rattle.cov_base.specs.FactKind.{is_of_kind}
use Rattle.cov_base.specs.declared.facts.Fact.{Fact}
use Rattle.cov_base.proofs.Laws.{same_fact-true, has_fact-none, has_fact-union, same_sets, is_of_kind-fact_of, has_fact-full_of}
use Rattle.module_area.specs.declared.places.Place.{Place}
use Rattle.module_area.specs.Meaning.{PlanView, place_of, kind_at, window_at, executes, facts_at, facts_of_all, FinalsView, set_at, full_places}
use Rattle.module_area.specs.Rule.{IsPlan}
use Rattle.module_area.specs.Notes.{Notes}
use Rattle.module_area.specs.Ended.{HasSets, HasTally}
use Rattle.module_area.proofs.Laws.{pairs_are_places, same_tests}
use Rattle.task_run.specs.Observed.{Observes, Stays, IsRecorded}
use Rattle.task_run.proofs.ObservedLemmas.{facts_at-more, facts_at-append}

-- a trace shows facts of the place's kind
pub facts_at-kind : (place : Place) (trace : List Visit) (f : Fact) → has_fact (facts_at place trace) f ≡ true → is_of_kind place.kind f ≡ true
facts_at-kind place [] f h = absurd (both_ways (has_fact no_facts f) (has_fact-none f) h)
facts_at-kind place (v ∷ vs) f h =
    elim (or_cases (executes place v && same_fact f (fact_of place.kind v.went)) (has_fact (facts_at place vs) f) (sym (facts_at-more place v vs f) ∙ h)) [
      | inl now ↦
          let same = same_fact-true f (fact_of place.kind v.went) (and_parts (executes place v) (same_fact f (fact_of place.kind v.went)) now).1 in
          subst (λ g. is_of_kind place.kind g ≡ true) (sym same) (is_of_kind-fact_of place.kind v.went)
      | inr later ↦ facts_at-kind place vs f later
    ]

-- several traces are as one

pub facts_of_all-one : (place : Place) (traces : List (List Visit)) → facts_of_all place traces ≡ facts_at place (flat_map (λ t. t) traces)
facts_of_all-one place [] = refl
facts_of_all-one place (t ∷ ts) =
    let rest : List Visit = flat_map (λ u. u) ts in
    ap (union (facts_at place t)) (facts_of_all-one place ts)
    ∙ same_sets (union (facts_at place t) (facts_at place rest)) (facts_at place (t ++ rest)) (λ f. has_fact-union (facts_at place t) (facts_at place rest) f ∙ sym (facts_at-append place t rest f))

-- the set of a place's whole session: what the notes have marked lies within these facts, and these were shown
pub set_at-facts : (plan : PlanView) (ended : Notes) (finals : FinalsView) (p : ℕ) (facts : FactSet) → IsPlan plan → HasSets plan ended finals →
    p < length plan.places → 0 < window_at plan p →
    ((f : Fact) → ended.marked (window_at plan p) p f ≡ true → has_fact facts f ≡ true) →
    ((f : Fact) → has_fact facts f ≡ true → IsRecorded ended (window_at plan p) p f) →
    ((f : Fact) → has_fact facts f ≡ true → is_of_kind (kind_at plan p) f ≡ true) → set_at finals (window_at plan p) p ≡ facts
set_at-facts plan ended finals p facts is sets lt window within shown kind =
    let w : ℕ = window_at plan p in
    let most : w ≤ plan.sessions = is.in_range p lt in
    same_sets (set_at finals w p) facts (λ f.
    let same = sets.marked w p f window most lt in
    same_tests (has_fact (set_at finals w p) f) (has_fact facts f)
    (λ has. within f (sym same ∙ has))
    (λ there. elim (shown f there) [
      | inl marked ↦ same ∙ marked
      | inr full ↦ ap (λ s. has_fact s f) (sets.full w p window most lt full) ∙ has_fact-full_of (kind_at plan p) f (kind f there)
    ]))

-- Before the visits nothing was marked at the places of whole sessions, and each of them had been planted.
pub record IsReady (plan : PlanView) (old : Notes) : Type 0 where
  pub none : (s p : ℕ) (f : Fact) → old.marked s p f ≡ false
  pub none_full : (s p : ℕ) → old.full s p ≡ false
  pub planted : (p : ℕ) → p < length plan.places → 0 < window_at plan p → Stays plan old (window_at plan p) p

-- the set of each place's whole session is what the trace shows there
pub exact_set : (plan : PlanView) (old ended : Notes) (trace : List Visit) (finals : FinalsView) → IsPlan plan → IsReady plan old → Observes plan old ended trace →
    HasSets plan ended finals → (p : ℕ) → p < length plan.places → 0 < window_at plan p → set_at finals (window_at plan p) p ≡ facts_at (place_of plan.places p) trace
exact_set plan old ended trace finals is ready observes sets p lt window =
    set_at-facts plan ended finals p (facts_at (place_of plan.places p) trace) is sets lt window
    (λ f marked. elim (observes.nothing_else (window_at plan p) p f marked) [
      | inl before ↦ absurd (both_ways (old.marked (window_at plan p) p f) (ready.none (window_at plan p) p f) before)
      | inr shows ↦ shows.there
    ])
    (λ f there. observes.shown (window_at plan p) p f (ready.planted p lt window) (record { exists = lt; there = there }))
    (facts_at-kind (place_of plan.places p) trace)

-- in a phase without controlled sessions the breakpoints that were lifted are those of the places whose set is full
pub exact_lifts : (plan : PlanView) (old ended : Notes) (trace : List Visit) (finals : FinalsView) → plan.controlled ≡ [] → IsReady plan old → Observes plan old ended trace →
    HasSets plan ended finals → HasTally plan ended finals → ended.tally.lifts ≡ full_places plan finals
exact_lifts plan old ended trace finals whole ready observes sets tally =
    let least = tally.lifts_least (λ s p full. elim (observes.grows.met s p full) [
      | inl before ↦ absurd (both_ways (old.full s p) (ready.none_full s p) before)
      | inr free ↦ free
    ]) in
    let most = tally.lifts_most in
    let same = pairs_are_places plan ended finals whole sets in
    omega (arith, least, most, same)
