-- A fact has a first visit exactly where it was shown.
use Rattle.std.proofs.Common.{◌≡◌, ℕ, ◌+◌, Bool, true, false, ◌||◌, nat_eq, is_some, Option, Some, None, option_map, List, [], ◌∷◌, refl, sym, ◌∙◌, if◌then◌else◌, ap, ◌&&◌}
use Rattle.std.specs.List.{find}
use Rattle.std.specs.Option.{option_or}
use Rattle.cov_base.specs.Meaning.{has_fact, fact_of, Visit}
use Rattle.cov_base.specs.declared.facts.Fact.{Fact}
use Rattle.cov_base.proofs.Laws.{same_fact-turned, has_fact-none, has_fact-union}
use Rattle.module_area.specs.Meaning.{executes, shows, facts_at, facts_of_all, place_of}
use Rattle.module_area.specs.declared.places.Place.{Place}
use Rattle.session_book.specs.Meaning.{JobView, TaskView, session_of}
use Rattle.phase_plan.specs.Meaning.{traces_from}
use Rattle.task_run.proofs.Laws.{facts_at-more}
use Rattle.evidence_check.specs.Meaning.{trace_of, first_in, first_from, session_first, session_facts}
use Rattle.evidence_check.specs.Noting.{first_of}
use Rattle.evidence_check.specs.declared.firsts.First.{First}

is_some-map : (t : ℕ) (o : Option Visit) → is_some (option_map (first_of t) o) ≡ is_some o
is_some-map t None = refl
is_some-map t (Some v) = refl

is_some-or : (x y : Option First) → is_some (option_or x y) ≡ (is_some x || is_some y)
is_some-or None y = refl
is_some-or (Some v) y = refl

-- one visit more
one_more : (b : Bool) (v : Visit) (o : Option Visit) → is_some (if b then Some v else o) ≡ (b || is_some o)
one_more true v o = refl
one_more false v o = refl

found_in : (place : Place) (f : Fact) (vs : List Visit) → is_some (find (shows place f) vs) ≡ has_fact (facts_at place vs) f
found_in place f [] = sym (has_fact-none f)
found_in place f (v ∷ vs) =
    one_more (shows place f v) v (find (shows place f) vs)
    ∙ ap (λ b. shows place f v || b) (found_in place f vs)
    ∙ ap (λ b. (executes place v && b) || has_fact (facts_at place vs) f) (same_fact-turned (fact_of place.kind v.went) f)
    ∙ sym (facts_at-more place v vs f)

task_more : (n : ℕ) (t : TaskView) (ts : List TaskView) (phase : ℕ) (trace : ℕ → List Visit) (place : Place) (f : Fact) (b : Bool) → nat_eq t.phase phase ≡ b →
    is_some (first_from (n + 1) ts phase trace place f) ≡ has_fact (facts_of_all place (traces_from (n + 1) ts phase trace)) f →
    is_some (first_from n (t ∷ ts) phase trace place f) ≡ has_fact (facts_of_all place (traces_from n (t ∷ ts) phase trace)) f
task_more n t ts phase trace place f true is rest =
    let own : is_some (first_in place f n (trace n)) ≡ has_fact (facts_at place (trace n)) f = is_some-map n (find (shows place f) (trace n)) ∙ found_in place f (trace n) in
    rw is (is_some-or (first_in place f n (trace n)) (first_from (n + 1) ts phase trace place f)
    ∙ (rw (own, rest) refl ∙ sym (has_fact-union (facts_at place (trace n)) (facts_of_all place (traces_from (n + 1) ts phase trace)) f)))
task_more n t ts phase trace place f false is rest = rw is rest

shown_from : (n : ℕ) (ts : List TaskView) (phase : ℕ) (trace : ℕ → List Visit) (place : Place) (f : Fact) →
    is_some (first_from n ts phase trace place f) ≡ has_fact (facts_of_all place (traces_from n ts phase trace)) f
shown_from n [] phase trace place f = sym (has_fact-none f)
shown_from n (t ∷ ts) phase trace place f = task_more n t ts phase trace place f (nat_eq t.phase phase) refl (shown_from (n + 1) ts phase trace place f)

pub first_is_shown : (j : JobView) (places : List Place) (s n : ℕ) (f : Fact) → is_some (session_first j places s n f) ≡ has_fact (session_facts j places s n) f
first_is_shown j places s n f = shown_from 0 j.tasks (session_of j s).phase (trace_of j places) (place_of places n) f
