-- How many facts the sets of a marks file have.
use Rattle.std.proofs.Common.{◌≡◌, ℕ, ◌+◌, ◌*◌, ◌<◌, ◌≤◌, zero, suc, true, List, [], ◌∷◌, length, get_or, drop, arith}
use Rattle.std.proofs.lemmas.List.{at_drop_more}
use Rattle.cov_base.specs.Meaning.{FactSet}
use Rattle.module_area.specs.Meaning.{fact_count}
use Rattle.marks_file.specs.Meaning.{MarkedView, MarksView, keeps_rules, place_total}
use Rattle.marks_file.specs.declared.marks.MarkedPlace.{MarkedPlace}
use Rattle.marks_file.proofs.Laws.{kept_modules, marks_count, marks_places}
use Rattle.evidence_check.specs.Meaning.{facts_of_places, facts_of_modules}
use Rattle.task_run.proofs.Laws.{one_at_most}

-- a marks file has at most 65,536 places, and 16 modules
pub few_places : (m : MarksView) → keeps_rules m ≡ true → place_total m.modules ≤ 65536
few_places m h = marks_places m.modules (kept_modules m h)

pub few_modules : (m : MarksView) → keeps_rules m ≡ true → length m.modules ≤ 16
few_modules m h = marks_count m.modules (kept_modules m h)

fact_count-most : (s : FactSet) → fact_count s ≤ 3
fact_count-most s = omega (arith, one_at_most s.ran, one_at_most s.went, one_at_most s.stayed)

pub facts_of_places-most : (ps : List MarkedPlace) → facts_of_places ps ≤ 3 * length ps
facts_of_places-most [] = omega arith
facts_of_places-most (p ∷ ps) = omega (arith, fact_count-most p.set, facts_of_places-most ps)

pub facts_of_modules-most : (ms : List MarkedView) → facts_of_modules ms ≤ 3 * place_total ms
facts_of_modules-most [] = omega arith
facts_of_modules-most (m ∷ ms) = omega (arith, facts_of_places-most m.places, facts_of_modules-most ms)

-- one of the modules has no more places than all
pub places_within : (ms : List MarkedView) (i : ℕ) (d : MarkedView) → i < length ms → length (get_or ms i d).places ≤ place_total ms
places_within [] i d lt = absurd (omega arith)
places_within (m ∷ ms) zero d lt = omega arith
places_within (m ∷ ms) (suc i) d lt = omega (arith, places_within ms i d (omega arith))

-- one place or module more is counted
pub count_place : (ps : List MarkedPlace) (i n more : ℕ) (d : MarkedPlace) → i < length ps → n + facts_of_places (drop i ps) ≡ facts_of_places ps → more ≡ fact_count (get_or ps i d).set →
    n + more + facts_of_places (drop (i + 1) ps) ≡ facts_of_places ps
count_place ps i n more d lt so_far is = omega (arith, so_far, is, at_drop_more facts_of_places ps i d lt)

pub count_module : (ms : List MarkedView) (i n more : ℕ) (d : MarkedView) → i < length ms → n + facts_of_modules (drop i ms) ≡ facts_of_modules ms → more ≡ facts_of_places (get_or ms i d).places →
    n + more + facts_of_modules (drop (i + 1) ms) ≡ facts_of_modules ms
count_module ms i n more d lt so_far is = omega (arith, so_far, is, at_drop_more facts_of_modules ms i d lt)
