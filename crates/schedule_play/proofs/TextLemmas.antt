-- The lines of a schedule that was played.
use Rattle.std.proofs.Common.{◌≡◌, ℕ, ◌+◌, ◌-◌, ◌<◌, true, Option, Result, codes, List, [], ◌∷◌, ◌++◌, length, get_or, subst, sym, ap, ◌∙◌, arith}
use Rattle.std.proofs.lemmas.List.{get_or_default}
use Rattle.cov_base.specs.Meaning.{is_within}
use Rattle.module_area.specs.Meaning.{kind_at}
use Rattle.module_area.specs.declared.places.Place.{Place}
use Rattle.brk_table.specs.Meaning.{TablesView, all_places}
use Rattle.brk_table.proofs.Laws.{range_most}
use Rattle.session_book.specs.Meaning.{JobView, task_of, session_of}
use Rattle.interleave_core.specs.Meaning.{World, Parts, plan_in, set_of, results_of}
use Rattle.interleave_core.specs.Results.{Fits}
use Rattle.report_text.specs.Conditions.{AreResultsOf, AreSetsOf}
use Rattle.report_text.specs.Meaning.{result_lines}
use Rattle.report_text.specs.Writes.{WritesLines}
use Rattle.schedule_play.specs.Meaning.{event_line, event_lines, no_item, replay_lines}
use Rattle.schedule_play.specs.declared.playing.Played.{Played}

-- the line of item n, which numbers from 1
abbrev pub line_of : JobView → List Place → List Played → ℕ → List (List ℕ)
line_of j places played n = event_line j places n (get_or played (n - 1) no_item) ∷ []

item_here : (played : List Played) (i : ℕ) (p : Played) → i < length played → p ≡ get_or played i p → get_or played (i + 1 - 1) no_item ≡ p
item_here played i p lt is = let same : i + 1 - 1 ≡ i = omega arith in rw same (get_or_default played i no_item p lt ∙ sym is)

pub told_line : (j : JobView) (places : List Place) (played : List Played) (i : ℕ) (p : Played) (items : List ℕ) → i < length played → p ≡ get_or played i p → items ≡ event_line j places (i + 1) p ++ 10 ∷ [] →
    items ≡ event_line j places (i + 1) (get_or played (i + 1 - 1) no_item) ++ 10 ∷ []
told_line j places played i p items lt is e = rw (item_here played i p lt is) e

pub core_results : (j : JobView) (tables : TablesView) (w : World) (c : Parts) → w ≡ record { job = j; places = tables.places } → Fits w c → AreResultsOf j (length w.job.tasks) (λ t. results_of c t)
core_results j tables w c is fits = record {
  count = ap (λ (v : World). length v.job.tasks) is;
  sizes = λ t lt. fits.bytes t (omega (arith, lt, fits.tasks, ap (λ (v : World). length v.job.tasks) is)) ∙ ap (λ (v : World). (task_of v.job t).private) is;
}

pub core_sets : (j : JobView) (tables : TablesView) (w : World) (c : Parts) → w ≡ record { job = j; places = tables.places } → tables.places ≡ all_places tables.tables → Fits w c →
    AreSetsOf j tables (length w.job.sessions) (length w.places) (λ s p. set_of w c s p)
core_sets j tables w c is numbered fits = record {
  count = ap (λ (v : World). length v.job.sessions) is;
  size = ap (λ (v : World). length v.places) is;
  within = λ s some most k d l p from to.
      let inside : p < length w.places = omega (arith, to, range_most tables.tables (get_or (session_of j s).modules k d), ap length numbered, ap (λ (v : World). length v.places) is) in
      subst (λ (v : World). is_within (kind_at (plan_in v) p) (set_of w c s p) ≡ true) is (fits.within s p some inside);
}

-- the text of the core's sets is that of its world's
pub told_core : {K T E : Type 0} {written : K → Option (List ℕ)} {faults : K → ℕ} {old new : K} {r : Result T E} (j : JobView) (tables : TablesView) (w : World) (c : Parts) (played : List Played) → w ≡ record { job = j; places = tables.places } →
    WritesLines written faults old new r (codes "COVERAGE REPLAY" ∷ (event_lines j tables.places played ++ result_lines j tables (λ t. results_of c t) (λ s p. set_of w c s p))) → WritesLines written faults old new r (replay_lines j tables c played)
told_core {written = written} {faults = faults} {old = old} {new = new} {r = r} j tables w c played is told =
    subst (λ (v : World). WritesLines written faults old new r (codes "COVERAGE REPLAY" ∷ (event_lines j tables.places played ++ result_lines j tables (λ t. results_of c t) (λ s p. set_of v c s p)))) is told
