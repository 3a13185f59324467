-- What the claim of the program says by this crate's clauses.
use Rattle.std.specs.Prelude.{ℕ, List, Option, true, Some, None, [], ◌≡◌, ◌≤◌, length, ◌≢◌, ◌<◌}
use Rattle.module_area.specs.Meaning.{FinalsView, first_control, place_of}
use Rattle.module_area.specs.declared.tallies.Tally.{Tally}
use Rattle.job_run.specs.Meaning.{Account, solo_result, walk_by, result_by, set_by, least_by, most_by, HasRunBy, set_left}
use Rattle.cov_base.specs.Meaning.{FactSet}
use Rattle.task_run.specs.Meaning.{Course, solo, IsBetween}
use Rattle.session_book.specs.Meaning.{JobView, session_of, is_whole, observes, ResultView}
use Rattle.phase_plan.specs.Meaning.{plan_view}
use Rattle.brk_table.specs.Meaning.{TablesView}
use Rattle.marks_file.specs.Meaning.{MarksView, keeps_rules, file_bytes}
use Rattle.session_marks.specs.Meaning.{session_file}
use Rattle.cov_base.specs.declared.numbers.TaskNo.{TaskNo}
use Rattle.early_report.specs.Meaning.{others, closing_count, early_of}
use Rattle.module_area.specs.declared.places.Place.{Place}
use Rattle.marks_file.specs.declared.version.Version.TheVariants.{Second}

-- What areas tell before a call and after it.

-- what areas told
pub record AreasChange : Type 0 where
  pub before : Account
  pub after : Account

abbrev pub areas_change : {A : Type 0} → (A → List Tally) → (A → List FinalsView) → (A → ℕ) → A → A → AreasChange
areas_change ledger finals made old new = record {
  before = record { ledger = ledger old; finals = finals old; made = made old };
  after = record { ledger = ledger new; finals = finals new; made = made new };
}

-- When the sets of controlled sessions were taken.

-- how many instructions the session's controller has done, alone, up to and including the one that closes it
abbrev pub closing_of : JobView → List Place → ℕ → ℕ → Option ℕ
closing_of j places by s =
    closing_count (first_control (plan_view j places (session_of j s).phase) by) (walk_by solo j places by).calls s

-- the tasks of the session's phase but its controller
abbrev pub other_tasks : JobView → List Place → ℕ → ℕ → List TaskNo
other_tasks j places by s = others (plan_view j places (session_of j s).phase).tasks by

-- By the count at which a session is closed, the other tasks of its phase and its controller's last count: the session was
-- drained at a count from the first to the last, at the first one where there is no other task, or it wasn't drained, as it isn't
-- closed or there is another task. No more is claimed of the count.
abbrev pub IsDrained : Option ℕ → List TaskNo → ℕ → Option ℕ → Type 0
IsDrained None others last drained = drained ≡ None
IsDrained (Some closing) others last None = others ≢ []
IsDrained (Some closing) others last (Some count) = (closing ≤ count) × (count ≤ last) × (others ≡ [] → count ≡ closing)

-- each controlled session of the job
pub record AreDrained (j : JobView) (places : List Place) (drained : ℕ → Option ℕ) : Type 0 where
  pub each : (s by : ℕ) → 0 < s → s ≤ length j.sessions → (session_of j s).by ≡ Some by →
      IsDrained (closing_of j places by s) (other_tasks j places by s) (solo_result j places by).done (drained s)

-- What a run comes to.

-- The job's tasks ran over the areas that were made meanwhile, and the text is made in this way of results and sets. The
-- results are those of each task's run along this course. At each place that a session observes its set is that of its
-- executions where the session is whole, and lies between its bounds where a task controls it. At every place the sets are
-- those of the area of the session's phase.
pub record Reports (course : Course) (j : JobView) (tables : TablesView) (a : AreasChange)
    (text_by : (ℕ → ResultView) → (ℕ → ℕ → FactSet) → List ℕ) (text : List ℕ) : Type 0 where
  pub ran : HasRunBy course j tables.places a.before a.after
  pub results : ℕ → ResultView
  pub sets : ℕ → ℕ → FactSet
  pub are_results : (t : ℕ) → t < length j.tasks → results t ≡ result_by course j tables.places t
  pub are_sets : (s p : ℕ) → 0 < s → s ≤ length j.sessions → p < length tables.places →
      is_whole (session_of j s) ≡ true → observes (session_of j s).phase (place_of tables.places p).module (session_of j s) ≡ true
      → sets s p ≡ set_by course j tables.places s p
  pub are_bounded : (s p by : ℕ) → 0 < s → s ≤ length j.sessions → p < length tables.places →
      (session_of j s).by ≡ Some by → observes (session_of j s).phase (place_of tables.places p).module (session_of j s) ≡ true →
      IsBetween (least_by course j tables.places by s p) (most_by course j tables.places by s p) (sets s p)
  pub are_final : (s p : ℕ) → 0 < s → s ≤ length j.sessions → p < length tables.places → sets s p ≡ set_left j ran.sets s p
  pub is_text : text ≡ text_by results sets

-- the report, and when the sets of controlled sessions were taken
pub record IsEarlyReport (j : JobView) (tables : TablesView) (a : AreasChange) (text : List ℕ) : Type 0 where
  pub drained : ℕ → Option ℕ
  pub are_drained : AreDrained j tables.places drained
  pub reports : Reports solo j tables a (λ results sets. early_of j tables results sets drained) text

-- the marks of session s, of its name and one run, by these sets
abbrev pub named_file : JobView → TablesView → ℕ → (ℕ → ℕ → FactSet) → MarksView
named_file j tables s sets = session_file j tables (sets s) s

-- their file, which keeps the rules of marks files
pub record IsMarksText (course : Course) (j : JobView) (tables : TablesView) (s : ℕ) (a : AreasChange)
    (text : List ℕ) : Type 0 where
  pub reports : Reports course j tables a (λ results sets. file_bytes Second (named_file j tables s sets)) text
  pub rules : keeps_rules (named_file j tables s reports.sets) ≡ true
