-- The texts of a job that was run, by what its results, sets and counts tell.
use Rattle.std.specs.Prelude.{ℕ, List}
use Rattle.brk_table.specs.Meaning.{TablesView}
use Rattle.session_book.specs.Meaning.{JobView}
use Rattle.session_book.specs.declared.results.Results as tasks
use Rattle.session_book.specs.declared.results.FactSets as sets
use Rattle.session_book.specs.declared.results.FactCounts as counts
use Rattle.report_text.specs.Meaning.{result_lines, report_of, count_text, trial_text}

abbrev pub results_by : {R : Type 0} → tasks.Ghosts R → sets.Ghosts R → JobView → TablesView → R → List (List ℕ)
results_by t s job tables told = result_lines job tables (t.result_of told) (s.set_of told)

abbrev pub report_by : {R : Type 0} → tasks.Ghosts R → sets.Ghosts R → JobView → TablesView → R → List ℕ
report_by t s job tables told = report_of job tables (t.result_of told) (s.set_of told)

abbrev pub counts_by : {R : Type 0} → tasks.Ghosts R → counts.Ghosts R → JobView → TablesView → R → List ℕ
counts_by t c job tables told = count_text job tables (t.result_of told) (c.count_of told)

-- of a generated job of this number, and of so many tasks
abbrev pub trial : {R : Type 0} → tasks.Ghosts R → sets.Ghosts R → ℕ → ℕ → TablesView → R → List ℕ
trial t s number tasks tables told = trial_text number tasks tables.places (t.result_of told) (s.set_of told)
