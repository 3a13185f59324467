-- What a report says of sessions.
use Rattle.std.specs.Prelude.{ℕ, ◌-◌, false, Option, Some, None, List, [], ◌∷◌, length}
use Rattle.std.specs.List.{flat_map}
use Rattle.cov_base.specs.Meaning.{FactSet}
use Rattle.cov_base.specs.declared.facts.Fact.{Fact}
use Rattle.brk_table.specs.Meaning.{TablesView}
use Rattle.session_book.specs.Meaning.{JobView}
use Rattle.report_text.specs.declared.sessions.Run.{Run}
use Rattle.report_text.specs.Meaning.{text_of, lines_from, run_line, run_lines, module_lines, module_counts, session_part, session_counts}

-- of a run that has come to its end, where there is one
abbrev pub open_run : Option Run → List (List ℕ)
open_run None = []
open_run (Some run) = run_line run.from run.last ∷ []

-- the runs of the places from `first` on, below `past`
abbrev pub runs_from : JobView → TablesView → (ℕ → FactSet) → ℕ → ℕ → List (List ℕ)
runs_from job tables sets first past = run_lines job tables.places sets false first (past - first)

-- what a report says of these modules, in order: by a session's sets, and by its counts
abbrev pub lines_of : JobView → TablesView → (ℕ → FactSet) → List ℕ → List (List ℕ)
lines_of job tables sets modules = flat_map (module_lines job tables sets) modules

abbrev pub lines_by : JobView → TablesView → (ℕ → Fact → ℕ) → List ℕ → List (List ℕ)
lines_by job tables counts modules = flat_map (module_counts job tables counts) modules

-- of a session, and of all sessions of the job
abbrev pub session_text : JobView → TablesView → (ℕ → ℕ → FactSet) → ℕ → List ℕ
session_text job tables sets s = text_of (session_part job tables sets s)

abbrev pub session_parts : JobView → TablesView → (ℕ → ℕ → FactSet) → List (List ℕ)
session_parts job tables sets = lines_from (session_part job tables sets) 1 (length job.sessions)

abbrev pub count_parts : JobView → TablesView → (ℕ → ℕ → Fact → ℕ) → List (List ℕ)
count_parts job tables counts = lines_from (session_counts job tables counts) 1 (length job.sessions)
