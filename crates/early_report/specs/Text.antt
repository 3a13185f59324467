-- What drains tell of their sessions in an early report.
use Rattle.std.specs.Prelude.{ℕ, nat_eq, if◌then◌else◌, Option, Some, None, List, [], ◌∷◌, length, map, get_or, Result}
use Rattle.std.specs.declared.vec.Vec.{Vec}
use Rattle.cov_base.specs.Meaning.{FactSet}
use Rattle.cov_outside.specs.declared.streams.Sink as sink
use Rattle.brk_table.specs.Meaning.{TablesView}
use Rattle.session_book.specs.Meaning.{JobView, session_of}
use Rattle.session_book.specs.declared.results.Results as tasks
use Rattle.session_book.specs.declared.results.FactSets as sets
use Rattle.report_text.specs.Meaning.{lines_from}
use Rattle.report_text.specs.Writes.{PrintsText}
use Rattle.early_report.specs.Meaning.{early_part, early_of}
use Rattle.early_report.specs.DrainView.{DrainView}
use Rattle.early_report.specs.declared.drains.Stage.{Stage}
use Rattle.early_report.specs.declared.drains.Stage.TheVariants.{Unused, Begun, Drained, Taken}

-- the count at which sets were taken, where they were
abbrev pub taken_at : Stage → ℕ → Option ℕ
taken_at Unused at = None
taken_at Begun at = None
taken_at Drained at = None
taken_at Taken at = Some at

-- what the drain of session s among these tells of it
abbrev pub drained_in : List DrainView → ℕ → Option ℕ
drained_in [] s = None
drained_in (d ∷ ds) s = if nat_eq d.session s then taken_at d.stage d.at else drained_in ds s

-- by its controller's drains, of the lists of all tasks
abbrev pub drained_by : List (List DrainView) → Option ℕ → ℕ → Option ℕ
drained_by lists None s = None
drained_by lists (Some t) s = drained_in (get_or lists t []) s

abbrev pub drained_of : JobView → List (List DrainView) → ℕ → Option ℕ
drained_of job lists s = drained_by lists (session_of job s).by s

-- the drains of each task
abbrev pub drains_of : {Z : Type 0} → List (Vec DrainView Z) → List (List DrainView)
drains_of lists = map (λ v. v.items) lists

-- by them, of session s, and of all sessions of the job
abbrev pub early_lines : {Z : Type 0} → JobView → TablesView → (ℕ → ℕ → FactSet) → List (Vec DrainView Z) → ℕ → List (List ℕ)
early_lines job tables sets lists s = early_part job tables sets (drained_of job (drains_of lists)) s

abbrev pub early_parts : {Z : Type 0} → JobView → TablesView → (ℕ → ℕ → FactSet) → List (Vec DrainView Z) → List (List ℕ)
early_parts job tables sets lists = lines_from (early_lines job tables sets lists) 1 (length job.sessions)

-- the whole text was written, as results and sets tell it
abbrev pub PrintsEarly : {K R Z T E : Type 0} → sink.Ghosts K → tasks.Ghosts R → sets.Ghosts R → JobView → TablesView → R
    → List (Vec DrainView Z) → K → K → Result T E → Type 0
PrintsEarly g t s job tables told lists old new result =
    PrintsText g old new result (early_of job tables (t.result_of told) (s.set_of told) (drained_of job (drains_of lists)))
