-- What a run over areas tells: along the course its report, the marks of a session, and the report with drains; and the
-- summary of a generated job.
use Rattle.std.specs.Prelude.{◌≡◌, ℕ}
use Rattle.brk_table.specs.Meaning.{TablesView}
use Rattle.cov_outside.specs.declared.streams.Sink as sink
use Rattle.module_area.specs.declared.areas.Areas as areas
use Rattle.report_text.specs.Meaning.{report_of, trial_text}
use Rattle.session_book.specs.JobView.{IsJob}
use Rattle.session_book.specs.Meaning.{JobView}
use Rattle.task_run.specs.Meaning.{Course, solo}
use Rattle.run_reports.specs.Meaning.{IsEarlyReport, IsMarksText, Reports, areas_change}
use Rattle.refusals.specs.Told.{Tells}

abbrev pub Reported : {A C P K : Type 0} → areas.Ghosts A C P → sink.Ghosts K → Course → JobView → TablesView → A → A → K → K
    → ℕ → Type 0
Reported a k course j tables areas0 areas1 sink0 sink1 answer =
    Tells k (λ status text. (status ≡ 0)
    × Reports course j tables (areas_change a.ledger a.finals a.made areas0 areas1) (report_of j tables) text) sink0 sink1 answer

abbrev pub Marked : {A C P K : Type 0} → areas.Ghosts A C P → sink.Ghosts K → Course → JobView → TablesView → ℕ → A → A → K → K
    → ℕ → Type 0
Marked a k course j tables s areas0 areas1 sink0 sink1 answer =
    Tells k (λ status text. (status ≡ 0)
    × IsMarksText course j tables s (areas_change a.ledger a.finals a.made areas0 areas1) text) sink0 sink1 answer

abbrev pub ReportedEarly : {A C P K : Type 0} → areas.Ghosts A C P → sink.Ghosts K → JobView → TablesView → A → A → K → K → ℕ
    → Type 0
ReportedEarly a k j tables areas0 areas1 sink0 sink1 answer =
    IsJob j → Tells k (λ status text. (status ≡ 0)
    × IsEarlyReport j tables (areas_change a.ledger a.finals a.made areas0 areas1) text) sink0 sink1 answer

abbrev pub Tried : {A C P K : Type 0} → areas.Ghosts A C P → sink.Ghosts K → ℕ → ℕ → JobView → TablesView → A → A → K → K → ℕ
    → Type 0
Tried a k number tasks j tables areas0 areas1 sink0 sink1 answer =
    Tells k (λ status text. (status ≡ 0)
    × Reports solo j tables (areas_change a.ledger a.finals a.made areas0 areas1)
    (trial_text number tasks tables.places) text) sink0 sink1 answer
