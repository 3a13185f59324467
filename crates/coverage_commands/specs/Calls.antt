-- What the functions of the commands answer, by what source, areas and sink tell of themselves.
use Rattle.std.specs.Prelude.{◌≡◌, ℕ, List, String}
use Rattle.brk_table.specs.Meaning.{TablesView}
use Rattle.cov_outside.specs.declared.streams.Sink as sink
use Rattle.cov_outside.specs.declared.streams.Source as source
use Rattle.module_area.specs.declared.areas.Areas as areas
use Rattle.job_input.specs.Meaning.{SourceChange, source_change}
use Rattle.job_run.specs.Meaning.{Account}
use Rattle.refusals.specs.Meaning.{sink_change}
use Rattle.session_book.specs.Meaning.{JobView}
use Rattle.job_input.specs.declared.words.Command.{Command}
use Rattle.coverage_commands.specs.Meaning.{Answers, Counts, IsServed, IsUnread, asked}
use Rattle.run_reports.specs.Meaning.{areas_change}
use Rattle.coverage_commands.specs.Changes.{no_change}
use Rattle.coverage_commands.specs.Words.{without_threads}

-- ---- from a source

-- over areas, and where none are made
abbrev pub Answered : {S A C P K : Type 0} → source.Ghosts S → areas.Ghosts A C P → sink.Ghosts K → Command → S → S → A → A → K → K
    → ℕ → Type 0
Answered s a k c source0 source1 areas0 areas1 sink0 sink1 answer =
    Answers c (source_change s.left s.faults source0 source1) (areas_change a.ledger a.finals a.made areas0 areas1)
    (sink_change k.written k.faults sink0 sink1) answer

abbrev pub AnsweredAlone : {S K : Type 0} → source.Ghosts S → sink.Ghosts K → Command → S → S → K → K → ℕ → Type 0
AnsweredAlone s k c source0 source1 sink0 sink1 answer =
    (a : Account) → Answers c (source_change s.left s.faults source0 source1) (no_change a)
    (sink_change k.written k.faults sink0 sink1) answer

-- all that is promised of a call without threads
abbrev pub ServedAlone : {S K W : Type 0} → source.Ghosts S → sink.Ghosts K → List (String W) → S → S → K → K → ℕ → Type 0
ServedAlone s k words source0 source1 sink0 sink1 answer =
    (a : Account) → IsServed (without_threads (asked words)) (source_change s.left s.faults source0 source1) (no_change a)
    (sink_change k.written k.faults sink0 sink1) answer

-- ---- of a job that is ready

abbrev pub IsCount : JobView → TablesView → ℕ → List ℕ → Type 0
IsCount j tables status text = (status ≡ 0) × Counts j tables text

-- ---- where nothing is read

abbrev pub AnsweredUnread : {A C P K : Type 0} → areas.Ghosts A C P → sink.Ghosts K → Command → A → A → K → K → ℕ → Type 0
AnsweredUnread a k c areas0 areas1 sink0 sink1 answer =
    (s : SourceChange) → IsUnread s
    → Answers c s (areas_change a.ledger a.finals a.made areas0 areas1) (sink_change k.written k.faults sink0 sink1) answer
