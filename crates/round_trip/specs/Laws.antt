-- What the texts say together that `marks`, `prove`, `run` and `show` have of one job, and what no report says.
use Rattle.std.specs.Prelude.{◌≡◌, ℕ, ◌≤◌, true, Some, None, List, [], ◌∷◌, ◌++◌, codes, length, map}
use Rattle.cov_base.specs.Meaning.{Visit, has_fact}
use Rattle.cov_base.specs.declared.facts.Fact.TheVariants.{Ran}
use Rattle.module_area.specs.declared.places.Place.{Place}
use Rattle.module_area.specs.Meaning.{ControlledView, PlanView}
use Rattle.task_run.specs.Meaning.{Course, at_places}
use Rattle.job_input.specs.declared.words.Command.{Command}
use Rattle.job_input.specs.declared.words.Command.TheVariants.{Run, Marks, Show, Prove}
use Rattle.job_input.specs.Meaning.{SourceChange, input_limit}
use Rattle.job_text.specs.Lines.{IsClosed}
use Rattle.job_text.specs.declared.grammar.Grammar.{Grammar}
use Rattle.job_text.specs.declared.grammar.Grammar.TheVariants.{Plain}
use Rattle.report_text.specs.Meaning.{text_of}
use Rattle.session_book.specs.Meaning.{JobView, numbered, session_of}
use Rattle.phase_plan.specs.Meaning.{plan_view}
use Rattle.job_run.specs.Meaning.{walk_by}
use Rattle.task_services.specs.Meaning.{course_of}
use Rattle.run_reports.specs.Meaning.{AreasChange}
use Rattle.job_answers.specs.Meaning.{ReadyView}
use Rattle.coverage_commands.specs.Meaning.{IsReady, IsCause, IsRunText, HasStatus, HoldsTrue}

-- a call of this command, whose source told these bytes, has this text with status 0
pub record HasText (c : Command) (bytes text : List ℕ) : Type 0 where
  pub source : SourceChange
  pub areas : AreasChange
  pub left : source.left ≡ Some bytes
  pub cause : IsCause c source areas 0 text

-- a job's bytes, the last line with its LF, and behind them the file that `marks` has of its session of this name
pub record IsMarked (g : Grammar) (name job marks : List ℕ) : Type 0 where
  pub closed : IsClosed job
  pub file : HasText (Marks name g) job marks

-- Behind that the evidence that `prove` has: the session has no controller then. Job, marks and evidence are verified.
abbrev pub VerifiesWritten : Type 0
VerifiesWritten = (name job marks evidence : List ℕ) → IsMarked Plain name job marks → HasText (Prove name) job evidence →
    length (job ++ (marks ++ evidence)) ≤ input_limit → HoldsTrue name (job ++ (marks ++ evidence))

-- job and marks are shown
abbrev pub ShowsWritten : Type 0
ShowsWritten =
    (g : Grammar) (name job marks : List ℕ) → IsMarked g name job marks → length (job ++ marks) ≤ input_limit
    → HasStatus (Show name g) (job ++ marks) 0

-- all lines of a text of `show` but the first and the last stand in this report, one after another
pub record IsPart (shown report : List ℕ) : Type 0 where
  pub before : List (List ℕ)
  pub part : List (List ℕ)
  pub behind : List (List ℕ)
  pub is_shown : shown ≡ text_of (codes "COVERAGE SHOW" ∷ (part ++ (codes "END" ∷ [])))
  pub is_report : report ≡ text_of (before ++ (part ++ behind))

-- a report that `run` has of this source and these areas, with that part
pub record HasReport (g : Grammar) (source : SourceChange) (areas : AreasChange) (shown : List ℕ) : Type 0 where
  pub report : List ℕ
  pub cause : IsCause (Run g) source areas 0 report
  pub part : IsPart shown report

-- what is shown is a part of the report on the run that the marks are of
abbrev pub ShowsRun : Type 0
ShowsRun =
    (g : Grammar) (name job marks shown : List ℕ) (m : IsMarked g name job marks) → HasText (Show name g) (job ++ marks) shown
    → HasReport g m.file.source m.file.areas shown

-- the job has a session of this name, without a controller
pub record HasWhole (g : Grammar) (name job : List ℕ) : Type 0 where
  pub ready : ReadyView
  pub is : IsReady (Marks name g) job ready
  pub whole : (session_of ready.job ready.number).by ≡ None

-- of that it is a part of every report on the job
abbrev pub ShowsEachRun : Type 0
ShowsEachRun = (g : Grammar) (name job marks shown report : List ℕ) → HasWhole g name job → IsMarked g name job marks →
    HasText (Show name g) (job ++ marks) shown → HasText (Run g) job report → IsPart shown report

-- An example of what no report says: LA, AR and BR stand at X'100000', X'100004' and X'100006'.

-- the task 0 controls the session, over these three places
abbrev pub over_three : ℕ → ControlledView
over_three s = record { session = s; by = 0; places = record { 0 = 0 } ∷ record { 0 = 1 } ∷ record { 0 = 2 } ∷ [] }

abbrev pub crossing_plan : List Place → PlanView
crossing_plan places = record {
  places = places;
  windows = 0 ∷ 0 ∷ 0 ∷ [];
  controlled = over_three 1 ∷ over_three 2 ∷ [];
  tasks = numbered 0 ∷ numbered 1 ∷ [];
  sessions = 2;
}

-- where it visits, and how many instructions its task has done before
abbrev pub visited : Visit → ℕ × ℕ
visited v = (v.at, v.before)

-- The job has one phase, of two tasks. The task 0 opens session 1, closes it, opens session 2 and closes it, and returns; its
-- instructions stand at no place. The task 1 executes LA, AR and BR once each, in this order.
pub record MayCross (course : Course) (j : JobView) (places : List Place) : Type 0 where
  pub phases : length j.phases ≡ 1
  pub at : map (λ (p : Place). p.at) places ≡ 1048576 ∷ 1048580 ∷ 1048582 ∷ []
  pub plan : plan_view j places 0 ≡ crossing_plan places
  pub calls : (walk_by course j places 0).calls ≡ Some 4 ∷ Some 5 ∷ Some 4 ∷ Some 5 ∷ None ∷ []
  pub elsewhere : at_places places (walk_by course j places 0).trace ≡ []
  pub quiet : (walk_by course j places 1).calls ≡ None ∷ None ∷ None ∷ []
  pub executes : map visited (at_places places (walk_by course j places 1).trace)
      ≡ (1048576, 0) ∷ (1048580, 1) ∷ (1048582, 2) ∷ []

-- Session 1 doesn't have AR where session 2 has LA: LA was fetched then after session 1 had been closed, and AR is later.
abbrev pub NeverCrosses : Type 0
NeverCrosses = (g : Grammar) (r : ReadyView) (a : AreasChange) (text : List ℕ) (x : IsRunText (Run g) r a text)
    → MayCross (course_of r.job.services) r.job r.tables.places → has_fact (x.sets 1 1) Ran ≡ true
    → has_fact (x.sets 2 0) Ran ≡ true → ⊥
