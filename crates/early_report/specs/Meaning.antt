-- What the claim of the program says by this crate's clauses.
use Rattle.std.specs.Prelude.{ℕ, not, nat_eq, List, if◌then◌else◌, Option, Some, None, [], ◌∷◌, ◌++◌, is_some, codes, decimal, ◌+◌, Bool, false, ◌&&◌, ◌==◌, option_map, unwrap_or}
use Rattle.std.specs.List.{filter}
use Rattle.cov_base.specs.declared.numbers.TaskNo.{TaskNo}
use Rattle.cov_base.specs.Meaning.{FactSet}
use Rattle.brk_table.specs.Meaning.{TablesView}
use Rattle.session_book.specs.Meaning.{JobView, ResultView, session_of}
use Rattle.report_text.specs.Meaning.{session_part, job_lines, text_of}
use Rattle.module_area.specs.Meaning.{ControlView, control_after}
use Rattle.task_run.specs.Meaning.{is_opened}

-- The tasks of a phase but one.

-- the tasks but this one
abbrev pub others : List TaskNo → ℕ → List TaskNo
others tasks t = filter (λ (u : TaskNo). not (nat_eq u.0 t)) tasks

-- The text of an early report.

-- the controller's count when its session's sets were taken, or that they weren't
unfoldable pub drain_line : Option ℕ → List ℕ
drain_line None = codes "NOT DRAINED"
drain_line (Some count) = codes "DRAINED COUNT " ++ decimal count

-- of session s, which numbers from 1, by when each session was drained; one with a controller has that line
abbrev pub early_part : JobView → TablesView → (ℕ → ℕ → FactSet) → (ℕ → Option ℕ) → ℕ → List (List ℕ)
early_part job tables sets drained s =
    session_part job tables sets s ++ (if is_some (session_of job s).by then drain_line (drained s) ∷ [] else [])

abbrev pub early_of : JobView → TablesView → (ℕ → ResultView) → (ℕ → ℕ → FactSet) → (ℕ → Option ℕ) → List ℕ
early_of job tables results sets drained =
    text_of (codes "COVERAGE REPORT" ∷ job_lines job results (early_part job tables sets drained))

-- When a run closes a session.

-- the call closes the session: it is SVC 5 while the session is open
abbrev pub closes : ControlView → Option ℕ → ℕ → Bool
closes c call s = is_opened s c.opened && unwrap_or (option_map (λ k. k == 5) call) false

-- of instructions that execute these calls, how many there are up to and including the one that closes the session; none
-- where no call does
abbrev pub closing_count : ControlView → List (Option ℕ) → ℕ → Option ℕ
closing_count c [] s = None
closing_count c (k ∷ ks) s = if closes c k s then Some 1 else option_map (λ n. n + 1) (closing_count (control_after c k) ks s)
