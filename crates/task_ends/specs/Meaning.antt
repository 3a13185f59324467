-- What the claim of the program says by this crate's clauses.
use Rattle.std.specs.Prelude.{ℕ, ◌+◌, ◌&&◌, not, if◌then◌else◌, List, [], ◌∷◌, length, ◌-◌, nat_lt, Some, ◌++◌, codes, decimal}
use Rattle.cov_base.specs.Meaning.{ImageView, Visit, unpadded}
use Rattle.module_area.specs.Meaning.{is_place}
use Rattle.module_area.specs.declared.places.Place.{Place}
use Rattle.brk_table.specs.Meaning.{in_image}
use Rattle.session_book.specs.Meaning.{JobView, task_of, module_of}
use Rattle.phase_plan.specs.Meaning.{of_task}
use Rattle.report_text.specs.Meaning.{sum_from, text_of, lines_from, is_monitored, task_words}
use Rattle.task_services.specs.Meaning.{course_of}
use Rattle.task_run.specs.Meaning.{Tour, visits_of}
use Rattle.task_run.specs.declared.task.TaskEnd.{TaskEnd}
use Rattle.annotator.specs.Meaning.{hex_digits}

-- What has run where no place begins.

-- how many instructions were begun, as an instruction or as a subject, in the module, where no place begins
abbrev pub unlisted_visits : List Place → ImageView → List Visit → ℕ
unlisted_visits places image [] = 0
unlisted_visits places image (v ∷ vs) =
    (if v.begun && (in_image image v.at && not (is_place places v.at)) then 1 else 0) + unlisted_visits places image vs

-- Where each task of a job ends in its own run, and how many visits of all tasks are in a module where no place begins.

-- its run, by its job's services
abbrev pub run_of : JobView → List Place → ℕ → Tour
run_of j places t = of_task (course_of j.services) j places t

-- how it ends, after how many instructions, and at which address
abbrev pub end_of : JobView → List Place → ℕ → TaskEnd
end_of j places t = record {
  ending = (run_of j places t).ending;
  done = (run_of j places t).state.done;
  at = (run_of j places t).at;
}

-- in module m, of all tasks of the job, whatever their phases
abbrev pub unlisted_of : JobView → List Place → ℕ → ℕ
unlisted_of j places m =
    sum_from (λ t. unlisted_visits places (module_of j m) (visits_of (run_of j places t).turns)) 0 (length j.tasks)

-- The text of the ends of a job's tasks.

-- a module, and an address of it as a location
abbrev pub module_words : ImageView → ℕ → List ℕ
module_words i a = codes " " ++ unpadded i.name ++ codes " " ++ hex_digits 6 (a - i.base)

-- what is there: the module that has the address; the task's private storage, of so many bytes; or nothing
abbrev pub place_words : ℕ → ℕ → List ImageView → List ℕ
place_words private a [] = if nat_lt a private then codes " PRIVATE" else []
place_words private a (i ∷ is) = if in_image i a then module_words i a else place_words private a is

-- the ending and the instructions done in the words of a report, the address, and what is there
unfoldable pub end_line : List ℕ → TaskEnd → List ℕ → List ℕ
end_line name e there = task_words name (Some e.ending) e.done ++ codes " AT " ++ hex_digits 6 e.at ++ there

-- of task t, which ends so
abbrev pub end_lines : JobView → ℕ → TaskEnd → List (List ℕ)
end_lines j t e = end_line (task_of j t).name e (place_words (task_of j t).private e.at j.images) ∷ []

-- of module m, where it has a listing, with so many visits
abbrev pub unlisted_lines : JobView → ℕ → ℕ → List (List ℕ)
unlisted_lines j m count =
    if is_monitored j m then (codes "UNLISTED " ++ unpadded (module_of j m).name ++ codes " " ++ decimal count) ∷ [] else []

-- tasks and modules in the order of the job
abbrev pub end_parts : JobView → (ℕ → TaskEnd) → List (List ℕ)
end_parts j ends = lines_from (λ t. end_lines j t (ends t)) 0 (length j.tasks)

abbrev pub unlisted_parts : JobView → (ℕ → ℕ) → List (List ℕ)
unlisted_parts j unlisted = lines_from (λ m. unlisted_lines j m (unlisted m)) 0 (length j.images)

abbrev pub ends_text : JobView → (ℕ → TaskEnd) → (ℕ → ℕ) → List ℕ
ends_text j ends unlisted =
    text_of (codes "COVERAGE ENDS" ∷ (end_parts j ends ++ (unlisted_parts j unlisted ++ (codes "END" ∷ []))))
