-- What the claim of the program says by this crate's clauses.
use Rattle.std.specs.Prelude.{ℕ, ◌+◌, if◌then◌else◌, List, [], ◌∷◌}
use Rattle.cov_base.specs.Meaning.{Visit}
use Rattle.cov_base.specs.declared.facts.Fact.{Fact}
use Rattle.module_area.specs.declared.places.Place.{Place}
use Rattle.module_area.specs.Meaning.{shows, place_of}
use Rattle.task_services.specs.Meaning.{course_of}
use Rattle.session_book.specs.Meaning.{JobView, session_of, observes}
use Rattle.phase_plan.specs.Meaning.{traces_from}
use Rattle.job_run.specs.Meaning.{trace_by}

-- How often traces give a fact at a place.

abbrev pub count_at : Place → Fact → List Visit → ℕ
count_at place f [] = 0
count_at place f (v ∷ vs) = (if shows place f v then 1 else 0) + count_at place f vs

-- the counts of several traces together
abbrev pub count_of_all : Place → Fact → List (List Visit) → ℕ
count_of_all place f [] = 0
count_of_all place f (trace ∷ traces) = count_at place f trace + count_of_all place f traces

-- What a job's counts are.

-- The count of a fact at a place in a session: how many begun visits of the session's executions there give it. A whole
-- session's executions are the visits of the traces of its phase's tasks at its modules' places.
abbrev pub session_count : JobView → List Place → ℕ → ℕ → Fact → ℕ
session_count j places s p f =
    if observes (session_of j s).phase (place_of places p).module (session_of j s)
    then count_of_all (place_of places p) f
    (traces_from 0 j.tasks (session_of j s).phase (trace_by (course_of j.services) j places)) else 0
