-- What a job that ran over areas reports.
use Rattle.std.proofs.Common.{◌≡◌, ℕ, true, List, length, refl, sym, ap, subst}
use Rattle.module_area.specs.declared.places.Place.{Place}
use Rattle.brk_table.specs.Meaning.{TablesView}
use Rattle.cov_base.specs.Meaning.{FactSet}
use Rattle.marks_file.specs.Meaning.{MarksView, file_bytes, keeps_rules}
use Rattle.marks_file.specs.declared.version.Version.TheVariants.{Second}
use Rattle.session_marks.specs.Meaning.{session_file}
use Rattle.session_book.specs.Meaning.{ResultView, JobView}
use Rattle.report_text.specs.Conditions.{AreResultsOf, AreSetsOf}
use Rattle.run_reports.specs.Meaning.{IsMarksText, named_file, AreasChange, Reports}
use Rattle.job_run.specs.declared.outcome.Done.{Done}
use Rattle.job_run.specs.Outcomes.{IsOutcomeBy}
use Rattle.task_run.specs.Meaning.{Course}
use Rattle.job_run.specs.Runs.{HasLeftBy}
use Rattle.job_run.specs.Sets.{SetsView, set_in}
use Rattle.job_run.proofs.Laws.{set_is_left}
use Rattle.job_run.specs.Tasks.{results_of}

pub are_sets : (course : Course) (j : JobView) (tables : TablesView) (tasks : List Done) (sets : SetsView) → IsOutcomeBy course j tables.places tasks sets →
    AreSetsOf j tables (length sets.job.sessions) sets.places (λ s p. set_in sets s p)
are_sets course j tables tasks sets o = record {
  count = ap (λ (k : JobView). length k.sessions) o.job;
  size = o.size;
  within = λ s some most k d l p from to. o.within s p some most;
}

pub are_results : (course : Course) (j : JobView) (places : List Place) (tasks : List Done) (sets : SetsView) → IsOutcomeBy course j places tasks sets → AreResultsOf j (length tasks) (λ t. results_of tasks t)
are_results course j places tasks sets o = record { count = o.count; sizes = o.filled }

pub reports : (course : Course) (j : JobView) (tables : TablesView) (a : AreasChange) (tasks : List Done) (sets : SetsView) (form : (ℕ → ResultView) → (ℕ → ℕ → FactSet) → List ℕ) → HasLeftBy course j tables.places a.before a.after sets.finals → IsOutcomeBy course j tables.places tasks sets →
    Reports course j tables a form (form (λ t. results_of tasks t) (λ s p. set_in sets s p))
reports course j tables a tasks sets form l o = record {
  ran = l.ran;
  results = λ t. results_of tasks t;
  sets = λ s p. set_in sets s p;
  are_results = o.are_results;
  are_sets = o.are_sets;
  are_bounded = o.are_bounded;
  are_final = λ s p some most here. set_is_left course j tables.places a.before a.after sets s p l o.job o.size here;
  is_text = refl;
}

-- the marks of a session, which keep the rules
pub marked : (course : Course) (j : JobView) (tables : TablesView) (s : ℕ) (a : AreasChange) (tasks : List Done) (sets : SetsView) (marks : MarksView) → HasLeftBy course j tables.places a.before a.after sets.finals → IsOutcomeBy course j tables.places tasks sets →
    keeps_rules marks ≡ true → marks ≡ session_file j tables (λ p. set_in sets s p) s → IsMarksText course j tables s a (file_bytes Second marks)
unfolding reports
marked course j tables s a tasks sets marks l o rules is = subst (λ (m : MarksView). IsMarksText course j tables s a (file_bytes Second m)) (sym is) (record {
  reports = reports course j tables a tasks sets (λ results sets'. file_bytes Second (named_file j tables s sets')) l o;
  rules = subst (λ (m : MarksView). keeps_rules m ≡ true) is rules;
})
