-- What one finished area adds to what areas tell.
use Rattle.std.specs.Prelude.{◌≡◌, ℕ, List, [], ◌∷◌, ◌++◌}
use Rattle.cov_base.specs.Meaning.{Visit}
use Rattle.module_area.specs.Meaning.{FinalsView, PlanView}
use Rattle.module_area.specs.declared.tallies.Tally.{Tally}
use Rattle.task_run.specs.Meaning.{Walk}
use Rattle.job_run.specs.Meaning.{EndsArea}

-- the lists of finished areas have grown by this one
pub record GrowsBy (plan : PlanView) (walks : ℕ → Walk) (trace : List Visit) (ledger ledger' : List Tally)
    (finals finals' : List FinalsView) (f : FinalsView) : Type 0 where
  pub tally : Tally
  pub ends : EndsArea plan walks trace f tally
  pub in_ledger : ledger' ≡ ledger ++ tally ∷ []
  pub in_finals : finals' ≡ finals ++ f ∷ []
