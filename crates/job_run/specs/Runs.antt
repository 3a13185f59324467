-- What the areas of a job's run have gained.
use Rattle.std.specs.Prelude.{◌≡◌, ℕ, ◌+◌, List}
use Rattle.std.specs.declared.vec.Vec.{Vec}
use Rattle.module_area.specs.Meaning.{FinalsView}
use Rattle.module_area.specs.declared.areas.Areas as areas
use Rattle.module_area.specs.declared.places.Place.{Place}
use Rattle.brk_table.specs.Meaning.{TablesView}
use Rattle.session_book.specs.Meaning.{JobView}
use Rattle.phase_plan.specs.Meaning.{plan_view}
use Rattle.task_run.specs.Meaning.{Course}
use Rattle.job_run.specs.Areas.{GrowsBy}
use Rattle.job_run.specs.Meaning.{walk_by, phase_trace, Account, HasRunBy}
use Rattle.job_run.specs.declared.outcome.Outcome.{Outcome}

-- and these are the entries that `finals` has gained, one for each phase
pub record HasLeftBy (course : Course) (j : JobView) (places : List Place) (before after : Account)
    (sets : List FinalsView) : Type 0 where
  pub ran : HasRunBy course j places before after
  pub are : sets ≡ ran.sets

-- so a phase, from the one state of what keeps these lists to the other, which has made one area more
pub record Grows {A C P : Type 0} (by : areas.Ghosts A C P) (course : Course) (j : JobView) (tables : TablesView) (phase : ℕ)
    (old new : A) (f : FinalsView) : Type 0 where
  pub lists : GrowsBy (plan_view j tables.places phase) (walk_by course j tables.places) (phase_trace course j tables.places phase)
      (by.ledger old) (by.ledger new) (by.finals old) (by.finals new) f
  pub made : by.made new ≡ by.made old + 1

-- and so all phases, where it has made so many areas
abbrev pub GrowsTo : {A C P : Type 0} → areas.Ghosts A C P → Course → JobView → TablesView → A → A → List FinalsView → Type 0
GrowsTo by course j tables old new sets = HasLeftBy course j tables.places
    (record { ledger = by.ledger old; finals = by.finals old; made = by.made old })
    (record { ledger = by.ledger new; finals = by.finals new; made = by.made new }) sets

-- to these sets
abbrev pub LeavesSets : {A C P Z : Type 0} → areas.Ghosts A C P → Course → JobView → TablesView → A → A → Vec FinalsView Z → Type 0
LeavesSets by course j tables old new finals = GrowsTo by course j tables old new finals.items

-- to the sets of this outcome
abbrev pub HasGrown : {A C P : Type 0} → areas.Ghosts A C P → Course → JobView → TablesView → A → A → Outcome → Type 0
HasGrown by course j tables old new outcome = GrowsTo by course j tables old new outcome.sets.finals
