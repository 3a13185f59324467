-- The entries of the first visits that were found, and how they go to a sink.
use Rattle.std.specs.Prelude.{ℕ, ◌-◌, ◌++◌, List, Result}
use Rattle.std.specs.List.{flat_map}
use Rattle.cov_outside.specs.Puts.{Puts}
use Rattle.cov_outside.specs.declared.streams.Sink as sink
use Rattle.brk_table.specs.Meaning.{TablesView}
use Rattle.evidence_check.specs.Meaning.{evidence_magic, places_entries, module_entries}
use Rattle.evidence_check.specs.Found.{found_at}
use Rattle.evidence_check.specs.declared.firsts.Found.{Found}

-- of the places from `first` on, below `past`
abbrev pub entries_from : List Found → ℕ → ℕ → List ℕ
entries_from found first past = places_entries (found_at found) first (past - first)

-- of these modules' places
abbrev pub entries_of : TablesView → List Found → List ℕ → List ℕ
entries_of tables found modules = flat_map (module_entries tables (found_at found)) modules

abbrev pub evidence_of : TablesView → List Found → List ℕ → List ℕ
evidence_of tables found modules = evidence_magic ++ entries_of tables found modules

-- `Puts`, by what the sink tells of itself
abbrev pub PutsTo : {K T E : Type 0} → sink.Ghosts K → K → K → List ℕ → List ℕ → Result T E → List ℕ → Type 0
PutsTo g old new before after result text = Puts g.written g.faults old new before after result text
