-- The runs that are left after the places before number n, where one is begun or none.
use Rattle.std.proofs.Common.{◌≡◌, ℕ, ◌+◌, ◌-◌, ◌<◌, ◌≤◌, suc, true, false, Option, Some, None, option_map, unwrap_or, List, ◌∷◌, ◌++◌, refl, arith}
use Rattle.cov_base.specs.Meaning.{FactSet}
use Rattle.module_area.specs.Meaning.{place_of}
use Rattle.module_area.specs.declared.places.Place.{Place}
use Rattle.session_book.specs.Meaning.{JobView}
use Rattle.report_text.specs.declared.sessions.Run.{Run}
use Rattle.report_text.specs.Meaning.{lacks, location_of, last_byte_of, run_end, run_line, run_lines}
use Rattle.report_text.specs.Sessions.{open_run}

abbrev pub runs_left : JobView → List Place → (ℕ → FactSet) → Option Run → ℕ → ℕ → List (List ℕ)
runs_left job places sets None n count = run_lines job places sets false n count
runs_left job places sets (Some run) n count = run_line run.from (run_end job places sets run.last n count) ∷ run_lines job places sets true n count

-- the place of number n has a fact
pub runs-closed : (job : JobView) (places : List Place) (sets : ℕ → FactSet) (run : Option Run) (n past : ℕ) → n < past → lacks (sets n) ≡ false → runs_left job places sets run n (past - n) ≡ open_run run ++ runs_left job places sets None (n + 1) (past - (n + 1))
runs-closed job places sets None n past h has = let step : past - n ≡ suc (past - (n + 1)) = omega arith in rw (step, has) refl
runs-closed job places sets (Some run) n past h has = let step : past - n ≡ suc (past - (n + 1)) = omega arith in rw (step, has) refl

-- it has none, and the run goes on with it
pub runs-more : (job : JobView) (places : List Place) (sets : ℕ → FactSet) (run : Option Run) (next : Run) (n past : ℕ) → n < past → lacks (sets n) ≡ true → next.from ≡ unwrap_or (option_map (λ (r : Run). r.from) run) (location_of job (place_of places n)) → next.last ≡ last_byte_of job (place_of places n) → runs_left job places sets run n (past - n) ≡ runs_left job places sets (Some next) (n + 1) (past - (n + 1))
runs-more job places sets None next n past h none from last = let step : past - n ≡ suc (past - (n + 1)) = omega arith in rw (step, none, from, last) refl
runs-more job places sets (Some run) next n past h none from last = let step : past - n ≡ suc (past - (n + 1)) = omega arith in rw (step, none, from, last) refl

-- after all places
pub runs-end : (job : JobView) (places : List Place) (sets : ℕ → FactSet) (run : Option Run) (n past : ℕ) → past ≤ n → runs_left job places sets run n (past - n) ≡ open_run run
runs-end job places sets None n past h = let step : past - n ≡ 0 = omega arith in rw step refl
runs-end job places sets (Some run) n past h = let step : past - n ≡ 0 = omega arith in rw step refl
