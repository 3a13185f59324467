-- How a cell lies in its word, and the words with which an area begins: those of the cells, and others behind them.
use Rattle.std.specs.Prelude.{ℕ, ◌-◌, ◌/◌, ◌%◌, ◌<◌, List, ◌++◌, map, length, replicate}
use Rattle.module_area.specs.declared.cells.Cell.{Cell}
use Rattle.module_area.specs.declared.places.Place.{Place}
use Rattle.module_area.specs.Meaning.{PlanView, original_at}

-- the tag above the halfword
abbrev pub cell_of : ℕ → Cell
cell_of w = record { tag = w / 65536; half = w % 65536 }

abbrev pub original_of : Place → ℕ
original_of p = p.original

-- so many words: nothing is planted, and behind the cells all is 0
abbrev pub starting : PlanView → ℕ → List ℕ
starting plan count = map original_of plan.places ++ replicate (count - length plan.places) 0

-- the first n originals are halfwords
abbrev pub AllFit : PlanView → ℕ → Type 0
AllFit plan n = (p : ℕ) → p < n → original_at plan p < 65536
