-- The place that begins at an address.
use Rattle.std.proofs.Common.{◌≡◌, ℕ, ◌<◌, false, List, length, sym, ◌∙◌, ◌≢◌}
use Rattle.module_area.specs.declared.places.Place.{Place}
use Rattle.module_area.specs.Meaning.{is_place, place_of}
use Rattle.brk_table.specs.Places.{ArePlaces}
use Rattle.brk_table.proofs.Laws.{one_begins, is_place-there}
use Rattle.task_run.specs.Sights.{BeginsAt}
use Rattle.std.proofs.lemmas.Bool.{both_ways}

pub begins_at : (places : List Place) (a p : ℕ) → ArePlaces places → p < length places → (place_of places p).at ≡ a → BeginsAt places a p
begins_at places a p are lt at = record {
  exists = lt;
  begins = at;
  only = λ q within same. one_begins places p q are lt within (same ∙ sym at);
}

-- no place begins at an address where none does
pub none_begins : (places : List Place) (a p : ℕ) → is_place places a ≡ false → p < length places → (place_of places p).at ≢ a
none_begins places a p none lt at = both_ways (is_place places a) none (is_place-there places p a lt at)
