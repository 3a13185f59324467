-- The instructions that are kept beside the places.
use Rattle.std.specs.Prelude.{◌≡◌, ℕ, ◌+◌, ◌-◌, ◌/◌, ◌%◌, ◌<◌, ◌≤◌, true, false, nat_lt, if◌then◌else◌, List, [], ◌∷◌, length, get_or, All}
use Rattle.cov_base.specs.Meaning.{Memory, ImageView, wrap, can_reach, half_at}
use Rattle.module_area.specs.Meaning.{place_of}
use Rattle.module_area.specs.declared.places.Place.{Place}
use Rattle.s370_decode.specs.declared.code.Code.{Code}
use Rattle.brk_table.specs.Meaning.{module_code, TablesView}
use Rattle.brk_table.specs.Places.{ArePlaces, IsIn}

-- the whole instruction of a place of the module
abbrev pub code_in : ImageView → Place → Code
code_in i p = record (module_code i.bytes (p.at - i.base) p.len) { at = p.at }

-- the whole instruction of the place, which lies in one of the modules
pub record IsCodeOf (images : List ImageView) (p : Place) (c : Code) : Type 0 where
  pub inside : IsIn images p
  pub is : c ≡ code_in inside.image p
  pub bytes : All (λ b. b < 256) c.bytes

-- one instruction for each of the places, in their order
pub record AreCodesOf (images : List ImageView) (places : List Place) (codes : List Code) : Type 0 where
  pub count : length codes ≡ length places
  pub each : (n : ℕ) (d : Code) → n < length places → IsCodeOf images (place_of places n) (get_or codes n d)

-- the tables are over these modules, and have the instruction of each of their places
pub record AreCodes (images : List ImageView) (tables : TablesView) : Type 0 where
  pub places : ArePlaces tables.places
  pub codes : AreCodesOf images tables.places tables.codes

-- the halfword from byte i of the place on, 0 past the place
abbrev pub later_half : Memory → List ℕ → Place → ℕ → ℕ
later_half m bytes p i = if nat_lt i p.len then half_at m bytes (wrap (p.at + i)) else 0

-- the place's instruction by its original and its later halfwords
abbrev pub code_by : Place → ℕ → ℕ → Code
code_by p second third = record {
  at = p.at;
  bytes = p.original / 256 ∷ (p.original % 256 ∷ (second / 256 ∷ (second % 256 ∷ (third / 256 ∷ (third % 256 ∷ [])))));
  len = p.len;
}

-- A place's instruction as a task sees it, whatever its private bytes are: each later halfword is reached, and is no
-- place's first.
pub record IsKept (m : Memory) (p : Place) (c : Code) : Type 0 where
  pub later_reached : (i : ℕ) → 2 ≤ i → i + 2 ≤ p.len → can_reach m (wrap (p.at + i)) 2 ≡ true
  pub later_untouched : (i : ℕ) → 2 ≤ i → i + 2 ≤ p.len → m.is_touch (wrap (p.at + i)) ≡ false
  pub code : (bytes : List ℕ) → c ≡ code_by p (later_half m bytes p 2) (later_half m bytes p 4)

-- the tables have the instruction of each place as a task with this memory sees it
pub record AreKept (m : Memory) (tables : TablesView) : Type 0 where
  pub count : length tables.codes ≡ length tables.places
  pub each : (n : ℕ) (d : Code) → n < length tables.places → IsKept m (place_of tables.places n) (get_or tables.codes n d)
