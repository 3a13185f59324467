-- The instructions of the places, decoded.
use Rattle.std.specs.Prelude.{◌≡◌, ◌≢◌, ℕ, ◌+◌, ◌<◌, ◌≤◌, List, length, get_or, drop}
use Rattle.cov_base.specs.declared.constants.TheConstants.{RETURN_ADDRESS}
use Rattle.module_area.specs.Meaning.{place_of}
use Rattle.s370_decode.specs.declared.code.Code.{Code}
use Rattle.brk_table.specs.declared.kept.Kept.{Kept}
use Rattle.brk_table.specs.Meaning.{TablesView}

-- the first n of these instructions in their order
pub record AreFirstDecoded (codes : List Code) (kept : List Kept) (n : ℕ) : Type 0 where
  pub count : length kept ≡ n
  pub each : (i : ℕ) (c : Code) (k : Kept) → i < n → (get_or kept i k).decoded.code ≡ get_or codes i c

-- these instructions in their order, and behind them two that are found at no address
pub record AreDecoded (codes : List Code) (kept : List Kept) : Type 0 where
  pub count : length kept ≡ length codes + 2
  pub each : (n : ℕ) (c : Code) (k : Kept) → n < length codes → (get_or kept n k).decoded.code ≡ get_or codes n c
  pub behind : (n : ℕ) (k : Kept) → length codes ≤ n → n < length kept → (get_or kept n k).key ≡ 16777216

-- the tables have the instruction of each place, which stands where the place begins
pub record AreAtPlaces (tables : TablesView) : Type 0 where
  pub count : length tables.codes ≡ length tables.places
  pub each : (n : ℕ) (c : Code) → n < length tables.places → (get_or tables.codes n c).at ≡ (place_of tables.places n).at

-- these are the instructions from place n on
abbrev pub AreFrom : TablesView → ℕ → List Kept → Type 0
AreFrom tables n kept = AreDecoded (drop n tables.codes) kept

-- place n begins at the address, and a task executes its instruction there
pub record IsThere (tables : TablesView) (n a : ℕ) : Type 0 where
  pub exists : n < length tables.places
  pub begins : (place_of tables.places n).at ≡ a
  pub goes_on : a ≢ RETURN_ADDRESS
