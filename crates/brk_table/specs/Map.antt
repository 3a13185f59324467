-- The place at each address: for each page of 4 KB the number of its 2,048 entries, one for each halfword.
use Rattle.std.specs.Prelude.{◌≡◌, ◌≢◌, ℕ, ◌+◌, ◌*◌, ◌/◌, ◌%◌, ◌<◌, ◌≤◌, List, length, get_or}
use Rattle.module_area.specs.Meaning.{place_of}
use Rattle.module_area.specs.declared.places.Place.{Place}

-- where the address's halfword has its entry
abbrev pub slot_of : List ℕ → ℕ → ℕ
slot_of pages a = get_or pages (a / 4096) 0 * 2048 + a / 2 % 2048

unfoldable pub entry_at : List ℕ → List ℕ → ℕ → ℕ
entry_at pages entries a = get_or entries (slot_of pages a) 0

-- the pages that have none share the entries from 0 on, which are 0, and no two others share theirs
pub record ArePages (pages entries : List ℕ) : Type 0 where
  pub count : length pages ≡ 4096
  pub whole : length entries % 2048 ≡ 0
  pub own : (k : ℕ) → k < 4096 → get_or pages k 0 * 2048 + 2048 ≤ length entries
  pub zero : (i : ℕ) → i < 2048 → get_or entries i 0 ≡ 0
  pub apart : (j k : ℕ) → j < 4096 → k < 4096 → get_or pages j 0 ≡ get_or pages k 0 → 0 < get_or pages j 0 → j ≡ k

-- the entry of each of the first n places is its number and 1, and all others are 0
pub record IsMap (pages entries : List ℕ) (places : List Place) (n : ℕ) : Type 0 where
  pub are_pages : ArePages pages entries
  pub room : length entries ≤ (n + 1) * 2048
  pub there : (k : ℕ) → k < n → entry_at pages entries (place_of places k).at ≡ k + 1
  pub exists : (a k : ℕ) → a < 16777216 → a % 2 ≡ 0 → entry_at pages entries a ≡ k + 1 → k < n
  pub begins : (a k : ℕ) → a < 16777216 → a % 2 ≡ 0 → entry_at pages entries a ≡ k + 1 → (place_of places k).at ≡ a

-- entries of other halfwords are as they were
abbrev pub AreKept : (old_pages old pages entries : List ℕ) → ℕ → Type 0
AreKept old_pages old pages entries at =
    (a : ℕ) → a < 16777216 → a / 2 ≢ at / 2 → entry_at pages entries a ≡ entry_at old_pages old a

abbrev pub AreSame : (old_pages old pages entries : List ℕ) → Type 0
AreSame old_pages old pages entries = (a : ℕ) → a < 16777216 → entry_at pages entries a ≡ entry_at old_pages old a
