-- What places are, in their modules and as a task sees them.
use Rattle.std.specs.Prelude.{◌≡◌, ◌≢◌, ◌⊎◌, ℕ, zero, suc, ◌+◌, ◌-◌, ◌*◌, ◌%◌, ◌<◌, ◌≤◌, true, Option, Some, None, IfSome, List, length, slice_index, get_or, All, AllPairs}
use Rattle.cov_base.specs.Meaning.{breakpoint, kind_of, length_of, Memory, ImageView, can_reach, half_at}
use Rattle.cov_base.specs.declared.limits.TheConstants.{PLACE_LIMIT}
use Rattle.module_area.specs.Meaning.{place_of}
use Rattle.module_area.specs.declared.places.Place.{Place}
use Rattle.brk_table.specs.Meaning.{TableView}

-- the index that a number stands for, which is one more; 0 stands for none
abbrev pub place_numbered : ℕ → Option ℕ
place_numbered zero = None
place_numbered (suc k) = Some k

-- the place of each instruction line is one of the table's
abbrev pub HasItsPlaces : TableView → Type 0
HasItsPlaces t = All (λ e. IfSome e (λ i. i < length t.places)) t.lines

-- its places stand in order of address
abbrev pub HasRisingPlaces : TableView → Type 0
HasRisingPlaces t = AllPairs (λ p q. p.at < q.at) t.places

pub record IsPlace (p : Place) : Type 0 where
  pub even : p.at % 2 ≡ 0
  pub size : p.len ≡ length_of p.original
  pub kind : p.kind ≡ kind_of p.original
  pub no_breakpoint : p.original ≢ breakpoint
  pub below : p.at + p.len ≤ 16777216

-- they share no byte
abbrev pub AreApart : Place → Place → Type 0
AreApart p q = (p.at + p.len ≤ q.at) ⊎ (q.at + q.len ≤ p.at)

pub record ArePlaces (places : List Place) : Type 0 where
  pub each : All IsPlace places
  pub apart : AllPairs AreApart places
  pub most : length places ≤ PLACE_LIMIT

-- the place lies in its module, which has its first halfword there
pub record IsIn (images : List ImageView) (p : Place) : Type 0 where
  pub image : ImageView
  pub exists : p.module < length images
  pub is : get_or images p.module image ≡ image
  pub from : image.base ≤ p.at
  pub to : p.at + p.len ≤ image.base + length image.bytes
  pub original : p.original ≡ slice_index image.bytes (p.at - image.base) * 256 + slice_index image.bytes (p.at - image.base + 1)

-- a place as a task sees it, whatever its private bytes are
pub record IsSeen (m : Memory) (p : Place) : Type 0 where
  pub reached : can_reach m p.at 2 ≡ true
  pub original : (bytes : List ℕ) → half_at m bytes p.at ≡ p.original

abbrev pub AreSeen : Memory → List Place → Type 0
AreSeen m places = (n : ℕ) → n < length places → IsSeen m (place_of places n)
