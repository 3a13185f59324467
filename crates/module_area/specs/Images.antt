-- Where modules may stand: on doublewords from X'100000' on, of an even size, below X'FFF000', sharing no byte.
use Rattle.std.specs.Prelude.{◌≡◌, ◌⊎◌, ◌+◌, ◌%◌, ◌≤◌, List, length, All, AllPairs}
use Rattle.cov_base.specs.Meaning.{ImageView}

pub record IsImage (i : ImageView) : Type 0 where
  pub doubleword : i.base % 8 ≡ 0
  pub from : 1048576 ≤ i.base
  pub even : length i.bytes % 2 ≡ 0
  pub some : 2 ≤ length i.bytes
  pub to : i.base + length i.bytes ≤ 16773120

-- they share no byte
abbrev pub AreClear : ImageView → ImageView → Type 0
AreClear i j = (i.base + length i.bytes ≤ j.base) ⊎ (j.base + length j.bytes ≤ i.base)

pub record AreImages (images : List ImageView) : Type 0 where
  pub each : All IsImage images
  pub apart : AllPairs AreClear images
