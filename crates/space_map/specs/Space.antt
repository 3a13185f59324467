-- What contracts see of a task's space.
use Rattle.std.specs.Prelude.{ℕ, ◌*◌, List, length, take, drop}
use Rattle.cov_base.specs.Meaning.{Memory, ImageView, half_at}
use Rattle.module_area.specs.declared.places.Place.{Place}
use Rattle.brk_table.specs.Meaning.{memory_of}

-- private storage's bytes, the modules, and their places
pub record SpaceView : Type 0 where
  pub bytes : List ℕ
  pub images : List ImageView
  pub places : List Place

abbrev pub memory_of_space : SpaceView → Memory
memory_of_space s = memory_of (length s.bytes) s.images s.places

-- the halfword from an address on
abbrev pub half_in_space : SpaceView → ℕ → ℕ
half_in_space s a = half_at (memory_of_space s) s.bytes a

-- private storage's bytes as rows of 16, of which the last may be shorter
abbrev pub row_of : List ℕ → ℕ → List ℕ
row_of bytes n = take 16 (drop (16 * n) bytes)
