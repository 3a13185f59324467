-- The file that is written, and modules whose rows can be read back.
use Rattle.std.specs.Prelude.{◌≡◌, ℕ, ◌<◌, ◌^◌, Option, List, length}
use Rattle.cov_base.specs.Meaning.{padded, unpadded}
use Rattle.marks_file.specs.Meaning.{MarkedView, file_bytes}
use Rattle.marks_file.specs.declared.version.Version.TheVariants.{Second}

-- the file of these marks as it is written
abbrev pub written_file : Option (List ℕ) → ℕ → List MarkedView → List ℕ
written_file name runs modules = file_bytes Second (record { name = name; runs = runs; modules = modules })

-- what makes a module's row 20 bytes that can be read back
pub record HasRow (m : MarkedView) : Type 0 where
  pub name : padded (unpadded m.name) ≡ m.name
  pub count : length m.places < 2 ^ 32
