-- What a field keeps of a number.
use Rattle.std.specs.Prelude.{ℕ, ℤ}
use Rattle.std.specs.Int.{is_negative}
use Rattle.std.specs.Int.RustNames.{unsigned_abs}
use Rattle.s370_decimal.specs.Meaning.{kept}
use Rattle.s370_decimal.specs.declared.results.Kept.{Kept}

-- a field of length code l
abbrev pub number_kept : ℕ → ℤ → Kept
number_kept l z = kept l (unsigned_abs z) (is_negative z)
