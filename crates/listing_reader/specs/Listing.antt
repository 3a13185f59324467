-- What is told of the lines of a listing, and of a fault.
use Rattle.std.specs.Prelude.{◌≡◌, ◌⊎◌, ◌==◌, Bool, true, Option, Some}
use Rattle.cov_base.specs.Meaning.{length_of}
use Rattle.s370_decode.specs.Meaning.{first_half}
use Rattle.listing_reader.specs.declared.lines.Line.{Line}
use Rattle.listing_reader.specs.declared.lines.Line.TheVariants.{Text}
use Rattle.listing_reader.specs.declared.lines.Line.TheVariants as says

-- the code has the length that its first halfword gives
abbrev pub is_sound : Line → Bool
is_sound Text = true
is_sound (says.Code loc code) = code.len == length_of (first_half code)

-- what is told of a fault: it, or want of memory
abbrev pub IsTold : {E : Type 0} → E → Option E → E → Type 0
IsTold shortage fault e = (e ≡ shortage) ⊎ (fault ≡ Some e)
