-- What an observer is shown.
use Rattle.std.specs.Prelude.{◌≡◌, ℕ, ◌<◌, true, false, if◌then◌else◌, Option, Some, None, List, length, IfSome}
use Rattle.cov_base.specs.Meaning.{CpuView, Visit, kind_of}
use Rattle.cov_base.specs.declared.numbers.PlaceNo.{PlaceNo}
use Rattle.module_area.specs.declared.places.Place.{Place}
use Rattle.module_area.specs.Meaning.{place_of, is_place}
use Rattle.s370_decode.specs.Meaning.{first_half, op_of}
use Rattle.s370_decode.specs.declared.code.Code.{Code}
use Rattle.s370_decode.specs.declared.op.Op.TheVariants.{BC, BCT}
use Rattle.s370_branch.specs.Meaning.{goes, less_one}
use Rattle.task_run.specs.declared.observer.Sight.{Sight}
use Rattle.task_run.specs.declared.observer.Known.{Known}
use Rattle.task_run.specs.declared.observer.Known.TheVariants.{Nothing, Condition, Count}

-- it is the place that begins there, and the only one
pub record BeginsAt (places : List Place) (a p : ℕ) : Type 0 where
  pub exists : p < length places
  pub begins : (place_of places p).at ≡ a
  pub only : (q : ℕ) → q < length places → (place_of places q).at ≡ a → q ≡ p

-- the place that begins at the address; none where none does
abbrev pub IsPlaced : List Place → ℕ → Option PlaceNo → Type 0
IsPlaced places a None = is_place places a ≡ false
IsPlaced places a (Some p) = BeginsAt places a p.0

-- the place has the kind of this instruction
abbrev pub HasKindOf : List Place → Option PlaceNo → Code → Type 0
HasKindOf places place code = IfSome place (λ p. (place_of places p.0).kind ≡ kind_of (first_half code))

-- how many visits of its instruction were shown before
abbrev pub stage_of : Sight → ℕ
stage_of s = if s.subject then 1 else 0

-- the visit of an instruction that is begun, which is executed as this code
abbrev pub begun_visit : Sight → CpuView → Code → Visit
begun_visit s cpu code =
    record { at = s.at; begun = true; went = goes (op_of (first_half code)) cpu code; before = s.done; subject = s.subject }

-- what is known of it as it begins
abbrev pub IsKnown : Known → Code → CpuView → Type 0
IsKnown Nothing code cpu = Unit {0}
IsKnown (Condition went) code cpu = (op_of (first_half code) ≡ BC) × (went ≡ goes BC cpu code)
IsKnown (Count left) code cpu = (op_of (first_half code) ≡ BCT) × (left ≡ less_one cpu code)

-- the visit of one that isn't
abbrev pub refused_visit : Sight → Visit
refused_visit s = record { at = s.at; begun = false; went = false; before = s.done; subject = s.subject }
