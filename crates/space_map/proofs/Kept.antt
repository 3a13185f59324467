-- The instructions that are kept are those that a task sees at their places.
use Rattle.std.proofs.Common.{◌≡◌, ℕ, ◌+◌, ◌-◌, ◌*◌, ◌%◌, ◌<◌, ◌≤◌, true, false, List, length, get_or, slice_index, refl, ap, ◌∙◌, arith, inl, inr}
use Rattle.std.specs.List.{All}
use Rattle.std.proofs.lemmas.Bool.{cases_lt, lt-ltb, le-ltb}
use Rattle.std.proofs.lemmas.Bool.Decides.{nat_tests}
use Rattle.cov_base.specs.Meaning.{length_of, ImageView, wrap, byte_at, can_reach}
use Rattle.cov_base.proofs.Laws.{length_of-least}
use Rattle.std.proofs.lemmas.Nat.{div-mul-add, mod-mul-add}
use Rattle.s370_decode.specs.declared.code.Code.{Code}
use Rattle.module_area.specs.declared.places.Place.{Place}
use Rattle.module_area.specs.Meaning.{no_place, place_of}
use Rattle.module_area.specs.Images.{AreImages}
use Rattle.brk_table.specs.Meaning.{TablesView, memory_of, module_byte, module_code}
use Rattle.brk_table.specs.Places.{IsPlace, ArePlaces, IsIn}
use Rattle.brk_table.specs.Kept.{code_in, code_by, later_half, IsCodeOf, AreCodes, IsKept, AreKept}
use Rattle.brk_table.proofs.Laws.{not_touched}
use Rattle.space_map.proofs.Ranges.{reach_image}
use Rattle.space_map.proofs.Seen.{byte_at-image, image_byte-of, is_image-of}
use Rattle.space_map.proofs.Touches.{base_from}

-- the halfword from byte i on of so many bytes of the module, 0 past these
abbrev module_half : List ℕ → ℕ → ℕ → ℕ → ℕ
module_half bytes loc len i = module_byte bytes loc len i * 256 + module_byte bytes loc len (i + 1)

even_length : (h : ℕ) → length_of h % 2 ≡ 0
unfolding length_of
even_length h = grind (arith, nat_tests)

-- a byte of a place is that of its module
byte_there : (size : ℕ) (images : List ImageView) (places : List Place) (p : Place) (q : IsIn images p) (bytes : List ℕ) (i : ℕ) → size ≤ 1048576 → AreImages images → i < p.len
    → byte_at (memory_of size images places) bytes (p.at + i) ≡ slice_index q.image.bytes (p.at - q.image.base + i)
byte_there size images places p q bytes i h f l =
    let start : 1048576 ≤ p.at = base_from images p f q in
    let at : p.at + i - q.image.base ≡ p.at - q.image.base + i = omega (arith, q.from) in
    byte_at-image size images places bytes (p.at + i) (omega (arith, start)) ∙ (image_byte-of images p q (p.at + i) f (omega (arith, q.from)) (omega (arith, q.to)) ∙ ap (slice_index q.image.bytes) at)

later_there : (size : ℕ) (images : List ImageView) (places : List Place) (p : Place) (q : IsIn images p) (bytes : List ℕ) (i : ℕ) → size ≤ 1048576 → AreImages images → IsPlace p → i % 2 ≡ 0
    → later_half (memory_of size images places) bytes p i ≡ module_half q.image.bytes (p.at - q.image.base) p.len i
later_there size images places p q bytes i h f g even = elim (cases_lt i p.len) [
  | inl l ↦ (
      let next : i + 1 < p.len = omega (arith, even, g.size, even_length p.original) in
      let here : wrap (p.at + i) ≡ p.at + i = omega (arith, g.below) in
      let there : wrap (p.at + i + 1) ≡ p.at + (i + 1) = omega (arith, g.below) in
      rw (lt-ltb i p.len l, lt-ltb (i + 1) p.len next, here, there, byte_there size images places p q bytes i h f l, byte_there size images places p q bytes (i + 1) h f next) refl)
  | inr m ↦ rw (le-ltb i p.len m, le-ltb (i + 1) p.len (omega arith)) refl
]

-- a later halfword of a place is reached, and is no place's first

pub later_reached : (size : ℕ) (images : List ImageView) (places : List Place) (p : Place) (i : ℕ) → IsPlace p → IsIn images p → i + 2 ≤ p.len
    → can_reach (memory_of size images places) (wrap (p.at + i)) 2 ≡ true
later_reached size images places p i g q to =
    let here : wrap (p.at + i) ≡ p.at + i = omega (arith, g.below) in
    rw here (reach_image (memory_of size images places) (p.at + i) 2 (λ b low high. is_image-of size images places p q b (omega (arith, q.from)) (omega (arith, q.to))) (omega (arith, g.below)))

pub later_untouched : (size : ℕ) (images : List ImageView) (places : List Place) (n i : ℕ) → ArePlaces places → n < length places → 2 ≤ i → i + 2 ≤ (place_of places n).len
    → (memory_of size images places).is_touch (wrap ((place_of places n).at + i)) ≡ false
unfolding memory_of
later_untouched size images places n i are l from to =
    let here : wrap ((place_of places n).at + i) ≡ (place_of places n).at + i = omega (arith, (are.each n no_place l).below) in
    rw here (not_touched places n ((place_of places n).at + i) are l (omega arith) (omega arith))

-- the module's bytes are those of the place's halfwords
pub code_in-halves : (i : ImageView) (p : Place) → 2 ≤ p.len → p.original ≡ slice_index i.bytes (p.at - i.base) * 256 + slice_index i.bytes (p.at - i.base + 1) → All (λ b. b < 256) (code_in i p).bytes
    → code_in i p ≡ code_by p (module_half i.bytes (p.at - i.base) p.len 2) (module_half i.bytes (p.at - i.base) p.len 4)
unfolding module_code
code_in-halves i p long half small =
    let b : ℕ → ℕ = λ k. module_byte i.bytes (p.at - i.base) p.len k in
    let start : p.at - i.base + 0 ≡ p.at - i.base = omega arith in
    let first : p.original ≡ b 0 * 256 + b 1 = half ∙ rw (lt-ltb 0 p.len (omega arith), lt-ltb 1 p.len (omega arith), start) refl in
    let one : b 1 < 256 = small 1 0 (omega arith) in
    let three : b 3 < 256 = small 3 0 (omega arith) in
    let five : b 5 < 256 = small 5 0 (omega arith) in
    rw (first, div-mul-add (b 0) 256 (b 1) one, mod-mul-add (b 0) 256 (b 1) one, div-mul-add (b 2) 256 (b 3) three, mod-mul-add (b 2) 256 (b 3) three, div-mul-add (b 4) 256 (b 5) five, mod-mul-add (b 4) 256 (b 5) five) refl

is_kept : (size : ℕ) (images : List ImageView) (places : List Place) (n : ℕ) (c : Code) → size ≤ 1048576 → AreImages images → ArePlaces places → n < length places → IsCodeOf images (place_of places n) c → IsKept (memory_of size images places) (place_of places n) c
is_kept size images places n c h f are l is =
    let p : Place = place_of places n in
    let g : IsPlace p = are.each n no_place l in
    let q : IsIn images p = is.inside in
    let two : 2 ≤ p.len = omega (arith, g.size, length_of-least p.original) in
    record {
      later_reached = λ i from to. later_reached size images places p i g q to;
      later_untouched = λ i from to. later_untouched size images places n i are l from to;
      code = λ bytes. is.is
          ∙ (code_in-halves q.image p two q.original (rw is.is at is.bytes)
          ∙ rw (later_there size images places p q bytes 2 h f g refl, later_there size images places p q bytes 4 h f g refl) refl);
    }

pub are_kept : (size : ℕ) (images : List ImageView) (tables : TablesView) → size ≤ 1048576 → AreImages images → AreCodes images tables → AreKept (memory_of size images tables.places) tables
are_kept size images tables h f are = record {
  count = are.codes.count;
  each = λ n d l. is_kept size images tables.places n (get_or tables.codes n d) h f are.places l (are.codes.each n d l);
}
