-- The instructions of the first places, and of one more.
use Rattle.std.proofs.Common.{◌≡◌, inl, inr, ℕ, ◌+◌, ◌<◌, List, [], ◌∷◌, ◌++◌, length, get_or, subst, sym, arith, length-append, All}
use Rattle.std.proofs.lemmas.Bool.{cases_lt}
use Rattle.std.proofs.lemmas.List.{get_or_append_left, get_or_default, get_or_push}
use Rattle.cov_base.specs.Meaning.{ImageView}
use Rattle.module_area.specs.Meaning.{no_place, place_of}
use Rattle.module_area.specs.declared.places.Place.{Place}
use Rattle.s370_decode.specs.declared.code.Code.{Code}
use Rattle.brk_table.specs.Kept.{IsCodeOf, AreCodes}
use Rattle.brk_table.specs.Meaning.{TablesView}
use Rattle.brk_table.specs.Places.{IsIn}

-- those of the first n places
pub record AreFirst (images : List ImageView) (places : List Place) (codes : List Code) (n : ℕ) : Type 0 where
  pub count : length codes ≡ n
  pub each : (k : ℕ) (d : Code) → k < n → IsCodeOf images (place_of places k) (get_or codes k d)

pub first_more : (images : List ImageView) (places : List Place) (codes : List Code) (n : ℕ) (c : Code) → AreFirst images places codes n → IsCodeOf images (place_of places n) c → AreFirst images places (codes ++ c ∷ []) (n + 1)
first_more images places codes n c are is = record {
  count = (let e = length-append codes (c ∷ []) in omega (arith, e, are.count));
  each = λ k d l. elim (cases_lt k n) [
    | inl b ↦ subst (IsCodeOf images (place_of places k)) (sym (get_or_append_left codes (c ∷ []) d k (omega (arith, are.count)))) (are.each k d b)
    | inr b ↦ (let e : k ≡ length codes = omega (arith, are.count) in let f : k ≡ n = omega arith in
        subst (λ (x : Code). IsCodeOf images (place_of places k) x) (sym (get_or_push codes c d k (sym e))) (subst (λ (i : ℕ). IsCodeOf images (place_of places i) c) (sym f) is))
  ];
}

-- places that have their instructions lie in the modules
pub are_in : (images : List ImageView) (tables : TablesView) → AreCodes images tables → All (IsIn images) tables.places
are_in images tables are k d l =
    let c : Code = record { at = 0; bytes = []; len = 0 } in
    subst (IsIn images) (get_or_default tables.places k no_place d l) (are.codes.each k c l).inside
