-- Instructions that are decoded one after the other, and those from one place on, of which one is found at an address.
use Rattle.std.proofs.Common.{◌≡◌, ◌≢◌, ◌==◌, inl, inr, ℕ, ◌+◌, ◌-◌, ◌<◌, ◌≤◌, Bool, true, false, if◌then◌else◌, List, [], ◌∷◌, ◌++◌, length, get_or, drop, refl, ap, subst, sym, ◌∙◌, arith, length-append}
use Rattle.std.proofs.lemmas.Bool.{cases_lt, eqb-true}
use Rattle.std.proofs.lemmas.List.{length-drop, get_or-drop, get_or_append_left, get_or-append_right, drop-drop}
use Rattle.cov_base.specs.declared.constants.TheConstants.{RETURN_ADDRESS}
use Rattle.s370_decode.specs.declared.code.Code.{Code}
use Rattle.brk_table.specs.declared.kept.Kept.{Kept}
use Rattle.brk_table.specs.Meaning.{TablesView}
use Rattle.brk_table.specs.Decoded.{AreDecoded, AreFirstDecoded, AreAtPlaces, AreFrom, IsThere}

-- all of them, and two behind
pub decoded_all : (codes : List Code) (kept : List Kept) (x y : Kept) → AreFirstDecoded codes kept (length codes) → x.key ≡ 16777216 → y.key ≡ 16777216 → AreDecoded codes ((kept ++ x ∷ []) ++ y ∷ [])
decoded_all codes kept x y first ex ey =
    let size = first.count in
    let long = length-append kept (x ∷ []) in
    let longer = length-append (kept ++ x ∷ []) (y ∷ []) in record {
      count = omega arith;
      each = λ n c k l. ap (λ (z : Kept). z.decoded.code) (get_or_append_left (kept ++ x ∷ []) (y ∷ []) k n (omega arith) ∙ get_or_append_left kept (x ∷ []) k n (omega arith)) ∙ first.each n c k l;
      behind = λ n k low high. elim (cases_lt n (length codes + 1)) [
        | inl b ↦ (let none : n - length codes ≡ 0 = omega arith in
            ap (λ (z : Kept). z.key) (get_or_append_left (kept ++ x ∷ []) (y ∷ []) k n (omega arith) ∙ get_or-append_right kept (x ∷ []) (length codes) n k size low ∙ ap (λ j. get_or (x ∷ []) j k) none) ∙ ex)
        | inr h ↦ (let none : n - (length codes + 1) ≡ 0 = omega arith in
            ap (λ (z : Kept). z.key) (get_or-append_right (kept ++ x ∷ []) (y ∷ []) (length codes + 1) n k (omega arith) h ∙ ap (λ j. get_or (y ∷ []) j k) none) ∙ ey)
      ];
    }

-- an address by its key
record IsKeyed (at a : ℕ) : Type 0 where
  is : at ≡ a
  goes_on : a ≢ RETURN_ADDRESS

keyed_by : (b : Bool) (at a : ℕ) → (at == RETURN_ADDRESS) ≡ b → (if b then 16777216 else at) ≡ a → a < 16777216 → IsKeyed at a
keyed_by true at a e h l = absurd (omega (arith, h))
keyed_by false at a e h l = record {
  is = h;
  goes_on = λ r. let t : (at == RETURN_ADDRESS) ≡ true = rw (h ∙ r) refl in absurd cc;
}

-- of the two at the head of those from place n on, one whose key is the address is there
pub is_there : (tables : TablesView) (kept : List Kept) (k : Kept) (n i a : ℕ) → AreFrom tables n kept → AreAtPlaces tables → n ≤ length tables.places → i < 2 → a < 16777216 → (get_or kept i k).key ≡ a → IsThere tables (n + i) a
is_there tables kept k n i a from placed most head small key =
    let count = placed.count in
    let left = length-drop n tables.codes in
    let all = from.count in
    elim (cases_lt i (length (drop n tables.codes))) [
      | inl b ↦ (let exists : n + i < length tables.places = omega arith in
          let first : Kept = get_or kept i k in
          let c : Code = first.decoded.code in
          let by : IsKeyed c.at a = keyed_by (c.at == RETURN_ADDRESS) c.at a refl (sym first.keyed ∙ key) small in
          let code : get_or tables.codes (n + i) c ≡ c = sym (get_or-drop n tables.codes i c) ∙ sym (from.each i c k b) in
          record {
            exists = exists;
            begins = sym (placed.each (n + i) c exists) ∙ (ap (λ (x : Code). x.at) code ∙ by.is);
            goes_on = by.goes_on;
          })
      | inr b ↦ absurd (let none = from.behind i k b (omega arith) in omega (arith, none, key, small))
    ]

pub first_there : (tables : TablesView) (kept : List Kept) (k : Kept) (n a : ℕ) → AreFrom tables n kept → AreAtPlaces tables → n ≤ length tables.places → a < 16777216 → (get_or kept 0 k).key ≡ a → IsThere tables n a
first_there tables kept k n a from placed most small key =
    subst (λ (i : ℕ). IsThere tables i a) (let e : n + 0 ≡ n = omega arith in e) (is_there tables kept k n 0 a from placed most (omega arith) small key)

key_at : (b : Bool) (at a : ℕ) → (at == RETURN_ADDRESS) ≡ b → at ≡ a → a ≢ RETURN_ADDRESS → (if b then 16777216 else at) ≡ a
key_at true at a e is on = absurd (on (sym is ∙ eqb-true at RETURN_ADDRESS e))
key_at false at a e is on = is

-- one that is there has the address as its key
pub key_there : (tables : TablesView) (kept : List Kept) (k : Kept) (n i a : ℕ) → AreFrom tables n kept → AreAtPlaces tables → IsThere tables (n + i) a → (get_or kept i k).key ≡ a
key_there tables kept k n i a from placed there =
    let left = length-drop n tables.codes in
    let size = placed.count in
    let exists = there.exists in
    let first : Kept = get_or kept i k in
    let c : Code = first.decoded.code in
    let code : get_or tables.codes (n + i) c ≡ c = sym (get_or-drop n tables.codes i c) ∙ sym (from.each i c k (omega arith)) in
    let at : c.at ≡ a = sym (ap (λ (x : Code). x.at) code) ∙ (placed.each (n + i) c exists ∙ there.begins) in
    first.keyed ∙ key_at (c.at == RETURN_ADDRESS) c.at a refl at there.goes_on

pub key_from : (tables : TablesView) (kept : List Kept) (k : Kept) (n a : ℕ) → AreFrom tables n kept → AreAtPlaces tables → IsThere tables n a → (get_or kept 0 k).key ≡ a
key_from tables kept k n a from placed there =
    key_there tables kept k n 0 a from placed (subst (λ (i : ℕ). IsThere tables i a) (let e : n ≡ n + 0 = omega arith in e) there)

-- the same from a later one on
decoded_from : (codes : List Code) (kept : List Kept) (n : ℕ) → AreDecoded codes kept → n ≤ length codes → AreDecoded (drop n codes) (drop n kept)
decoded_from codes kept n decoded l =
    let left = length-drop n codes in
    let kept_left = length-drop n kept in
    let count = decoded.count in
    record {
      count = omega arith;
      each = λ i c k b. ap (λ (x : Kept). x.decoded.code) (get_or-drop n kept i k) ∙ (decoded.each (n + i) c k (omega arith) ∙ sym (get_or-drop n codes i c));
      behind = λ i k b e. ap (λ (x : Kept). x.key) (get_or-drop n kept i k) ∙ decoded.behind (n + i) k (omega arith) (omega arith);
    }

-- those from the next place on
pub from_next : (tables : TablesView) (n : ℕ) (kept : List Kept) → AreFrom tables n kept → n < length tables.codes → AreFrom tables (n + 1) (drop 1 kept)
from_next tables n kept from l =
    let left = length-drop n tables.codes in
    subst (λ (codes : List Code). AreDecoded codes (drop 1 kept)) (drop-drop 1 n tables.codes) (decoded_from (drop n tables.codes) kept 1 from (omega arith))

-- the first of them is the place's
pub kept_first : (tables : TablesView) (n : ℕ) (kept : List Kept) → AreFrom tables n kept → n < length tables.codes → (d : Code) (k : Kept) → (get_or kept 0 k).decoded.code ≡ get_or tables.codes n d
kept_first tables n kept from l d k =
    let left = length-drop n tables.codes in
    from.each 0 d k (omega arith) ∙ (get_or-drop n tables.codes 0 d ∙ ap (λ (i : ℕ). get_or tables.codes i d) (let e : n + 0 ≡ n = omega arith in e))
