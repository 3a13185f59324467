-- Entries of the map.
use Rattle.std.proofs.Common.{◌≡◌, ◌≢◌, inl, inr, ℕ, ◌+◌, ◌-◌, ◌*◌, ◌/◌, ◌%◌, ◌<◌, ◌≤◌, true, false, List, ◌++◌, length, get_or, replicate, sym, ap, ◌∙◌, arith, length-append}
use Rattle.std.proofs.Math.ListN.{set}
use Rattle.std.proofs.lemmas.List.{get_or_append_left, get_or-append-add, get_or-replicate, get_or-set_same, get_or-set_other, length-set, length-replicate}
use Rattle.cov_base.proofs.Laws.{length_of-least}
use Rattle.std.proofs.lemmas.Bool.{cases_eq}
use Rattle.module_area.specs.Meaning.{no_place, place_of, is_place}
use Rattle.module_area.specs.declared.places.Place.{Place}
use Rattle.brk_table.specs.Places.{IsPlace, AreApart, ArePlaces}
use Rattle.brk_table.proofs.PlaceLemmas.{is_place-nowhere, is_place-there}
use Rattle.brk_table.specs.Map.{slot_of, entry_at, ArePages, IsMap, AreKept, AreSame}

pub slot_below : (pages entries : List ℕ) (a : ℕ) → ArePages pages entries → a < 16777216 → slot_of pages a < length entries
slot_below pages entries a are l = omega (arith, are.own (a / 4096) (omega arith))

-- ---- one entry is set

pub set_value : (pages entries : List ℕ) (a v : ℕ) → ArePages pages entries → a < 16777216 → entry_at pages (set entries (slot_of pages a) v) a ≡ v
unfolding entry_at
set_value pages entries a v are l = get_or-set_same entries (slot_of pages a) v 0 (slot_below pages entries a are l)

pub set_kept : (pages entries : List ℕ) (a v : ℕ) → ArePages pages entries → a < 16777216 → 0 < get_or pages (a / 4096) 0 → AreKept pages entries pages (set entries (slot_of pages a) v) a
unfolding entry_at
set_kept pages entries a v are l own = λ b m d. get_or-set_other entries (slot_of pages a) (slot_of pages b) v 0 (other b m d)
  where
    page : (b : ℕ) → b < 16777216 → slot_of pages b ≡ slot_of pages a → b / 4096 ≡ a / 4096
    page b m e = sym (are.apart (a / 4096) (b / 4096) (omega arith) (omega arith) (omega (arith, e)) own)

    other : (b : ℕ) → b < 16777216 → b / 2 ≢ a / 2 → slot_of pages b ≢ slot_of pages a
    other b m d e = d (half b (page b m e) (ap (λ n. n) e))
      where
        half : (b : ℕ) → b / 4096 ≡ a / 4096 → slot_of pages b ≡ slot_of pages a → b / 2 ≡ a / 2
        half b q e = let p : get_or pages (b / 4096) 0 ≡ get_or pages (a / 4096) 0 = ap (λ n. get_or pages n 0) q in omega (arith, e, q, p)

-- ---- a page gets its own entries

own_at : (pages entries : List ℕ) (k : ℕ) → ArePages pages entries → k < 4096 → (j : ℕ) → j < 4096 → get_or (set pages k (length entries / 2048)) j 0 * 2048 + 2048 ≤ length entries + 2048
own_at pages entries k are l j m = elim (cases_eq j k) [
  | inl e ↦ (let v : get_or (set pages k (length entries / 2048)) j 0 ≡ length entries / 2048 = ap (λ n. get_or (set pages k (length entries / 2048)) n 0) e ∙ get_or-set_same pages k (length entries / 2048) 0 (omega (arith, are.count)) in omega (arith, v))
  | inr d ↦ (let v : get_or (set pages k (length entries / 2048)) j 0 ≡ get_or pages j 0 = get_or-set_other pages k j (length entries / 2048) 0 d in omega (arith, v, are.own j m))
]

apart_at : (pages entries : List ℕ) (k : ℕ) → ArePages pages entries → k < 4096 → (i j : ℕ) → i < 4096 → j < 4096 → get_or (set pages k (length entries / 2048)) i 0 ≡ get_or (set pages k (length entries / 2048)) j 0 → 0 < get_or (set pages k (length entries / 2048)) i 0 → i ≡ j
apart_at pages entries k are l i j m n e p = elim (cases_eq i k) [
  | inl a ↦ elim (cases_eq j k) [
    | inl b ↦ a ∙ sym b
    | inr b ↦ absurd (let v = same i a in let w = other j b in omega (arith, v, w, e, are.own j n))
  ]
  | inr a ↦ elim (cases_eq j k) [
    | inl b ↦ absurd (let v = same j b in let w = other i a in omega (arith, v, w, e, are.own i m))
    | inr b ↦ (let v = other i a in let w = other j b in are.apart i j m n (sym v ∙ (e ∙ w)) (omega (arith, v, p)))
  ]
]
  where
    same : (j : ℕ) → j ≡ k → get_or (set pages k (length entries / 2048)) j 0 ≡ length entries / 2048
    same j e = ap (λ n. get_or (set pages k (length entries / 2048)) n 0) e ∙ get_or-set_same pages k (length entries / 2048) 0 (omega (arith, are.count))

    other : (j : ℕ) → j ≢ k → get_or (set pages k (length entries / 2048)) j 0 ≡ get_or pages j 0
    other j d = get_or-set_other pages k j (length entries / 2048) 0 d

pub own_pages : (pages entries : List ℕ) (k : ℕ) → ArePages pages entries → k < 4096 → ArePages (set pages k (length entries / 2048)) (entries ++ replicate 2048 0)
own_pages pages entries k are l =
    let size : length (entries ++ replicate 2048 0) ≡ length entries + 2048 = length-append entries (replicate 2048 0) ∙ ap (λ n. length entries + n) (length-replicate {A = ℕ} 2048 0) in
    record {
      count = length-set pages k (length entries / 2048) ∙ are.count;
      whole = omega (arith, size, are.whole);
      own = λ j m. (let o = own_at pages entries k are l j m in omega (arith, size, o));
      zero = λ i m. get_or_append_left entries (replicate 2048 0) 0 i (omega (arith, are.own 0 (omega arith))) ∙ are.zero i m;
      apart = apart_at pages entries k are l;
    }

pub own_same : (pages entries : List ℕ) (k : ℕ) → ArePages pages entries → k < 4096 → get_or pages k 0 ≡ 0 → AreSame pages entries (set pages k (length entries / 2048)) (entries ++ replicate 2048 0)
unfolding entry_at
own_same pages entries k are l none = λ a m. elim (cases_eq (a / 4096) k) [
  | inl e ↦ (
      let v : get_or (set pages k (length entries / 2048)) (a / 4096) 0 ≡ length entries / 2048 = ap (λ n. get_or (set pages k (length entries / 2048)) n 0) e ∙ get_or-set_same pages k (length entries / 2048) 0 (omega (arith, are.count)) in
      let w : get_or pages (a / 4096) 0 ≡ 0 = ap (λ n. get_or pages n 0) e ∙ none in
      let slot : slot_of (set pages k (length entries / 2048)) a ≡ length entries + a / 2 % 2048 = omega (arith, v, are.whole) in
      let old : slot_of pages a ≡ a / 2 % 2048 = omega (arith, w) in
      ap (λ n. get_or (entries ++ replicate 2048 0) n 0) slot ∙ (get_or-append-add entries (replicate 2048 0) (a / 2 % 2048) 0 ∙ (get_or-replicate 2048 (a / 2 % 2048) 0 0 (omega arith) ∙ (sym (are.zero (a / 2 % 2048) (omega arith)) ∙ ap (λ n. get_or entries n 0) (sym old)))))
  | inr d ↦ (
      let v : get_or (set pages k (length entries / 2048)) (a / 4096) 0 ≡ get_or pages (a / 4096) 0 = get_or-set_other pages k (a / 4096) (length entries / 2048) 0 d in
      let slot : slot_of (set pages k (length entries / 2048)) a ≡ slot_of pages a = omega (arith, v) in
      ap (λ n. get_or (entries ++ replicate 2048 0) n 0) slot ∙ get_or_append_left entries (replicate 2048 0) 0 (slot_of pages a) (slot_below pages entries a are m))
]

-- ---- places are entered one after the other

abbrev zeros : ℕ → List ℕ
zeros n = replicate n 0

pub fresh_map : (places : List Place) → IsMap (zeros 4096) (zeros 2048) places 0
unfolding entry_at
fresh_map places = record {
  are_pages = record {
    count = length-replicate {A = ℕ} 4096 0;
    whole = ap (λ n. n % 2048) (length-replicate {A = ℕ} 2048 0);
    own = λ k l. (let p : get_or (zeros 4096) k 0 ≡ 0 = get_or-replicate 4096 k 0 0 l in let s : length (zeros 2048) ≡ 2048 = length-replicate {A = ℕ} 2048 0 in omega (arith, p, s));
    zero = λ i l. get_or-replicate 2048 i 0 0 l;
    apart = λ j k l m e o. absurd (let p : get_or (zeros 4096) j 0 ≡ 0 = get_or-replicate 4096 j 0 0 l in omega (arith, o, p));
  };
  room = (let s : length (zeros 2048) ≡ 2048 = length-replicate {A = ℕ} 2048 0 in omega (arith, s));
  there = λ k l. absurd (omega arith);
  exists = λ a k m e v. absurd (empty a k m v);
  begins = λ a k m e v. absurd (empty a k m v);
}
  where
    empty : (a k : ℕ) → a < 16777216 → get_or (zeros 2048) (slot_of (zeros 4096) a) 0 ≡ k + 1 → ⊥
    empty a k m v =
        let p : get_or (zeros 4096) (a / 4096) 0 ≡ 0 = get_or-replicate 4096 (a / 4096) 0 0 (omega arith) in
        let none : get_or (zeros 2048) (slot_of (zeros 4096) a) 0 ≡ 0 = get_or-replicate 2048 (slot_of (zeros 4096) a) 0 0 (omega (arith, p)) in
        omega (arith, none, v)

-- two places have different halfwords
pub halves_differ : (places : List Place) → ArePlaces places → (j k : ℕ) → j < k → k < length places → (place_of places j).at / 2 ≢ (place_of places k).at / 2
halves_differ places are j k l m e =
    let p = are.each j no_place (omega arith) in
    let q = are.each k no_place m in
    by_case p q (are.apart j k no_place l m)
  where
    by_case : IsPlace (place_of places j) → IsPlace (place_of places k) → AreApart (place_of places j) (place_of places k) → ⊥
    by_case p q (inl h) = omega (arith, h, e, p.size, length_of-least (place_of places j).original)
    by_case p q (inr h) = omega (arith, h, e, q.size, length_of-least (place_of places k).original)

pub map_more : (old_pages old pages entries : List ℕ) (places : List Place) (n : ℕ) → ArePlaces places → n < length places → IsMap old_pages old places n → ArePages pages entries → length entries ≤ length old + 2048
    → entry_at pages entries (place_of places n).at ≡ n + 1 → AreKept old_pages old pages entries (place_of places n).at → IsMap pages entries places (n + 1)
map_more old_pages old pages entries places n are l was new size set_one kept = record {
  are_pages = new;
  room = omega (arith, was.room, size);
  there = λ k m. elim (cases_eq k n) [
    | inl e ↦ ap (λ i. entry_at pages entries (place_of places i).at) e ∙ (set_one ∙ ap (λ i. i + 1) (sym e))
    | inr d ↦ (let b : k < n = omega (arith, d) in kept (place_of places k).at (low k (omega arith)) (halves_differ places are k n b l) ∙ was.there k b)
  ];
  exists = λ a k m e v. elim (cases_eq (a / 2) ((place_of places n).at / 2)) [
    | inl q ↦ (let i = its a m e q k v in omega (arith, i))
    | inr d ↦ (let i = was.exists a k m e (sym (kept a m d) ∙ v) in omega (arith, i))
  ];
  begins = λ a k m e v. elim (cases_eq (a / 2) ((place_of places n).at / 2)) [
    | inl q ↦ ap (λ i. (place_of places i).at) (its a m e q k v) ∙ sym (at_same a e q)
    | inr d ↦ was.begins a k m e (sym (kept a m d) ∙ v)
  ];
}
  where
    low : (k : ℕ) → k < length places → (place_of places k).at < 16777216
    low k b = let p = are.each k no_place b in omega (arith, p.below, p.size, length_of-least (place_of places k).original)

    at_same : (a : ℕ) → a % 2 ≡ 0 → a / 2 ≡ (place_of places n).at / 2 → a ≡ (place_of places n).at
    at_same a e q = let p = are.each n no_place l in omega (arith, e, q, p.even)

    its : (a : ℕ) → a < 16777216 → a % 2 ≡ 0 → a / 2 ≡ (place_of places n).at / 2 → (k : ℕ) → entry_at pages entries a ≡ k + 1 → k ≡ n
    its a m e q k v = let w : entry_at pages entries a ≡ n + 1 = ap (λ x. entry_at pages entries x) (at_same a e q) ∙ set_one in omega (arith, v, w)

-- ---- what an entry says of an address

pub odd_nowhere : (places : List Place) (a : ℕ) → ArePlaces places → a % 2 ≡ 1 → is_place places a ≡ false
odd_nowhere places a are odd = is_place-nowhere places a (λ k l e. (let p = are.each k no_place l in omega (arith, p.even, e, odd)))

pub zero_nowhere : (pages entries : List ℕ) (places : List Place) (a : ℕ) → IsMap pages entries places (length places) → entry_at pages entries a ≡ 0 → is_place places a ≡ false
zero_nowhere pages entries places a map none = is_place-nowhere places a (λ k l e. (let t : entry_at pages entries a ≡ k + 1 = ap (λ x. entry_at pages entries x) (sym e) ∙ map.there k l in omega (arith, t, none)))

-- the entry of an even address that is not 0
pub record IsEntered (places : List Place) (a e : ℕ) : Type 0 where
  pub exists : e - 1 < length places
  pub begins : (place_of places (e - 1)).at ≡ a
  pub there : is_place places a ≡ true

pub entered : (pages entries : List ℕ) (places : List Place) (a e : ℕ) → IsMap pages entries places (length places) → a < 16777216 → a % 2 ≡ 0 → e ≡ entry_at pages entries a → e ≢ 0 → IsEntered places a e
entered pages entries places a e map low even is some =
    let one : entry_at pages entries a ≡ e - 1 + 1 = omega (arith, is, some) in
    let exists = map.exists a (e - 1) low even one in
    let begins = map.begins a (e - 1) low even one in
    record { exists = exists; begins = begins; there = is_place-there places (e - 1) a exists begins }
