-- Records that are read spell the bytes that they were read from, and what was spelled is read back.
use Rattle.std.proofs.Common.{◌≡◌, ℕ, ◌+◌, ◌*◌, ◌/◌, ◌%◌, ◌≤◌, ◌<◌, ◌^◌, zero, suc, Bool, None, true, false, nat_lt, nat_le, List, [], ◌∷◌, ◌++◌, length, drop, slice_index, refl, ap, sym, ◌∙◌, arith, append_assoc, length-drop, leb-true}
use Rattle.std.proofs.lemmas.List.{drop-drop, get_or-drop}
use Rattle.std.specs.List.{flat_map}
use Rattle.std.proofs.lemmas.Bool.{ltb-true, and_from, and_parts}
use Rattle.byteorder.specs.Endian.{big_number, big_bytes}
use Rattle.byteorder.specs.Numbers.{big_number-reads_back}
use Rattle.cov_base.specs.Meaning.{FactSet, facts_of_number, number_of_facts}
use Rattle.cov_base.specs.FactSet.{number_of_facts-facts_of_number}
use Rattle.cov_base.specs.declared.facts.Kind.{Kind}
use Rattle.cov_base.specs.declared.facts.Kind.TheVariants.{Straight, Conditional}
use Rattle.marks_file.specs.Meaning.{kind_number, kind_of_number, is_location, is_length, is_original, is_set, are_places, end_location, place_bytes, first_bad, marked_place_at, place_fields, places_at, places_fields}
use Rattle.marks_file.specs.declared.marks.MarkedPlace.{MarkedPlace}
use Rattle.marks_file.proofs.Parts.{is_place}
use Rattle.marks_file.proofs.FieldLemmas.{IsPlaceRecord, place_record, place_none, first_none, none_left, none_right}
use Rattle.marks_file.proofs.MarksLemmas.{same_cons}

-- each of these is a byte
abbrev pub AreBytes : List ℕ → Type 0
AreBytes bs = (i : ℕ) → slice_index bs i < 256

pub bytes_later : (n : ℕ) (bs : List ℕ) → AreBytes bs → AreBytes (drop n bs)
bytes_later n bs u i = let e = get_or-drop n bs i 0 in let h = u (n + i) in omega (arith, e, h)

-- four bytes are those of the number that they are read as
pub word_spelled : (a b c d : ℕ) (rest : List ℕ) → a < 256 → b < 256 → c < 256 → d < 256 → big_bytes 4 (big_number 4 (a ∷ b ∷ c ∷ d ∷ rest)) ≡ a ∷ b ∷ c ∷ d ∷ []
word_spelled a b c d rest ha hb hc hd =
    let n = big_number 4 (a ∷ b ∷ c ∷ d ∷ rest) in
    let e1 : n / 16777216 % 256 ≡ a = omega arith in
    let e2 : n / 65536 % 256 ≡ b = omega arith in
    let e3 : n / 256 % 256 ≡ c = omega arith in
    let e4 : n % 256 ≡ d = omega arith in
    rw (e1, e2, e3, e4) refl

-- and two
pub half_spelled : (a b : ℕ) (rest : List ℕ) → a < 256 → b < 256 → big_bytes 2 (big_number 2 (a ∷ b ∷ rest)) ≡ a ∷ b ∷ []
half_spelled a b rest ha hb =
    let n = big_number 2 (a ∷ b ∷ rest) in
    let e1 : n / 256 % 256 ≡ a = omega arith in
    let e2 : n % 256 ≡ b = omega arith in
    rw (e1, e2) refl

pub word_of : (bs : List ℕ) → 4 ≤ length bs → AreBytes bs → big_bytes 4 (big_number 4 bs) ++ drop 4 bs ≡ bs
word_of [] h u = absurd (omega arith)
word_of (a ∷ []) h u = absurd (omega arith)
word_of (a ∷ b ∷ []) h u = absurd (omega arith)
word_of (a ∷ b ∷ c ∷ []) h u = absurd (omega arith)
word_of (a ∷ b ∷ c ∷ d ∷ bs) h u = ap (λ w. w ++ bs) (word_spelled a b c d bs (u 0) (u 1) (u 2) (u 3))

pub half_of : (bs : List ℕ) → 2 ≤ length bs → AreBytes bs → big_bytes 2 (big_number 2 bs) ++ drop 2 bs ≡ bs
half_of [] h u = absurd (omega arith)
half_of (a ∷ []) h u = absurd (omega arith)
half_of (a ∷ b ∷ bs) h u = ap (λ w. w ++ bs) (half_spelled a b bs (u 0) (u 1))

kind_spelled : (n : ℕ) → n ≤ 1 → kind_number (kind_of_number n) ≡ n
kind_spelled zero h = refl
kind_spelled (suc zero) h = refl
kind_spelled (suc (suc n)) h = absurd (omega arith)

kind_read : (k : Kind) → kind_of_number (kind_number k) ≡ k
kind_read Straight = refl
kind_read Conditional = refl

kind_small : (k : Kind) → kind_number k ≤ 1
kind_small Straight = omega arith
kind_small Conditional = omega arith

facts_read : (a b c : Bool) → facts_of_number (number_of_facts (record { ran = a; went = b; stayed = c })) ≡ record { ran = a; went = b; stayed = c }
facts_read false false false = refl
facts_read true false false = refl
facts_read false true false = refl
facts_read true true false = refl
facts_read false false true = refl
facts_read true false true = refl
facts_read false true true = refl
facts_read true true true = refl

pub set_read : (s : FactSet) → facts_of_number (number_of_facts s) ≡ s
set_read s = facts_read s.ran s.went s.stayed

-- a place's bytes, field by field
joined_place : (w h : List ℕ) (e k s a b c d f g i j : ℕ) (rest : List ℕ) → w ≡ a ∷ b ∷ c ∷ d ∷ [] → k ≡ f → h ≡ g ∷ i ∷ [] → s ≡ j → ((w ++ (e ∷ k ∷ h)) ++ (s ∷ [])) ++ rest ≡ a ∷ b ∷ c ∷ d ∷ e ∷ f ∷ g ∷ i ∷ j ∷ rest
joined_place w h e k s a b c d f g i j rest ew ek eh es = rw (ew, ek, eh, es) refl

set_small : (k : Kind) (n : ℕ) → is_set k n ≡ true → n < 8
unfolding is_set
set_small k n h = ltb-true n 8 (and_parts (nat_lt n 8) _ h).0

pub place_spelled : (size end : ℕ) (bs : List ℕ) → AreBytes bs → IsPlaceRecord size end bs → place_bytes (marked_place_at bs) ++ drop 9 bs ≡ bs
unfolding marked_place_at
place_spelled size end [] u r = let room : 9 ≤ 0 = r.room in absurd (omega arith)
place_spelled size end (a ∷ []) u r = let room : 9 ≤ 1 = r.room in absurd (omega arith)
place_spelled size end (a ∷ b ∷ []) u r = let room : 9 ≤ 2 = r.room in absurd (omega arith)
place_spelled size end (a ∷ b ∷ c ∷ []) u r = let room : 9 ≤ 3 = r.room in absurd (omega arith)
place_spelled size end (a ∷ b ∷ c ∷ d ∷ []) u r = let room : 9 ≤ 4 = r.room in absurd (omega arith)
place_spelled size end (a ∷ b ∷ c ∷ d ∷ e ∷ []) u r = let room : 9 ≤ 5 = r.room in absurd (omega arith)
place_spelled size end (a ∷ b ∷ c ∷ d ∷ e ∷ f ∷ []) u r = let room : 9 ≤ 6 = r.room in absurd (omega arith)
place_spelled size end (a ∷ b ∷ c ∷ d ∷ e ∷ f ∷ g ∷ []) u r = let room : 9 ≤ 7 = r.room in absurd (omega arith)
place_spelled size end (a ∷ b ∷ c ∷ d ∷ e ∷ f ∷ g ∷ i ∷ []) u r = let room : 9 ≤ 8 = r.room in absurd (omega arith)
place_spelled size end (a ∷ b ∷ c ∷ d ∷ e ∷ f ∷ g ∷ i ∷ j ∷ bs) u r =
    joined_place (big_bytes 4 (big_number 4 (a ∷ b ∷ c ∷ d ∷ []))) (big_bytes 2 (big_number 2 (g ∷ i ∷ []))) e (kind_number (kind_of_number f)) (number_of_facts (facts_of_number j)) a b c d f g i j bs
    (word_spelled a b c d [] (u 0) (u 1) (u 2) (u 3))
    (kind_spelled f r.kind)
    (half_spelled g i [] (u 6) (u 7))
    (number_of_facts-facts_of_number j (set_small (kind_of_number f) j r.set))

pub place_is : (size end : ℕ) (bs : List ℕ) → IsPlaceRecord size end bs → is_place size end (marked_place_at bs) ≡ true
unfolding marked_place_at
place_is size end bs r =
    let set : number_of_facts (facts_of_number (slice_index bs 8)) ≡ slice_index bs 8 = number_of_facts-facts_of_number (slice_index bs 8) (set_small _ _ r.set) in
    let same : is_set (kind_of_number (slice_index bs 5)) (number_of_facts (facts_of_number (slice_index bs 8))) ≡ true = ap (is_set (kind_of_number (slice_index bs 5))) set ∙ r.set in
    and_from _ _ r.location (and_from _ _ r.long (and_from _ _ r.original same))

-- numbers that the rules keep below the width of their fields
location_small : (size end at len : ℕ) → size ≤ 262144 → is_length size at len ≡ true → at < 256 ^ 4
unfolding is_length
location_small size end at len few h = let inside = leb-true (at + len) size (and_parts _ (nat_le (at + len) size) h).1 in omega arith

half_small : (len : ℕ) (k : Kind) (half : ℕ) → is_original len k half ≡ true → half < 256 ^ 2
unfolding is_original
half_small len k half h = let small = ltb-true half 65536 (and_parts (nat_lt half 65536) _ h).0 in omega arith

same_place : (l o : ℕ) (k : Kind) (s : FactSet) (p : MarkedPlace) → l ≡ p.location → o ≡ p.original → k ≡ p.kind → s ≡ p.set → ◌≡◌ {A = MarkedPlace} (record { location = l; len = p.len; kind = k; original = o; set = s }) p
same_place l o k s p e1 e2 e3 e4 = rw (e1, e2, e3, e4) refl

pub place_read : (size end : ℕ) (p : MarkedPlace) (rest : List ℕ) → size ≤ 262144 → is_place size end p ≡ true → marked_place_at (place_bytes p ++ rest) ≡ p
unfolding marked_place_at
place_read size end p rest few h =
    let long = (and_parts (is_length size p.location p.len) _ (and_parts (is_location size end p.location) _ h).1).0 in
    let original = (and_parts (is_original p.len p.kind p.original) _ (and_parts (is_length size p.location p.len) _ (and_parts (is_location size end p.location) _ h).1).1).0 in
    let e1 : big_number 4 (big_bytes 4 p.location ++ []) ≡ p.location = big_number-reads_back 4 p.location [] (location_small size end p.location p.len few long) in
    let e2 : big_number 2 (big_bytes 2 p.original ++ []) ≡ p.original = big_number-reads_back 2 p.original [] (half_small p.len p.kind p.original original) in
    let e3 : kind_of_number (kind_number p.kind) ≡ p.kind = kind_read p.kind in
    let e4 : facts_of_number (number_of_facts p.set) ≡ p.set = set_read p.set in
    same_place (big_number 4 (big_bytes 4 p.location ++ [])) (big_number 2 (big_bytes 2 p.original ++ [])) (kind_of_number (kind_number p.kind)) (facts_of_number (number_of_facts p.set)) p e1 e2 e3 e4

room_of : (p : MarkedPlace) (rest : List ℕ) → 9 ≤ length (place_bytes p ++ rest)
room_of p rest = omega arith

-- the record that a place's bytes are
pub place_is_record : (size end : ℕ) (p : MarkedPlace) (rest : List ℕ) → size ≤ 262144 → is_place size end p ≡ true → IsPlaceRecord size end (place_bytes p ++ rest)
place_is_record size end p rest few h =
    let h2 = (and_parts (is_location size end p.location) _ h).1 in
    let h3 = (and_parts (is_length size p.location p.len) _ h2).1 in
    let location = (and_parts (is_location size end p.location) _ h).0 in
    let long = (and_parts (is_length size p.location p.len) _ h2).0 in
    let original = (and_parts (is_original p.len p.kind p.original) _ h3).0 in
    let set = (and_parts (is_original p.len p.kind p.original) _ h3).1 in
    let e1 : big_number 4 (big_bytes 4 p.location ++ []) ≡ p.location = big_number-reads_back 4 p.location [] (location_small size end p.location p.len few long) in
    let e2 : big_number 2 (big_bytes 2 p.original ++ []) ≡ p.original = big_number-reads_back 2 p.original [] (half_small p.len p.kind p.original original) in
    let e3 = kind_read p.kind in
    record {
      room = room_of p rest;
      location = ap (is_location size end) e1 ∙ location;
      long = ap (λ a. is_length size a p.len) e1 ∙ long;
      kind = kind_small p.kind;
      original = ap (λ k. is_original p.len k (big_number 2 (big_bytes 2 p.original ++ []))) e3 ∙ (ap (is_original p.len p.kind) e2 ∙ original);
      set = ap (λ k. is_set k (number_of_facts p.set)) e3 ∙ set;
    }

pub length-places_at : (n : ℕ) (bs : List ℕ) → length (places_at n bs) ≡ n
length-places_at zero bs = refl
length-places_at (suc n) bs = ap suc (length-places_at n (drop 9 bs))

-- what good fields of places spell
pub record ArePlaceRecords (size end n : ℕ) (bs : List ℕ) : Type 0 where
  pub room : 9 * n ≤ length bs
  pub are : are_places size end (places_at n bs) ≡ true
  pub spelled : flat_map place_bytes (places_at n bs) ++ drop (9 * n) bs ≡ bs

pub places_spelled : (at size end n : ℕ) (bs : List ℕ) → AreBytes bs → first_bad (places_fields at size end n bs) ≡ None → ArePlaceRecords size end n bs
places_spelled at size end zero bs u h = record { room = omega arith; are = refl; spelled = refl }
places_spelled at size end (suc n) bs u h =
    let first = place_fields at size end bs in
    let others = places_fields (at + 9) size (end_location (marked_place_at bs)) n (drop 9 bs) in
    let r = place_record at size end bs (none_left first others h) in
    let more = places_spelled (at + 9) size (end_location (marked_place_at bs)) n (drop 9 bs) (bytes_later 9 bs u) (none_right first others h) in
    let one = place_spelled size end bs u r in
    let room = r.room in
    let left = more.room in
    let past : drop (9 * n) (drop 9 bs) ≡ drop (9 * suc n) bs = drop-drop (9 * n) 9 bs ∙ ap (λ k. drop k bs) (omega arith) in
    record {
      room = omega (arith, length-drop 9 bs, left);
      are = and_from _ _ (place_is size end bs r) more.are;
      spelled = append_assoc (place_bytes (marked_place_at bs)) (flat_map place_bytes (places_at n (drop 9 bs))) (drop (9 * suc n) bs)
          ∙ (ap (λ t. place_bytes (marked_place_at bs) ++ (flat_map place_bytes (places_at n (drop 9 bs)) ++ t)) (sym past)
          ∙ (ap (λ t. place_bytes (marked_place_at bs) ++ t) more.spelled ∙ one));
    }

-- what was spelled is read back
pub record ArePlacesRead (at size end : ℕ) (ps : List MarkedPlace) (bs : List ℕ) : Type 0 where
  pub value : places_at (length ps) bs ≡ ps
  pub good : first_bad (places_fields at size end (length ps) bs) ≡ None

pub places_read : (at size end : ℕ) (ps : List MarkedPlace) (rest : List ℕ) → size ≤ 262144 → are_places size end ps ≡ true → ArePlacesRead at size end ps (flat_map place_bytes ps ++ rest)
places_read at size end [] rest few h = record { value = refl; good = refl }
places_read at size end (p ∷ ps) rest few h =
    let after = flat_map place_bytes ps ++ rest in
    let is = (and_parts (is_place size end p) (are_places size (end_location p) ps) h).0 in
    let one = place_read size end p after few is in
    let more = places_read (at + 9) size (end_location p) ps rest few (and_parts (is_place size end p) _ h).1 in
    let joined : (place_bytes p ++ flat_map place_bytes ps) ++ rest ≡ place_bytes p ++ after = append_assoc (place_bytes p) (flat_map place_bytes ps) rest in
    let first = place_fields at size end (place_bytes p ++ after) in
    let none = place_none at size end (place_bytes p ++ after) (place_is_record size end p after few is) in
    let others : first_bad (places_fields (at + 9) size (end_location (marked_place_at (place_bytes p ++ after))) (length ps) after) ≡ None = ap (λ q. first_bad (places_fields (at + 9) size (end_location q) (length ps) after)) one ∙ more.good in
    record {
      value = ap (λ bs. places_at (suc (length ps)) bs) joined ∙ same_cons _ _ _ _ one more.value;
      good = ap (λ bs. first_bad (places_fields at size end (suc (length ps)) bs)) joined ∙ (first_none first _ none ∙ others);
    }
