-- The first bad field of fields one after another, and the tests of one record's fields.
use Rattle.std.proofs.Common.{◌≡◌, ℕ, ◌+◌, ◌≤◌, Bool, true, false, ◌&&◌, nat_le, if◌then◌else◌, Option, Some, None, List, [], ◌∷◌, ◌++◌, length, take, drop, slice_index, refl, sym, ◌∙◌, arith, leb-true}
use Rattle.std.specs.List.{list_all}
use Rattle.std.proofs.lemmas.Bool.{le-leb, and_parts, and_from}
use Rattle.byteorder.specs.Endian.{big_number}
use Rattle.marks_file.specs.Meaning.{MarkedView, kind_of_number, is_location, is_length, is_original, is_set, is_new_name, is_base, is_size, is_count, place_total, FieldAt, first_bad, place_fields, header_fields, place_count_at}

goes : (g : Bool) (a : ℕ) (x y z : Option ℕ) → (x ≡ None → y ≡ z) → (if g then x else Some a) ≡ None → (if g then y else Some a) ≡ z
goes true a x y z k h = k h
goes false a x y z k h = let e : Some a ≡ None = h in absurd cc

stops : (g : Bool) (a o : ℕ) (x y : Option ℕ) → (x ≡ Some o → y ≡ Some o) → (if g then x else Some a) ≡ Some o → (if g then y else Some a) ≡ Some o
stops true a o x y k h = k h
stops false a o x y k h = h

keeps : (g : Bool) (a : ℕ) (x y : Option ℕ) → (x ≡ None → y ≡ None) → (if g then x else Some a) ≡ None → (if g then y else Some a) ≡ None
keeps true a x y k h = k h
keeps false a x y k h = h

-- where the first fields are good the later ones tell
pub first_none : (xs ys : List FieldAt) → first_bad xs ≡ None → first_bad (xs ++ ys) ≡ first_bad ys
first_none [] ys h = refl
first_none (f ∷ fs) ys h = goes f.good f.at (first_bad fs) (first_bad (fs ++ ys)) (first_bad ys) (first_none fs ys) h

-- a bad one among the first is the first
pub first_some : (xs ys : List FieldAt) (o : ℕ) → first_bad xs ≡ Some o → first_bad (xs ++ ys) ≡ Some o
first_some [] ys o h = let e : None ≡ Some o = h in absurd cc
first_some (f ∷ fs) ys o h = stops f.good f.at o (first_bad fs) (first_bad (fs ++ ys)) (first_some fs ys o) h

pub none_left : (xs ys : List FieldAt) → first_bad (xs ++ ys) ≡ None → first_bad xs ≡ None
none_left [] ys h = refl
none_left (f ∷ fs) ys h = keeps f.good f.at (first_bad (fs ++ ys)) (first_bad fs) (none_left fs ys) h

pub none_right : (xs ys : List FieldAt) → first_bad (xs ++ ys) ≡ None → first_bad ys ≡ None
none_right xs ys h = sym (first_none xs ys (none_left xs ys h)) ∙ h

all_here : (g : Bool) (a : ℕ) (x : Option ℕ) (r : Bool) → (x ≡ None → r ≡ true) → (if g then x else Some a) ≡ None → (g && r) ≡ true
all_here true a x r k h = k h
all_here false a x r k h = let e : Some a ≡ None = h in absurd cc

-- no field is bad exactly where each is good
pub all_good : (fs : List FieldAt) → first_bad fs ≡ None → list_all (λ (f : FieldAt). f.good) fs ≡ true
all_good [] h = refl
all_good (f ∷ fs) h = all_here f.good f.at (first_bad fs) (list_all (λ (g : FieldAt). g.good) fs) (all_good fs) h

-- a field that is whole and keeps its rule
pub whole : (k n : ℕ) (b : Bool) → k ≤ n → b ≡ true → (nat_le k n && b) ≡ true
whole k n b h e = and_from (nat_le k n) b (le-leb k n h) e

-- the bytes begin with a place's record
pub record IsPlaceRecord (size end : ℕ) (bs : List ℕ) : Type 0 where
  pub room : 9 ≤ length bs
  pub location : is_location size end (big_number 4 bs) ≡ true
  pub long : is_length size (big_number 4 bs) (slice_index bs 4) ≡ true
  pub kind : slice_index bs 5 ≤ 1
  pub original : is_original (slice_index bs 4) (kind_of_number (slice_index bs 5)) (big_number 2 (drop 6 bs)) ≡ true
  pub set : is_set (kind_of_number (slice_index bs 5)) (slice_index bs 8) ≡ true

pub place_record : (at size end : ℕ) (bs : List ℕ) → first_bad (place_fields at size end bs) ≡ None → IsPlaceRecord size end bs
unfolding place_fields
place_record at size end bs h =
    let t1 = nat_le 4 (length bs) && is_location size end (big_number 4 bs) in
    let t2 = nat_le 5 (length bs) && is_length size (big_number 4 bs) (slice_index bs 4) in
    let t3 = nat_le 6 (length bs) && nat_le (slice_index bs 5) 1 in
    let t4 = nat_le 8 (length bs) && is_original (slice_index bs 4) (kind_of_number (slice_index bs 5)) (big_number 2 (drop 6 bs)) in
    let t5 = nat_le 9 (length bs) && is_set (kind_of_number (slice_index bs 5)) (slice_index bs 8) in
    let h1 : (t1 && (t2 && (t3 && (t4 && (t5 && true))))) ≡ true = all_good (place_fields at size end bs) h in
    let h2 = (and_parts t1 (t2 && (t3 && (t4 && (t5 && true)))) h1).1 in
    let h3 = (and_parts t2 (t3 && (t4 && (t5 && true))) h2).1 in
    let h4 = (and_parts t3 (t4 && (t5 && true)) h3).1 in
    let h5 = (and_parts t5 true (and_parts t4 (t5 && true) h4).1).0 in
    record {
      room = leb-true 9 (length bs) (and_parts (nat_le 9 (length bs)) _ h5).0;
      location = (and_parts (nat_le 4 (length bs)) _ (and_parts t1 (t2 && (t3 && (t4 && (t5 && true)))) h1).0).1;
      long = (and_parts (nat_le 5 (length bs)) _ (and_parts t2 (t3 && (t4 && (t5 && true))) h2).0).1;
      kind = leb-true (slice_index bs 5) 1 (and_parts (nat_le 6 (length bs)) _ (and_parts t3 (t4 && (t5 && true)) h3).0).1;
      original = (and_parts (nat_le 8 (length bs)) _ (and_parts t4 (t5 && true) h4).0).1;
      set = (and_parts (nat_le 9 (length bs)) _ h5).1;
    }

pub place_none : (at size end : ℕ) (bs : List ℕ) → IsPlaceRecord size end bs → first_bad (place_fields at size end bs) ≡ None
unfolding place_fields
place_none at size end bs r =
    let room = r.room in
    rw (whole 4 (length bs) _ (omega arith) r.location, whole 5 (length bs) _ (omega arith) r.long, whole 6 (length bs) _ (omega arith) (le-leb (slice_index bs 5) 1 r.kind), whole 8 (length bs) _ (omega arith) r.original, whole 9 (length bs) _ room r.set) refl

-- the bytes begin with a module's record, behind these modules
pub record IsModuleRecord (earlier : List MarkedView) (bs : List ℕ) : Type 0 where
  pub room : 20 ≤ length bs
  pub name : is_new_name earlier (take 8 bs) ≡ true
  pub base : is_base (big_number 4 (drop 8 bs)) ≡ true
  pub size : is_size earlier (big_number 4 (drop 8 bs)) (big_number 4 (drop 12 bs)) ≡ true
  pub count : is_count earlier (place_count_at bs) ≡ true

pub module_record : (at : ℕ) (earlier : List MarkedView) (bs : List ℕ) → first_bad (header_fields at earlier bs) ≡ None → IsModuleRecord earlier bs
unfolding header_fields
module_record at earlier bs h =
    let t1 = nat_le 8 (length bs) && is_new_name earlier (take 8 bs) in
    let t2 = nat_le 12 (length bs) && is_base (big_number 4 (drop 8 bs)) in
    let t3 = nat_le 16 (length bs) && is_size earlier (big_number 4 (drop 8 bs)) (big_number 4 (drop 12 bs)) in
    let t4 = nat_le 20 (length bs) && is_count earlier (place_count_at bs) in
    let h1 : (t1 && (t2 && (t3 && (t4 && true)))) ≡ true = all_good (header_fields at earlier bs) h in
    let h2 = (and_parts t1 (t2 && (t3 && (t4 && true))) h1).1 in
    let h3 = (and_parts t2 (t3 && (t4 && true)) h2).1 in
    let h4 = (and_parts t4 true (and_parts t3 (t4 && true) h3).1).0 in
    record {
      room = leb-true 20 (length bs) (and_parts (nat_le 20 (length bs)) _ h4).0;
      name = (and_parts (nat_le 8 (length bs)) _ (and_parts t1 (t2 && (t3 && (t4 && true))) h1).0).1;
      base = (and_parts (nat_le 12 (length bs)) _ (and_parts t2 (t3 && (t4 && true)) h2).0).1;
      size = (and_parts (nat_le 16 (length bs)) _ (and_parts t3 (t4 && true) h3).0).1;
      count = (and_parts (nat_le 20 (length bs)) _ h4).1;
    }

pub header_none : (at : ℕ) (earlier : List MarkedView) (bs : List ℕ) → IsModuleRecord earlier bs → first_bad (header_fields at earlier bs) ≡ None
unfolding header_fields
header_none at earlier bs r =
    let room = r.room in
    rw (whole 8 (length bs) _ (omega arith) r.name, whole 12 (length bs) _ (omega arith) r.base, whole 16 (length bs) _ (omega arith) r.size, whole 20 (length bs) _ room r.count) refl

-- what the reader's tests say
pub header_read : (at : ℕ) (earlier : List MarkedView) (bs : List ℕ) (before base : ℕ) (b s c : Bool)
    → before ≡ place_total earlier → base ≡ big_number 4 (drop 8 bs)
    → (nat_le 8 (length bs) && is_new_name earlier (take 8 bs)) ≡ true
    → b ≡ (nat_le 12 (length bs) && is_base (big_number 4 (drop 8 bs))) → b ≡ true
    → s ≡ (nat_le 16 (length bs) && is_size earlier base (big_number 4 (drop 12 bs))) → s ≡ true
    → c ≡ (nat_le 20 (length bs) && nat_le (before + place_count_at bs) 65536) → c ≡ true
    → first_bad (header_fields at earlier bs) ≡ None
unfolding is_count
header_read at earlier bs before base b s c e f name bt bh st sh ct ch =
    header_none at earlier bs (record {
      room = leb-true 20 (length bs) (and_parts _ _ (sym ct ∙ ch)).0;
      name = (and_parts (nat_le 8 (length bs)) _ name).1;
      base = (and_parts (nat_le 12 (length bs)) _ (sym bt ∙ bh)).1;
      size = rw (← f) (and_parts (nat_le 16 (length bs)) _ (sym st ∙ sh)).1;
      count = rw (← e) (and_parts (nat_le 20 (length bs)) _ (sym ct ∙ ch)).1;
    })
