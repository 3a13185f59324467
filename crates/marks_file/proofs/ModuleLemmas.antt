-- Modules that are read spell the bytes that they were read from, and what was spelled is read back.
use Rattle.std.proofs.Common.{◌≡◌, ℕ, ◌+◌, ◌-◌, ◌*◌, ◌≤◌, ◌<◌, ◌^◌, zero, suc, None, true, ◌&&◌, nat_le, List, [], ◌∷◌, ◌++◌, length, take, drop, replicate, slice_index, refl, ap, sym, ◌∙◌, arith, append_assoc, length-append, length-drop, leb-true}
use Rattle.std.proofs.lemmas.Bool.{and_from, and_parts}
use Rattle.std.specs.Str.{bytes_eq}
use Rattle.std.specs.List.{flat_map, list_all}
use Rattle.std.proofs.lemmas.List.{drop-drop, take-append-drop, length-replicate}
use Rattle.byteorder.specs.Endian.{big_number, big_bytes}
use Rattle.byteorder.specs.Numbers.{big_number-reads_back}
use Rattle.cov_base.specs.Meaning.{is_name, is_letter, is_name_byte, padded, unpadded, is_filled}
use Rattle.marks_file.specs.Meaning.{modules_bytes, MarkedView, is_count, are_modules, is_module_count, are_marks, place_total, place_bytes, module_row, module_bytes, first_bad, field, places_at, places_fields, header_fields, module_fields, module_at, modules_fields, place_count_at, table_fields}
use Rattle.marks_file.specs.Reading.{modules_at, table_at}
use Rattle.marks_file.proofs.Parts.{is_module, module_size}
use Rattle.marks_file.proofs.MarksLemmas.{filled_name}
use Rattle.marks_file.proofs.FieldLemmas.{module_record, all_good, none_left, none_right}
use Rattle.marks_file.proofs.SpellLemmas.{AreBytes, bytes_later, word_of, half_of, length-places_at, ArePlaceRecords, places_spelled}

-- four pieces one after another
chain : (a b c d e bs d8 d12 d16 : List ℕ) → d ++ e ≡ d16 → c ++ d16 ≡ d12 → b ++ d12 ≡ d8 → a ++ d8 ≡ bs → (a ++ (b ++ (c ++ d))) ++ e ≡ bs
chain a b c d e bs d8 d12 d16 h1 h2 h3 h4 =
    append_assoc a (b ++ (c ++ d)) e
    ∙ (ap (λ t. a ++ t) (append_assoc b (c ++ d) e ∙ (ap (λ t. b ++ t) (append_assoc c d e ∙ (ap (λ t. c ++ t) h1 ∙ h2)) ∙ h3))
    ∙ h4)

pub word_at : (k m : ℕ) (bs : List ℕ) → k + 4 ≡ m → m ≤ length bs → AreBytes bs → big_bytes 4 (big_number 4 (drop k bs)) ++ drop m bs ≡ drop k bs
word_at k m bs e h u =
    let past : drop m bs ≡ drop 4 (drop k bs) = ap (λ j. drop j bs) (sym e) ∙ sym (drop-drop 4 k bs) in
    ap (λ t. big_bytes 4 (big_number 4 (drop k bs)) ++ t) past ∙ word_of (drop k bs) (omega (arith, length-drop k bs)) (bytes_later k bs u)

header_spelled : (bs : List ℕ) → 20 ≤ length bs → AreBytes bs → (take 8 bs ++ (big_bytes 4 (big_number 4 (drop 8 bs)) ++ (big_bytes 4 (big_number 4 (drop 12 bs)) ++ big_bytes 4 (big_number 4 (drop 16 bs))))) ++ drop 20 bs ≡ bs
header_spelled bs h u =
    chain (take 8 bs) (big_bytes 4 (big_number 4 (drop 8 bs))) (big_bytes 4 (big_number 4 (drop 12 bs))) (big_bytes 4 (big_number 4 (drop 16 bs))) (drop 20 bs) bs (drop 8 bs) (drop 12 bs) (drop 16 bs)
    (word_at 16 20 bs refl h u)
    (word_at 12 16 bs refl (omega arith) u)
    (word_at 8 12 bs refl (omega arith) u)
    (take-append-drop 8 bs)

-- what good fields of a module spell
pub record IsModuleSpelled (earlier : List MarkedView) (bs : List ℕ) : Type 0 where
  pub room : module_size (place_count_at bs) ≤ length bs
  pub is : is_module earlier (module_at bs) ≡ true
  pub count : place_total earlier + place_count_at bs ≤ 65536
  pub spelled : module_bytes (module_at bs) ++ drop (module_size (place_count_at bs)) bs ≡ bs

pub module_spelled : (at : ℕ) (earlier : List MarkedView) (bs : List ℕ) → AreBytes bs → first_bad (module_fields at earlier bs) ≡ None → IsModuleSpelled earlier bs
unfolding module_at is_count
module_spelled at earlier bs u h =
    let size = big_number 4 (drop 12 bs) in
    let n = place_count_at bs in
    let first = header_fields at earlier bs in
    let others = places_fields (at + 20) size 0 n (drop 20 bs) in
    let r = module_record at earlier bs (none_left first others h) in
    let ps : ArePlaceRecords size 0 n (drop 20 bs) = places_spelled (at + 20) size 0 n (drop 20 bs) (bytes_later 20 bs u) (none_right first others h) in
    let many = length-places_at n (drop 20 bs) in
    let room = r.room in
    let left = ps.room in
    let past : drop (9 * n) (drop 20 bs) ≡ drop (module_size n) bs = drop-drop (9 * n) 20 bs in
    let row : module_row (module_at bs) ≡ take 8 bs ++ (big_bytes 4 (big_number 4 (drop 8 bs)) ++ (big_bytes 4 size ++ big_bytes 4 n)) = ap (λ k. take 8 bs ++ (big_bytes 4 (big_number 4 (drop 8 bs)) ++ (big_bytes 4 size ++ big_bytes 4 k))) many in
    record {
      room = omega (arith, length-drop 20 bs, left, room);
      is = and_from _ _ r.name (and_from _ _ r.base (and_from _ _ r.size (and_from _ _ (ap (λ k. is_count earlier k) many ∙ r.count) ps.are)));
      count = leb-true (place_total earlier + n) 65536 r.count;
      spelled = append_assoc (module_row (module_at bs)) (flat_map place_bytes (places_at n (drop 20 bs))) (drop (module_size n) bs)
          ∙ (ap (λ t. module_row (module_at bs) ++ (flat_map place_bytes (places_at n (drop 20 bs)) ++ t)) (sym past)
          ∙ (ap (λ t. module_row (module_at bs) ++ t) ps.spelled
          ∙ (ap (λ t. t ++ drop 20 bs) row ∙ header_spelled bs room u)));
    }

pub length-modules_at : (n : ℕ) (bs : List ℕ) → length (modules_at n bs) ≡ n
length-modules_at zero bs = refl
length-modules_at (suc n) bs = ap suc (length-modules_at n (drop (module_size (place_count_at bs)) bs))

-- and of modules, with the bytes behind them
pub record AreModulesSpelled (earlier : List MarkedView) (n : ℕ) (bs : List ℕ) : Type 0 where
  pub are : are_modules earlier (modules_at n bs) ≡ true
  pub rest : List ℕ
  pub spelled : flat_map module_bytes (modules_at n bs) ++ rest ≡ bs

pub modules_spelled : (at : ℕ) (earlier : List MarkedView) (n : ℕ) (bs : List ℕ) → AreBytes bs → first_bad (modules_fields at earlier n bs) ≡ None → AreModulesSpelled earlier n bs
modules_spelled at earlier zero bs u h = record { are = refl; rest = bs; spelled = refl }
modules_spelled at earlier (suc n) bs u h =
    let size = module_size (place_count_at bs) in
    let first = module_fields at earlier bs in
    let others = modules_fields (at + size) (earlier ++ module_at bs ∷ []) n (drop size bs) in
    let one = module_spelled at earlier bs u (none_left first others h) in
    let more = modules_spelled (at + size) (earlier ++ module_at bs ∷ []) n (drop size bs) (bytes_later size bs u) (none_right first others h) in
    record {
      are = and_from _ _ one.is more.are;
      rest = more.rest;
      spelled = append_assoc (module_bytes (module_at bs)) (flat_map module_bytes (modules_at n (drop size bs))) more.rest
          ∙ (ap (λ t. module_bytes (module_at bs) ++ t) more.spelled ∙ one.spelled);
    }

-- the number of modules is good, and so are the fields behind it
record IsCounted (at : ℕ) (bs : List ℕ) : Type 0 where
  pub room : 2 ≤ length bs
  pub count : is_module_count (big_number 2 bs) ≡ true
  pub good : first_bad (modules_fields (at + 2) [] (big_number 2 bs) (drop 2 bs)) ≡ None

counted : (at : ℕ) (bs : List ℕ) → first_bad (table_fields at bs) ≡ None → IsCounted at bs
counted at bs h =
    let f = field at bs 0 2 (is_module_count (big_number 2 bs)) in
    let others = modules_fields (at + 2) [] (big_number 2 bs) (drop 2 bs) in
    let t = nat_le 2 (length bs) && is_module_count (big_number 2 bs) in
    let all : (t && true) ≡ true = all_good (f ∷ []) (none_left (f ∷ []) others h) in
    let one : t ≡ true = (and_parts t true all).0 in
    record {
      room = leb-true 2 (length bs) (and_parts (nat_le 2 (length bs)) _ one).0;
      count = (and_parts (nat_le 2 (length bs)) _ one).1;
      good = none_right (f ∷ []) others h;
    }

-- where no field from the number of modules on is bad
pub record IsTableSpelled (bs : List ℕ) : Type 0 where
  pub are : are_marks (table_at bs) ≡ true
  pub rest : List ℕ
  pub spelled : modules_bytes (table_at bs) ++ rest ≡ bs

pub table_spelled : (at : ℕ) (bs : List ℕ) → AreBytes bs → first_bad (table_fields at bs) ≡ None → IsTableSpelled bs
table_spelled at bs u h =
    let head = counted at bs h in
    let n = big_number 2 bs in
    let table = modules_at n (drop 2 bs) in
    let ms = modules_spelled (at + 2) [] n (drop 2 bs) (bytes_later 2 bs u) head.good in
    let many : length table ≡ n = length-modules_at n (drop 2 bs) in
    record {
      are = and_from _ _ (ap is_module_count many ∙ head.count) ms.are;
      rest = ms.rest;
      spelled = append_assoc (big_bytes 2 (length table)) (flat_map module_bytes table) ms.rest
          ∙ (ap (λ t. big_bytes 2 (length table) ++ t) ms.spelled
          ∙ (ap (λ k. big_bytes 2 k ++ drop 2 bs) many ∙ half_of bs head.room u));
    }

short_name : (word : List ℕ) → is_name word ≡ true → nat_le (length word) 8 ≡ true
short_name word h =
    let t1 = nat_le 1 (length word) in
    let t2 = nat_le (length word) 8 in
    let t3 = is_letter (slice_index word 0) in
    (and_parts t1 t2 (and_parts (t1 && t2) t3 (and_parts ((t1 && t2) && t3) (list_all is_name_byte word) h).0).0).1

-- a name filled with blanks has 8 bytes
pub length-filled : (name : List ℕ) → is_filled name ≡ true → length name ≡ 8
length-filled name h =
    let whole = filled_name name h in
    let word = unpadded name in
    let short : length word ≤ 8 = leb-true (length word) 8 (short_name word (and_parts (is_name word) (bytes_eq (padded word) name) h).0) in
    omega (arith, ap length whole, length-append word (replicate (8 - length word) 32), length-replicate {A = ℕ} (8 - length word) 32)

-- a module's record is read back
pub record IsHeaderRead (name : List ℕ) (base size n : ℕ) (rest bs : List ℕ) : Type 0 where
  pub name_is : take 8 bs ≡ name
  pub base_is : big_number 4 (drop 8 bs) ≡ base
  pub size_is : big_number 4 (drop 12 bs) ≡ size
  pub count_is : place_count_at bs ≡ n
  pub rest_is : drop 20 bs ≡ rest
  pub room : 20 ≤ length bs

pub header_read_back : (name : List ℕ) (base size n : ℕ) (rest : List ℕ) → length name ≡ 8 → base < 256 ^ 4 → size < 256 ^ 4 → n < 256 ^ 4 → IsHeaderRead name base size n rest ((name ++ (big_bytes 4 base ++ (big_bytes 4 size ++ big_bytes 4 n))) ++ rest)
header_read_back [] base size n rest l hb hs hn = absurd (omega arith)
header_read_back (a ∷ []) base size n rest l hb hs hn = absurd (omega arith)
header_read_back (a ∷ b ∷ []) base size n rest l hb hs hn = absurd (omega arith)
header_read_back (a ∷ b ∷ c ∷ []) base size n rest l hb hs hn = absurd (omega arith)
header_read_back (a ∷ b ∷ c ∷ d ∷ []) base size n rest l hb hs hn = absurd (omega arith)
header_read_back (a ∷ b ∷ c ∷ d ∷ e ∷ []) base size n rest l hb hs hn = absurd (omega arith)
header_read_back (a ∷ b ∷ c ∷ d ∷ e ∷ f ∷ []) base size n rest l hb hs hn = absurd (omega arith)
header_read_back (a ∷ b ∷ c ∷ d ∷ e ∷ f ∷ g ∷ []) base size n rest l hb hs hn = absurd (omega arith)
header_read_back (a ∷ b ∷ c ∷ d ∷ e ∷ f ∷ g ∷ h ∷ i ∷ xs) base size n rest l hb hs hn = absurd (omega arith)
header_read_back (a ∷ b ∷ c ∷ d ∷ e ∷ f ∷ g ∷ h ∷ []) base size n rest l hb hs hn = record {
  name_is = refl;
  base_is = big_number-reads_back 4 base [] hb;
  size_is = big_number-reads_back 4 size [] hs;
  count_is = big_number-reads_back 4 n [] hn;
  rest_is = refl;
  room = omega arith;
}
