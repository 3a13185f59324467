-- The first row in which two tables differ, piece by piece.
use Rattle.std.proofs.Common.{◌≡◌, ◌≢◌, ℕ, ◌+◌, ◌-◌, ◌≤◌, min, ◌<◌, Bool, true, if◌then◌else◌, Option, Some, None, List, [], ◌∷◌, ◌++◌, length, drop, map, get_or, refl, ap, sym, ◌∙◌, arith, length-append, length-drop}
use Rattle.std.specs.Str.{bytes_eq}
use Rattle.std.proofs.lemmas.List.{at_drop_more}
use Rattle.std.proofs.lemmas.Slice.Eq.{bytes_eq-Decides}
use Rattle.std.proofs.Math.Seq.{drop-append_seam}
use Rattle.byteorder.specs.Endian.{big_bytes, big_number}
use Rattle.byteorder.specs.Numbers.{big_number-reads_back}
use Rattle.marks_file.specs.Meaning.{MarkedView, place_total, place_row, module_row, module_rows, rows, Difference, first_difference}
use Rattle.marks_file.specs.Marks.{HasRow}
use Rattle.marks_file.specs.declared.marks.MarkedPlace.{MarkedPlace}
use Rattle.marks_file.specs.Combine.{first_row, SamePlaces, SameTables}

picks : (c : Bool) (x y : Option Difference) → c ≡ true → (if c then x else y) ≡ x
picks c x y e = rw e refl

pub row_same : (n : ℕ) (x y : List ℕ) (xs ys : List (List ℕ)) → x ≡ y → first_difference n (x ∷ xs) (y ∷ ys) ≡ first_difference (n + 1) xs ys
row_same n x y xs ys e = picks (bytes_eq x y) (first_difference (n + 1) xs ys) (Some (record { row = n; left = Some x; right = Some y })) ((bytes_eq-Decides x y).1 e)

-- the same rows have no difference
pub none_differs : (n : ℕ) (xs : List (List ℕ)) → first_difference n xs xs ≡ None
none_differs n [] = refl
none_differs n (x ∷ xs) = row_same n x x xs xs refl ∙ none_differs (n + 1) xs

-- behind places of the same rows
pub places_same : (n : ℕ) (ps qs : List MarkedPlace) (xs ys : List (List ℕ)) → SamePlaces ps qs → first_difference n (map place_row ps ++ xs) (map place_row qs ++ ys) ≡ first_difference (n + length ps) xs ys
places_same n [] [] xs ys h = ap (λ k. first_difference k xs ys) (omega arith)
places_same n [] (q ∷ qs) xs ys h = absurd h
places_same n (p ∷ ps) [] xs ys h = absurd h
places_same n (p ∷ ps) (q ∷ qs) xs ys h =
    row_same n (place_row p) (place_row q) (map place_row ps ++ xs) (map place_row qs ++ ys) h.0
    ∙ (places_same (n + 1) ps qs xs ys h.1 ∙ ap (λ k. first_difference k xs ys) (omega arith))

-- behind a module of the same rows
pub module_same : (n : ℕ) (a b : MarkedView) (xs ys : List (List ℕ)) → module_row a ≡ module_row b → SamePlaces a.places b.places → first_difference n (module_rows a ++ xs) (module_rows b ++ ys) ≡ first_difference (n + (1 + length a.places)) xs ys
module_same n a b xs ys e h =
    row_same n (module_row a) (module_row b) (map place_row a.places ++ xs) (map place_row b.places ++ ys) e
    ∙ (places_same (n + 1) a.places b.places xs ys h ∙ ap (λ k. first_difference k xs ys) (omega arith))

-- the ends of lists that are the same, where the ends are as long
same_end : (x y s t : List ℕ) → length s ≡ length t → x ++ s ≡ y ++ t → s ≡ t
same_end x y s t l e =
    let n : length x ≡ length y = omega (arith, ap length e, length-append x s, length-append y t, l) in
    sym (drop-append_seam x s) ∙ (ap (λ z. drop (length x) z) e ∙ (ap (λ k. drop k (y ++ t)) n ∙ drop-append_seam y t))

-- modules of the same row have as many places
pub row_count : (a b : MarkedView) → HasRow a → HasRow b → module_row a ≡ module_row b → length a.places ≡ length b.places
row_count a b ha hb e =
    let s = big_bytes 4 a.base ++ (big_bytes 4 a.size ++ big_bytes 4 (length a.places)) in
    let t = big_bytes 4 b.base ++ (big_bytes 4 b.size ++ big_bytes 4 (length b.places)) in
    let ends : s ≡ t = same_end a.name b.name s t refl e in
    let few_a = ha.count in
    let few_b = hb.count in
    sym (big_number-reads_back 4 (length a.places) [] (omega arith)) ∙ (ap (λ z. big_number 4 (drop 8 z)) ends ∙ big_number-reads_back 4 (length b.places) [] (omega arith))

-- i places are the same
pub record PlacesPassed (n : ℕ) (a b : List MarkedPlace) (i : ℕ) : Type 0 where
  pub rows : (xs ys : List (List ℕ)) → first_difference n (map place_row a ++ xs) (map place_row b ++ ys) ≡ first_difference (n + i) (map place_row (drop i a) ++ xs) (map place_row (drop i b) ++ ys)
  pub same : SamePlaces (drop i a) (drop i b) → SamePlaces a b

-- the rows that this many modules have
abbrev pub row_total : List MarkedView → ℕ
row_total ms = length ms + place_total ms

-- i modules are the same, and the next row has this number
pub record ModulesPassed (a b : List MarkedView) (i n : ℕ) : Type 0 where
  pub total : n + row_total (drop i a) ≡ row_total a
  pub rows_are : first_difference 0 (rows a) (rows b) ≡ first_difference n (rows (drop i a)) (rows (drop i b))
  pub same : SameTables (drop i a) (drop i b) → SameTables a b

here_modules : (a : List MarkedView) (i : ℕ) (m : MarkedView) → i < length a → m ≡ get_or a i m → drop i a ≡ m ∷ drop (i + 1) a
here_modules a i m h e = at_drop_more (λ x. x) a i m h ∙ ap (λ x. x ∷ drop (i + 1) a) (sym e)

pub passed_step : (a b : List MarkedView) (i n : ℕ) (m k : MarkedView) → ModulesPassed a b i n → i < length a → i < length b → m ≡ get_or a i m → k ≡ get_or b i k → (module_row m ≡ module_row k) × SamePlaces m.places k.places → ModulesPassed a b (i + 1) (n + (1 + length m.places))
passed_step a b i n m k s la lb em ek same =
    let da = here_modules a i m la em in
    let db = here_modules b i k lb ek in
    let total = s.total in
    record {
      total = omega (arith, ap row_total da);
      rows_are = s.rows_are
          ∙ (ap (λ z. first_difference n (rows z) (rows (drop i b))) da
          ∙ (ap (λ z. first_difference n (rows (m ∷ drop (i + 1) a)) (rows z)) db
          ∙ module_same n m k (rows (drop (i + 1) a)) (rows (drop (i + 1) b)) same.0 same.1));
      same = λ h. s.same (rw (da, db) (same, h));
    }

pub passed_stop : (a b : List MarkedView) (i n : ℕ) (m k : MarkedView) (d : Difference) → ModulesPassed a b i n → i < length a → i < length b → m ≡ get_or a i m → k ≡ get_or b i k
    → ((xs ys : List (List ℕ)) → first_difference n (module_rows m ++ xs) (module_rows k ++ ys) ≡ Some d) → first_difference 0 (rows a) (rows b) ≡ Some d
passed_stop a b i n m k d s la lb em ek found =
    let da = here_modules a i m la em in
    let db = here_modules b i k lb ek in
    s.rows_are
    ∙ (ap (λ z. first_difference n (rows z) (rows (drop i b))) da
    ∙ (ap (λ z. first_difference n (rows (m ∷ drop (i + 1) a)) (rows z)) db
    ∙ found (rows (drop (i + 1) a)) (rows (drop (i + 1) b))))

-- one table has a module more
left_over : (n : ℕ) (xs ys : List MarkedView) → min (length xs) (length ys) ≡ 0 → length xs ≢ length ys → first_difference n (rows xs) (rows ys) ≡ Some (record { row = n; left = first_row xs; right = first_row ys })
left_over n [] [] e o = absurd (o refl)
left_over n [] (k ∷ ks) e o = refl
left_over n (m ∷ ms) [] e o = refl
left_over n (m ∷ ms) (k ∷ ks) e o = absurd (omega arith)

pub modules_over : (a b : List MarkedView) (i n : ℕ) → ModulesPassed a b i n → length a ≢ length b → i ≤ length a → i ≤ length b → min (length a) (length b) ≤ i
    → first_difference 0 (rows a) (rows b) ≡ Some (record { row = n; left = first_row (drop i a); right = first_row (drop i b) })
modules_over a b i n s other la lb h =
    let ea : length (drop i a) ≡ length a - i = length-drop i a in
    let eb : length (drop i b) ≡ length b - i = length-drop i b in
    s.rows_are ∙ left_over n (drop i a) (drop i b) (omega (arith, ea, eb, h, la, lb)) (λ e. other (omega (arith, e, ea, eb, la, lb)))
