-- Whole files: what was spelled is read back, and no spelling begins another.
use Rattle.std.proofs.Common.{◌≡◌, ℕ, ◌+◌, ◌*◌, ◌≤◌, ◌<◌, ◌^◌, suc, Option, None, Some, Result, Ok, Err, IfOk, true, ◌&&◌, nat_le, List, [], ◌∷◌, ◌++◌, length, take, drop, slice_index, refl, ap, sym, ◌∙◌, subst, arith, append_assoc, length-append, leb-true}
use Rattle.std.specs.List.{flat_map}
use Rattle.std.specs.Io.{StartsWith}
use Rattle.std.proofs.lemmas.List.{drop-drop, take-append-drop}
use Rattle.std.proofs.Math.Seq.{drop-append_seam, take-append_seam, take-length}
use Rattle.std.proofs.lemmas.Bool.{le-leb, and_from, and_parts}
use Rattle.byteorder.specs.Endian.{big_number, big_bytes}
use Rattle.byteorder.specs.Numbers.{big_number-reads_back}
use Rattle.cov_base.specs.Meaning.{is_filled}
use Rattle.marks_file.specs.Meaning.{modules_bytes, MarkedView, MarksView, is_new_name, is_base, is_size, is_count, are_modules, is_module_count, are_marks, is_runs, keeps_rules, place_total, place_bytes, module_row, module_bytes, magic, name_field, session_bytes, file_bytes, HasFile, first_bad, places_at, places_fields, header_fields, module_fields, module_at, modules_fields, place_count_at, table_fields, version_of, table_from, heading_fields, file_fields}
use Rattle.marks_file.specs.Reading.{IsFault, modules_at, table_at, name_at, runs_at, marks_of, marks_at}
use Rattle.marks_file.specs.declared.marks.MarkedPlace.{MarkedPlace}
use Rattle.marks_file.specs.declared.fault.MarksFault.{MarksFault}
use Rattle.marks_file.specs.declared.fault.MarksFault.TheVariants.{BadMarks, NoMemory}
use Rattle.marks_file.specs.declared.version.Version.{Version}
use Rattle.marks_file.specs.declared.version.Version.TheVariants.{First, Second}
use Rattle.marks_file.proofs.Parts.{is_module, is_session_name, module_size}
use Rattle.marks_file.proofs.MarksLemmas.{marks_count, same_cons}
use Rattle.marks_file.proofs.FieldLemmas.{header_none, first_none}
use Rattle.marks_file.proofs.SpellLemmas.{AreBytes, bytes_later, ArePlacesRead, places_read}
use Rattle.marks_file.proofs.ModuleLemmas.{IsHeaderRead, header_read_back, length-filled, table_spelled}
use Rattle.marks_file.proofs.HeadingLemmas.{IsHeading, heading_is, told, told_all, IsHeadingRead, heading_read}

length-places : (ps : List MarkedPlace) → length (flat_map place_bytes ps) ≡ 9 * length ps
length-places [] = refl
length-places (p ∷ ps) = let e = length-places ps in omega (arith, e, length-append (place_bytes p) (flat_map place_bytes ps))

same_module : (name : List ℕ) (base size : ℕ) (places : List MarkedPlace) (m : MarkedView) → name ≡ m.name → base ≡ m.base → size ≡ m.size → places ≡ m.places → ◌≡◌ {A = MarkedView} (record { name = name; base = base; size = size; places = places }) m
same_module name base size places m e1 e2 e3 e4 = rw (e1, e2, e3, e4) refl

-- numbers that the rules keep below the width of their fields
base_small : (base : ℕ) → is_base base ≡ true → base < 256 ^ 4
unfolding is_base
base_small base h = let small = leb-true base 16773112 (and_parts (nat_le 1048576 base) _ (and_parts _ (nat_le 1048576 base && nat_le base 16773112) h).1).1 in omega arith

pub size_few : (earlier : List MarkedView) (base size : ℕ) → is_size earlier base size ≡ true → size ≤ 262144
unfolding is_size
size_few earlier base size h = leb-true size 262144 (and_parts (nat_le size 262144) _ (and_parts (nat_le 2 size) _ (and_parts _ _ h).1).1).0

count_small : (earlier : List MarkedView) (n : ℕ) → is_count earlier n ≡ true → n ≤ 65536
unfolding is_count
count_small earlier n h = let small = leb-true (place_total earlier + n) 65536 h in omega arith

name_long : (earlier : List MarkedView) (name : List ℕ) → is_new_name earlier name ≡ true → length name ≡ 8
unfolding is_new_name
name_long earlier name h = length-filled name (and_parts (is_filled name) _ h).0

-- a module is read back, and the bytes behind it are left
pub record IsModuleRead (at : ℕ) (earlier : List MarkedView) (m : MarkedView) (rest bs : List ℕ) : Type 0 where
  pub value : module_at bs ≡ m
  pub good : first_bad (module_fields at earlier bs) ≡ None
  pub rest_is : drop (module_size (place_count_at bs)) bs ≡ rest

pub module_read : (at : ℕ) (earlier : List MarkedView) (m : MarkedView) (rest : List ℕ) → is_module earlier m ≡ true → IsModuleRead at earlier m rest (module_bytes m ++ rest)
unfolding module_at
module_read at earlier m rest h =
    let h2 = (and_parts (is_new_name earlier m.name) _ h).1 in
    let h3 = (and_parts (is_base m.base) _ h2).1 in
    let h4 = (and_parts (is_size earlier m.base m.size) _ h3).1 in
    let name = (and_parts (is_new_name earlier m.name) _ h).0 in
    let base = (and_parts (is_base m.base) _ h2).0 in
    let size = (and_parts (is_size earlier m.base m.size) _ h3).0 in
    let count = (and_parts (is_count earlier (length m.places)) _ h4).0 in
    let few = size_few earlier m.base m.size size in
    let n = length m.places in
    let many = count_small earlier n count in
    let flat = flat_map place_bytes m.places in
    let after = flat ++ rest in
    let bs = module_row m ++ after in
    let hr : IsHeaderRead m.name m.base m.size n after bs = header_read_back m.name m.base m.size n after (name_long earlier m.name name) (base_small m.base base) (omega arith) (omega arith) in
    let ps : ArePlacesRead (at + 20) m.size 0 m.places after = places_read (at + 20) m.size 0 m.places rest few (and_parts (is_count earlier n) _ h4).1 in
    let places : places_at (place_count_at bs) (drop 20 bs) ≡ m.places = ap (λ k. places_at k (drop 20 bs)) hr.count_is ∙ (ap (λ t. places_at n t) hr.rest_is ∙ ps.value) in
    let record_none = header_none at earlier bs (record {
      room = hr.room;
      name = ap (is_new_name earlier) hr.name_is ∙ name;
      base = ap is_base hr.base_is ∙ base;
      size = ap (λ b. is_size earlier b (big_number 4 (drop 12 bs))) hr.base_is ∙ (ap (is_size earlier m.base) hr.size_is ∙ size);
      count = ap (is_count earlier) hr.count_is ∙ count;
    }) in
    let whole : IsModuleRead at earlier m rest bs = record {
      value = same_module (take 8 bs) (big_number 4 (drop 8 bs)) (big_number 4 (drop 12 bs)) (places_at (place_count_at bs) (drop 20 bs)) m hr.name_is hr.base_is hr.size_is places;
      good = first_none (header_fields at earlier bs) (places_fields (at + 20) (big_number 4 (drop 12 bs)) 0 (place_count_at bs) (drop 20 bs)) record_none
          ∙ (ap (λ z. first_bad (places_fields (at + 20) z 0 (place_count_at bs) (drop 20 bs))) hr.size_is
          ∙ (ap (λ k. first_bad (places_fields (at + 20) m.size 0 k (drop 20 bs))) hr.count_is
          ∙ (ap (λ t. first_bad (places_fields (at + 20) m.size 0 n t)) hr.rest_is ∙ ps.good)));
      rest_is = ap (λ k. drop (module_size k) bs) hr.count_is
          ∙ (sym (drop-drop (9 * n) 20 bs)
          ∙ (ap (λ t. drop (9 * n) t) hr.rest_is
          ∙ (ap (λ k. drop k after) (sym (length-places m.places)) ∙ drop-append_seam flat rest)));
    } in
    subst (λ t. IsModuleRead at earlier m rest t) (sym (append_assoc (module_row m) flat rest)) whole

pub record AreModulesRead (at : ℕ) (earlier ms : List MarkedView) (bs : List ℕ) : Type 0 where
  pub value : modules_at (length ms) bs ≡ ms
  pub good : first_bad (modules_fields at earlier (length ms) bs) ≡ None

pub modules_read : (at : ℕ) (earlier ms : List MarkedView) (rest : List ℕ) → are_modules earlier ms ≡ true → AreModulesRead at earlier ms (flat_map module_bytes ms ++ rest)
modules_read at earlier [] rest h = record { value = refl; good = refl }
modules_read at earlier (m ∷ ms) rest h =
    let after = flat_map module_bytes ms ++ rest in
    let bs = module_bytes m ++ after in
    let size = module_size (place_count_at bs) in
    let n = length ms in
    let one : IsModuleRead at earlier m after bs = module_read at earlier m after (and_parts (is_module earlier m) (are_modules (earlier ++ m ∷ []) ms) h).0 in
    let more = modules_read (at + size) (earlier ++ m ∷ []) ms rest (and_parts (is_module earlier m) _ h).1 in
    let joined : (module_bytes m ++ flat_map module_bytes ms) ++ rest ≡ bs = append_assoc (module_bytes m) (flat_map module_bytes ms) rest in
    record {
      value = ap (λ t. modules_at (suc n) t) joined ∙ same_cons (module_at bs) m (modules_at n (drop size bs)) ms one.value (ap (λ t. modules_at n t) one.rest_is ∙ more.value);
      good = ap (λ t. first_bad (modules_fields at earlier (suc n) t)) joined
          ∙ (first_none (module_fields at earlier bs) (modules_fields (at + size) (earlier ++ module_at bs ∷ []) n (drop size bs)) one.good
          ∙ (ap (λ x. first_bad (modules_fields (at + size) (earlier ++ x ∷ []) n (drop size bs))) one.value
          ∙ (ap (λ t. first_bad (modules_fields (at + size) (earlier ++ m ∷ []) n t)) one.rest_is ∙ more.good)));
    }

pub count_good : (at : ℕ) (bs : List ℕ) → (nat_le 2 (length bs) && is_module_count (big_number 2 bs)) ≡ true → first_bad (table_fields at bs) ≡ first_bad (modules_fields (at + 2) [] (big_number 2 bs) (drop 2 bs))
count_good at bs h = rw h refl

pub record IsTableRead (at : ℕ) (ms : List MarkedView) (bs : List ℕ) : Type 0 where
  pub value : table_at bs ≡ ms
  pub good : first_bad (table_fields at bs) ≡ None

table_found : (at : ℕ) (ms : List MarkedView) (bs after : List ℕ) → 2 ≤ length bs → big_number 2 bs ≡ length ms → drop 2 bs ≡ after → is_module_count (length ms) ≡ true → AreModulesRead (at + 2) [] ms after → IsTableRead at ms bs
table_found at ms bs after room count rest few read =
    let t : (nat_le 2 (length bs) && is_module_count (big_number 2 bs)) ≡ true = and_from (nat_le 2 (length bs)) (is_module_count (big_number 2 bs)) (le-leb 2 (length bs) room) (ap is_module_count count ∙ few) in
    record {
      value = ap (λ k. modules_at k (drop 2 bs)) count ∙ (ap (λ t. modules_at (length ms) t) rest ∙ read.value);
      good = count_good at bs t
          ∙ (ap (λ k. first_bad (modules_fields (at + 2) [] k (drop 2 bs))) count
          ∙ (ap (λ t. first_bad (modules_fields (at + 2) [] (length ms) t)) rest ∙ read.good));
    }

pub table_read : (at : ℕ) (ms : List MarkedView) (rest : List ℕ) → are_marks ms ≡ true → IsTableRead at ms (modules_bytes ms ++ rest)
table_read at ms rest h =
    let few = marks_count ms h in
    let read : AreModulesRead (at + 2) [] ms (flat_map module_bytes ms ++ rest) = modules_read (at + 2) [] ms rest (and_parts (is_module_count (length ms)) _ h).1 in
    table_found at ms (modules_bytes ms ++ rest) (flat_map module_bytes ms ++ rest) (omega arith) (big_number-reads_back 2 (length ms) [] (omega arith)) refl (and_parts (is_module_count (length ms)) (are_modules [] ms) h).0 read

-- modules that are spelled alike are the same
pub one_table : (ms ns : List MarkedView) → are_marks ms ≡ true → are_marks ns ≡ true → modules_bytes ms ≡ modules_bytes ns → ms ≡ ns
one_table ms ns h g e = sym (table_read 0 ms [] h).value ∙ (ap (λ t. table_at (t ++ [])) e ∙ (table_read 0 ns [] g).value)

-- what a file of this version is read as
pub record IsFileRead (v : Version) (at : ℕ) (m : MarksView) (bs : List ℕ) : Type 0 where
  pub version : version_of bs ≡ v
  pub value : marks_at bs ≡ told v m
  pub good : first_bad (file_fields at bs) ≡ None

told_modules : (v : Version) (m : MarksView) → (told v m).modules ≡ m.modules
told_modules First m = refl
told_modules Second m = refl

pub same_marks : (name : Option (List ℕ)) (runs : ℕ) (ms : List MarkedView) (m : MarksView) → name ≡ m.name → runs ≡ m.runs → ms ≡ m.modules → ◌≡◌ {A = MarksView} (record { name = name; runs = runs; modules = ms }) m
same_marks name runs ms m e f g = rw (e, f, g) refl

file_head : (v : Version) (at : ℕ) (m : MarksView) (after bs : List ℕ) → IsHeadingRead v at m after bs → IsTableRead (at + table_from v) m.modules after → IsFileRead v at m bs
unfolding marks_at
file_head v at m after bs h t = record {
  version = h.version;
  value = ap (λ w. marks_of w bs) h.version
      ∙ same_marks (name_at v bs) (runs_at v bs) (table_at (drop (table_from v) bs)) (told v m) h.name h.runs (ap table_at h.rest_is ∙ (t.value ∙ sym (told_modules v m)));
  good = first_none (heading_fields at bs) (table_fields (at + table_from (version_of bs)) (drop (table_from (version_of bs)) bs)) h.good
      ∙ (ap (λ w. first_bad (table_fields (at + table_from w) (drop (table_from w) bs))) h.version
      ∙ (ap (λ x. first_bad (table_fields (at + table_from v) x)) h.rest_is ∙ t.good));
}

file_joined : (a b c rest : List ℕ) → (a ++ (b ++ c)) ++ rest ≡ a ++ (b ++ (c ++ rest))
file_joined a b c rest = append_assoc a (b ++ c) rest ∙ ap (λ t. a ++ t) (append_assoc b c rest)

pub file_read : (v : Version) (at : ℕ) (m : MarksView) (rest : List ℕ) → keeps_rules m ≡ true → IsFileRead v at m (file_bytes v m ++ rest)
file_read v at m rest h =
    let after = modules_bytes m.modules ++ rest in
    let later = (and_parts (is_session_name m.name) _ h).1 in
    let head = heading_read v at m after (and_parts (is_session_name m.name) _ h).0 (and_parts (is_runs m.runs) _ later).0 in
    let table = table_read (at + table_from v) m.modules rest (and_parts (is_runs m.runs) _ later).1 in
    subst (IsFileRead v at m) (sym (file_joined (magic v) (session_bytes v m) (modules_bytes m.modules) rest)) (file_head v at m after (magic v ++ (session_bytes v m ++ after)) head table)

pub file_found : (v : Version) (at : ℕ) (m : MarksView) (bs : List ℕ) → keeps_rules m ≡ true → StartsWith bs (file_bytes v m) → IsFileRead v at m bs
file_found v at m bs h starts =
    let n = length (file_bytes v m) in
    let joined : file_bytes v m ++ drop n bs ≡ bs = ap (λ t. t ++ drop n bs) (sym starts) ∙ take-append-drop n bs in
    subst (IsFileRead v at m) joined (file_read v at m (drop n bs) h)

pub file_long : (v : Version) (m : MarksView) → 8 ≤ length (file_bytes v m)
file_long First m = omega arith
file_long Second m = omega arith

-- no spelling begins another
pub one_version : (v w : Version) (m n : MarksView) → StartsWith (file_bytes v m) (file_bytes w n) → v ≡ w
one_version First First m n h = refl
one_version Second Second m n h = refl
one_version First Second m n h = let e : 49 ≡ 50 = ap (λ t. slice_index t 7) h in absurd (omega (arith, e))
one_version Second First m n h = let e : 50 ≡ 49 = ap (λ t. slice_index t 7) h in absurd (omega (arith, e))

one_told : (v : Version) (m n : MarksView) → keeps_rules m ≡ true → keeps_rules n ≡ true → StartsWith (file_bytes v m) (file_bytes v n) → told v m ≡ told v n
one_told v m n hm hn starts =
    let own = file_found v 0 m (file_bytes v m) hm (take-length (file_bytes v m)) in
    let other = file_found v 0 n (file_bytes v m) hn starts in
    sym own.value ∙ other.value

pub one_spelling : (m n : MarksView) → keeps_rules m ≡ true → keeps_rules n ≡ true → StartsWith (file_bytes Second m) (file_bytes Second n) → m ≡ n
one_spelling m n hm hn starts = one_told Second m n hm hn starts

pub one_modules : (v w : Version) (m n : MarksView) → keeps_rules m ≡ true → keeps_rules n ≡ true → StartsWith (file_bytes v m) (file_bytes w n) → m.modules ≡ n.modules
one_modules v w m n hm hn starts =
    let e : v ≡ w = one_version v w m n starts in
    let one = one_told v m n hm hn (subst (λ x. StartsWith (file_bytes v m) (file_bytes x n)) (sym e) starts) in
    sym (told_modules v m) ∙ (ap (λ (x : MarksView). x.modules) one ∙ told_modules v n)

told_bytes : (v : Version) (m : MarksView) → file_bytes v (told v m) ≡ file_bytes v m
told_bytes First m = refl
told_bytes Second m = refl

pub no_prefix : (v w : Version) (m n : MarksView) → keeps_rules m ≡ true → keeps_rules n ≡ true → StartsWith (file_bytes v m) (file_bytes w n) → file_bytes v m ≡ file_bytes w n
no_prefix v w m n hm hn starts =
    let e : v ≡ w = one_version v w m n starts in
    let one = one_told v m n hm hn (subst (λ x. StartsWith (file_bytes v m) (file_bytes x n)) (sym e) starts) in
    sym (told_bytes v m) ∙ (ap (file_bytes v) one ∙ (told_bytes v n ∙ ap (λ x. file_bytes x n) e))

-- what bytes that begin with a file are read as
pub marks_found : (at : ℕ) (bs : List ℕ) (m : MarksView) (end : ℕ) → keeps_rules m ≡ true → HasFile at bs m end → marks_at bs ≡ m
marks_found at bs m end h f = (file_found f.version at m bs h f.starts).value ∙ told_all f.version m f.tells

pub one_end : (at : ℕ) (bs : List ℕ) (m n : MarksView) (end other : ℕ) → keeps_rules m ≡ true → n ≡ m → HasFile at bs n other → HasFile at bs m end → other ≡ end
one_end at bs m n end other h e g f =
    let same : HasFile at bs m other = subst (λ x. HasFile at bs x other) e g in
    let version : same.version ≡ f.version = sym (file_found same.version at m bs h same.starts).version ∙ (file_found f.version at m bs h f.starts).version in
    same.ends ∙ (ap (λ v. at + length (file_bytes v m)) version ∙ sym f.ends)

pub sure_fault : (at : ℕ) (bs : List ℕ) (m : MarksView) (end : ℕ) (fault : MarksFault) → IsFault (file_fields at bs) fault → keeps_rules m ≡ true → HasFile at bs m end → fault ≡ NoMemory
sure_fault at bs m end NoMemory bad h f = refl
sure_fault at bs m end (BadMarks o) bad h f =
    let e : None ≡ Some o = sym (file_found f.version at m bs h f.starts).good ∙ bad in
    absurd cc

-- what good fields of a file spell, its modules having been read behind its heading
pub record IsFileSpelled (at : ℕ) (bs : List ℕ) : Type 0 where
  pub rules : keeps_rules (marks_at bs) ≡ true
  pub file : HasFile at bs (marks_at bs) (at + (table_from (version_of bs) + length (modules_bytes (marks_at bs).modules)))

starts_with : (prefix rest bs : List ℕ) → prefix ++ rest ≡ bs → StartsWith bs prefix
starts_with prefix rest bs e = ap (λ t. take (length prefix) t) (sym e) ∙ take-append_seam prefix rest

length-file : (a b c : List ℕ) (n : ℕ) → length (a ++ b) ≡ n → length (a ++ (b ++ c)) ≡ n + length c
length-file a b c n e = ap length (sym (append_assoc a b c)) ∙ (length-append (a ++ b) c ∙ ap (λ k. k + length c) e)

pub file_spelled : (at : ℕ) (bs : List ℕ) → AreBytes bs → first_bad (heading_fields at bs) ≡ None → first_bad (table_fields (at + table_from (version_of bs)) (drop (table_from (version_of bs)) bs)) ≡ None → IsFileSpelled at bs
unfolding marks_at
file_spelled at bs u good more =
    let v = version_of bs in
    let m = marks_of v bs in
    let head : IsHeading v bs = heading_is v at bs u refl good in
    let table = table_spelled (at + table_from v) (drop (table_from v) bs) (bytes_later (table_from v) bs u) more in
    let joined : file_bytes v m ++ table.rest ≡ bs = file_joined (magic v) (session_bytes v m) (modules_bytes m.modules) table.rest ∙ (ap (λ t. magic v ++ (session_bytes v m ++ t)) table.spelled ∙ head.spelled) in
    record {
      rules = and_from _ _ head.name (and_from _ _ head.runs table.are);
      file = record {
        version = v;
        tells = head.tells;
        starts = starts_with (file_bytes v m) table.rest bs joined;
        ends = ap (λ n. at + n) (sym (length-file (magic v) (session_bytes v m) (modules_bytes m.modules) (table_from v) head.long));
      };
    }

-- the table behind a heading of this size
pub table_moved : {X : Type 0} (f : ℕ → List ℕ → X) (input : List ℕ) (from size : ℕ) (v : Version) → size ≡ table_from v → f (from + size) (drop (from + size) input) ≡ f (from + table_from v) (drop (table_from v) (drop from input))
table_moved f input from size v e = ap (λ t. f (from + size) t) (sym (drop-drop size from input)) ∙ ap (λ k. f (from + k) (drop k (drop from input))) e

pub marks_read : (input : List ℕ) (from size : ℕ) (name : Option (List ℕ)) (runs : ℕ) (ms : List MarkedView) → size ≡ table_from (version_of (drop from input)) → name ≡ name_at (version_of (drop from input)) (drop from input)
    → runs ≡ runs_at (version_of (drop from input)) (drop from input) → ms ≡ table_at (drop (from + size) input) → ◌≡◌ {A = MarksView} (record { name = name; runs = runs; modules = ms }) (marks_at (drop from input))
unfolding marks_at
marks_read input from size name runs ms s n r m =
    same_marks name runs ms (marks_of (version_of (drop from input)) (drop from input)) n r (m ∙ table_moved (λ _ t. table_at t) input from size (version_of (drop from input)) s)

-- a fault behind a good heading is the first
pub fault_behind : (input : List ℕ) (from size : ℕ) (fault : MarksFault) → size ≡ table_from (version_of (drop from input)) → first_bad (heading_fields from (drop from input)) ≡ None
    → IsFault (table_fields (from + size) (drop (from + size) input)) fault → IsFault (file_fields from (drop from input)) fault
fault_behind input from size NoMemory s good bad = tt
fault_behind input from size (BadMarks o) s good bad =
    first_none (heading_fields from (drop from input)) _ good ∙ (sym (ap first_bad (table_moved table_fields input from size (version_of (drop from input)) s)) ∙ bad)

-- two facts of one value
pub both_ok : {T E : Type 0} (r : Result T E) (P Q R : T → Type 0) → ((x : T) → P x → Q x → R x) → IfOk r P → IfOk r Q → IfOk r R
both_ok (Ok x) P Q R f p q = f x p q
both_ok (Err e) P Q R f p q = p

-- the head, and the modules behind it
pub written_head : (name : Option (List ℕ)) (runs : ℕ) (ms : List MarkedView) → file_bytes Second (record { name = name; runs = runs; modules = ms }) ≡ ((magic Second ++ (name_field name ++ big_bytes 4 runs)) ++ big_bytes 2 (length ms)) ++ flat_map module_bytes ms
written_head name runs ms =
    let session = name_field name ++ big_bytes 4 runs in
    sym (append_assoc (magic Second ++ session) (big_bytes 2 (length ms)) (flat_map module_bytes ms) ∙ append_assoc (magic Second) session (modules_bytes ms))
