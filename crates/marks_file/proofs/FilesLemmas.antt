-- Files one after another: what the loop over them keeps.
use Rattle.std.proofs.Common.{◌≡◌, ℕ, ◌+◌, ◌≤◌, true, nat_le, Some, List, [], ◌∷◌, ◌++◌, length, drop, map, fold, refl, ap, sym, ◌∙◌, arith, append_assoc, append-nil, length-append, length-drop, leb-true}
use Rattle.std.specs.Io.{StartsWith}
use Rattle.std.specs.List.{sum_by}
use Rattle.std.proofs.lemmas.List.{take-append-drop, drop-drop, length-take, map-append}
use Rattle.std.proofs.lemmas.List.Elements.{All-push}
use Rattle.std.proofs.lemmas.List.Sums.{fold-append, sum_by-append}
use Rattle.std.proofs.lemmas.Grind.{flat_map-append}
use Rattle.std.proofs.lemmas.Bool.{le-leb, and_from, and_parts}
use Rattle.byteorder.specs.Endian.{big_bytes}
use Rattle.marks_file.specs.Meaning.{MarkedView, MarksView, most_runs, is_runs, keeps_rules, place_row, module_row, module_rows, rows, HasFile, Difference, first_difference, unite, unite_places, unite_module, File, IsFile, file_text, modules_of, held, united, AreOfOneTable, IsOtherTable, spelling}
use Rattle.marks_file.specs.declared.marks.MarkedPlace.{MarkedPlace}
use Rattle.marks_file.specs.declared.version.Version.{Version}
use Rattle.marks_file.proofs.Parts.{is_session_name}
use Rattle.marks_file.proofs.FileLemmas.{same_marks}
use Rattle.marks_file.proofs.UnionLemmas.{length-unite_places}
use Rattle.marks_file.proofs.MarksLemmas.{same_cons, same_append}

abbrev pub runs_of : File → ℕ
runs_of f = f.marks.runs

-- the union has the rows of its first file
places_kept : (ps qs : List MarkedPlace) → map place_row (unite_places ps qs) ≡ map place_row ps
places_kept [] qs = refl
places_kept (p ∷ ps) [] = refl
places_kept (p ∷ ps) (q ∷ qs) = same_cons (place_row p) (place_row p) (map place_row (unite_places ps qs)) (map place_row ps) refl (places_kept ps qs)

pub row_kept : (m n : MarkedView) → module_row (unite_module m n) ≡ module_row m
row_kept m n = ap (λ k. m.name ++ (big_bytes 4 m.base ++ (big_bytes 4 m.size ++ big_bytes 4 k))) (length-unite_places m.places n.places)

pub rows_kept : (ms ns : List MarkedView) → rows (unite ms ns) ≡ rows ms
rows_kept [] ns = refl
rows_kept (m ∷ ms) [] = refl
rows_kept (m ∷ ms) (n ∷ ns) = same_append (module_rows (unite_module m n)) (module_rows m) (rows (unite ms ns)) (rows ms) (same_cons (module_row (unite_module m n)) (module_row m) (map place_row (unite_places m.places n.places)) (map place_row m.places) (row_kept m n) (places_kept m.places n.places)) (rows_kept ms ns)

-- files of one table were read up to `at`, and this is their union
pub record FilesSoFar (bytes : List ℕ) (at : ℕ) (all : MarksView) : Type 0 where
  pub inside : at ≤ length bytes
  pub first : File
  pub others : List File
  pub table : AreOfOneTable first others
  pub spelled : bytes ≡ spelling (first ∷ others) ++ drop at bytes
  pub end : at ≡ length (spelling (first ∷ others))
  pub is : all ≡ united first others
  pub rows_are : rows all.modules ≡ rows (modules_of first)

starts : (p bs : List ℕ) → StartsWith bs p → bs ≡ p ++ drop (length p) bs
starts p bs h = sym (ap (λ t. t ++ drop (length p) bs) (sym h) ∙ take-append-drop (length p) bs)

fits : (p bs : List ℕ) → StartsWith bs p → length p ≤ length bs
fits p bs h = omega (arith, length-take (length p) bs, ap length h)

-- the file of these marks that was read
file_of : (at : ℕ) (bs : List ℕ) (m : MarksView) (end : ℕ) → HasFile at bs m end → File
file_of at bs m end f = record { version = f.version; marks = m }

file_of_is : (at : ℕ) (bs : List ℕ) (m : MarksView) (end : ℕ) (f : HasFile at bs m end) → keeps_rules m ≡ true → IsFile (file_of at bs m end f)
unfolding file_of
file_of_is at bs m end f h = record { rules = h; tells = f.tells }

runs_within : (m : MarksView) → keeps_rules m ≡ true → m.runs ≤ most_runs
unfolding is_runs
runs_within m h = leb-true m.runs most_runs (and_parts (nat_le 1 m.runs) _ (and_parts (is_runs m.runs) _ (and_parts (is_session_name m.name) _ h).1).0).1

alone : (m : MarksView) (v : Version) → keeps_rules m ≡ true → m ≡ united (record { version = v; marks = m }) []
alone m v h =
    let small = runs_within m h in
    let runs : m.runs ≡ held (sum_by runs_of (record { version = v; marks = m } ∷ [])) = omega arith in
    ap (λ n. record { name = m.name; runs = n; modules = m.modules }) runs

pub files_start : (bytes : List ℕ) (at : ℕ) (m : MarksView) → keeps_rules m ≡ true → HasFile 0 bytes m at → FilesSoFar bytes at m
unfolding file_of
files_start bytes at m h f =
    let x = file_of 0 bytes m at f in
    let e : at ≡ length (file_text x) = omega (arith, f.ends) in
    let inside = fits (file_text x) bytes f.starts in
    let one : spelling (x ∷ []) ≡ file_text x = append-nil (file_text x) in
    record {
      inside = omega (arith, e, inside);
      first = x;
      others = [];
      table = record { first_is = file_of_is 0 bytes m at f h; are = λ k d l. absurd (omega arith); same = λ k d l. absurd (omega arith) };
      spelled = starts (file_text x) bytes f.starts ∙ (ap (λ t. t ++ drop (length (file_text x)) bytes) (sym one) ∙ ap (λ k. spelling (x ∷ []) ++ drop k bytes) (sym e));
      end = e ∙ ap length (sym one);
      is = alone m f.version h;
      rows_are = refl;
    }

more_spelled : (first : File) (others : List File) (x : File) → spelling (first ∷ (others ++ x ∷ [])) ≡ spelling (first ∷ others) ++ file_text x
more_spelled first others x = flat_map-append file_text (first ∷ others) (x ∷ []) ∙ ap (λ t. spelling (first ∷ others) ++ t) (append-nil (file_text x))

-- the union with a further file
more_united : (first : File) (others : List File) (x : File) (all : MarksView) → all.name ≡ (united first others).name → all.runs ≡ held ((united first others).runs + x.marks.runs) → all.modules ≡ unite (united first others).modules (modules_of x) → all ≡ united first (others ++ x ∷ [])
more_united first others x all name runs modules =
    let sum = sum_by-append runs_of (first ∷ others) (x ∷ []) in
    let more : held ((united first others).runs + x.marks.runs) ≡ held (sum_by runs_of (first ∷ (others ++ x ∷ []))) = omega (arith, sum) in
    let sets : unite (united first others).modules (modules_of x) ≡ fold unite (modules_of first) (map modules_of (others ++ x ∷ [])) =
    sym (ap (λ ms. fold unite (modules_of first) ms) (map-append modules_of others (x ∷ [])) ∙ fold-append unite (modules_of first) (map modules_of others) (modules_of x ∷ [])) in
    same_marks all.name all.runs all.modules (united first (others ++ x ∷ [])) name (runs ∙ more) (modules ∙ sets)

pub files_step : (bytes : List ℕ) (at end : ℕ) (all next new : MarksView) → FilesSoFar bytes at all → keeps_rules next ≡ true → HasFile at (drop at bytes) next end → rows all.modules ≡ rows next.modules
    → new.name ≡ all.name → new.runs ≡ held (all.runs + next.runs) → new.modules ≡ unite all.modules next.modules → FilesSoFar bytes end new
unfolding file_of
files_step bytes at end all next new s h f same name runs modules =
    let x = file_of at (drop at bytes) next end f in
    let text = file_text x in
    let e : end ≡ at + length text = f.ends in
    let more = more_spelled s.first s.others x in
    let inside = s.inside in
    let room = fits text (drop at bytes) f.starts in
    let past : drop (length text) (drop at bytes) ≡ drop end bytes = drop-drop (length text) at bytes ∙ ap (λ k. drop k bytes) (sym e) in
    record {
      inside = omega (arith, e, room, length-drop at bytes);
      first = s.first;
      others = s.others ++ x ∷ [];
      table = record {
        first_is = s.table.first_is;
        are = All-push IsFile s.others x s.table.are (file_of_is at (drop at bytes) next end f h);
        same = All-push (λ (y : File). rows (modules_of s.first) ≡ rows (modules_of y)) s.others x s.table.same (sym s.rows_are ∙ same);
      };
      spelled = s.spelled
          ∙ (ap (λ t. spelling (s.first ∷ s.others) ++ t) (starts text (drop at bytes) f.starts ∙ ap (λ t. text ++ t) past)
          ∙ (sym (append_assoc (spelling (s.first ∷ s.others)) text (drop end bytes)) ∙ ap (λ t. t ++ drop end bytes) (sym more)));
      end = omega (arith, e, s.end, ap length more, length-append (spelling (s.first ∷ s.others)) text);
      is = more_united s.first s.others x new
          (name ∙ ap (λ (m : MarksView). m.name) s.is)
          (runs ∙ ap (λ (m : MarksView). held (m.runs + next.runs)) s.is)
          (modules ∙ ap (λ (m : MarksView). unite m.modules next.modules) s.is);
      rows_are = ap rows modules ∙ (rows_kept all.modules next.modules ∙ s.rows_are);
    }

pub other_fault : (bytes : List ℕ) (at end : ℕ) (all next : MarksView) (d : Difference) → FilesSoFar bytes at all → keeps_rules next ≡ true → HasFile at (drop at bytes) next end → first_difference 0 (rows all.modules) (rows next.modules) ≡ Some d → IsOtherTable bytes d
unfolding file_of
other_fault bytes at end all next d s h f found =
    let x = file_of at (drop at bytes) next end f in
    record {
      first = s.first;
      others = s.others;
      next = x;
      rest = drop (length (file_text x)) (drop at bytes);
      table = s.table;
      next_is = file_of_is at (drop at bytes) next end f h;
      spelled = s.spelled ∙ ap (λ t. spelling (s.first ∷ s.others) ++ t) (starts (file_text x) (drop at bytes) f.starts);
      differs = ap (λ r. first_difference 0 r (rows next.modules)) (sym s.rows_are) ∙ found;
    }

-- runs that are added keep the rule
pub held_runs : (a b : ℕ) → is_runs a ≡ true → is_runs b ≡ true → is_runs (held (a + b)) ≡ true
unfolding is_runs
held_runs a b h g =
    let some = leb-true 1 a (and_parts (nat_le 1 a) _ h).0 in
    and_from (nat_le 1 (held (a + b))) _ (le-leb 1 (held (a + b)) (omega (arith, some))) (le-leb (held (a + b)) most_runs (omega arith))
