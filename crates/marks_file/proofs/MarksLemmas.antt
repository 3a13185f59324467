-- What the rules say of a file's modules.
use Rattle.std.proofs.Common.{◌≡◌, ℕ, ◌+◌, ◌≤◌, zero, suc, true, nat_le, List, [], ◌∷◌, ◌++◌, length, All, arith, leb-true}
use Rattle.std.proofs.lemmas.Bool.{and_parts}
use Rattle.std.proofs.lemmas.Slice.Eq.{bytes_eq-Decides}
use Rattle.cov_base.specs.Meaning.{is_name, padded, unpadded, is_filled}
use Rattle.marks_file.specs.Meaning.{MarkedView, MarksView, is_new_name, is_base, is_size, is_count, are_modules, is_module_count, are_marks, is_runs, keeps_rules, place_total}
use Rattle.marks_file.specs.Marks.{HasRow}
use Rattle.marks_file.proofs.Parts.{is_module, is_session_name}

pub filled_name : (field : List ℕ) → is_filled field ≡ true → padded (unpadded field) ≡ field
filled_name field h = (bytes_eq-Decides _ _).0 (and_parts (is_name (unpadded field)) _ h).1

pub same_cons : {X : Type 0} (x y : X) (xs ys : List X) → x ≡ y → xs ≡ ys → x ∷ xs ≡ y ∷ ys
same_cons x y xs ys e f = λ i. e i ∷ f i

pub same_append : {X : Type 0} (xs ys us vs : List X) → xs ≡ ys → us ≡ vs → xs ++ us ≡ ys ++ vs
same_append xs ys us vs e f = λ i. e i ++ f i

pub place_total-append : (ms : List MarkedView) (m : MarkedView) → place_total (ms ++ m ∷ []) ≡ place_total ms + length m.places
place_total-append [] m = omega arith
place_total-append (x ∷ ms) m = let e = place_total-append ms m in omega (arith, e)

pub module_has_row : (earlier : List MarkedView) (m : MarkedView) → is_module earlier m ≡ true → HasRow m
unfolding is_new_name is_count
module_has_row earlier m h =
    let name = (and_parts _ _ (and_parts (is_new_name earlier m.name) _ h).0).0 in
    let rest = (and_parts (is_size earlier m.base m.size) _ (and_parts (is_base m.base) _ (and_parts (is_new_name earlier m.name) _ h).1).1).1 in
    let count = leb-true (place_total earlier + length m.places) 65536 (and_parts (is_count earlier (length m.places)) _ rest).0 in
    record { name = filled_name m.name name; count = omega arith }

modules_have_rows : (earlier ms : List MarkedView) → are_modules earlier ms ≡ true → All HasRow ms
modules_have_rows earlier [] h k d l = absurd (omega arith)
modules_have_rows earlier (m ∷ ms) h zero d l = module_has_row earlier m (and_parts (is_module earlier m) _ h).0
modules_have_rows earlier (m ∷ ms) h (suc k) d l = modules_have_rows (earlier ++ m ∷ []) ms (and_parts (is_module earlier m) _ h).1 k d (omega arith)

pub marks_have_rows : (ms : List MarkedView) → are_marks ms ≡ true → All HasRow ms
marks_have_rows ms h = modules_have_rows [] ms (and_parts (is_module_count (length ms)) _ h).1

pub marks_count : (ms : List MarkedView) → are_marks ms ≡ true → length ms ≤ 16
unfolding is_module_count
marks_count ms h = leb-true _ _ (and_parts (nat_le 1 (length ms)) _ (and_parts (is_module_count (length ms)) _ h).0).1

pub kept_modules : (m : MarksView) → keeps_rules m ≡ true → are_marks m.modules ≡ true
kept_modules m h = (and_parts (is_runs m.runs) _ (and_parts (is_session_name m.name) _ h).1).1
