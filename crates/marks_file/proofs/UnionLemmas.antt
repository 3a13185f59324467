-- The union of files of one table keeps the rules of marks files, and their rows.
use Rattle.std.proofs.Common.{◌≡◌, ℕ, ◌+◌, ◌≤◌, ◌%◌, suc, Bool, true, false, ◌&&◌, ◌||◌, not, nat_eq, nat_lt, nat_le, List, [], ◌∷◌, ◌++◌, length, take, drop, map, slice_index, slice_index_or, All, refl, ap, sym, ◌∙◌, arith, min, length-drop, leb-true}
use Rattle.std.specs.Str.{bytes_eq}
use Rattle.std.specs.List.{list_any, list_all}
use Rattle.std.proofs.lemmas.Bool.{false≢true, and_from, and_parts}
use Rattle.std.proofs.lemmas.List.{take-append-drop}
use Rattle.cov_base.specs.Meaning.{union, is_within, FactSet, facts_of_number, number_of_facts, is_filled}
use Rattle.cov_base.specs.declared.facts.Kind.{Kind}
use Rattle.cov_base.specs.declared.facts.Kind.TheVariants.{Straight, Conditional}
use Rattle.marks_file.specs.Meaning.{MarkedView, kind_number, is_location, is_length, is_original, is_set, are_places, end_location, is_new_name, is_base, is_clear, is_size, is_count, place_total, are_modules, is_module_count, are_marks, place_row, module_row, module_rows, rows, unite_place, unite_places, unite_module, unite}
use Rattle.marks_file.specs.declared.marks.MarkedPlace.{MarkedPlace}
use Rattle.marks_file.proofs.Parts.{is_place, is_module}
use Rattle.marks_file.proofs.MarksLemmas.{place_total-append, same_cons, same_append}
use Rattle.marks_file.proofs.SpellLemmas.{set_read}
use Rattle.marks_file.specs.Combine.{SamePlaces, SameTables}
use Rattle.marks_file.specs.Marks.{HasRow}
use Rattle.marks_file.proofs.DifferenceLemmas.{row_count}

places_rows : (ps qs : List MarkedPlace) → SamePlaces ps qs → map place_row ps ≡ map place_row qs
places_rows [] [] h = refl
places_rows [] (q ∷ qs) h = absurd h
places_rows (p ∷ ps) [] h = absurd h
places_rows (p ∷ ps) (q ∷ qs) h = same_cons (place_row p) (place_row q) (map place_row ps) (map place_row qs) h.0 (places_rows ps qs h.1)

pub tables_rows : (ms ns : List MarkedView) → SameTables ms ns → rows ms ≡ rows ns
tables_rows [] [] h = refl
tables_rows [] (n ∷ ns) h = absurd h
tables_rows (m ∷ ms) [] h = absurd h
tables_rows (m ∷ ms) (n ∷ ns) h = same_append (module_rows m) (module_rows n) (rows ms) (rows ns) (same_cons (module_row m) (module_row n) (map place_row m.places) (map place_row n.places) h.0.0 (places_rows m.places n.places h.0.1)) (tables_rows ms ns h.1)

-- tables of the same rows are the same

split_rows : (ps qs : List MarkedPlace) (xs ys : List (List ℕ)) → length ps ≡ length qs → map place_row ps ++ xs ≡ map place_row qs ++ ys → SamePlaces ps qs × (xs ≡ ys)
split_rows [] [] xs ys l e = (tt, e)
split_rows [] (q ∷ qs) xs ys l e = absurd (omega arith)
split_rows (p ∷ ps) [] xs ys l e = absurd (omega arith)
split_rows (p ∷ ps) (q ∷ qs) xs ys l e =
    let head : place_row p ≡ place_row q = ap (λ rs. slice_index_or rs 0 []) e in
    let more = split_rows ps qs xs ys (omega arith) (ap (drop 1) e) in
    ((head, more.0), more.1)

pub same_tables : (ms ns : List MarkedView) → All HasRow ms → All HasRow ns → rows ms ≡ rows ns → SameTables ms ns
same_tables [] [] h g e = tt
same_tables [] (n ∷ ns) h g e = absurd (let l = ap length e in omega (arith, l))
same_tables (m ∷ ms) [] h g e = absurd (let l = ap length e in omega (arith, l))
same_tables (m ∷ ms) (n ∷ ns) h g e =
    let head : module_row m ≡ module_row n = ap (λ rs. slice_index_or rs 0 []) e in
    let count : length m.places ≡ length n.places = row_count m n (h 0 m (omega arith)) (g 0 n (omega arith)) head in
    let more = split_rows m.places n.places (rows ms) (rows ns) count (ap (drop 1) e) in
    ((head, more.0), same_tables ms ns (λ k d l. h (suc k) d (omega arith)) (λ k d l. g (suc k) d (omega arith)) more.1)

-- places of the same row have the same kind
one_kind : (k l : Kind) → kind_number k ≡ kind_number l → k ≡ l
one_kind Straight Straight e = refl
one_kind Straight Conditional e = absurd (omega arith)
one_kind Conditional Straight e = absurd (omega arith)
one_kind Conditional Conditional e = refl

row_kind : (p q : MarkedPlace) → place_row p ≡ place_row q → p.kind ≡ q.kind
row_kind p q e = one_kind p.kind q.kind (ap (λ xs. slice_index xs 5) e)

-- sets within a kind, together
no_more : (a b c d : Bool) → (not a && not b) ≡ true → (not c && not d) ≡ true → (not (a || c) && not (b || d)) ≡ true
no_more false false c d h k = k
no_more true b c d h k = absurd (false≢true h)
no_more false true c d h k = absurd (false≢true h)

not_either : (a c : Bool) → not a ≡ true → not c ≡ true → not (a || c) ≡ true
not_either false c h k = k
not_either true c h k = absurd (false≢true h)

within_both : (k : Kind) (s t : FactSet) → is_within k s ≡ true → is_within k t ≡ true → is_within k (union s t) ≡ true
within_both Straight s t h g = no_more s.went s.stayed t.went t.stayed h g
within_both Conditional s t h g = not_either s.ran t.ran h g

pub small_number : (a b c : Bool) → nat_lt (number_of_facts (record { ran = a; went = b; stayed = c })) 8 ≡ true
small_number false false false = refl
small_number true false false = refl
small_number false true false = refl
small_number true true false = refl
small_number false false true = refl
small_number true false true = refl
small_number false true true = refl
small_number true true true = refl

set_both : (k : Kind) (s t : FactSet) → is_set k (number_of_facts s) ≡ true → is_set k (number_of_facts t) ≡ true → is_set k (number_of_facts (union s t)) ≡ true
unfolding is_set
set_both k s t h g =
    let hs : is_within k s ≡ true = ap (is_within k) (sym (set_read s)) ∙ (and_parts (nat_lt (number_of_facts s) 8) (is_within k (facts_of_number (number_of_facts s))) h).1 in
    let ht : is_within k t ≡ true = ap (is_within k) (sym (set_read t)) ∙ (and_parts (nat_lt (number_of_facts t) 8) (is_within k (facts_of_number (number_of_facts t))) g).1 in
    let u = union s t in
    and_from (nat_lt (number_of_facts u) 8) (is_within k (facts_of_number (number_of_facts u))) (small_number u.ran u.went u.stayed) (ap (is_within k) (set_read u) ∙ within_both k s t hs ht)

place_both : (size end size2 end2 : ℕ) (p q : MarkedPlace) → is_place size end p ≡ true → is_place size2 end2 q ≡ true → place_row p ≡ place_row q → is_place size end (unite_place p q) ≡ true
place_both size end size2 end2 p q h g e =
    let h2 = (and_parts (is_location size end p.location) _ h).1 in
    let h3 = (and_parts (is_length size p.location p.len) _ h2).1 in
    let g3 = (and_parts (is_length size2 q.location q.len) _ (and_parts (is_location size2 end2 q.location) _ g).1).1 in
    let ps = (and_parts (is_original p.len p.kind p.original) _ h3).1 in
    let qs = (and_parts (is_original q.len q.kind q.original) _ g3).1 in
    and_from _ _ (and_parts (is_location size end p.location) _ h).0 (and_from _ _ (and_parts (is_length size p.location p.len) _ h2).0 (and_from _ _ (and_parts (is_original p.len p.kind p.original) _ h3).0 (set_both p.kind p.set q.set ps (ap (λ k. is_set k (number_of_facts q.set)) (row_kind p q e) ∙ qs))))

places_both : (size end size2 end2 : ℕ) (ps qs : List MarkedPlace) → are_places size end ps ≡ true → are_places size2 end2 qs ≡ true → SamePlaces ps qs → are_places size end (unite_places ps qs) ≡ true
places_both size end size2 end2 [] [] h g s = refl
places_both size end size2 end2 [] (q ∷ qs) h g s = absurd s
places_both size end size2 end2 (p ∷ ps) [] h g s = absurd s
places_both size end size2 end2 (p ∷ ps) (q ∷ qs) h g s =
    and_from (is_place size end (unite_place p q)) (are_places size (end_location p) (unite_places ps qs))
    (place_both size end size2 end2 p q (and_parts (is_place size end p) _ h).0 (and_parts (is_place size2 end2 q) _ g).0 s.0)
    (places_both size (end_location p) size2 (end_location q) ps qs (and_parts (is_place size end p) _ h).1 (and_parts (is_place size2 end2 q) _ g).1 s.1)

pub length-unite_places : (ps qs : List MarkedPlace) → length (unite_places ps qs) ≡ length ps
length-unite_places [] qs = refl
length-unite_places (p ∷ ps) [] = refl
length-unite_places (p ∷ ps) (q ∷ qs) = ap suc (length-unite_places ps qs)

pub length-unite : (ms ns : List MarkedView) → length (unite ms ns) ≡ length ms
length-unite [] ns = refl
length-unite (m ∷ ms) [] = refl
length-unite (m ∷ ms) (n ∷ ns) = ap suc (length-unite ms ns)

-- what a later module's rules see of an earlier one
pub record SameHead (m n : MarkedView) : Type 0 where
  pub name : m.name ≡ n.name
  pub base : m.base ≡ n.base
  pub size : m.size ≡ n.size
  pub count : length m.places ≡ length n.places

abbrev pub SameHeads : List MarkedView → List MarkedView → Type 0
SameHeads [] [] = Unit {0}
SameHeads (m ∷ ms) (n ∷ ns) = SameHead m n × SameHeads ms ns
SameHeads ms ns = ⊥

heads_more : (ms ns : List MarkedView) (m n : MarkedView) → SameHeads ms ns → SameHead m n → SameHeads (ms ++ m ∷ []) (ns ++ n ∷ [])
heads_more [] [] m n s h = (h, tt)
heads_more [] (y ∷ ys) m n s h = absurd s
heads_more (x ∷ xs) [] m n s h = absurd s
heads_more (x ∷ xs) (y ∷ ys) m n s h = (s.0, heads_more xs ys m n s.1 h)

named_same : (ms ns : List MarkedView) (field : List ℕ) → SameHeads ms ns → list_any (λ (m : MarkedView). bytes_eq m.name field) ms ≡ list_any (λ (m : MarkedView). bytes_eq m.name field) ns
named_same [] [] field s = refl
named_same [] (y ∷ ys) field s = absurd s
named_same (x ∷ xs) [] field s = absurd s
named_same (x ∷ xs) (y ∷ ys) field s =
    ap (λ w. bytes_eq w field || list_any (λ (m : MarkedView). bytes_eq m.name field) xs) s.0.name
    ∙ ap (λ t. bytes_eq y.name field || t) (named_same xs ys field s.1)

clear_same : (ms ns : List MarkedView) (base size : ℕ) → SameHeads ms ns → list_all (is_clear base size) ms ≡ list_all (is_clear base size) ns
clear_same [] [] base size s = refl
clear_same [] (y ∷ ys) base size s = absurd s
clear_same (x ∷ xs) [] base size s = absurd s
clear_same (x ∷ xs) (y ∷ ys) base size s =
    ap (λ b. (nat_le (b + x.size) base || nat_le (base + size) b) && list_all (is_clear base size) xs) s.0.base
    ∙ (ap (λ z. (nat_le (y.base + z) base || nat_le (base + size) y.base) && list_all (is_clear base size) xs) s.0.size
    ∙ ap (λ t. is_clear base size y && t) (clear_same xs ys base size s.1))

count_same : (ms ns : List MarkedView) → SameHeads ms ns → place_total ms ≡ place_total ns
count_same [] [] s = refl
count_same [] (y ∷ ys) s = absurd s
count_same (x ∷ xs) [] s = absurd s
count_same (x ∷ xs) (y ∷ ys) s = let e = count_same xs ys s.1 in let h = s.0.count in omega (arith, e, h)

new_name_kept : (ms ns : List MarkedView) (field : List ℕ) → SameHeads ms ns → is_new_name ms field ≡ is_new_name ns field
unfolding is_new_name
new_name_kept ms ns field s = ap (λ t. is_filled field && not t) (named_same ms ns field s)

size_kept : (ms ns : List MarkedView) (base size : ℕ) → SameHeads ms ns → is_size ms base size ≡ is_size ns base size
unfolding is_size
size_kept ms ns base size s = ap (λ t. nat_eq (size % 2) 0 && (nat_le 2 size && (nat_le size 262144 && (nat_le (base + size) 16773120 && t)))) (clear_same ms ns base size s)

count_kept : (ms ns : List MarkedView) (n : ℕ) → SameHeads ms ns → is_count ms n ≡ is_count ns n
unfolding is_count
count_kept ms ns n s = ap (λ t. nat_le (t + n) 65536) (count_same ms ns s)

-- modules of one table, with other sets before them
modules_both : (earlier before other : List MarkedView) (ms ns : List MarkedView) → are_modules earlier ms ≡ true → are_modules other ns ≡ true → SameTables ms ns → SameHeads before earlier → are_modules before (unite ms ns) ≡ true
modules_both earlier before other [] [] h g s e = refl
modules_both earlier before other [] (n ∷ ns) h g s e = absurd s
modules_both earlier before other (m ∷ ms) [] h g s e = absurd s
modules_both earlier before other (m ∷ ms) (n ∷ ns) h g s e =
    let one = (and_parts (is_module earlier m) (are_modules (earlier ++ m ∷ []) ms) h).0 in
    let two = (and_parts (is_module other n) (are_modules (other ++ n ∷ []) ns) g).0 in
    let h2 = (and_parts (is_new_name earlier m.name) _ one).1 in
    let h3 = (and_parts (is_base m.base) _ h2).1 in
    let h4 = (and_parts (is_size earlier m.base m.size) _ h3).1 in
    let g4 = (and_parts (is_size other n.base n.size) _ (and_parts (is_base n.base) _ (and_parts (is_new_name other n.name) _ two).1).1).1 in
    let u = unite_module m n in
    let many : length u.places ≡ length m.places = length-unite_places m.places n.places in
    let is : is_module before u ≡ true =
    and_from _ _ (new_name_kept before earlier m.name e ∙ (and_parts (is_new_name earlier m.name) _ one).0)
    (and_from _ _ (and_parts (is_base m.base) _ h2).0
    (and_from _ _ (size_kept before earlier m.base m.size e ∙ (and_parts (is_size earlier m.base m.size) _ h3).0)
    (and_from _ _ (ap (is_count before) many ∙ (count_kept before earlier (length m.places) e ∙ (and_parts (is_count earlier (length m.places)) _ h4).0))
    (places_both m.size 0 n.size 0 m.places n.places (and_parts (is_count earlier (length m.places)) _ h4).1 (and_parts (is_count other (length n.places)) _ g4).1 s.0.1)))) in
    and_from (is_module before u) (are_modules (before ++ u ∷ []) (unite ms ns)) is
    (modules_both (earlier ++ m ∷ []) (before ++ u ∷ []) (other ++ n ∷ []) ms ns (and_parts (is_module earlier m) _ h).1 (and_parts (is_module other n) _ g).1 s.1 (heads_more before earlier u m e (record { name = refl; base = refl; size = refl; count = many })))

pub union_is_marks : (ms ns : List MarkedView) → are_marks ms ≡ true → are_marks ns ≡ true → SameTables ms ns → are_marks (unite ms ns) ≡ true
union_is_marks ms ns h g s =
    and_from (is_module_count (length (unite ms ns))) (are_modules [] (unite ms ns))
    (ap is_module_count (length-unite ms ns) ∙ (and_parts (is_module_count (length ms)) (are_modules [] ms) h).0)
    (modules_both [] [] [] ms ns (and_parts (is_module_count (length ms)) _ h).1 (and_parts (is_module_count (length ns)) _ g).1 s tt)

-- behind the end of one file nothing is united
none_united : (xs ys : List MarkedPlace) → min (length xs) (length ys) ≡ 0 → unite_places xs ys ≡ xs
none_united [] ys e = refl
none_united (p ∷ ps) [] e = refl
none_united (p ∷ ps) (q ∷ qs) e = absurd (omega arith)

pub places_united : (a b : List MarkedPlace) (i : ℕ) (all : List MarkedPlace) → min (length a) (length b) ≤ i → take i a ++ unite_places (drop i a) (drop i b) ≡ all → a ≡ all
places_united a b i all h e =
    let none : min (length (drop i a)) (length (drop i b)) ≡ 0 = omega (arith, length-drop i a, length-drop i b) in
    sym (take-append-drop i a) ∙ (ap (λ t. take i a ++ t) (sym (none_united (drop i a) (drop i b) none)) ∙ e)

no_module_united : (xs ys : List MarkedView) → min (length xs) (length ys) ≡ 0 → unite xs ys ≡ xs
no_module_united [] ys e = refl
no_module_united (m ∷ ms) [] e = refl
no_module_united (m ∷ ms) (n ∷ ns) e = absurd (omega arith)

pub modules_united : (a b : List MarkedView) (i : ℕ) (all : List MarkedView) → min (length a) (length b) ≤ i → take i a ++ unite (drop i a) (drop i b) ≡ all → a ≡ all
modules_united a b i all h e =
    let none : min (length (drop i a)) (length (drop i b)) ≡ 0 = omega (arith, length-drop i a, length-drop i b) in
    sym (take-append-drop i a) ∙ (ap (λ t. take i a ++ t) (sym (no_module_united (drop i a) (drop i b) none)) ∙ e)

-- the places of a file's modules
few_places : (earlier : List MarkedView) (n : ℕ) → is_count earlier n ≡ true → place_total earlier + n ≤ 65536
unfolding is_count
few_places earlier n h = leb-true (place_total earlier + n) 65536 h

modules_places : (earlier ms : List MarkedView) → place_total earlier ≤ 65536 → are_modules earlier ms ≡ true → place_total earlier + place_total ms ≤ 65536
modules_places earlier [] few h = omega arith
modules_places earlier (m ∷ ms) few h =
    let one = (and_parts (is_module earlier m) (are_modules (earlier ++ m ∷ []) ms) h).0 in
    let h4 = (and_parts (is_size earlier m.base m.size) _ (and_parts (is_base m.base) _ (and_parts (is_new_name earlier m.name) _ one).1).1).1 in
    let here = few_places earlier (length m.places) (and_parts (is_count earlier (length m.places)) _ h4).0 in
    let e = place_total-append earlier m in
    let more = modules_places (earlier ++ m ∷ []) ms (omega arith) (and_parts (is_module earlier m) _ h).1 in
    omega arith

pub marks_places : (ms : List MarkedView) → are_marks ms ≡ true → place_total ms ≤ 65536
marks_places ms h = let e = modules_places [] ms (omega arith) (and_parts (is_module_count (length ms)) _ h).1 in omega (arith, e)
