-- The sets of a union depend on which tables and sets there are alone, neither on their order nor on how often each
-- stands there.
use Rattle.std.proofs.Common.{◌≡◌, ℕ, ◌<◌, suc, zero, Bool, true, false, ◌||◌, List, [], ◌∷◌, length, map, fold, All, slice_index_or, refl, ap, sym, subst, ◌∙◌, arith}
use Rattle.std.specs.List.{Contains, sum_by}
use Rattle.std.proofs.lemmas.List.Elements.{All-contains, All-contains_itself, All-map}
use Rattle.cov_base.specs.Meaning.{union, FactSet}
use Rattle.marks_file.specs.Meaning.{MarkedView, MarksView, are_marks, rows, unite_place, unite_places, unite_module, unite, File, IsFile, modules_of, spelling, AreOfOneTable, held, united, IsCombined}
use Rattle.marks_file.specs.declared.marks.MarkedPlace.{MarkedPlace}
use Rattle.marks_file.proofs.MarksLemmas.{marks_have_rows, kept_modules}
use Rattle.marks_file.proofs.FileLemmas.{one_table}
use Rattle.marks_file.proofs.UnionLemmas.{union_is_marks, same_tables}
use Rattle.marks_file.proofs.LawLemmas.{files_turned, file_itself}
use Rattle.marks_file.proofs.FilesLemmas.{runs_of, rows_kept}
use Rattle.marks_file.specs.Files.{first_name, HaveSameSets, IsUnionAnyhow}
use Rattle.marks_file.proofs.AnswerLemmas.{one_file, same_rest, no_text}

-- the union of two files of one table is a file of it, and the order of the two doesn't matter
pub union_marks : (a b : List MarkedView) → are_marks a ≡ true → are_marks b ≡ true → rows a ≡ rows b → are_marks (unite a b) ≡ true
union_marks a b h g e = union_is_marks a b h g (same_tables a b (marks_have_rows a h) (marks_have_rows b g) e)

pub unite_turned : (a b : List MarkedView) → are_marks a ≡ true → are_marks b ≡ true → rows a ≡ rows b → unite a b ≡ unite b a
unite_turned a b h g e =
    let bytes = files_turned a b (same_tables a b (marks_have_rows a h) (marks_have_rows b g) e) in
    one_table (unite a b) (unite b a) (union_marks a b h g e) (union_marks b a g h (sym e)) bytes

last : (a b c : Bool) → ((a || b) || c) ≡ ((a || c) || b)
last true b c = refl
last false true true = refl
last false true false = refl
last false false true = refl
last false false false = refl

again : (a b : Bool) → ((a || b) || b) ≡ (a || b)
again true b = refl
again false true = refl
again false false = refl

-- the later of two files may come first
set_exchange : (s t u : FactSet) → union (union s t) u ≡ union (union s u) t
set_exchange s t u = rw (last s.ran t.ran u.ran, last s.went t.went u.went, last s.stayed t.stayed u.stayed) refl

places_exchange : (ps qs rs : List MarkedPlace) → unite_places (unite_places ps qs) rs ≡ unite_places (unite_places ps rs) qs
places_exchange [] qs rs = refl
places_exchange (p ∷ ps) [] [] = refl
places_exchange (p ∷ ps) [] (r ∷ rs) = refl
places_exchange (p ∷ ps) (q ∷ qs) [] = refl
places_exchange (p ∷ ps) (q ∷ qs) (r ∷ rs) =
    ap (λ s. record p { set = s } ∷ unite_places (unite_places ps qs) rs) (set_exchange p.set q.set r.set)
    ∙ ap (λ xs. record p { set = union (union p.set r.set) q.set } ∷ xs) (places_exchange ps qs rs)

exchange : (x y z : List MarkedView) → unite (unite x y) z ≡ unite (unite x z) y
exchange [] y z = refl
exchange (m ∷ ms) [] [] = refl
exchange (m ∷ ms) [] (o ∷ os) = refl
exchange (m ∷ ms) (n ∷ ns) [] = refl
exchange (m ∷ ms) (n ∷ ns) (o ∷ os) =
    ap (λ ps. record m { places = ps } ∷ unite (unite ms ns) os) (places_exchange m.places n.places o.places)
    ∙ ap (λ xs. record m { places = unite_places (unite_places m.places o.places) n.places } ∷ xs) (exchange ms ns os)

-- a file once more changes nothing
set_again : (s t : FactSet) → union (union s t) t ≡ union s t
set_again s t = rw (again s.ran t.ran, again s.went t.went, again s.stayed t.stayed) refl

places_again : (ps qs : List MarkedPlace) → unite_places (unite_places ps qs) qs ≡ unite_places ps qs
places_again [] qs = refl
places_again (p ∷ ps) [] = refl
places_again (p ∷ ps) (q ∷ qs) =
    ap (λ s. record p { set = s } ∷ unite_places (unite_places ps qs) qs) (set_again p.set q.set)
    ∙ ap (λ xs. unite_place p q ∷ xs) (places_again ps qs)

pub file_again : (x y : List MarkedView) → unite (unite x y) y ≡ unite x y
file_again [] y = refl
file_again (m ∷ ms) [] = refl
file_again (m ∷ ms) (n ∷ ns) =
    ap (λ ps. record m { places = ps } ∷ unite (unite ms ns) ns) (places_again m.places n.places)
    ∙ ap (λ xs. unite_module m n ∷ xs) (file_again ms ns)

-- a file behind others may as well stand before them
moved : (x z : List MarkedView) (ys : List (List MarkedView)) → unite (fold unite x ys) z ≡ fold unite (unite x z) ys
moved x z [] = refl
moved x z (y ∷ ys) = moved (unite x y) z ys ∙ ap (λ w. fold unite w ys) (exchange x y z)

-- a file that is united already
first_in : (x : List MarkedView) (ys : List (List MarkedView)) → unite (fold unite x ys) x ≡ fold unite x ys
first_in x ys = moved x x ys ∙ ap (λ w. fold unite w ys) (file_itself x)

other_in : (x : List MarkedView) (ys : List (List MarkedView)) (k : ℕ) (f : List MarkedView) → k < length ys → slice_index_or ys k f ≡ f → unite (fold unite x ys) f ≡ fold unite x ys
other_in x [] k f l e = absurd (omega (arith, l))
other_in x (y ∷ ys) zero f l e = ap (λ w. unite (fold unite (unite x y) ys) w) (sym e) ∙ (moved (unite x y) y ys ∙ ap (λ w. fold unite w ys) (file_again x y))
other_in x (y ∷ ys) (suc k) f l e = other_in (unite x y) ys k f (omega (arith, l)) e

already_in : (x : List MarkedView) (ys : List (List MarkedView)) (f : List MarkedView) → Contains (x ∷ ys) f → unite (fold unite x ys) f ≡ fold unite x ys
already_in x ys f c = at c.0 c.1 c.2
  where
    at : (k : ℕ) → k < length (x ∷ ys) → slice_index_or (x ∷ ys) k f ≡ f → unite (fold unite x ys) f ≡ fold unite x ys
    at zero l e = ap (λ w. unite (fold unite x ys) w) (sym e) ∙ first_in x ys
    at (suc k) l e = other_in x ys k f (omega (arith, l)) e

all_in : (u : List MarkedView) (zs : List (List MarkedView)) → All (λ f. unite u f ≡ u) zs → fold unite u zs ≡ u
all_in u [] h = refl
all_in u (z ∷ zs) h = ap (λ w. fold unite w zs) (h 0 z (omega arith)) ∙ all_in u zs (λ k d l. h (suc k) d (omega (arith, l)))

half : (u y : List MarkedView) (ys : List (List MarkedView)) → All (λ f. unite u f ≡ u) (y ∷ ys) → unite u y ≡ unite y u → u ≡ unite (fold unite y ys) u
half u y ys h e = sym (all_in u (y ∷ ys) h) ∙ (ap (λ w. fold unite w ys) e ∙ sym (moved y u ys))

-- the union is a file of the table
record IsOfTable (x m : List MarkedView) : Type 0 where
  pub is : are_marks m ≡ true
  pub same : rows x ≡ rows m

union_of : (x : List MarkedView) (xs : List (List MarkedView)) → are_marks x ≡ true → All (IsOfTable x) xs → IsOfTable x (fold unite x xs)
union_of x [] h a = record { is = h; same = refl }
union_of x (y ∷ ys) h a =
    let of_y = a 0 y (omega arith) in
    let kept = sym (rows_kept x y) in
    let more = union_of (unite x y) ys (union_marks x y h of_y.is of_y.same) (λ k d l. let t = a (suc k) d (omega (arith, l)) in record { is = t.is; same = sym kept ∙ t.same }) in
    record { is = more.is; same = kept ∙ more.same }

-- the same ones, in whichever order and however often each
record AreSame (xs ys : List (List MarkedView)) : Type 0 where
  pub there : (m : List MarkedView) → Contains xs m → Contains ys m
  pub back : (m : List MarkedView) → Contains ys m → Contains xs m

same_union : (x y : List MarkedView) (xs ys : List (List MarkedView)) → are_marks x ≡ true → are_marks y ≡ true → rows x ≡ rows y → All (IsOfTable x) xs → All (IsOfTable y) ys → AreSame (x ∷ xs) (y ∷ ys) → fold unite x xs ≡ fold unite y ys
same_union x y xs ys hx hy e a b s =
    let u = union_of x xs hx a in
    let v = union_of y ys hy b in
    let left = half (fold unite x xs) y ys (λ k d l. already_in x xs _ (s.back _ (All-contains_itself (y ∷ ys) k d l))) (unite_turned (fold unite x xs) y u.is hy (sym u.same ∙ e)) in
    let right = half (fold unite y ys) x xs (λ k d l. already_in y ys _ (s.there _ (All-contains_itself (x ∷ xs) k d l))) (unite_turned (fold unite y ys) x v.is hx (sym v.same ∙ sym e)) in
    left ∙ (unite_turned (fold unite y ys) (fold unite x xs) v.is u.is (sym v.same ∙ (sym e ∙ u.same)) ∙ sym right)

-- bytes are the files of one list alone
one_list : (xs ys : List File) → All IsFile xs → All IsFile ys → spelling xs ≡ spelling ys → xs ≡ ys
one_list [] [] h g e = refl
one_list [] (y ∷ ys) h g e = absurd (no_text y (spelling ys) (ap length e))
one_list (x ∷ xs) [] h g e = absurd (no_text x (spelling xs) (ap length (sym e)))
one_list (x ∷ xs) (y ∷ ys) h g e =
    let is = one_file x y (spelling xs) (spelling ys) (h 0 x (omega arith)) (g 0 y (omega arith)) e in
    let rest = one_list xs ys (λ k d l. h (suc k) d (omega (arith, l))) (λ k d l. g (suc k) d (omega (arith, l))) (same_rest x y (spelling xs) (spelling ys) is e) in
    rw (is, rest) refl

-- of files, by their tables and sets
all_of_table : (x : File) (xs : List File) → AreOfOneTable x xs → All (IsOfTable (modules_of x)) (map modules_of (x ∷ xs))
all_of_table x xs t = All-map (IsOfTable (modules_of x)) modules_of (x ∷ xs) (λ k d l. at k d l)
  where
    at : (k : ℕ) (d : File) → k < length (x ∷ xs) → IsOfTable (modules_of x) (modules_of (slice_index_or (x ∷ xs) k d))
    at zero d l = record { is = kept_modules x.marks t.first_is.rules; same = refl }
    at (suc k) d l = record { is = kept_modules (slice_index_or xs k d).marks (t.are k d (omega (arith, l))).rules; same = t.same k d (omega (arith, l)) }

of_all : (P : List MarkedView → Type 0) (ys : List File) → All P (map modules_of ys) → All (λ f. P (modules_of f)) ys
of_all P [] h k d l = absurd (omega (arith, l))
of_all P (y ∷ ys) h zero d l = h 0 (modules_of y) (omega arith)
of_all P (y ∷ ys) h (suc k) d l = of_all P ys (λ i e m. h (suc i) e (omega (arith, m))) k d (omega (arith, l))

any_union : (x : File) (xs others : List File) → AreOfOneTable x xs → All IsFile others → HaveSameSets (x ∷ xs) others
    → IsCombined (spelling others) (record { name = first_name others; runs = held (sum_by runs_of others); modules = (united x xs).modules })
any_union x xs [] t files s = absurd (let c = s.there (modules_of x) (0, omega arith, refl) in let l = c.1 in omega (arith, l))
any_union x xs (y ∷ ys) t files s =
    let of = IsOfTable (modules_of x) in
    let all : All of (map modules_of (x ∷ xs)) = all_of_table x xs t in
    let theirs : All of (map modules_of (y ∷ ys)) = λ k d l. All-contains of (map modules_of (x ∷ xs)) _ all (s.back _ (All-contains_itself (map modules_of (y ∷ ys)) k d l)) in
    let first = theirs 0 (modules_of y) (omega arith) in
    let rest : All (IsOfTable (modules_of y)) (map modules_of ys) = λ k d l. let t = theirs (suc k) d (omega (arith, l)) in record { is = t.is; same = sym first.same ∙ t.same } in
    let one = same_union (modules_of x) (modules_of y) (map modules_of xs) (map modules_of ys) (kept_modules x.marks t.first_is.rules) first.is first.same (λ k d l. all (suc k) d (omega (arith, l))) rest (record { there = s.there; back = s.back }) in
    record {
      first = y;
      others = ys;
      table = record { first_is = files 0 y (omega arith); are = λ k d l. files (suc k) d (omega (arith, l)); same = λ k d l. (of_all (IsOfTable (modules_of y)) ys rest k d l).same };
      spelled = refl;
      is = ap (λ ms. record { name = first_name (y ∷ ys); runs = held (sum_by runs_of (y ∷ ys)); modules = ms }) one;
    }

pub union_anyhow : (bytes : List ℕ) (m : MarksView) → IsCombined bytes m → IsUnionAnyhow bytes m
union_anyhow bytes m c files others f theirs s =
    let marks : All IsFile (c.first ∷ c.others) = λ k d l. at k d l in
    let is : c.first ∷ c.others ≡ files = one_list (c.first ∷ c.others) files marks f.are (sym c.spelled ∙ f.spelled) in
    let same : HaveSameSets (c.first ∷ c.others) others = subst (λ z. HaveSameSets z others) (sym is) s in
    subst (λ ms. IsCombined (spelling others) (record { name = first_name others; runs = held (sum_by runs_of others); modules = ms })) (sym (ap (λ (x : MarksView). x.modules) c.is)) (any_union c.first c.others others c.table theirs same)
  where
    at : (k : ℕ) (d : File) → k < length (c.first ∷ c.others) → IsFile (slice_index_or (c.first ∷ c.others) k d)
    at zero d l = c.table.first_is
    at (suc k) d l = c.table.are k d (omega (arith, l))
