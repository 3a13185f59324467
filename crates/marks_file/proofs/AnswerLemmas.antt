-- No bytes have two answers.
use Rattle.std.proofs.Common.{◌≡◌, inl, inr, ℕ, ◌+◌, Some, None, List, [], ◌∷◌, ◌++◌, length, drop, All, refl, ap, sym, ◌∙◌, subst, arith, append_assoc, append-nil, length-append}
use Rattle.std.proofs.Math.Seq.{drop-append_seam}
use Rattle.std.proofs.lemmas.List.Elements.{All-tail, All-head}
use Rattle.marks_file.specs.Meaning.{MarkedView, MarksView, rows, first_bad, file_fields, version_of, Difference, first_difference, File, IsFile, file_text, modules_of, united, AreOfOneTable, IsCombined, IsBad, IsOtherTable, spelling}
use Rattle.marks_file.specs.Reading.{marks_at}
use Rattle.marks_file.specs.declared.version.Version.{Version}
use Rattle.marks_file.proofs.FileLemmas.{file_read, file_long}
use Rattle.marks_file.proofs.HeadingLemmas.{told_all}
use Rattle.marks_file.specs.Files.{HasOneAnswer}
use Rattle.marks_file.proofs.DifferenceLemmas.{none_differs}

pub none_other : (a b : List MarkedView) (d : Difference) → b ≡ a → first_difference 0 (rows a) (rows b) ≡ Some d → ⊥
none_other a b d e found =
    let clash : None ≡ Some d = sym (none_differs 0 (rows a)) ∙ (ap (λ z. first_difference 0 (rows a) (rows z)) (sym e) ∙ found) in
    absurd cc

-- a file that begins the bytes is the only one
same_file : (x y : File) → x.version ≡ y.version → x.marks ≡ y.marks → x ≡ y
same_file x y v m = same x.version x.marks v m
  where
    same : (v : Version) (m : MarksView) → v ≡ y.version → m ≡ y.marks → ◌≡◌ {A = File} (record { version = v; marks = m }) y
    same v m e f = rw (e, f) refl

pub one_file : (x y : File) (t u : List ℕ) → IsFile x → IsFile y → file_text x ++ t ≡ file_text y ++ u → x ≡ y
one_file x y t u hx hy e =
    let own = file_read x.version 0 x.marks t hx.rules in
    let other = file_read y.version 0 y.marks u hy.rules in
    same_file x y
    (sym own.version ∙ (ap version_of e ∙ other.version))
    (sym (told_all x.version x.marks hx.tells) ∙ (sym own.value ∙ (ap marks_at e ∙ (other.value ∙ told_all y.version y.marks hy.tells))))

pub same_rest : (x y : File) (t u : List ℕ) → x ≡ y → file_text x ++ t ≡ file_text y ++ u → t ≡ u
same_rest x y t u e h =
    let own : file_text x ++ t ≡ file_text x ++ u = h ∙ ap (λ z. file_text z ++ u) (sym e) in
    sym (drop-append_seam (file_text x) t) ∙ (ap (λ z. drop (length (file_text x)) z) own ∙ drop-append_seam (file_text x) u)

pub no_text : (x : File) (t : List ℕ) → 0 ≡ length (file_text x ++ t) → ⊥
no_text x t e = omega (arith, e, length-append (file_text x) t, file_long x.version x.marks)

-- no file of the table begins these bytes
Stops : File → List ℕ → Type 0
Stops first rest = (x : File) (t : List ℕ) → IsFile x → rows (modules_of first) ≡ rows (modules_of x) → rest ≡ file_text x ++ t → ⊥

end_stops : (first : File) → Stops first []
unfolding Stops
end_stops first x t h s e = no_text x t (ap length e)

bad_stops : (first : File) (at o : ℕ) (rest : List ℕ) → first_bad (file_fields at rest) ≡ Some o → Stops first rest
unfolding Stops
bad_stops first at o rest bad x t h s e =
    let none : first_bad (file_fields at rest) ≡ None = ap (λ z. first_bad (file_fields at z)) e ∙ (file_read x.version at x.marks t h.rules).good in
    let clash : None ≡ Some o = sym none ∙ bad in
    absurd cc

other_stops : (first next : File) (rest : List ℕ) (d : Difference) → IsFile next → first_difference 0 (rows (modules_of first)) (rows (modules_of next)) ≡ Some d → Stops first (file_text next ++ rest)
unfolding Stops
other_stops first next rest d hn found x t h s e =
    let is : next ≡ x = one_file next x rest t hn h e in
    let same : rows (modules_of first) ≡ rows (modules_of next) = s ∙ ap (λ z. rows (modules_of z)) (sym is) in
    let clash : None ≡ Some d = sym (none_differs 0 (rows (modules_of next))) ∙ (ap (λ r. first_difference 0 r (rows (modules_of next))) (sym same) ∙ found) in
    absurd cc

record AreSame (o p : List File) (r s : List ℕ) : Type 0 where
  pub files : o ≡ p
  pub rest : r ≡ s

joined : (x y : File) (xs ys : List File) → x ≡ y → xs ≡ ys → x ∷ xs ≡ y ∷ ys
joined x y xs ys e f = rw (e, f) refl

parts_same : (first : File) (o p : List File) (r s : List ℕ) → All IsFile o → All (λ m. rows (modules_of first) ≡ rows (modules_of m)) o → All IsFile p → All (λ m. rows (modules_of first) ≡ rows (modules_of m)) p
    → Stops first r → Stops first s → spelling o ++ r ≡ spelling p ++ s → AreSame o p r s
unfolding Stops
parts_same first [] [] r s ao so ap_ sp hr hs e = record { files = refl; rest = e }
parts_same first [] (y ∷ ys) r s ao so ap_ sp hr hs e =
    absurd (hr y (spelling ys ++ s) (All-head IsFile y ys ap_) (All-head (λ m. rows (modules_of first) ≡ rows (modules_of m)) y ys sp) (e ∙ append_assoc (file_text y) (spelling ys) s))
parts_same first (x ∷ xs) [] r s ao so ap_ sp hr hs e =
    absurd (hs x (spelling xs ++ r) (All-head IsFile x xs ao) (All-head (λ m. rows (modules_of first) ≡ rows (modules_of m)) x xs so) (sym e ∙ append_assoc (file_text x) (spelling xs) r))
parts_same first (x ∷ xs) (y ∷ ys) r s ao so ap_ sp hr hs e =
    let apart : file_text x ++ (spelling xs ++ r) ≡ file_text y ++ (spelling ys ++ s) = sym (append_assoc (file_text x) (spelling xs) r) ∙ (e ∙ append_assoc (file_text y) (spelling ys) s) in
    let is : x ≡ y = one_file x y (spelling xs ++ r) (spelling ys ++ s) (All-head IsFile x xs ao) (All-head IsFile y ys ap_) apart in
    let more = parts_same first xs ys r s (All-tail IsFile x xs ao) (All-tail (λ m. rows (modules_of first) ≡ rows (modules_of m)) x xs so) (All-tail IsFile y ys ap_) (All-tail (λ m. rows (modules_of first) ≡ rows (modules_of m)) y ys sp) hr hs (same_rest x y (spelling xs ++ r) (spelling ys ++ s) is apart) in
    record { files = joined x y xs ys is more.files; rest = more.rest }

record AreWholeSame (f g : File) (o p : List File) (r s : List ℕ) : Type 0 where
  pub first : f ≡ g
  pub files : o ≡ p
  pub rest : r ≡ s

whole_same : (bytes : List ℕ) (f g : File) (o p : List File) (r s : List ℕ) → AreOfOneTable f o → AreOfOneTable g p → Stops f r → Stops g s → bytes ≡ spelling (f ∷ o) ++ r → bytes ≡ spelling (g ∷ p) ++ s → AreWholeSame f g o p r s
whole_same bytes f g o p r s tf tg hr hs e h =
    let apart : file_text f ++ (spelling o ++ r) ≡ file_text g ++ (spelling p ++ s) = sym (append_assoc (file_text f) (spelling o) r) ∙ (sym e ∙ (h ∙ append_assoc (file_text g) (spelling p) s)) in
    let is : f ≡ g = one_file f g (spelling o ++ r) (spelling p ++ s) tf.first_is tg.first_is apart in
    let same : All (λ m. rows (modules_of f) ≡ rows (modules_of m)) p = subst (λ z. All (λ m. rows (modules_of z) ≡ rows (modules_of m)) p) (sym is) tg.same in
    let stop : Stops f s = subst (λ z. Stops z s) (sym is) hs in
    let more = parts_same f o p r s tf.are tf.same tg.are same hr stop (same_rest f g (spelling o ++ r) (spelling p ++ s) is apart) in
    record { first = is; files = more.files; rest = more.rest }

-- how each answer ends
combined_end : (bytes : List ℕ) (m : MarksView) (c : IsCombined bytes m) → bytes ≡ spelling (c.first ∷ c.others) ++ []
combined_end bytes m c = c.spelled ∙ sym (append-nil (spelling (c.first ∷ c.others)))

-- where a file begins the bytes their first field isn't bad
not_first : (bytes : List ℕ) (f : File) (o : List File) (r : List ℕ) (k : ℕ) → IsFile f → bytes ≡ spelling (f ∷ o) ++ r → first_bad (file_fields 0 bytes) ≡ Some k → ⊥
not_first bytes f o r k h e bad =
    let begins : bytes ≡ file_text f ++ (spelling o ++ r) = e ∙ append_assoc (file_text f) (spelling o) r in
    let none : first_bad (file_fields 0 bytes) ≡ None = ap (λ z. first_bad (file_fields 0 z)) begins ∙ (file_read f.version 0 f.marks (spelling o ++ r) h.rules).good in
    let clash : None ≡ Some k = sym none ∙ bad in
    absurd cc

one_combined : (bytes : List ℕ) (m n : MarksView) → IsCombined bytes m → IsCombined bytes n → m ≡ n
one_combined bytes m n a b =
    let w = whole_same bytes a.first b.first a.others b.others [] [] a.table b.table (end_stops a.first) (end_stops b.first) (combined_end bytes m a) (combined_end bytes n b) in
    a.is ∙ (ap (λ x. united x a.others) w.first ∙ (ap (united b.first) w.files ∙ sym b.is))

some_equal : (o p : ℕ) (x : List ℕ) → first_bad (file_fields 0 x) ≡ Some o → first_bad (file_fields 0 x) ≡ Some p → o ≡ p
some_equal o p x h g = let e : Some o ≡ Some p = sym h ∙ g in cc

one_bad : (bytes : List ℕ) (o p : ℕ) → IsBad bytes o → IsBad bytes p → o ≡ p
one_bad bytes o p (inl a) (inl b) = some_equal o p bytes a b
one_bad bytes o p (inl a) (inr b) = absurd (not_first bytes b.first b.others b.rest o b.table.first_is b.spelled a)
one_bad bytes o p (inr a) (inl b) = absurd (not_first bytes a.first a.others a.rest p a.table.first_is a.spelled b)
one_bad bytes o p (inr a) (inr b) =
    let w = whole_same bytes a.first b.first a.others b.others a.rest b.rest a.table b.table (bad_stops a.first _ o a.rest a.bad) (bad_stops b.first _ p b.rest b.bad) a.spelled b.spelled in
    let moved : first_bad (file_fields (length (spelling (a.first ∷ a.others))) a.rest) ≡ first_bad (file_fields (length (spelling (b.first ∷ b.others))) b.rest) =
    ap (λ x. first_bad (file_fields (length (spelling (x ∷ a.others))) a.rest)) w.first
    ∙ (ap (λ x. first_bad (file_fields (length (spelling (b.first ∷ x))) a.rest)) w.files
    ∙ ap (λ x. first_bad (file_fields (length (spelling (b.first ∷ b.others))) x)) w.rest) in
    let e : Some o ≡ Some p = sym a.bad ∙ (moved ∙ b.bad) in
    cc

one_other : (bytes : List ℕ) (d e : Difference) → IsOtherTable bytes d → IsOtherTable bytes e → d ≡ e
one_other bytes d e a b =
    let w = whole_same bytes a.first b.first a.others b.others (file_text a.next ++ a.rest) (file_text b.next ++ b.rest) a.table b.table (other_stops a.first a.next a.rest d a.next_is a.differs) (other_stops b.first b.next b.rest e b.next_is b.differs) a.spelled b.spelled in
    let is : a.next ≡ b.next = one_file a.next b.next a.rest b.rest a.next_is b.next_is w.rest in
    let moved : first_difference 0 (rows (modules_of a.first)) (rows (modules_of a.next)) ≡ first_difference 0 (rows (modules_of b.first)) (rows (modules_of b.next)) =
    ap (λ x. first_difference 0 (rows (modules_of x)) (rows (modules_of a.next))) w.first ∙ ap (λ x. first_difference 0 (rows (modules_of b.first)) (rows (modules_of x))) is in
    let q : Some d ≡ Some e = sym a.differs ∙ (moved ∙ b.differs) in
    cc

combined_or_bad : (bytes : List ℕ) (m : MarksView) (o : ℕ) → IsCombined bytes m → IsBad bytes o → ⊥
combined_or_bad bytes m o a (inl b) = not_first bytes a.first a.others [] o a.table.first_is (combined_end bytes m a) b
combined_or_bad bytes m o a (inr b) =
    let w = whole_same bytes a.first b.first a.others b.others [] b.rest a.table b.table (end_stops a.first) (bad_stops b.first _ o b.rest b.bad) (combined_end bytes m a) b.spelled in
    b.some (sym w.rest)

combined_or_other : (bytes : List ℕ) (m : MarksView) (d : Difference) → IsCombined bytes m → IsOtherTable bytes d → ⊥
combined_or_other bytes m d a b =
    let w = whole_same bytes a.first b.first a.others b.others [] (file_text b.next ++ b.rest) a.table b.table (end_stops a.first) (other_stops b.first b.next b.rest d b.next_is b.differs) (combined_end bytes m a) b.spelled in
    no_text b.next b.rest (ap length w.rest)

bad_or_other : (bytes : List ℕ) (o : ℕ) (d : Difference) → IsBad bytes o → IsOtherTable bytes d → ⊥
bad_or_other bytes o d (inl a) b = not_first bytes b.first b.others (file_text b.next ++ b.rest) o b.table.first_is b.spelled a
bad_or_other bytes o d (inr a) b =
    let w = whole_same bytes a.first b.first a.others b.others a.rest (file_text b.next ++ b.rest) a.table b.table (bad_stops a.first _ o a.rest a.bad) (other_stops b.first b.next b.rest d b.next_is b.differs) a.spelled b.spelled in
    let at = length (spelling (a.first ∷ a.others)) in
    let none : first_bad (file_fields at a.rest) ≡ None = ap (λ z. first_bad (file_fields at z)) w.rest ∙ (file_read b.next.version at b.next.marks b.rest b.next_is.rules).good in
    let clash : None ≡ Some o = sym none ∙ a.bad in
    absurd cc

pub one_answer : (bytes : List ℕ) → HasOneAnswer bytes
one_answer bytes = record {
  combined = one_combined bytes;
  bad = one_bad bytes;
  other = one_other bytes;
  combined_or_bad = combined_or_bad bytes;
  combined_or_other = combined_or_other bytes;
  bad_or_other = bad_or_other bytes;
}
