-- What stands before a file's modules: it spells the bytes that it was read from, and what was spelled is read back.
use Rattle.std.proofs.Common.{◌≡◌, ℕ, ◌≤◌, ◌<◌, ◌^◌, Bool, true, false, ◌&&◌, ◌||◌, nat_le, if◌then◌else◌, Option, Some, None, List, [], ◌∷◌, ◌++◌, length, take, drop, refl, ap, sym, ◌∙◌, arith, append_assoc, length-append, leb-true}
use Rattle.std.proofs.lemmas.Slice.Eq.{bytes_eq-Decides}
use Rattle.std.specs.Str.{bytes_eq}
use Rattle.std.proofs.lemmas.List.{drop-drop, take-append-drop}
use Rattle.std.proofs.lemmas.Bool.{le-leb, and_from, and_parts}
use Rattle.byteorder.specs.Endian.{big_number, big_bytes}
use Rattle.byteorder.specs.Numbers.{big_number-reads_back, big_from-lt}
use Rattle.cov_base.specs.Meaning.{is_filled}
use Rattle.marks_file.specs.Meaning.{MarksView, most_runs, is_runs, magic, name_field, session_bytes, Tells, first_bad, field, is_magic, version_of, table_from, is_name_field, session_fields, heading_fields}
use Rattle.marks_file.specs.Reading.{named, name_at, runs_at, marks_of}
use Rattle.marks_file.specs.declared.version.Version.{Version}
use Rattle.marks_file.specs.declared.version.Version.TheVariants.{First, Second}
use Rattle.marks_file.proofs.Parts.{is_session_name}
use Rattle.marks_file.proofs.FieldLemmas.{all_good}
use Rattle.marks_file.proofs.SpellLemmas.{AreBytes, bytes_later}
use Rattle.marks_file.proofs.ModuleLemmas.{word_at, length-filled}

first_test : (c : Bool) → (if c then First else Second) ≡ First → c ≡ true
first_test true h = refl
first_test false h = let e : Second ≡ First = h in absurd cc

second_test : (c d : Bool) → (if c then First else Second) ≡ Second → (c || d) ≡ true → d ≡ true
second_test true d h k = let e : First ≡ Second = h in absurd cc
second_test false d h k = k

-- the field of a name, and the name
named_if : Bool → List ℕ → Option (List ℕ)
named_if c f = if c then Some f else None

named_good : (c : Bool) (f : List ℕ) → is_filled f ≡ c → is_session_name (named_if c f) ≡ true
unfolding named_if
named_good true f h = h
named_good false f h = refl

named_spelled : (c : Bool) (f : List ℕ) → (c || bytes_eq f (name_field None)) ≡ true → name_field (named_if c f) ≡ f
unfolding named_if
named_spelled true f h = refl
named_spelled false f h = sym ((bytes_eq-Decides f (name_field None)).0 h)

pub name_long : (name : Option (List ℕ)) → is_session_name name ≡ true → length (name_field name) ≡ 8
name_long None h = refl
name_long (Some name) h = length-filled name h

pub name_kept : (name : Option (List ℕ)) → is_session_name name ≡ true → named (name_field name) ≡ name
name_kept None h = refl
name_kept (Some name) h = rw h refl

name_good : (name : Option (List ℕ)) → is_session_name name ≡ true → is_name_field (name_field name) ≡ true
name_good None h = refl
name_good (Some name) h = rw h refl

-- of bytes that begin with a good heading of a version
pub record IsHeading (v : Version) (bs : List ℕ) : Type 0 where
  pub room : table_from v ≤ length bs
  pub name : is_session_name (name_at v bs) ≡ true
  pub runs : is_runs (runs_at v bs) ≡ true
  pub tells : Tells v (marks_of v bs)
  pub long : length (magic v ++ session_bytes v (marks_of v bs)) ≡ table_from v
  pub spelled : magic v ++ (session_bytes v (marks_of v bs) ++ drop (table_from v) bs) ≡ bs

heading_parts : (v : Version) (at : ℕ) (bs : List ℕ) → version_of bs ≡ v → first_bad (heading_fields at bs) ≡ None → first_bad (field at bs 0 8 (is_magic (take 8 bs)) ∷ session_fields v at bs) ≡ None
unfolding heading_fields
heading_parts v at bs e h = ap (λ w. first_bad (field at bs 0 8 (is_magic (take 8 bs)) ∷ session_fields w at bs)) (sym e) ∙ h

magic_is : (v : Version) (bs : List ℕ) → version_of bs ≡ v → is_magic (take 8 bs) ≡ true → take 8 bs ≡ magic v
magic_is First bs e h = (bytes_eq-Decides (take 8 bs) (magic First)).0 (first_test (bytes_eq (take 8 bs) (magic First)) e)
magic_is Second bs e h = (bytes_eq-Decides (take 8 bs) (magic Second)).0 (second_test (bytes_eq (take 8 bs) (magic First)) (bytes_eq (take 8 bs) (magic Second)) e h)

begins : (v : Version) (bs : List ℕ) → take 8 bs ≡ magic v → magic v ++ drop 8 bs ≡ bs
begins v bs e = ap (λ t. t ++ drop 8 bs) (sym e) ∙ take-append-drop 8 bs

runs_good : (bs : List ℕ) → AreBytes bs → nat_le 1 (big_number 4 bs) ≡ true → is_runs (big_number 4 bs) ≡ true
unfolding is_runs
runs_good bs u h = let small = big_from-lt 0 4 bs u in and_from (nat_le 1 (big_number 4 bs)) _ h (le-leb (big_number 4 bs) most_runs (omega arith))

pub heading_is : (v : Version) (at : ℕ) (bs : List ℕ) → AreBytes bs → version_of bs ≡ v → first_bad (heading_fields at bs) ≡ None → IsHeading v bs
unfolding is_runs named_if
heading_is First at bs u e h =
    let t = nat_le 8 (length bs) && is_magic (take 8 bs) in
    let all : (t && true) ≡ true = all_good (field at bs 0 8 (is_magic (take 8 bs)) ∷ []) (heading_parts First at bs e h) in
    let good = (and_parts t true all).0 in
    record {
      room = leb-true 8 (length bs) (and_parts (nat_le 8 (length bs)) _ good).0;
      name = refl;
      runs = refl;
      tells = (refl, refl);
      long = refl;
      spelled = begins First bs (magic_is First bs e (and_parts (nat_le 8 (length bs)) _ good).1);
    }
heading_is Second at bs u e h =
    let name = take 8 (drop 8 bs) in
    let runs = big_number 4 (drop 16 bs) in
    let t = nat_le 8 (length bs) && is_magic (take 8 bs) in
    let t1 = nat_le 16 (length bs) && is_name_field name in
    let t2 = nat_le 20 (length bs) && nat_le 1 runs in
    let all : (t && (t1 && (t2 && true))) ≡ true = all_good (field at bs 0 8 (is_magic (take 8 bs)) ∷ field at bs 8 8 (is_name_field name) ∷ field at bs 16 4 (nat_le 1 runs) ∷ []) (heading_parts Second at bs e h) in
    let later = (and_parts t (t1 && (t2 && true)) all).1 in
    let h1 = (and_parts t1 (t2 && true) later).0 in
    let h2 = (and_parts t2 true (and_parts t1 (t2 && true) later).1).0 in
    let room = leb-true 20 (length bs) (and_parts (nat_le 20 (length bs)) _ h2).0 in
    let field_is : name_field (named name) ≡ name = named_spelled (is_filled name) name (and_parts (nat_le 16 (length bs)) _ h1).1 in
    let is_name : is_session_name (named name) ≡ true = named_good (is_filled name) name refl in
    let tail : big_bytes 4 runs ++ drop 20 bs ≡ drop 16 bs = word_at 16 20 bs refl room u in
    let past : drop 16 bs ≡ drop 8 (drop 8 bs) = sym (drop-drop 8 8 bs) in
    let head = magic_is Second bs e (and_parts (nat_le 8 (length bs)) _ (and_parts t (t1 && (t2 && true)) all).0).1 in
    record {
      room = room;
      name = is_name;
      runs = runs_good (drop 16 bs) (bytes_later 16 bs u) (and_parts (nat_le 20 (length bs)) _ h2).1;
      tells = tt;
      long = let long = name_long (named name) is_name in omega (arith, long, length-append (name_field (named name)) (big_bytes 4 runs));
      spelled = ap (λ t. magic Second ++ t) (append_assoc (name_field (named name)) (big_bytes 4 runs) (drop 20 bs)
          ∙ (ap (λ t. name_field (named name) ++ t) (tail ∙ past)
          ∙ (ap (λ t. t ++ drop 8 (drop 8 bs)) field_is ∙ take-append-drop 8 (drop 8 bs))))
          ∙ begins Second bs head;
    }

-- name and runs are read back
pub record IsSessionRead (name : List ℕ) (runs : ℕ) (rest bs : List ℕ) : Type 0 where
  pub name_is : take 8 (drop 8 bs) ≡ name
  pub runs_is : big_number 4 (drop 16 bs) ≡ runs
  pub rest_is : drop 20 bs ≡ rest
  pub room : 20 ≤ length bs

session_read : (name : List ℕ) (runs : ℕ) (rest : List ℕ) → length name ≡ 8 → runs < 256 ^ 4 → IsSessionRead name runs rest (magic Second ++ ((name ++ big_bytes 4 runs) ++ rest))
session_read [] runs rest l h = absurd (omega arith)
session_read (a ∷ []) runs rest l h = absurd (omega arith)
session_read (a ∷ b ∷ []) runs rest l h = absurd (omega arith)
session_read (a ∷ b ∷ c ∷ []) runs rest l h = absurd (omega arith)
session_read (a ∷ b ∷ c ∷ d ∷ []) runs rest l h = absurd (omega arith)
session_read (a ∷ b ∷ c ∷ d ∷ e ∷ []) runs rest l h = absurd (omega arith)
session_read (a ∷ b ∷ c ∷ d ∷ e ∷ f ∷ []) runs rest l h = absurd (omega arith)
session_read (a ∷ b ∷ c ∷ d ∷ e ∷ f ∷ g ∷ []) runs rest l h = absurd (omega arith)
session_read (a ∷ b ∷ c ∷ d ∷ e ∷ f ∷ g ∷ i ∷ j ∷ xs) runs rest l h = absurd (omega arith)
session_read (a ∷ b ∷ c ∷ d ∷ e ∷ f ∷ g ∷ i ∷ []) runs rest l h = record {
  name_is = refl;
  runs_is = big_number-reads_back 4 runs [] h;
  rest_is = refl;
  room = omega arith;
}

-- the marks that a version's spelling tells
abbrev pub told : Version → MarksView → MarksView
told First m = record m { name = None; runs = 1 }
told Second m = m

pub told_all : (v : Version) (m : MarksView) → Tells v m → told v m ≡ m
told_all First m h = same m.name m.runs h.0 h.1
  where
    same : (name : Option (List ℕ)) (runs : ℕ) → name ≡ None → runs ≡ 1 → ◌≡◌ {A = MarksView} (record { name = None; runs = 1; modules = m.modules }) (record { name = name; runs = runs; modules = m.modules })
    same name runs e f = rw (e, f) refl
told_all Second m h = refl

-- a heading that was spelled, with the bytes behind it
pub record IsHeadingRead (v : Version) (at : ℕ) (m : MarksView) (rest bs : List ℕ) : Type 0 where
  pub version : version_of bs ≡ v
  pub name : name_at v bs ≡ (told v m).name
  pub runs : runs_at v bs ≡ (told v m).runs
  pub good : first_bad (heading_fields at bs) ≡ None
  pub rest_is : drop (table_from v) bs ≡ rest

runs_small : (n : ℕ) → is_runs n ≡ true → n < 256 ^ 4
unfolding is_runs
runs_small n h = let small = leb-true n most_runs (and_parts (nat_le 1 n) _ h).1 in omega arith

runs_some : (n : ℕ) → is_runs n ≡ true → nat_le 1 n ≡ true
unfolding is_runs
runs_some n h = (and_parts (nat_le 1 n) _ h).0

session_good : (at : ℕ) (bs : List ℕ) → version_of bs ≡ Second → is_magic (take 8 bs) ≡ true → is_name_field (take 8 (drop 8 bs)) ≡ true → nat_le 1 (big_number 4 (drop 16 bs)) ≡ true → 20 ≤ length bs → first_bad (heading_fields at bs) ≡ None
unfolding heading_fields
session_good at bs e head name runs room =
    ap (λ w. first_bad (field at bs 0 8 (is_magic (take 8 bs)) ∷ session_fields w at bs)) e
    ∙ rw (and_from _ _ (le-leb 8 (length bs) (omega arith)) head, and_from _ _ (le-leb 16 (length bs) (omega arith)) name, and_from _ _ (le-leb 20 (length bs) room) runs) refl

first_good : (at : ℕ) (bs : List ℕ) → version_of bs ≡ First → is_magic (take 8 bs) ≡ true → 8 ≤ length bs → first_bad (heading_fields at bs) ≡ None
unfolding heading_fields
first_good at bs e head room =
    ap (λ w. first_bad (field at bs 0 8 (is_magic (take 8 bs)) ∷ session_fields w at bs)) e
    ∙ rw (and_from _ _ (le-leb 8 (length bs) room) head) refl

pub heading_read : (v : Version) (at : ℕ) (m : MarksView) (rest : List ℕ) → is_session_name m.name ≡ true → is_runs m.runs ≡ true → IsHeadingRead v at m rest (magic v ++ (session_bytes v m ++ rest))
heading_read First at m rest name runs = record {
  version = refl;
  name = refl;
  runs = refl;
  good = first_good at (magic First ++ rest) refl refl (omega arith);
  rest_is = refl;
}
heading_read Second at m rest name runs =
    let bs = magic Second ++ ((name_field m.name ++ big_bytes 4 m.runs) ++ rest) in
    let s : IsSessionRead (name_field m.name) m.runs rest bs = session_read (name_field m.name) m.runs rest (name_long m.name name) (runs_small m.runs runs) in
    record {
      version = refl;
      name = ap named s.name_is ∙ name_kept m.name name;
      runs = s.runs_is;
      good = session_good at bs refl refl (ap is_name_field s.name_is ∙ name_good m.name name) (ap (λ n. nat_le 1 n) s.runs_is ∙ runs_some m.runs runs) s.room;
      rest_is = s.rest_is;
    }
