-- The first bad line from a number on, and that a listing is refused exactly where it has a fault.
use Rattle.std.proofs.Common.{◌≡◌, ℕ, ◌+◌, ◌<◌, suc, Bool, true, false, cond, not, nat_lt, Option, Some, None, List, [], ◌∷◌, ◌++◌, length, get_or, drop, replicate, position, refl, sym, ap, ◌∙◌, if◌then◌else◌, add-zero, arith}
use Rattle.std.specs.Prelude.{is_some, is_none, option_map}
use Rattle.std.specs.List.{prefix_len}
use Rattle.std.specs.Option.{option_and_then, option_map_or}
use Rattle.std.proofs.lemmas.Bool.Decides.{nat_tests}
use Rattle.std.proofs.lemmas.List.{drop_more}
use Rattle.listing_reader.specs.declared.columns.Columns.{Columns}
use Rattle.listing_reader.specs.declared.columns.Width.{Width}
use Rattle.listing_reader.specs.Meaning.{columns_of, heading_of, line_of, lines_behind, listing_of, bad_from, fault_of}
use Rattle.listing_reader.specs.declared.lines.Line.{Line}
use Rattle.listing_reader.specs.declared.lines.Line.TheVariants.{Text}
use Rattle.listing_reader.specs.declared.lines.ListFault.TheVariants.{NoHeading, BadObject}
use Rattle.listing_reader.specs.declared.lines.ListFault.{ListFault}

abbrev is_bad : Columns → ℕ → List ℕ → Bool
is_bad c shift line = is_none (line_of c shift line)

-- the number of the first bad line, where the first has the number n
abbrev pub bad_number : Columns → ℕ → ℕ → List (List ℕ) → Option ℕ
bad_number c shift n [] = None
bad_number c shift n (line ∷ lines) = if is_bad c shift line then Some n else bad_number c shift (n + 1) lines

at_first : (n l : ℕ) → Some n ≡ option_map (λ k. n + k) (cond (nat_lt 0 (suc l)) (Some 0) None)
at_first n l =
    let e : nat_lt 0 (suc l) ≡ true = grind (arith, nat_tests) in
    rw (e, add-zero n) refl

at_later : (n m l : ℕ) → option_map (λ k. n + 1 + k) (cond (nat_lt m l) (Some m) None) ≡ option_map (λ k. n + k) (cond (nat_lt (1 + m) (suc l)) (Some (1 + m)) None)
at_later n m l =
    let e : nat_lt (1 + m) (suc l) ≡ nat_lt m l = grind (arith, nat_tests) in
    rw e (by_test (nat_lt m l))
  where
    by_test : (b : Bool) → option_map (λ k. n + 1 + k) (cond b (Some m) None) ≡ option_map (λ k. n + k) (cond b (Some (1 + m)) None)
    by_test true = let s : n + 1 + m ≡ n + (1 + m) = omega arith in ap (λ k. Some k) s
    by_test false = refl

by_test : (n l m : ℕ) (b : Bool) (bad : Option ℕ) → bad ≡ option_map (λ k. n + 1 + k) (cond (nat_lt m l) (Some m) None)
    → cond b (Some n) bad ≡ option_map (λ k. n + k) (cond (nat_lt (cond (not b) (1 + m) 0) (suc l)) (Some (cond (not b) (1 + m) 0)) None)
by_test n l m true bad e = at_first n l
by_test n l m false bad e = e ∙ at_later n m l

-- that number by the first place
pub bad_number-position : (c : Columns) (shift n : ℕ) (lines : List (List ℕ)) → bad_number c shift n lines ≡ option_map (λ k. n + k) (position (is_bad c shift) lines)
bad_number-position c shift n [] = refl
bad_number-position c shift n (line ∷ lines) =
    by_test n (length lines) (prefix_len (λ x. not (is_bad c shift x)) lines) (is_bad c shift line) (bad_number c shift (n + 1) lines) (bad_number-position c shift (n + 1) lines)

as_fault : (o : Option ℕ) (first n : ℕ) → option_map (λ k. first + k) o ≡ Some n → option_map (λ k. BadObject (first + k)) o ≡ Some (BadObject n)
as_fault None first n e = absurd cc
as_fault (Some k) first n e = let s : first + k ≡ n = cc in ap (λ x. Some (BadObject x)) s

pub bad_here : (c : Columns) (lines later : List (List ℕ)) (shift first n i : ℕ) (line : List ℕ) → i < length lines → line ≡ get_or lines i [] → line_of c shift line ≡ None
    → bad_number c shift n (drop i lines) ≡ bad_number c shift first later
    → option_map (λ k. BadObject (first + k)) (position (is_bad c shift) later) ≡ Some (BadObject n)
bad_here c lines later shift first n i line l at none e =
    let here : bad_number c shift n (drop i lines) ≡ Some n = rw (drop_more lines i [] l, ← at, none) refl in
    as_fault _ first n (sym (bad_number-position c shift first later) ∙ (sym e ∙ here))

-- a line that says something
module _ (c : Columns) (lines : List (List ℕ)) (shift i : ℕ) (line : List ℕ) (says : Line) (l : i < length lines) (at : line ≡ get_or lines i []) (is : line_of c shift line ≡ Some says) where
  pub read_here : (read : List Line) → lines_behind (read ++ says ∷ []) c shift (drop (i + 1) lines) ≡ lines_behind read c shift (drop i lines)
  read_here read = rw (drop_more lines i [] l, ← at, is) refl

  pub none_here : (n : ℕ) → bad_number c shift (n + 1) (drop (i + 1) lines) ≡ bad_number c shift n (drop i lines)
  none_here n = rw (drop_more lines i [] l, ← at, is) refl

lines_or_bad : (read : List Line) (c : Columns) (shift n : ℕ) (lines : List (List ℕ)) → is_none (lines_behind read c shift lines) ≡ is_some (bad_number c shift n lines)
lines_or_bad read c shift n [] = refl
lines_or_bad read c shift n (line ∷ lines) = by_line (line_of c shift line) (λ l. lines_or_bad (read ++ l ∷ []) c shift (n + 1) lines)
  where
    by_line : (says : Option Line) → ((l : Line) → is_none (lines_behind (read ++ l ∷ []) c shift lines) ≡ is_some (bad_number c shift (n + 1) lines))
        → is_none (option_and_then (λ (l : Line). lines_behind (read ++ l ∷ []) c shift lines) says) ≡ is_some (if is_none says then Some n else bad_number c shift (n + 1) lines)
    by_line None rest = refl
    by_line (Some l) rest = rest l

is_some-map : {A B : Type 0} (f : A → B) (o : Option A) → is_some (option_map f o) ≡ is_some o
is_some-map f None = refl
is_some-map f (Some x) = refl

-- a listing says nothing exactly where it has a fault
pub listing_or_fault : (lines : List (List ℕ)) → is_none (listing_of lines) ≡ is_some (fault_of lines)
listing_or_fault lines = by_heading (heading_of lines)
  where
    says : ℕ × ℕ × Width → Option (List Line)
    says h = lines_behind (replicate (h.0 + 1) Text) (columns_of h.2) h.1 (drop (h.0 + 1) lines)

    bad : ℕ × ℕ × Width → Option ListFault
    bad h = bad_from (columns_of h.2) h.1 (h.0 + 2) (drop (h.0 + 1) lines)

    by_heading : (h : Option (ℕ × ℕ × Width)) → is_none (option_and_then says h) ≡ is_some (option_map_or bad h (Some NoHeading))
    by_heading None = refl
    by_heading (Some h) =
        let c : Columns = columns_of h.2 in
        let later : List (List ℕ) = drop (h.0 + 1) lines in
        lines_or_bad (replicate (h.0 + 1) Text) c h.1 0 later
        ∙ (ap is_some (bad_number-position c h.1 0 later)
        ∙ (is_some-map (λ k. 0 + k) (position (is_bad c h.1) later)
        ∙ sym (is_some-map (λ k. BadObject (h.0 + 2 + k)) (position (is_bad c h.1) later))))
