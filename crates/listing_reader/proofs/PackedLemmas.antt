-- Packed lines: one that is read, a block that is opened, and one that is added.
use Rattle.std.proofs.Common.{◌≡◌, ℕ, ◌+◌, ◌-◌, ◌/◌, ◌<◌, ◌≤◌, Bool, true, false, nat_eq, nat_lt, List, [], ◌∷◌, ◌++◌, length, get_or, map, refl, sym, ap, ◌∙◌, subst, length-append, inl, inr, arith}
use Rattle.std.specs.List.{range_with_len}
use Rattle.std.proofs.Math.Seq.{get_or-append_seam}
use Rattle.std.proofs.lemmas.Bool.{cases_lt}
use Rattle.std.proofs.lemmas.Bool.Decides.{nat_tests}
use Rattle.std.proofs.lemmas.List.{get_or_append_left, append-nil}
use Rattle.std.proofs.lemmas.List.FromFn.{length-map-range_with_len, get_or-map-range_with_len, map-range_with_len_more, fill_by_all}
use Rattle.listing_reader.specs.declared.lines.Line.{Line}
use Rattle.listing_reader.specs.declared.lines.Line.TheVariants.{Text}
use Rattle.listing_reader.specs.Packed.{line_in, lines_in, IsPacked}

pub lines_count : (codes : List Line) (firsts ordinals : List ℕ) → length (lines_in codes firsts ordinals) ≡ length ordinals
unfolding lines_in
lines_count codes firsts ordinals = length-map-range_with_len (line_in codes firsts ordinals) 0 (length ordinals)

pub line_there : (codes : List Line) (firsts ordinals : List ℕ) (i : ℕ) → i < length ordinals → get_or (lines_in codes firsts ordinals) i Text ≡ line_in codes firsts ordinals i
unfolding lines_in
line_there codes firsts ordinals i lt = get_or-map-range_with_len (line_in codes firsts ordinals) 0 (length ordinals) i i Text lt (omega arith)

-- a line of its code, and a text line
pub text_there : (codes : List Line) (firsts ordinals : List ℕ) (i : ℕ) → get_or ordinals i 0 ≡ 0 → line_in codes firsts ordinals i ≡ Text
unfolding line_in
text_there codes firsts ordinals i e = rw e refl

pub code_there : (codes : List Line) (firsts ordinals : List ℕ) (i : ℕ) → 0 < get_or ordinals i 0 → line_in codes firsts ordinals i ≡ get_or codes (get_or firsts (i / 255) 0 + get_or ordinals i 0 - 1) Text
unfolding line_in
code_there codes firsts ordinals i lt =
    let e : nat_eq (get_or ordinals i 0) 0 ≡ false = grind (arith, nat_tests) in
    rw e refl

-- a line of lists that agree on what it reads
same_line : (codes more : List Line) (firsts firsts2 ordinals ordinals2 : List ℕ) (i : ℕ) → get_or ordinals2 i 0 ≡ get_or ordinals i 0 → get_or firsts2 (i / 255) 0 ≡ get_or firsts (i / 255) 0
    → (0 < get_or ordinals i 0 → get_or firsts (i / 255) 0 + get_or ordinals i 0 ≤ length codes) → line_in (codes ++ more) firsts2 ordinals2 i ≡ line_in codes firsts ordinals i
same_line codes more firsts firsts2 ordinals ordinals2 i o f within = by_test (nat_lt 0 (get_or ordinals i 0)) refl
  where
    by_test : (t : Bool) → nat_lt 0 (get_or ordinals i 0) ≡ t → line_in (codes ++ more) firsts2 ordinals2 i ≡ line_in codes firsts ordinals i
    by_test true e =
        let some : 0 < get_or ordinals i 0 = grind (arith, nat_tests) in
        code_there (codes ++ more) firsts2 ordinals2 i (omega (arith, o))
        ∙ (rw (o, f) (get_or_append_left codes more Text (get_or firsts (i / 255) 0 + get_or ordinals i 0 - 1) (omega (arith, within some)))
        ∙ sym (code_there codes firsts ordinals i some))
    by_test false e =
        let none : get_or ordinals i 0 ≡ 0 = grind (arith, nat_tests) in
        text_there (codes ++ more) firsts2 ordinals2 i (o ∙ none) ∙ sym (text_there codes firsts ordinals i none)

-- a further block
module _ (codes : List Line) (firsts ordinals : List ℕ) (p : IsPacked codes firsts ordinals) where
  opened_first : (i : ℕ) → i < length ordinals → get_or (firsts ++ length codes ∷ []) (i / 255) 0 ≡ get_or firsts (i / 255) 0
  opened_first i lt = get_or_append_left firsts (length codes ∷ []) 0 (i / 255) (p.started i lt)

  pub opened : length firsts ≤ length ordinals / 255 → IsPacked codes (firsts ++ length codes ∷ []) ordinals
  opened full =
      let size : length (firsts ++ length codes ∷ []) ≡ length firsts + 1 = grind (arith, length-append) in
      let start : length ordinals / 255 < length (firsts ++ length codes ∷ []) → get_or (firsts ++ length codes ∷ []) (length ordinals / 255) 0 ≡ length codes =
      λ lt. (let at : length ordinals / 255 ≡ length firsts = omega arith in rw at (get_or-append_seam firsts (length codes) [] 0)) in
      record {
        started = λ i lt. omega (arith, p.started i lt);
        few = omega arith;
        low = λ lt. omega (arith, start lt);
        near = λ lt. omega (arith, start lt);
        within = λ i lt some. omega (arith, opened_first i lt, p.within i lt some);
      }

  pub opened_lines : lines_in codes (firsts ++ length codes ∷ []) ordinals ≡ lines_in codes firsts ordinals
  unfolding lines_in
  opened_lines =
      sym (fill_by_all (line_in codes (firsts ++ length codes ∷ []) ordinals) (lines_in codes firsts ordinals) (length ordinals) Text (lines_count codes firsts ordinals)
      (λ i lt. line_there codes firsts ordinals i lt ∙ sym (same i lt)))
    where
      same : (i : ℕ) → i < length ordinals → line_in codes (firsts ++ length codes ∷ []) ordinals i ≡ line_in codes firsts ordinals i
      same i lt = ap (λ x. line_in x (firsts ++ length codes ∷ []) ordinals i) (sym (append-nil codes)) ∙ same_line codes [] firsts (firsts ++ length codes ∷ []) ordinals ordinals i refl (opened_first i lt) (p.within i lt)

-- a further line, with its code where it has one
module _ (codes more : List Line) (firsts ordinals : List ℕ) (ordinal : ℕ) (p : IsPacked codes firsts ordinals) (is : length ordinals / 255 < length firsts) (one : length more ≤ 1) (number : 0 < ordinal → get_or firsts (length ordinals / 255) 0 + ordinal ≤ length codes + length more) where
  size : length (ordinals ++ ordinal ∷ []) ≡ length ordinals + 1
  size = grind (arith, length-append)

  before : (i : ℕ) → i < length ordinals → get_or (ordinals ++ ordinal ∷ []) i 0 ≡ get_or ordinals i 0
  before i lt = get_or_append_left ordinals (ordinal ∷ []) 0 i lt

  pub added_packed : IsPacked (codes ++ more) firsts (ordinals ++ ordinal ∷ [])
  added_packed =
      let wide : length (codes ++ more) ≡ length codes + length more = length-append codes more in
      record {
        started = λ i lt. elim (cases_lt i (length ordinals)) [
          | inl old ↦ p.started i old
          | inr new ↦ (let last : i ≡ length ordinals = omega (arith, size, lt, new) in rw last is)
        ];
        few = omega (arith, size, p.few);
        low = λ lt. (let same : (length ordinals + 1) / 255 ≡ length ordinals / 255 = omega (arith, size, p.few, lt) in let block : get_or firsts (length (ordinals ++ ordinal ∷ []) / 255) 0 ≡ get_or firsts (length ordinals / 255) 0 = rw (size, same) refl in omega (arith, block, wide, p.low is));
        near = λ lt. (let same : (length ordinals + 1) / 255 ≡ length ordinals / 255 = omega (arith, size, p.few, lt) in let block : get_or firsts (length (ordinals ++ ordinal ∷ []) / 255) 0 ≡ get_or firsts (length ordinals / 255) 0 = rw (size, same) refl in omega (arith, size, block, wide, one, p.near is));
        within = λ i lt some. elim (cases_lt i (length ordinals)) [
          | inl old ↦ omega (arith, wide, before i old, some, p.within i old (omega (arith, before i old, some)))
          | inr new ↦
              let last : i ≡ length ordinals = omega (arith, size, lt, new) in
              let there : get_or (ordinals ++ ordinal ∷ []) i 0 ≡ ordinal = rw last (get_or-append_seam ordinals ordinal [] 0) in
              let block : get_or firsts (i / 255) 0 ≡ get_or firsts (length ordinals / 255) 0 = ap (λ k. get_or firsts (k / 255) 0) last in
              omega (arith, there, block, wide, some, number (omega (arith, there, some)))
        ];
      }

  pub added_lines : (line : Line) → line_in (codes ++ more) firsts (ordinals ++ ordinal ∷ []) (length ordinals) ≡ line → lines_in (codes ++ more) firsts (ordinals ++ ordinal ∷ []) ≡ lines_in codes firsts ordinals ++ line ∷ []
  unfolding lines_in
  added_lines line says =
      rw (size, map-range_with_len_more (line_in (codes ++ more) firsts (ordinals ++ ordinal ∷ [])) 0 (length ordinals) (length ordinals) (omega arith), fronts, says) refl
    where
      fronts : map (line_in (codes ++ more) firsts (ordinals ++ ordinal ∷ [])) (range_with_len 0 (length ordinals)) ≡ lines_in codes firsts ordinals
      fronts = sym (fill_by_all (line_in (codes ++ more) firsts (ordinals ++ ordinal ∷ [])) (lines_in codes firsts ordinals) (length ordinals) Text (lines_count codes firsts ordinals)
          (λ i lt. line_there codes firsts ordinals i lt ∙ sym (same_line codes more firsts firsts ordinals (ordinals ++ ordinal ∷ []) i (before i lt) refl (p.within i lt))))

-- a further text line
module _ (codes : List Line) (firsts ordinals : List ℕ) (p : IsPacked codes firsts ordinals) (is : length ordinals / 255 < length firsts) where
  pub text_packed : IsPacked codes firsts (ordinals ++ 0 ∷ [])
  text_packed = subst (λ x. IsPacked x firsts (ordinals ++ 0 ∷ [])) (append-nil codes) (added_packed codes [] firsts ordinals 0 p is (omega arith) (λ some. absurd (omega arith)))

  pub text_added_lines : lines_in codes firsts (ordinals ++ 0 ∷ []) ≡ lines_in codes firsts ordinals ++ Text ∷ []
  text_added_lines =
      let more = added_lines codes [] firsts ordinals 0 p is (omega arith) (λ some. absurd (omega arith)) Text (text_there (codes ++ []) firsts (ordinals ++ 0 ∷ []) (length ordinals) (get_or-append_seam ordinals 0 [] 0)) in
      ap (λ x. lines_in x firsts (ordinals ++ 0 ∷ [])) (sym (append-nil codes)) ∙ more

-- a further instruction line
module _ (codes : List Line) (firsts ordinals : List ℕ) (code : Line) (ordinal : ℕ) (p : IsPacked codes firsts ordinals) (is : length ordinals / 255 < length firsts) (at : ordinal ≡ length codes - get_or firsts (length ordinals / 255) 0 + 1) where
  pub code_packed : IsPacked (codes ++ code ∷ []) firsts (ordinals ++ ordinal ∷ [])
  code_packed = added_packed codes (code ∷ []) firsts ordinals ordinal p is (omega arith) (λ some. omega (arith, p.low is))

  pub code_added_lines : lines_in (codes ++ code ∷ []) firsts (ordinals ++ ordinal ∷ []) ≡ lines_in codes firsts ordinals ++ code ∷ []
  code_added_lines =
      let there : get_or (ordinals ++ ordinal ∷ []) (length ordinals) 0 ≡ ordinal = get_or-append_seam ordinals ordinal [] 0 in
      let place : get_or firsts (length ordinals / 255) 0 + get_or (ordinals ++ ordinal ∷ []) (length ordinals) 0 - 1 ≡ length codes = omega (arith, there, p.low is) in
      let says : line_in (codes ++ code ∷ []) firsts (ordinals ++ ordinal ∷ []) (length ordinals) ≡ code =
      code_there (codes ++ code ∷ []) firsts (ordinals ++ ordinal ∷ []) (length ordinals) (omega (arith, there)) ∙ rw place (get_or-append_seam codes code [] Text) in
      added_lines codes (code ∷ []) firsts ordinals ordinal p is (omega arith) (λ some. omega (arith, p.low is)) code says
