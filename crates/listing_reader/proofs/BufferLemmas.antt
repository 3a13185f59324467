-- Lines in a buffer: a line that is read, a block that is opened, and a line that is added.
use Rattle.std.proofs.Common.{◌≡◌, ℕ, ◌+◌, ◌-◌, ◌/◌, ◌<◌, ◌≤◌, List, [], ◌∷◌, ◌++◌, length, get_or, map, drop, refl, sym, ap, ◌∙◌, true, false, nat_lt, if◌then◌else◌, length-append, inl, inr, arith}
use Rattle.std.specs.Prelude.{slice_range}
use Rattle.std.specs.List.{range_with_len}
use Rattle.std.proofs.Math.Seq.{drop-append_seam, get_or-append_seam}
use Rattle.std.proofs.lemmas.Bool.Decides.{nat_tests}
use Rattle.std.proofs.lemmas.List.{take_all, take-append-le, drop-append-le, length-drop, get_or_append_left, ext_get_or}
use Rattle.std.proofs.lemmas.List.FromFn.{length-map-range_with_len, get_or-map-range_with_len, map-range_with_len_more, fill_by_all}
use Rattle.std.proofs.lemmas.Bool.{cases_lt}
use Rattle.cov_base.specs.declared.limits.TheConstants.{LINE_LIMIT}
use Rattle.listing_reader.specs.Buffer.{begin_of, buffered_line, buffered_lines, IsBuffer}

pub buffered_count : (bytes starts begins : List ℕ) → length (buffered_lines bytes starts begins) ≡ length begins
unfolding buffered_lines
buffered_count bytes starts begins = length-map-range_with_len (buffered_line bytes starts begins) 0 (length begins)

pub buffered_there : (bytes starts begins : List ℕ) (i : ℕ) → i < length begins → get_or (buffered_lines bytes starts begins) i [] ≡ buffered_line bytes starts begins i
unfolding buffered_lines
buffered_there bytes starts begins i lt = get_or-map-range_with_len (buffered_line bytes starts begins) 0 (length begins) i i [] lt (omega arith)

-- where a line begins that there is, and the one past the last
pub begin_there : (bytes starts begins : List ℕ) (i : ℕ) → i < length begins → begin_of bytes starts begins i ≡ get_or starts (i / 256) 0 + get_or begins i 0
unfolding begin_of
begin_there bytes starts begins i lt =
    let e : nat_lt i (length begins) ≡ true = grind (arith, nat_tests) in
    rw e refl

pub begin_past : (bytes starts begins : List ℕ) (i : ℕ) → length begins ≤ i → begin_of bytes starts begins i ≡ length bytes
unfolding begin_of
begin_past bytes starts begins i le =
    let e : nat_lt i (length begins) ≡ false = grind (arith, nat_tests) in
    rw e refl

-- lists of as many lines that begin where they began
same_lines : (bytes more starts begins starts2 begins2 : List ℕ) → length begins2 ≡ length begins
    → ((i : ℕ) → i < length begins → buffered_line more starts2 begins2 i ≡ buffered_line bytes starts begins i)
    → buffered_lines more starts2 begins2 ≡ buffered_lines bytes starts begins
same_lines bytes more starts begins starts2 begins2 size each =
    ext_get_or [] (buffered_lines more starts2 begins2) (buffered_lines bytes starts begins) (buffered_count more starts2 begins2 ∙ (size ∙ sym (buffered_count bytes starts begins)))
    (λ i lt.
    let below2 : i < length begins2 = omega (arith, buffered_count more starts2 begins2) in
    let below : i < length begins = omega arith in
    buffered_there more starts2 begins2 i below2 ∙ (each i below ∙ sym (buffered_there bytes starts begins i below)))

-- a further block
opened_begin : (bytes starts begins : List ℕ) (i : ℕ) → IsBuffer bytes starts begins → begin_of bytes (starts ++ length bytes ∷ []) begins i ≡ begin_of bytes starts begins i
unfolding begin_of
opened_begin bytes starts begins i b = by_test (nat_lt i (length begins)) refl
  where
    by_test : (t : _) → nat_lt i (length begins) ≡ t → (if t then get_or (starts ++ length bytes ∷ []) (i / 256) 0 + get_or begins i 0 else length bytes) ≡ (if t then get_or starts (i / 256) 0 + get_or begins i 0 else length bytes)
    by_test true e =
        let lt : i < length begins = grind (arith, nat_tests) in
        ap (λ x. x + get_or begins i 0) (get_or_append_left starts (length bytes ∷ []) 0 (i / 256) (b.started i lt))
    by_test false e = refl

pub opened : (bytes starts begins : List ℕ) → IsBuffer bytes starts begins → length starts ≤ length begins / 256 → IsBuffer bytes (starts ++ length bytes ∷ []) begins
opened bytes starts begins b full =
    let size : length (starts ++ length bytes ∷ []) ≡ length starts + 1 = grind (arith, length-append) in
    let start : length begins / 256 < length (starts ++ length bytes ∷ []) → get_or (starts ++ length bytes ∷ []) (length begins / 256) 0 ≡ length bytes =
    λ lt. (let at : length begins / 256 ≡ length starts = omega arith in rw at (get_or-append_seam starts (length bytes) [] 0)) in
    record {
      started = λ i lt. omega (arith, b.started i lt);
      few = omega arith;
      low = λ lt. omega (arith, start lt);
      near = λ lt. omega (arith, start lt);
      rising = λ i. rw (opened_begin bytes starts begins i b, opened_begin bytes starts begins (i + 1) b) (b.rising i);
      inside = λ i. rw (opened_begin bytes starts begins i b) (b.inside i);
    }

pub opened_lines : (bytes starts begins : List ℕ) → IsBuffer bytes starts begins → buffered_lines bytes (starts ++ length bytes ∷ []) begins ≡ buffered_lines bytes starts begins
opened_lines bytes starts begins b =
    same_lines bytes bytes starts begins (starts ++ length bytes ∷ []) begins refl
    (λ i lt. rw (opened_begin bytes starts begins i b, opened_begin bytes starts begins (i + 1) b) refl)

-- a range in front of what is added, and what is added
range_before : (xs ys : List ℕ) (from to : ℕ) → from ≤ to → to ≤ length xs → slice_range (xs ++ ys) from to ≡ slice_range xs from to
range_before xs ys from to le below =
    let rest : drop from (xs ++ ys) ≡ drop from xs ++ ys = drop-append-le from xs ys (omega arith) in
    let room : to - from ≤ length (drop from xs) = omega (arith, length-drop from xs) in
    rw rest (take-append-le (to - from) (drop from xs) ys room)

range_added : (xs ys : List ℕ) → slice_range (xs ++ ys) (length xs) (length (xs ++ ys)) ≡ ys
range_added xs ys =
    let size : length (xs ++ ys) - length xs ≡ length ys = omega (arith, length-append xs ys) in
    rw (drop-append_seam xs ys, size) (take_all (length ys) ys (omega arith))

-- a further line
module _ (bytes starts begins line : List ℕ) (begin : ℕ) (b : IsBuffer bytes starts begins) (is : length begins / 256 < length starts) (short : length line ≤ LINE_LIMIT) (at : begin ≡ length bytes - get_or starts (length begins / 256) 0) where
  begin_before : (i : ℕ) → i ≤ length begins → begin_of (bytes ++ line) starts (begins ++ begin ∷ []) i ≡ begin_of bytes starts begins i
  begin_before i le = by_place (nat_lt i (length begins)) refl
    where
      size : length (begins ++ begin ∷ []) ≡ length begins + 1
      size = grind (arith, length-append)

      by_place : (t : _) → nat_lt i (length begins) ≡ t → begin_of (bytes ++ line) starts (begins ++ begin ∷ []) i ≡ begin_of bytes starts begins i
      by_place true e =
          let lt : i < length begins = grind (arith, nat_tests) in
          begin_there (bytes ++ line) starts (begins ++ begin ∷ []) i (omega (arith, size))
          ∙ (ap (λ x. get_or starts (i / 256) 0 + x) (get_or_append_left begins (begin ∷ []) 0 i lt)
          ∙ sym (begin_there bytes starts begins i lt))
      by_place false e =
          let ge : length begins ≤ i = grind (arith, nat_tests) in
          let same : i ≡ length begins = omega arith in
          let there : get_or (begins ++ begin ∷ []) i 0 ≡ begin = rw same (get_or-append_seam begins begin [] 0) in
          let block : get_or starts (i / 256) 0 ≡ get_or starts (length begins / 256) 0 = ap (λ k. get_or starts (k / 256) 0) same in
          let end : get_or starts (i / 256) 0 + get_or (begins ++ begin ∷ []) i 0 ≡ length bytes = omega (arith, there, block, at, b.low is) in
          begin_there (bytes ++ line) starts (begins ++ begin ∷ []) i (omega (arith, size)) ∙ (end ∙ sym (begin_past bytes starts begins i ge))

  begin_behind : (i : ℕ) → length begins < i → begin_of (bytes ++ line) starts (begins ++ begin ∷ []) i ≡ length bytes + length line
  begin_behind i lt =
      let size : length (begins ++ begin ∷ []) ≡ length begins + 1 = grind (arith, length-append) in
      begin_past (bytes ++ line) starts (begins ++ begin ∷ []) i (omega arith) ∙ length-append bytes line

  pub added : IsBuffer (bytes ++ line) starts (begins ++ begin ∷ [])
  added =
      let size : length (begins ++ begin ∷ []) ≡ length begins + 1 = grind (arith, length-append) in
      let more : length (bytes ++ line) ≡ length bytes + length line = length-append bytes line in
      record {
        started = λ i lt. by_place i (nat_lt i (length begins)) refl lt;
        few = omega (arith, b.few);
        low = λ lt. (let same : (length begins + 1) / 256 ≡ length begins / 256 = omega (arith, b.few) in let block : get_or starts (length (begins ++ begin ∷ []) / 256) 0 ≡ get_or starts (length begins / 256) 0 = rw (size, same) refl in omega (arith, block, b.low is));
        near = λ lt. (let same : (length begins + 1) / 256 ≡ length begins / 256 = omega (arith, b.few) in let block : get_or starts (length (begins ++ begin ∷ []) / 256) 0 ≡ get_or starts (length begins / 256) 0 = rw (size, same) refl in omega (arith, block, b.near is));
        rising = λ i. rising i;
        inside = λ i. inside i;
      }
    where
      by_place : (i : ℕ) (t : _) → nat_lt i (length begins) ≡ t → i < length (begins ++ begin ∷ []) → i / 256 < length starts
      by_place i true e lt = b.started i (grind (arith, nat_tests))
      by_place i false e lt =
          let ge : length begins ≤ i = grind (arith, nat_tests) in
          let same : i ≡ length begins = omega (arith, length-append begins (begin ∷ [])) in
          rw same is

      inside : (i : ℕ) → begin_of (bytes ++ line) starts (begins ++ begin ∷ []) i ≤ length (bytes ++ line)
      inside i = elim (cases_lt (length begins) i) [
        | inl gt ↦ omega (arith, begin_behind i gt, length-append bytes line)
        | inr le ↦ omega (arith, begin_before i le, b.inside i, length-append bytes line)
      ]

      rising : (i : ℕ) → begin_of (bytes ++ line) starts (begins ++ begin ∷ []) i ≤ begin_of (bytes ++ line) starts (begins ++ begin ∷ []) (i + 1)
      rising i = elim (cases_lt (length begins) (i + 1)) [
        | inl gt ↦ omega (arith, inside i, begin_behind (i + 1) gt, length-append bytes line)
        | inr le ↦ omega (arith, begin_before i (omega arith), begin_before (i + 1) le, b.rising i)
      ]

  pub added_lines : buffered_lines (bytes ++ line) starts (begins ++ begin ∷ []) ≡ buffered_lines bytes starts begins ++ line ∷ []
  unfolding buffered_lines
  added_lines =
      let size : length (begins ++ begin ∷ []) ≡ length begins + 1 = grind (arith, length-append) in
      let now : ℕ → List ℕ = buffered_line (bytes ++ line) starts (begins ++ begin ∷ []) in
      let last : now (length begins) ≡ line =
      rw (begin_before (length begins) (omega arith), begin_past bytes starts begins (length begins) (omega arith), begin_behind (length begins + 1) (omega arith), ← length-append bytes line) (range_added bytes line) in
      let front : map now (range_with_len 0 (length begins)) ≡ buffered_lines bytes starts begins = fronts in
      rw (size, map-range_with_len_more now 0 (length begins) (length begins) (omega arith), front, last) refl
    where
      fronts : map (buffered_line (bytes ++ line) starts (begins ++ begin ∷ [])) (range_with_len 0 (length begins)) ≡ buffered_lines bytes starts begins
      fronts = sym (fill_by_all (buffered_line (bytes ++ line) starts (begins ++ begin ∷ [])) (buffered_lines bytes starts begins) (length begins) [] (buffered_count bytes starts begins)
          (λ i lt. buffered_there bytes starts begins i lt ∙ sym (rw (begin_before i (omega arith), begin_before (i + 1) (omega arith)) (range_before bytes line _ _ (b.rising i) (b.inside (i + 1))))))

pub empty : IsBuffer [] [] []
empty =
    record {
      started = λ i lt. absurd (omega arith);
      few = omega arith;
      low = λ lt. absurd (omega arith);
      near = λ lt. absurd (omega arith);
      rising = λ i. omega (arith, begin_past [] [] [] i (omega arith), begin_past [] [] [] (i + 1) (omega arith));
      inside = λ i. omega (arith, begin_past [] [] [] i (omega arith));
    }
