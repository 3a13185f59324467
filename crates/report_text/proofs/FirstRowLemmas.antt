-- The bytes that data cards store.
use Rattle.std.proofs.Common.{◌≡◌, ℕ, ◌+◌, ◌-◌, ◌*◌, ◌<◌, ◌≤◌, min, max, inl, inr, List, [], ◌∷◌, ◌++◌, All, fold, length, get_or, take, drop, replicate, ◌&&◌, nat_le, nat_lt, if◌then◌else◌, refl, sym, ap, ◌∙◌, subst, arith, length-append, length-take, length-take-le, length-drop}
use Rattle.std.proofs.lemmas.Bool.{cases_lt}
use Rattle.std.proofs.lemmas.Bool.Decides.{nat_tests}
use Rattle.std.proofs.lemmas.List.{get_or-take, get_or-drop, get_or_append_left, get_or-append_right, ext_get_or, length-replicate, get_or-replicate}
use Rattle.std.specs.List.{between}
use borrow.Rule.Slice.PartMut.{put_mid}
use Rattle.std.proofs.lemmas.List.Elements.{All-head, All-tail}
use Rattle.std.proofs.lemmas.List.Sums.{fold_more}
use Rattle.module_area.specs.Meaning.{DataView, with_card, first_bytes}
use Rattle.report_text.specs.FirstRows.{IsPartOf, FitsIn}
use Rattle.report_text.specs.Meaning.{row_lines, changed_row, hexadecimal_row}

-- the byte at an address, once bytes are stored from an offset on
unfoldable byte_after : ℕ → List ℕ → ℕ → ℕ → ℕ
byte_after offset bytes at old = if nat_le offset at && nat_lt at (offset + length bytes) then get_or bytes (at - offset) 0 else old

after_inside : (offset : ℕ) (xs : List ℕ) (at b : ℕ) → offset ≤ at → at < offset + length xs → byte_after offset xs at b ≡ get_or xs (at - offset) 0
unfolding byte_after
after_inside offset xs at b from to = grind (arith, nat_tests)

after_below : (offset : ℕ) (xs : List ℕ) (at b : ℕ) → at < offset → byte_after offset xs at b ≡ b
unfolding byte_after
after_below offset xs at b below = grind (arith, nat_tests)

after_past : (offset : ℕ) (xs : List ℕ) (at b : ℕ) → offset + length xs ≤ at → byte_after offset xs at b ≡ b
unfolding byte_after
after_past offset xs at b past = grind (arith, nat_tests)

pub length-with_card : (bytes : List ℕ) (c : DataView) → FitsIn (length bytes) c → length (with_card bytes c) ≡ length bytes
length-with_card bytes c fits = simp (length-append, length-drop, length-take) (omega arith)

-- the byte at an address after a store is that of the card there, or the old one
stored_at : (bytes : List ℕ) (c : DataView) (at : ℕ) → FitsIn (length bytes) c → at < length bytes → get_or (with_card bytes c) at 0 ≡ byte_after c.offset c.bytes at (get_or bytes at 0)
stored_at bytes c at fits h =
    let o = c.offset in
    let n = length c.bytes in
    let old = get_or bytes at 0 in
    let front : length (take o bytes) ≡ o = length-take-le o bytes (omega arith) in
    let middle : length (take o bytes ++ c.bytes) ≡ o + n = length-append (take o bytes) c.bytes ∙ omega (arith, front) in
    elim (cases_lt at o) [
      | inl below ↦ get_or_append_left (take o bytes ++ c.bytes) (drop (o + n) bytes) 0 at (omega arith) ∙ get_or_append_left (take o bytes) c.bytes 0 at (omega arith) ∙ get_or-take o bytes at 0 below ∙ sym (after_below o c.bytes at old below)
      | inr from ↦ elim (cases_lt at (o + n)) [
        | inl to ↦ get_or_append_left (take o bytes ++ c.bytes) (drop (o + n) bytes) 0 at (omega arith) ∙ get_or-append_right (take o bytes) c.bytes o at 0 front from ∙ sym (after_inside o c.bytes at old from to)
        | inr past ↦ get_or-append_right (take o bytes ++ c.bytes) (drop (o + n) bytes) (o + n) at 0 middle past ∙ get_or-drop (o + n) bytes (at - (o + n)) 0 ∙ ap (λ i. get_or bytes i 0) {x = o + n + (at - (o + n))} {y = at} (omega arith) ∙ sym (after_past o c.bytes at old past)
      ]
    ]

pub cards_more : (bytes : List ℕ) (cards : List DataView) (i : ℕ) (c : DataView) → i < length cards → c ≡ get_or cards i c → fold with_card bytes (take (i + 1) cards) ≡ with_card (fold with_card bytes (take i cards)) c
cards_more bytes cards i c h is = fold_more with_card bytes cards i c h ∙ ap (with_card (fold with_card bytes (take i cards))) (sym is)

pub length-cards : (bytes : List ℕ) (cards : List DataView) → All (FitsIn (length bytes)) cards → length (fold with_card bytes cards) ≡ length bytes
length-cards bytes [] fit = refl
length-cards bytes (c ∷ cards) fit =
    let one : length (with_card bytes c) ≡ length bytes = length-with_card bytes c (All-head (FitsIn (length bytes)) c cards fit) in
    let rest : All (FitsIn (length bytes)) cards = All-tail (FitsIn (length bytes)) c cards fit in
    length-cards (with_card bytes c) cards (subst (λ n. All (FitsIn n) cards) (sym one) rest) ∙ one

pub length-first : (size : ℕ) (cards : List DataView) → All (FitsIn size) cards → length (first_bytes size cards) ≡ size
length-first size cards fit =
    let zeros : length (replicate size 0) ≡ size = length-replicate size 0 in
    length-cards (replicate size 0) cards (subst (λ n. All (FitsIn n) cards) (sym zeros) fit) ∙ zeros

-- a part after a card's bytes were put into it
part_put : (old row bytes : List ℕ) (c : DataView) (from : ℕ) → length row ≡ length old → ((j : ℕ) → j < length old → get_or row j 0 ≡ byte_after c.offset c.bytes (from + j) (get_or old j 0)) → FitsIn (length bytes) c → IsPartOf old bytes from → IsPartOf row (with_card bytes c) from
part_put old row bytes c from size put fits part k below room =
    let size_after : length (with_card bytes c) ≡ length bytes = length-with_card bytes c fits in
    let here : from + k < length bytes = omega arith in
    put k (omega arith) ∙ ap (byte_after c.offset c.bytes (from + k)) (part k (omega arith) here) ∙ sym (stored_at bytes c (from + k) fits here)

-- where a card's bytes were copied into a part that they meet
copied_at : (part src : List ℕ) (c : DataView) (from start end j : ℕ) → start ≡ max c.offset from → end ≡ min (c.offset + length c.bytes) (from + length part) → start < end → src ≡ between (start - c.offset) (end - c.offset) c.bytes → j < length part → get_or (put_mid (start - from) (end - from - (start - from)) part src) j 0 ≡ byte_after c.offset c.bytes (from + j) (get_or part j 0)
copied_at part src c from start end j low high meet is below =
    let a = start - from in
    let k = end - from - (start - from) in
    let wide : length src ≡ k = simp (is, length-take, length-drop) (omega arith) in
    let front : length (take a part) ≡ a = length-take-le a part (omega arith) in
    elim (cases_lt j a) [
      | inl before ↦ get_or_append_left (take a part) (src ++ drop k (drop a part)) 0 j (omega arith) ∙ get_or-take a part j 0 before ∙ sym (after_below c.offset c.bytes (from + j) (get_or part j 0) (omega arith))
      | inr since ↦ get_or-append_right (take a part) (src ++ drop k (drop a part)) a j 0 front since ∙ elim (cases_lt (j - a) k) [
        | inl inside ↦ get_or_append_left src (drop k (drop a part)) 0 (j - a) (omega arith) ∙ ap (λ xs. get_or xs (j - a) 0) is ∙ get_or-take (end - c.offset - (start - c.offset)) (drop (start - c.offset) c.bytes) (j - a) 0 (omega arith) ∙ get_or-drop (start - c.offset) c.bytes (j - a) 0 ∙ ap (λ i. get_or c.bytes i 0) {x = start - c.offset + (j - a)} {y = from + j - c.offset} (omega arith) ∙ sym (after_inside c.offset c.bytes (from + j) (get_or part j 0) (omega arith) (omega arith))
        | inr past ↦ get_or-append_right src (drop k (drop a part)) k (j - a) 0 wide past ∙ get_or-drop k (drop a part) (j - a - k) 0 ∙ get_or-drop a part (k + (j - a - k)) 0 ∙ ap (λ i. get_or part i 0) {x = a + (k + (j - a - k))} {y = j} (omega arith) ∙ sym (after_past c.offset c.bytes (from + j) (get_or part j 0) (omega arith))
      ]
    ]

-- a part after a card's bytes were copied into it
pub part_copied : (part src bytes : List ℕ) (c : DataView) (from start end : ℕ) → start ≡ max c.offset from → end ≡ min (c.offset + length c.bytes) (from + length part) → start < end → src ≡ between (start - c.offset) (end - c.offset) c.bytes → FitsIn (length bytes) c → IsPartOf part bytes from → IsPartOf (put_mid (start - from) (end - from - (start - from)) part src) (with_card bytes c) from
part_copied part src bytes c from start end low high meet is fits old =
    let wide : length src ≡ end - start = simp (is, length-take, length-drop) (omega arith) in
    let size : length (put_mid (start - from) (end - from - (start - from)) part src) ≡ length part = simp (length-append, length-take, length-drop) (omega arith) in
    part_put part (put_mid (start - from) (end - from - (start - from)) part src) bytes c from size (λ j below. copied_at part src c from start end j low high meet is below) fits old

-- a part that a card's bytes don't meet
pub part_missed : (part bytes : List ℕ) (c : DataView) (from start end : ℕ) → start ≡ max c.offset from → end ≡ min (c.offset + length c.bytes) (from + length part) → end ≤ start → FitsIn (length bytes) c → IsPartOf part bytes from → IsPartOf part (with_card bytes c) from
part_missed part bytes c from start end low high apart fits old =
    part_put part part bytes c from refl (λ j below. elim (cases_lt (from + j) c.offset) [
      | inl before ↦ sym (after_below c.offset c.bytes (from + j) (get_or part j 0) before)
      | inr since ↦ sym (after_past c.offset c.bytes (from + j) (get_or part j 0) (omega arith))
    ]) fits old

-- zeros are a part of zeros
pub zeros_part : (n size from : ℕ) → IsPartOf (replicate n 0) (replicate size 0) from
zeros_part n size from k below room =
    let inside : k < n = omega (arith, length-replicate {A = ℕ} n 0) in
    let whole : from + k < size = omega (arith, length-replicate {A = ℕ} size 0) in
    get_or-replicate n k 0 0 inside ∙ sym (get_or-replicate size (from + k) 0 0 whole)

-- a part of the first bytes has their row
part_row : (part : List ℕ) (size : ℕ) (cards : List DataView) (from n m : ℕ) → All (FitsIn size) cards → from ≤ n → 16 * (n - from) + 16 ≤ length part → IsPartOf part (first_bytes size cards) (16 * from) → 16 * n < size → m ≡ min (16 * n + 16) size - 16 * n → take m (between (16 * (n - from)) (16 * (n - from) + 16) part) ≡ hexadecimal_row 16 (first_bytes size cards) n
part_row part size cards from n m fit later long is exists count =
    let bytes = first_bytes size cards in
    let at = 16 * (n - from) in
    let whole : length bytes ≡ size = length-first size cards fit in
    let end = min (16 * n + 16) (length bytes) in
    let width : end - 16 * n ≡ m = omega arith in
    let room : 16 * n + m ≤ length bytes = omega arith in
    let left : length (take m (between at (at + 16) part)) ≡ m = simp (length-take, length-drop) (omega arith) in
    let right : length (take (end - 16 * n) (drop (16 * n) bytes)) ≡ m = simp (length-take, length-drop) (omega arith) in
    ext_get_or 0 (take m (between at (at + 16) part)) (hexadecimal_row 16 bytes n) (left ∙ sym right)
    (λ k below. get_or-take m (between at (at + 16) part) k 0 (omega arith) ∙ get_or-take (at + 16 - at) (drop at part) k 0 (omega arith) ∙ get_or-drop at part k 0 ∙ is (at + k) (omega arith) (omega arith) ∙ ap (λ i. get_or bytes i 0) {x = 16 * from + (at + k)} {y = 16 * n + k} (omega arith) ∙ sym (get_or-drop (16 * n) bytes k 0) ∙ sym (get_or-take (end - 16 * n) (drop (16 * n) bytes) k 0 (omega arith)))

-- the lines of a row by such a part
pub part_row_lines : (part now row : List ℕ) (size : ℕ) (cards : List DataView) (from n : ℕ) → All (FitsIn size) cards → from ≤ n → 16 * (n - from) + 16 ≤ length part → IsPartOf part (first_bytes size cards) (16 * from) → length now ≡ size → 16 * n < size → row ≡ hexadecimal_row 16 now n → row_lines (16 * n) (take (length row) (between (16 * (n - from)) (16 * (n - from) + 16) part)) row ≡ changed_row (first_bytes size cards) now n
part_row_lines part now row size cards from n fit later long is whole exists read =
    let count : length row ≡ min (16 * n + 16) size - 16 * n = simp (read, length-take, length-drop) (omega arith) in
    ap (λ first. row_lines (16 * n) first row) (part_row part size cards from n (length row) fit later long is exists count) ∙ ap (row_lines (16 * n) (hexadecimal_row 16 (first_bytes size cards) n)) read
