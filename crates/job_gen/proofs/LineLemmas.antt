-- What the reader finds in a generated line: its location, its object code and a mnemonic.
use Rattle.std.proofs.Common.{◌≡◌, ℕ, zero, suc, ◌+◌, ◌-◌, ◌*◌, ◌/◌, ◌%◌, ◌^◌, ◌<◌, ◌≤◌, true, false, Option, Some, None, List, [], ◌∷◌, ◌++◌, length, get_or, drop, replicate, map, decimal, refl, sym, ap, ◌∙◌, subst, arith, add-one, append_assoc, length-append, div-add-mod'}
use Rattle.std.specs.Prelude.{IfSome}
use Rattle.std.specs.Char.{to_ascii_uppercase}
use Rattle.std.specs.Option.{option_map_or}
use Rattle.std.specs.Fmt.{digit_glyph}
use Rattle.std.proofs.Math.Seq.{get_or-append_seam, drop-append-add}
use Rattle.std.proofs.lemmas.Bool.Decides.{nat_tests}
use Rattle.std.proofs.lemmas.Fmt.{length-decimal-le}
use Rattle.std.proofs.lemmas.List.{length-replicate, get_or-drop}
use Rattle.hex.specs.Hex.{hex_digit_value, is_hex_digit}
use Rattle.annotator.specs.Meaning.{hex_digits}
use Rattle.cov_base.specs.Meaning.{length_of}
use Rattle.listing_reader.specs.declared.columns.Columns.{Columns}
use Rattle.listing_reader.specs.declared.columns.Width.TheVariants.{Narrow}
use Rattle.listing_reader.specs.Meaning.{columns_of, column, all_below, fits_groups, are_blank, is_blank, is_blank_at, number_in, column_location, byte_in, code_in, are_groups, object_of, skip_blanks, word_run, has_mnemonic, is_instruction, line_of}
use Rattle.listing_reader.proofs.Laws.{all_below_false, number_in_more, byte_in_two}
use Rattle.listing_reader.specs.declared.lines.Line.TheVariants as says
use Rattle.s370_decode.specs.Meaning.{mnemonics, is_mnemonic}
use Rattle.s370_decode.specs.declared.code.Code.{Code}
use Rattle.job_gen.specs.Meaning.{object, name_of, groups, object_text, number_text, plain_line}
use Rattle.job_gen.specs.declared.instruction.Instruction.{Instruction}
use Rattle.job_gen.specs.declared.instruction.Operation.{Operation}
use Rattle.job_gen.specs.declared.instruction.Operation.TheVariants.{La, Ar, Ltr, Bc, Lcr, St, Bct, Br}

abbrev pub narrow : Columns
narrow = columns_of Narrow

-- a blank and the second halfword's digits
abbrev pub second_group : Option ℕ → List ℕ
second_group second = option_map_or (λ half. 32 ∷ hex_digits 4 half) second []

-- ---- hexadecimal digits

glyph_value : (d : ℕ) → d < 16 → hex_digit_value (digit_glyph true d) ≡ Some d
glyph_value d h = grind (arith, nat_tests)

digit_value : (x : ℕ) → hex_digit_value (digit_glyph true (x % 16)) ≡ Some (x % 16)
digit_value x = glyph_value (x % 16) (omega arith)

digit_is : (x : ℕ) → is_hex_digit (digit_glyph true (x % 16)) ≡ true
digit_is x = rw (digit_value x) refl

glyph_is_no_blank : (d : ℕ) → d < 16 → is_blank (digit_glyph true d) ≡ false
glyph_is_no_blank d h = grind (arith, nat_tests)

digit_is_no_blank : (x : ℕ) → is_blank (digit_glyph true (x % 16)) ≡ false
digit_is_no_blank x = glyph_is_no_blank (x % 16) (omega arith)

length-digits : (k v : ℕ) → length (hex_digits k v) ≡ k
length-digits zero v = refl
length-digits (suc k) v = rw length-append (omega (arith, length-digits k (v / 16)))

column_is : (line : List ℕ) (n : ℕ) → column line 0 (n + 1) ≡ get_or line n 32
unfolding column
column_is line n = let e : 0 + (n + 1) - 1 ≡ n = omega arith in rw e refl

-- the digits of a number behind other bytes
column_digit : (before rest : List ℕ) (k w : ℕ) (b : ℕ) → column (before ++ (hex_digits k w ++ b ∷ rest)) 0 (length before + 1 + k) ≡ b
column_digit before rest k w b =
    let at : length before + 1 + k ≡ length (before ++ hex_digits k w) + 1 = omega (arith, length-append before (hex_digits k w), length-digits k w) in
    let line : before ++ (hex_digits k w ++ b ∷ rest) ≡ (before ++ hex_digits k w) ++ b ∷ rest = sym (append_assoc before (hex_digits k w) (b ∷ rest)) in
    rw (at, line) (column_is ((before ++ hex_digits k w) ++ b ∷ rest) (length (before ++ hex_digits k w)) ∙ get_or-append_seam (before ++ hex_digits k w) b rest 32)

no_digits : (line : List ℕ) (from : ℕ) → number_in line 0 from 0 ≡ Some 0
unfolding number_in
no_digits line from = refl

pub number_behind : (before rest : List ℕ) (k v : ℕ) → v < 16 ^ k → number_in (before ++ (hex_digits k v ++ rest)) 0 (length before + 1) k ≡ Some v
number_behind before rest zero v h = let e : 0 ≡ v = omega arith in no_digits (before ++ rest) (length before + 1) ∙ ap (λ n. Some n) e
number_behind before rest (suc k) v h =
    let last : ℕ = digit_glyph true (v % 16) in
    let line : before ++ (hex_digits (suc k) v ++ rest) ≡ before ++ (hex_digits k (v / 16) ++ last ∷ rest) = ap (λ xs. before ++ xs) (append_assoc (hex_digits k (v / 16)) (last ∷ []) rest) in
    let less : v / 16 < 16 ^ k = omega arith in
    let front = number_behind before (last ∷ rest) k (v / 16) less in
    let digit = ap hex_digit_value (column_digit before rest k (v / 16) last) ∙ digit_value v in
    let more = number_in_more (before ++ (hex_digits k (v / 16) ++ last ∷ rest)) 0 (length before + 1) k (v / 16) (v % 16) front digit in
    let all : 16 * (v / 16) + v % 16 ≡ v = omega arith in
    rw line (subst (λ n. number_in (before ++ (hex_digits k (v / 16) ++ last ∷ rest)) 0 (length before + 1) n ≡ Some v) (add-one k) (more ∙ ap (λ n. Some n) all))

-- ---- the parts of a line

length-number : (n : ℕ) → n < 100000 → length (number_text n) ≡ 5
unfolding number_text
length-number n h =
    let most : length (decimal n) ≤ 5 = length-decimal-le 5 n (omega arith) (omega arith) (omega arith) in
    rw (length-append, length-replicate) (omega arith)

length-object : (i : Instruction) → length (object_text i) ≡ 27
unfolding object_text groups
length-object i = by_second i.second
  where
    by_second : (second : Option ℕ) → length ((hex_digits 4 i.first ++ second_group second) ++ replicate (27 - length (hex_digits 4 i.first ++ second_group second)) 32) ≡ 27
    by_second None = refl
    by_second (Some half) = refl

-- what stands before the ten blanks
abbrev front : ℕ → ℕ → Instruction → List ℕ
front at n i = hex_digits 6 at ++ 32 ∷ object_text i ++ number_text n

length-front : (at n : ℕ) (i : Instruction) → n < 100000 → length (front at n i) ≡ 39
length-front at n i h = rw length-append (omega (arith, length-append (object_text i) (number_text n), length-object i, length-number n h))

line_parts : (at n : ℕ) (i : Instruction) → plain_line at n i ≡ front at n i ++ 32 ∷ (replicate 9 32 ++ name_of i.operation)
unfolding plain_line
line_parts at n i = simp append_assoc refl

source_is : (at n : ℕ) (i : Instruction) → n < 100000 → drop 40 (plain_line at n i) ≡ replicate 9 32 ++ name_of i.operation
source_is at n i h =
    let size : 40 ≡ length (front at n i) + 1 = omega (arith, length-front at n i h) in
    rw (line_parts at n i, size) (drop-append-add (front at n i) (32 ∷ (replicate 9 32 ++ name_of i.operation)) 1)

source_blank : (at n : ℕ) (i : Instruction) → n < 100000 → column (plain_line at n i) 0 41 ≡ 32
source_blank at n i h =
    column_is (plain_line at n i) 40 ∙ (sym (get_or-drop 40 (plain_line at n i) 0 32) ∙ ap (λ (xs : List ℕ). get_or xs 0 32) (source_is at n i h))

mnemonic_is : (o : Operation) → is_mnemonic (map to_ascii_uppercase (word_run (skip_blanks (replicate 9 32 ++ name_of o)))) ≡ true
unfolding is_mnemonic mnemonics
mnemonic_is La = refl
mnemonic_is Ar = refl
mnemonic_is Ltr = refl
mnemonic_is Bc = refl
mnemonic_is Lcr = refl
mnemonic_is St = refl
mnemonic_is Bct = refl
mnemonic_is Br = refl

has_name : (at n : ℕ) (i : Instruction) → n < 100000 → has_mnemonic narrow (plain_line at n i) 0 ≡ true
unfolding has_mnemonic
has_name at n i h = rw (source_blank at n i h, source_is at n i h) (mnemonic_is i.operation)

located : (at n : ℕ) (i : Instruction) → at < 16777216 → column_location narrow (plain_line at n i) 0 ≡ Some at
located at n i h =
    let line : plain_line at n i ≡ hex_digits 6 at ++ (32 ∷ object_text i ++ number_text n ++ 32 ∷ (replicate 9 32 ++ name_of i.operation)) = line_parts at n i ∙ append_assoc (hex_digits 6 at) (32 ∷ object_text i ++ number_text n) (32 ∷ (replicate 9 32 ++ name_of i.operation)) in
    rw line (number_behind [] (32 ∷ object_text i ++ number_text n ++ 32 ∷ (replicate 9 32 ++ name_of i.operation)) 6 at h)

-- a blank behind the location, and a digit behind that
after_location : (at n : ℕ) (i : Instruction) → is_blank_at (plain_line at n i) 0 7 ≡ true
unfolding plain_line column
after_location at n i = refl

object_begins : (at n : ℕ) (i : Instruction) → is_blank_at (plain_line at n i) 0 8 ≡ false
unfolding plain_line column object_text groups
object_begins at n i = digit_is_no_blank (i.first / 16 / 16 / 16)

has_object : (at n : ℕ) (i : Instruction) → are_blank (plain_line at n i) 0 8 14 ≡ false
unfolding are_blank
has_object at n i = all_below_false (λ k. is_blank_at (plain_line at n i) 0 (8 + k)) 14 0 (object_begins at n i) (omega arith)

instruction_is : (at n : ℕ) (i : Instruction) → at < 16777216 → n < 100000 → is_instruction narrow (plain_line at n i) 0 ≡ true
unfolding is_instruction
instruction_is at n i h k = rw (located at n i h, after_location at n i, has_name at n i k, has_object at n i) refl

-- ---- the object code

abbrev pub plain : Operation → ℕ → Option ℕ → Instruction
plain o first second = record { operation = o; first = first; second = second }

-- the code of an instruction as the reader gives it
abbrev pub code_of : Instruction → Code
code_of i = record { at = 0; bytes = object i ++ replicate (6 - length (object i)) 0; len = length (object i) }

-- each halfword has 16 bits, and the first gives the length
pub record IsSound (i : Instruction) : Type 0 where
  pub first : i.first < 65536
  pub second : IfSome i.second (λ half. half < 65536)
  pub size : length_of i.first ≡ length (object i)

high_of : (half : ℕ) → half < 65536 → 16 * (16 * 0 + half / 16 / 16 / 16 % 16) + half / 16 / 16 % 16 ≡ half / 256
high_of half h = omega arith

low_of : (half : ℕ) → 16 * (16 * 0 + half / 16 % 16) + half % 16 ≡ half % 256
low_of half = omega arith

module _ (at n first : ℕ) (o : Operation) where
  byte_0 : (s : Option ℕ) → first < 65536 → byte_in narrow (plain_line at n (plain o first s)) 0 0 ≡ first / 256
  unfolding plain_line column object_text groups
  byte_0 s h = byte_in_two narrow (plain_line at n (plain o first s)) 0 0 (Some (first / 16 / 16 / 16 % 16)) (Some (first / 16 / 16 % 16)) (digit_value (first / 16 / 16 / 16)) (digit_value (first / 16 / 16)) ∙ high_of first h

  byte_1 : (s : Option ℕ) → byte_in narrow (plain_line at n (plain o first s)) 0 1 ≡ first % 256
  unfolding plain_line column object_text groups
  byte_1 s = byte_in_two narrow (plain_line at n (plain o first s)) 0 1 (Some (first / 16 % 16)) (Some (first % 16)) (digit_value (first / 16)) (digit_value first) ∙ low_of first

  byte_2 : (half : ℕ) → half < 65536 → byte_in narrow (plain_line at n (plain o first (Some half))) 0 2 ≡ half / 256
  unfolding plain_line column object_text groups
  byte_2 half h = byte_in_two narrow (plain_line at n (plain o first (Some half))) 0 2 (Some (half / 16 / 16 / 16 % 16)) (Some (half / 16 / 16 % 16)) (digit_value (half / 16 / 16 / 16)) (digit_value (half / 16 / 16)) ∙ high_of half h

  byte_3 : (half : ℕ) → byte_in narrow (plain_line at n (plain o first (Some half))) 0 3 ≡ half % 256
  unfolding plain_line column object_text groups
  byte_3 half = byte_in_two narrow (plain_line at n (plain o first (Some half))) 0 3 (Some (half / 16 % 16)) (Some (half % 16)) (digit_value (half / 16)) (digit_value half) ∙ low_of half

  one_group : are_groups narrow (plain_line at n (plain o first None)) 0 1 ≡ true
  unfolding are_groups all_below plain_line column object_text groups
  one_group = simp digit_is refl

  two_groups : (half : ℕ) → are_groups narrow (plain_line at n (plain o first (Some half))) 0 2 ≡ true
  unfolding are_groups all_below plain_line column object_text groups
  two_groups half = simp digit_is refl

  -- where a second one begins there is no blank
  second_begins : (half : ℕ) → fits_groups (plain_line at n (plain o first (Some half))) 0 8 1 5 ≡ false
  unfolding plain_line column object_text groups
  second_begins half = digit_is_no_blank (half / 16 / 16 / 16)

  not_one_group : (half : ℕ) → are_groups narrow (plain_line at n (plain o first (Some half))) 0 1 ≡ false
  unfolding are_groups
  not_one_group half = all_below_false (fits_groups (plain_line at n (plain o first (Some half))) 0 8 1) 14 5 (second_begins half) (omega arith)

  code_one : first < 65536 → code_in narrow (plain_line at n (plain o first None)) 0 1 ≡ code_of (plain o first None)
  unfolding code_in
  code_one h = rw (byte_0 None h, byte_1 None) refl

  code_two : (half : ℕ) → first < 65536 → half < 65536 → code_in narrow (plain_line at n (plain o first (Some half))) 0 2 ≡ code_of (plain o first (Some half))
  unfolding code_in
  code_two half h k = rw (byte_0 (Some half) h, byte_1 (Some half), byte_2 half k, byte_3 half) refl

object_one : (at n first : ℕ) (o : Operation) → IsSound (plain o first None) → object_of narrow (plain_line at n (plain o first None)) 0 ≡ Some (code_of (plain o first None))
unfolding object_of
object_one at n first o p = rw (one_group at n first o, code_one at n first o p.first, div-add-mod' first 256, p.size) refl

object_two : (at n first half : ℕ) (o : Operation) → IsSound (plain o first (Some half)) → object_of narrow (plain_line at n (plain o first (Some half))) 0 ≡ Some (code_of (plain o first (Some half)))
unfolding object_of
object_two at n first half o p = rw (not_one_group at n first o half, two_groups at n first o half, code_two at n first o half p.first p.second, div-add-mod' first 256, p.size) refl

line_with : (at n : ℕ) (i : Instruction) → at < 16777216 → n < 100000 → object_of narrow (plain_line at n i) 0 ≡ Some (code_of i) → line_of narrow 0 (plain_line at n i) ≡ Some (says.Code at (code_of i))
unfolding line_of
line_with at n i h k e = rw (instruction_is at n i h k, located at n i h, e) refl

pub line_is : (at n : ℕ) (i : Instruction) → at < 16777216 → n < 100000 → IsSound i → line_of narrow 0 (plain_line at n i) ≡ Some (says.Code at (code_of i))
line_is at n i h k p = line_with at n i h k (by_second i.second p)
  where
    by_second : (s : Option ℕ) → IsSound (plain i.operation i.first s) → object_of narrow (plain_line at n (plain i.operation i.first s)) 0 ≡ Some (code_of (plain i.operation i.first s))
    by_second None q = object_one at n i.first i.operation q
    by_second (Some half) q = object_two at n i.first half i.operation q
