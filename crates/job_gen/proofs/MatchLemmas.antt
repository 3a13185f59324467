-- The generated listing matches its module: it has a heading, each of its lines is one of an instruction, and none has a fault.
use Rattle.std.proofs.Common.{◌≡◌, ◌≢◌, ℕ, zero, suc, ◌+◌, ◌*◌, ◌%◌, ◌<◌, ◌≤◌, true, false, nat_eq, nat_le, nat_lt, ◌==◌, Option, Some, None, List, [], ◌∷◌, ◌++◌, length, refl, sym, ap, ◌∙◌, subst, arith, append_assoc, append-nil, length-append, div-add-mod'}
use Rattle.std.proofs.lemmas.Slice.Eq.{bytes_eq-Decides}
use Rattle.std.specs.Prelude.{slice_index, count_by}
use Rattle.std.specs.List.{list_any}
use Rattle.std.specs.Str.{bytes_eq}
use Rattle.std.proofs.lemmas.Bool.{cond_both}
use Rattle.std.proofs.lemmas.Bool.Decides.{nat_tests}
use Rattle.std.proofs.lemmas.List.{get_or-append-add}
use Rattle.std.proofs.lemmas.List.Sums.{count_by-le-length}
use Rattle.cov_base.specs.Meaning.{breakpoint, length_of}
use Rattle.listing_reader.specs.declared.columns.Width.TheVariants.{Narrow}
use Rattle.listing_reader.specs.Meaning.{narrow_text, is_text_after, heading_of, lines_behind}
use Rattle.listing_reader.specs.Meaning as reader
use Rattle.listing_reader.specs.declared.lines.Line.{Line}
use Rattle.listing_reader.specs.declared.lines.Line.TheVariants.{Text}
use Rattle.listing_reader.specs.declared.lines.Line.TheVariants as says
use Rattle.brk_table.specs.Meaning.{is_code, shares, module_code, fault_by, first_fault}
use Rattle.s370_decode.specs.Meaning.{first_half}
use Rattle.s370_decode.specs.declared.code.Code.{Code}
use Rattle.job_gen.specs.Meaning.{object, short, long_form, test_block, drawn, next, kind, block_of, block, code_bytes, code_from, statement_lines, heading, made_listing, trial_code, trial_module}
use Rattle.job_gen.specs.declared.instruction.Instruction.{Instruction}
use Rattle.job_gen.specs.declared.instruction.Operation.{Operation}
use Rattle.job_gen.specs.declared.instruction.Operation.TheVariants.{La, Ar, Ltr, Bc, Lcr, St, Bct, Br}
use Rattle.job_gen.proofs.CodeLemmas.{code_more, code_end, code_size, block_size}
use Rattle.job_gen.proofs.LineLemmas.{IsSound, code_of, narrow, plain, line_is}

-- ---- the instructions

-- an instruction that a listing may have: its halfwords are sound, and it isn't the breakpoint
record IsFree (i : Instruction) : Type 0 where
  sound : IsSound i
  free : i.first ≢ breakpoint

abbrev AreFree : List Instruction → Type 0
AreFree [] = Unit {0}
AreFree (i ∷ is) = IsFree i × AreFree is

free_append : (xs ys : List Instruction) → AreFree xs → AreFree ys → AreFree (xs ++ ys)
free_append [] ys p q = q
free_append (x ∷ xs) ys p q = (p.0, free_append xs ys p.1 q)

size_one : (first : ℕ) → first < 16384 → length_of first ≡ 2
unfolding length_of
size_one first h = grind (arith, nat_tests)

size_two : (first : ℕ) → 16384 ≤ first → first < 49152 → length_of first ≡ 4
unfolding length_of
size_two first h k = grind (arith, nat_tests)

free_one : (o : Operation) (first : ℕ) → first < 16384 → first ≢ breakpoint → IsFree (short o first)
free_one o first h other = record { sound = record { first = omega arith; second = tt; size = rw (size_one first h) refl }; free = other }

free_two : (o : Operation) (first half : ℕ) → half < 65536 → 16384 ≤ first → first < 49152 → IsFree (long_form o first half)
free_two o first half small from to =
    record { sound = record { first = omega arith; second = small; size = rw (size_two first from to) refl }; free = λ q. absurd (omega (arith, q)) }

free_test : (m t : ℕ) → m ≤ 14 → t < 4096 → AreFree (test_block m t)
free_test m t h k = (free_one Ltr 4642 (omega arith) (λ q. absurd (omega (arith, q))), (free_two Bc (18176 + 16 * m) (61440 + t) (omega arith) (omega arith) (omega arith), (free_one Lcr 4898 (omega arith) (λ q. absurd (omega (arith, q))), tt)))

free_block_of : (n x at : ℕ) → at ≤ 4000 → AreFree (block_of n x at)
free_block_of n x at h =
    cond_both (nat_eq n 0) _ _ AreFree (λ _. (free_two La 16656 (4096 + drawn x 16) (omega arith) (omega arith) (omega arith), tt))
    (λ _. cond_both (nat_eq n 1) _ _ AreFree (λ _. (free_one Ar 6689 (omega arith) (λ q. absurd (omega (arith, q))), tt))
    (λ _. cond_both (nat_eq n 2) _ _ AreFree (λ _. free_test (1 + drawn x 14) (at + 8) (omega arith) (omega arith))
    (λ _. (free_two St 20512 (4 * drawn x 64) (omega arith) (omega arith) (omega arith), tt))))

free_block : (x at : ℕ) → at ≤ 4000 → AreFree (block x at)
unfolding block
free_block x at h = free_block_of (kind x) (next (next x)) at h

free_code : (n x at : ℕ) → at + 8 * n ≤ 4000 → AreFree (code_from n x at)
free_code zero x at h = rw (code_end zero x at refl) (free_two Bct 17968 61440 (omega arith) (omega arith) (omega arith), (free_one Br 2046 (omega arith) (λ q. absurd (omega (arith, q))), tt))
free_code (suc n) x at h =
    let size = (block_size x at).fits in
    rw (code_more (suc n) n x at (omega arith)) (free_append (block x at) _ (free_block x at (omega arith)) (free_code n _ _ (omega arith)))

-- ---- the lines

abbrev code_lines : ℕ → List Instruction → List Line
code_lines at [] = []
code_lines at (i ∷ is) = says.Code at (code_of i) ∷ code_lines (at + length (object i)) is

lines_are : (earlier : List Line) (is : List Instruction) (at n : ℕ) → at + length (code_bytes is) ≤ 16777215 → n + length is ≤ 100000 → AreFree is → lines_behind earlier narrow 0 (statement_lines at n is) ≡ Some (earlier ++ code_lines at is)
lines_are earlier [] at n h k p = ap (λ ls. Some ls) (sym (append-nil earlier))
lines_are earlier (i ∷ is) at n h k p =
    let size : length (code_bytes (i ∷ is)) ≡ length (object i) + length (code_bytes is) = length-append (object i) (code_bytes is) in
    let line : Line = says.Code at (code_of i) in
    let later = lines_are (earlier ++ line ∷ []) is (at + length (object i)) (n + 1) (omega arith) (omega arith) p.1 in
    rw (line_is at n i (omega arith) (omega arith) p.0.sound) (later ∙ ap (λ ls. Some ls) (append_assoc earlier (line ∷ []) (code_lines (at + length (object i)) is)))

heading_is : is_text_after narrow_text heading 2 ≡ true
unfolding is_text_after
heading_is = refl

heading_first : (lines : List (List ℕ)) → heading_of (heading ∷ lines) ≡ Some (0, 0, Narrow)
heading_first lines =
    let some : nat_lt 0 (suc (length lines)) ≡ true = grind (arith, nat_tests) in
    rw (heading_is, some, heading_is) refl

listing_is : (code : List Instruction) → length (code_bytes code) ≤ 16777215 → length code ≤ 2000 → AreFree code → reader.listing_of (made_listing code) ≡ Some (Text ∷ code_lines 0 code)
unfolding made_listing
listing_is code h k p = rw (heading_first (statement_lines 0 1 code)) (lines_are (Text ∷ []) code 0 1 (omega arith) (omega arith) p)

-- ---- the module

-- each instruction ends at a location or before it
abbrev AreBefore : ℕ → List Line → Type 0
AreBefore at [] = Unit {0}
AreBefore at (Text ∷ lines) = AreBefore at lines
AreBefore at (says.Code loc code ∷ lines) = (loc + code.len ≤ at) × AreBefore at lines

before_more : (at size : ℕ) (code : Code) (lines : List Line) → AreBefore at lines → code.len ≡ size → AreBefore (at + size) (lines ++ says.Code at code ∷ [])
before_more at size code [] p e = (omega arith, tt)
before_more at size code (Text ∷ lines) p e = before_more at size code lines p e
before_more at size code (says.Code loc other ∷ lines) p e = (omega (arith, p.0), before_more at size code lines p.1 e)

none_shared : (at : ℕ) (code : Code) (lines : List Line) → AreBefore at lines → list_any (shares at code) lines ≡ false
none_shared at code [] p = refl
none_shared at code (Text ∷ lines) p = none_shared at code lines p
none_shared at code (says.Code loc other ∷ lines) p =
    let end = p.0 in
    let past : nat_lt at (loc + other.len) ≡ false = grind (arith, nat_tests) in
    rw past (none_shared at code lines p.1)

no_fault : (bytes : List ℕ) (room before n loc : ℕ) (code : Code) → loc % 2 ≡ 0 → loc + code.len ≤ length bytes → before < room → first_half code ≢ breakpoint → code.bytes ≡ (module_code bytes loc code.len).bytes →
    fault_by bytes room false before n loc code ≡ None
unfolding fault_by
no_fault bytes room before n loc code even inside fits other same =
    let a : (loc % 2 == 1) ≡ false = grind (arith, nat_tests) in
    let b : nat_lt (length bytes) (loc + code.len) ≡ false = grind (arith, nat_tests) in
    let c : nat_le room before ≡ false = grind (arith, nat_tests) in
    let d : (first_half code == breakpoint) ≡ false = grind (arith, nat_tests) in
    let e : bytes_eq code.bytes (module_code bytes loc code.len).bytes ≡ true = (bytes_eq-Decides code.bytes (module_code bytes loc code.len).bytes).1 same in
    rw (a, b, c, d, e) refl

-- the module has the code's bytes
module_has : (before rest : List ℕ) (i : Instruction) → (module_code (before ++ (object i ++ rest)) (length before) (length (object i))).bytes ≡ (code_of i).bytes
unfolding module_code
module_has before rest i = by_second i.second
  where
    at : (ys : List ℕ) (k : ℕ) → slice_index (before ++ ys) (length before + k) ≡ slice_index ys k
    at ys k = get_or-append-add before ys k 0

    by_second : (s : Option ℕ) → (module_code (before ++ (object (plain i.operation i.first s) ++ rest)) (length before) (length (object (plain i.operation i.first s)))).bytes ≡ (code_of (plain i.operation i.first s)).bytes
    by_second None = rw (at _ 0, at _ 1) refl
    by_second (Some half) = rw (at _ 0, at _ 1, at _ 2, at _ 3) refl

even_size : (i : Instruction) → length (object i) % 2 ≡ 0
even_size i = by_second i.second
  where
    by_second : (s : Option ℕ) → length (object (plain i.operation i.first s)) % 2 ≡ 0
    by_second None = refl
    by_second (Some half) = refl

code_free : (i : Instruction) → i.first ≢ breakpoint → first_half (code_of i) ≢ breakpoint
code_free i h = λ e. h (sym (div-add-mod' i.first 256) ∙ e)

-- code behind other code, whose lines came before
none_first : (is : List Instruction) (room : ℕ) (before : List ℕ) (earlier : List Line) → AreFree is → AreBefore (length before) earlier → length before % 2 ≡ 0 → length earlier + length is ≤ room →
    first_fault (before ++ code_bytes is) room earlier (code_lines (length before) is) ≡ None
none_first [] room before earlier p b even fits = refl
none_first (i ∷ is) room before earlier p b even fits =
    let code : Code = code_of i in
    let at : ℕ = length before in
    let bytes : List ℕ = before ++ (object i ++ code_bytes is) in
    let count = count_by-le-length is_code earlier in
    let size : length bytes ≡ at + (length (object i) + length (code_bytes is)) = length-append before (object i ++ code_bytes is) ∙ ap (λ n. at + n) (length-append (object i) (code_bytes is)) in
    let here : fault_by bytes room false (count_by is_code earlier) (length earlier + 1) at code ≡ None =
    no_fault bytes room (count_by is_code earlier) (length earlier + 1) at code even (omega arith) (omega arith) (code_free i p.0.free) (sym (module_has before (code_bytes is) i)) in
    let next : at + length (object i) ≡ length (before ++ object i) = sym (length-append before (object i)) in
    let whole : bytes ≡ (before ++ object i) ++ code_bytes is = sym (append_assoc before (object i) (code_bytes is)) in
    let later = none_first is room (before ++ object i) (earlier ++ says.Code at code ∷ []) p.1
    (subst (λ n. AreBefore n (earlier ++ says.Code at code ∷ [])) next (before_more at (length (object i)) code earlier b refl))
    (omega (arith, even_size i, next)) (omega (arith, length-append earlier (says.Code at code ∷ []))) in
    let more : List Line = earlier ++ says.Code at code ∷ [] in
    let there : first_fault bytes room more (code_lines (at + length (object i)) is) ≡ None =
    subst (λ ys. first_fault ys room more (code_lines (at + length (object i)) is) ≡ None) (sym whole) (subst (λ n. first_fault ((before ++ object i) ++ code_bytes is) room more (code_lines n is) ≡ None) (sym next) later) in
    rw (none_shared at code earlier b, here) there

-- what the listing of a generated module says
abbrev pub trial_lines : ℕ → List Line
trial_lines number = Text ∷ code_lines 0 (trial_code number)

pub trial_listing : (number : ℕ) → reader.listing_of (made_listing (trial_code number)) ≡ Some (trial_lines number)
unfolding trial_code
trial_listing number =
    let size = code_size 400 number 0 in
    listing_is (code_from 400 number 0) (omega (arith, size.fits)) (omega (arith, size.most)) (free_code 400 number 0 (omega arith))

pub trial_matches : (number : ℕ) → first_fault (trial_module number).bytes 65536 [] (trial_lines number) ≡ None
unfolding trial_code
trial_matches number =
    let most = (code_size 400 number 0).most in
    none_first (code_from 400 number 0) 65536 [] (Text ∷ []) (free_code 400 number 0 (omega arith)) tt refl (omega (arith, most))

length-lines : (is : List Instruction) (at n : ℕ) → length (statement_lines at n is) ≡ length is
length-lines [] at n = refl
length-lines (i ∷ is) at n = ap (λ k. suc k) (length-lines is (at + length (object i)) (n + 1))

-- a heading, and a line for each instruction
pub trial_listing_size : (number : ℕ) → length (made_listing (trial_code number)) ≤ 1203
unfolding trial_code made_listing
trial_listing_size number = omega (arith, length-lines (code_from 400 number 0) 0 1, (code_size 400 number 0).most)
