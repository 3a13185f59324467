-- Words as numbers: different words of bytes have different numbers, and the table's rise.
use Rattle.std.proofs.Common.{◌≡◌, ℕ, ◌+◌, ◌*◌, ◌^◌, ◌<◌, ◌≤◌, zero, suc, Bool, true, false, ◌&&◌, nat_eq, nat_lt, nat_le, List, [], ◌∷◌, map, reverse, length, take, get_or, Result, Ok, Err, inl, inr, refl, sym, ap, ◌∙◌, add-one, arith, lit<}
use Rattle.std.specs.List.{list_all, list_any}
use Rattle.std.specs.List.Sorted.{IsBinarySearchResult}
use Rattle.std.specs.Ordering.{nat_cmp}
use Rattle.std.specs.Result.{is_ok}
use Rattle.std.specs.Str.{bytes_eq}
use Rattle.std.proofs.lemmas.Bool.Decides.{nat_tests, same_from_decides, Decides-eqb}
use Rattle.std.proofs.lemmas.Grind.{reverse_onto}
use Rattle.std.proofs.lemmas.List.{take_more, reverse-append, reverse-reverse}
use Rattle.std.proofs.lemmas.List.Folds.{list_all-append, list_any_at}
use Rattle.std.proofs.lemmas.List.Sorted.{searched}
use Rattle.std.proofs.lemmas.Slice.Eq.{bytes_eq-Decides}
use Rattle.std.proofs.Math.Nat.{pow-suc, pow-le-pow_right}
use Rattle.std.proofs.lemmas.Bool.{and_parts, cases_lt, leb-true, lt-ltb, ltb-true}
use Rattle.std.proofs.lemmas.Nat.{same_from_place}
use Rattle.s370_decode.specs.Meaning.{mnemonics}
use Rattle.s370_decode.specs.Mnemonics.{backward, word_number}

pub small_power : (i : ℕ) → i < 5 → 256 ^ i ≤ 4294967296
small_power i h = pow-le-pow_right {n = 256} (lit< tt) {i = i} {j = 4} (omega arith)

-- a letter more
pub word_more : (word : List ℕ) (i b : ℕ) → i < length word → get_or word i 0 ≡ b → word_number (take (i + 1) word) ≡ word_number (take i word) * 256 + b
unfolding backward
word_more word i b l e = rw (take_more word i 0 l, e, reverse-append (take i word) (b ∷ [])) refl

abbrev is_byte : ℕ → Bool
is_byte b = nat_lt b 256

abbrev is_text : List ℕ → Bool
is_text word = list_all is_byte word

at_least : (bs : List ℕ) → 1 ≤ backward bs
unfolding backward
at_least [] = omega arith
at_least (b ∷ bs) = omega (arith, at_least bs)

same_backward : (u v : List ℕ) → is_text u ≡ true → is_text v ≡ true → backward u ≡ backward v → u ≡ v
unfolding backward
same_backward [] [] p q e = refl
same_backward [] (c ∷ v) p q e = absurd (omega (arith, at_least v))
same_backward (b ∷ u) [] p q e = absurd (omega (arith, at_least u))
same_backward (b ∷ u) (c ∷ v) p q e =
    let i = and_parts (is_byte b) _ p in
    let j = and_parts (is_byte c) _ q in
    let same = same_from_place (backward u) b (backward v) c 256 (ltb-true b 256 i.0) (ltb-true c 256 j.0) e in
    let first : b ≡ c = same.1 in
    let rest : u ≡ v = same_backward u v i.1 j.1 same.0 in
    cc

text_reverse : (word : List ℕ) → is_text word ≡ true → is_text (reverse word) ≡ true
text_reverse [] h = refl
text_reverse (b ∷ word) h =
    let p = and_parts (is_byte b) _ h in
    rw (reverse_onto word b [], list_all-append is_byte (reverse word) (b ∷ []), text_reverse word p.1, p.0) refl

same_number : (u v : List ℕ) → is_text u ≡ true → is_text v ≡ true → word_number u ≡ word_number v → u ≡ v
same_number u v p q e =
    let h : reverse u ≡ reverse v = same_backward (reverse u) (reverse v) (text_reverse u p) (text_reverse v q) e in
    sym (reverse-reverse u) ∙ ap reverse h ∙ reverse-reverse v

same_test : (u v : List ℕ) → is_text u ≡ true → is_text v ≡ true → bytes_eq u v ≡ nat_eq (word_number u) (word_number v)
same_test u v p q =
    let d = bytes_eq-Decides u v in
    let n = Decides-eqb (word_number u) (word_number v) in
    same_from_decides _ _ d ((λ t. same_number u v p q (n.0 t)), (λ e. n.1 (ap word_number e)))

pub words_by_number : (ms : List (List ℕ)) (word : List ℕ) → list_all is_text ms ≡ true → is_text word ≡ true
    → list_any (λ m. bytes_eq m word) ms ≡ list_any (λ m. nat_eq m (word_number word)) (map word_number ms)
words_by_number [] word p q = refl
words_by_number (m ∷ ms) word p q =
    let t = and_parts (is_text m) _ p in
    rw (same_test m word t.0 q, words_by_number ms word t.1 q) refl

-- the numbers rise, each past the one before
abbrev pub rises_from : ℕ → List ℕ → Bool
rises_from n [] = true
rises_from n (x ∷ xs) = nat_le n x && rises_from x xs

least : (n : ℕ) (xs : List ℕ) → rises_from n xs ≡ true → (j : ℕ) → j < length xs → n ≤ get_or xs j 0
least n [] h j l = absurd (omega arith)
least n (x ∷ xs) h zero l = leb-true n x (and_parts (nat_le n x) _ h).0
least n (x ∷ xs) h (suc j) l =
    let t = and_parts (nat_le n x) _ h in
    omega (arith, leb-true n x t.0, least x xs t.1 j (omega arith))

pub rising : (n : ℕ) (xs : List ℕ) → rises_from n xs ≡ true → (i j : ℕ) → i ≤ j → j < length xs → get_or xs i 0 ≤ get_or xs j 0
rising n [] h i j le l = absurd (omega arith)
rising n (x ∷ xs) h zero zero le l = omega arith
rising n (x ∷ xs) h zero (suc j) le l = least x xs (and_parts (nat_le n x) _ h).1 j (omega arith)
rising n (x ∷ xs) h (suc i) zero le l = absurd (omega arith)
rising n (x ∷ xs) h (suc i) (suc j) le l = rising x xs (and_parts (nat_le n x) _ h).1 i j (omega arith) (omega arith)

nowhere : (xs : List ℕ) (n i : ℕ) → ((k : ℕ) → k < i → get_or xs k 0 < n) → ((k : ℕ) → i ≤ k → k < length xs → n < get_or xs k 0) → (k : ℕ) → k < length xs → nat_eq (get_or xs k 0) n ≡ false
nowhere xs n i low high k l = elim (cases_lt k i) [
  | inl q ↦ let p = low k q in grind (arith, nat_tests)
  | inr q ↦ let p = high k q l in grind (arith, nat_tests)
]

none : (xs : List ℕ) (n : ℕ) → ((k : ℕ) → k < length xs → nat_eq (get_or xs k 0) n ≡ false) → list_any (λ m. nat_eq m n) xs ≡ false
none [] n h = refl
none (x ∷ xs) n h = rw (h 0 (omega arith), none xs n (λ k l. h (suc k) (omega arith))) refl

-- what a search by halves answers in a list that rises
pub found : (xs : List ℕ) (n : ℕ) (r : Result ℕ ℕ) → rises_from 0 xs ≡ true → IsBinarySearchResult (λ y. nat_cmp y n) xs r → is_ok r ≡ list_any (λ m. nat_eq m n) xs
found xs n (Ok i) h s =
    let at = searched xs n (Ok i) s (rising 0 xs h) in
    let e = at.1 in
    sym (list_any_at (λ m. nat_eq m n) xs i 0 at.0 (grind (arith, nat_tests)))
found xs n (Err i) h s =
    let gap = searched xs n (Err i) s (rising 0 xs h) in
    sym (none xs n (nowhere xs n i gap.1 gap.2))

other_length : (u v : List ℕ) → nat_le (length u) 5 ≡ true → 5 < length v → bytes_eq u v ≡ false
other_length u v h l =
    let d = bytes_eq-Decides u v in
    let differ : bytes_eq u v ≡ true → ⊥ = λ t. let e = ap length (d.0 t) in grind (arith, nat_tests) in
    grind arith

-- a word that is longer than all of the list
pub too_long : (ms : List (List ℕ)) (word : List ℕ) → list_all (λ m. nat_le (length m) 5) ms ≡ true → 5 < length word → list_any (λ m. bytes_eq m word) ms ≡ false
too_long [] word h l = refl
too_long (m ∷ ms) word h l =
    let p = and_parts (nat_le (length m) 5) _ h in
    rw (other_length m word p.0 l, too_long ms word p.1 l) refl

pub power_more : (i n b : ℕ) → n < 2 * 256 ^ i → b < 256 → n * 256 + b < 2 * 256 ^ (i + 1)
power_more i n b h l =
    let e : 256 ^ (i + 1) ≡ 256 ^ i * 256 = rw add-one (pow-suc 256 i) in
    omega (arith, e, h, l)

-- the bytes of a text
pub text_of : (word : List ℕ) → ((k : ℕ) → get_or word k 0 < 256) → is_text word ≡ true
text_of [] h = refl
text_of (b ∷ word) h =
    let t : is_byte b ≡ true = lt-ltb b 256 (h 0) in
    rw (t, text_of word (λ k. h (suc k))) refl

pub text_mnemonics : list_all is_text mnemonics ≡ true
unfolding mnemonics
text_mnemonics = refl

pub short_mnemonics : list_all (λ m. nat_le (length m) 5) mnemonics ≡ true
unfolding mnemonics
short_mnemonics = refl
