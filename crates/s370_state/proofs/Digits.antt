-- The digits of packed decimal fields, a byte at a time.
use Rattle.std.proofs.Common.{if◌then◌else◌, ◌≡◌, ℕ, ◌+◌, ◌-◌, ◌*◌, ◌/◌, ◌%◌, ◌^◌, ◌<◌, ◌≤◌, zero, suc, Bool, true, false, ◌&&◌, Option, Some, None, List, [], ◌∷◌, ◌++◌, length, length-append, take, drop, slice_index, slice_set, refl, ap, sym, ◌∙◌, arith, lit<, append_assoc, add-one, inl, inr, eq-or-lt_of_le}
use Rattle.std.proofs.Math.Nat.{pow-suc, pow-le-pow_right}
use Rattle.std.proofs.lemmas.Bool.Decides.{nat_tests}
use Rattle.std.proofs.lemmas.List.{take_more_set, drop-set, drop-drop}
use Rattle.std.proofs.Math.Seq.{take-add, take-suc}
use Rattle.std.proofs.lemmas.List.Folds.{list_all-append}
use Rattle.std.specs.List.{list_all}
use Rattle.std.proofs.lemmas.Bool.{and_parts}
use Rattle.std.proofs.Math.Bool.{and-true, and-false}
use Rattle.cov_base.specs.Meaning.{Memory, byte_at, wrap}
use Rattle.s370_state.specs.declared.packed.Field.{Field}
use Rattle.s370_state.specs.Meaning.{is_sign, is_minus, sign_half, is_digit, halves_at, decimal, field_at, digits_of, bytes_of, store_bytes, store_field}

pub decimal_append : (xs : List ℕ) (v : ℕ) (ys : List ℕ) → decimal v (xs ++ ys) ≡ decimal (decimal v xs) ys
unfolding decimal
decimal_append [] v ys = refl
decimal_append (x ∷ xs) v ys = decimal_append xs (10 * v + x) ys

pub decimal_two : (v x y : ℕ) → decimal v (x ∷ y ∷ []) ≡ v * 100 + (x * 10 + y)
unfolding decimal
decimal_two v x y = omega arith

pub decimal_one : (v x : ℕ) → decimal v (x ∷ []) ≡ v * 10 + x
unfolding decimal
decimal_one v x = omega arith

pub more_halves : (m : Memory) (bytes : List ℕ) (a n b : ℕ) → b ≡ byte_at m bytes (wrap (a + n)) → halves_at m bytes a (n + 1) ≡ halves_at m bytes a n ++ b / 16 ∷ (b % 16 ∷ [])
unfolding halves_at
more_halves m bytes a n b e = rw (add-one, e) refl

-- the digits of a byte more
pub digits_more : (m : Memory) (bytes : List ℕ) (a n b : ℕ) → b ≡ byte_at m bytes (wrap (a + n)) → list_all is_digit (halves_at m bytes a n) ≡ true → (is_digit (b / 16) && is_digit (b % 16)) ≡ true →
    list_all is_digit (halves_at m bytes a (n + 1)) ≡ true
digits_more m bytes a n b e h d =
    rw (more_halves m bytes a n b e, list_all-append is_digit (halves_at m bytes a n) (b / 16 ∷ (b % 16 ∷ [])), h) (ap (λ x. is_digit (b / 16) && x) (and-true (is_digit (b % 16))) ∙ d)

-- and their number
pub number_more : (m : Memory) (bytes : List ℕ) (a n b v : ℕ) → b ≡ byte_at m bytes (wrap (a + n)) → v ≡ decimal 0 (halves_at m bytes a n) → v * 100 + (b / 16 * 10 + b % 16) ≡ decimal 0 (halves_at m bytes a (n + 1))
number_more m bytes a n b v e h =
    rw (more_halves m bytes a n b e, decimal_append (halves_at m bytes a n) 0 (b / 16 ∷ (b % 16 ∷ [])), ← h, decimal_two v (b / 16) (b % 16)) refl

-- a byte that is no pair of digits
pub digits_fail : (m : Memory) (bytes : List ℕ) (a n i b : ℕ) → b ≡ byte_at m bytes (wrap (a + i)) → i < n → (is_digit (b / 16) && is_digit (b % 16)) ≡ false → list_all is_digit (halves_at m bytes a n) ≡ false
unfolding halves_at
digits_fail m bytes a zero i b e l h = absurd (omega arith)
digits_fail m bytes a (suc n) i b e l h =
    let c : ℕ = byte_at m bytes (wrap (a + n)) in
    let parts = list_all-append is_digit (halves_at m bytes a n) (c / 16 ∷ (c % 16 ∷ [])) in
    elim (eq-or-lt_of_le {n = i} {m = n} (omega arith)) [
      | inl q ↦
          let same : b ≡ c = e ∙ ap (λ (k : ℕ). byte_at m bytes (wrap (a + k))) q in
          let bad : (is_digit (c / 16) && (is_digit (c % 16) && true)) ≡ false = ap (λ x. is_digit (c / 16) && x) (and-true (is_digit (c % 16))) ∙ (rw same at h) in
          parts ∙ (rw bad (and-false (list_all is_digit (halves_at m bytes a n))))
      | inr k ↦ parts ∙ (rw (digits_fail m bytes a n i b e k h) refl)
    ]

pub no_digits : (m : Memory) (bytes : List ℕ) (a : ℕ) → list_all is_digit (halves_at m bytes a 0) ≡ true
unfolding halves_at
no_digits m bytes a = refl

pub no_number : (m : Memory) (bytes : List ℕ) (a : ℕ) → 0 ≡ decimal 0 (halves_at m bytes a 0)
unfolding halves_at decimal
no_number m bytes a = refl

pub pair_below : (b : ℕ) → (is_digit (b / 16) && is_digit (b % 16)) ≡ true → (b / 16 < 10) × (b % 16 < 10)
pair_below b e = let p = and_parts (is_digit (b / 16)) (is_digit (b % 16)) e in (grind (arith, nat_tests, p.0), grind (arith, nat_tests, p.1))

pub last_digit : (b : ℕ) → (is_digit (b / 16) && is_sign (b % 16)) ≡ true → b / 16 < 10
last_digit b e = let p = and_parts (is_digit (b / 16)) (is_sign (b % 16)) e in grind (arith, nat_tests, p.0)

pub pair_more : (n v b : ℕ) → v < 100 ^ n → b / 16 < 10 → b % 16 < 10 → v * 100 + (b / 16 * 10 + b % 16) < 100 ^ (n + 1)
pair_more n v b h p q = rw (add-one, pow-suc 100 n) (omega arith)

pub pairs_fit : (n v : ℕ) → n ≤ 14 → v < 100 ^ n → v < 10000000000000000000000000000
pairs_fit n v l h = let b : 100 ^ n ≤ 100 ^ 14 = pow-le-pow_right {n = 100} (lit< tt) {i = n} {j = 14} l in omega (arith, b, h)

pub pairs_most : (n v : ℕ) → n ≤ 15 → v < 100 ^ n → v < 1000000000000000000000000000000
pairs_most n v l h = let b : 100 ^ n ≤ 100 ^ 15 = pow-le-pow_right {n = 100} (lit< tt) {i = n} {j = 15} l in omega (arith, b, h)

pub field_good : (m : Memory) (bytes : List ℕ) (a l b v : ℕ) → b ≡ byte_at m bytes (wrap (a + l)) → list_all is_digit (halves_at m bytes a l) ≡ true → v ≡ decimal 0 (halves_at m bytes a l) → (is_digit (b / 16) && is_sign (b % 16)) ≡ true →
    Some (record { magnitude = v * 10 + b / 16; minus = is_minus (b % 16) }) ≡ field_at m bytes a l
unfolding field_at
field_good m bytes a l b v e h w q =
    let p = and_parts (is_digit (b / 16)) (is_sign (b % 16)) q in
    let d : is_digit (b / 16) ≡ true = p.0 in
    let s : is_sign (b % 16) ≡ true = p.1 in
    rw (← e, list_all-append is_digit (halves_at m bytes a l) (b / 16 ∷ []), h, d, s, decimal_append (halves_at m bytes a l) 0 (b / 16 ∷ []), ← w, decimal_one v (b / 16)) refl

pub field_pairs_bad : (m : Memory) (bytes : List ℕ) (a l : ℕ) → list_all is_digit (halves_at m bytes a l) ≡ false → None ≡ field_at m bytes a l
unfolding field_at
field_pairs_bad m bytes a l h =
    rw (list_all-append is_digit (halves_at m bytes a l) (byte_at m bytes (wrap (a + l)) / 16 ∷ []), h) refl

none_by : (p q : Bool) (x : Option Field) → (p && q) ≡ false → None ≡ (if ((p && true) && q) then x else None)
none_by true true x e = let z : true ≡ false = e in absurd cc
none_by true false x e = refl
none_by false q x e = refl

pub field_last_bad : (m : Memory) (bytes : List ℕ) (a l b : ℕ) → b ≡ byte_at m bytes (wrap (a + l)) → list_all is_digit (halves_at m bytes a l) ≡ true → (is_digit (b / 16) && is_sign (b % 16)) ≡ false → None ≡ field_at m bytes a l
unfolding field_at
field_last_bad m bytes a l b e h s =
    rw (← e, list_all-append is_digit (halves_at m bytes a l) (b / 16 ∷ []), h) (none_by (is_digit (b / 16)) (is_sign (b % 16)) _ s)

pub length-digits_of : (k v : ℕ) → length (digits_of k v) ≡ k
unfolding digits_of
length-digits_of zero v = refl
length-digits_of (suc k) v = length-append (digits_of k (v / 10)) (v % 10 ∷ []) ∙ (rw (length-digits_of k (v / 10)) (omega arith))

pub bytes_of-last : (k : ℕ) (hs : List ℕ) (x y : ℕ) → length hs ≡ 2 * k → bytes_of (hs ++ x ∷ (y ∷ [])) ≡ bytes_of hs ++ (x * 16 + y) ∷ []
unfolding bytes_of
bytes_of-last k [] x y e = refl
bytes_of-last zero (h ∷ hs) x y e = absurd (omega (arith, e))
bytes_of-last (suc k) (h ∷ []) x y e = absurd (omega (arith, e))
bytes_of-last (suc k) (h ∷ g ∷ hs) x y e = ap (λ (t : List ℕ). (h * 16 + g) ∷ t) (bytes_of-last k hs x y (omega (arith, e)))

pub store_bytes-last : (bs bytes : List ℕ) (a b : ℕ) → store_bytes bytes a (bs ++ b ∷ []) ≡ slice_set (store_bytes bytes a bs) (wrap (a + length bs)) b
unfolding store_bytes
store_bytes-last [] bytes a b = let e : a + 0 ≡ a = omega arith in rw e refl
store_bytes-last (x ∷ xs) bytes a b =
    let e : a + suc (length xs) ≡ a + 1 + length xs = omega arith in
    rw e (store_bytes-last xs (slice_set bytes (wrap a) x) (a + 1) b)

two_digits : (k v : ℕ) → digits_of (suc (suc k)) v ≡ digits_of k (v / 100) ++ v / 10 % 10 ∷ (v % 10 ∷ [])
unfolding digits_of
two_digits k v =
    let e : v / 10 / 10 ≡ v / 100 = omega arith in
    rw (e, append_assoc) refl

-- rows of bytes, filled from the right

pub no_row : (row : List ℕ) (n v : ℕ) → n ≡ 0 → take n row ≡ bytes_of (digits_of (2 * n) v)
unfolding bytes_of digits_of
no_row row zero v e = refl
no_row row (suc n) v e = absurd (omega (arith, e))

pub zeros_stay : (row : List ℕ) (n v : ℕ) → n ≤ length row → ((i : ℕ) → i < n → slice_index row i ≡ 0) → v ≡ 0 → take n row ≡ bytes_of (digits_of (2 * n) v)
unfolding bytes_of digits_of
zeros_stay row zero v l z e = refl
zeros_stay row (suc n) v l z e =
    let two : 2 * suc n ≡ suc (suc (2 * n)) = omega arith in
    let last : slice_index row n ≡ 0 = z n (omega arith) in
    take-suc row n 0 (omega (arith, l)) ∙ rw (zeros_stay row n 0 (omega (arith, l)) (λ i k. z i (omega (arith, k))) refl, last, e, two, two_digits (2 * n) 0, bytes_of-last n (digits_of (2 * n) 0) 0 0 (length-digits_of (2 * n) 0)) refl

-- both digits of a byte from their number
pub pair_byte : (v : ℕ) → v % 100 + v % 100 / 10 * 6 ≡ v / 10 % 10 * 16 + v % 10
pair_byte v = omega arith

pub pair_behind : (row done : List ℕ) (n v b : ℕ) → 0 < n → n ≤ length row → take (n - 1) done ≡ bytes_of (digits_of (2 * (n - 1)) (v / 100)) → drop (n - 1) done ≡ drop (n - 1) (slice_set row (n - 1) b) → b ≡ v / 10 % 10 * 16 + v % 10 →
    take n done ≡ bytes_of (digits_of (2 * n) v)
pair_behind row done n v b p l h r e =
    let back : n - 1 + 1 ≡ n = omega arith in
    let two : 2 * n ≡ suc (suc (2 * (n - 1))) = omega arith in
    let split : take n done ≡ take (n - 1) done ++ take 1 (drop (n - 1) done) = rw back at (take-add (n - 1) 1 done) in
    let seen : drop (n - 1) done ≡ b ∷ drop n row = r ∙ (rw back at (drop-set row (n - 1) b (omega arith))) in
    split ∙ rw (h, seen, two, two_digits (2 * (n - 1)) v, bytes_of-last (n - 1) (digits_of (2 * (n - 1)) (v / 100)) (v / 10 % 10) (v % 10) (length-digits_of (2 * (n - 1)) (v / 100)), e) refl

pub rest_behind : (row done : List ℕ) (n b : ℕ) → 0 < n → n ≤ length row → drop (n - 1) done ≡ drop (n - 1) (slice_set row (n - 1) b) → drop n done ≡ drop n row
rest_behind row done n b p l r =
    let back : n - 1 + 1 ≡ n = omega arith in
    let seen : drop (n - 1) done ≡ b ∷ drop n row = r ∙ (rw back at (drop-set row (n - 1) b (omega arith))) in
    (rw back at (sym (drop-drop 1 (n - 1) done))) ∙ rw seen refl

one_digit : (k v : ℕ) → digits_of (k + 1) v ≡ digits_of k (v / 10) ++ v % 10 ∷ []
unfolding digits_of
one_digit k v = rw add-one refl

pub field_row : (bytes : List ℕ) (a l v b : ℕ) (minus : Bool) (row : List ℕ) → l < length row → take l row ≡ bytes_of (digits_of (2 * l) (v / 10)) → b ≡ v % 10 * 16 + sign_half minus →
    store_bytes bytes a (take (l + 1) (slice_set row l b)) ≡ store_field bytes a l v minus
unfolding store_field
field_row bytes a l v b minus row h d e =
    rw (take_more_set row l b h, d, e, one_digit (2 * l) v, append_assoc, bytes_of-last l (digits_of (2 * l) (v / 10)) (v % 10) (sign_half minus) (length-digits_of (2 * l) (v / 10))) refl
