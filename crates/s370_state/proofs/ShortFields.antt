-- Fields that end a doubleword.
use Rattle.std.proofs.Common.{◌≡◌, ℕ, ◌+◌, ◌-◌, ◌*◌, ◌/◌, ◌%◌, ◌^◌, ◌<◌, ◌≤◌, zero, suc, Bool, true, false, if◌then◌else◌, ◌&&◌, sym, Option, Some, None, List, length, length-append, lit<, IfSome, [], ◌∷◌, ◌++◌, slice_index, append_assoc, append-nil, refl, ◌∙◌, arith}
use Rattle.std.specs.List.{list_all}
use Rattle.std.proofs.lemmas.Bool.{and_parts}
use Rattle.std.proofs.lemmas.Bool.Decides.{nat_tests}
use Rattle.std.proofs.Math.Nat.{pow-suc, pow-le-pow_right, mul_assoc, mul_comm, add-mul}
use Rattle.std.proofs.lemmas.List.Folds.{list_all-append}
use Rattle.cov_base.specs.Meaning.{Memory, byte_at, wrap}
use Rattle.s370_state.specs.declared.packed.Field.{Field}
use Rattle.s370_state.specs.Fields.{AreBytes}
use Rattle.s370_state.specs.Halves.{halves_of, number_from, AreSmall}
use Rattle.s370_state.specs.Meaning.{is_sign, is_minus, is_digit, halves_at, digits_at, sign_at, decimal, field_at, number_at}
use Rattle.s370_state.proofs.Digits.{decimal_append, decimal_one, field_good}

-- what stands before the last l + 1 bytes is shifted out
pub shifted_out : (row : List ℕ) (l : ℕ) → ((i : ℕ) → i < 8 → slice_index row i < 256) → l ≤ 7 → number_from row 0 8 * 2 ^ (8 * (7 - l)) % 18446744073709551616 / 2 ^ (8 * (7 - l)) ≡ number_from row (7 - l) (l + 1)
unfolding number_from
shifted_out row zero h e = omega (arith, h 0 (lit< tt), h 1 (lit< tt), h 2 (lit< tt), h 3 (lit< tt), h 4 (lit< tt), h 5 (lit< tt), h 6 (lit< tt), h 7 (lit< tt))
shifted_out row (suc zero) h e = omega (arith, h 0 (lit< tt), h 1 (lit< tt), h 2 (lit< tt), h 3 (lit< tt), h 4 (lit< tt), h 5 (lit< tt), h 6 (lit< tt), h 7 (lit< tt))
shifted_out row (suc (suc zero)) h e = omega (arith, h 0 (lit< tt), h 1 (lit< tt), h 2 (lit< tt), h 3 (lit< tt), h 4 (lit< tt), h 5 (lit< tt), h 6 (lit< tt), h 7 (lit< tt))
shifted_out row (suc (suc (suc zero))) h e = omega (arith, h 0 (lit< tt), h 1 (lit< tt), h 2 (lit< tt), h 3 (lit< tt), h 4 (lit< tt), h 5 (lit< tt), h 6 (lit< tt), h 7 (lit< tt))
shifted_out row (suc (suc (suc (suc zero)))) h e = omega (arith, h 0 (lit< tt), h 1 (lit< tt), h 2 (lit< tt), h 3 (lit< tt), h 4 (lit< tt), h 5 (lit< tt), h 6 (lit< tt), h 7 (lit< tt))
shifted_out row (suc (suc (suc (suc (suc zero))))) h e = omega (arith, h 0 (lit< tt), h 1 (lit< tt), h 2 (lit< tt), h 3 (lit< tt), h 4 (lit< tt), h 5 (lit< tt), h 6 (lit< tt), h 7 (lit< tt))
shifted_out row (suc (suc (suc (suc (suc (suc zero)))))) h e = omega (arith, h 0 (lit< tt), h 1 (lit< tt), h 2 (lit< tt), h 3 (lit< tt), h 4 (lit< tt), h 5 (lit< tt), h 6 (lit< tt), h 7 (lit< tt))
shifted_out row (suc (suc (suc (suc (suc (suc (suc zero))))))) h e = omega (arith, h 0 (lit< tt), h 1 (lit< tt), h 2 (lit< tt), h 3 (lit< tt), h 4 (lit< tt), h 5 (lit< tt), h 6 (lit< tt), h 7 (lit< tt))
shifted_out row (suc (suc (suc (suc (suc (suc (suc (suc l)))))))) h e = absurd (omega (arith, e))

-- the bytes that end the doubleword are the field's
pub field_byte : (m : Memory) (bytes : List ℕ) (a l i : ℕ) (row : List ℕ) → l ≤ 7 → AreBytes m bytes (wrap (a + (16777209 + l))) 8 row → i ≤ l → slice_index row (7 - l + i) ≡ byte_at m bytes (wrap (a + i))
field_byte m bytes a l i row h b k =
    let e : wrap (wrap (a + (16777209 + l)) + (7 - l + i)) ≡ wrap (a + i) = omega (arith, h, k) in
    b.each (7 - l + i) (omega (arith, h, k)) ∙ rw e refl

pub field_number : (m : Memory) (bytes : List ℕ) (a l n : ℕ) (row : List ℕ) → l ≤ 7 → AreBytes m bytes (wrap (a + (16777209 + l))) 8 row → n ≤ l + 1 → number_from row (7 - l) n ≡ number_at m bytes a n
unfolding number_from number_at
field_number m bytes a l zero row h b k = refl
field_number m bytes a l (suc n) row h b k =
    rw (field_number m bytes a l n row h b (omega (arith, k)), field_byte m bytes a l n row h b (omega (arith, k))) refl

-- no half bytes stand before those of a field but zeros
pub halves_split : (m : Memory) (bytes : List ℕ) (a j n k : ℕ) → ((i : ℕ) → i < n → byte_at m bytes (wrap (a + i)) < 256) → k ≡ j + (n + n) → halves_of k (number_at m bytes a n) ≡ halves_of j 0 ++ halves_at m bytes a n
unfolding halves_of number_at halves_at
halves_split m bytes a j zero k h e =
    let z : k ≡ j = omega (arith, e) in
    rw (z, append-nil) refl
halves_split m bytes a j (suc n) k h e =
    let two : k ≡ suc (suc (j + (n + n))) = omega (arith, e) in
    let b = byte_at m bytes (wrap (a + n)) in
    let s : b < 256 = h n (omega arith) in
    let x : (number_at m bytes a n * 256 + b) % 16 ≡ b % 16 = omega arith in
    let y : (number_at m bytes a n * 256 + b) / 16 % 16 ≡ b / 16 = omega (arith, s) in
    let z : (number_at m bytes a n * 256 + b) / 16 / 16 ≡ number_at m bytes a n = omega (arith, s) in
    rw (two, x, y, z, halves_split m bytes a j n (j + (n + n)) (λ i l. h i (omega (arith, l))) refl, append_assoc, append_assoc) refl

pub zeros_decimal : (j : ℕ) → decimal 0 (halves_of j 0) ≡ 0
unfolding halves_of decimal
zeros_decimal zero = refl
zeros_decimal (suc j) = rw (decimal_append (halves_of j 0) 0 (0 ∷ []), zeros_decimal j) refl

halves_more : (k x : ℕ) → halves_of (suc k) x ≡ halves_of k (x / 16) ++ x % 16 ∷ []
unfolding halves_of
halves_more k x = refl

-- a doubleword with its front shifted out is the number of the bytes that end it
pub word_number : (m : Memory) (bytes : List ℕ) (a l x : ℕ) (row : List ℕ) → l ≤ 7 → AreBytes m bytes (wrap (a + (16777209 + l))) 8 row → ((i : ℕ) → i < 8 → slice_index row i < 256) → x ≡ number_from row 0 8 * 2 ^ (8 * (7 - l)) % 18446744073709551616 / 2 ^ (8 * (7 - l)) →
    x ≡ number_at m bytes a (l + 1)
word_number m bytes a l x row h w r e = e ∙ shifted_out row l r h ∙ field_number m bytes a l (l + 1) row h w (omega arith)

pub word_small : (m : Memory) (bytes : List ℕ) (a l : ℕ) (row : List ℕ) → l ≤ 7 → AreBytes m bytes (wrap (a + (16777209 + l))) 8 row → ((i : ℕ) → i < 8 → slice_index row i < 256) → AreSmall m bytes a (l + 1)
word_small m bytes a l row h w r i k = rw (← field_byte m bytes a l i row h w (omega (arith, k))) (r (7 - l + i) (omega (arith, h, k)))

-- the half bytes of the number of n bytes are theirs
front_digits : (m : Memory) (bytes : List ℕ) (a n k x : ℕ) → AreSmall m bytes a n → n + n ≤ k → x ≡ number_at m bytes a n → list_all is_digit (halves_of k x) ≡ true →
    (list_all is_digit (halves_at m bytes a n) ≡ true) × (decimal 0 (halves_of k x) ≡ decimal 0 (halves_at m bytes a n))
front_digits m bytes a n k x small h e good =
    let j = k - (n + n) in
    let split : halves_of k x ≡ halves_of j 0 ++ halves_at m bytes a n = rw e (halves_split m bytes a j n k small (omega (arith, h))) in
    let all : list_all is_digit (halves_of j 0 ++ halves_at m bytes a n) ≡ true = rw split at good in (
      (and_parts (list_all is_digit (halves_of j 0)) (list_all is_digit (halves_at m bytes a n)) (rw (list_all-append is_digit (halves_of j 0) (halves_at m bytes a n)) at all)).1,
      rw (split, decimal_append (halves_of j 0) 0 (halves_at m bytes a n), zeros_decimal j) refl,
    )

pub short_good : (m : Memory) (bytes : List ℕ) (a l x v s : ℕ) → l ≤ 7 → AreSmall m bytes a (l + 1) → x ≡ number_at m bytes a (l + 1) →
    s ≡ x % 16 → is_sign s ≡ true → list_all is_digit (halves_of 16 (x / 16)) ≡ true → v ≡ decimal 0 (halves_of 16 (x / 16)) → Some (record { magnitude = v; minus = is_minus s }) ≡ field_at m bytes a l
unfolding number_at
short_good m bytes a l x v s h small e se sign good value =
    let n = number_at m bytes a l in
    let b = byte_at m bytes (wrap (a + l)) in
    let last : l + 1 ≡ suc l = omega arith in
    let whole : x ≡ n * 256 + b = e ∙ (rw last refl) in
    let few : b < 256 = small l (omega arith) in
    let p : x / 16 / 16 ≡ n = omega (arith, whole, few) in
    let q : x / 16 % 16 ≡ b / 16 = omega (arith, whole, few) in
    let t : s ≡ b % 16 = omega (arith, whole, se) in
    let more : halves_of 16 (x / 16) ≡ halves_of 15 (x / 16 / 16) ++ x / 16 % 16 ∷ [] = halves_more 15 (x / 16) in
    let all : list_all is_digit (halves_of 15 n ++ b / 16 ∷ []) ≡ true = rw (more, p, q) at good in
    let one = and_parts (list_all is_digit (halves_of 15 n)) (list_all is_digit (b / 16 ∷ [])) (rw (list_all-append is_digit (halves_of 15 n) (b / 16 ∷ [])) at all) in
    let front = front_digits m bytes a l 15 n (λ i k. small i (omega (arith, k))) (omega (arith, h)) refl one.0 in
    let digit : is_digit (b / 16) ≡ true = (and_parts (is_digit (b / 16)) true one.1).0 in
    let signed : is_sign (b % 16) ≡ true = rw t at sign in
    let number : v ≡ decimal 0 (halves_at m bytes a l) * 10 + b / 16 =
    value ∙ rw (more, p, q, decimal_append (halves_of 15 n) 0 (b / 16 ∷ []), front.1) (decimal_one (decimal 0 (halves_at m bytes a l)) (b / 16)) in
    rw (number, t) (field_good m bytes a l b (decimal 0 (halves_at m bytes a l)) refl front.0 refl (rw (digit, signed) refl))

pub decimal_below : (xs : List ℕ) (v p : ℕ) → v < p → list_all is_digit xs ≡ true → decimal v xs < p * 10 ^ length xs
unfolding decimal
decimal_below [] v p h d = omega (arith, h)
decimal_below (x ∷ xs) v p h d =
    let parts = and_parts (is_digit x) (list_all is_digit xs) d in
    let b : x < 10 = grind (arith, nat_tests, parts.0) in
    let e : p * 10 ^ length (x ∷ xs) ≡ 10 * p * 10 ^ length xs = rw (pow-suc 10 (length xs), mul_comm (10 ^ length xs) 10, ← mul_assoc p 10 (10 ^ length xs), mul_comm p 10) refl in
    rw e (decimal_below xs (10 * v + x) (10 * p) (omega (arith, h, b)) parts.1)

length-halves_at : (m : Memory) (bytes : List ℕ) (a n : ℕ) → length (halves_at m bytes a n) ≡ n + n
unfolding halves_at
length-halves_at m bytes a zero = refl
length-halves_at m bytes a (suc n) = rw (length-append, length-halves_at m bytes a n) (omega arith)

some_by : (p : Bool) (x f : Field) → Some f ≡ (if p then Some x else None) → (p ≡ true) × (f ≡ x)
some_by true x f e = (refl, cc)
some_by false x f e = absurd cc

-- a field's magnitude has its digits
pub field_below : (m : Memory) (bytes : List ℕ) (a l : ℕ) (f : Field) → Some f ≡ field_at m bytes a l → f.magnitude < 10 ^ (2 * l + 1)
unfolding field_at
field_below m bytes a l f e =
    let q = some_by _ _ f e in
    let d = and_parts (list_all is_digit (digits_at m bytes a l)) (is_sign (sign_at m bytes a l)) q.0 in
    let s : length (digits_at m bytes a l) ≡ 2 * l + 1 = length-append (halves_at m bytes a l) _ ∙ rw (length-halves_at m bytes a l) (omega arith) in
    let b : decimal 0 (digits_at m bytes a l) < 1 * 10 ^ (2 * l + 1) = rw s at (decimal_below (digits_at m bytes a l) 0 1 (lit< tt) d.0) in
    rw q.1 (omega (arith, b))

pub field_most : (m : Memory) (bytes : List ℕ) (a l : ℕ) (f : Field) → l ≤ 15 → Some f ≡ field_at m bytes a l → f.magnitude < 10000000000000000000000000000000
field_most m bytes a l f h e =
    let b : 10 ^ (2 * l + 1) ≤ 10 ^ 31 = pow-le-pow_right {n = 10} (lit< tt) {i = 2 * l + 1} {j = 31} (omega (arith, h)) in
    omega (arith, b, field_below m bytes a l f e)

-- so of what a field holds, if anything
pub fields_below : (m : Memory) (bytes : List ℕ) (a l : ℕ) (o : Option Field) → o ≡ field_at m bytes a l → IfSome o (λ (f : Field). f.magnitude < 10 ^ (2 * l + 1))
fields_below m bytes a l None e = tt
fields_below m bytes a l (Some f) e = field_below m bytes a l f e

pub fields_most : (m : Memory) (bytes : List ℕ) (a l : ℕ) (o : Option Field) → l ≤ 15 → o ≡ field_at m bytes a l → IfSome o (λ (f : Field). f.magnitude < 10000000000000000000000000000000)
fields_most m bytes a l None h e = tt
fields_most m bytes a l (Some f) h e = field_most m bytes a l f h e

-- fields of more than 8 bytes

halves_behind : (m : Memory) (bytes : List ℕ) (a n k : ℕ) → halves_at m bytes a (n + k) ≡ halves_at m bytes a n ++ halves_at m bytes (wrap (a + n)) k
unfolding halves_at
halves_behind m bytes a n zero = let z : n + 0 ≡ n = omega arith in rw (z, append-nil) refl
halves_behind m bytes a n (suc k) =
    let s : n + suc k ≡ suc (n + k) = omega arith in
    let w : wrap (a + (n + k)) ≡ wrap (wrap (a + n) + k) = omega arith in
    rw (s, halves_behind m bytes a n k, w, append_assoc) refl

halves_at_behind : (m : Memory) (bytes : List ℕ) (a n k l : ℕ) → l ≡ n + k → halves_at m bytes a l ≡ halves_at m bytes a n ++ halves_at m bytes (wrap (a + n)) k
halves_at_behind m bytes a n k l e = rw e (halves_behind m bytes a n k)

chosen : (p q : Bool) (x y : ℕ) (b c : Bool) → p ≡ true → q ≡ true → x ≡ y → b ≡ c → ◌≡◌ {A = Option Field} (Some (record { magnitude = x; minus = b })) (if (p && q) then Some (record { magnitude = y; minus = c }) else None)
chosen p q x y b c e f g h = rw (e, f, g, h) refl

decimal_scaled : (xs : List ℕ) (v : ℕ) → decimal v xs ≡ v * 10 ^ length xs + decimal 0 xs
unfolding decimal
decimal_scaled [] v = omega arith
decimal_scaled (x ∷ xs) v =
    let p = 10 ^ length xs in
    let z : 10 * 0 + x ≡ x = omega arith in
    let one = decimal_scaled xs (10 * v + x) in
    let two : decimal (10 * 0 + x) xs ≡ x * p + decimal 0 xs = rw z (decimal_scaled xs x) in
    let a : (10 * v + x) * p ≡ 10 * (v * p) + x * p = add-mul (10 * v) x p ∙ rw (mul_assoc 10 v p) refl in
    let b : v * 10 ^ length (x ∷ xs) ≡ 10 * (v * p) = rw (pow-suc 10 (length xs), ← mul_assoc v p 10) (mul_comm (v * p) 10) in
    rw (one, two, a, b) (omega arith)

pub long_good : (m : Memory) (bytes : List ℕ) (a l x v : ℕ) (low : Field) → 8 ≤ l → l ≤ 15 → AreSmall m bytes a (l - 8 + 1) → x ≡ number_at m bytes a (l - 8 + 1) → list_all is_digit (halves_of 16 x) ≡ true → v ≡ decimal 0 (halves_of 16 x) →
    Some low ≡ field_at m bytes (wrap (a + (l - 7))) 7 → Some (record { magnitude = v * 1000000000000000 + low.magnitude; minus = low.minus }) ≡ field_at m bytes a l
unfolding field_at
long_good m bytes a l x v low g h small e good value field =
    let n : l - 8 + 1 ≡ l - 7 = omega (arith, g) in
    let behind = wrap (a + (l - 7)) in
    let front = front_digits m bytes a (l - 7) 16 x (rw n at small) (omega (arith, g, h)) (rw n at e) good in
    let q = some_by _ _ low field in
    let parts = and_parts (list_all is_digit (digits_at m bytes behind 7)) (is_sign (sign_at m bytes behind 7)) q.0 in
    let w : wrap (behind + 7) ≡ wrap (a + l) = omega (arith, g) in
    let halves : halves_at m bytes a l ≡ halves_at m bytes a (l - 7) ++ halves_at m bytes behind 7 = halves_at_behind m bytes a (l - 7) 7 l (omega (arith, g)) in
    let digits : digits_at m bytes a l ≡ halves_at m bytes a (l - 7) ++ digits_at m bytes behind 7 = rw (halves, append_assoc, w) refl in
    let sign : sign_at m bytes a l ≡ sign_at m bytes behind 7 = rw w refl in
    let all : list_all is_digit (digits_at m bytes a l) ≡ true = rw digits (list_all-append is_digit (halves_at m bytes a (l - 7)) (digits_at m bytes behind 7) ∙ rw (front.0, parts.0) refl) in
    let signed : is_sign (sign_at m bytes a l) ≡ true = rw sign parts.1 in
    let size : length (digits_at m bytes behind 7) ≡ 15 = length-append (halves_at m bytes behind 7) _ ∙ rw (length-halves_at m bytes behind 7) refl in
    let sum : decimal 0 (digits_at m bytes a l) ≡ v * 1000000000000000 + low.magnitude =
    rw (digits, value, front.1, q.1) (decimal_append (halves_at m bytes a (l - 7)) 0 (digits_at m bytes behind 7) ∙ rw size at (decimal_scaled (digits_at m bytes behind 7) (decimal 0 (halves_at m bytes a (l - 7))))) in
    let minus : low.minus ≡ is_minus (sign_at m bytes a l) = rw (sign, q.1) refl in
    chosen (list_all is_digit (digits_at m bytes a l)) (is_sign (sign_at m bytes a l)) _ _ _ _ all signed (sym sum) minus
