-- The recursions over an operand's bytes, one byte on, and a doubleword by its words.
use Rattle.std.proofs.Common.{◌≡◌, ℕ, ◌+◌, ◌∙◌, ◌≤◌, ◌*◌, ◌/◌, ◌%◌, ◌<◌, zero, suc, true, false, ◌&&◌, ◌==◌, List, slice_index, slice_set, refl, sym, add-one, add-zero, add_assoc, arith, inl, inr, ne_of_gt}
use Rattle.std.proofs.Math.Nat.{eq-or-lt_of_le}
use Rattle.std.specs.Ordering.{nat_cmp}
use Rattle.std.specs.Cmp.{nat_cmp_is}
use Rattle.std.specs.declared.cmp.Ordering.TheVariants.{Less, Equal, Greater}
use Rattle.std.proofs.lemmas.Bool.{cases_lt, cases_order, ne_eqb}
use Rattle.cov_base.specs.Meaning.{Memory, byte_at, wrap}
use Rattle.s370_state.specs.Meaning.{number_at, store_number, order_code}
use Rattle.s370_state.specs.Fields.{AreBytes}
use Rattle.s370_state.specs.Halves.{number_from}
use Rattle.s370_logic.specs.Meaning.{bytes_joined, joined_byte, are_zero, compared}

pub joined_none : (f : ℕ → ℕ → ℕ) (m : Memory) (bytes : List ℕ) (a b : ℕ) → bytes_joined f m bytes a b 0 ≡ bytes
unfolding bytes_joined
joined_none f m bytes a b = refl

pub joined_more : (f : ℕ → ℕ → ℕ) (m : Memory) (bytes : List ℕ) (a b n : ℕ) → bytes_joined f m bytes a b (n + 1) ≡ slice_set (bytes_joined f m bytes a b n) (wrap (a + n)) (joined_byte f m (bytes_joined f m bytes a b n) a b n)
unfolding bytes_joined
joined_more f m bytes a b n = rw add-one refl

pub are_zero_none : (f : ℕ → ℕ → ℕ) (m : Memory) (bytes : List ℕ) (a b : ℕ) → are_zero f m bytes a b 0 ≡ true
unfolding are_zero
are_zero_none f m bytes a b = refl

pub are_zero_more : (f : ℕ → ℕ → ℕ) (m : Memory) (bytes : List ℕ) (a b n : ℕ) → are_zero f m bytes a b (n + 1) ≡ (are_zero f m bytes a b n && joined_byte f m (bytes_joined f m bytes a b n) a b n == 0)
unfolding are_zero
are_zero_more f m bytes a b n = rw add-one refl

pub compared_none : (m : Memory) (bytes : List ℕ) (a b : ℕ) → compared m bytes a b 0 ≡ 0
unfolding compared
compared_none m bytes a b = refl

pub compared_more : (m : Memory) (bytes : List ℕ) (a b n : ℕ) → compared m bytes a b n ≡ 0 → compared m bytes a b (n + 1) ≡ order_code (nat_cmp (byte_at m bytes (wrap (a + n))) (byte_at m bytes (wrap (b + n))))
unfolding compared
compared_more m bytes a b n h = rw (add-one, h) refl

pub equal_code : (x y : ℕ) → x ≡ y → order_code (nat_cmp x y) ≡ 0
equal_code x y e = rw (← nat_cmp_is x y Equal e) refl

pub unequal_code : (x y : ℕ) → (x ≡ y → ⊥) → 0 < order_code (nat_cmp x y)
unequal_code x y h = elim (cases_lt x y) [
  | inl l ↦ rw (← nat_cmp_is x y Less l) (omega arith)
  | inr g ↦ rw (← nat_cmp_is x y Greater (omega arith)) (omega arith)
]

-- an unequal pair decides, whatever follows it
pub compared_decided : (m : Memory) (bytes : List ℕ) (a b n i code : ℕ) → i < n → compared m bytes a b i ≡ 0 → code ≡ order_code (nat_cmp (byte_at m bytes (wrap (a + i))) (byte_at m bytes (wrap (b + i)))) → 0 < code → code ≡ compared m bytes a b n
unfolding compared
compared_decided m bytes a b zero i code l e h k = absurd (omega arith)
compared_decided m bytes a b (suc n) i code l e h k = elim (eq-or-lt_of_le {n = i} {m = n} (omega arith)) [
  | inl q ↦ rw (← q, e) h
  | inr z ↦ let d : code ≡ compared m bytes a b n = compared_decided m bytes a b n i code z e h k in
      let p : (compared m bytes a b n == 0) ≡ false = ne_eqb _ 0 (ne_of_gt (rw d at k)) in
      rw p d
]

-- an unequal pair that was found stays the first
compared_kept : (m : Memory) (bytes : List ℕ) (a b n : ℕ) → 0 < compared m bytes a b n → compared m bytes a b (n + 1) ≡ compared m bytes a b n
unfolding compared
compared_kept m bytes a b n h = let p : (compared m bytes a b n == 0) ≡ false = ne_eqb _ 0 (ne_of_gt h) in rw (add-one, p) refl

pub compared_far : (m : Memory) (bytes : List ℕ) (a b i n : ℕ) → 0 < compared m bytes a b i → i ≤ n → compared m bytes a b n ≡ compared m bytes a b i
compared_far m bytes a b i zero h l = let e : i ≡ 0 = omega arith in rw e refl
compared_far m bytes a b i (suc n) h l = elim (eq-or-lt_of_le {n = i} {m = suc n} l) [
  | inl q ↦ rw q refl
  | inr z ↦ let one : suc n ≡ n + 1 = omega arith in
      let same : compared m bytes a b n ≡ compared m bytes a b i = compared_far m bytes a b i n h (omega arith) in
      rw one (compared_kept m bytes a b n (rw same h) ∙ same)
]

-- the order of two numbers and one byte more of each
code_high : (v w p q : ℕ) → (v ≡ w → ⊥) → p < 256 → q < 256 → order_code (nat_cmp (v * 256 + p) (w * 256 + q)) ≡ order_code (nat_cmp v w)
code_high v w p q h k l = elim (cases_lt v w) [
  | inl z ↦ rw (← nat_cmp_is v w Less z, ← nat_cmp_is (v * 256 + p) (w * 256 + q) Less (omega (arith, z))) refl
  | inr n ↦ let z : w < v = omega arith in rw (← nat_cmp_is v w Greater z, ← nat_cmp_is (v * 256 + p) (w * 256 + q) Greater (omega (arith, z))) refl
]

code_low : (v w p q : ℕ) → v ≡ w → order_code (nat_cmp (v * 256 + p) (w * 256 + q)) ≡ order_code (nat_cmp p q)
code_low v w p q e = elim (cases_order p q) [
  | inl z ↦ rw (← nat_cmp_is p q Equal z, ← nat_cmp_is (v * 256 + p) (w * 256 + q) Equal (omega (arith, z, e))) refl
  | inr u ↦ elim u [
    | inl z ↦ rw (← nat_cmp_is p q Less z, ← nat_cmp_is (v * 256 + p) (w * 256 + q) Less (omega (arith, z, e))) refl
    | inr z ↦ rw (← nat_cmp_is p q Greater z, ← nat_cmp_is (v * 256 + p) (w * 256 + q) Greater (omega (arith, z, e))) refl
  ]
]

-- j bytes more of two rows, as numbers
pub row_compared : (m : Memory) (bytes x y : List ℕ) (a b n k j : ℕ) → AreBytes m bytes a n x → AreBytes m bytes b n y → k + j ≤ n →
    ((i : ℕ) → i < j → slice_index x (k + i) < 256) → ((i : ℕ) → i < j → slice_index y (k + i) < 256) → compared m bytes a b k ≡ 0 →
    compared m bytes a b (k + j) ≡ order_code (nat_cmp (number_from x k j) (number_from y k j))
unfolding number_from
row_compared m bytes x y a b n k zero f g l s t z = rw add-zero (z ∙ sym (equal_code 0 0 refl))
row_compared m bytes x y a b n k (suc j) f g l s t z =
    let one : k + suc j ≡ k + j + 1 = omega arith in
    let so_far : compared m bytes a b (k + j) ≡ order_code (nat_cmp (number_from x k j) (number_from y k j)) = row_compared m bytes x y a b n k j f g (omega arith) (λ i h. s i (omega arith)) (λ i h. t i (omega arith)) z in
    rw one (elim (cases_order (number_from x k j) (number_from y k j)) [
      | inl e ↦ compared_more m bytes a b (k + j) (so_far ∙ equal_code _ _ e)
          ∙ rw (← f.each (k + j) (omega arith), ← g.each (k + j) (omega arith)) (sym (code_low _ _ _ _ e))
      | inr u ↦ let apart : number_from x k j ≡ number_from y k j → ⊥ = λ e. elim u [ inl z ↦ omega (arith, z, e) | inr z ↦ omega (arith, z, e) ] in
          compared_kept m bytes a b (k + j) (rw so_far (unequal_code _ _ apart)) ∙ so_far ∙ sym (code_high _ _ _ _ apart (s j (omega arith)) (t j (omega arith)))
    ])

pub double_of_words : (m : Memory) (bytes : List ℕ) (a : ℕ) → number_at m bytes a 8 ≡ number_at m bytes a 4 * 4294967296 + number_at m bytes (a + 4) 4
unfolding number_at
double_of_words m bytes a = simp add_assoc (omega arith)

pub double_stored : (bytes : List ℕ) (a v : ℕ) → store_number bytes a 8 v ≡ store_number (store_number bytes (a + 4) 4 (v % 4294967296)) a 4 (v / 4294967296)
unfolding store_number
double_stored bytes a v =
    let last : v % 4294967296 % 256 ≡ v % 256 = omega arith in
    let third : v % 4294967296 / 256 % 256 ≡ v / 256 % 256 = omega arith in
    let second : v % 4294967296 / 256 / 256 % 256 ≡ v / 256 / 256 % 256 = omega arith in
    let first : v % 4294967296 / 256 / 256 / 256 % 256 ≡ v / 256 / 256 / 256 % 256 = omega arith in
    let high : v / 256 / 256 / 256 / 256 ≡ v / 4294967296 = omega arith in
    rw (last, third, second, first, high) (simp add_assoc refl)
