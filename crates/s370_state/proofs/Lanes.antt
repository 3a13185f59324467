-- Numbers by their digits in a base, and how neighbours become one digit of its square.
use Rattle.std.proofs.Common.{◌≡◌, ℕ, ◌+◌, ◌-◌, ◌*◌, ◌/◌, ◌%◌, ◌^◌, ◌<◌, zero, suc, true, List, [], ◌∷◌, refl, sym, ◌∙◌, arith, lit<}
use Rattle.std.proofs.lemmas.Nat.{and_block, and_mask}
use Rattle.std.proofs.lemmas.Nat.Bits.{and_high}
use Rattle.std.specs.Prelude.{bit_and}
use Rattle.std.specs.List.{list_all}
use Rattle.std.proofs.Math.Nat.{pow-suc}
use Rattle.std.proofs.lemmas.Bool.Decides.{nat_tests}
use Rattle.std.proofs.lemmas.List.Folds.{list_all-append}
use Rattle.s370_state.specs.Halves.{halves_of}
use Rattle.s370_state.specs.Meaning.{decimal, is_digit}
use Rattle.s370_state.proofs.Digits.{decimal_append, decimal_one}

-- of digits in base b, the last first
pub num : ℕ → List ℕ → ℕ
num b [] = 0
num b (d ∷ ds) = num b ds * b + d

pub Below : ℕ → List ℕ → Type 0
Below b [] = Unit {0}
Below b (d ∷ ds) = (d < b) × Below b ds

-- each two neighbours as one, where the left one counts c times
pub joined : ℕ → List ℕ → List ℕ
joined c [] = []
joined c (r ∷ []) = r ∷ []
joined c (r ∷ l ∷ ds) = (l * c + r) ∷ joined c ds

pub rights : List ℕ → List ℕ
rights [] = []
rights (r ∷ []) = r ∷ []
rights (r ∷ l ∷ ds) = r ∷ rights ds

pub lefts : List ℕ → List ℕ
lefts [] = []
lefts (r ∷ []) = 0 ∷ []
lefts (r ∷ l ∷ ds) = l ∷ lefts ds

-- m for each two neighbours
pub masks : ℕ → List ℕ → List ℕ
masks m [] = []
masks m (r ∷ []) = m ∷ []
masks m (r ∷ l ∷ ds) = m ∷ masks m ds

-- what holds of a base b, its square w, the mask m of its digits, and a base c that digits are read in, whose square is d
pub record Level (b c w d m : ℕ) : Type 0 where
  pub widened : (x l r : ℕ) → (x * b + l) * b + r ≡ x * w + (l * b + r)
  pub valued : (x l r : ℕ) → (x * c + l) * c + r ≡ x * d + (l * c + r)
  pub parted : (x y l r : ℕ) → (x * c + y) * w + (l * c + r) ≡ (x * w + l) * c + (y * w + r)
  pub parted_wide : (x y l r : ℕ) → (x * b + y) * w + (l * b + r) ≡ (x * w + l) * b + (y * w + r)
  pub halved : (y z : ℕ) → (y * b + z - z) / b ≡ y
  pub small : (l r : ℕ) → l < b → r < b → l * c + r < w
  pub block : (a n l r : ℕ) → l < b → r < b → bit_and (a * w + (l * b + r)) (n * w + m) ≡ bit_and a n * w + r
  pub single : (r : ℕ) → r < b → bit_and r m ≡ r
  pub narrow : (r : ℕ) → r < b → r < w

pub halves : Level 16 10 256 100 15
halves = record {
  widened = λ x l r. omega arith;
  valued = λ x l r. omega arith;
  parted = λ x y l r. omega arith;
  parted_wide = λ x y l r. omega arith;
  halved = λ y z. omega arith;
  small = λ l r h k. omega arith;
  block = λ a n l r h k. let e : (l * 16 + r) % 16 ≡ r = omega arith in and_block 8 a n (l * 16 + r) 15 (omega arith) (lit< tt) ∙ rw (and_mask (l * 16 + r) 4, e) refl;
  single = λ r h. and_mask r 4 ∙ omega arith;
  narrow = λ r h. omega arith;
}

pub joined_value : (b c w d m : ℕ) → Level b c w d m → (ds : List ℕ) → num c ds ≡ num d (joined c ds)
unfolding num joined
joined_value b c w d m v [] = refl
joined_value b c w d m v (r ∷ []) = omega arith
joined_value b c w d m v (r ∷ l ∷ ds) = v.valued (num c ds) l r ∙ rw (joined_value b c w d m v ds) refl

pub joined_parts : (b c w d m : ℕ) → Level b c w d m → (ds : List ℕ) → num w (joined c ds) ≡ num w (lefts ds) * c + num w (rights ds)
unfolding num joined lefts rights
joined_parts b c w d m v [] = omega arith
joined_parts b c w d m v (r ∷ []) = omega arith
joined_parts b c w d m v (r ∷ l ∷ ds) = rw (joined_parts b c w d m v ds) (v.parted (num w (lefts ds)) (num w (rights ds)) l r)

pub whole_parts : (b c w d m : ℕ) → Level b c w d m → (ds : List ℕ) → num b ds ≡ num w (lefts ds) * b + num w (rights ds)
unfolding num lefts rights
whole_parts b c w d m v [] = omega arith
whole_parts b c w d m v (r ∷ []) = omega arith
whole_parts b c w d m v (r ∷ l ∷ ds) = v.widened (num b ds) l r ∙ rw (whole_parts b c w d m v ds) (v.parted_wide (num w (lefts ds)) (num w (rights ds)) l r)

pub joined_below : (b c w d m : ℕ) → Level b c w d m → (ds : List ℕ) → Below b ds → Below w (joined c ds)
unfolding Below joined
joined_below b c w d m v [] h = tt
joined_below b c w d m v (r ∷ []) h = (v.narrow r h.0, tt)
joined_below b c w d m v (r ∷ l ∷ ds) h = (v.small l r h.1.0 h.0, joined_below b c w d m v ds h.1.1)

pub masked_right : (b c w d m : ℕ) → Level b c w d m → (ds : List ℕ) → Below b ds → bit_and (num b ds) (num w (masks m ds)) ≡ num w (rights ds)
unfolding num Below masks rights
masked_right b c w d m v [] h = refl
masked_right b c w d m v (r ∷ []) h =
    let x : 0 * b + r ≡ r = omega arith in
    let y : 0 * w + m ≡ m = omega arith in
    let z : 0 * w + r ≡ r = omega arith in
    rw (x, y, z) (v.single r h.0)
masked_right b c w d m v (r ∷ l ∷ ds) h =
    rw (v.widened (num b ds) l r) (v.block (num b ds) (num w (masks m ds)) l r h.1.0 h.0 ∙ rw (masked_right b c w d m v ds h.1.1) refl)

pub bytes : Level 256 100 65536 10000 255
bytes = record {
  widened = λ x l r. omega arith;
  valued = λ x l r. omega arith;
  parted = λ x y l r. omega arith;
  parted_wide = λ x y l r. omega arith;
  halved = λ y z. omega arith;
  small = λ l r h k. omega arith;
  block = λ a n l r h k. let e : (l * 256 + r) % 256 ≡ r = omega arith in and_block 16 a n (l * 256 + r) 255 (omega arith) (lit< tt) ∙ rw (and_mask (l * 256 + r) 8, e) refl;
  single = λ r h. and_mask r 8 ∙ omega arith;
  narrow = λ r h. omega arith;
}

pub halfwords : Level 65536 10000 4294967296 100000000 65535
halfwords = record {
  widened = λ x l r. omega arith;
  valued = λ x l r. omega arith;
  parted = λ x y l r. omega arith;
  parted_wide = λ x y l r. omega arith;
  halved = λ y z. omega arith;
  small = λ l r h k. omega arith;
  block = λ a n l r h k. let e : (l * 65536 + r) % 65536 ≡ r = omega arith in and_block 32 a n (l * 65536 + r) 65535 (omega arith) (lit< tt) ∙ rw (and_mask (l * 65536 + r) 16, e) refl;
  single = λ r h. and_mask r 16 ∙ omega arith;
  narrow = λ r h. omega arith;
}

pub lefts_of : (b c w d m : ℕ) → Level b c w d m → (ds : List ℕ) → Below b ds → (x mask : ℕ) → x ≡ num b ds → mask ≡ num w (masks m ds) → (x - bit_and x mask) / b ≡ num w (lefts ds)
lefts_of b c w d m v ds h x mask e k =
    rw (e, k, masked_right b c w d m v ds h, whole_parts b c w d m v ds) (v.halved (num w (lefts ds)) (num w (rights ds)))

pub rights_of : (b c w d m : ℕ) → Level b c w d m → (ds : List ℕ) → Below b ds → (x mask : ℕ) → x ≡ num b ds → mask ≡ num w (masks m ds) → bit_and x mask ≡ num w (rights ds)
rights_of b c w d m v ds h x mask e k = rw (e, k) (masked_right b c w d m v ds h)

-- a number of such digits becomes that of the joined ones
pub joined_word : (b c w d m : ℕ) → Level b c w d m → (ds : List ℕ) → Below b ds → (x mask : ℕ) → x ≡ num b ds → mask ≡ num w (masks m ds) → (x - bit_and x mask) / b * c + bit_and x mask ≡ num w (joined c ds)
joined_word b c w d m v ds h x mask e k =
    rw (lefts_of b c w d m v ds h x mask e k, rights_of b c w d m v ds h x mask e k) (sym (joined_parts b c w d m v ds))

last_two : (p q : ℕ) → p < 4294967296 → num 4294967296 (p ∷ (q ∷ [])) / 4294967296 * 100000000 + num 4294967296 (p ∷ (q ∷ [])) % 4294967296 ≡ num 100000000 (p ∷ (q ∷ []))
unfolding num
last_two p q h = omega arith

-- eight pairs
pub of_pairs : (x f e : ℕ) (a b c d i j k l : ℕ) → let ds = a ∷ (b ∷ (c ∷ (d ∷ (i ∷ (j ∷ (k ∷ (l ∷ []))))))) in
    Below 256 ds → x ≡ num 256 ds → f ≡ (x - bit_and x 71777214294589695) / 256 * 100 + bit_and x 71777214294589695 → e ≡ (f - bit_and f 281470681808895) / 65536 * 10000 + bit_and f 281470681808895 →
    e / 4294967296 * 100000000 + e % 4294967296 ≡ num 100 ds
unfolding num joined masks Below
of_pairs x f e a b c d i j k l h z fe ee =
    let ds = a ∷ (b ∷ (c ∷ (d ∷ (i ∷ (j ∷ (k ∷ (l ∷ []))))))) in
    let fours = joined 100 ds in
    let eights = joined 10000 fours in
    let hf = joined_below 256 100 65536 10000 255 bytes ds h in
    let he = joined_below 65536 10000 4294967296 100000000 65535 halfwords fours hf in
    let first : f ≡ num 65536 fours = fe ∙ joined_word 256 100 65536 10000 255 bytes ds h x 71777214294589695 z refl in
    let second : e ≡ num 4294967296 eights = ee ∙ joined_word 65536 10000 4294967296 100000000 65535 halfwords fours hf f 281470681808895 first refl in
    rw second (last_two _ _ he.0) ∙ sym (joined_value 256 100 65536 10000 255 bytes ds ∙ joined_value 65536 10000 4294967296 100000000 65535 halfwords fours)

-- the lowest k digits in base 16
pub hexes : ℕ → ℕ → List ℕ
hexes zero x = []
hexes (suc k) x = x % 16 ∷ hexes k (x / 16)

pub hexes_below : (k x : ℕ) → Below 16 (hexes k x)
unfolding hexes Below
hexes_below zero x = tt
hexes_below (suc k) x = (omega arith, hexes_below k (x / 16))

pub hexes_num : (k x : ℕ) → x < 16 ^ k → x ≡ num 16 (hexes k x)
unfolding hexes num
hexes_num zero x h = omega (arith, h)
hexes_num (suc k) x h =
    let s : 16 ^ suc k ≡ 16 ^ k * 16 = pow-suc 16 k in
    let e = hexes_num k (x / 16) (omega (arith, h, s)) in
    rw (← e) (omega arith)

pub hexes_decimal : (k x : ℕ) → decimal 0 (halves_of k x) ≡ num 10 (hexes k x)
unfolding hexes num halves_of decimal
hexes_decimal zero x = refl
hexes_decimal (suc k) x = rw (decimal_append (halves_of k (x / 16)) 0 (x % 16 ∷ []), decimal_one, hexes_decimal k (x / 16)) refl

pub hexes_digits : (k x : ℕ) → Below 10 (hexes k x) → list_all is_digit (halves_of k x) ≡ true
unfolding hexes Below halves_of
hexes_digits zero x h = refl
hexes_digits (suc k) x h =
    let d : is_digit (x % 16) ≡ true = grind (arith, nat_tests, h.0) in
    rw (list_all-append is_digit (halves_of k (x / 16)) (x % 16 ∷ []), hexes_digits k (x / 16) h.1, d) refl

-- m for each
pub alike : ℕ → List ℕ → List ℕ
alike m [] = []
alike m (d ∷ ds) = m ∷ alike m ds

-- no digit has a left half where six is added
pub all_small : (ds : List ℕ) → Below 16 ds → bit_and (num 256 ds + num 256 (alike 6 ds)) (num 256 (alike 240 ds)) ≡ 0 → Below 10 ds
unfolding num Below alike
all_small [] h e = tt
all_small (d ∷ ds) h e =
    let s : num 256 ds * 256 + d + (num 256 (alike 6 ds) * 256 + 6) ≡ (num 256 ds + num 256 (alike 6 ds)) * 256 + (d + 6) = omega arith in
    let b = and_block 8 (num 256 ds + num 256 (alike 6 ds)) (num 256 (alike 240 ds)) (d + 6) 240 (omega (arith, h.0)) (lit< tt) in
    let t : bit_and (num 256 ds + num 256 (alike 6 ds)) (num 256 (alike 240 ds)) * 256 + bit_and (d + 6) 240 ≡ 0 = sym b ∙ (rw s at e) in
    let one : bit_and (d + 6) 240 ≡ (d + 6) / 16 % 16 * 16 = and_high (d + 6) 4 4 in
    (omega (arith, one, t, h.0), all_small ds h.1 (omega (arith, t)))

pub parts_below : (b : ℕ) (ds : List ℕ) → 0 < b → Below b ds → Below b (rights ds) × Below b (lefts ds)
unfolding Below rights lefts
parts_below b [] z h = (tt, tt)
parts_below b (r ∷ []) z h = ((h.0, tt), (z, tt))
parts_below b (r ∷ l ∷ ds) z h = let p = parts_below b ds z h.1.1 in ((h.0, p.0), (h.1.0, p.1))

pub both_below : (b : ℕ) (ds : List ℕ) → Below b (rights ds) → Below b (lefts ds) → Below b ds
unfolding Below rights lefts
both_below b [] h k = tt
both_below b (r ∷ []) h k = (h.0, tt)
both_below b (r ∷ l ∷ ds) h k = (h.0, (k.0, both_below b ds h.1 k.1))

pub word_value : (x p f e : ℕ) → x < 18446744073709551616 → p ≡ (x - bit_and x 1085102592571150095) / 16 * 10 + bit_and x 1085102592571150095 → f ≡ (p - bit_and p 71777214294589695) / 256 * 100 + bit_and p 71777214294589695 → e ≡ (f - bit_and f 281470681808895) / 65536 * 10000 + bit_and f 281470681808895 →
    e / 4294967296 * 100000000 + e % 4294967296 ≡ decimal 0 (halves_of 16 x)
unfolding hexes num masks joined
word_value x p f e s pe fe ee =
    let ds = hexes 16 x in
    let h = hexes_below 16 x in
    let first : p ≡ num 256 (joined 10 ds) = pe ∙ joined_word 16 10 256 100 15 halves ds h x 1085102592571150095 (hexes_num 16 x s) refl in
    of_pairs p f e _ _ _ _ _ _ _ _ (joined_below 16 10 256 100 15 halves ds h) first fe ee ∙ sym (joined_value 16 10 256 100 15 halves ds) ∙ sym (hexes_decimal 16 x)

pub word_good : (x : ℕ) → x < 18446744073709551616 → bit_and (bit_and x 1085102592571150095 + 434041037028460038) 17361641481138401520 ≡ 0 → bit_and ((x - bit_and x 1085102592571150095) / 16 + 434041037028460038) 17361641481138401520 ≡ 0 →
    list_all is_digit (halves_of 16 x) ≡ true
unfolding hexes num masks rights lefts alike
word_good x s a b =
    let ds = hexes 16 x in
    let h = hexes_below 16 x in
    let z = hexes_num 16 x s in
    let r : bit_and x 1085102592571150095 ≡ num 256 (rights ds) = rights_of 16 10 256 100 15 halves ds h x 1085102592571150095 z refl in
    let l : (x - bit_and x 1085102592571150095) / 16 ≡ num 256 (lefts ds) = lefts_of 16 10 256 100 15 halves ds h x 1085102592571150095 z refl in
    let p = parts_below 16 ds (lit< tt) h in
    let right : bit_and (num 256 (rights ds) + num 256 (alike 6 (rights ds))) (num 256 (alike 240 (rights ds))) ≡ 0 = rw (← r) a in
    let left : bit_and (num 256 (lefts ds) + num 256 (alike 6 (lefts ds))) (num 256 (alike 240 (lefts ds))) ≡ 0 = rw (← l) b in
    hexes_digits 16 x (both_below 10 ds (all_small (rights ds) p.0 right) (all_small (lefts ds) p.1 left))
