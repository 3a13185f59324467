-- The recursions over the bytes of a register, of a number and of an operand, one byte on.
use Rattle.std.proofs.Common.{◌≡◌, ℕ, ◌+◌, ◌-◌, ◌*◌, ◌/◌, ◌%◌, ◌^◌, ◌<◌, ◌≤◌, zero, suc, count_ones, List, slice_set, refl, arith, lit<, add-one, sub-one}
use Rattle.std.proofs.Math.Nat.{pow-suc, pow-le-pow_right}
use Rattle.cov_base.specs.Meaning.{Memory, byte_at, wrap}
use Rattle.s370_state.specs.Meaning.{number_at, store_number}
use Rattle.s370_logic.specs.Meaning.{gathered, inserted}
use lib.Count.{ones-le}

pub size_most : (mask : ℕ) → mask < 16 → count_ones mask ≤ 4
size_most mask h = ones-le 4 mask h

pub gathered_none : (mask w : ℕ) → gathered 0 mask w ≡ 0
unfolding gathered
gathered_none mask w = refl

pub gathered_more : (k mask w : ℕ) → 0 < k → mask % 2 ≡ 1 → gathered k mask w ≡ gathered (k - 1) (mask / 2) (w / 256) * 256 + w % 256
unfolding gathered
gathered_more zero mask w h e = absurd (omega arith)
gathered_more (suc k) mask w h e = rw (sub-one (suc k), e) refl

pub gathered_past : (k mask w : ℕ) → 0 < k → mask % 2 ≡ 0 → gathered k mask w ≡ gathered (k - 1) (mask / 2) (w / 256)
unfolding gathered
gathered_past zero mask w h e = absurd (omega arith)
gathered_past (suc k) mask w h e = rw (sub-one (suc k), e) refl

pub inserted_none : (mask w v : ℕ) → inserted 0 mask w v ≡ 0
unfolding inserted
inserted_none mask w v = refl

pub inserted_more : (k mask w v : ℕ) → 0 < k → mask % 2 ≡ 1 → inserted k mask w v ≡ inserted (k - 1) (mask / 2) (w / 256) (v / 256) * 256 + v % 256
unfolding inserted
inserted_more zero mask w v h e = absurd (omega arith)
inserted_more (suc k) mask w v h e = rw (sub-one (suc k), e) refl

pub inserted_past : (k mask w v : ℕ) → 0 < k → mask % 2 ≡ 0 → inserted k mask w v ≡ inserted (k - 1) (mask / 2) (w / 256) v * 256 + w % 256
unfolding inserted
inserted_past zero mask w v h e = absurd (omega arith)
inserted_past (suc k) mask w v h e = rw (sub-one (suc k), e) refl

pub byte_last : (k v b : ℕ) → 0 < k → v < 256 ^ (k - 1) → b < 256 → v * 256 + b < 256 ^ k
byte_last zero v b p l e = absurd (omega arith)
byte_last (suc k) v b p l e = let l2 : v < 256 ^ k = rw (sub-one (suc k)) at l in rw (pow-suc 256 k) (omega arith)

pub byte_fits : (k v : ℕ) → k < 4 → v < 256 ^ k → v < 16777216
byte_fits k v l e = let b : 256 ^ k ≤ 256 ^ 3 = pow-le-pow_right {n = 256} (lit< tt) {i = k} {j = 3} (omega arith) in omega (arith, b, e)

pub bytes_fit : (k v : ℕ) → k ≤ 4 → v < 256 ^ (k - 1) → v < 16777216
bytes_fit k v l e = byte_fits (k - 1) v (omega arith) e

pub number_none : (m : Memory) (bytes : List ℕ) (a : ℕ) → number_at m bytes a 0 ≡ 0
unfolding number_at
number_none m bytes a = refl

pub number_more : (m : Memory) (bytes : List ℕ) (a n : ℕ) → number_at m bytes a (n + 1) ≡ number_at m bytes a n * 256 + byte_at m bytes (wrap (a + n))
unfolding number_at
number_more m bytes a n = rw add-one refl

pub byte_more : (n v b : ℕ) → v < 256 ^ n → b < 256 → v * 256 + b < 256 ^ (n + 1)
byte_more n v b l e = rw (add-one, pow-suc 256 n) (omega arith)

pub store_none : (bytes : List ℕ) (a v : ℕ) → store_number bytes a 0 v ≡ bytes
unfolding store_number
store_none bytes a v = refl

-- the rightmost byte that is left
pub store_more : (bytes : List ℕ) (a n v : ℕ) → 0 < n → store_number bytes a n v ≡ store_number (slice_set bytes (wrap (a + (n - 1))) (v % 256)) a (n - 1) (v / 256)
unfolding store_number
store_more bytes a zero v h = absurd (omega arith)
store_more bytes a (suc n) v h = rw (sub-one (suc n)) refl
