-- Numbers of so many digits or bytes, and what fits 128 bits.
use Rattle.std.proofs.Common.{◌≡◌, ℕ, ◌+◌, ◌*◌, ◌%◌, ◌^◌, ◌<◌, ◌≤◌, arith, lit<}
use Rattle.std.proofs.Math.Nat.{pow-le-pow_right, one-le-pow, mod-eq_of_lt}
use Rattle.std.proofs.lemmas.Nat.{pow-add, mul-lt}

pub power_above : (k : ℕ) → 0 < 10 ^ k
power_above k = one-le-pow k 10 (lit< tt)

-- 31 digits, which sixteen bytes have, are the most
pub power_most : (k : ℕ) → k ≤ 31 → 10 ^ k ≤ 10000000000000000000000000000000
power_most k l = pow-le-pow_right {n = 10} (lit< tt) {i = k} {j = 31} l

pub power_fits : (k : ℕ) → k ≤ 38 → 10 ^ k < 340282366920938463463374607431768211456
power_fits k l = let b : 10 ^ k ≤ 10 ^ 38 = pow-le-pow_right {n = 10} (lit< tt) {i = k} {j = 38} l in omega (arith, b)

pub power_short : (k : ℕ) → k < 20 → 10 ^ k < 18446744073709551616
power_short k l = let b : 10 ^ k ≤ 10 ^ 19 = pow-le-pow_right {n = 10} (lit< tt) {i = k} {j = 19} (omega arith) in omega (arith, b)

pub remainder_small : (v p : ℕ) → v < p → v % p ≡ v
remainder_small v p h = mod-eq_of_lt h

-- a product of no more than 38 digits
pub product_fits : (i j v w : ℕ) → i + j ≤ 38 → v < 10 ^ i → w < 10 ^ j → v * w < 340282366920938463463374607431768211456
product_fits i j v w l h k =
    omega (arith, pow-add 10 i j, power_fits (i + j) l, mul-lt v w (10 ^ i) (10 ^ j) h k)
