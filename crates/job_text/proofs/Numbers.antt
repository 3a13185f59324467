-- Nine digits fit 32 bits.
use Rattle.std.proofs.Common.{◌≡◌, ℕ, ◌+◌, ◌*◌, ◌-◌, ◌<◌, ◌≤◌, ◌^◌, true, ◌&&◌, nat_le, List, [], ◌∷◌, length, get_or, arith, suc, zero}
use Rattle.std.proofs.lemmas.Bool.Decides.{nat_tests}
use Rattle.std.specs.List.{list_all}
use Rattle.std.proofs.Math.Nat.{pow-le-pow_right}
use Rattle.std.proofs.lemmas.Bool.{and_parts}
use Rattle.cov_base.specs.Meaning.{is_digit_byte}
use Rattle.job_text.specs.Meaning.{is_number}

pub digit_at : (w : List ℕ) (i : ℕ) → list_all is_digit_byte w ≡ true → i < length w → get_or w i 0 ≤ 57
digit_at [] i all h = omega arith
digit_at (x ∷ xs) zero all h = let d = and_parts (is_digit_byte x) _ all in let e = and_parts (nat_le 48 x) (nat_le x 57) d.0 in grind (arith, nat_tests, e.1)
digit_at (x ∷ xs) (suc i) all h = digit_at xs i (and_parts (is_digit_byte x) _ all).1 (omega arith)

pub power_fits : (i : ℕ) → i < 9 → 10 ^ i ≤ 100000000
power_fits i h = let e : i ≤ 8 = omega arith in let ten : 0 < 10 = omega arith in omega (arith, pow-le-pow_right ten e)

pub digits_fit : (w : List ℕ) (i n : ℕ) → is_number w ≡ true → i < length w → n < 10 ^ i → n * 10 + (get_or w i 0 - 48) < 1000000000
digits_fit w i n e h b =
    let p = and_parts _ (list_all is_digit_byte w) e in
    let q = and_parts (nat_le 1 (length w) && nat_le (length w) 9) _ p.0 in
    let r = and_parts (nat_le 1 (length w)) (nat_le (length w) 9) q.0 in
    let short : length w ≤ 9 = grind (arith, nat_tests, r.1) in
    omega (arith, power_fits i (omega arith), digit_at w i p.1 h)
