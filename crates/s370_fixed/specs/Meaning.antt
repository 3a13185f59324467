-- What the claim of the program says by this crate's clauses.
use Rattle.std.specs.Prelude.{ℕ, ◌%◌, ◌-◌, nat_lt, ◌==◌, if◌then◌else◌, Bool, ℤ, pos, negsuc, ◌+◌, ◌&&◌, ◌*ℤ◌, ◌^◌, Option, Some, None, neg_ℤ, ◌+ℤ◌, ◌-ℤ◌}
use Rattle.std.specs.Int.{cast_signed, w16, cast_unsigned, w64, int_div_euclid, is_negative}
use Rattle.cov_base.specs.Meaning.{Machine, Memory}
use Rattle.s370_state.specs.Meaning.{Outcome, Completes, Program, with_reg, Row, Overflows, reading, with_cc, reg, pair, with_pair, with_regs, at_once, storing, needing, on_data, from_register, from_word, to_storage, is_even, with_bytes, number, field_at, store_field, number_at, signed, order_code}
use Rattle.s370_state.specs.declared.packed.Field.{Field}
use Rattle.s370_decode.specs.Meaning.{r1, ex, shift_distance}
use Rattle.s370_decode.specs.declared.code.Code.{Code}
use Rattle.std.specs.Int.RustNames.{int_div, int_rem, unsigned_abs}
use Rattle.std.specs.Ordering.{int_cmp}
use Rattle.s370_decode.specs.declared.op.Op.{Op}
use Rattle.s370_decode.specs.declared.op.Op.TheVariants.{LR, L, LH, LTR, LCR, LPR, LNR, LA, ST, STH, AR, A, AH, SR, S, SH, CR, C, CH, MR, M, MH, DR, D, SLA, SRA, SLDA, SRDA, CVB, CVD}

-- Numbers of which a register keeps 32 bits, and halfwords.

-- a halfword as a signed number
unfoldable pub signed_half : ℕ → ℤ
signed_half n = cast_signed w16 n

-- a signed number modulo m
abbrev pub modulo : ℕ → ℤ → ℕ
modulo m (pos n) = n % m
modulo m (negsuc n) = m - 1 - n % m

-- modulo 2^32
unfoldable pub low_word : ℤ → ℕ
low_word z = modulo 4294967296 z

-- the number is at least -m, and below m
abbrev pub is_in_range : ℕ → ℤ → Bool
is_in_range m (pos n) = nat_lt n m
is_in_range m (negsuc n) = nat_lt n m

-- the number fits a signed word, and a signed doubleword
unfoldable pub is_word : ℤ → Bool
is_word z = is_in_range 2147483648 z

unfoldable pub is_doubleword : ℤ → Bool
is_doubleword z = is_in_range 9223372036854775808 z

-- 0 for zero, 1 for negative, 2 for positive
unfoldable pub sign_code : ℤ → ℕ
sign_code (pos n) = if n == 0 then 0 else 2
sign_code (negsuc n) = 1

-- Conversion to a register's number (Principles of Operation, "General Instructions", "Convert to Binary").

-- the field's number goes to register r; one that is no word is code 9
unfoldable pub converted : Machine → ℕ → Field → Outcome
converted s r f = if is_word (number f) then Completes (with_reg s r (low_word (number f))) else Program 9

-- The second operand of an operation, and the shapes of outcomes that operations share.

-- the halfword at the second operand's address is the operand, extended by its sign
abbrev pub from_half : Memory → Machine → Code → (ℤ → Outcome) → Row
from_half m s c f = reading (ex s.cpu c) 2 (f (signed_half (number_at m s.bytes (ex s.cpu c) 2)))

-- R1 becomes the word
abbrev pub loads : Machine → Code → ℕ → Outcome
loads s c v = Completes (with_reg s (r1 c) v)

-- the code of a signed result: its sign code where it fits, else 3, and it is an overflow with code 8
abbrev pub result_code : Bool → ℤ → ℕ
result_code fits z = if fits then sign_code z else 3

abbrev pub signals : Machine → Bool → ℤ → Outcome
signals s fits z = Overflows (with_cc s (result_code fits z)) (if fits then 0 else 8)

-- R1 becomes the low word of a signed result
abbrev pub results : Machine → Code → ℤ → Outcome
results s c z = signals (with_reg s (r1 c) (low_word z)) (is_word z) z

-- Pairs of registers, multiplication and division (Principles of Operation, "General Instructions").

-- the pair R1 as a signed number, and with other 64 bits
abbrev pub signed_pair : Machine → Code → ℤ
signed_pair s c = cast_signed w64 (pair s.cpu (r1 c))

abbrev pub to_pair : Machine → Code → ℕ → Machine
to_pair s c v = with_regs s (with_pair s.cpu.regs (r1 c) v)

-- a signed product as 64 bits
unfoldable pub product : ℤ → ℤ → ℕ
product x y = cast_unsigned w64 (x *ℤ y)

-- the product of register R1+1 and the operand goes to the pair
abbrev pub multiplies : Machine → Code → ℕ → Outcome
multiplies s c v = Completes (to_pair s c (product (signed (reg s (r1 c + 1))) (signed v)))

-- the divisor isn't 0, and the quotient is a word
unfoldable pub divides : ℤ → ℤ → Bool
divides p d = nat_lt 0 (unsigned_abs d) && is_word (int_div p d)

-- remainder, with the dividend's sign, to register r, and quotient, truncated towards zero, to the next
abbrev pub divided : Machine → ℕ → ℤ → ℤ → Outcome
divided s r p d =
    if divides p d then Completes (with_reg (with_reg s r (low_word (int_rem p d))) (r + 1) (low_word (int_div p d))) else Program 9

-- Shifts (Principles of Operation, "General Instructions"). They multiply a signed number by a power of two, or divide by it and
-- round down.

unfoldable pub left_by : ℤ → ℕ → ℤ
left_by x n = x *ℤ pos (2 ^ n)

unfoldable pub right_by : ℤ → ℕ → ℤ
right_by x n = int_div_euclid x (pos (2 ^ n))

-- the sign bit of x, whose value is `sign`, stays before the low bits of the product z; where z fits, this is z
unfoldable pub with_sign : ℕ → ℤ → ℤ → ℕ
with_sign sign x z = (if is_negative x then sign else 0) + modulo sign z

-- Sums, differences and comparisons (Principles of Operation, "General Instructions").

-- R1 as a signed number
abbrev pub first : Machine → Code → ℤ
first s c = signed (reg s (r1 c))

-- R1 is the first operand
abbrev pub compares_signed : Machine → Code → ℤ → Outcome
compares_signed s c z = Completes (with_cc s (order_code (int_cmp (first s c) z)))

-- The row of each operation of fixed point and loads (Principles of Operation, "General Instructions").

abbrev pub fixed_row : Op → Code → Memory → Machine → Option Row
fixed_row LR c m s = Some (from_register s c (loads s c))
fixed_row L c m s = Some (from_word m s c (loads s c))
fixed_row LH c m s = Some (from_half m s c (λ z. loads s c (low_word z)))
-- as LR, with the sign code; the complement, and the magnitude, of which that of -2^31 overflows; the magnitude made negative
fixed_row LTR c m s = Some (from_register s c (λ v. Completes (with_cc (with_reg s (r1 c) v) (sign_code (signed v)))))
fixed_row LCR c m s = Some (from_register s c (λ v. results s c (neg_ℤ (signed v))))
fixed_row LPR c m s = Some (from_register s c (λ v. results s c (pos (unsigned_abs (signed v)))))
fixed_row LNR c m s = Some (from_register s c (λ v. results s c (neg_ℤ (pos (unsigned_abs (signed v))))))
-- the address, with zeros in bits 0-7; no access
fixed_row LA c m s = Some (at_once (loads s c (ex s.cpu c)))
fixed_row ST c m s = Some (to_storage s (ex s.cpu c) 4 (reg s (r1 c)))
fixed_row STH c m s = Some (to_storage s (ex s.cpu c) 2 (reg s (r1 c)))
fixed_row AR c m s = Some (from_register s c (λ v. results s c (first s c +ℤ signed v)))
fixed_row A c m s = Some (from_word m s c (λ v. results s c (first s c +ℤ signed v)))
fixed_row AH c m s = Some (from_half m s c (λ z. results s c (first s c +ℤ z)))
fixed_row SR c m s = Some (from_register s c (λ v. results s c (first s c -ℤ signed v)))
fixed_row S c m s = Some (from_word m s c (λ v. results s c (first s c -ℤ signed v)))
fixed_row SH c m s = Some (from_half m s c (λ z. results s c (first s c -ℤ z)))
fixed_row CR c m s = Some (from_register s c (λ v. compares_signed s c (signed v)))
fixed_row C c m s = Some (from_word m s c (λ v. compares_signed s c (signed v)))
fixed_row CH c m s = Some (from_half m s c (compares_signed s c))
fixed_row MR c m s = Some (needing (is_even (r1 c)) (from_register s c (multiplies s c)))
fixed_row M c m s = Some (needing (is_even (r1 c)) (from_word m s c (multiplies s c)))
-- the low word of the product; its high part is lost without a code
fixed_row MH c m s = Some (from_half m s c (λ z. loads s c (low_word (first s c *ℤ z))))
fixed_row DR c m s = Some (needing (is_even (r1 c)) (from_register s c (λ v. divided s (r1 c) (signed_pair s c) (signed v))))
fixed_row D c m s = Some (needing (is_even (r1 c)) (from_word m s c (λ v. divided s (r1 c) (signed_pair s c) (signed v))))
fixed_row SLA c m s =
    let z = left_by (first s c) (shift_distance s.cpu c) in
    Some (at_once (signals (with_reg s (r1 c) (with_sign 2147483648 (first s c) z)) (is_word z) z))
fixed_row SRA c m s =
    let z = right_by (first s c) (shift_distance s.cpu c) in
    Some (at_once (Completes (with_cc (with_reg s (r1 c) (low_word z)) (sign_code z))))
-- the same of the 64 bits of a pair
fixed_row SLDA c m s =
    let z = left_by (signed_pair s c) (shift_distance s.cpu c) in
    Some (needing (is_even (r1 c))
    (at_once (signals (to_pair s c (with_sign 9223372036854775808 (signed_pair s c) z)) (is_doubleword z) z)))
fixed_row SRDA c m s =
    let z = right_by (signed_pair s c) (shift_distance s.cpu c) in
    Some (needing (is_even (r1 c)) (at_once (Completes (with_cc (to_pair s c (cast_unsigned w64 z)) (sign_code z)))))
-- packed decimal doublewords, which are fields of 8 bytes
fixed_row CVB c m s = Some (reading (ex s.cpu c) 8 (on_data (field_at m s.bytes (ex s.cpu c) 7) (converted s (r1 c))))
fixed_row CVD c m s =
    Some (storing (ex s.cpu c) 8
    (Completes (with_bytes s (store_field s.bytes (ex s.cpu c) 7 (unsigned_abs (first s c)) (is_negative (first s c))))))
fixed_row _ c m s = None
