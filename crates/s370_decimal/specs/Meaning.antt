-- What the claim of the program says by this crate's clauses.
use Rattle.std.specs.Prelude.{ℕ, ◌+◌, Option, Some, None, List, [], ◌∷◌, ◌*◌, ◌^◌, Bool, nat_lt, ◌-◌, ◌/◌, ◌%◌, not, ◌&&◌, nat_le, if◌then◌else◌, false, ◌==◌, true, ℤ, ◌+ℤ◌, ◌-ℤ◌, zero, suc, ◌||◌, ◌++◌}
use Rattle.cov_base.specs.Meaning.{CpuView, Machine, Memory, wrap, byte_at}
use Rattle.s370_state.specs.Meaning.{Use, reads, stores, Outcome, Completes, Program, with_bytes, Overflows, with_cc, Row, storing, needing, on_data, field_at, store_field, number, order_code, is_digit, is_sign, is_minus, store_bytes, with_address}
use Rattle.s370_decode.specs.Meaning.{r1, r2, e1, e2, shift_distance, i2}
use Rattle.s370_decode.specs.declared.code.Code.{Code}
use Rattle.s370_state.specs.declared.packed.Field.{Field}
use Rattle.s370_decimal.specs.declared.operands.Operands.{Operands}
use Rattle.s370_decimal.specs.declared.results.Kept.{Kept}
use Rattle.std.specs.Int.{is_negative}
use Rattle.std.specs.Int.RustNames.{unsigned_abs}
use Rattle.std.specs.Ordering.{int_cmp}
use Rattle.s370_decode.specs.declared.op.Op.{Op}
use Rattle.s370_decode.specs.declared.op.Op.TheVariants.{AP, SP, ZAP, CP, MP, DP, SRP, ED, EDMK}
use Rattle.s370_decimal.specs.declared.working.Digit.{Digit}
use Rattle.s370_decimal.specs.declared.working.Working.{Working}
use Rattle.s370_decimal.specs.declared.working.PatternStep.{PatternStep}

-- The two fields that an operation works on.

-- the length codes
abbrev pub l1 : Code → ℕ
l1 c = r1 c

abbrev pub l2 : Code → ℕ
l2 c = r2 c

-- the first field is replaced, the second is read
abbrev pub replaces : CpuView → Code → List Use
replaces s c = stores (e1 s c) (l1 c + 1) ∷ (reads (e2 s c) (l2 c + 1) ∷ [])

-- both are read
abbrev pub reads_both : CpuView → Code → List Use
reads_both s c = reads (e1 s c) (l1 c + 1) ∷ (reads (e2 s c) (l2 c + 1) ∷ [])

abbrev pub both : Option Field → Option Field → Option Operands
both None g = None
both (Some f) None = None
both (Some f) (Some g) = Some (record { first = f; second = g })

-- what the two fields hold; none where a digit or the sign of either is bad
abbrev pub operands : Memory → CpuView → List ℕ → Code → Option Operands
operands m s bytes c = both (field_at m bytes (e1 s c) (l1 c)) (field_at m bytes (e2 s c) (l2 c))

-- The room of packed decimal fields.

-- the magnitude is one of 2l + 1 digits
abbrev pub fits_field : ℕ → ℕ → Bool
fits_field l v = nat_lt v (10 ^ (2 * l + 1))

-- Multiplication and division (Principles of Operation, "Decimal Instructions", "Multiply Decimal", "Divide
-- Decimal").

-- the second field has at most 8 bytes, and fewer than the first
abbrev pub is_shorter : Code → Bool
is_shorter c = nat_le (l2 c) 7 && nat_lt (l2 c) (l1 c)

-- the sign of a product or quotient, also of zero, is minus where the signs differ
abbrev pub signs_differ : Operands → Bool
signs_differ o = if o.first.minus then not o.second.minus else o.second.minus

-- the length code of as many bytes as the first field has more than the second
abbrev pub longer_by : ℕ → ℕ → ℕ
longer_by l1 l2 = l1 - l2 - 1

-- the product goes to the first field, unless that has fewer leading zero bytes than the second has bytes
unfoldable pub multiplied : Machine → Code → Operands → Outcome
multiplied s c o =
    if fits_field (longer_by (l1 c) (l2 c)) o.first.magnitude then
    Completes (with_bytes s (store_field s.bytes (e1 s.cpu c) (l1 c) (o.first.magnitude * o.second.magnitude) (signs_differ o)))
    else Program 7

-- the quotient goes to the left of the first field, and the remainder, which has the second field's length and the first one's
-- sign, to its right; unless the divisor is zero or the quotient too long
unfoldable pub divided_fields : Machine → Code → Operands → Outcome
divided_fields s c o =
    if (nat_lt 0 o.second.magnitude && fits_field (longer_by (l1 c) (l2 c)) (o.first.magnitude / o.second.magnitude)) then
    Completes (with_bytes s (store_field
    (store_field s.bytes (e1 s.cpu c) (longer_by (l1 c) (l2 c)) (o.first.magnitude / o.second.magnitude) (signs_differ o))
    (wrap (e1 s.cpu c + (l1 c - l2 c))) (l2 c) (o.first.magnitude % o.second.magnitude) o.first.minus))
    else Program 11

-- What becomes of a result in the first field (Principles of Operation, "Decimal-Overflow Exception").

-- what a field of length code l keeps of a whole result, given by magnitude and sign: its low digits, its sign, where zero
-- is plus, and whether other digits than zeros are lost
unfoldable pub kept : ℕ → ℕ → Bool → Kept
kept l v minus = record { digits = v % 10 ^ (2 * l + 1); minus = if v == 0 then false else minus; lost = not (fits_field l v) }

-- code 3 where digits are lost, else the sign code
unfoldable pub code_of : Kept → ℕ
code_of k = if k.lost then 3 else (if k.digits == 0 then 0 else (if k.minus then 1 else 2))

-- the field of length code l at a becomes what is kept; where digits are lost it is an overflow, with code X'A'
abbrev pub results_kept : Machine → ℕ → ℕ → Kept → Outcome
results_kept s a l k =
    Overflows (with_cc (with_bytes s (store_field s.bytes a l k.digits k.minus)) (code_of k)) (if k.lost then 10 else 0)

-- The shift (Principles of Operation, "Decimal Instructions", "Shift and Round Decimal").

-- the whole magnitude: where n is below 32, n digits to the left; else 64 - n digits to the right, after the rounding digit
-- i was added to the last digit that goes
unfoldable pub digits_shifted : ℕ → ℕ → ℕ → ℕ
digits_shifted v i n = if nat_lt n 32 then v * 10 ^ n else (v + i * 10 ^ (63 - n)) / 10 ^ (64 - n)

-- The row of each decimal operation (Principles of Operation, "Decimal Instructions").

-- the first field becomes the number
abbrev pub becomes : Machine → Code → ℤ → Outcome
becomes s c z = results_kept s (e1 s.cpu c) (l1 c) (kept (l1 c) (unsigned_abs z) (is_negative z))

-- the first field is replaced by what comes of both
abbrev pub on_both : Memory → Machine → Code → (Operands → Outcome) → Row
on_both m s c f = record { well = true; uses = replaces s.cpu c; outcome = on_data (operands m s.cpu s.bytes c) f }

abbrev pub decimal_row : Op → Code → Memory → Machine → Option Row
decimal_row AP c m s = Some (on_both m s c (λ o. becomes s c (number o.first +ℤ number o.second)))
decimal_row SP c m s = Some (on_both m s c (λ o. becomes s c (number o.first -ℤ number o.second)))
-- what the first field held doesn't matter
decimal_row ZAP c m s = Some (record {
  well = true;
  uses = replaces s.cpu c;
  outcome =
      on_data (field_at m s.bytes (e2 s.cpu c) (l2 c)) (λ f. results_kept s (e1 s.cpu c) (l1 c) (kept (l1 c) f.magnitude f.minus));
})
-- zeros of either sign are equal
decimal_row CP c m s = Some (record {
  well = true;
  uses = reads_both s.cpu c;
  outcome =
      on_data (operands m s.cpu s.bytes c) (λ o. Completes (with_cc s (order_code (int_cmp (number o.first) (number o.second)))));
})
decimal_row MP c m s = Some (needing (is_shorter c) (on_both m s c (multiplied s c)))
decimal_row DP c m s = Some (needing (is_shorter c) (on_both m s c (divided_fields s c)))
-- the rounding digit, in bits 12-15, is to be a digit too
decimal_row SRP c m s =
    Some (storing (e1 s.cpu c) (l1 c + 1) (on_data (if nat_le (r2 c) 9 then field_at m s.bytes (e1 s.cpu c) (l1 c) else None)
    (λ f. results_kept s (e1 s.cpu c) (l1 c) (kept (l1 c) (digits_shifted f.magnitude (r2 c) (shift_distance s.cpu c)) f.minus))))
decimal_row _ c m s = None

-- The working of a pattern, a byte at a time from left to right (Principles of Operation, "Decimal Instructions", "Edit").

-- before the first pattern byte
abbrev pub fresh : Working
fresh = record { taken = 0; right = None; significant = false; nonzero = false; mark = None; bad = false }

-- a left digit reads the next source byte, whose right half waits as a digit unless it is a sign
abbrev pub left_digit : Working → ℕ → Digit
left_digit w v = record {
  value = v / 16;
  right = if is_sign (v % 16) then None else Some (v % 16);
  taken = w.taken + 1;
  plus = is_sign (v % 16) && not (is_minus (v % 16));
}

abbrev pub digit_of : Working → ℕ → Option ℕ → Digit
digit_of w v None = left_digit w v
digit_of w v (Some d) = record { value = d; right = None; taken = w.taken; plus = false }

-- the next source digit of a source from b on
unfoldable pub next_digit : Memory → List ℕ → ℕ → Working → Digit
next_digit m bytes b w = digit_of w (byte_at m bytes (wrap (b + w.taken))) w.right

-- the digit is shown where significance is on or begins with it
abbrev pub is_shown : Working → Digit → Bool
is_shown w d = w.significant || not (d.value == 0)

-- A digit selector, or a significance starter, at an address. The digit is shown with the zone F or replaced by the fill
-- byte; significance is on after a digit that is shown and after a starter, unless a plus sign follows the digit.
unfoldable pub digit_selected : Working → Digit → Bool → ℕ → ℕ → PatternStep
digit_selected w d starts fill at = record {
  working = record {
    taken = d.taken;
    right = d.right;
    significant = (is_shown w d || starts) && not d.plus;
    nonzero = w.nonzero || not (d.value == 0);
    mark = if not w.significant && not (d.value == 0) then Some at else w.mark;
    bad = not (is_digit d.value);
  };
  byte = if is_shown w d then 240 + d.value else fill;
}

-- a field separator becomes the fill byte, and a new field begins
abbrev pub separated : Working → ℕ → PatternStep
separated w fill = record { working = record w { significant = false; nonzero = false }; byte = fill }

-- every other byte stays where significance is on, and else becomes the fill byte
abbrev pub byte_kept : Working → ℕ → ℕ → PatternStep
byte_kept w p fill = record { working = w; byte = if w.significant then p else fill }

-- the pattern byte p at an address; a bad digit has ended the working
unfoldable pub pattern_stepped : Memory → List ℕ → ℕ → ℕ → ℕ → ℕ → Working → PatternStep
pattern_stepped m bytes b fill p at w =
    if w.bad then record { working = w; byte = fill } else (
    if p == 32 then digit_selected w (next_digit m bytes b w) false fill at else (
    if p == 33 then digit_selected w (next_digit m bytes b w) true fill at else (
    if p == 34 then separated w fill else
    byte_kept w p fill)))

-- the step of the n-th pattern byte of a pattern from a on, whose first byte is the fill byte
abbrev pub step_at : Memory → List ℕ → ℕ → ℕ → ℕ → Working → PatternStep
step_at m bytes a b n w = pattern_stepped m bytes b (byte_at m bytes (wrap a)) (byte_at m bytes (wrap (a + n))) (wrap (a + n)) w

-- the working after n pattern bytes
unfoldable pub worked : Memory → List ℕ → ℕ → ℕ → ℕ → Working
worked m bytes a b zero = fresh
worked m bytes a b (suc n) = (step_at m bytes a b n (worked m bytes a b n)).working

-- their result bytes
unfoldable pub formed : Memory → List ℕ → ℕ → ℕ → ℕ → List ℕ
formed m bytes a b zero = []
formed m bytes a b (suc n) = formed m bytes a b n ++ (step_at m bytes a b n (worked m bytes a b n)).byte ∷ []

-- The rows of editing: the pattern is the first operand and becomes the result, and the source is packed decimal
-- (Principles of Operation, "Decimal Instructions", "Edit", "Edit and Mark").

-- 0 for a last field that is zero or empty, 1 where significance is on behind it, 2 where it is off
abbrev pub field_code : Working → ℕ
field_code w = if w.nonzero then (if w.significant then 1 else 2) else 0

-- where the operation marks, the address goes to bits 8-31 of register 1
abbrev pub marked : Bool → List ℕ → Option ℕ → List ℕ
marked true regs (Some at) = with_address regs 1 at
marked _ regs mark = regs

-- what the bytes from a on and the processor become; a digit above 9 is code 7
abbrev pub edited : Bool → Machine → ℕ → List ℕ → Working → Outcome
edited marks s a result w = if w.bad then Program 7 else Completes (record {
  cpu = record s.cpu { regs = marked marks s.cpu.regs w.mark; condition = field_code w };
  bytes = store_bytes s.bytes a result;
})

-- the n pattern bytes from a on, and of the source from b on as many bytes as the working reads
abbrev pub pattern_uses : Memory → List ℕ → ℕ → ℕ → ℕ → List Use
pattern_uses m bytes a b n = stores a n ∷ reads b (worked m bytes a b n).taken ∷ []

abbrev pub pattern_row : Bool → Code → Memory → Machine → Option Row
pattern_row marks c m s =
    let a = e1 s.cpu c in
    let b = e2 s.cpu c in
    let n = i2 c + 1 in
    Some (record {
      well = true;
      uses = pattern_uses m s.bytes a b n;
      outcome = edited marks s a (formed m s.bytes a b n) (worked m s.bytes a b n);
    })

-- EDMK also leaves the address of the last result byte whose digit is not 0 where significance was off before it
abbrev pub edit_row : Op → Code → Memory → Machine → Option Row
edit_row ED c m s = pattern_row false c m s
edit_row EDMK c m s = pattern_row true c m s
edit_row _ c m s = None
