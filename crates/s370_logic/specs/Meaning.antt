-- What the claim of the program says by this crate's clauses.
use Rattle.std.specs.Prelude.{ℕ, zero, suc, ◌+◌, ◌-◌, ◌^◌, nat_lt, Bool, true, ◌&&◌, ◌==◌, if◌then◌else◌, Option, Some, List, slice_set, ◌*◌, ◌/◌, ◌%◌, nat_le, count_ones, None, bit_and, bit_or, bit_xor}
use Rattle.cov_base.specs.Meaning.{Machine, Memory, byte_at, wrap}
use Rattle.s370_state.specs.Meaning.{Row, Outcome, Completes, from_register, from_word, storing, replacing, reg, with_reg, with_cc, with_bytes, at_once, reading, comparing, needing, to_storage, is_even, pair, with_pair, with_regs, order_code, number_at, store_number}
use Rattle.s370_decode.specs.Meaning.{r1, i2, e1, e2, r2, ex, shift_distance}
use Rattle.s370_decode.specs.declared.code.Code.{Code}
use Rattle.std.specs.Ordering.{nat_cmp}
use Rattle.s370_decode.specs.declared.op.Op.{Op}
use Rattle.s370_decode.specs.declared.op.Op.TheVariants.{NR, N, NI, NC, OR, O, OI, OC, XR, X, XI, XC, CLR, CL, CLI, CLC, IC, STC, ICM, STCM, CLM, TM, MVI, TS, CS, CDS, SPM, ALR, AL, SLR, SL, SLL, SRL, SLDL, SRDL}

-- And, or and exclusive or, by the operation on bits (Principles of Operation, "General Instructions", "AND", "OR", "Exclusive
-- OR"). The rows are of R1 with R2, of R1 with a word, of a byte with the immediate byte, and of the bytes of two fields.

-- 0 where the result is zero, else 1
abbrev pub zero_code : Bool → ℕ
zero_code is_zero = if is_zero then 0 else 1

-- R1 becomes f of it and the operand
abbrev pub joins : (ℕ → ℕ → ℕ) → Machine → Code → ℕ → Outcome
joins f s c v = Completes (with_cc (with_reg s (r1 c) (f (reg s (r1 c)) v)) (zero_code (f (reg s (r1 c)) v == 0)))

abbrev pub row_registers : (ℕ → ℕ → ℕ) → Code → Memory → Machine → Option Row
row_registers f c m s = Some (from_register s c (joins f s c))

abbrev pub row_word : (ℕ → ℕ → ℕ) → Code → Memory → Machine → Option Row
row_word f c m s = Some (from_word m s c (joins f s c))

abbrev pub row_immediate : (ℕ → ℕ → ℕ) → Code → Memory → Machine → Option Row
row_immediate f c m s =
    let v = f (byte_at m s.bytes (e1 s.cpu c)) (i2 c) in
    Some (storing (e1 s.cpu c) 1 (Completes (with_cc (with_bytes s (slice_set s.bytes (e1 s.cpu c) v)) (zero_code (v == 0)))))

-- f of byte n of the operands at a and b, as they stand in these bytes
abbrev pub joined_byte : (ℕ → ℕ → ℕ) → Memory → List ℕ → ℕ → ℕ → ℕ → ℕ
joined_byte f m bytes a b n = f (byte_at m bytes (wrap (a + n))) (byte_at m bytes (wrap (b + n)))

-- n bytes of the operand at a became f of them and of those at b, one at a time and left to right: where the operands
-- overlap, a byte can be read after it was stored
unfoldable pub bytes_joined : (ℕ → ℕ → ℕ) → Memory → List ℕ → ℕ → ℕ → ℕ → List ℕ
bytes_joined f m bytes a b zero = bytes
bytes_joined f m bytes a b (suc n) =
    slice_set (bytes_joined f m bytes a b n) (wrap (a + n)) (joined_byte f m (bytes_joined f m bytes a b n) a b n)

-- each of these results is zero
unfoldable pub are_zero : (ℕ → ℕ → ℕ) → Memory → List ℕ → ℕ → ℕ → ℕ → Bool
are_zero f m bytes a b zero = true
are_zero f m bytes a b (suc n) = are_zero f m bytes a b n && joined_byte f m (bytes_joined f m bytes a b n) a b n == 0

abbrev pub row_fields : (ℕ → ℕ → ℕ) → Code → Memory → Machine → Option Row
row_fields f c m s =
    let a = e1 s.cpu c in
    let b = e2 s.cpu c in
    let n = i2 c + 1 in
    Some (replacing a n b n
    (Completes (with_cc (with_bytes s (bytes_joined f m s.bytes a b n)) (zero_code (are_zero f m s.bytes a b n)))))

-- Comparisons without signs (Principles of Operation, "General Instructions", "Compare Logical").

-- of a first operand with a second
abbrev pub compares_logical : Machine → ℕ → ℕ → Outcome
compares_logical s v w = Completes (with_cc s (order_code (nat_cmp v w)))

-- of the n bytes from a and from b on, the leftmost unequal pair decides
unfoldable pub compared : Memory → List ℕ → ℕ → ℕ → ℕ → ℕ
compared m bytes a b zero = 0
compared m bytes a b (suc n) =
    if compared m bytes a b n == 0 then order_code (nat_cmp (byte_at m bytes (wrap (a + n))) (byte_at m bytes (wrap (b + n))))
    else compared m bytes a b n

-- The bytes of a register that a mask of four bits selects, left to right (Principles of Operation, "General Instructions",
-- "Insert Characters under Mask"). A zero mask selects no byte, and the operand then has none.

-- the operand's length: a byte for each one bit of the mask
abbrev pub size : Code → ℕ
size c = count_ones (r2 c)

-- of w's k right bytes, the number that those make which the mask's k right bits select
unfoldable pub gathered : ℕ → ℕ → ℕ → ℕ
gathered zero mask w = 0
gathered (suc k) mask w =
    if mask % 2 == 1 then gathered k (mask / 2) (w / 256) * 256 + w % 256 else gathered k (mask / 2) (w / 256)

-- these k bytes with the bytes of v, right to left, in the places that the mask selects
unfoldable pub inserted : ℕ → ℕ → ℕ → ℕ → ℕ
inserted zero mask w v = 0
inserted (suc k) mask w v =
    if mask % 2 == 1 then inserted k (mask / 2) (w / 256) (v / 256) * 256 + v % 256
    else inserted k (mask / 2) (w / 256) v * 256 + w % 256

-- 0 where all inserted bits are zero, or there are none; 1 where the first is one, else 2
abbrev pub insert_code : ℕ → ℕ → ℕ
insert_code v first = if v == 0 then 0 else (if nat_le 128 first then 1 else 2)

-- One byte in storage (Principles of Operation, "General Instructions").

-- one byte is stored
abbrev pub stores_byte : ℕ → ℕ → Memory → Machine → Option Row
stores_byte a v m s = Some (storing a 1 (Completes (with_bytes s (slice_set s.bytes a v))))

-- 0 where the selected bits are all zero, 3 where they are all one, else 1
abbrev pub mask_code : ℕ → ℕ → ℕ
mask_code selected mask = if selected == 0 then 0 else (if selected == mask then 3 else 1)

-- Sums, differences and shifts without signs (Principles of Operation, "General Instructions").

-- of a sum: 1 where its low word isn't zero, and 2 more with a carry out of it
abbrev pub carry_code : ℕ → ℕ
carry_code n = (if n % 4294967296 == 0 then 0 else 1) + (if nat_lt n 4294967296 then 0 else 2)

-- R1 becomes the low word of a sum
abbrev pub sums : Machine → Code → ℕ → Outcome
sums s c n = Completes (with_cc (with_reg s (r1 c) (n % 4294967296)) (carry_code n))

-- a difference is the sum of R1, the one's complement of the operand, and 1
abbrev pub differs : Machine → Code → ℕ → Outcome
differs s c v = sums s c (reg s (r1 c) + (4294967295 - v) + 1)

-- R1 becomes the word, and the pair R1 the 64 bits
abbrev pub shifts : Machine → Code → ℕ → Row
shifts s c v = at_once (Completes (with_reg s (r1 c) v))

abbrev pub shifts_pair : Machine → Code → ℕ → Row
shifts_pair s c v = needing (is_even (r1 c)) (at_once (Completes (with_regs s (with_pair s.cpu.regs (r1 c) v))))

-- The row of each operation of logic and tests (Principles of Operation, "General Instructions").

abbrev pub logic_row : Op → Code → Memory → Machine → Option Row
logic_row NR c m s = row_registers bit_and c m s
logic_row N c m s = row_word bit_and c m s
logic_row NI c m s = row_immediate bit_and c m s
logic_row NC c m s = row_fields bit_and c m s
logic_row OR c m s = row_registers bit_or c m s
logic_row O c m s = row_word bit_or c m s
logic_row OI c m s = row_immediate bit_or c m s
logic_row OC c m s = row_fields bit_or c m s
logic_row XR c m s = row_registers bit_xor c m s
logic_row X c m s = row_word bit_xor c m s
logic_row XI c m s = row_immediate bit_xor c m s
logic_row XC c m s = row_fields bit_xor c m s
logic_row CLR c m s = Some (from_register s c (compares_logical s (reg s (r1 c))))
logic_row CL c m s = Some (from_word m s c (compares_logical s (reg s (r1 c))))
-- a byte in storage with the immediate byte, and two fields
logic_row CLI c m s = Some (reading (e1 s.cpu c) 1 (compares_logical s (byte_at m s.bytes (e1 s.cpu c)) (i2 c)))
logic_row CLC c m s =
    Some (comparing (e1 s.cpu c) (i2 c + 1) (e2 s.cpu c) (i2 c + 1)
    (Completes (with_cc s (compared m s.bytes (e1 s.cpu c) (e2 s.cpu c) (i2 c + 1)))))
-- the byte goes to bits 24-31 of R1, or comes from there
logic_row IC c m s =
    Some (reading (ex s.cpu c) 1 (Completes (with_reg s (r1 c) (reg s (r1 c) / 256 * 256 + byte_at m s.bytes (ex s.cpu c)))))
logic_row STC c m s = stores_byte (ex s.cpu c) (reg s (r1 c) % 256) m s
logic_row ICM c m s =
    let v = number_at m s.bytes (e2 s.cpu c) (size c) in
    Some (reading (e2 s.cpu c) (size c)
    (Completes (with_cc (with_reg s (r1 c) (inserted 4 (r2 c) (reg s (r1 c)) v))
    (insert_code v (byte_at m s.bytes (e2 s.cpu c))))))
logic_row STCM c m s = Some (to_storage s (e2 s.cpu c) (size c) (gathered 4 (r2 c) (reg s (r1 c))))
logic_row CLM c m s =
    Some (reading (e2 s.cpu c) (size c)
    (compares_logical s (gathered 4 (r2 c) (reg s (r1 c))) (number_at m s.bytes (e2 s.cpu c) (size c))))
logic_row TM c m s =
    Some (reading (e1 s.cpu c) 1 (Completes (with_cc s (mask_code (bit_and (byte_at m s.bytes (e1 s.cpu c)) (i2 c)) (i2 c)))))
logic_row MVI c m s = stores_byte (e1 s.cpu c) (i2 c) m s
-- the byte's leftmost bit as it was is the condition code, and the byte becomes all ones
logic_row TS c m s =
    Some (storing (e2 s.cpu c) 1
    (Completes (with_cc (with_bytes s (slice_set s.bytes (e2 s.cpu c) 255)) (byte_at m s.bytes (e2 s.cpu c) / 128))))
-- where R1 equals the word, R3 is stored; else R1 becomes the word; the operand counts as stored in either case
logic_row CS c m s =
    let a = e2 s.cpu c in
    let v = number_at m s.bytes a 4 in
    Some (needing (a % 4 == 0) (storing a 4 (
    if reg s (r1 c) == v then Completes (with_cc (with_bytes s (store_number s.bytes a 4 (reg s (r2 c)))) 0)
    else Completes (with_cc (with_reg s (r1 c) v) 1))))
-- the same of pairs and a doubleword
logic_row CDS c m s =
    let a = e2 s.cpu c in
    let v = number_at m s.bytes a 8 in
    Some (needing (is_even (r1 c) && is_even (r2 c) && a % 8 == 0) (storing a 8 (
    if pair s.cpu (r1 c) == v then Completes (with_cc (with_bytes s (store_number s.bytes a 8 (pair s.cpu (r2 c)))) 0)
    else Completes (with_cc (with_regs s (with_pair s.cpu.regs (r1 c) v)) 1))))
-- bits 2-3 of R1 are the condition code, and bits 4-7 the program mask
logic_row SPM c m s =
    let w = reg s (r1 c) in
    Some (at_once (Completes
    (record { cpu = record s.cpu { condition = w / 268435456 % 4; mask = w / 16777216 % 16 }; bytes = s.bytes })))
logic_row ALR c m s = Some (from_register s c (λ v. sums s c (reg s (r1 c) + v)))
logic_row AL c m s = Some (from_word m s c (λ v. sums s c (reg s (r1 c) + v)))
logic_row SLR c m s = Some (from_register s c (differs s c))
logic_row SL c m s = Some (from_word m s c (differs s c))
logic_row SLL c m s = Some (shifts s c (reg s (r1 c) * 2 ^ shift_distance s.cpu c % 4294967296))
logic_row SRL c m s = Some (shifts s c (reg s (r1 c) / 2 ^ shift_distance s.cpu c))
logic_row SLDL c m s = Some (shifts_pair s c (pair s.cpu (r1 c) * 2 ^ shift_distance s.cpu c % 18446744073709551616))
logic_row SRDL c m s = Some (shifts_pair s c (pair s.cpu (r1 c) / 2 ^ shift_distance s.cpu c))
logic_row _ c m s = None
