-- What the claim of the program says by this crate's clauses.
use Rattle.std.specs.Prelude.{ℕ, zero, suc, ◌+◌, ◌-◌, ◌*◌, ◌/◌, ◌%◌, Option, Some, List, slice_set, Bool, if◌then◌else◌, None, min, max, ◌&&◌, not, nat_lt, ◌==◌, slice_index, true, nat_le, [], ◌∷◌, ◌++◌}
use Rattle.cov_base.specs.Meaning.{Machine, CpuView, Memory, byte_at, wrap}
use Rattle.s370_state.specs.Meaning.{Row, Completes, reading, storing, number_at, store_number, replacing, with_bytes, Outcome, at_once, comparing, needing, is_even, with_cc, with_regs, Use, reads, stores, with_address, order_code}
use Rattle.s370_decode.specs.Meaning.{i2, e1, e2, r1, r2}
use Rattle.s370_decode.specs.declared.code.Code.{Code}
use Rattle.s370_storage.specs.declared.moves.Part.{Part}
use Rattle.s370_storage.specs.declared.moves.Part.TheVariants.{Byte, Numeric, Zone}
use Rattle.std.specs.Option.{option_or}
use Rattle.std.specs.Ordering.{nat_cmp}
use Rattle.s370_storage.specs.declared.long.Long.{Long}
use Rattle.s370_storage.specs.declared.packing.Fields.{Fields}
use Rattle.s370_decode.specs.declared.op.Op.{Op}
use Rattle.s370_decode.specs.declared.op.Op.TheVariants.{LM, STM, MVC, MVN, MVZ, MVCIN, TR, TRT, MVCL, CLCL, PACK, UNPK, MVO}

-- Loads and stores of several registers (Principles of Operation, "General Instructions").

-- the number of registers from R1 to R3, 15 followed by 0
abbrev pub many : Code → ℕ
many c = (r2 c + 16 - r1 c) % 16 + 1

-- the registers after n words from a on were loaded into r and on
unfoldable pub loaded : Memory → List ℕ → List ℕ → ℕ → ℕ → ℕ → List ℕ
loaded m bytes regs r a zero = regs
loaded m bytes regs r a (suc n) = slice_set (loaded m bytes regs r a n) ((r + n) % 16) (number_at m bytes (a + 4 * n) 4)

-- the bytes after the words of n registers, r and on, were stored from a on
unfoldable pub stored : List ℕ → List ℕ → ℕ → ℕ → ℕ → List ℕ
stored bytes regs r a zero = bytes
stored bytes regs r a (suc n) = store_number (stored bytes regs r a n) (a + 4 * n) 4 (slice_index regs ((r + n) % 16))

-- Moves within storage (Principles of Operation, "General Instructions").

-- the byte x after that part of it became that of y
abbrev pub with_part : Part → ℕ → ℕ → ℕ
with_part Byte x y = y
with_part Numeric x y = x / 16 * 16 + y % 16
with_part Zone x y = y / 16 * 16 + x % 16

-- the bytes after the part of n bytes from b on was moved to those from a on, a byte at a time, left to right
unfoldable pub moved : Part → Memory → List ℕ → ℕ → ℕ → ℕ → List ℕ
moved p m bytes a b zero = bytes
moved p m bytes a b (suc n) =
    let done = moved p m bytes a b n in
    slice_set done (wrap (a + n)) (with_part p (byte_at m done (wrap (a + n))) (byte_at m done (wrap (b + n))))

-- L+1 bytes each
abbrev pub moves : Part → Code → Memory → Machine → Option Row
moves p c m s =
    Some (replacing (e1 s.cpu c) (i2 c + 1) (e2 s.cpu c) (i2 c + 1)
    (Completes (with_bytes s (moved p m s.bytes (e1 s.cpu c) (e2 s.cpu c) (i2 c + 1)))))

-- the address n bytes to the left of b, for n up to 2^24
abbrev pub left_of : ℕ → ℕ → ℕ
left_of b n = wrap (b + (16777216 - n))

-- the bytes after n bytes, b and to its left, were moved to those from a on, a byte at a time
unfoldable pub inverted : Memory → List ℕ → ℕ → ℕ → ℕ → List ℕ
inverted m bytes a b zero = bytes
inverted m bytes a b (suc n) =
    let done = inverted m bytes a b n in
    slice_set done (wrap (a + n)) (byte_at m done (left_of b n))

-- A search from the left.

-- the first number below n that passes the test
unfoldable pub first_where : (ℕ → Bool) → ℕ → Option ℕ
first_where p zero = None
first_where p (suc n) = option_or (first_where p n) (if p n then Some n else None)

-- Long moves and comparisons, whose operands are in two pairs of registers (Principles of Operation,
-- "General Instructions").

-- bits 0-7 of a register
abbrev pub high : ℕ → ℕ
high v = v / 16777216 * 16777216

-- addresses are bits 8-31 of R1 and R2, lengths those of the next registers, and padding is bits 0-7 of the last
abbrev pub long : List ℕ → ℕ → ℕ → Long
long regs r q = record {
  first = wrap (slice_index regs r);
  first_length = wrap (slice_index regs (r + 1));
  second = wrap (slice_index regs q);
  second_length = wrap (slice_index regs (q + 1));
  padding = slice_index regs (q + 1) / 16777216;
}

-- the registers after j bytes of the first operand and k of the second: these are passed, and the rest is left
abbrev pub passed : List ℕ → ℕ → ℕ → Long → ℕ → ℕ → List ℕ
passed regs r q o j k =
    slice_set
    (slice_set
    (slice_set (slice_set regs r (wrap (o.first + j))) (r + 1) (high (slice_index regs (r + 1)) + (o.first_length - j)))
    q (wrap (o.second + k)))
    (q + 1) (high (slice_index regs (q + 1)) + (o.second_length - k))

abbrev pub lesser : Long → ℕ
lesser o = min o.first_length o.second_length

-- a byte of the second operand would be moved after it was stored into
unfoldable pub overlaps : Long → Bool
overlaps o = nat_lt 0 (wrap (o.first + (16777216 - o.second))) && nat_lt (wrap (o.first + (16777216 - o.second))) (lesser o)

-- the bytes after k padding bytes, behind those that were moved
unfoldable pub padded_bytes : List ℕ → Long → ℕ → List ℕ
padded_bytes bytes o zero = bytes
padded_bytes bytes o (suc k) = slice_set (padded_bytes bytes o k) (wrap (o.first + (lesser o + k))) o.padding

-- the bytes after the lesser length was moved and the rest of the first operand was padded
abbrev pub long_moved : Memory → List ℕ → Long → List ℕ
long_moved m bytes o = padded_bytes (moved Byte m bytes o.first o.second (lesser o)) o (o.first_length - lesser o)

-- where they don't overlap so; the code compares the lengths
abbrev pub moves_apart : ℕ → ℕ → Long → Memory → Machine → Option Row
moves_apart r q o m s = Some (needing (is_even r && is_even q) (replacing o.first o.first_length o.second (lesser o) (Completes (
    with_bytes (with_cc (with_regs s (passed s.cpu.regs r q o o.first_length (lesser o)))
    (order_code (nat_cmp o.first_length o.second_length))) (long_moved m s.bytes o)))))

-- where they do, there is no further test, and no effect but code 3
abbrev pub long_moves : ℕ → ℕ → Memory → Machine → Option Row
long_moves r q m s =
    let o = long s.cpu.regs r q in
    if overlaps o then Some (needing (is_even r && is_even q) (at_once (Completes (with_cc s 3)))) else moves_apart r q o m s

-- byte i of an operand of n bytes at a, which padding extends
abbrev pub extended : Memory → List ℕ → ℕ → ℕ → ℕ → ℕ → ℕ
extended m bytes a n padding i = if nat_lt i n then byte_at m bytes (wrap (a + i)) else padding

abbrev pub first_byte : Memory → List ℕ → Long → ℕ → ℕ
first_byte m bytes o i = extended m bytes o.first o.first_length o.padding i

abbrev pub second_byte : Memory → List ℕ → Long → ℕ → ℕ
second_byte m bytes o i = extended m bytes o.second o.second_length o.padding i

-- the first of n pairs of bytes that are unequal
unfoldable pub unequal : Memory → List ℕ → Long → ℕ → Option ℕ
unequal m bytes o n = first_where (λ i. not (first_byte m bytes o i == second_byte m bytes o i)) n

-- by the unequal pair, if any
abbrev pub compares : Memory → Machine → ℕ → ℕ → Long → Option ℕ → Outcome
compares m s r q o None = Completes (with_cc (with_regs s (passed s.cpu.regs r q o o.first_length o.second_length)) 0)
compares m s r q o (Some i) =
    Completes (with_cc (with_regs s (passed s.cpu.regs r q o (min i o.first_length) (min i o.second_length)))
    (order_code (nat_cmp (first_byte m s.bytes o i) (second_byte m s.bytes o i))))

-- both are read whole, also past an unequal pair
abbrev pub long_compares : ℕ → ℕ → Memory → Machine → Option Row
long_compares r q m s =
    let o = long s.cpu.regs r q in
    Some (needing (is_even r && is_even q) (comparing o.first o.first_length o.second o.second_length (
    compares m s r q o (unequal m s.bytes o (max o.first_length o.second_length)))))

-- Packing, unpacking and moves with an offset (Principles of Operation, "General Instructions"). Fields are
-- worked right to left, and their bytes are numbered so, from 0. Each result byte is stored as soon as it is formed,
-- and a source byte is read once, where its right half is first needed: that tells where the fields overlap.

-- both fields, as the instruction gives them
abbrev pub fields : CpuView → Code → Fields
fields s c = record { to = e1 s c; to_last = r1 c; from = e2 s c; from_last = r2 c }

-- source byte k; zero where the source has ended
abbrev pub source : Memory → List ℕ → Fields → ℕ → ℕ
source m bytes o k = if nat_le k o.from_last then byte_at m bytes (wrap (o.from + (o.from_last - k))) else 0

-- the address of result byte k
abbrev pub result_at : Fields → ℕ → ℕ
result_at o k = wrap (o.to + (o.to_last - k))

-- the halves of a byte exchanged
abbrev pub exchanged : ℕ → ℕ
exchanged v = v % 16 * 16 + v / 16

-- result byte k of PACK: sign and digit of the rightmost source byte, then the digits of two
abbrev pub packed_byte : Memory → List ℕ → Fields → ℕ → ℕ
packed_byte m bytes o k =
    if k == 0 then exchanged (source m bytes o 0) else source m bytes o (2 * k) % 16 * 16 + source m bytes o (2 * k - 1) % 16

-- the bytes after k result bytes
unfoldable pub packed : Memory → List ℕ → Fields → ℕ → List ℕ
packed m bytes o zero = bytes
packed m bytes o (suc k) = let done = packed m bytes o k in slice_set done (result_at o k) (packed_byte m done o k)

-- two result bytes, k and the next to its left if there is one, from the halves of a source byte, under zones
abbrev pub with_zoned : List ℕ → Fields → ℕ → ℕ → List ℕ
with_zoned bytes o k v =
    let right = slice_set bytes (result_at o k) (240 + v % 16) in
    if nat_lt k o.to_last then slice_set right (result_at o (k + 1)) (240 + v / 16) else right

-- the bytes after the rightmost result byte of UNPK and j pairs to its left
unfoldable pub unpacked : Memory → List ℕ → Fields → ℕ → List ℕ
unpacked m bytes o zero = slice_set bytes (result_at o 0) (exchanged (source m bytes o 0))
unpacked m bytes o (suc j) = let done = unpacked m bytes o j in with_zoned done o (2 * j + 1) (source m done o (j + 1))

-- the bytes, and the half byte that goes to the right of the next result byte
pub record Shifting : Type 0 where
  pub bytes : List ℕ
  pub half : ℕ

-- after k result bytes of MVO
unfoldable pub shifted : Memory → List ℕ → Fields → ℕ → Shifting
shifted m bytes o zero = record { bytes = bytes; half = byte_at m bytes (wrap (o.to + o.to_last)) % 16 }
shifted m bytes o (suc k) =
    let done = shifted m bytes o k in
    let v = source m done.bytes o k in
    record { bytes = slice_set done.bytes (result_at o k) (v % 16 * 16 + done.half); half = v / 16 }

-- the first field is stored and the second read
abbrev pub field_uses : Fields → List Use
field_uses o = stores o.to (o.to_last + 1) ∷ reads o.from (o.from_last + 1) ∷ []

abbrev pub packs : Machine → Code → List ℕ → Row
packs s c bytes = record { well = true; uses = field_uses (fields s.cpu c); outcome = Completes (with_bytes s bytes) }

-- Translation and search by a table of function bytes (Principles of Operation, "General
-- Instructions"). The function byte of an argument stands at the second operand's address plus the argument.

-- the address of the function byte of argument n, by the table at t
abbrev pub function_at : Memory → List ℕ → ℕ → ℕ → ℕ → ℕ
function_at m bytes a t n = wrap (t + byte_at m bytes (wrap (a + n)))

-- the function bytes of the first n arguments, in the order of these
unfoldable pub functions : Memory → List ℕ → ℕ → ℕ → ℕ → List Use
functions m bytes a t zero = []
functions m bytes a t (suc n) = functions m bytes a t n ++ (reads (function_at m bytes a t n) 1 ∷ [])

-- the bytes after the first n arguments became their function bytes, as these then stand, left to right; no argument
-- changes before its turn
unfoldable pub translated : Memory → List ℕ → ℕ → ℕ → ℕ → List ℕ
translated m bytes a t zero = bytes
translated m bytes a t (suc n) =
    let done = translated m bytes a t n in
    slice_set done (wrap (a + n)) (byte_at m done (function_at m bytes a t n))

-- the arguments are stored, and their function bytes read
abbrev pub translation_uses : Memory → List ℕ → ℕ → ℕ → ℕ → List Use
translation_uses m bytes a t n = stores a n ∷ functions m bytes a t n

-- the function byte of argument n
abbrev pub function : Memory → List ℕ → ℕ → ℕ → ℕ → ℕ
function m bytes a t n = byte_at m bytes (function_at m bytes a t n)

-- the first of the n arguments whose function byte isn't zero
unfoldable pub selected : Memory → List ℕ → ℕ → ℕ → ℕ → Option ℕ
selected m bytes a t n = first_where (λ i. not (function m bytes a t i == 0)) n

-- how many of n arguments are looked up, where that one is selected
abbrev pub looked_up : ℕ → Option ℕ → ℕ
looked_up n None = n
looked_up n (Some i) = i + 1

-- the registers with an address in bits 8-31 of register 1, and a byte in bits 24-31 of register 2
abbrev pub selecting : List ℕ → ℕ → ℕ → List ℕ
selecting regs at v = slice_set (with_address regs 1 at) 2 (slice_index regs 2 / 256 * 256 + v)

-- the argument that is selected, its address and function byte; code 2 where it is the last
abbrev pub selects : Memory → Machine → ℕ → ℕ → ℕ → Option ℕ → Outcome
selects m s a t n None = Completes (with_cc s 0)
selects m s a t n (Some i) =
    Completes (with_cc (with_regs s (selecting s.cpu.regs (wrap (a + i)) (function m s.bytes a t i))) (if i + 1 == n then 2 else 1))

-- the arguments are read, and the function bytes of those that are looked up
abbrev pub search_uses : Memory → List ℕ → ℕ → ℕ → ℕ → List Use
search_uses m bytes a t n = reads a n ∷ functions m bytes a t (looked_up n (selected m bytes a t n))

-- The row of each operation on fields in storage (Principles of Operation, "General Instructions").

abbrev pub storage_row : Op → Code → Memory → Machine → Option Row
storage_row LM c m s =
    Some (reading (e2 s.cpu c) (4 * many c) (Completes (with_regs s (loaded m s.bytes s.cpu.regs (r1 c) (e2 s.cpu c) (many c)))))
storage_row STM c m s =
    Some (storing (e2 s.cpu c) (4 * many c) (Completes (with_bytes s (stored s.bytes s.cpu.regs (r1 c) (e2 s.cpu c) (many c)))))
storage_row MVC c m s = moves Byte c m s
storage_row MVN c m s = moves Numeric c m s
storage_row MVZ c m s = moves Zone c m s
-- the second operand is named by its rightmost byte
storage_row MVCIN c m s =
    Some (replacing (e1 s.cpu c) (i2 c + 1) (left_of (e2 s.cpu c) (i2 c)) (i2 c + 1)
    (Completes (with_bytes s (inverted m s.bytes (e1 s.cpu c) (e2 s.cpu c) (i2 c + 1)))))
storage_row TR c m s = Some (record {
  well = true;
  uses = translation_uses m s.bytes (e1 s.cpu c) (e2 s.cpu c) (i2 c + 1);
  outcome = Completes (with_bytes s (translated m s.bytes (e1 s.cpu c) (e2 s.cpu c) (i2 c + 1)));
})
storage_row TRT c m s = Some (record {
  well = true;
  uses = search_uses m s.bytes (e1 s.cpu c) (e2 s.cpu c) (i2 c + 1);
  outcome = selects m s (e1 s.cpu c) (e2 s.cpu c) (i2 c + 1) (selected m s.bytes (e1 s.cpu c) (e2 s.cpu c) (i2 c + 1));
})
storage_row MVCL c m s = long_moves (r1 c) (r2 c) m s
storage_row CLCL c m s = long_compares (r1 c) (r2 c) m s
storage_row PACK c m s = Some (packs s c (packed m s.bytes (fields s.cpu c) (r1 c + 1)))
storage_row UNPK c m s = Some (packs s c (unpacked m s.bytes (fields s.cpu c) ((r1 c + 1) / 2)))
storage_row MVO c m s = Some (packs s c (shifted m s.bytes (fields s.cpu c) (r1 c + 1)).bytes)
storage_row _ c m s = None
