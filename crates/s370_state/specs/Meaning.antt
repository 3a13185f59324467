-- What the claim of the program says by this crate's clauses.
use Rattle.std.specs.Prelude.{ℕ, zero, suc, ◌+◌, ◌*◌, ◌/◌, ◌%◌, Bool, ◌&&◌, true, nat_le, nat_lt, ◌==◌, if◌then◌else◌, Option, Some, None, List, [], ◌∷◌, ◌++◌, slice_set, ℤ, pos, neg_ℤ, ◌-◌, length, false, slice_index}
use Rattle.std.specs.List.{list_all}
use Rattle.cov_base.specs.Meaning.{Memory, byte_at, wrap, can_reach, can_store, first_touch, IoView, CpuView, Machine}
use Rattle.s370_state.specs.declared.packed.Field.{Field}
use Rattle.std.specs.Int.{cast_signed, w32}
use Rattle.std.specs.declared.cmp.Ordering.{Ordering}
use Rattle.std.specs.declared.cmp.Ordering.TheVariants.{Less, Equal, Greater}
use Rattle.std.specs.Option.{option_or}
use Rattle.s370_decode.specs.Meaning.{r2, ex}
use Rattle.s370_decode.specs.declared.code.Code.{Code}
use Rattle.s370_state.specs.declared.endings.Ending.{Ending}
use Rattle.s370_state.specs.declared.endings.Ending.TheVariants.{Abend, Touched}
use Rattle.s370_state.specs.declared.endings.Next.{Next}
use Rattle.s370_state.specs.declared.endings.Next.TheVariants.{On, Ended}

-- Packed decimal fields (Principles of Operation, "Decimal Instructions", "Data Format"). A field of length code l has l + 1
-- bytes: 2l + 1 digits, then the sign in the last half byte.

-- the half bytes A to F are signs, and 0 to 9 digits
abbrev pub is_sign : ℕ → Bool
is_sign n = nat_le 10 n

-- B and D are minus, every other sign plus
abbrev pub is_minus : ℕ → Bool
is_minus n = if n == 11 then true else n == 13

-- the signs that are made: D for minus, C for plus
abbrev pub sign_half : Bool → ℕ
sign_half minus = if minus then 13 else 12

abbrev pub is_digit : ℕ → Bool
is_digit n = nat_lt n 10

-- the half bytes of the n bytes from a on, left to right
unfoldable pub halves_at : Memory → List ℕ → ℕ → ℕ → List ℕ
halves_at m bytes a zero = []
halves_at m bytes a (suc n) =
    halves_at m bytes a n ++ byte_at m bytes (wrap (a + n)) / 16 ∷ (byte_at m bytes (wrap (a + n)) % 16 ∷ [])

abbrev pub digits_at : Memory → List ℕ → ℕ → ℕ → List ℕ
digits_at m bytes a l = halves_at m bytes a l ++ byte_at m bytes (wrap (a + l)) / 16 ∷ []

abbrev pub sign_at : Memory → List ℕ → ℕ → ℕ → ℕ
sign_at m bytes a l = byte_at m bytes (wrap (a + l)) % 16

-- the number that digits make behind those that made v
unfoldable pub decimal : ℕ → List ℕ → ℕ
decimal v [] = v
decimal v (d ∷ ds) = decimal (10 * v + d) ds

-- what the field from a on holds; none where a digit or the sign is bad
unfoldable pub field_at : Memory → List ℕ → ℕ → ℕ → Option Field
field_at m bytes a l =
    if (list_all is_digit (digits_at m bytes a l) && is_sign (sign_at m bytes a l)) then
    Some (record { magnitude = decimal 0 (digits_at m bytes a l); minus = is_minus (sign_at m bytes a l) })
    else None

-- as a number, where a zero has no sign
unfoldable pub number : Field → ℤ
number f = if f.minus then neg_ℤ (pos f.magnitude) else pos f.magnitude

-- the k low decimal digits of v, left to right
unfoldable pub digits_of : ℕ → ℕ → List ℕ
digits_of zero v = []
digits_of (suc k) v = digits_of k (v / 10) ++ v % 10 ∷ []

-- half bytes, two to a byte
unfoldable pub bytes_of : List ℕ → List ℕ
bytes_of [] = []
bytes_of (x ∷ []) = []
bytes_of (x ∷ y ∷ hs) = (x * 16 + y) ∷ bytes_of hs

-- the bytes go to storage from a on
unfoldable pub store_bytes : List ℕ → ℕ → List ℕ → List ℕ
store_bytes bytes a [] = bytes
store_bytes bytes a (b ∷ bs) = store_bytes (slice_set bytes (wrap a) b) (a + 1) bs

-- the field from a on becomes a magnitude's low digits and a sign
unfoldable pub store_field : List ℕ → ℕ → ℕ → ℕ → Bool → List ℕ
store_field bytes a l v minus = store_bytes bytes a (bytes_of (digits_of (2 * l + 1) v ++ sign_half minus ∷ []))

-- A task's input and output.

-- nothing was taken and nothing put
abbrev pub fresh_io : List ℕ → ℕ → IoView
fresh_io input room = record { input = input; taken = 0; output = []; room = room }

abbrev pub bytes_left : IoView → ℕ
bytes_left io = length io.input - io.taken

abbrev pub bytes_free : IoView → ℕ
bytes_free io = io.room - length io.output

-- Numbers in storage, the signed numbers of registers, and the code of a comparison.

-- the number of the n bytes from a on
unfoldable pub number_at : Memory → List ℕ → ℕ → ℕ → ℕ
number_at m bytes a zero = 0
number_at m bytes a (suc n) = number_at m bytes a n * 256 + byte_at m bytes (wrap (a + n))

-- the n bytes from a on become the low bytes of a number
unfoldable pub store_number : List ℕ → ℕ → ℕ → ℕ → List ℕ
store_number bytes a zero v = bytes
store_number bytes a (suc n) v = store_number (slice_set bytes (wrap (a + n)) (v % 256)) a n (v / 256)

-- a register as a signed number
unfoldable pub signed : ℕ → ℤ
signed n = cast_signed w32 n

-- the code of a comparison: 0 where the operands are equal, 1 where the first is low, 2 where it is high
abbrev pub order_code : Ordering → ℕ
order_code Equal = 0
order_code Less = 1
order_code Greater = 2

-- A row is what one operation says of one state. The order of tests is stated here once, for all rows.

-- an operand's bytes, which are stored (and maybe read), or only read
pub record Use : Type 0 where
  pub at : ℕ
  pub size : ℕ
  pub stores : Bool

pub data Outcome : Type 0 where
  Completes : Machine → Outcome
  -- completes; a code that isn't 0 then ends the task, if the mask has its bit
  Overflows : Machine → ℕ → Outcome
  -- ends the task by a program interruption with this code, and changes nothing
  Program : ℕ → Outcome

-- whether registers, lengths and alignment are as the operation needs them, its uses in the order of their tests, and what
-- comes of it where every test passes
pub record Row : Type 0 where
  pub well : Bool
  pub uses : List Use
  pub outcome : Outcome

-- what an operation has made of the machine, and how the task goes on
pub record After : Type 0 where
  pub machine : Machine
  pub next : Next

abbrev pub reads : ℕ → ℕ → Use
reads a n = record { at = a; size = n; stores = false }

abbrev pub stores : ℕ → ℕ → Use
stores a n = record { at = a; size = n; stores = true }

-- each byte of these uses is accessible; each that is stored is private; the first touch byte of those that are only read
unfoldable pub all_reached : Memory → List Use → Bool
all_reached m [] = true
all_reached m (u ∷ us) = can_reach m u.at u.size && all_reached m us

unfoldable pub all_stored : Memory → List Use → Bool
all_stored m [] = true
all_stored m (u ∷ us) = (if u.stores then can_store m u.at u.size else true) && all_stored m us

unfoldable pub touched : Memory → List Use → Option ℕ
touched m [] = None
touched m (u ∷ us) = option_or (if u.stores then None else first_touch m u.at u.size) (touched m us)

abbrev pub touch_ending : Option ℕ → Option Ending
touch_ending None = None
touch_ending (Some a) = Some (Touched a)

unfoldable pub use_tests : Memory → List Use → Option Ending
use_tests m us =
    if all_reached m us then (if all_stored m us then touch_ending (touched m us) else Some (Abend 4)) else Some (Abend 5)

-- the ending by the tests of registers, access, protection and touch, if any
unfoldable pub tests : Memory → Bool → List Use → Option Ending
tests m well us = if well then use_tests m us else Some (Abend 6)

-- the mask's first bit is that of code 8, and its second that of code X'A'
unfoldable pub is_enabled : ℕ → ℕ → Bool
is_enabled mask code = if code == 8 then nat_le 8 mask else (mask / 4) % 2 == 1

-- how the task goes on after an overflow's code, or after 0
unfoldable pub next_after : ℕ → ℕ → Next
next_after mask code = if code == 0 then On else (if is_enabled mask code then Ended (Abend code) else On)

abbrev pub finish : Machine → Outcome → After
finish s (Completes t) = record { machine = t; next = On }
finish s (Overflows t code) = record { machine = t; next = next_after s.cpu.mask code }
finish s (Program code) = record { machine = s; next = Ended (Abend code) }

abbrev pub after_tests : Machine → Outcome → Option Ending → After
after_tests s o None = finish s o
after_tests s o (Some e) = record { machine = s; next = Ended e }

unfoldable pub perform : Memory → Machine → Row → After
perform m s row = after_tests s row.outcome (tests m row.well row.uses)

-- as the row of an operation says; without a row there is no operation, and code 1 ends the task
abbrev pub operate : Memory → Machine → Option Row → After
operate m s (Some row) = perform m s row
operate m s None = record { machine = s; next = Ended (Abend 1) }

abbrev pub machine_of : CpuView → List ℕ → Machine
machine_of c b = record { cpu = c; bytes = b }

abbrev pub reg : Machine → ℕ → ℕ
reg s r = slice_index s.cpu.regs r

-- a register that may begin a pair
abbrev pub is_even : ℕ → Bool
is_even r = r % 2 == 0

-- the 64 bits of register r and the next
abbrev pub pair : CpuView → ℕ → ℕ
pair s r = slice_index s.regs r * 4294967296 + slice_index s.regs (r + 1)

abbrev pub with_reg : Machine → ℕ → ℕ → Machine
with_reg s r v =
    record {
      cpu = record { regs = slice_set s.cpu.regs r v; ia = s.cpu.ia; condition = s.cpu.condition; mask = s.cpu.mask };
      bytes = s.bytes;
    }

-- the registers with other 64 bits in a pair
abbrev pub with_pair : List ℕ → ℕ → ℕ → List ℕ
with_pair regs r v = slice_set (slice_set regs r (v / 4294967296)) (r + 1) (v % 4294967296)

-- the registers with an address in bits 8-31 of one
abbrev pub with_address : List ℕ → ℕ → ℕ → List ℕ
with_address regs r a = slice_set regs r (slice_index regs r / 16777216 * 16777216 + a)

abbrev pub with_regs : Machine → List ℕ → Machine
with_regs s regs =
    record { cpu = record { regs = regs; ia = s.cpu.ia; condition = s.cpu.condition; mask = s.cpu.mask }; bytes = s.bytes }

abbrev pub with_cc : Machine → ℕ → Machine
with_cc s code = record { cpu = record { regs = s.cpu.regs; ia = s.cpu.ia; condition = code; mask = s.cpu.mask }; bytes = s.bytes }

abbrev pub with_bytes : Machine → List ℕ → Machine
with_bytes s bytes = record { cpu = s.cpu; bytes = bytes }

-- A row by its operands in storage: none; one that is read, or stored; a first that is stored and a second that is read; two
-- that are read. Each is an address with a size, and none needs anything of registers, lengths or alignment.
abbrev pub at_once : Outcome → Row
at_once o = record { well = true; uses = []; outcome = o }

abbrev pub reading : ℕ → ℕ → Outcome → Row
reading a n o = record { well = true; uses = reads a n ∷ []; outcome = o }

abbrev pub storing : ℕ → ℕ → Outcome → Row
storing a n o = record { well = true; uses = stores a n ∷ []; outcome = o }

abbrev pub replacing : ℕ → ℕ → ℕ → ℕ → Outcome → Row
replacing a n b k o = record { well = true; uses = stores a n ∷ reads b k ∷ []; outcome = o }

abbrev pub comparing : ℕ → ℕ → ℕ → ℕ → Outcome → Row
comparing a n b k o = record { well = true; uses = reads a n ∷ reads b k ∷ []; outcome = o }

-- the row of an operation that needs this of registers, lengths or alignment, else code 6
abbrev pub needing : Bool → Row → Row
needing well row = record { well = well; uses = row.uses; outcome = row.outcome }

-- an outcome by the data that was read; bad data is code 7
unfoldable pub on_data : {A : Type 0} → Option A → (A → Outcome) → Outcome
on_data None f = Program 7
on_data (Some x) f = f x

-- R2 is the operand, and the word at the second operand's address is
abbrev pub from_register : Machine → Code → (ℕ → Outcome) → Row
from_register s c f = at_once (f (reg s (r2 c)))

abbrev pub from_word : Memory → Machine → Code → (ℕ → Outcome) → Row
from_word m s c f = reading (ex s.cpu c) 4 (f (number_at m s.bytes (ex s.cpu c) 4))

-- the n bytes from an address on become the low bytes of a number
abbrev pub to_storage : Machine → ℕ → ℕ → ℕ → Row
to_storage s a n v = storing a n (Completes (with_bytes s (store_number s.bytes a n v)))
