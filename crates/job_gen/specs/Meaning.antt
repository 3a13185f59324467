-- What the claim of the program says by this crate's clauses.
use Rattle.std.specs.Prelude.{ℕ, zero, suc, ◌+◌, ◌*◌, ◌/◌, ◌%◌, nat_eq, if◌then◌else◌, Some, None, List, [], ◌∷◌, ◌++◌, length, ◌-◌, replicate, codes, decimal, map, slice_set}
use Rattle.std.specs.List.{flat_map, range_with_len}
use Rattle.std.specs.Option.{option_map_or}
use Rattle.job_gen.specs.declared.instruction.Instruction.{Instruction}
use Rattle.job_gen.specs.declared.instruction.Operation.{Operation}
use Rattle.job_gen.specs.declared.instruction.Operation.TheVariants.{La, Ar, Ltr, Bc, Lcr, St, Bct, Br}
use Rattle.annotator.specs.Meaning.{hex_digits}
use Rattle.cov_base.specs.Meaning.{ImageView, padded}
use Rattle.session_book.specs.Meaning.{JobView, SessionView, TaskView, first_regs}

-- The code of a generated module: blocks that a linear congruential generator draws, inside a loop.

-- the state that follows
abbrev pub next : ℕ → ℕ
next x = (x * 1103515245 + 12345) % 4294967296

-- the number below n that a state gives
abbrev pub drawn : ℕ → ℕ → ℕ
drawn x n = x / 65536 % n

-- an instruction of one halfword, and of two
abbrev pub short : Operation → ℕ → Instruction
short operation first = record { operation = operation; first = first; second = None }

abbrev pub long_form : Operation → ℕ → ℕ → Instruction
long_form operation first second = record { operation = operation; first = first; second = Some second }

-- the high byte first
abbrev pub two_bytes : ℕ → List ℕ
two_bytes half = half / 256 ∷ half % 256 ∷ []

-- of an instruction as it stands in the module
abbrev pub object : Instruction → List ℕ
object i = two_bytes i.first ++ option_map_or two_bytes i.second []

abbrev pub code_bytes : List Instruction → List ℕ
code_bytes code = flat_map object code

-- which of four kinds the block behind a state has; all but an AR draw a number of their own
abbrev pub kind : ℕ → ℕ
kind x = drawn (next x) 4

-- LTR 2,2; BC mask,to(,15); LCR 2,2
abbrev pub test_block : ℕ → ℕ → List Instruction
test_block mask to = short Ltr 4642 ∷ long_form Bc (18176 + 16 * mask) (61440 + to) ∷ short Lcr 4898 ∷ []

-- A block of the kind with the state of its own draw, at a location: LA 1,number(,1); AR 2,1; a test that branches behind
-- the block; ST 2,displacement.
abbrev pub block_of : ℕ → ℕ → ℕ → List Instruction
block_of which x at =
    if nat_eq which 0 then long_form La 16656 (4096 + drawn x 16) ∷ []
    else if nat_eq which 1 then short Ar 6689 ∷ []
    else if nat_eq which 2 then test_block (1 + drawn x 14) (at + 8)
    else long_form St 20512 (4 * drawn x 64) ∷ []

-- the block that is drawn behind a state
unfoldable pub block : ℕ → ℕ → List Instruction
block x at = block_of (kind x) (next (next x)) at

-- the state after its draws
unfoldable pub after_block : ℕ → ℕ
after_block x = if nat_eq (kind x) 1 then next x else next (next x)

-- so many blocks from a state and a location on, then BCT 3,0(,15), back to the first instruction, and BR 14
unfoldable pub code_from : ℕ → ℕ → ℕ → List Instruction
code_from zero x at = long_form Bct 17968 61440 ∷ short Br 2046 ∷ []
code_from (suc blocks) x at = block x at ++ code_from blocks (after_block x) (at + length (code_bytes (block x at)))

-- The listing of a generated module: a heading, and a line for each instruction.

abbrev pub name_of : Operation → List ℕ
name_of La = codes "LA"
name_of Ar = codes "AR"
name_of Ltr = codes "LTR"
name_of Bc = codes "BC"
name_of Lcr = codes "LCR"
name_of St = codes "ST"
name_of Bct = codes "BCT"
name_of Br = codes "BR"

-- halfwords in four hexadecimal digits, parted by a blank
unfoldable pub groups : Instruction → List ℕ
groups i = hex_digits 4 i.first ++ option_map_or (λ half. 32 ∷ hex_digits 4 half) i.second []

-- filled with blanks to 27 columns
unfoldable pub object_text : Instruction → List ℕ
object_text i = groups i ++ replicate (27 - length (groups i)) 32

-- right in 5 columns
unfoldable pub number_text : ℕ → List ℕ
number_text n = replicate (5 - length (decimal n)) 32 ++ decimal n

-- of an instruction at a location, with its statement's number
unfoldable pub plain_line : ℕ → ℕ → Instruction → List ℕ
plain_line at number i = hex_digits 6 at ++ 32 ∷ object_text i ++ number_text number ++ replicate 10 32 ++ name_of i.operation

-- from a location and a statement's number on
abbrev pub statement_lines : ℕ → ℕ → List Instruction → List (List ℕ)
statement_lines at number [] = []
statement_lines at number (i ∷ is) = plain_line at number i ∷ statement_lines (at + length (object i)) (number + 1) is

abbrev pub heading : List ℕ
heading = codes "  Loc  Object Code    Addr1 Addr2  Stmt   Source Statement"

-- locations from 0, statements from 1
unfoldable pub made_listing : List Instruction → List (List ℕ)
made_listing code = heading ∷ statement_lines 0 1 code

-- The generated job of a number, with so many tasks.

-- X'100000'
abbrev pub base_address : ℕ
base_address = 1048576

-- T and two digits
abbrev pub task_name : ℕ → List ℕ
task_name k = padded (84 ∷ (48 + k / 10) ∷ (48 + k % 10) ∷ [])

-- task k goes 200 times through the module, with k in register 1
unfoldable pub trial_task : ℕ → TaskView
trial_task k = record {
  name = task_name k;
  phase = 0;
  entry = base_address;
  private = 4096;
  budget = 1000000;
  room = 0;
  regs = slice_set (slice_set (first_regs base_address) 1 k) 3 200;
  cards = [];
  input = [];
}

abbrev pub trial_session : SessionView
trial_session = record { name = padded (codes "S"); phase = 0; modules = 0 ∷ []; by = None }

-- the numbers are drawn from the job's number on
unfoldable pub trial_code : ℕ → List Instruction
trial_code number = code_from 400 number 0

abbrev pub trial_module : ℕ → ImageView
trial_module number = record { name = padded (codes "M"); base = base_address; bytes = code_bytes (trial_code number) }

unfoldable pub trial_job : ℕ → ℕ → JobView
trial_job number tasks = record {
  images = trial_module number ∷ [];
  listings = Some (made_listing (trial_code number)) ∷ [];
  services = [];
  phases = padded (codes "P") ∷ [];
  sessions = trial_session ∷ [];
  tasks = map trial_task (range_with_len 1 tasks);
}
