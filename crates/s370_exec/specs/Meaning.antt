-- What the claim of the program says by this crate's clauses.
use Rattle.std.specs.Prelude.{ℕ, ◌+◌, ◌/◌, ◌%◌, Bool, if◌then◌else◌, ◌==◌, Option, Some, None, List, [], ◌∷◌, slice_index, slice_set, bit_or, zero, suc, min, nat_le, true, false, ◌++◌, take, drop, get_or}
use Rattle.std.specs.Option.{option_or}
use Rattle.cov_base.specs.Meaning.{CpuView, State, Machine, IoView, Visit, Memory, can_reach, half_at, wrap, byte_at, length_of}
use Rattle.s370_state.specs.declared.endings.Ending.{Ending}
use Rattle.s370_state.specs.declared.endings.Ending.TheVariants.{Abend, Touched, Exit, BadSvc, OutFull, Returned, Spent}
use Rattle.s370_decode.specs.Meaning.{part, r1, ex, i2, first_half, op_of}
use Rattle.s370_decode.specs.declared.code.Code.{Code}
use Rattle.s370_state.specs.Meaning.{store_bytes, bytes_left, bytes_free, Row, After, operate, machine_of, reads, stores, use_tests, reg}
use Rattle.s370_state.specs.declared.endings.Next.{Next}
use Rattle.s370_state.specs.declared.endings.Next.TheVariants.{On, Ended}
use Rattle.s370_decode.specs.declared.op.Op.{Op}
use Rattle.s370_decode.specs.declared.op.Op.TheVariants.{SVC, Privileged}
use Rattle.s370_fixed.specs.Meaning.{fixed_row}
use Rattle.s370_logic.specs.Meaning.{logic_row}
use Rattle.s370_storage.specs.Meaning.{storage_row}
use Rattle.s370_decimal.specs.Meaning.{decimal_row, edit_row}
use Rattle.s370_branch.specs.Meaning.{branched, goes}
use Rattle.cov_base.specs.declared.constants.TheConstants.{RETURN_ADDRESS}

-- Fetching an instruction behind its first halfword, and the instruction that EX executes.

-- the tests of the first halfword: odd address 6, access 5
abbrev pub first_tests : Memory → ℕ → Option Ending
first_tests m a = if a % 2 == 1 then Some (Abend 6) else (if can_reach m a 2 then None else Some (Abend 5))

-- a later halfword: access, then touch
abbrev pub later : Memory → ℕ → Option Ending
later m a = if can_reach m a 2 then (if m.is_touch a then Some (Touched a) else None) else Some (Abend 5)

-- the halfwords after the first
unfoldable pub rest_tests : Memory → ℕ → ℕ → Option Ending
rest_tests m a size =
    if size == 2 then None else option_or (later m (wrap (a + 2))) (if size == 4 then None else later m (wrap (a + 4)))

-- the instruction at a, whose first halfword is h
unfoldable pub code_at : Memory → List ℕ → ℕ → ℕ → Code
code_at m bytes a h =
    let size = length_of h in
    let h1 = if size == 2 then 0 else half_at m bytes (wrap (a + 2)) in
    let h2 = if size == 2 then 0 else (if size == 4 then 0 else half_at m bytes (wrap (a + 4))) in
    record { at = a; bytes = h / 256 ∷ (h % 256 ∷ (h1 / 256 ∷ (h1 % 256 ∷ (h2 / 256 ∷ (h2 % 256 ∷ []))))); len = size }

-- the first halfword is that of EX, whose operation code is X'44'
abbrev pub is_execute : ℕ → Bool
is_execute h = h / 256 == 68

-- the subject of an EX behind its first halfword, which is h: another EX gives code 3
abbrev pub subject_tests : Memory → ℕ → ℕ → Option Ending
subject_tests m a h = if is_execute h then Some (Abend 3) else rest_tests m a (length_of h)

-- what bits 8-15 of the subject are ORed with: bits 24-31 of R1, but nothing where R1 is 0
abbrev pub modifier : CpuView → Code → ℕ
modifier s c = if r1 c == 0 then 0 else slice_index s.regs (r1 c) % 256

-- the subject of an EX as it is executed (Principles of Operation, "General Instructions", "Execute")
unfoldable pub merged : CpuView → Code → Code → Code
merged s c subject =
    record { at = subject.at; bytes = slice_set subject.bytes 1 (bit_or (part subject 1) (modifier s c)); len = subject.len }

-- The supervisor call that a step executes.

-- the number of the call, where the instruction is SVC, whose operation code is X'0A'
abbrev pub call_in : Code → Option ℕ
call_in c = if part c 0 == 10 then Some (part c 1) else None

abbrev pub unless_ended : Option Ending → Option ℕ → Option ℕ
unless_ended (Some e) call = None
unless_ended None call = call

-- the call that is the subject of an EX
unfoldable pub subject_call : Memory → State → Code → Option ℕ
subject_call m s c =
    let a = ex s.machine.cpu c in
    let h = half_at m s.machine.bytes a in
    unless_ended (first_tests m a)
    (unless_ended (subject_tests m a h) (call_in (merged s.machine.cpu c (code_at m s.machine.bytes a h))))

-- the number of the call that the next step executes, itself or by EX; none where it executes another instruction or ends
-- before
unfoldable pub call_of : Memory → State → Option ℕ
call_of m s =
    let a = s.machine.cpu.ia in
    let h = half_at m s.machine.bytes a in
    unless_ended (first_tests m a) (unless_ended (rest_tests m a (length_of h))
    (if is_execute h then subject_call m s (code_at m s.machine.bytes a h) else call_in (code_at m s.machine.bytes a h)))

-- The effect of an instruction that was fetched whole: the row of its operation, the task calls, and codes without a row.

-- what an instruction makes of processor, private bytes, input and output
pub record Effect : Type 0 where
  pub machine : Machine
  pub io : IoView
  pub next : Next

abbrev pub unchanged : Machine → IoView → Next → Effect
unchanged s io next = record { machine = s; io = io; next = next }

-- with this instruction address
abbrev pub at_address : Machine → ℕ → Machine
at_address s a =
    record { cpu = record { regs = s.cpu.regs; ia = a; condition = s.cpu.condition; mask = s.cpu.mask }; bytes = s.bytes }

-- the endings by codes 8 and 10 come once the results are in place
abbrev pub is_completed : Ending → Bool
is_completed (Abend code) = if code == 8 then true else code == 10
is_completed _ = false

-- an ending leaves the instruction address as it is, but after the results it is the updated one
abbrev pub ended_by : ℕ → IoView → Machine → Ending → Bool → Effect
ended_by next io s e true = record { machine = at_address s next; io = io; next = Ended e }
ended_by next io s e false = record { machine = s; io = io; next = Ended e }

-- goes on at the updated address, unless the task has ended
abbrev pub onward_by : ℕ → IoView → Machine → Next → Effect
onward_by next io s On = record { machine = at_address s next; io = io; next = On }
onward_by next io s (Ended e) = ended_by next io s e (is_completed e)

abbrev pub onward : ℕ → IoView → After → Effect
onward next io r = onward_by next io r.machine r.next

-- the n bytes from a on
unfoldable pub operand : Memory → List ℕ → ℕ → ℕ → List ℕ
operand m bytes a zero = []
operand m bytes a (suc n) = operand m bytes a n ++ byte_at m bytes (wrap (a + n)) ∷ []

-- bits 8-31 of register 1
abbrev pub call_address : Machine → ℕ
call_address s = wrap (reg s 1)

-- the bytes at the address, as many as register 0 says, are appended to the output, which has room for them
abbrev pub put_tested : Memory → Machine → IoView → ℕ → Option Ending → Effect
put_tested m s io next (Some e) = unchanged s io (Ended e)
put_tested m s io next None =
    if nat_le (reg s 0) (bytes_free io)
    then unchanged (at_address s next) (record io { output = io.output ++ operand m s.bytes (call_address s) (reg s 0) }) On
    else unchanged s io (Ended OutFull)

unfoldable pub put_call : ℕ → Memory → Machine → IoView → Effect
put_call next m s io = put_tested m s io next (use_tests m (reads (call_address s) (reg s 0) ∷ []))

-- so many bytes are received: as register 0 says, but no more than are left
abbrev pub get_size : Machine → IoView → ℕ
get_size s io = min (reg s 0) (bytes_left io)

-- the next n bytes of input go to the address, and register 15 becomes n
abbrev pub get_tested : Machine → IoView → ℕ → ℕ → Option Ending → Effect
get_tested s io next n (Some e) = unchanged s io (Ended e)
get_tested s io next n None = record {
  machine = record {
    cpu = record { regs = slice_set s.cpu.regs 15 n; ia = next; condition = s.cpu.condition; mask = s.cpu.mask };
    bytes = store_bytes s.bytes (call_address s) (take n (drop io.taken io.input));
  };
  io = record io { taken = io.taken + n };
  next = On;
}

unfoldable pub get_call : ℕ → Memory → Machine → IoView → Effect
get_call next m s io = get_tested s io next (get_size s io) (use_tests m (stores (call_address s) (get_size s io) ∷ []))

-- the task calls: 1 puts, 2 gets, 3 ends the task, 4 and 5 do nothing in it, every other number is bad
unfoldable pub call : ℕ → ℕ → Memory → Machine → IoView → Effect
call n next m s io =
    if n == 1 then put_call next m s io else (
    if n == 2 then get_call next m s io else (
    if n == 3 then unchanged s io (Ended Exit) else (
    if n == 4 then unchanged (at_address s next) io On else (
    if n == 5 then unchanged (at_address s next) io On else
    unchanged s io (Ended (BadSvc n))))))

-- the row of an operation, from the table that has it
abbrev pub row_of : Op → Code → Memory → Machine → Option Row
row_of op c m s =
    option_or (fixed_row op c m s)
    (option_or (logic_row op c m s) (option_or (storage_row op c m s) (option_or (decimal_row op c m s) (edit_row op c m s))))

abbrev pub unless_branched : Option CpuView → Machine → IoView → Effect → Effect
unless_branched (Some cpu) s io e = unchanged (machine_of cpu s.bytes) io On
unless_branched None s io e = e

-- The effect of an instruction that was fetched whole; next is the updated address, and link the length code. EX, which only
-- has its subject executed, is no operation here.
unfoldable pub effect : Memory → Machine → IoView → Code → Op → ℕ → ℕ → Effect
effect m s io c SVC next link = call (i2 c) next m s io
effect m s io c Privileged next link = unchanged s io (Ended (Abend 2))
effect m s io c op next link = unless_branched (branched op s.cpu c next link) s io (onward next io (operate m s (row_of op c m s)))

-- the updated address: that of the EX which executes the instruction and 4, else its own and its length
abbrev pub updated : Code → Option ℕ → ℕ
updated c None = wrap (c.at + c.len)
updated c (Some x) = wrap (x + 4)

-- the length code, which is 2 under EX
abbrev pub link_code : Code → Option ℕ → ℕ
link_code c None = if c.len == 2 then 1 else 2
link_code c (Some x) = 2

-- A task alone: one step with its visits, and the run with its trace.

-- the instruction address at which a task returns
abbrev pub return_address : ℕ
return_address = RETURN_ADDRESS

-- one step: the state after it, how the task goes on, and what was visited
pub record Step : Type 0 where
  pub state : State
  pub next : Next
  pub visits : List Visit

-- one instruction more is done, also where it ends the task
abbrev pub stepped : State → Effect → List Visit → Step
stepped s e vs = record { state = record { machine = e.machine; io = e.io; done = s.done + 1 }; next = e.next; visits = vs }

abbrev pub ended : State → Ending → List Visit → Step
ended s e vs = stepped s (unchanged s.machine s.io (Ended e)) vs

-- a visit, by whether it was begun, whether the instruction branches, and whether it is the subject of EX
abbrev pub visit : State → ℕ → Bool → Bool → Bool → Visit
visit s a begun went subject = record { at = a; begun = begun; went = went; before = s.done; subject = subject }

-- the subject of the EX at x, whose halfwords were fetched, as it is executed
abbrev pub subject_begun : Memory → State → ℕ → Code → Step
subject_begun m s x c =
    stepped s (effect m s.machine s.io c (op_of (first_half c)) (updated c (Some x)) (link_code c (Some x)))
    (visit s c.at true (goes (op_of (first_half c)) s.machine.cpu c) true ∷ [])

abbrev pub subject_fetched : Memory → State → Code → ℕ → ℕ → Option Ending → Step
subject_fetched m s c a h (Some e) = ended s e (visit s a false false true ∷ [])
subject_fetched m s c a h None = subject_begun m s c.at (merged s.machine.cpu c (code_at m s.machine.bytes a h))

-- the step by the tests of the first halfword, where nothing was visited yet
abbrev pub from_first : State → Option Ending → Step → Step
from_first s (Some e) t = ended s e []
from_first s None t = t

-- the step of an EX behind its own visit
unfoldable pub subject_step : Memory → State → Code → Step
subject_step m s c =
    let a = ex s.machine.cpu c in
    let h = half_at m s.machine.bytes a in
    from_first s (first_tests m a) (subject_fetched m s c a h (subject_tests m a h))

abbrev pub behind : Visit → Step → Step
behind v t = record { state = t.state; next = t.next; visits = v ∷ t.visits }

-- an instruction whose halfwords were fetched
abbrev pub begun_step : Memory → State → Code → ℕ → Step
begun_step m s c h =
    if is_execute h then behind (visit s c.at true false false) (subject_step m s c)
    else stepped s (effect m s.machine s.io c (op_of h) (updated c None) (link_code c None))
    (visit s c.at true (goes (op_of h) s.machine.cpu c) false ∷ [])

abbrev pub fetched : Memory → State → ℕ → ℕ → Option Ending → Step
fetched m s a h (Some e) = ended s e (visit s a false false false ∷ [])
fetched m s a h None = begun_step m s (code_at m s.machine.bytes a h) h

-- the order of tests up to the operation: the first halfword's, then the later ones'
unfoldable pub solo_step : Memory → State → Step
solo_step m s =
    let a = s.machine.cpu.ia in
    let h = half_at m s.machine.bytes a in
    from_first s (first_tests m a) (fetched m s a h (rest_tests m a (length_of h)))

abbrev pub no_visit : Visit
no_visit = record { at = 0; begun = false; went = false; before = 0; subject = false }

-- the visit that a step makes of the instruction, or of the subject of EX
abbrev pub visit_of : Step → Bool → Visit
visit_of step subject = get_or step.visits (if subject then 1 else 0) no_visit

-- the whole run: its ending, the last state, and all visits in order
pub record Run : Type 0 where
  pub ending : Ending
  pub state : State
  pub trace : List Visit

abbrev pub run_ended : Ending → State → List Visit → Run
run_ended e s trace = record { ending = e; state = s; trace = trace }

abbrev pub has_returned : State → Bool
has_returned s = s.machine.cpu.ia == return_address

abbrev pub run_after : (State → List Visit → Run) → List Visit → State → List Visit → Next → Run
run_after more trace s visits On = more s (trace ++ visits)
run_after more trace s visits (Ended e) = run_ended e s (trace ++ visits)

-- with so many instructions left of the budget, from a state to which the trace has led
unfoldable pub run_from : Memory → ℕ → State → List Visit → Run
run_from m zero s trace = run_ended (if has_returned s then Returned else Spent) s trace
run_from m (suc n) s trace =
    if has_returned s then run_ended Returned s trace
    else run_after (λ t more. run_from m n t more) trace (solo_step m s).state (solo_step m s).visits (solo_step m s).next

abbrev pub solo_run : Memory → ℕ → State → Run
solo_run m budget s = run_from m budget s []
