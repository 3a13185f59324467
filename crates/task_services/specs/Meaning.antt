-- What the claim of the program says by this crate's clauses.
use Rattle.std.specs.Prelude.{ℕ, if◌then◌else◌, ◌==◌, Option, Some, None, List, [], ◌∷◌, slice_index, slice_set}
use Rattle.std.specs.List.{find}
use Rattle.cov_base.specs.Meaning.{Memory, CpuView, Machine}
use Rattle.s370_state.specs.declared.endings.Ending.{Ending}
use Rattle.s370_state.specs.declared.endings.Ending.TheVariants.{BadSvc, Abend}
use Rattle.s370_state.specs.declared.endings.Next.{Next}
use Rattle.s370_state.specs.declared.endings.Next.TheVariants.{On, Ended}
use Rattle.task_run.specs.Meaning.{DoneBehind, Behind, behind_call, course_on, Course, solo}
use Rattle.session_book.specs.declared.services.Service.{Service}
use Rattle.task_services.specs.declared.services.TheConstants.{SERVICE_RETURN}
use Rattle.s370_exec.specs.Meaning.{call_address}

-- A task whose supervisor calls are answered by routines of the job: its services.

-- the address to which a routine returns: X'FFFFFC'
abbrev pub service_return : ℕ
service_return = SERVICE_RETURN

-- What the task has beside its state: the services, and while a routine runs its caller, which is the processor as it stood behind
-- the call.
pub record Served : Type 0 where
  pub services : List Service
  pub caller : Option CpuView

-- of a task at a call that is answered
abbrev pub caller_at : Memory → Machine → CpuView
caller_at m s = record s.cpu { ia = behind_call m s }

abbrev pub left : List Service → Option CpuView → CpuView → Next → Behind Served
left services caller cpu next = record { cpu = cpu; next = next; key = record { services = services; caller = caller } }

-- First, a call that would end the task, where no routine runs and its number has a service: the task goes on in the routine.

abbrev pub service_for : List Service → ℕ → Option Service
service_for services number = find (λ (v : Service). v.number == number) services

-- at the entry, with the address to return to in register 14 and the entry in register 15
abbrev pub at_entry : CpuView → ℕ → CpuView
at_entry s entry = record s { regs = slice_set (slice_set s.regs 14 service_return) 15 entry; ia = entry }

abbrev pub entered : List Service → Memory → Machine → ℕ → Option Service → Behind Served
entered services m s number None = left services None s.cpu (Ended (BadSvc number))
entered services m s number (Some v) = left services (Some (caller_at m s)) (at_entry s.cpu v.entry) On

abbrev pub called : List Service → Memory → Machine → ℕ → Option CpuView → Behind Served
called services m s number None = entered services m s number (service_for services number)
called services m s number (Some caller) = left services (Some caller) s.cpu (Ended (BadSvc number))

-- every other ending stays
abbrev pub by_ending : Served → Memory → Machine → Ending → Behind Served
by_ending k m s (BadSvc number) = called k.services m s number k.caller
by_ending k m s e = left k.services k.caller s.cpu (Ended e)

abbrev pub by_call : DoneBehind Served
by_call k m s On = left k.services k.caller s.cpu On
by_call k m s (Ended e) = by_ending k m s e

-- Then, a task that hasn't ended, has a caller and stands at the address to which a routine returns: it goes on in the caller, and
-- has none any more.

-- the caller's processor, with registers 0, 1 and 15 as the routine has left them
abbrev pub resumed : CpuView → CpuView → CpuView
resumed s caller =
    record caller {
      regs = slice_set (slice_set (slice_set caller.regs 0 (slice_index s.regs 0)) 1 (slice_index s.regs 1)) 15
          (slice_index s.regs 15);
    }

abbrev pub gone_back : List Service → CpuView → Option CpuView → Behind Served
gone_back services cpu None = left services None cpu On
gone_back services cpu (Some caller) =
    if cpu.ia == service_return then left services None (resumed cpu caller) On else left services (Some caller) cpu On

abbrev pub by_return : Behind Served → Next → Behind Served
by_return b On = gone_back b.key.services b.cpu b.key.caller
by_return b (Ended e) = b

-- Both behind a step that has left the task so. The step counts, and its visits, storage, input and output are those of a task
-- without services.
abbrev pub by_next : DoneBehind Served
by_next k m s next = let b = by_call k m s next in by_return b b.next

-- from the task's start, where it has no caller
abbrev pub with_services : List Service → Course
with_services services plan m budget s = course_on by_next m budget (record { services = services; caller = None }) s

-- The course of a job's tasks, by its services: alone where it has none.
abbrev pub course_of : List Service → Course
course_of [] = solo
course_of (s ∷ ss) = with_services (s ∷ ss)

-- A task with an exit for its program interruptions, which SVC 6 names.

-- the exit that an address names: zero names none
abbrev pub exit_named : ℕ → Option ℕ
exit_named a = if a == 0 then None else Some a

-- At its exit the task finds the code in register 0 and in register 1 the address at which its instruction has ended.
abbrev pub at_exit : CpuView → ℕ → ℕ → CpuView
at_exit s code exit = record s { regs = slice_set (slice_set s.regs 0 code) 1 s.ia; ia = exit }

-- as the step has left it; the exit is the one from then on
abbrev pub as_left : Option ℕ → Machine → Next → Behind (Option ℕ)
as_left exit s next = record { cpu = s.cpu; next = next; key = exit }

-- the task goes on where the step would have ended it
abbrev pub goes_on : CpuView → Option ℕ → Behind (Option ℕ)
goes_on cpu exit = record { cpu = cpu; next = On; key = exit }

-- a program interruption takes the exit, if there is one, and then there is none
abbrev pub interrupted : Machine → ℕ → Option ℕ → Behind (Option ℕ)
interrupted s code None = as_left None s (Ended (Abend code))
interrupted s code (Some a) = goes_on (at_exit s.cpu code a) None

-- SVC 6 sets the exit to the address in register 1, and the task goes on behind it
abbrev pub exit_called : Option ℕ → Memory → Machine → ℕ → Behind (Option ℕ)
exit_called exit m s number =
    if number == 6 then goes_on (record s.cpu { ia = behind_call m s }) (exit_named (call_address s))
    else as_left exit s (Ended (BadSvc number))

-- every other ending stays
abbrev pub exit_by_ending : Option ℕ → Memory → Machine → Ending → Behind (Option ℕ)
exit_by_ending exit m s (Abend code) = interrupted s code exit
exit_by_ending exit m s (BadSvc number) = exit_called exit m s number
exit_by_ending exit m s e = as_left exit s (Ended e)

-- What an exit does behind a step that has left the task so. The step counts, and its visits, storage, input and output are those
-- of a task without one.
abbrev pub exit_by_next : DoneBehind (Option ℕ)
exit_by_next exit m s On = as_left exit s On
exit_by_next exit m s (Ended e) = exit_by_ending exit m s e

-- from the task's start, where it has no exit
abbrev pub with_exits : Course
with_exits plan m budget s = course_on exit_by_next m budget None s
