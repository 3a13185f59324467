-- The reader's states, and what a line makes of each.
use Rattle.std.specs.Prelude.{◌≡◌, ℕ, ◌+◌, ◌-◌, ◌≤◌, Bool, true, false, not, nat_eq, nat_le, if◌then◌else◌, Option, Some, None, List, [], ◌∷◌, ◌++◌, length, option_map, option_and_then}
use Rattle.cov_base.specs.Meaning.{ImageView}
use Rattle.cov_base.specs.declared.limits.TheConstants.{MODULE_LIMIT, SIZE_LIMIT, LINE_LIMIT, PHASE_LIMIT, SESSION_LIMIT, TASK_LIMIT, PRIVATE_LIMIT, BUDGET_LIMIT, ROOM_LIMIT}
use Rattle.job_text.specs.Meaning.{DraftView, Controllers, are_met, LineView, listing_text, CardView, Cover, Module, Text, Listing, Serve, Phase, Session, Task, End, card_at, no_job, has_module, fits, with_module, with_service, with_phase, with_new_session, has_task, with_task, put_index, image_index}
use Rattle.session_book.specs.declared.services.Service.{Service}
use Rattle.job_text.specs.TaskParts.{fresh_task, task_more}
use Rattle.job_text.specs.declared.grammar.Grammar.{Grammar}
use Rattle.job_text.specs.declared.limit.Limit.{Limit}
use Rattle.job_text.specs.declared.limit.Limit.TheVariants as limit
use Rattle.job_text.specs.declared.refused.LineRefused.{LineRefused}
use Rattle.job_text.specs.declared.refused.LineRefused.TheVariants as refused
use Rattle.job_text.specs.declared.parts.Part.{Part}
use Rattle.job_text.specs.declared.parts.Part.TheVariants as part

-- what was read in part, the job that was read whole, and the limit that the last line passed
pub record State : Type 0 where
  pub part : Part
  pub job : DraftView
  pub over : Option Limit

abbrev pub state : Part → DraftView → Option Limit → State
state p j over = record { part = p; job = j; over = over }

-- where SESSION cards may come
abbrev pub at_sessions : DraftView → State
at_sessions j = state part.Sessions j None

abbrev pub plain : State → State
plain st = state st.part st.job None

abbrev pub start : Grammar → State
start g = state part.Start (no_job g) None

-- the modules behind these, with the one of this name
abbrev pub put_named : DraftView → Option (List ℕ) → List ℕ → List ℕ → Option (List ℕ)
put_named j by used name = put_index j by used (image_index j name)

abbrev pub is_start : Part → Bool
is_start part.Start = true
is_start p = false

abbrev pub is_sessions : Part → Bool
is_sessions part.Sessions = true
is_sessions p = false

abbrev pub is_done : Part → Bool
is_done part.Done = true
is_done p = false

-- the job with the module that was open, where it is whole: a module may come
abbrev pub closed_module : Part → DraftView → Option DraftView
closed_module part.Modules j = Some j
closed_module (part.Texts i left) j = if nat_eq left 0 then Some (with_module j i None) else None
closed_module (part.Listed i left lines) j = if nat_eq left 0 then Some (with_module j i (Some lines)) else None
closed_module p j = None

-- a service may come
abbrev pub closed_service : Part → DraftView → Option DraftView
closed_service part.Services j = Some j
closed_service p j = closed_module p j

-- the job with the task that was open: a task may come
abbrev pub closed_task : Part → DraftView → Option DraftView
closed_task part.Sessions j = Some j
closed_task (part.Task t) j = Some (with_task j t.task)
closed_task p j = None

-- the job, where no controller is missing
abbrev pub met_of : Controllers → DraftView → Option DraftView
met_of c j = if are_met c j then Some j else None

-- a phase or the end may come
abbrev pub closed : Controllers → Part → DraftView → Option DraftView
closed c part.Sessions j = met_of c j
closed c (part.Task t) j = met_of c (with_task j t.task)
closed c p j = closed_service p j

abbrev pub no_bytes : List ℕ → ℕ → ImageView
no_bytes name base = record { name = name; base = base; bytes = [] }

abbrev pub with_bytes : ImageView → List ℕ → ImageView
with_bytes i bytes = record i { bytes = i.bytes ++ bytes }

abbrev pub module_over : DraftView → ℕ → Option Limit
module_over j size =
    if nat_le MODULE_LIMIT (length j.images) then Some limit.Modules else (if nat_le size SIZE_LIMIT then None else Some limit.Size)

abbrev pub line_over : List ℕ → Option Limit
line_over text = if nat_le (length text) LINE_LIMIT then None else Some limit.Line

abbrev pub phase_over : DraftView → Option Limit
phase_over j = if nat_le PHASE_LIMIT (length j.phases) then Some limit.Phases else None

abbrev pub session_over : DraftView → Option Limit
session_over j = if nat_le SESSION_LIMIT (length j.sessions) then Some limit.Sessions else None

abbrev pub task_over : DraftView → ℕ → ℕ → ℕ → Option Limit
task_over j private budget room =
    if nat_le TASK_LIMIT (length j.tasks) then Some limit.Tasks
    else (if nat_le private PRIVATE_LIMIT then (if nat_le budget BUDGET_LIMIT then (if nat_le room ROOM_LIMIT then None
    else Some limit.Room)
    else Some limit.Budget)
    else Some limit.Private)

abbrev pub open_module : List ℕ → ℕ → ℕ → DraftView → Option State
open_module name base size j =
    if fits j name base size then Some (state (part.Texts (no_bytes name base) size) j (module_over j size)) else None

abbrev pub open_task : List ℕ → ℕ → ℕ → ℕ → ℕ → DraftView → Option State
open_task name entry private budget room j =
    if has_task j name then None
    else Some (state (part.Task (fresh_task name entry private budget room)) j (task_over j private budget room))

abbrev pub add_service : Service → DraftView → Option State
add_service s j = option_map (λ k. state part.Services k None) (with_service j s)

abbrev pub open_phase : List ℕ → DraftView → Option State
open_phase name j = option_map (λ k. state part.Sessions k (phase_over j)) (with_phase j name)

abbrev pub add_session : DraftView → List ℕ → Option (List ℕ) → List (List ℕ) → Option State
add_session j name by names = option_map (λ k. state part.Sessions k (session_over j)) (with_new_session j name by names)

abbrev pub take_text : Part → DraftView → List ℕ → Option State
take_text (part.Texts i left) j bytes =
    if nat_le (length bytes) left then Some (state (part.Texts (with_bytes i bytes) (left - length bytes)) j None) else None
take_text p j bytes = None

abbrev pub take_listing : Part → DraftView → ℕ → Option State
take_listing (part.Texts i left) j n = if nat_eq left 0 then Some (state (part.Listed i n []) j None) else None
take_listing p j n = None

abbrev pub take_more : Part → DraftView → CardView → Option State
take_more (part.Task t) j card = option_map (λ u. state (part.Task u) j None) (task_more t card)
take_more p j card = None

abbrev pub end : DraftView → State
end j = state part.Done j None

abbrev pub take_cover : State → Option State
take_cover st = if is_start st.part then Some (state part.Modules st.job None) else None

abbrev pub take_module : State → List ℕ → ℕ → ℕ → Option State
take_module st name base size = option_and_then (open_module name base size) (closed_module st.part st.job)

abbrev pub take_service : State → Service → Option State
take_service st s = option_and_then (add_service s) (closed_service st.part st.job)

abbrev pub take_task : State → List ℕ → ℕ → ℕ → ℕ → ℕ → Option State
take_task st name entry private budget room =
    option_and_then (open_task name entry private budget room) (closed_task st.part st.job)

abbrev pub take_card : Controllers → State → CardView → Option State
take_card c st Cover = take_cover st
take_card c st (Module name base size) = take_module st name base size
take_card c st (Text bytes) = take_text st.part st.job bytes
take_card c st (Listing n) = take_listing st.part st.job n
take_card c st (Serve s) = take_service st s
take_card c st (Phase name) = option_and_then (open_phase name) (closed c st.part st.job)
take_card c st (Session name by names) = if is_sessions st.part then add_session st.job name by names else None
take_card c st (Task name entry private budget room) = take_task st name entry private budget room
take_card c st End = option_map end (closed c st.part st.job)
take_card c st card = take_more st.part st.job card

-- a line of a listing comes
abbrev pub takes_raw : Part → Bool
takes_raw (part.Listed i left lines) = not (nat_eq left 0)
takes_raw p = false

abbrev pub take_raw : Part → DraftView → List ℕ → Option State
take_raw (part.Listed i left lines) j text = Some (state (part.Listed i (left - 1) (lines ++ text ∷ [])) j (line_over text))
take_raw p j text = None

abbrev pub step : Controllers → State → LineView → Option State
step c st l =
    if takes_raw st.part then take_raw st.part st.job (listing_text l) else option_and_then (take_card c st) (card_at l.bytes)

abbrev pub run : Controllers → State → List LineView → Option State
run c st [] = Some st
run c st (l ∷ ls) = option_and_then (λ s. run c s ls) (step c st l)

abbrev pub open_modules : Part → ℕ
open_modules (part.Texts i left) = 1
open_modules (part.Listed i left lines) = 1
open_modules p = 0

-- no module or task that was read whole has the name of the open one
abbrev pub IsNew : Part → DraftView → Type 0
IsNew (part.Texts i left) j = has_module j i.name ≡ false
IsNew (part.Listed i left lines) j = has_module j i.name ≡ false
IsNew (part.Task t) j = has_task j t.task.name ≡ false
IsNew p j = Unit {0}

-- what was read is within the limits that numbers of 32 bits need, and what is open has a new name
pub record HasRoom (p : Part) (j : DraftView) : Type 0 where
  pub new : IsNew p j
  pub modules : length j.images + open_modules p ≤ MODULE_LIMIT
  pub phases : length j.phases ≤ PHASE_LIMIT

-- the reader stands so, and no limit is passed
abbrev pub Gives : Option State → State → Type 0
Gives o st = o ≡ Some (plain st)

-- how a line is refused: it is bad, or it passes a limit
abbrev pub Refuses : Option State → LineRefused → Type 0
Refuses o refused.Bad = o ≡ None
Refuses o (refused.TooLarge what) = option_map (λ s. s.over) o ≡ Some (Some what)
Refuses o refused.NoMemory = Unit {0}
