-- What the claim of the program says by this crate's clauses.
use Rattle.std.specs.Prelude.{ℕ, Bool, true, ◌&&◌, nat_eq, Option, Some, None, List, map, option_and_then, position, ◌+◌, ◌-◌, false, not, ◌||◌, nat_le, nat_lt, if◌then◌else◌, [], ◌∷◌, ◌++◌, length, option_map, take, slice_index, ◌*◌, Result, Ok, Err, ◌≡◌, ◌%◌, codes, ◌≤◌, slice_set, ◌⊎◌, ◌<◌, All, AllPairs}
use Rattle.std.specs.List.{list_any, list_all, concat}
use Rattle.std.specs.Str.{bytes_eq}
use Rattle.cov_base.specs.Meaning.{ImageView, is_digit_byte, name_at, words}
use Rattle.session_book.specs.Meaning.{JobView, SessionView, TaskView, first_regs, task_named}
use Rattle.module_area.specs.Meaning.{DataView}
use Rattle.hex.specs.Hex.{decode_of, decode_sized}
use Rattle.hex.specs.declared.error.FromHexError.{FromHexError}
use Rattle.cov_base.specs.declared.limits.TheConstants.{MODULE_LIMIT, SIZE_LIMIT, LINE_LIMIT, PHASE_LIMIT, SESSION_LIMIT, TASK_LIMIT, PRIVATE_LIMIT, BUDGET_LIMIT, ROOM_LIMIT}
use Rattle.job_text.specs.declared.limit.Limit.{Limit}
use Rattle.job_text.specs.declared.limit.Limit.TheVariants as limit
use Rattle.job_text.specs.declared.jobs.JobFault.{JobFault}
use Rattle.job_text.specs.declared.jobs.JobFault.TheVariants as fault
use Rattle.cov_base.specs.declared.numbers.TaskNo.{TaskNo}
use Rattle.session_book.specs.declared.services.Service.{Service}
use Rattle.job_text.specs.declared.grammar.Grammar.{Grammar}
use Rattle.job_text.specs.declared.grammar.Grammar.TheVariants as grammar
use Rattle.job_text.specs.declared.schedule.Item.{Item}
use Rattle.job_text.specs.declared.schedule.Item.TheVariants as item

-- A job as far as its cards were read: a session has its controller's name until the whole job is known.

pub record SessionDraft : Type 0 where
  pub name : List ℕ
  pub phase : ℕ
  pub modules : List ℕ
  pub by : Option (List ℕ)

pub record DraftView : Type 0 where
  -- which cards it may have
  pub grammar : Grammar
  pub images : List ImageView
  pub listings : List (Option (List (List ℕ)))
  pub services : List Service
  pub phases : List (List ℕ)
  pub sessions : List SessionDraft
  pub tasks : List TaskView

-- what is asked of the sessions' controllers
pub data Controllers : Type 0 where
  -- each is a task of its session's phase
  Present : Controllers
  -- each has a name, and may be missing
  Named : Controllers

-- the task is the one of the phase that has this name
abbrev pub is_controller : ℕ → List ℕ → TaskView → Bool
is_controller phase name t = bytes_eq t.name name && nat_eq t.phase phase

abbrev pub controller_named : List TaskView → ℕ → List ℕ → Option ℕ
controller_named tasks phase name = position (is_controller phase name) tasks

abbrev pub is_met_by : List TaskView → ℕ → Option (List ℕ) → Bool
is_met_by tasks phase (Some name) = list_any (is_controller phase name) tasks
is_met_by tasks phase None = true

abbrev pub is_met : List TaskView → SessionDraft → Bool
is_met tasks s = is_met_by tasks s.phase s.by

-- no controller is missing that must be there
abbrev pub are_met : Controllers → DraftView → Bool
are_met Present j = list_all (is_met j.tasks) j.sessions
are_met c j = true

abbrev pub bound_session : List TaskView → SessionDraft → SessionView
bound_session tasks s =
    record { name = s.name; phase = s.phase; modules = s.modules; by = option_and_then (controller_named tasks s.phase) s.by }

-- the job, with each controller's index among its tasks
abbrev pub bound : DraftView → JobView
bound j =
    record {
      images = j.images;
      listings = j.listings;
      services = j.services;
      phases = j.phases;
      sessions = map (bound_session j.tasks) j.sessions;
      tasks = j.tasks;
    }

-- What a card adds to a job, where it may.

abbrev pub no_job : Grammar → DraftView
no_job g = record { grammar = g; images = []; listings = []; services = []; phases = []; sessions = []; tasks = [] }

abbrev pub has_module : DraftView → List ℕ → Bool
has_module j name = list_any (λ i. bytes_eq i.name name) j.images

-- the module has no byte of this place
abbrev pub is_clear : ℕ → ℕ → ImageView → Bool
is_clear base size i = nat_le (i.base + length i.bytes) base || nat_le (base + size) i.base

abbrev pub fits : DraftView → List ℕ → ℕ → ℕ → Bool
fits j name base size = not (has_module j name) && list_all (is_clear base size) j.images

abbrev pub with_module : DraftView → ImageView → Option (List (List ℕ)) → DraftView
with_module j i listing = record j { images = j.images ++ i ∷ []; listings = j.listings ++ listing ∷ [] }

abbrev pub has_services : Grammar → Bool
has_services grammar.Plain = false
has_services grammar.Services = true

-- one whose number is above those of the others, where the grammar has services
abbrev pub with_service : DraftView → Service → Option DraftView
with_service j s =
    if has_services j.grammar && list_all (λ v. nat_lt v.number s.number) j.services
    then Some (record j { services = j.services ++ s ∷ [] }) else None

abbrev pub with_phase : DraftView → List ℕ → Option DraftView
with_phase j name = if list_any (λ p. bytes_eq p name) j.phases then None else Some (record j { phases = j.phases ++ name ∷ [] })

-- the number of the phase that is open
abbrev pub this_phase : DraftView → ℕ
this_phase j = length j.phases - 1

abbrev pub image_index : DraftView → List ℕ → Option ℕ
image_index j name = position (λ i. bytes_eq i.name name) j.images

-- the sessions of one controller, which may share modules
abbrev pub is_same_controller : Option (List ℕ) → Option (List ℕ) → Bool
is_same_controller (Some a) (Some b) = bytes_eq a b
is_same_controller a b = false

-- the session is one of the phase, has the module, and doesn't share it with a further session of this controller
abbrev pub bars : ℕ → Option (List ℕ) → ℕ → SessionDraft → Bool
bars phase by m s = nat_eq s.phase phase && not (is_same_controller s.by by) && list_any (nat_eq m) s.modules

-- the module is none of those that the card named before it, and no session of this phase bars it
abbrev pub is_free : DraftView → Option (List ℕ) → List ℕ → ℕ → Bool
is_free j by used m = not (list_any (nat_eq m) used) && not (list_any (bars (this_phase j) by m) j.sessions)

-- the module, where there is one, behind those that the card named before it
abbrev pub put_index : DraftView → Option (List ℕ) → List ℕ → Option ℕ → Option (List ℕ)
put_index j by used (Some m) = if is_free j by used m then Some (used ++ m ∷ []) else None
put_index j by used None = None

-- the modules of these names, behind those that the card named before them
abbrev pub indices_on : DraftView → Option (List ℕ) → Option (List ℕ) → List (List ℕ) → Option (List ℕ)
indices_on j by used [] = used
indices_on j by None (n ∷ ns) = None
indices_on j by (Some used) (n ∷ ns) = indices_on j by (put_index j by used (image_index j n)) ns

abbrev pub with_draft : DraftView → SessionDraft → DraftView
with_draft j s = record j { sessions = j.sessions ++ s ∷ [] }

abbrev pub put_session : DraftView → List ℕ → Option (List ℕ) → List ℕ → DraftView
put_session j name by modules = with_draft j (record { name = name; phase = this_phase j; modules = modules; by = by })

abbrev pub has_task : DraftView → List ℕ → Bool
has_task j name = list_any (λ t. bytes_eq t.name name) j.tasks

-- A session before the tasks of its phase may have this controller: no task of an earlier phase has the name.
abbrev pub may_have : DraftView → Option (List ℕ) → Bool
may_have j None = true
may_have j (Some task) = not (has_task j task)

abbrev pub with_new_session : DraftView → List ℕ → Option (List ℕ) → List (List ℕ) → Option DraftView
with_new_session j name by names = if list_any (λ s. bytes_eq s.name name) j.sessions then None
    else (if may_have j by then option_map (put_session j name by) (indices_on j by (Some []) names) else None)

-- the task in the phase that is open
abbrev pub with_task : DraftView → TaskView → DraftView
with_task j t = record j { tasks = j.tasks ++ record t { phase = this_phase j } ∷ [] }

-- What a card says, wherever memory holds it. Names are filled with blanks.

pub data CardView : Type 0 where
  Cover : CardView
  -- name, base and size
  Module : List ℕ → ℕ → ℕ → CardView
  Text : List ℕ → CardView
  -- how many lines
  Listing : ℕ → CardView
  Serve : Service → CardView
  Phase : List ℕ → CardView
  -- name, controller where it has one, and modules
  Session : List ℕ → Option (List ℕ) → List (List ℕ) → CardView
  -- name, entry, private storage, budget and room
  Task : List ℕ → ℕ → ℕ → ℕ → ℕ → CardView
  -- number and value
  Reg : ℕ → ℕ → CardView
  Data : DataView → CardView
  Input : List ℕ → CardView
  End : CardView

-- The lines of an input, and the text of a listing line.

pub record LineView : Type 0 where
  pub bytes : List ℕ
  -- by an LF
  pub ended : Bool

abbrev pub as_line : List ℕ → Bool → LineView
as_line bytes ended = record { bytes = bytes; ended = ended }

abbrev pub put_on : ℕ → List LineView → List LineView
put_on b [] = as_line (b ∷ []) false ∷ []
put_on b (l ∷ ls) = as_line (b ∷ l.bytes) l.ended ∷ ls

-- Each LF ends a line. What follows the last LF is a line where it isn't empty.
abbrev pub lines_of : List ℕ → List LineView
lines_of [] = []
lines_of (b ∷ bs) = if nat_eq b 10 then as_line [] true ∷ lines_of bs else put_on b (lines_of bs)

-- a CR stands right before the LF
abbrev pub has_cr : LineView → Bool
has_cr l = l.ended && nat_le 1 (length l.bytes) && nat_eq (slice_index l.bytes (length l.bytes - 1)) 13

-- a line of a listing, without one CR before its LF
abbrev pub listing_text : LineView → List ℕ
listing_text l = if has_cr l then take (length l.bytes - 1) l.bytes else l.bytes

-- How numbers, bytes and addresses are spelled.

-- the number that the digits make behind those that made n
abbrev pub decimal_value : ℕ → List ℕ → ℕ
decimal_value n [] = n
decimal_value n (b ∷ bs) = decimal_value (10 * n + (b - 48)) bs

-- 1 to 9 digits without a leading zero, but 0 itself
abbrev pub is_number : List ℕ → Bool
is_number w =
    nat_le 1 (length w) && nat_le (length w) 9 && (not (nat_eq (slice_index w 0) 48) || nat_eq (length w) 1)
    && list_all is_digit_byte w

abbrev pub card_number : List ℕ → Option ℕ
card_number w = if is_number w then Some (decimal_value 0 w) else None

abbrev pub ok_of : Result (List ℕ) FromHexError → Option (List ℕ)
ok_of (Ok bytes) = Some bytes
ok_of (Err e) = None

-- 1 to 64 bytes, in hexadecimal digits of either case
abbrev pub bytes_at : List ℕ → Option (List ℕ)
bytes_at w = if nat_le 2 (length w) && nat_le (length w) 128 then ok_of (decode_of w) else None

abbrev pub address_in : List ℕ → ℕ
address_in bytes = slice_index bytes 0 * 65536 + slice_index bytes 1 * 256 + slice_index bytes 2

-- six hexadecimal digits of either case
abbrev pub address_at : List ℕ → Option ℕ
address_at w = option_map address_in (ok_of (decode_sized w 3))

abbrev pub word_in : List ℕ → ℕ
word_in bytes = slice_index bytes 0 * 16777216 + slice_index bytes 1 * 65536 + slice_index bytes 2 * 256 + slice_index bytes 3

-- eight hexadecimal digits of either case
abbrev pub card_word : List ℕ → Option ℕ
card_word w = option_map word_in (ok_of (decode_sized w 4))

abbrev pub put_name : List (List ℕ) → Option (List ℕ) → Option (List (List ℕ))
put_name ns (Some n) = Some (ns ++ n ∷ [])
put_name ns None = None

-- the names behind those that were read
abbrev pub names_on : Option (List (List ℕ)) → List (List ℕ) → Option (List (List ℕ))
names_on ns [] = ns
names_on None (w ∷ ws) = None
names_on (Some ns) (w ∷ ws) = names_on (put_name ns (name_at w)) ws

abbrev pub names_at : List (List ℕ) → Option (List (List ℕ))
names_at ws = names_on (Some []) ws

-- Which lines are cards: words parted by exactly one blank.

-- where a module may stand: on a doubleword from X'100000' on, of an even size, below X'FFF000'
abbrev pub may_stand : ℕ → ℕ → Bool
may_stand base size =
    nat_eq (base % 8) 0 && nat_le 1048576 base && nat_eq (size % 2) 0 && nat_le 2 size && nat_le (base + size) 16773120

-- the MODULE card of these fields, and so on for the other keys; none where a field is bad
abbrev pub as_module : Option (List ℕ) → Option ℕ → Option ℕ → Option CardView
as_module (Some n) (Some b) (Some s) = if may_stand b s then Some (Module n b s) else None
as_module n b s = None

-- of a whole session
abbrev pub as_session : Option (List ℕ) → Option (List (List ℕ)) → Option CardView
as_session (Some n) (Some ns) = Some (Session n None ns)
as_session n ns = None

-- of a session that a task opens and closes
abbrev pub as_controlled : Option (List ℕ) → Option (List ℕ) → Option (List (List ℕ)) → Option CardView
as_controlled (Some n) (Some t) (Some ns) = Some (Session n (Some t) ns)
as_controlled n t ns = None

-- of the words behind the session's name and BY: a task and its modules
abbrev pub controlled_card : List ℕ → List (List ℕ) → Option CardView
controlled_card name (task ∷ m ∷ more) = as_controlled (name_at name) (name_at task) (names_at (m ∷ more))
controlled_card name words = None

-- of the words behind SESSION and a name; the word BY is never its first module
abbrev pub session_card : List ℕ → List (List ℕ) → Option CardView
session_card name (a ∷ more) =
    if bytes_eq a (codes "BY") then controlled_card name more else as_session (name_at name) (names_at (a ∷ more))
session_card name words = None

abbrev pub as_task : Option (List ℕ) → Option ℕ → Option ℕ → Option ℕ → Option ℕ → Option CardView
as_task (Some n) (Some e) (Some p) (Some b) (Some r) = if nat_le 1 b then Some (Task n e p b r) else None
as_task n e p b r = None

-- a register of the sixteen
abbrev pub as_reg : Option ℕ → Option ℕ → Option CardView
as_reg (Some n) (Some v) = if nat_le n 15 then Some (Reg n v) else None
as_reg n v = None

-- bytes at an offset of private storage
abbrev pub as_data : Option ℕ → Option (List ℕ) → Option CardView
as_data (Some n) (Some bytes) = Some (Data (record { offset = n; bytes = bytes }))
as_data n bytes = None

-- of a number of SVC that is no task call
abbrev pub as_service : Option ℕ → Option ℕ → Option CardView
as_service (Some n) (Some e) =
    if nat_eq n 0 || nat_le 6 n && nat_le n 254 then Some (Serve (record { number = n; entry = e })) else None
as_service n e = None

-- the card of a key and one word
abbrev pub short_card : List ℕ → List ℕ → Option CardView
short_card key a =
    if bytes_eq key (codes "TEXT") then option_map Text (bytes_at a)
    else (if bytes_eq key (codes "LISTING") then option_map Listing (card_number a)
    else (if bytes_eq key (codes "PHASE") then option_map Phase (name_at a)
    else (if bytes_eq key (codes "INPUT") then option_map Input (bytes_at a)
    else (if bytes_eq key (codes "COVERJOB") && bytes_eq a (codes "1") then Some Cover
    else None))))

-- the card of a key and two words that is no SESSION
abbrev pub pair_card : List ℕ → List ℕ → List ℕ → Option CardView
pair_card key a b =
    if bytes_eq key (codes "REG") then as_reg (card_number a) (card_word b)
    else (if bytes_eq key (codes "DATA") then as_data (card_number a) (bytes_at b)
    else (if bytes_eq key (codes "SERVICE") then as_service (card_number a) (address_at b)
    else None))

abbrev pub module_card : List ℕ → List ℕ → List ℕ → List ℕ → Option CardView
module_card key a b c = if bytes_eq key (codes "MODULE") then as_module (name_at a) (address_at b) (card_number c) else None

abbrev pub task_card : List ℕ → List ℕ → List ℕ → List ℕ → List ℕ → List ℕ → Option CardView
task_card key a b c d e =
    if bytes_eq key (codes "TASK") then as_task (name_at a) (address_at b) (card_number c) (card_number d) (card_number e) else None

-- the card of a key and two or more words that is no SESSION
abbrev pub long_card : List ℕ → List ℕ → List (List ℕ) → Option CardView
long_card key a (b ∷ []) = pair_card key a b
long_card key a (b ∷ c ∷ []) = module_card key a b c
long_card key a (b ∷ c ∷ d ∷ e ∷ []) = task_card key a b c d e
long_card key a more = None

-- the card that these words make
abbrev pub card_of : List (List ℕ) → Option CardView
card_of [] = None
card_of (key ∷ []) = if bytes_eq key (codes "ENDJOB") then Some End else None
card_of (key ∷ a ∷ []) = short_card key a
card_of (key ∷ a ∷ b ∷ more) = if bytes_eq key (codes "SESSION") then session_card a (b ∷ more) else long_card key a (b ∷ more)

abbrev pub card_at : List ℕ → Option CardView
card_at line = card_of (words line)

abbrev pub IsCard : LineView → CardView → Type 0
IsCard line card = card_at line.bytes ≡ Some card

-- the lines are the cards of these, in their order
abbrev pub AreCards : {A : Type 0} → (A → CardView) → List A → List LineView → Type 0
AreCards card xs lines = map (λ l. card_at l.bytes) lines ≡ map (λ x. Some (card x)) xs

-- The cards of a task.

-- what a REG card says
pub record RegView : Type 0 where
  pub number : ℕ
  pub value : ℕ

abbrev pub set_regs : List ℕ → List RegView → List ℕ
set_regs regs [] = regs
set_regs regs (r ∷ rs) = set_regs (slice_set regs r.number r.value) rs

-- Which lines spell a job. Each word says how some lines take one job to another.

pub record Then (Is More : DraftView → Type 0) : Type 0 where
  pub mid : DraftView
  pub is : Is mid
  pub follows : More mid

-- one after the other the parts lead from one job to the other
abbrev pub Lead : {A : Type 0} → (DraftView → A → DraftView → Type 0) → DraftView → List A → DraftView → Type 0
Lead Is j [] after = j ≡ after
Lead Is j (x ∷ xs) after = Then (Is j x) (λ mid. Lead Is mid xs after)

-- one block after the other
abbrev pub joined : List (List LineView) → List LineView
joined [] = []
joined (block ∷ blocks) = block ++ joined blocks

-- nothing, or a LISTING card and the lines of the listing
abbrev pub IsListed : List LineView → Option (List (List ℕ)) → Type 0
IsListed lines None = lines ≡ []
IsListed [] (Some texts) = ⊥
IsListed (l ∷ ls) (Some texts) = IsCard l (Listing (length ls)) × (texts ≡ map listing_text ls)

-- MODULE, TEXT cards, and nothing or the listing
pub record IsModule (j : DraftView) (block : List LineView) (after : DraftView) : Type 0 where
  -- the lines, in order
  pub head : LineView
  pub texts : List LineView
  pub listing : List LineView
  pub whole : block ≡ head ∷ (texts ++ listing)
  -- what they say
  pub image : ImageView
  pub parts : List (List ℕ)
  pub listed : Option (List (List ℕ))
  pub card : IsCard head (Module image.name image.base (length image.bytes))
  pub fit : fits j image.name image.base (length image.bytes) ≡ true
  pub are_texts : AreCards Text parts texts
  pub filled : image.bytes ≡ concat parts
  pub is_listed : IsListed listing listed
  pub is_after : after ≡ with_module j image listed

pub record IsServiceCard (j : DraftView) (line : LineView) (after : DraftView) : Type 0 where
  pub service : Service
  pub card : IsCard line (Serve service)
  pub adds : with_service j service ≡ Some after

pub record IsSessionCard (j : DraftView) (line : LineView) (after : DraftView) : Type 0 where
  pub name : List ℕ
  pub by : Option (List ℕ)
  pub names : List (List ℕ)
  pub card : IsCard line (Session name by names)
  pub adds : with_new_session j name by names ≡ Some after

-- TASK, and then REG, DATA and INPUT cards, of each kind as many as wanted
pub record IsTaskBlock (j : DraftView) (block : List LineView) (after : DraftView) : Type 0 where
  -- the lines, in order
  pub head : LineView
  pub reg_lines : List LineView
  pub data_lines : List LineView
  pub input_lines : List LineView
  pub whole : block ≡ head ∷ (reg_lines ++ (data_lines ++ input_lines))
  -- what they say
  pub task : TaskView
  pub regs : List RegView
  pub inputs : List (List ℕ)
  pub card : IsCard head (Task task.name task.entry task.private task.budget task.room)
  pub new : has_task j task.name ≡ false
  pub are_regs : AreCards (λ r. Reg r.number r.value) regs reg_lines
  pub rise : AllPairs (λ r s. r.number < s.number) regs
  pub set : task.regs ≡ set_regs (first_regs task.entry) regs
  pub are_data : AreCards Data task.cards data_lines
  pub inside : All (λ c. c.offset + length c.bytes ≤ task.private) task.cards
  pub are_inputs : AreCards Input inputs input_lines
  pub filled : task.input ≡ concat inputs
  pub is_after : after ≡ with_task j task

pub record IsPhase (c : Controllers) (j : DraftView) (block : List LineView) (after : DraftView) : Type 0 where
  pub head : LineView
  pub sessions : List LineView
  pub tasks : List (List LineView)
  pub whole : block ≡ head ∷ (sessions ++ joined tasks)
  pub name : List ℕ
  pub named : DraftView
  pub mid : DraftView
  pub card : IsCard head (Phase name)
  pub adds : with_phase j name ≡ Some named
  pub are_sessions : Lead IsSessionCard named sessions mid
  pub are_tasks : Lead IsTaskBlock mid tasks after
  pub met : are_met c after ≡ true

-- COVERJOB, the modules, the services, the phases, ENDJOB
pub record Spells (g : Grammar) (c : Controllers) (lines : List LineView) (job : JobView) : Type 0 where
  pub first : LineView
  pub modules : List (List LineView)
  pub services : List LineView
  pub phases : List (List LineView)
  pub last : LineView
  pub whole : lines ≡ first ∷ (joined modules ++ (services ++ (joined phases ++ last ∷ [])))
  pub mid : DraftView
  pub served : DraftView
  pub draft : DraftView
  pub cover : IsCard first Cover
  pub are_modules : Lead IsModule (no_job g) modules mid
  pub are_services : Lead IsServiceCard mid services served
  pub are_phases : Lead (IsPhase c) served phases draft
  pub ends : IsCard last End
  pub is : job ≡ bound draft

-- some list of lines with this prefix spells a job
pub record JobBegins (g : Grammar) (lines : List LineView) : Type 0 where
  pub rest : List LineView
  pub job : JobView
  pub spells : Spells g Present (lines ++ rest) job

-- The limits, and when lines pass one.

abbrev pub are_short : Option (List (List ℕ)) → Bool
are_short (Some texts) = list_all (λ t. nat_le (length t) LINE_LIMIT) texts
are_short None = true

-- the job keeps this limit; those of input and of places are not tested on a job
abbrev pub keeps : Limit → JobView → Bool
keeps limit.Input j = true
keeps limit.Modules j = nat_le (length j.images) MODULE_LIMIT
keeps limit.Size j = list_all (λ i. nat_le (length i.bytes) SIZE_LIMIT) j.images
keeps limit.Line j = list_all are_short j.listings
keeps limit.Places j = true
keeps limit.Phases j = nat_le (length j.phases) PHASE_LIMIT
keeps limit.Sessions j = nat_le (length j.sessions) SESSION_LIMIT
keeps limit.Tasks j = nat_le (length j.tasks) TASK_LIMIT
keeps limit.Private j = list_all (λ t. nat_le t.private PRIVATE_LIMIT) j.tasks
keeps limit.Budget j = list_all (λ t. nat_le t.budget BUDGET_LIMIT) j.tasks
keeps limit.Room j = list_all (λ t. nat_le t.room ROOM_LIMIT) j.tasks

abbrev pub IsWithin : JobView → Type 0
IsWithin j = (what : Limit) → keeps what j ≡ true

-- Lines pass a limit where nothing that they begin keeps it, be the controllers there or not: a task that is still to
-- come for a session is none of theirs.
abbrev pub Passes : Grammar → Limit → List LineView → Type 0
Passes g what lines = (rest : List LineView) (job : JobView) → Spells g Named (lines ++ rest) job → keeps what job ≡ false

-- the order in which limits are told
abbrev pub rank : Limit → ℕ
rank limit.Input = 0
rank limit.Modules = 1
rank limit.Size = 2
rank limit.Line = 3
rank limit.Places = 4
rank limit.Phases = 5
rank limit.Sessions = 6
rank limit.Tasks = 7
rank limit.Private = 8
rank limit.Budget = 9
rank limit.Room = 10

-- What reading a job gives, and when it ends with a refusal.

-- these lines begin a job and pass no limit
pub record GoesOn (g : Grammar) (lines : List LineView) : Type 0 where
  pub begins : JobBegins g lines
  pub within : (what : Limit) → Passes g what lines → ⊥

-- Line n, counted from 1, is the first such that lines 1 to n begin no job; or n is one more than the number of lines, where these
-- begin one and spell none. No line before it passed a limit.
pub record IsBadAt (g : Grammar) (lines : List LineView) (n : ℕ) : Type 0 where
  pub counts : 1 ≤ n
  pub before : GoesOn g (take (n - 1) lines)
  pub here : ((n ≤ length lines) × (JobBegins g (take n lines) → ⊥))
      ⊎ ((n ≡ length lines + 1) × ((job : JobView) → Spells g Present lines job → ⊥))

-- Line n is the first with which a limit is passed, lines 1 to n begin a job, and of the limits that they pass this is the first in
-- the order of limits.
pub record IsOverAt (g : Grammar) (lines : List LineView) (what : Limit) (n : ℕ) : Type 0 where
  pub counts : 1 ≤ n
  pub inside : n ≤ length lines
  pub before : GoesOn g (take (n - 1) lines)
  pub begins : JobBegins g (take n lines)
  pub passes : Passes g what (take n lines)
  pub first : (other : Limit) → rank other < rank what → Passes g other (take n lines) → ⊥

-- want of memory may be met at any line
abbrev pub IsRefusal : Grammar → List LineView → JobFault → Type 0
IsRefusal g lines (fault.BadJob n) = IsBadAt g lines n
IsRefusal g lines (fault.TooLarge what n) = IsOverAt g lines what n
IsRefusal g lines fault.NoMemory = Unit {0}

-- Which lines behind a job are items of its schedule.

-- the item of this key and task
abbrev pub item_for : List ℕ → TaskNo → Option Item
item_for key t =
    if bytes_eq key (codes "FETCH") then Some (item.Fetch t)
    else (if bytes_eq key (codes "MARK") then Some (item.Mark t)
    else (if bytes_eq key (codes "LIFT") then Some (item.Lift t)
    else (if bytes_eq key (codes "DO") then Some (item.Do t)
    else (if bytes_eq key (codes "GO") then Some (item.Go t)
    else (if bytes_eq key (codes "PLANT") then Some (item.Plant t)
    else (if bytes_eq key (codes "CLOSE") then Some (item.Close t)
    else None))))))

abbrev pub task_item : JobView → List ℕ → List ℕ → Option Item
task_item j key name = option_and_then (item_for key) (option_and_then (task_named j) (name_at name))

-- the item that these words make
abbrev pub item_of : JobView → List (List ℕ) → Option Item
item_of j [] = None
item_of j (key ∷ []) = if bytes_eq key (codes "ENDSCHED") then Some item.End else None
item_of j (key ∷ name ∷ []) = task_item j key name
item_of j (key ∷ name ∷ more) = None

abbrev pub item_at : JobView → List ℕ → Option Item
item_at j line = item_of j (words line)
