-- What the claim of the program says by this crate's clauses.
use Rattle.std.specs.Prelude.{◌≡◌, ℕ, ◌≤◌, true, false, Option, List, length, take, ◌-◌, Some, None, option_map, [], ◌∷◌, get_or, count_by, ◌+◌, ◌&&◌, nat_le, nat_lt, if◌then◌else◌, bytes_eq, codes, decimal}
use Rattle.cov_outside.specs.Meaning.{Rose, IsWhole, HasMoreThan}
use Rattle.cov_outside.specs.declared.whole.ReadFault.{ReadFault}
use Rattle.cov_outside.specs.declared.whole.ReadFault.TheVariants as read
use Rattle.session_book.specs.Meaning.{JobView}
use Rattle.job_text.specs.declared.jobs.JobFault.{JobFault}
use Rattle.job_text.specs.declared.jobs.JobFault.TheVariants as fault
use Rattle.job_input.specs.declared.form.Form.{Form}
use Rattle.job_text.specs.declared.grammar.Grammar.{Grammar}
use Rattle.job_text.specs.Meaning.{Present, IsWithin, LineView, lines_of, IsRefusal, Spells}
use Rattle.std.specs.Option.{option_and_then, option_or}
use Rattle.cov_base.specs.Meaning.{ImageView, name_at}
use Rattle.listing_reader.specs.Meaning.{listing_of, fault_of}
use Rattle.listing_reader.specs.declared.lines.Line.{Line}
use Rattle.listing_reader.specs.declared.lines.Line.TheVariants.{Text}
use Rattle.listing_reader.specs.declared.lines.Line.TheVariants as says
use Rattle.brk_table.specs.Meaning.{first_fault, is_code, IsTable, TableView, TablesView, all_places}
use Rattle.brk_table.specs.declared.faults.BuildFault.{BuildFault}
use Rattle.brk_table.specs.declared.faults.BuildFault.TheVariants as build
use Rattle.job_input.specs.declared.table_faults.TablesFault.{TablesFault}
use Rattle.job_input.specs.declared.table_faults.TablesFault.TheVariants as first
use Rattle.std.specs.Str.Parse.{digits_value}
use Rattle.job_text.specs.declared.grammar.Grammar.TheVariants.{Plain, Services}
use Rattle.job_input.specs.declared.words.Command.{Command}
use Rattle.job_input.specs.declared.words.Command.TheVariants.{Run, Exits, Early, Count, Marks, Trial, Table, Ends, Replay, Combine, Show, Prove, Verify, Unknown}

-- What came from a source: bytes, and the job that stands in their first lines; or why none did.

-- what a source had left, and its count of faults, before a call and after it
pub record SourceChange : Type 0 where
  pub left : Option (List ℕ)
  pub rest : Option (List ℕ)
  pub faults : ℕ
  pub later : ℕ

abbrev pub source_change : {S : Type 0} → (S → Option (List ℕ)) → (S → ℕ) → S → S → SourceChange
source_change left faults old new = record { left = left old; rest = left new; faults = faults old; later = faults new }

-- the most bytes of input
abbrev pub input_limit : ℕ
input_limit = 16777216

-- the source was read to its end, and these bytes came
pub record CameWhole (s : SourceChange) (bytes : List ℕ) : Type 0 where
  pub whole : IsWhole s.left s.rest bytes
  pub within : length bytes ≤ input_limit
  pub no_fault : s.later ≡ s.faults

-- why it wasn't; want of memory may come at any time
abbrev pub IsReadFault : SourceChange → ReadFault → Type 0
IsReadFault s read.Failed = Rose s.faults s.later
IsReadFault s read.TooLarge = HasMoreThan s.left input_limit × (s.later ≡ s.faults)
IsReadFault s read.NoMemory = Unit {0}

-- by this grammar, where nothing may stand behind the job, and where more may
abbrev pub to_end : Grammar → Form
to_end g = record { grammar = g; more = false }

abbrev pub to_go_on : Grammar → Form
to_go_on g = record { grammar = g; more = true }

-- The first lines of an input, so many, spell this job, which is within the limits. Others stand behind them only where
-- more than a job may.
pub record HasJob (form : Form) (all : List LineView) (j : JobView) : Type 0 where
  pub count : ℕ
  pub inside : count ≤ length all
  pub spells : Spells form.grammar Present (take count all) j
  pub within : IsWithin j
  pub over : form.more ≡ false → count ≡ length all

-- why bytes have no job; where they have one it is want of memory
pub record IsJobFault (form : Form) (bytes : List ℕ) (e : JobFault) : Type 0 where
  pub first : IsRefusal form.grammar (lines_of bytes) e
  pub jobless : (j : JobView) → HasJob form (lines_of bytes) j → e ≡ fault.NoMemory

-- The first fault of a job's listings.

-- where a line's instruction stands in its module
abbrev pub line_location : Line → ℕ
line_location Text = 0
line_location (says.Code loc code) = loc

-- where that of a mismatch stands
abbrev pub location_in : List Line → BuildFault → ℕ
location_in lines (build.Mismatch n listing module') = line_location (get_or lines (n - 1) Text)
location_in lines e = 0

-- of the lines of a module's listing
abbrev pub build_fault : List ℕ → List Line → BuildFault → TablesFault
build_fault name lines build.NoMemory = first.NoMemory
build_fault name lines e = first.Build name (location_in lines e) e

-- of a module's listing, with room for so many places: its own first fault, or that of what it says
abbrev pub listing_fault : ImageView → ℕ → List (List ℕ) → Option TablesFault
listing_fault image room texts = option_or (option_map (first.List image.name) (fault_of texts))
    (option_and_then (λ (lines : List Line). option_map (build_fault image.name lines) (first_fault image.bytes room [] lines))
    (listing_of texts))

abbrev pub code_line_count : Option (List Line) → ℕ
code_line_count None = 0
code_line_count (Some lines) = count_by is_code lines

-- of the listings of these modules
abbrev pub fault_from : ℕ → List ImageView → List (Option (List (List ℕ))) → Option TablesFault
fault_from room [] listings = None
fault_from room (image ∷ images) [] = None
fault_from room (image ∷ images) (None ∷ listings) = fault_from room images listings
fault_from room (image ∷ images) (Some texts ∷ listings) =
    option_or (listing_fault image room texts) (fault_from (room - code_line_count (listing_of texts)) images listings)

-- of a job's listings, module by module
abbrev pub job_fault : JobView → Option TablesFault
job_fault j = fault_from 65536 j.images j.listings

-- The tables of a job whose listings have no fault.

-- the table of module m: of what its listing says
pub record IsTableOf (m : ℕ) (image : ImageView) (texts : List (List ℕ)) (t : TableView) : Type 0 where
  pub lines : List Line
  pub listing : listing_of texts ≡ Some lines
  pub table : IsTable m image.base lines t

-- one table for each module from m on that has a listing
abbrev pub AreTablesFrom : ℕ → List ImageView → List (Option (List (List ℕ))) → List TableView → Type 0
AreTablesFrom m [] [] [] = Unit {0}
AreTablesFrom m (image ∷ images) (None ∷ listings) tables = AreTablesFrom (m + 1) images listings tables
AreTablesFrom m (image ∷ images) (Some texts ∷ listings) (t ∷ tables) =
    IsTableOf m image texts t × AreTablesFrom (m + 1) images listings tables
AreTablesFrom m images listings tables = ⊥

-- the listings have no fault, and these are their tables, with all places of these in order
pub record Match (j : JobView) (tables : TablesView) : Type 0 where
  pub faultless : job_fault j ≡ None
  pub tables_of : AreTablesFrom 0 j.images j.listings tables.tables
  pub numbered : tables.places ≡ all_places tables.tables

-- The command that words are.

-- `services` stands before no words of this command
abbrev pub plain_only : Grammar → Command → Command
plain_only Plain c = c
plain_only Services c = Unknown

-- the command of one word
abbrev pub command_alone : Grammar → List ℕ → Command
command_alone g w =
    if bytes_eq w (codes "run") then Run g
    else (if bytes_eq w (codes "table") then Table g
    else (if bytes_eq w (codes "count") then Count g
    else (if bytes_eq w (codes "ends") then Ends g
    else (if bytes_eq w (codes "replay") then plain_only g Replay
    else (if bytes_eq w (codes "combine") then plain_only g Combine
    else (if bytes_eq w (codes "exits") then plain_only g Exits
    else (if bytes_eq w (codes "early") then plain_only g Early
    else Unknown)))))))

-- the command of a word and a session's name, where the second word is a name
abbrev pub command_named : Grammar → List ℕ → Option (List ℕ) → Command
command_named g w None = Unknown
command_named g w (Some name) =
    if bytes_eq w (codes "marks") then Marks name g
    else (if bytes_eq w (codes "show") then Show name g
    else (if bytes_eq w (codes "prove") then plain_only g (Prove name)
    else (if bytes_eq w (codes "verify") then plain_only g (Verify name)
    else Unknown)))

-- the number that a word is the decimal of: it has no sign, and no leading zero but in 0 itself
abbrev pub number_word : List ℕ → Option ℕ
number_word w =
    if nat_lt (digits_value 10 w) 4294967296 && bytes_eq w (decimal (digits_value 10 w)) then Some (digits_value 10 w) else None

-- the command of a word, a generated job's number and how many tasks it has, 1 to 64
abbrev pub command_numbered : List ℕ → Option ℕ → Option ℕ → Command
command_numbered w (Some number) (Some tasks) =
    if bytes_eq w (codes "trial") && (nat_le 1 tasks && nat_le tasks 64) then Trial number tasks else Unknown
command_numbered w number tasks = Unknown

-- the command that words are by how many there are, where its job has this grammar
abbrev pub command_in : Grammar → List (List ℕ) → Command
command_in g (w ∷ []) = command_alone g w
command_in g (w ∷ n ∷ []) = command_named g w (name_at n)
command_in g (w ∷ n ∷ t ∷ []) = plain_only g (command_numbered w (number_word n) (number_word t))
command_in g words = Unknown

-- the command that the words are: `services` before those of a command asks for its job's services
abbrev pub command_of : List (List ℕ) → Command
command_of (w ∷ words) = if bytes_eq w (codes "services") then command_in Services words else command_in Plain (w ∷ words)
command_of [] = Unknown
