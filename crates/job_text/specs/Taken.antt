-- How far a job was read: the lines that were taken, and the bytes of the next.
use Rattle.std.specs.Prelude.{◌≡◌, ℕ, ◌+◌, ◌≤◌, Bool, true, false, nat_eq, Option, Some, None, List, [], ◌++◌, length, option_map}
use Rattle.std.specs.List.{list_any}
use Rattle.cov_base.specs.declared.constants.TheConstants.{INPUT_LIMIT}
use Rattle.job_text.specs.Meaning.{LineView, lines_of, Present, GoesOn}
use Rattle.job_text.specs.Lines.{span, IsClosed}
use Rattle.job_text.specs.Steps.{State, start, plain, is_done, step, run}
use Rattle.job_text.specs.Pieces.{IsTold, Feeds, used_of, used_count, is_end}
use Rattle.job_text.specs.declared.grammar.Grammar.{Grammar}
use Rattle.job_text.specs.declared.jobs.JobFault.{JobFault}
use Rattle.job_text.specs.declared.jobs.JobFault.TheVariants as fault
use Rattle.job_text.specs.declared.taken.Taken.{Taken}
use Rattle.job_text.specs.declared.pieces.Fed.{Fed}
use Rattle.job_text.specs.declared.pieces.Pieces.{Pieces}

-- the line was taken
pub record IsNext (a b : Taken) (l : LineView) : Type 0 where
  pub steps : step Present a.reader l ≡ Some (plain b.reader)
  pub grammar : b.grammar ≡ a.grammar
  pub lines : b.lines ≡ a.lines + 1
  pub bytes : b.bytes ≡ a.bytes + span l

-- the fault of line n, which makes this of the state
abbrev pub IsFaultOf : Option State → ℕ → JobFault → Type 0
IsFaultOf o n (fault.BadJob line) = (o ≡ None) × (line ≡ n)
IsFaultOf o n (fault.TooLarge what line) = (option_map (λ s. s.over) o ≡ Some (Some what)) × (line ≡ n)
IsFaultOf o n fault.NoMemory = Unit {0}

-- the fault of the line that comes next
abbrev pub IsFaultAt : Taken → LineView → JobFault → Type 0
IsFaultAt t l e = IsFaultOf (step Present t.reader l) (t.lines + 1) e

-- all lines of these bytes were taken
pub record HasRun (bytes : List ℕ) (t : Taken) : Type 0 where
  pub runs : run Present (start t.grammar) (lines_of bytes) ≡ Some (plain t.reader)
  pub goes_on : GoesOn t.grammar (lines_of bytes)
  pub count : t.lines ≡ length (lines_of bytes)
  pub size : t.bytes ≡ length bytes

abbrev pub has_lf : List ℕ → Bool
has_lf bytes = list_any (λ b. nat_eq b 10) bytes

-- the lines of these bytes that an LF ends were taken, and what follows them is kept; nothing follows the job
pub record HasTaken (bytes : List ℕ) (p : Pieces) : Type 0 where
  pub front : List ℕ
  pub whole : bytes ≡ front ++ p.cut.items
  pub closed : IsClosed front
  pub ran : HasRun front p.taken
  pub partial : has_lf p.cut.items ≡ false
  pub end : is_done p.taken.reader.part ≡ true → p.cut.items ≡ []

-- what is answered to a piece that no fault has, and what was taken then
pub record HasFed (p : Pieces) (piece : List ℕ) (q : Pieces) (f : Fed) : Type 0 where
  pub taken : (before : List ℕ) → HasTaken before p → HasTaken (before ++ used_of piece f) q
  pub fed : (before : List ℕ) → HasTaken before p → Feeds p.taken.grammar before piece f
  pub grammar : q.taken.grammar ≡ p.taken.grammar
  pub used : used_count piece f ≤ length piece
  pub ended : is_done q.taken.reader.part ≡ is_end f

abbrev pub size_of : Pieces → ℕ
size_of p = p.taken.bytes + length p.cut.items

-- How far a reader has come.
pub data Stage : Type 0 where
  Reading : Pieces → Stage
  -- the grammar of the job, and the fault that was told
  Failed : Grammar → JobFault → Stage

abbrev pub stage_of : Pieces → Option (Grammar × JobFault) → Stage
stage_of p None = Reading p
stage_of p (Some (g, e)) = Failed g e

-- A reader was fed these bytes, those behind the job left out.
abbrev pub IsFed : List ℕ → Stage → Type 0
IsFed bytes (Reading p) = HasTaken bytes p
IsFed bytes (Failed g e) = IsTold g bytes e

abbrev pub grammar_of : Stage → Grammar
grammar_of (Reading p) = p.taken.grammar
grammar_of (Failed g e) = g

-- the fault that it has told
abbrev pub told : Stage → Option JobFault
told (Reading p) = None
told (Failed g e) = Some e

-- it was fed a whole job, with the LF of ENDJOB's line
abbrev pub has_ended : Stage → Bool
has_ended (Reading p) = is_done p.taken.reader.part
has_ended (Failed g e) = false

-- how many bytes it was fed, where it has told no fault
abbrev pub fed_size : Stage → ℕ
fed_size (Reading p) = size_of p
fed_size (Failed g e) = 0

pub record WasFed (s : Stage) : Type 0 where
  pub bytes : List ℕ
  pub fed : IsFed bytes s
  pub small : fed_size s ≤ INPUT_LIMIT

-- this is so of the grammar and of the bytes that were fed
abbrev pub Finds : Pieces → Option (Grammar × JobFault) → (Grammar → List ℕ → Type 0) → Type 0
Finds p failed Is = (bytes : List ℕ) → IsFed bytes (stage_of p failed) → Is (grammar_of (stage_of p failed)) bytes
