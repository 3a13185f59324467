-- What the program answers of marks files, cause by cause.
use Rattle.std.proofs.Common.{◌≡◌, ℕ, ◌<◌, ◌≤◌, true, List, length, refl, sym, ◌∙◌, ap, subst, arith}
use Rattle.std.proofs.lemmas.List.{take_all}
use Rattle.marks_file.specs.Meaning.{MarksView, keeps_rules, file_bytes, HasFile, IsCombined}
use Rattle.marks_file.specs.declared.version.Version.TheVariants.{Second}
use Rattle.marks_file.specs.Combine.{difference_of}
use Rattle.marks_file.specs.Files.{IsCombineFault}
use Rattle.marks_file.specs.declared.files.CombineFault.{CombineFault}
use Rattle.marks_file.specs.declared.files.CombineFault.TheVariants as fault
use Rattle.job_answers.specs.Meaning.{ReadyView, BeginsWith, IsUnited, United, BadFile, OtherFile, IsNoFile, Past, IsShown, Fileless, OtherShown}
use Rattle.refusals.specs.Meaning.{IsWritten, SinkChange, RefusalView, refusal, no_memory_line, bad_marks_line, other_table_line}
use Rattle.refusals.specs.Told.{IsTold, Told}
use Rattle.refusals.specs.Told as without
use Rattle.job_answers.specs.Files.{combine_refusal, IsShowRefusal, Bad, Wanting, NoFile, Other}

-- files that were united, and files that weren't
pub united : (bytes : List ℕ) (marks : MarksView) (k : SinkChange) (answer : ℕ) → IsCombined bytes marks → IsWritten 0 (file_bytes Second marks) k answer → IsTold (IsUnited bytes) k answer
united bytes marks k answer combined told = Told 0 (file_bytes Second marks) (United marks combined refl refl) told

pub ununited : (bytes : List ℕ) (e : CombineFault) (k : SinkChange) (answer : ℕ) → IsCombineFault bytes e → IsWritten (combine_refusal e).status (combine_refusal e).line k answer → IsTold (IsUnited bytes) k answer
ununited bytes (fault.BadMarks offset) k answer bad told = Told 10 (bad_marks_line offset) (BadFile offset bad refl refl) told
ununited bytes (fault.Other e) k answer other told = Told 11 (other_table_line (difference_of e)) (OtherFile (difference_of e) other refl refl) told
ununited bytes fault.NoMemory k answer none told = without.Wanting told

-- more bytes stand behind a file
pub past : (rest : List ℕ) (marks : MarksView) (offset : ℕ) → keeps_rules marks ≡ true → HasFile 0 rest marks offset → offset < length rest → IsNoFile rest offset
past rest marks offset rules file more = Past marks.modules (record { marks = marks; rules = rules; file = file; are = refl }) more

-- none do
pub alone : (rest : List ℕ) (marks : MarksView) (offset : ℕ) → keeps_rules marks ≡ true → HasFile 0 rest marks offset → length rest ≤ offset → BeginsWith rest marks.modules (length rest)
alone rest marks offset rules file less =
    let text : List ℕ = file_bytes file.version marks in
    let whole : rest ≡ text = sym (sym file.starts ∙ take_all (length text) rest (omega (arith, less, file.ends))) in
    let end : offset ≡ length rest = omega (arith, file.ends, ap length whole) in
    record { marks = marks; rules = rules; file = subst (λ (n : ℕ). HasFile 0 rest marks n) end file; are = refl }

-- ---- what stands behind a job

retold : (r q : RefusalView) (k : SinkChange) (answer : ℕ) → r ≡ q → IsWritten r.status r.line k answer → IsWritten q.status q.line k answer
retold r q k answer is told = subst (λ (v : RefusalView). IsWritten v.status v.line k answer) is told

-- no file that is the session's
pub unshown : (o : ReadyView) (r : RefusalView) (k : SinkChange) (answer : ℕ) → IsShowRefusal o.job o.tables o.number o.rest r → IsWritten r.status r.line k answer → IsTold (IsShown o) k answer
unshown o r k answer (NoFile (Bad offset bad is)) told = Told 10 (bad_marks_line offset) (Fileless offset bad refl refl) (retold r (refusal 10 (bad_marks_line offset)) k answer is told)
unshown o r k answer (NoFile (Wanting is)) told = without.Wanting (retold r (refusal 7 no_memory_line) k answer is told)
unshown o r k answer (Other modules d file differs is) told =
    Told 11 (other_table_line d) (OtherShown modules d file differs refl refl) (retold r (refusal 11 (other_table_line d)) k answer is told)
