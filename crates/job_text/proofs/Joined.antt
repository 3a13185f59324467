-- What was read of an input's first bytes is read of the whole.
use Rattle.std.proofs.Common.{◌≡◌, ℕ, ◌+◌, ◌≤◌, Result, Ok, Err, IfOk, IfErr, List, [], ◌++◌, length, take, drop, ap, subst, sym, ◌∙◌, arith, length-append, take-append-drop}
use Rattle.std.proofs.Math.Seq.{take-length, drop-append_seam}
use Rattle.std.proofs.lemmas.List.{take-append-le}
use Rattle.session_book.specs.Meaning.{JobView}
use Rattle.job_text.specs.Meaning.{Present, LineView, lines_of, IsWithin, IsRefusal, Spells}
use Rattle.job_text.specs.declared.grammar.Grammar.{Grammar}
use Rattle.job_text.specs.Lines.{IsClosed}
use Rattle.job_text.specs.Pieces.{Feeds, used_of}
use Rattle.job_text.specs.Refusals.{IsRead, IsOnly}
use Rattle.job_text.specs.declared.jobs.JobFault.{JobFault}
use Rattle.job_text.specs.declared.jobs.JobFault.TheVariants as fault
use Rattle.job_text.specs.declared.jobs.ReadJob.{ReadJob}
use Rattle.job_text.specs.declared.pieces.Fed.{Fed}
use Rattle.job_text.specs.declared.pieces.Fed.TheVariants as fed
use Rattle.job_text.proofs.EndedLines.{closed_more}
use Rattle.job_text.proofs.Spelled.{one_first}

-- more may stand behind a job whose last line has its LF
pub read_longer : {cards : Grammar} (bytes more : List ℕ) (r : ReadJob) → IsClosed bytes → IsRead cards bytes r → r.end ≡ length bytes → IsRead cards (bytes ++ more) r
read_longer bytes more r closed i end =
    let front : take r.end (bytes ++ more) ≡ bytes = rw end (take-append-le (length bytes) bytes more (omega arith) ∙ take-length bytes) in
    let back : drop r.end (bytes ++ more) ≡ more = rw end (drop-append_seam bytes more) in
    let same : take r.end bytes ≡ bytes = rw end (take-length bytes) in
    record {
      inside = omega (arith, end, length-append bytes more);
      parted = rw (front, back) (closed_more bytes more closed);
      count = rw front (rw same at i.count);
      spells = rw front (rw same at i.spells);
      within = i.within;
    }

pub only_longer : {cards : Grammar} (bytes more : List ℕ) (job : JobView) (res : Result ReadJob JobFault) → IsClosed bytes → Spells cards Present (lines_of bytes) job →
    ((n : ℕ) (j : JobView) → n ≤ length (lines_of bytes) → Spells cards Present (take n (lines_of bytes)) j → IsWithin j → IsOnly n j res) →
    (n : ℕ) (j : JobView) → n ≤ length (lines_of (bytes ++ more)) → Spells cards Present (take n (lines_of (bytes ++ more))) j → IsWithin j → IsOnly n j res
only_longer {cards} bytes more job res closed s only n j h p w =
    let ls : List LineView = lines_of (bytes ++ more) in
    let m : ℕ = length (lines_of bytes) in
    let parts : ls ≡ lines_of bytes ++ lines_of more = closed_more bytes more closed in
    let count : length ls ≡ m + length (lines_of more) = ap (λ (x : List LineView). length x) parts ∙ length-append (lines_of bytes) (lines_of more) in
    let front : take m ls ≡ take m (lines_of bytes) = ap (λ (x : List LineView). take m x) parts ∙ take-append-le m (lines_of bytes) (lines_of more) (omega arith) in
    let all : take m ls ≡ lines_of bytes = front ∙ take-length (lines_of bytes) in
    let one = one_first Present ls m n job j (omega (arith, count)) h (rw all s) p in
    only n j (omega (arith, one.0)) (subst (λ (k : ℕ). Spells cards Present (take k (lines_of bytes)) j) one.0 (rw front at (subst (λ (k : ℕ). Spells cards Present (take k ls) j) (sym one.0) p))) w

pub fault_longer : {cards : Grammar} (bytes more : List ℕ) (job : JobView) (res : Result ReadJob JobFault) → Spells cards Present (lines_of bytes) job → IsWithin job →
    ((n : ℕ) (j : JobView) → n ≤ length (lines_of bytes) → Spells cards Present (take n (lines_of bytes)) j → IsWithin j → IsOnly n j res) → IfErr res (IsRefusal cards (lines_of (bytes ++ more)))
fault_longer bytes more job (Ok r) s w only = tt
fault_longer bytes more job (Err x) s w only =
    let ls : List LineView = lines_of bytes in
    let none : x ≡ fault.NoMemory = only (length ls) job (omega arith) (rw (take-length ls) s) w in
    rw none tt

-- one piece that holds the whole input

pub read_of_piece : (cards : Grammar) (input : List ℕ) (f : Fed) (res : Result ReadJob JobFault) → Feeds cards [] input f → IfOk res (IsRead cards (used_of input f)) → IfOk res (λ r. r.end ≡ length (used_of input f)) → IfOk res (IsRead cards input)
read_of_piece cards input f (Err e) h i end = tt
read_of_piece cards input fed.More (Ok r) h i end = i
read_of_piece cards input (fed.Ended used) (Ok r) h i end =
    subst (λ (x : List ℕ). IsRead cards x r) (take-append-drop used input) (read_longer (take used input) (drop used input) r h.closed i end)

abbrev Only : Grammar → List ℕ → Result ReadJob JobFault → Type 0
Only cards bytes res = (n : ℕ) (j : JobView) → n ≤ length (lines_of bytes) → Spells cards Present (take n (lines_of bytes)) j → IsWithin j → IsOnly n j res

pub only_of_piece : {cards : Grammar} (input : List ℕ) (f : Fed) (res : Result ReadJob JobFault) → Feeds cards [] input f → ((n : ℕ) (j : JobView) → n ≤ length (lines_of (used_of input f)) → Spells cards Present (take n (lines_of (used_of input f))) j → IsWithin j → IsOnly n j res) →
    (n : ℕ) (j : JobView) → n ≤ length (lines_of input) → Spells cards Present (take n (lines_of input)) j → IsWithin j → IsOnly n j res
only_of_piece {cards} input fed.More res h only = only
only_of_piece {cards} input (fed.Ended used) res h only =
    subst (λ (x : List ℕ). Only cards x res) (take-append-drop used input) (only_longer (take used input) (drop used input) h.job res h.closed h.spells only)

pub fault_of_piece : {cards : Grammar} (input : List ℕ) (f : Fed) (res : Result ReadJob JobFault) → Feeds cards [] input f → ((n : ℕ) (j : JobView) → n ≤ length (lines_of (used_of input f)) → Spells cards Present (take n (lines_of (used_of input f))) j → IsWithin j → IsOnly n j res) →
    IfErr res (IsRefusal cards (lines_of (used_of input f))) → IfErr res (IsRefusal cards (lines_of input))
fault_of_piece {cards} input f (Ok r) h only e = tt
fault_of_piece {cards} input fed.More (Err x) h only e = e
fault_of_piece {cards} input (fed.Ended used) (Err x) h only e =
    subst (λ (y : List ℕ). IsRefusal cards (lines_of y) x) (take-append-drop used input) (fault_longer (take used input) (drop used input) h.job (Err x) h.spells h.within only)
