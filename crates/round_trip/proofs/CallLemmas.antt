-- Where texts of status 0 are from, the job that bytes have with more behind it, and a session's part of a report.
use Rattle.std.proofs.Common.{◌≡◌, ℕ, ◌+◌, ◌-◌, ◌<◌, ◌≤◌, zero, suc, Bool, true, false, if◌then◌else◌, Some, List, [], ◌∷◌, ◌++◌, codes, length, take, drop, refl, sym, ap, ◌∙◌, subst, arith, append_assoc, length-append}
use Rattle.std.proofs.Math.Seq.{drop-append_seam}
use Rattle.std.proofs.lemmas.List.{take-append-le}
use Rattle.std.specs.Str.{bytes_eq}
use Rattle.cov_base.specs.Meaning.{FactSet}
use Rattle.job_input.specs.Meaning.{SourceChange, CameWhole, HasJob, to_end, to_go_on}
use Rattle.job_input.proofs.Laws.{came_is}
use Rattle.job_text.specs.Lines.{IsClosed}
use Rattle.job_text.specs.Meaning.{LineView, lines_of, Spells, Present}
use Rattle.job_text.specs.declared.grammar.Grammar.{Grammar}
use Rattle.job_text.proofs.Laws.{closed_more}
use Rattle.job_input.specs.declared.words.Command.{Command}
use Rattle.job_input.specs.declared.words.Command.TheVariants.{Trial, Combine}
use Rattle.brk_table.specs.Meaning.{TablesView}
use Rattle.session_book.specs.Meaning.{JobView, SessionView, ResultView}
use Rattle.report_text.specs.Meaning.{text_of, lines_from, task_parts, session_part, report_of}
use Rattle.refusals.specs.Meaning.{refusal, read_refusal}
use Rattle.run_reports.specs.Meaning.{AreasChange}
use Rattle.job_answers.specs.Meaning.{ReadyView, number_from, session_number}
use Rattle.coverage_commands.specs.Meaning.{IsReady, IsCause, Usage, Unread, Came, Finished, NoMemoryToRun, NoMemoryToMake, Read, Made, Refused, OfFiles, OfJob, IsAnswerOf, IsRunText, way_of}
use Rattle.job_answers.proofs.Laws.{not_both, read_told, refused_told, status_is}
use Rattle.round_trip.specs.Laws.{HasText, IsPart}

-- ---- where a text of status 0 is from

-- a job came that is ready for the command, and the text is of its run or its answer of that
pub data IsOfJob (c : Command) (bytes text : List ℕ) (s : SourceChange) (a : AreasChange) : Type 0 where
  Ran : (r : ReadyView) → IsReady c bytes r → CameWhole s bytes → IsRunText c r a text → IsOfJob c bytes text s a
  Answered : (r : ReadyView) → IsReady c bytes r → IsAnswerOf c r 0 text → IsOfJob c bytes text s a

jobless : (c d : Command) → c ≡ d → (way_of d).reads_job ≡ false → (way_of c).reads_job ≡ true → ⊥
jobless c d same none reads = not_both (way_of c).reads_job reads (ap (λ (x : Command). (way_of x).reads_job) same ∙ none)

by_cause : (c : Command) (bytes text : List ℕ) (s : SourceChange) (a : AreasChange) → (way_of c).reads_job ≡ true → s.left ≡ Some bytes → IsCause c s a 0 text → IsOfJob c bytes text s a
by_cause c bytes text s a reads left (Usage u un z t same) = absurd cc
by_cause c bytes text s a reads left (Unread e r h t same) = absurd (read_told e (sym (status_is (refusal 0 text) (read_refusal e) t)))
by_cause c bytes text s a reads left (Came b came (Refused r is) sure same) = absurd (refused_told (way_of c).form (way_of c).asked b (refusal 0 text) is refl)
by_cause c bytes text s a reads left (Came b came (OfFiles e is) sure same) = absurd (jobless c Combine e refl reads)
by_cause c bytes text s a reads left (Came b came (OfJob r h is) sure same) = Answered r (subst (λ x. IsReady c x r) (sym (came_is s bytes b left came)) h) is
by_cause c bytes text s a reads left (Finished r (Made number tasks e un j m) z is) = absurd (jobless c (Trial number tasks) e refl reads)
by_cause c bytes text s a reads left (Finished r (Read b came h) z is) =
    let same : b ≡ bytes = sym (came_is s bytes b left came) in
    Ran r (subst (λ x. IsReady c x r) same h) (subst (λ x. CameWhole s x) same came) is
by_cause c bytes text s a reads left (NoMemoryToRun r comes m z t) = absurd cc
by_cause c bytes text s a reads left (NoMemoryToMake number tasks e un z t same) = absurd cc

pub of_job : (c : Command) (bytes text : List ℕ) (h : HasText c bytes text) → (way_of c).reads_job ≡ true → IsOfJob c bytes text h.source h.areas
of_job c bytes text h reads = by_cause c bytes text h.source h.areas reads h.left h.cause

-- ---- a job with more behind it

taken : (bytes rest : List ℕ) (n : ℕ) → IsClosed bytes → n ≡ length (lines_of bytes) → take n (lines_of (bytes ++ rest)) ≡ take n (lines_of bytes)
taken bytes rest n closed all =
    ap (λ (x : List LineView). take n x) (closed_more bytes rest closed) ∙ take-append-le n (lines_of bytes) (lines_of rest) (omega (arith, all))

-- of as many lines
pub job_behind : (g : Grammar) (bytes rest : List ℕ) (j : JobView) → IsClosed bytes → (h : HasJob (to_end g) (lines_of bytes) j) → (more : HasJob (to_go_on g) (lines_of (bytes ++ rest)) j) × (more.count ≡ h.count)
job_behind g bytes rest j closed h =
    let all : h.count ≡ length (lines_of bytes) = h.over refl in
    let long = ap (λ (x : List LineView). length x) (closed_more bytes rest closed) ∙ length-append (lines_of bytes) (lines_of rest) in (
      record {
        count = h.count;
        inside = omega (arith, all, long);
        spells = subst (λ (x : List LineView). Spells g Present x j) (sym (taken bytes rest h.count closed all)) h.spells;
        within = h.within;
        over = λ e. absurd cc;
      },
      refl,
    )

pub rest_behind : (bytes rest : List ℕ) (n : ℕ) → IsClosed bytes → n ≡ length (lines_of bytes) → lines_of rest ≡ drop n (lines_of (bytes ++ rest))
rest_behind bytes rest n closed all =
    sym (ap (λ (x : List LineView). drop n x) (closed_more bytes rest closed) ∙ (ap (λ k. drop k (lines_of bytes ++ lines_of rest)) all ∙ drop-append_seam (lines_of bytes) (lines_of rest)))

-- ---- the session of a name

number_range : (n s : ℕ) (ss : List SessionView) (name : List ℕ) → number_from n ss name ≡ Some s → (n ≤ s) × (s < n + length ss)
number_range n s [] name e = absurd cc
number_range n s (x ∷ ss) name e = by (bytes_eq x.name name) e (λ h. number_range (n + 1) s ss name h)
  where
    by : (q : Bool) → (if q then Some n else number_from (n + 1) ss name) ≡ Some s → (number_from (n + 1) ss name ≡ Some s → (n + 1 ≤ s) × (s < n + 1 + length ss)) → (n ≤ s) × (s < n + length (x ∷ ss))
    by true h later = let same : n ≡ s = cc in (omega (arith, same), omega (arith, same))
    by false h later = let more = later h in (omega (arith, more.0), omega (arith, more.1))

pub is_session : (j : JobView) (name : List ℕ) (s : ℕ) → session_number j name ≡ Some s → (0 < s) × (s ≤ length j.sessions)
is_session j name s e = let r = number_range 1 s j.sessions name e in (omega (arith, r.0), omega (arith, r.1))

-- ---- its part of a report

lines_parted : (f : ℕ → List (List ℕ)) (n some more : ℕ) → lines_from f n (some + suc more) ≡ lines_from f n some ++ (f (n + some) ++ lines_from f (n + some + 1) more)
lines_parted f n zero more =
    let none : n + 0 ≡ n = omega arith in
    let all : 0 + suc more ≡ suc more = omega arith in
    rw (none, all) refl
lines_parted f n (suc some) more =
    let one_more : suc some + suc more ≡ suc (some + suc more) = omega arith in
    let next : n + suc some ≡ n + 1 + some = omega arith in
    rw (one_more, next) (ap (λ rest. f n ++ rest) (lines_parted f (n + 1) some more) ∙ sym (append_assoc (f n) (lines_from f (n + 1) some) (f (n + 1 + some) ++ lines_from f (n + 1 + some + 1) more)))

pub is_part : (j : JobView) (tables : TablesView) (results : ℕ → ResultView) (sets : ℕ → ℕ → FactSet) (s : ℕ) (shown report : List ℕ) → (0 < s) × (s ≤ length j.sessions) →
    shown ≡ text_of (codes "COVERAGE SHOW" ∷ (session_part j tables sets s ++ (codes "END" ∷ []))) → report ≡ report_of j tables results sets → IsPart shown report
is_part j tables results sets s shown report own told is =
    let f : ℕ → List (List ℕ) = session_part j tables sets in
    let tasks : List (List ℕ) = task_parts j results in
    let front : List (List ℕ) = lines_from f 1 (s - 1) in
    let back : List (List ℕ) = lines_from f (s + 1) (length j.sessions - s) in
    let end : List (List ℕ) = codes "END" ∷ [] in
    let count : length j.sessions ≡ (s - 1) + suc (length j.sessions - s) = omega (arith, own.0, own.1) in
    let here : 1 + (s - 1) ≡ s = omega (arith, own.0) in
    let parted : lines_from f 1 (length j.sessions) ≡ front ++ (f s ++ back) =
    ap (lines_from f 1) count ∙ (lines_parted f 1 (s - 1) (length j.sessions - s) ∙ ap (λ k. front ++ (f k ++ lines_from f (k + 1) (length j.sessions - s))) here) in
    record {
      before = codes "COVERAGE REPORT" ∷ (tasks ++ front);
      part = f s;
      behind = back ++ end;
      is_shown = told;
      is_report = is ∙ ap (λ x. text_of (codes "COVERAGE REPORT" ∷ x)) (ap (λ x. tasks ++ (x ++ end)) parted ∙ grouped tasks front (f s) back end);
    }
  where
    grouped : (a b c d e : List (List ℕ)) → a ++ ((b ++ (c ++ d)) ++ e) ≡ (a ++ b) ++ (c ++ (d ++ e))
    grouped a b c d e = grind (arith, append_assoc)
