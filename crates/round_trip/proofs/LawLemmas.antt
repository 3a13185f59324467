-- The texts of one job fit together.
use Rattle.std.proofs.Common.{◌≡◌, ℕ, ◌<◌, ◌≤◌, zero, suc, Bool, true, false, not, is_some, ◌||◌, nat_eq, Option, Some, None, List, [], ◌∷◌, ◌++◌, codes, length, get_or, take, All, refl, sym, ap, ◌∙◌, subst, arith, append-nil}
use Rattle.std.specs.List.{list_any}
use Rattle.std.specs.Io.{StartsWith}
use Rattle.std.proofs.Math.Seq.{take-length, drop-append_seam}
use Rattle.std.proofs.lemmas.List.{take-append-le}
use Rattle.std.proofs.lemmas.Bool.{eq-eqb}
use Rattle.cov_base.specs.Meaning.{FactSet}
use Rattle.module_area.specs.Meaning.{place_of}
use Rattle.session_book.specs.Meaning.{SessionView, ResultView, session_of, is_whole, observes}
use Rattle.session_marks.specs.Meaning.{session_marks}
use Rattle.session_marks.specs.FromFile.{AreSameAt}
use Rattle.session_marks.proofs.Laws.{sets_one}
use Rattle.marks_file.specs.Meaning.{MarkedView, MarksView, keeps_rules, file_bytes}
use Rattle.marks_file.specs.declared.version.Version.TheVariants.{Second}
use Rattle.marks_file.proofs.Laws.{one_modules}
use Rattle.job_run.specs.Meaning.{set_by}
use Rattle.job_input.specs.Meaning.{Match, CameWhole, input_limit}
use Rattle.job_text.specs.Lines.{IsClosed}
use Rattle.job_text.specs.declared.grammar.Grammar.{Grammar}
use Rattle.job_text.specs.declared.grammar.Grammar.TheVariants.{Plain}
use Rattle.report_text.specs.Meaning.{text_of, session_part, report_of, module_lines}
use Rattle.task_run.specs.Meaning.{Course, solo}
use Rattle.task_services.specs.Meaning.{course_of}
use Rattle.job_input.specs.declared.words.Command.TheVariants.{Run, Marks, Show, Prove, Verify}
use Rattle.job_answers.specs.declared.asked.Wanted.{Wanted}
use Rattle.run_reports.specs.Meaning.{AreasChange, IsMarksText, Reports, named_file}
use Rattle.job_answers.specs.Meaning.{ReadyView, BeginsWith, IsShown, Shown, Fileless, OtherShown, session_number, show_text}
use Rattle.coverage_commands.specs.Meaning.{IsReady, Finished, Read, OfJob, HasStatus, ToAnswer, HoldsTrue}
use Rattle.job_answers.proofs.Laws.{any_job, is_free, one_marks, IsSame}
use Rattle.coverage_commands.proofs.Laws.{one_ready, one_rest, one_number}
use Rattle.brk_table.proofs.Laws.{range_most}
use Rattle.round_trip.specs.Laws.{HasText, HasWhole, IsMarked, IsPart, HasReport}
use Rattle.round_trip.proofs.TableLemmas.{place_module}
use Rattle.round_trip.proofs.SetLemmas.{same_marks, same_part}
use Rattle.round_trip.proofs.PlainLemmas.{runs_alone}
use Rattle.round_trip.proofs.CallLemmas.{IsOfJob, Ran, Answered, of_job, job_behind, rest_behind, is_session, is_part}

-- ---- the texts of each command

pub record IsOfMarks (g : Grammar) (name bytes marks : List ℕ) (h : HasText (Marks name g) bytes marks) : Type 0 where
  pub ready : ReadyView
  pub is : IsReady (Marks name g) bytes ready
  pub came : CameWhole h.source bytes
  pub text_is : IsMarksText (course_of ready.job.services) ready.job ready.tables ready.number h.areas marks

of_marks : (g : Grammar) (name bytes marks : List ℕ) (h : HasText (Marks name g) bytes marks) → IsOfMarks g name bytes marks h
of_marks g name bytes marks h = by (of_job (Marks name g) bytes marks h refl)
  where
    by : IsOfJob (Marks name g) bytes marks h.source h.areas → IsOfMarks g name bytes marks h
    by (Ran r is came text) = record { ready = r; is = is; came = came; text_is = text }
    by (Answered r is text) = absurd text

-- ---- the sets of a whole session

any_here : (m : ℕ) (ms : List ℕ) (i d : ℕ) → i < length ms → get_or ms i d ≡ m → list_any (nat_eq m) ms ≡ true
any_here m [] i d l e = absurd (omega (arith, l))
any_here m (x ∷ ms) zero d l e = rw (eq-eqb m x (sym e)) refl
any_here m (x ∷ ms) (suc i) d l e = let more = any_here m ms i d (omega (arith, l)) e in rw more (or_true (nat_eq m x))
  where
    or_true : (b : Bool) → (b || true) ≡ true
    or_true true = refl
    or_true false = refl

observed : (x : SessionView) (m : ℕ) → list_any (nat_eq m) x.modules ≡ true → observes x.phase m x ≡ true
observed x m e = rw (eq-eqb x.phase x.phase refl, e) refl

abbrev facts : Course → ReadyView → ℕ → ℕ → FactSet
facts course r s p = set_by course r.job r.tables.places s p

-- what its executions show
whole_sets : (course : Course) (o : ReadyView) (areas : AreasChange) (form : (ℕ → ResultView) → (ℕ → ℕ → FactSet) → List ℕ) (text : List ℕ) (s : ℕ) (r : Reports course o.job o.tables areas form text) → Match o.job o.tables →
    (0 < s) × (s ≤ length o.job.sessions) → (session_of o.job s).by ≡ None → All (AreSameAt o.tables (r.sets s) (facts course o s)) (session_of o.job s).modules
whole_sets course o areas form text s r match' own free i d l n low high =
    let x : SessionView = session_of o.job s in
    let m : ℕ = get_or x.modules i d in
    let whole : is_whole x ≡ true = ap (λ (b : Option ℕ). not (is_some b)) free in
    let seen : observes x.phase (place_of o.tables.places n).module x ≡ true =
    subst (λ k. observes x.phase k x ≡ true) (sym (place_module o.job o.tables m n match' low high)) (observed x m (any_here m x.modules i d l refl)) in
    r.are_sets s n own.0 own.1 (omega (arith, high, range_most o.tables.tables m, ap length match'.numbered)) whole seen

-- ---- a file at the front of bytes

front : (xs ys rest : List ℕ) → rest ≡ xs ++ ys → take (length xs) rest ≡ xs
front xs ys rest e = ap (λ (z : List ℕ). take (length xs) z) e ∙ (take-append-le (length xs) xs ys (omega arith) ∙ take-length xs)

begins : (file : MarksView) (marks more rest : List ℕ) → marks ≡ file_bytes Second file → keeps_rules file ≡ true → rest ≡ marks ++ more → BeginsWith rest file.modules (length marks)
begins file marks more rest is rules e = record {
  marks = file;
  rules = rules;
  file = record { version = Second; tells = tt; starts = front (file_bytes Second file) more rest (e ∙ ap (λ (z : List ℕ). z ++ more) is); ends = omega (arith, ap length is) };
  are = refl;
}

-- a file that begins as the marks do has the marks' modules
same_file : (file : MarksView) (marks rest : List ℕ) (modules : List MarkedView) (end : ℕ) → marks ≡ file_bytes Second file → keeps_rules file ≡ true → rest ≡ marks → BeginsWith rest modules end → file.modules ≡ modules
same_file file marks rest modules end is rules e b =
    let starts : StartsWith (file_bytes Second file) (file_bytes b.file.version b.marks) = subst (λ (z : List ℕ). StartsWith z (file_bytes b.file.version b.marks)) (e ∙ is) b.file.starts in
    one_modules Second b.file.version file b.marks rules b.rules starts ∙ b.are

-- ---- one job

abbrev by_name : List ℕ → Bool → Wanted
by_name name whole = record { name = name; whole = whole }

verify_ready : (name bytes rest : List ℕ) (o : ReadyView) → IsClosed bytes → IsReady (Prove name) bytes o → IsReady (Verify name) (bytes ++ rest) (record o { rest = rest })
verify_ready name bytes rest o closed g =
    let more = job_behind Plain bytes rest o.job closed g.has in
    record {
      reads = refl;
      has = more.0;
      asked = g.asked;
      named = g.named;
      match = g.match;
      lines = g.lines ∙ sym more.1;
      behind = λ e. rest_behind bytes rest o.lines closed (g.lines ∙ g.has.over refl);
    }

show_ready : (g : Grammar) (name bytes rest : List ℕ) (r : ReadyView) → IsClosed bytes → IsReady (Marks name g) bytes r → IsReady (Show name g) (bytes ++ rest) (record r { rest = rest })
show_ready g name bytes rest r closed h =
    let more = job_behind g bytes rest r.job closed h.has in
    record {
      reads = refl;
      has = more.0;
      asked = h.asked;
      named = h.named;
      match = h.match;
      lines = h.lines ∙ sym more.1;
      behind = λ e. rest_behind bytes rest r.lines closed (h.lines ∙ h.has.over refl);
    }

-- as it is for `run`, and as that of `prove` is for `marks`
run_ready : (g : Grammar) (name bytes : List ℕ) (r : ReadyView) → IsReady (Marks name g) bytes r → IsReady (Run g) bytes r
run_ready g name bytes r h = record { reads = refl; has = h.has; asked = any_job r.job; named = λ wanted e. absurd cc; match = h.match; lines = h.lines; behind = λ e. absurd cc }

marks_ready : (name bytes : List ℕ) (o : ReadyView) → IsReady (Prove name) bytes o → IsReady (Marks name Plain) bytes o
marks_ready name bytes o h = record {
  reads = refl;
  has = h.has;
  asked = record { named = h.asked.named; free = refl };
  named = λ wanted e. (let same : name ≡ wanted.name = cc in subst (λ x. session_number o.job x ≡ Some o.number) same (h.named (by_name name true) refl));
  match = h.match;
  lines = h.lines;
  behind = λ e. absurd cc;
}

-- by the same job and tables a session has the same facts and the same part of a report
one_facts : (r o : ReadyView) → IsSame r o → facts (course_of o.job.services) o ≡ facts (course_of r.job.services) r
one_facts r o same = rw (same.jobs, same.places) refl

one_part : (r o : ReadyView) (sets : ℕ → ℕ → FactSet) (s : ℕ) → IsSame r o → session_part o.job o.tables sets s ≡ session_part r.job r.tables sets s
unfolding module_lines
one_part r o sets s same = rw (same.jobs, same.tables, same.places) refl

-- ---- marks and evidence

pub verifies : (name job marks text : List ℕ) → IsMarked Plain name job marks → HasText (Prove name) job text → length (job ++ (marks ++ text)) ≤ input_limit → HoldsTrue name (job ++ (marks ++ text))
verifies name job marks text m p few = by (of_job (Prove name) job text p refl)
  where
    by : IsOfJob (Prove name) job text p.source p.areas → HoldsTrue name (job ++ (marks ++ text))
    by (Ran o is came never) = absurd never
    by (Answered o is text_is) =
        let w = of_marks Plain name job marks m.file in
        let r : ReadyView = w.ready in
        let file : MarksView = named_file r.job r.tables r.number w.text_is.reports.sets in
        let same = one_ready (Marks name Plain) job o r (marks_ready name job o is) w.is in
        let numbers : r.number ≡ o.number = one_number (Marks name Plain) job o r (by_name name false) refl (marks_ready name job o is) w.is in
        let named : session_number r.job name ≡ Some r.number = w.is.named (by_name name false) refl in
        let free : (session_of r.job r.number).by ≡ None = rw (same.jobs, numbers) (is_free name o.job o.number is.asked (is.named (by_name name true) refl)) in
        let agree = whole_sets (course_of r.job.services) r m.file.areas _ marks r.number w.text_is.reports w.is.match (is_session r.job name r.number named) free in
        let alone : facts (course_of o.job.services) o ≡ facts solo o = ap (λ course. facts course o) (runs_alone _ o.job is.has.spells) in
        let own : file.modules ≡ session_marks o.job o.tables (facts solo o o.number) o.number =
        same_marks r.job r.tables (w.text_is.reports.sets r.number) (facts (course_of r.job.services) r r.number) r.number agree
        ∙ (one_marks o r (facts (course_of r.job.services) r r.number) same numbers
        ∙ ap (λ sets. session_marks o.job o.tables sets o.number) (ap (λ n. facts (course_of r.job.services) r n) numbers ∙ ap (λ sets. sets o.number) (one_facts o r same ∙ alone))) in
        record {
          ready = record o { rest = marks ++ text };
          few = few;
          is = verify_ready name job (marks ++ text) o m.closed is;
          has = record {
            modules = file.modules;
            end = length marks;
            file = begins file marks text (marks ++ text) w.text_is.reports.is_text w.text_is.rules refl;
            verified = record { sets = own; evidence = drop-append_seam marks text ∙ text_is.1 };
          };
        }

-- ---- what is shown

own_file : (g : Grammar) (name job marks : List ℕ) (m : IsMarked g name job marks) (w : IsOfMarks g name job marks m.file) → BeginsWith marks (named_file w.ready.job w.ready.tables w.ready.number w.text_is.reports.sets).modules (length marks)
own_file g name job marks m w = begins (named_file w.ready.job w.ready.tables w.ready.number w.text_is.reports.sets) marks [] marks w.text_is.reports.is_text w.text_is.rules (sym (append-nil marks))

pub shows : (g : Grammar) (name job marks : List ℕ) → IsMarked g name job marks → length (job ++ marks) ≤ input_limit → HasStatus (Show name g) (job ++ marks) 0
shows g name job marks m few =
    let w = of_marks g name job marks m.file in
    let r : ReadyView = w.ready in
    let sets : ℕ → FactSet = w.text_is.reports.sets r.number in
    ToAnswer (show_text r.job r.tables sets r.number) few (OfJob (record r { rest = marks }) (show_ready g name job marks r m.closed w.is) (Shown sets (own_file g name job marks m w) refl refl))

abbrev shown_by : ReadyView → (ℕ → ℕ → FactSet) → List ℕ
shown_by r sets = text_of (codes "COVERAGE SHOW" ∷ (session_part r.job r.tables sets r.number ++ (codes "END" ∷ [])))

-- the text is that of the marks' sets
shown_is : (g : Grammar) (name job marks text : List ℕ) (m : IsMarked g name job marks) (w : IsOfMarks g name job marks m.file) (o : ReadyView) → IsReady (Show name g) (job ++ marks) o → IsShown o 0 text → text ≡ shown_by w.ready w.text_is.reports.sets
shown_is g name job marks text m w o h (Fileless offset never z t) = absurd cc
shown_is g name job marks text m w o h (OtherShown modules d file differs z t) = absurd cc
shown_is g name job marks text m w o h (Shown sets file z t) =
    let r : ReadyView = w.ready in
    let own : ReadyView = record r { rest = marks } in
    let is = show_ready g name job marks r m.closed w.is in
    let same = one_ready (Show name g) (job ++ marks) own o is h in
    let numbers : o.number ≡ r.number = one_number (Show name g) (job ++ marks) own o (by_name name false) refl is h in
    let mine : ℕ → ℕ → FactSet = w.text_is.reports.sets in
    let modules : (named_file r.job r.tables r.number mine).modules ≡ session_marks r.job r.tables sets r.number =
    same_file (named_file r.job r.tables r.number mine) marks o.rest (session_marks o.job o.tables sets o.number) (length o.rest) w.text_is.reports.is_text w.text_is.rules (one_rest (Show name g) (job ++ marks) own o refl is h) file
    ∙ one_marks own o sets same numbers in
    let part : session_part o.job o.tables (λ n. sets) o.number ≡ session_part r.job r.tables mine r.number =
    one_part own o (λ n. sets) o.number same ∙ (ap (session_part r.job r.tables (λ n. sets)) numbers
    ∙ same_part r.job r.tables (λ n. sets) mine r.number w.is.match (sets_one r.job r.tables sets (mine r.number) r.number (named_file r.job r.tables r.number mine).modules modules refl)) in
    t ∙ ap (λ x. text_of (codes "COVERAGE SHOW" ∷ (x ++ (codes "END" ∷ [])))) part

told_is : (g : Grammar) (name job marks text : List ℕ) (m : IsMarked g name job marks) (w : IsOfMarks g name job marks m.file) → HasText (Show name g) (job ++ marks) text → text ≡ shown_by w.ready w.text_is.reports.sets
told_is g name job marks text m w t = by (of_job (Show name g) (job ++ marks) text t refl)
  where
    by : IsOfJob (Show name g) (job ++ marks) text t.source t.areas → text ≡ shown_by w.ready w.text_is.reports.sets
    by (Ran o is came never) = absurd never
    by (Answered o is shown) = shown_is g name job marks text m w o is shown

pub shows_run : (g : Grammar) (name job marks shown : List ℕ) (m : IsMarked g name job marks) → HasText (Show name g) (job ++ marks) shown → HasReport g m.file.source m.file.areas shown
shows_run g name job marks shown m t =
    let w = of_marks g name job marks m.file in
    let r : ReadyView = w.ready in
    let x = w.text_is.reports in
    let report : List ℕ = report_of r.job r.tables x.results x.sets in
    let of : Reports (course_of r.job.services) r.job r.tables m.file.areas (report_of r.job r.tables) report = record {
      ran = x.ran;
      results = x.results;
      sets = x.sets;
      are_results = x.are_results;
      are_sets = x.are_sets;
      are_bounded = x.are_bounded;
      are_final = x.are_final;
      is_text = refl;
    } in
    record {
      report = report;
      cause = Finished r (Read job w.came (run_ready g name job r w.is)) refl of;
      part = is_part r.job r.tables x.results x.sets r.number shown report (is_session r.job name r.number (w.is.named (by_name name false) refl)) (told_is g name job marks shown m w t) refl;
    }

-- a whole session's part tells what its executions show
whole_part : (o : ReadyView) (areas : AreasChange) (form : (ℕ → ResultView) → (ℕ → ℕ → FactSet) → List ℕ) (text : List ℕ) (s : ℕ) (r : Reports (course_of o.job.services) o.job o.tables areas form text) → Match o.job o.tables →
    (0 < s) × (s ≤ length o.job.sessions) → (session_of o.job s).by ≡ None → session_part o.job o.tables r.sets s ≡ session_part o.job o.tables (facts (course_of o.job.services) o) s
whole_part o areas form text s r match' own free = same_part o.job o.tables r.sets (facts (course_of o.job.services) o) s match' (whole_sets (course_of o.job.services) o areas form text s r match' own free)

pub shows_each : (g : Grammar) (name job marks shown report : List ℕ) → HasWhole g name job → IsMarked g name job marks → HasText (Show name g) (job ++ marks) shown → HasText (Run g) job report → IsPart shown report
shows_each g name job marks shown report h m t u = by (of_job (Run g) job report u refl)
  where
    by : IsOfJob (Run g) job report u.source u.areas → IsPart shown report
    by (Answered v is never) = absurd never
    by (Ran v is came y) =
        let w = of_marks g name job marks m.file in
        let r : ReadyView = w.ready in
        let x = w.text_is.reports in
        let s : ℕ = r.number in
        let proved = one_ready (Marks name g) job h.ready r h.is w.is in
        let numbers : s ≡ h.ready.number = one_number (Marks name g) job h.ready r (by_name name false) refl h.is w.is in
        let free : (session_of r.job s).by ≡ None = rw (proved.jobs, numbers) h.whole in
        let own = is_session r.job name s (w.is.named (by_name name false) refl) in
        let same = one_ready (Run g) job r v (run_ready g name job r w.is) is in
        let here : (0 < s) × (s ≤ length v.job.sessions) = rw same.jobs own in
        let there : (session_of v.job s).by ≡ None = rw same.jobs free in
        let part : session_part r.job r.tables x.sets s ≡ session_part v.job v.tables y.sets s =
        whole_part r m.file.areas _ marks s x w.is.match own free
        ∙ (sym (one_part r v (facts (course_of r.job.services) r) s same) ∙ (ap (λ sets. session_part v.job v.tables sets s) (sym (one_facts r v same))
        ∙ sym (whole_part v u.areas (report_of v.job v.tables) report s y is.match here there))) in
        is_part v.job v.tables y.results y.sets s shown report here (told_is g name job marks shown m w t ∙ ap (λ z. text_of (codes "COVERAGE SHOW" ∷ (z ++ (codes "END" ∷ [])))) part) y.is_text
