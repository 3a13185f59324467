-- Of the same job and bytes an answer has one status: each but its own is contradicted by what they are.
use Rattle.std.proofs.Common.{◌≡◌, ℕ, ◌+◌, Option, Some, None, List, [], ◌∷◌, ◌++◌, length, drop, refl, sym, ◌∙◌, ap, subst, arith}
use Rattle.cov_base.specs.Meaning.{no_facts, FactSet}
use Rattle.cov_base.specs.declared.facts.Fact.{Fact}
use Rattle.brk_table.specs.Meaning.{TablesView, first_place}
use Rattle.evidence_check.specs.Meaning.{facts_of_modules, places_claims, modules_claims, past_places, evidence_claims, first_refuted, evidence_fields, session_first}
use Rattle.evidence_check.specs.declared.firsts.First.{First}
use Rattle.job_text.specs.Meaning.{lines_of}
use Rattle.marks_file.specs.Meaning.{MarkedView, MarksView, rows, first_bad, file_fields, Difference, first_difference}
use Rattle.marks_file.proofs.Laws.{marks_found, one_end, file_found, one_answer}
use Rattle.module_area.specs.declared.places.Place.{Place}
use Rattle.schedule_play.specs.Meaning.{Play, Bad, Whole, play_of}
use Rattle.session_book.specs.Meaning.{JobView, session_of}
use Rattle.session_marks.specs.Meaning.{session_marks, session_rows}
use Rattle.session_marks.proofs.Laws.{own_same}
use Rattle.job_answers.specs.Meaning.{ReadyView, BeginsWith, IsNoFile, BadField, Past, IsUnited, United, BadFile, OtherFile, IsShown, Shown, Fileless, OtherShown, judged, judged_by, IsVerdict, NoStart, OfFile, IsPlayed}
use Rattle.refusals.specs.Meaning.{RefusalView, refusal, bad_marks_line}
use Rattle.job_answers.proofs.ReadyLemmas.{IsSame}

-- ---- files alone

pub one_united : (b : List ℕ) (m n : ℕ) (t u : List ℕ) → IsUnited b m t → IsUnited b n u → m ≡ n
one_united b m n t u (United x is z told) (United y also w tells) = z ∙ sym w
one_united b m n t u (United x is z told) (BadFile o also w tells) = absurd ((one_answer b).combined_or_bad x o is also)
one_united b m n t u (United x is z told) (OtherFile d also w tells) = absurd ((one_answer b).combined_or_other x d is also)
one_united b m n t u (BadFile o is z told) (United y also w tells) = absurd ((one_answer b).combined_or_bad y o also is)
one_united b m n t u (BadFile o is z told) (BadFile p also w tells) = z ∙ sym w
one_united b m n t u (BadFile o is z told) (OtherFile d also w tells) = absurd ((one_answer b).bad_or_other o d is also)
one_united b m n t u (OtherFile d is z told) (United y also w tells) = absurd ((one_answer b).combined_or_other y d also is)
one_united b m n t u (OtherFile d is z told) (BadFile p also w tells) = absurd ((one_answer b).bad_or_other p d also is)
one_united b m n t u (OtherFile d is z told) (OtherFile e also w tells) = z ∙ sym w

-- ---- a file behind a job

-- bytes begin with one file
same_modules : (rest : List ℕ) (m n : List MarkedView) (end other : ℕ) → BeginsWith rest m end → BeginsWith rest n other → m ≡ n
same_modules rest m n end other f g =
    sym f.are ∙ (ap (λ (x : MarksView). x.modules) (sym (marks_found 0 rest f.marks end f.rules f.file) ∙ marks_found 0 rest g.marks other g.rules g.file) ∙ g.are)

same_end : (rest : List ℕ) (m n : List MarkedView) (end other : ℕ) → BeginsWith rest m end → BeginsWith rest n other → other ≡ end
same_end rest m n end other f g =
    one_end 0 rest f.marks g.marks end other f.rules (sym (marks_found 0 rest g.marks other g.rules g.file) ∙ marks_found 0 rest f.marks end f.rules f.file) g.file f.file

-- or with none
file_or_bad : (rest : List ℕ) (m : List MarkedView) (end o : ℕ) → BeginsWith rest m end → first_bad (file_fields 0 rest) ≡ Some o → ⊥
file_or_bad rest m end o f bad =
    let clash : None ≡ Some o = sym (file_found f.file.version 0 f.marks rest f.rules f.file.starts).good ∙ bad in
    absurd cc

file_or_none : (rest : List ℕ) (m : List MarkedView) (o : ℕ) → BeginsWith rest m (length rest) → IsNoFile rest o → ⊥
file_or_none rest m o f (BadField bad) = file_or_bad rest m (length rest) o f bad
file_or_none rest m o f (Past n g more) = let e : o ≡ length rest = same_end rest m n (length rest) o f g in absurd (omega (arith, e, more))

-- what `show` finds there
data IsShowing (r : ReadyView) (status : ℕ) : Type 0 where
  Told : (sets : ℕ → FactSet) → BeginsWith r.rest (session_marks r.job r.tables sets r.number) (length r.rest) → status ≡ 0 → IsShowing r status
  NoFile : (o : ℕ) → IsNoFile r.rest o → status ≡ 10 → IsShowing r status
  OfOther : (m : List MarkedView) (d : Difference) → BeginsWith r.rest m (length r.rest) → first_difference 0 (session_rows r.job r.tables r.number) (rows m) ≡ Some d → status ≡ 11 → IsShowing r status

-- of the same job, number and bytes it is the same
showing : (r o : ReadyView) (n : ℕ) (u : List ℕ) → o.rest ≡ r.rest → ((sets : ℕ → FactSet) → session_marks o.job o.tables sets o.number ≡ session_marks r.job r.tables sets r.number) → IsShown o n u → IsShowing r n
showing r o n u rests marks (Shown sets f z told) =
    Told sets (subst (λ (m : List MarkedView). BeginsWith r.rest m (length r.rest)) (marks sets) (subst (λ (b : List ℕ). BeginsWith b (session_marks o.job o.tables sets o.number) (length b)) rests f)) z
showing r o n u rests marks (Fileless x bad z told) = NoFile x (subst (λ (b : List ℕ). IsNoFile b x) rests bad) z
showing r o n u rests marks (OtherShown m d f differs z told) =
    OfOther m d (subst (λ (b : List ℕ). BeginsWith b m (length b)) rests f)
    (subst (λ (t : List (List ℕ)). first_difference 0 t (rows m) ≡ Some d) (ap rows (marks (λ x. no_facts))) differs) z

no_difference : (r : ReadyView) (sets : ℕ → FactSet) (m : List MarkedView) (d : Difference) → BeginsWith r.rest (session_marks r.job r.tables sets r.number) (length r.rest) → BeginsWith r.rest m (length r.rest) → first_difference 0 (session_rows r.job r.tables r.number) (rows m) ≡ Some d → ⊥
no_difference r sets m d f g differs =
    let same : m ≡ session_marks r.job r.tables sets r.number = same_modules r.rest m (session_marks r.job r.tables sets r.number) (length r.rest) (length r.rest) g f in
    let clash : None ≡ Some d = sym (own_same r.job r.tables r.number m (record { sets = sets; is = same })) ∙ differs in
    absurd cc

one_showing : (r : ReadyView) (m n : ℕ) → IsShowing r m → IsShowing r n → m ≡ n
one_showing r m n (Told t f z) (Told u g w) = z ∙ sym w
one_showing r m n (Told t f z) (NoFile o bad w) = absurd (file_or_none r.rest (session_marks r.job r.tables t r.number) o f bad)
one_showing r m n (Told t f z) (OfOther x d g differs w) = absurd (no_difference r t x d f g differs)
one_showing r m n (NoFile o bad z) (Told u g w) = absurd (file_or_none r.rest (session_marks r.job r.tables u r.number) o g bad)
one_showing r m n (NoFile o bad z) (NoFile p worse w) = z ∙ sym w
one_showing r m n (NoFile o bad z) (OfOther x d g differs w) = absurd (file_or_none r.rest x o g bad)
one_showing r m n (OfOther x d f differs z) (Told u g w) = absurd (no_difference r u x d g f differs)
one_showing r m n (OfOther x d f differs z) (NoFile p bad w) = absurd (file_or_none r.rest x p f bad)
one_showing r m n (OfOther x d f differs z) (OfOther y e g also w) = z ∙ sym w

-- what stands there unread, as `show` finds it of its own
own_showing : (r : ReadyView) (m : ℕ) (t : List ℕ) → IsShown r m t → IsShowing r m
own_showing r m t h = showing r r m t refl (λ sets. refl) h

pub one_shown : (r o : ReadyView) (m n : ℕ) (t u : List ℕ) → o.rest ≡ r.rest → ((sets : ℕ → FactSet) → session_marks o.job o.tables sets o.number ≡ session_marks r.job r.tables sets r.number) → IsShown r m t → IsShown o n u → m ≡ n
one_shown r o m n t u rests marks p q = one_showing r m n (own_showing r m t p) (showing r o n u rests marks q)

-- ---- a file and evidence behind a job

same_claims : (a b : TablesView) (firsts : ℕ → Fact → Option First) (row : ℕ) (ms : List MarkedView) (ns bs : List ℕ) → a.tables ≡ b.tables → modules_claims a firsts row ms ns bs ≡ modules_claims b firsts row ms ns bs
same_claims a b firsts row [] ns bs h = refl
same_claims a b firsts row (m ∷ ms) [] bs h = refl
same_claims a b firsts row (m ∷ ms) (n ∷ ns) bs h =
    ap (λ i. places_claims firsts (row + 1) i m.places bs ++ modules_claims a firsts (row + 1 + length m.places) ms ns (past_places m.places bs)) (ap (λ ts. first_place ts n) h)
    ∙ ap (λ t. places_claims firsts (row + 1) (first_place b.tables n) m.places bs ++ t) (same_claims a b firsts (row + 1 + length m.places) ms ns (past_places m.places bs) h)

same_refuted : (j : JobView) (a b : TablesView) (s : ℕ) (ms : List MarkedView) (bs : List ℕ) → a.places ≡ b.places → a.tables ≡ b.tables → evidence_claims j a s ms bs ≡ evidence_claims j b s ms bs
same_refuted j a b s ms bs places tables =
    ap (λ ps. modules_claims a (session_first j ps s) 0 ms (session_of j s).modules (drop 8 bs)) places ∙ same_claims a b (session_first j b.places s) 0 ms (session_of j s).modules (drop 8 bs) tables

same_judged : (name : List ℕ) (r o : ReadyView) (ms : List MarkedView) (end : ℕ) → IsSame r o → o.rest ≡ r.rest → o.number ≡ r.number → session_rows o.job o.tables o.number ≡ session_rows r.job r.tables r.number →
    judged name o.job o.tables o.number ms (drop end o.rest) ≡ judged name r.job r.tables r.number ms (drop end r.rest)
same_judged name r o ms end same rests numbers table =
    let bytes : List ℕ = drop end r.rest in
    let bad : Option ℕ = first_bad (evidence_fields (length r.job.tasks) (facts_of_modules ms) bytes) in
    let facts : ℕ = facts_of_modules ms in
    let refuted : Option (ℕ × Fact) = first_refuted (evidence_claims r.job o.tables r.number ms bytes) in
    let rows_same : session_rows r.job o.tables r.number ≡ session_rows r.job r.tables r.number =
    ap (λ x. session_rows x o.tables r.number) (sym same.jobs) ∙ (ap (λ n. session_rows o.job o.tables n) (sym numbers) ∙ table) in
    ap (λ b. judged name o.job o.tables o.number ms (drop end b)) rests
    ∙ (ap (λ x. judged name x o.tables o.number ms bytes) same.jobs
    ∙ (ap (λ n. judged name r.job o.tables n ms bytes) numbers
    ∙ (ap (λ t. judged_by name (first_difference 0 t (rows ms)) bad refuted facts) rows_same
    ∙ ap (λ c. judged_by name (first_difference 0 (session_rows r.job r.tables r.number) (rows ms)) bad (first_refuted c) facts) (same_refuted r.job o.tables r.tables r.number ms bytes same.places same.tables))))

pub one_verdict : (name : List ℕ) (r o : ReadyView) (v w : RefusalView) → IsSame r o → o.rest ≡ r.rest → o.number ≡ r.number → session_rows o.job o.tables o.number ≡ session_rows r.job r.tables r.number →
    IsVerdict name r.job r.tables r.number r.rest v → IsVerdict name o.job o.tables o.number o.rest w → v ≡ w
one_verdict name r o v w same rests numbers table (NoStart x bad is) (NoStart y worse also) =
    let e : Some x ≡ Some y = sym bad ∙ subst (λ b. first_bad (file_fields 0 b) ≡ Some y) rests worse in
    let offsets : x ≡ y = cc in
    is ∙ (ap (λ n. refusal 10 (bad_marks_line n)) offsets ∙ sym also)
one_verdict name r o v w same rests numbers table (NoStart x bad is) (OfFile n other g also) =
    absurd (file_or_bad r.rest n other x (subst (λ b. BeginsWith b n other) rests g) bad)
one_verdict name r o v w same rests numbers table (OfFile m end f is) (NoStart y worse also) =
    absurd (file_or_bad r.rest m end y f (subst (λ b. first_bad (file_fields 0 b) ≡ Some y) rests worse))
one_verdict name r o v w same rests numbers table (OfFile m end f is) (OfFile n other g also) =
    let here : BeginsWith r.rest n other = subst (λ b. BeginsWith b n other) rests g in
    let modules : m ≡ n = same_modules r.rest m n end other f here in
    let ends : other ≡ end = same_end r.rest m n end other f here in
    is
    ∙ (ap (λ (x : List MarkedView). judged name r.job r.tables r.number x (drop end r.rest)) modules
    ∙ (ap (λ (x : ℕ). judged name r.job r.tables r.number n (drop x r.rest)) (sym ends) ∙ (sym (same_judged name r o n other same rests numbers table) ∙ sym also)))

-- ---- a schedule behind a job

abbrev status_of : Play → ℕ
status_of (Bad n) = 9
status_of (Whole core played) = 0

played_status : (r : ReadyView) (p : Play) (n : ℕ) (t : List ℕ) → IsPlayed r p n t → n ≡ status_of p
played_status r (Bad line) n t h = h.0
played_status r (Whole core played) n t h = h.0

same_play : (r o : ReadyView) → IsSame r o → o.rest ≡ r.rest → play_of o.job o.tables.places o.lines (lines_of o.rest) ≡ play_of r.job r.tables.places r.lines (lines_of r.rest)
same_play r o same rests =
    ap (λ (i : JobView). play_of i o.tables.places o.lines (lines_of o.rest)) same.jobs
    ∙ (ap (λ (ps : List Place). play_of r.job ps o.lines (lines_of o.rest)) same.places
    ∙ (ap (λ (n : ℕ). play_of r.job r.tables.places n (lines_of o.rest)) same.lines ∙ ap (λ (b : List ℕ). play_of r.job r.tables.places r.lines (lines_of b)) rests))

pub one_played : (r o : ReadyView) (m n : ℕ) (t u : List ℕ) → IsSame r o → o.rest ≡ r.rest → IsPlayed r (play_of r.job r.tables.places r.lines (lines_of r.rest)) m t → IsPlayed o (play_of o.job o.tables.places o.lines (lines_of o.rest)) n u → m ≡ n
one_played r o m n t u same rests p q = played_status r _ m t p ∙ (ap status_of (sym (same_play r o same rests)) ∙ sym (played_status o _ n u q))
