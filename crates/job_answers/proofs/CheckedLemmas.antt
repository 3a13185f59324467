-- What the program answers of evidence, cause by cause.
use Rattle.std.proofs.Common.{◌≡◌, ◌≢◌, ℕ, suc, true, Option, Some, None, List, length, drop, refl, sym, ◌∙◌, ap, subst}
use Rattle.cov_base.specs.declared.facts.Fact.{Fact}
use Rattle.brk_table.specs.Meaning.{TablesView}
use Rattle.evidence_check.specs.Meaning.{facts_of_modules, evidence_claims, first_refuted, evidence_fields, IsVerified}
use Rattle.evidence_check.specs.Verified.{Passes, IsVerifyFault}
use Rattle.evidence_check.specs.declared.verifying.VerifyFault.{VerifyFault}
use Rattle.evidence_check.specs.declared.verifying.VerifyFault.TheVariants as fault
use Rattle.marks_file.specs.Meaning.{MarkedView, MarksView, keeps_rules, HasFile, rows, first_bad, Difference, first_difference}
use Rattle.session_book.specs.Meaning.{JobView}
use Rattle.session_marks.specs.FromFile.{IsOwn}
use Rattle.session_marks.specs.Meaning.{session_rows}
use Rattle.session_marks.proofs.Laws.{own_same}
use Rattle.refusals.specs.Meaning.{IsWritten, SinkChange, RefusalView, refusal, bad_marks_line, other_table_line, bad_evidence_line, refuted_line, verified_line}
use Rattle.job_answers.specs.Meaning.{judged, judged_by, NoStart, OfFile, HasVerified}
use Rattle.job_answers.specs.Calls.{IsChecked}
use Rattle.refusals.specs.Told.{IsTold, Told}
use Rattle.refusals.specs.Told as without
use Rattle.job_answers.specs.Checked.{verify_refusal, IsStartRefusal, BadStart, NoRoom, IsCheckRefusal, IsPassed, Unverified, Wanting}

-- ---- the verdict on a file and evidence

pub judged_verified : (name : List ℕ) (j : JobView) (tables : TablesView) (s : ℕ) (ms : List MarkedView) (bs : List ℕ) → IsOwn j tables s ms → Passes j tables s ms bs → refusal 0 (verified_line name (facts_of_modules ms)) ≡ judged name j tables s ms bs
judged_verified name j tables s ms bs own p =
    let bad : Option ℕ = first_bad (evidence_fields (length j.tasks) (facts_of_modules ms) bs) in
    let refuted : Option (ℕ × Fact) = first_refuted (evidence_claims j tables s ms bs) in
    sym (ap (λ x. judged_by name x bad refuted (facts_of_modules ms)) (own_same j tables s ms own) ∙ (ap (λ x. judged_by name None x refuted (facts_of_modules ms)) p.fields ∙ ap (λ x. judged_by name None None x (facts_of_modules ms)) p.claims))

judged_other : (name : List ℕ) (j : JobView) (tables : TablesView) (s : ℕ) (ms : List MarkedView) (bs : List ℕ) (d : Difference) → first_difference 0 (session_rows j tables s) (rows ms) ≡ Some d → refusal 11 (other_table_line d) ≡ judged name j tables s ms bs
judged_other name j tables s ms bs d e =
    let bad : Option ℕ = first_bad (evidence_fields (length j.tasks) (facts_of_modules ms) bs) in
    let refuted : Option (ℕ × Fact) = first_refuted (evidence_claims j tables s ms bs) in
    sym (ap (λ x. judged_by name x bad refuted (facts_of_modules ms)) e)

judged_bad : (name : List ℕ) (j : JobView) (tables : TablesView) (s : ℕ) (ms : List MarkedView) (bs : List ℕ) (o : ℕ) → IsOwn j tables s ms → IsVerifyFault j tables s ms bs (fault.BadEvidence o) → refusal 15 (bad_evidence_line o) ≡ judged name j tables s ms bs
judged_bad name j tables s ms bs o own e =
    let bad : Option ℕ = first_bad (evidence_fields (length j.tasks) (facts_of_modules ms) bs) in
    let refuted : Option (ℕ × Fact) = first_refuted (evidence_claims j tables s ms bs) in
    sym (ap (λ x. judged_by name x bad refuted (facts_of_modules ms)) (own_same j tables s ms own) ∙ ap (λ x. judged_by name None x refuted (facts_of_modules ms)) e)

judged_refuted : (name : List ℕ) (j : JobView) (tables : TablesView) (s : ℕ) (ms : List MarkedView) (bs : List ℕ) (row : ℕ) (f : Fact) → IsOwn j tables s ms → IsVerifyFault j tables s ms bs (fault.Refuted row f) → refusal 16 (refuted_line row f) ≡ judged name j tables s ms bs
judged_refuted name j tables s ms bs row f own e =
    let bad : Option ℕ = first_bad (evidence_fields (length j.tasks) (facts_of_modules ms) bs) in
    let refuted : Option (ℕ × Fact) = first_refuted (evidence_claims j tables s ms bs) in
    sym (ap (λ x. judged_by name x bad refuted (facts_of_modules ms)) (own_same j tables s ms own) ∙ (ap (λ x. judged_by name None x refuted (facts_of_modules ms)) e.0 ∙ ap (λ x. judged_by name None None x (facts_of_modules ms)) e.1))

pub own_of : (j : JobView) (tables : TablesView) (s : ℕ) (ms : List MarkedView) (bs : List ℕ) → IsVerified j tables s ms bs → IsOwn j tables s ms
own_of j tables s ms bs v = record { sets = _; is = v.sets }

not_zero : (r : RefusalView) (n : ℕ) (line : List ℕ) → r ≡ refusal (suc n) line → r.status ≢ 0
not_zero r n line e z = let x : suc n ≡ 0 = sym (ap (λ (v : RefusalView). v.status) e) ∙ z in absurd cc

-- why there is no file, a file of another table, and one whose sets or evidence are not the session's
pub no_start : (j : JobView) (tables : TablesView) (s : ℕ) (rest : List ℕ) (r : RefusalView) → IsStartRefusal rest r → IsCheckRefusal j tables s rest r
no_start j tables s rest r (BadStart o bad is) = Unverified (not_zero r 9 (bad_marks_line o) is) (λ name. NoStart o bad is)
no_start j tables s rest r (NoRoom is) = Wanting is

pub other_start : (j : JobView) (tables : TablesView) (s : ℕ) (rest : List ℕ) (r : RefusalView) (marks : MarksView) (end : ℕ) (d : Difference) → keeps_rules marks ≡ true → HasFile 0 rest marks end → first_difference 0 (session_rows j tables s) (rows marks.modules) ≡ Some d → r ≡ refusal 11 (other_table_line d) →
    IsCheckRefusal j tables s rest r
other_start j tables s rest r marks end d rules file differs is =
    Unverified (not_zero r 10 (other_table_line d) is) (λ name. OfFile marks.modules end (record { marks = marks; rules = rules; file = file; are = refl }) (is ∙ judged_other name j tables s marks.modules (drop end rest) d differs))

pub not_verified : (j : JobView) (tables : TablesView) (s : ℕ) (rest : List ℕ) (r : RefusalView) (marks : MarksView) (end : ℕ) (e : VerifyFault) → keeps_rules marks ≡ true → HasFile 0 rest marks end → IsOwn j tables s marks.modules → IsVerifyFault j tables s marks.modules (drop end rest) e → r ≡ verify_refusal e →
    IsCheckRefusal j tables s rest r
not_verified j tables s rest r marks end (fault.BadEvidence o) rules file own bad is =
    Unverified (not_zero r 14 (bad_evidence_line o) is) (λ name. OfFile marks.modules end (record { marks = marks; rules = rules; file = file; are = refl }) (is ∙ judged_bad name j tables s marks.modules (drop end rest) o own bad))
not_verified j tables s rest r marks end (fault.Refuted row f) rules file own bad is =
    Unverified (not_zero r 15 (refuted_line row f) is) (λ name. OfFile marks.modules end (record { marks = marks; rules = rules; file = file; are = refl }) (is ∙ judged_refuted name j tables s marks.modules (drop end rest) row f own bad))
not_verified j tables s rest r marks end fault.NoMemory rules file own bad is = Wanting is

-- as it is told
pub checked : (name : List ℕ) (j : JobView) (tables : TablesView) (s : ℕ) (rest : List ℕ) (facts : ℕ) (k : SinkChange) (answer : ℕ) → IsPassed j tables s rest facts → HasVerified j tables s rest → IsWritten 0 (verified_line name facts) k answer →
    IsTold (IsChecked name j tables s rest) k answer
checked name j tables s rest facts k answer passed has told = Told 0 (verified_line name facts) (record { verdict = passed name; verified = λ z. has }) told

pub unchecked : (name : List ℕ) (j : JobView) (tables : TablesView) (s : ℕ) (rest : List ℕ) (r : RefusalView) (k : SinkChange) (answer : ℕ) → IsCheckRefusal j tables s rest r → IsWritten r.status r.line k answer → IsTold (IsChecked name j tables s rest) k answer
unchecked name j tables s rest r k answer (Unverified never is) told = Told r.status r.line (record { verdict = is name; verified = λ z. absurd (never z) }) told
unchecked name j tables s rest r k answer (Wanting is) told = without.Wanting (subst (λ (v : RefusalView). IsWritten v.status v.line k answer) is told)
