-- Marks and evidence pass exactly where they are the session's.
use Rattle.std.proofs.Common.{◌≡◌, ℕ, ◌+◌, Bool, true, if◌then◌else◌, Option, Some, None, List, [], ◌++◌, length, take, drop, refl, sym, ◌∙◌, ap, subst, arith, append-nil}
use Rattle.std.proofs.lemmas.Bool.{and_parts}
use Rattle.std.specs.List.{flat_map}
use Rattle.std.specs.Str.{bytes_eq}
use Rattle.std.proofs.lemmas.List.{take-append-drop, nil_from_length}
use Rattle.std.proofs.lemmas.Slice.Eq.{bytes_eq-Decides}
use Rattle.brk_table.specs.Meaning.{TablesView}
use Rattle.marks_file.specs.Meaning.{MarkedView, field, first_bad}
use Rattle.marks_file.proofs.Laws.{whole}
use Rattle.session_book.specs.Meaning.{JobView, session_of}
use Rattle.session_book.specs.JobView.{IsJob}
use Rattle.session_marks.specs.FromFile.{IsOwn}
use Rattle.session_marks.specs.Meaning.{session_marks}
use Rattle.evidence_check.specs.Meaning.{facts_of_modules, modules_claims, first_refuted, evidence_magic, module_entries, entries_fields, evidence_fields, session_first, session_facts, IsVerified}
use Rattle.evidence_check.specs.Verified.{Passes}
use Rattle.evidence_check.proofs.ClaimLemmas.{AreOf, went_on, past_modules, modules_agreed, modules_skipped, modules_back}
use Rattle.evidence_check.proofs.FactLemmas.{first_is_shown}
use Rattle.evidence_check.proofs.FieldLemmas.{AreEntries, entries_read, entries_none}
use Rattle.evidence_check.proofs.VisitLemmas.{session_is_first}

chosen : (g : Bool) (at : ℕ) (x : Option ℕ) → g ≡ true → (if g then x else Some at) ≡ x
chosen g at x e = rw e refl

-- what has good fields begins with the magic, behind which the entries stand
fields_read : (tasks count : ℕ) (bs : List ℕ) → first_bad (evidence_fields tasks count bs) ≡ None → (bs ≡ evidence_magic ++ drop 8 bs) × AreEntries tasks count (drop 8 bs)
fields_read tasks count bs h =
    let both = went_on (field 0 bs 0 8 (bytes_eq (take 8 bs) evidence_magic)).good (first_bad (entries_fields tasks 8 count (drop 8 bs))) 0 h in
    let front : take 8 bs ≡ evidence_magic = (bytes_eq-Decides (take 8 bs) evidence_magic).0 (and_parts _ (bytes_eq (take 8 bs) evidence_magic) both.0).1 in
    (sym (take-append-drop 8 bs) ∙ ap (λ t. t ++ drop 8 bs) front, entries_read tasks 8 count (drop 8 bs) both.1)

fields_none : (tasks count : ℕ) (rest : List ℕ) → AreEntries tasks count rest → first_bad (evidence_fields tasks count (evidence_magic ++ rest)) ≡ None
fields_none tasks count rest h =
    let bs : List ℕ = evidence_magic ++ rest in
    chosen (field 0 bs 0 8 (bytes_eq (take 8 bs) evidence_magic)).good 0 (first_bad (entries_fields tasks 8 count rest)) (whole 8 (length bs) (bytes_eq (take 8 bs) evidence_magic) (omega arith) ((bytes_eq-Decides (take 8 bs) evidence_magic).1 refl))
    ∙ entries_none tasks 8 count rest h

are_of : (j : JobView) (tables : TablesView) (s : ℕ) → AreOf (session_first j tables.places s) (session_facts j tables.places s)
are_of j tables s = λ n f. first_is_shown j tables.places s n f

-- what passes is the session's
pub passed_is : (j : JobView) (tables : TablesView) (s : ℕ) (file : List MarkedView) (bs : List ℕ) → IsOwn j tables s file → Passes j tables s file bs → IsVerified j tables s file bs
passed_is j tables s file bs own p =
    let ns : List ℕ = (session_of j s).modules in
    let firsts = session_first j tables.places s in
    let facts = session_facts j tables.places s in
    let mine : List MarkedView = session_marks j tables own.sets s in
    let claims : first_refuted (modules_claims tables firsts 0 mine ns (drop 8 bs)) ≡ None = subst (λ ms. first_refuted (modules_claims tables firsts 0 ms ns (drop 8 bs)) ≡ None) own.is p.claims in
    let agreed = modules_agreed j tables own.sets facts firsts 0 ns (drop 8 bs) (are_of j tables s) claims in
    let read = fields_read (length j.tasks) (facts_of_modules file) bs p.fields in
    let count : facts_of_modules file ≡ facts_of_modules mine + 0 = omega (arith, ap facts_of_modules own.is) in
    let entries : AreEntries (length j.tasks) (facts_of_modules mine + 0) (drop 8 bs) = subst (λ i. AreEntries (length j.tasks) i (drop 8 bs)) count read.1 in
    let none : past_modules mine (drop 8 bs) ≡ [] = nil_from_length (past_modules mine (drop 8 bs)) (modules_skipped (length j.tasks) 0 mine (drop 8 bs) entries) in
    let all : drop 8 bs ≡ flat_map (module_entries tables firsts) ns = agreed.1 ∙ (ap (λ t. flat_map (module_entries tables firsts) ns ++ t) none ∙ append-nil (flat_map (module_entries tables firsts) ns)) in
    record { sets = own.is ∙ agreed.0; evidence = read.0 ∙ ap (λ t. evidence_magic ++ t) all }

-- what is the session's passes
pub verified_passes : (j : JobView) (tables : TablesView) (s : ℕ) (file : List MarkedView) (bs : List ℕ) → IsJob j → IsVerified j tables s file bs → Passes j tables s file bs
verified_passes j tables s file bs is v =
    let tasks : ℕ = length j.tasks in
    let few = is.tasks in
    let ns : List ℕ = (session_of j s).modules in
    let firsts = session_first j tables.places s in
    let facts = session_facts j tables.places s in
    let mine : List MarkedView = session_marks j tables facts s in
    let entries : List ℕ = flat_map (module_entries tables firsts) ns in
    let back = modules_back tasks j tables facts firsts 0 ns [] (omega arith) (are_of j tables s) (λ n f w e. session_is_first j tables.places s n f w is e) in
    let all : entries ++ [] ≡ entries = append-nil entries in
    let count : facts_of_modules mine + 0 ≡ facts_of_modules mine = omega arith in
    let there : AreEntries tasks (facts_of_modules mine) entries = subst (λ t. AreEntries tasks (facts_of_modules mine) t) all (subst (λ i. AreEntries tasks i (entries ++ [])) count (back.entries 0 refl)) in
    let claims : first_refuted (modules_claims tables firsts 0 mine ns entries) ≡ None = subst (λ t. first_refuted (modules_claims tables firsts 0 mine ns t) ≡ None) all back.holds in
    record {
      fields = ap (λ ms. first_bad (evidence_fields tasks (facts_of_modules ms) bs)) v.sets ∙ (ap (λ t. first_bad (evidence_fields tasks (facts_of_modules mine) t)) v.evidence ∙ fields_none tasks (facts_of_modules mine) entries there);
      claims = ap (λ ms. first_refuted (modules_claims tables firsts 0 ms ns (drop 8 bs))) v.sets ∙ (ap (λ t. first_refuted (modules_claims tables firsts 0 mine ns (drop 8 t))) v.evidence ∙ claims);
    }
