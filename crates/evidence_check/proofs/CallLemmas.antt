-- What `verify` hands to the calls below it.
use Rattle.std.proofs.Common.{◌≡◌, ℕ, ◌<◌, List, length, drop, sym, ◌∙◌, ap, subst}
use Rattle.cov_base.specs.declared.facts.Fact.{Fact}
use Rattle.brk_table.specs.Meaning.{TablesView, all_places}
use Rattle.marks_file.specs.Meaning.{MarkedView, first_bad}
use Rattle.session_book.specs.Meaning.{JobView, session_of}
use Rattle.session_marks.specs.Filled.{AreThere}
use Rattle.session_marks.specs.FromFile.{IsOwn}
use Rattle.session_marks.proofs.Laws.{are_there}
use Rattle.evidence_check.specs.Meaning.{modules_claims, evidence_claims, evidence_fields, phase_first, session_first}
use Rattle.evidence_check.specs.Found.{found_at, AreFirsts}
use Rattle.evidence_check.specs.declared.firsts.Found.{Found}
use Rattle.evidence_check.proofs.CheckLemmas.{same_claims}

pub own_there : (j : JobView) (tables : TablesView) (s : ℕ) (file held : List MarkedView) (ns : List ℕ) → tables.places ≡ all_places tables.tables → IsOwn j tables s file → held ≡ file → ns ≡ (session_of j s).modules →
    AreThere tables held ns
own_there j tables s file held ns all own same of =
    let there : AreThere tables held (session_of j s).modules = subst (λ ms. AreThere tables ms (session_of j s).modules) (sym (same ∙ own.is)) (are_there j tables own.sets (session_of j s).modules all) in
    subst (λ ks. AreThere tables held ks) (sym of) there

-- the claims against what was found are the claims against the session's first visits
pub found_claims : (j : JobView) (tables : TablesView) (s phase : ℕ) (found held : List Found) (file ms : List MarkedView) (ns bs : List ℕ) → tables.places ≡ all_places tables.tables → IsOwn j tables s file → AreFirsts j tables.places phase found →
    held ≡ found → ms ≡ file → phase ≡ (session_of j s).phase → ns ≡ (session_of j s).modules → modules_claims tables (found_at held) 0 ms ns (drop 8 bs) ≡ evidence_claims j tables s file bs
found_claims j tables s phase found held file ms ns bs all own are same same_file in_phase of =
    let each : (n : ℕ) → n < length tables.places → (f : Fact) → found_at held n f ≡ session_first j tables.places s n f =
    λ n lt f. ap (λ x. found_at x n f) same ∙ (are.firsts n lt f ∙ ap (λ p. phase_first j tables.places p n f) in_phase) in
    same_claims tables (found_at held) (session_first j tables.places s) 0 ms ns (drop 8 bs) (own_there j tables s file ms ns all own same_file of) each
    ∙ (ap (λ x. modules_claims tables (session_first j tables.places s) 0 x ns (drop 8 bs)) same_file ∙ ap (λ ks. modules_claims tables (session_first j tables.places s) 0 file ks (drop 8 bs)) of)

-- the same fields by the same numbers
pub same_fields : (tasks others count more : ℕ) (bs : List ℕ) → tasks ≡ others → count ≡ more → first_bad (evidence_fields others more bs) ≡ first_bad (evidence_fields tasks count bs)
same_fields tasks others count more bs e k = ap (λ t. first_bad (evidence_fields t more bs)) (sym e) ∙ ap (λ n. first_bad (evidence_fields tasks n bs)) (sym k)
