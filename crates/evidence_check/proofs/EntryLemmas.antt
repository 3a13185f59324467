-- The entries of places one after another.
use Rattle.std.proofs.Common.{◌≡◌, ℕ, zero, suc, ◌+◌, ◌-◌, ◌<◌, ◌≤◌, Option, List, [], ◌∷◌, ◌++◌, length, refl, ◌∙◌, ap, arith}
use Rattle.std.specs.List.{flat_map}
use Rattle.cov_base.specs.declared.facts.Fact.{Fact}
use Rattle.cov_base.specs.declared.facts.Fact.TheVariants.{Ran, Went, Stayed}
use Rattle.brk_table.specs.Meaning.{TablesView, all_places, first_place, place_count}
use Rattle.brk_table.proofs.Laws.{range_most}
use Rattle.session_book.specs.Meaning.{JobView, session_of}
use Rattle.evidence_check.specs.Meaning.{evidence_magic, place_entries, places_entries, module_entries, evidence, phase_first, session_first}
use Rattle.evidence_check.specs.Found.{found_at, AreFirsts}
use Rattle.evidence_check.specs.declared.firsts.First.{First}
use Rattle.evidence_check.specs.declared.firsts.Found.{Found}

pub places_next : (firsts : ℕ → Fact → Option First) (n past : ℕ) → n < past → places_entries firsts n (past - n) ≡ place_entries (firsts n) ++ places_entries firsts (n + 1) (past - (n + 1))
places_next firsts n past lt = let left : past - n ≡ suc (past - (n + 1)) = omega arith in rw left refl

same_place : (f g : Fact → Option First) → ((a : Fact) → f a ≡ g a) → place_entries f ≡ place_entries g
same_place f g same = rw (same Ran, same Went, same Stayed) refl

same_places : (firsts others : ℕ → Fact → Option First) (n count most : ℕ) → n + count ≤ most → ((m : ℕ) → m < most → (f : Fact) → firsts m f ≡ others m f) →
    places_entries firsts n count ≡ places_entries others n count
same_places firsts others n zero most le same = refl
same_places firsts others n (suc count) most le same =
    rw (same_place (firsts n) (others n) (same n (omega arith)), same_places firsts others (n + 1) count most (omega arith) same) refl

pub same_modules : (tables : TablesView) (firsts others : ℕ → Fact → Option First) (modules : List ℕ) → tables.places ≡ all_places tables.tables →
    ((n : ℕ) → n < length tables.places → (f : Fact) → firsts n f ≡ others n f) → flat_map (module_entries tables firsts) modules ≡ flat_map (module_entries tables others) modules
same_modules tables firsts others [] all same = refl
same_modules tables firsts others (m ∷ ms) all same =
    let most : first_place tables.tables m + place_count tables.tables m ≤ length tables.places = rw all (range_most tables.tables m) in
    let here : module_entries tables firsts m ≡ module_entries tables others m = same_places firsts others (first_place tables.tables m) (place_count tables.tables m) (length tables.places) most same in
    rw (here, same_modules tables firsts others ms all same) refl

-- the entries of a module, by the range of its places' numbers
pub module_read : (tables : TablesView) (firsts : ℕ → Fact → Option First) (m first past : ℕ) → first ≡ first_place tables.tables m → past ≡ first_place tables.tables m + place_count tables.tables m →
    places_entries firsts first (past - first) ≡ module_entries tables firsts m
module_read tables firsts m first past from to =
    let count : past - first ≡ place_count tables.tables m = omega arith in
    rw (count, from) refl

-- what was found gives the evidence
pub found_evidence : (j : JobView) (tables : TablesView) (s phase : ℕ) (found held : List Found) (modules : List ℕ) → tables.places ≡ all_places tables.tables → AreFirsts j tables.places phase found →
    held ≡ found → phase ≡ (session_of j s).phase → modules ≡ (session_of j s).modules → evidence_magic ++ flat_map (module_entries tables (found_at held)) modules ≡ evidence j tables s
found_evidence j tables s phase found held modules all are same in_phase of =
    let each : (n : ℕ) → n < length tables.places → (f : Fact) → found_at held n f ≡ session_first j tables.places s n f =
    λ n lt f. ap (λ x. found_at x n f) same ∙ (are.firsts n lt f ∙ ap (λ p. phase_first j tables.places p n f) in_phase) in
    ap (λ t. evidence_magic ++ t) (same_modules tables (found_at held) (session_first j tables.places s) modules all each ∙ ap (flat_map (module_entries tables (session_first j tables.places s))) of)
