-- The instruction that the tables have for a place is the one that is fetched there.
use Rattle.std.proofs.Common.{◌≡◌, ℕ, ◌<◌, None, List, [], length, get_or, refl, sym, ap, ◌∙◌}
use Rattle.cov_base.specs.Meaning.{length_of, kind_of, Memory, half_at}
use Rattle.s370_decode.specs.Meaning.{first_half}
use Rattle.module_area.specs.Meaning.{no_place, place_of}
use Rattle.module_area.specs.declared.places.Place.{Place}
use Rattle.s370_decode.specs.declared.code.Code.{Code}
use Rattle.brk_table.specs.Kept.{AreKept, IsKept, later_half}
use Rattle.brk_table.specs.Meaning.{TablesView}
use Rattle.brk_table.specs.Decoded.{AreAtPlaces}
use Rattle.brk_table.specs.Places.{IsPlace, ArePlaces, IsSeen, AreSeen}
use Rattle.s370_exec.specs.Meaning.{first_tests, rest_tests, code_at}
use Rattle.s370_exec.proofs.Laws.{rest_none, code_at-halves, first_half-code_at}
use Rattle.task_run.specs.declared.bench.Bench.{Bench}
use Rattle.task_run.specs.Sights.{BeginsAt}
use Rattle.task_run.proofs.PlaceLemmas.{begins_at}
use Rattle.task_run.specs.Steps.{IsShown, IsFetched, memory_at}

half_there : (m : Memory) (places : List Place) (bytes : List ℕ) (a p h : ℕ) → AreSeen m places → BeginsAt places a p → h ≡ half_at m bytes a → h ≡ (place_of places p).original
half_there m places bytes a p h seen begins half = half ∙ (ap (λ x. half_at m bytes x) (sym begins.begins) ∙ (seen p begins.exists).original bytes)

kept_rest : (m : Memory) (tables : TablesView) (bytes : List ℕ) (a p h : ℕ) → ArePlaces tables.places → IsShown m tables → BeginsAt tables.places a p → h ≡ half_at m bytes a → rest_tests m a (length_of h) ≡ None
kept_rest m tables bytes a p h are shown begins half =
    let q : Place = place_of tables.places p in
    let is : IsPlace q = are.each p no_place begins.exists in
    let c : Code = record { at = 0; bytes = bytes; len = 0 } in
    let there : IsKept m q (get_or tables.codes p c) = shown.kept.each p c begins.exists in
    rw (half_there m tables.places bytes a p h shown.seen begins half, sym begins.begins) (rest_none m q.at q.original q.len is.size there.later_reached there.later_untouched)

kept_code : (m : Memory) (tables : TablesView) (bytes : List ℕ) (a p h : ℕ) (c : Code) → ArePlaces tables.places → IsShown m tables → BeginsAt tables.places a p → h ≡ half_at m bytes a → c ≡ get_or tables.codes p c → c ≡ code_at m bytes a h
kept_code m tables bytes a p h c are shown begins half e =
    let q : Place = place_of tables.places p in
    let is : IsPlace q = are.each p no_place begins.exists in
    let there : IsKept m q (get_or tables.codes p c) = shown.kept.each p c begins.exists in
    e ∙ (there.code bytes
    ∙ rw (half_there m tables.places bytes a p h shown.seen begins half, sym begins.begins) (sym (code_at-halves m bytes q.at q.original q.len (later_half m bytes q 2) (later_half m bytes q 4) is.size refl refl)))

-- its first halfword is accessible
kept_first : (m : Memory) (places : List Place) (a p : ℕ) → ArePlaces places → AreSeen m places → BeginsAt places a p → first_tests m a ≡ None
kept_first m places a p are seen begins =
    let q : Place = place_of places p in
    let is : IsPlace q = are.each p no_place begins.exists in
    let there : IsSeen m q = seen p begins.exists in
    let even = is.even in
    rw (sym begins.begins, even, there.reached) refl

pub placed_code : (b : Bench) (tables : TablesView) (p : ℕ) (c : Code) → ArePlaces tables.places → IsShown (memory_at b) tables → p < length tables.places → (place_of tables.places p).at ≡ b.cpu.ia →
    ((d : Code) → c ≡ get_or tables.codes p d) → IsFetched b c
placed_code b tables p c are shown exists at kept =
    let begins = begins_at tables.places b.cpu.ia p are exists at in
    record {
      first = kept_first (memory_at b) tables.places b.cpu.ia p are shown.seen begins;
      rest = kept_rest (memory_at b) tables b.space.bytes b.cpu.ia p (half_at (memory_at b) b.space.bytes b.cpu.ia) are shown begins refl;
      is = kept_code (memory_at b) tables b.space.bytes b.cpu.ia p (half_at (memory_at b) b.space.bytes b.cpu.ia) c are shown begins refl (kept c);
    }

-- the place has its kind
pub kept_kind : (b : Bench) (tables : TablesView) (p : ℕ) (c : Code) → ArePlaces tables.places → IsShown (memory_at b) tables → p < length tables.places → (place_of tables.places p).at ≡ b.cpu.ia →
    ((d : Code) → c ≡ get_or tables.codes p d) → (place_of tables.places p).kind ≡ kind_of (first_half c)
kept_kind b tables p c are shown exists at kept =
    let q : Place = place_of tables.places p in
    let half = half_there (memory_at b) tables.places b.space.bytes b.cpu.ia p (half_at (memory_at b) b.space.bytes b.cpu.ia) shown.seen (begins_at tables.places b.cpu.ia p are exists at) refl in
    (are.each p no_place exists).kind ∙ ap kind_of (sym half ∙ sym (ap first_half (placed_code b tables p c are shown exists at kept).is ∙ first_half-code_at (memory_at b) b.space.bytes b.cpu.ia (half_at (memory_at b) b.space.bytes b.cpu.ia)))

-- the instructions that are kept stand where their places begin
pub kept_at_places : (m : Memory) (tables : TablesView) → AreKept m tables → AreAtPlaces tables
kept_at_places m tables kept = record { count = kept.count; each = λ n c l. ap (λ (x : Code). x.at) ((kept.each n c l).code []) }
