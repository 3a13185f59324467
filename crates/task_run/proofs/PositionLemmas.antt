-- The instruction at which a task stands.
use Rattle.std.proofs.Common.{ℕ, ◌<◌, Option, Some, None, length, get_or, ap, sym, ◌∙◌, arith}
use Rattle.std.specs.Prelude.{IfSome}
use Rattle.cov_base.specs.declared.numbers.PlaceNo.{PlaceNo}
use Rattle.brk_table.proofs.Laws.{kept_first}
use Rattle.brk_table.specs.declared.kept.Kept.{Kept}
use Rattle.brk_table.specs.Meaning.{TablesView}
use Rattle.brk_table.specs.Decoded.{AreAtPlaces}
use Rattle.task_run.specs.Position.{IsPosition, IsPositionAt, IsKeptOf}
use Rattle.task_run.specs.declared.task.Position.{Position}

-- it is the place's, where it stands at one
pub kept_there : (tables : TablesView) (s : Position) (a : ℕ) (p : Option PlaceNo) (k : Kept) → IsPosition tables s → AreAtPlaces tables → IsPositionAt tables.places a p s → IfSome p (λ n. IsKeptOf tables n.0 (get_or s.kept.now 0 k))
kept_there tables s a None k position placed at = tt
kept_there tables s a (Some n) k position placed at =
    let there = at.there in
    let exists = at.placed.exists in
    let count = placed.count in
    let within : s.place < length tables.codes = omega (arith, there, exists, count) in
    record {
      places = position.places;
      code = λ d. kept_first tables s.place s.kept.now position.from within d k ∙ ap (λ i. get_or tables.codes i d) (sym there);
    }
