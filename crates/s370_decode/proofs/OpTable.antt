-- The table holds each code's operation, by computing.
use Rattle.std.proofs.Common.{◌≡◌, ℕ, ◌/◌, ◌<◌, map, get_or, refl, ◌∙◌, arith}
use Rattle.std.specs.List.{range_with_len}
use Rattle.std.proofs.lemmas.List.FromFn.{get_or-map-range_with_len}
use Rattle.s370_decode.specs.declared.op.Op.{Op}
use Rattle.s370_decode.specs.declared.op.Op.TheVariants.{LR}
use Rattle.s370_decode.specs.declared.table.TheConstants.{OPS}
use Rattle.s370_decode.specs.Meaning.{op_of, op_in, operations}

by_code : ℕ → Op
by_code n = op_in operations n

whole : OPS ≡ map by_code (range_with_len 0 256)
unfolding by_code op_in operations
whole = refl

same : (h : ℕ) → by_code (h / 256) ≡ op_of h
unfolding by_code
same h = refl

pub found : (h : ℕ) → h < 65536 → get_or OPS (h / 256) LR ≡ op_of h
found h l = rw whole (get_or-map-range_with_len by_code 0 256 (h / 256) (h / 256) LR (omega arith) (omega arith) ∙ same h)
