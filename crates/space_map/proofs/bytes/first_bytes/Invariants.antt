use Rattle.std.proofs.Common.{◌≡◌, length, take, replicate, fold}
use Rattle.module_area.specs.Meaning.{with_card}
use Rattle.space_map.proofs.bytes.first_bytes.Given as goal

abbrev pub invariant-loop-card : goal.invariant-loop-card
invariant-loop-card l =
    record { so_far : l.bytes.items ≡ fold with_card (replicate l.size 0) (take l.card-index l.cards); filled : length l.bytes.items ≡ l.size }
