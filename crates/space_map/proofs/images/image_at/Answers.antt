use Rattle.std.proofs.Common.{arith, rules}
use Rattle.space_map.proofs.ImageLemmas.{image_byte-at, image_byte-none, list_any-none}
use Rattle.space_map.proofs.images.image_at.Goals as goal

pub returns-then-a-base-clause-byte : goal.returns-then-a-base-clause-byte
returns-then-a-base-clause-byte c =
    image_byte-at c.args.images.now c.image-item.result c.image-item.result c.loop-image.image-index c.args.a c.image-item.is (omega arith) (search rules) c.loop-image.invariant

pub returns-clause-none : goal.returns-clause-none
returns-clause-none c _ = list_any-none c.args.images.now c.args.a (λ k d l. c.loop-image.invariant k d (omega arith))

pub returns-clause-zero : goal.returns-clause-zero
returns-clause-zero c _ = image_byte-none c.args.images.now c.args.a (λ k d l. c.loop-image.invariant k d (omega arith))
