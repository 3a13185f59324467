use Rattle.std.proofs.Common.{◌≡◌, ◌+◌, ◌-◌, ◌<◌, length, ap, ◌∙◌, arith}
use Rattle.space_map.proofs.Seen.{half_read}
use Rattle.space_map.proofs.images.image_half.Goals as goal

pub returns-then-n-len-clause-value : goal.returns-then-n-len-clause-value
returns-then-n-len-clause-value c =
    let images = c.args.images.now in
    let i = c.in_ok-image.image.now in
    let same : c.deref.result.now ≡ images = cc in
    let its = rw same at c.in_ok-image.ensures.one in
    let base : c.get.result ≡ i.base = c.get.ensures.value ∙ ap (λ i. i.base) c.image.view_is in
    let within : c.args.a - c.get.result + 1 < length c.image.inside.bytes.items = omega arith in
    let first = rw (← c.from.ensures) at c.index.ensures in
    let second = rw (← c.from-then-n-len.ensures) at c.index-then-n-len.ensures in
    half_read images i c.args.a c.get.result c.from.result c.from-then-n-len.result c.image.inside.bytes.items c.requires its c.in_ok-image.ensures.inside base (ap (λ i. i.bytes) c.image.view_is) within first second
