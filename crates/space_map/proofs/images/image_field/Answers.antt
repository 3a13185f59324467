use Rattle.std.proofs.Common.{◌≡◌, ◌+◌, ◌-◌, ◌≤◌, length, drop, ap, ◌∙◌, arith}
use Rattle.std.proofs.lemmas.List.{length-take-le}
use Rattle.std.proofs.Common.{length-drop}
use Rattle.space_map.proofs.Seen.{list_read}
use Rattle.space_map.proofs.images.image_field.Goals as goal

pub returns-then-from-n-clause-each : goal.returns-then-from-n-clause-each
returns-then-from-n-clause-each c =
    let images = c.args.images.now in
    let i = c.in_ok-image.image.now in
    let same : c.deref.result.now ≡ images = cc in
    let its = rw same at c.in_ok-image.ensures.one in
    let base : c.get.result ≡ i.base = c.get.ensures.value ∙ ap (λ i. i.base) c.image.view_is in
    let n : c.args.a - c.get.result + c.args.len - (c.args.a - c.get.result) ≡ c.args.len = omega arith in
    let bytes : c.deref-then-from-n.result.now ≡ i.bytes = c.deref-then-from-n.ensures.value ∙ ap (λ i. i.bytes) c.image.view_is in
    let within : c.args.a - c.get.result + c.args.len ≤ length c.deref-then-from-n.result.now = omega arith in
    λ j l. rw n (list_read images i c.args.a c.get.result c.args.len c.deref-then-from-n.result.now c.requires its c.in_ok-image.ensures.inside base bytes within j l)

pub returns-then-from-n-clause-size : goal.returns-then-from-n-clause-size
returns-then-from-n-clause-size c =
    let n : c.args.a - c.get.result + c.args.len - (c.args.a - c.get.result) ≡ c.args.len = omega arith in
    let rest = drop (c.args.a - c.get.result) c.deref-then-from-n.result.now in
    rw n (length-take-le c.args.len rest (omega (arith, length-drop (c.args.a - c.get.result) c.deref-then-from-n.result.now)))
