use Rattle.std.proofs.Common.{◌≡◌, ◌∙◌, ap, option_map, get_or}
use Rattle.job_text.proofs.Indices.{indices_stop}
use Rattle.job_text.proofs.drafts.indices.Goals as goal

pub returns-in-None : goal.returns-in-None
returns-in-None c =
    let item : c.name-item.result ≡ get_or c.args.names.now c.loop-name.name-index c.name-item.result = cc in
    indices_stop c.args.job.now c.args.by.now c.loop-name.used.items c.args.names.now c.loop-name.name-index c.name-item.result c.name-item.result _ c.loop-name-test.true item
    (c.in_ok-put_index.ensures ∙ ap (λ o. option_map (λ v. v.items) o) c.in-None.is) c.loop-name.invariant
