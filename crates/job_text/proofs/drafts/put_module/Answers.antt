use Rattle.std.proofs.Common.{◌≡◌, List, [], ◌∷◌, ◌++◌, false, ap, sym, ◌∙◌, subst}
use Rattle.cov_base.specs.Meaning.{ImageView}
use Rattle.names.specs.Lists.{added}
use Rattle.job_text.specs.Meaning.{DraftView, has_module}
use Rattle.job_text.specs.DraftInside.{names_in, draft_view}
use Rattle.job_text.proofs.DraftNames.{with_module_named}
use Rattle.job_text.proofs.drafts.put_module.Goals as goal

pub invariant_of-job-2 : goal.invariant_of-job-2
invariant_of-job-2 c =
    let new : has_module (draft_view c.job.inside) c.args.image.name ≡ false = subst (λ (j : DraftView). has_module j c.args.image.name ≡ false) (sym c.job.view_is) c.requires.new in
    let items : c.put_named.new.items.items ≡ c.job.inside.images.items ++ c.args.image ∷ [] = c.in_ok-put_named.ensures.items in
    with_module_named c.job.inside c.job.invariant c.args.image new c.put_named.new.names (c.in_ok-put_named.ensures.names ∙ ap (λ (i : ImageView). added c.job.inside.names.modules i.name) c.image.view_is) ∙ sym (ap (λ (is : List ImageView). names_in (record (draft_view c.job.inside) { images = is })) items)
