use Rattle.std.proofs.Common.{◌≡◌, ℕ, List, [], ◌∷◌, ◌++◌, false, ap, sym, ◌∙◌, subst}
use Rattle.names.specs.Lists.{has}
use Rattle.job_text.specs.Meaning.{DraftView}
use Rattle.job_text.specs.DraftInside.{names_in, draft_view}
use Rattle.job_text.proofs.DraftNames.{with_phase_named}
use Rattle.job_text.proofs.drafts.put_phase.Goals as goal

pub invariant_of-job-2 : goal.invariant_of-job-2
invariant_of-job-2 c =
    let new : has c.job.inside.phases.items c.args.name ≡ false = subst (λ (j : DraftView). has j.phases c.args.name ≡ false) (sym c.job.view_is) c.requires.new in
    let items : c.put_named.new.items.items ≡ c.job.inside.phases.items ++ c.args.name ∷ [] = c.in_ok-put_named.ensures.items in
    with_phase_named c.job.inside c.job.invariant c.args.name new c.put_named.new.names c.in_ok-put_named.ensures.names ∙ sym (ap (λ (ps : List (List ℕ)). names_in (record (draft_view c.job.inside) { phases = ps })) items)
