use Rattle.std.proofs.Common.{◌≡◌, List, [], ◌∷◌, ◌++◌, false, ap, sym, ◌∙◌, subst}
use Rattle.std.specs.List.{list_any}
use Rattle.std.specs.Str.{bytes_eq}
use Rattle.names.specs.Lists.{added}
use Rattle.job_text.specs.Meaning.{SessionDraft, DraftView}
use Rattle.job_text.specs.DraftInside.{names_in, draft_view}
use Rattle.job_text.proofs.DraftNames.{with_session_named}
use Rattle.job_text.proofs.drafts.put_session.Goals as goal

pub invariant_of-job-2 : goal.invariant_of-job-2
invariant_of-job-2 c =
    let new : list_any (λ s. bytes_eq s.name c.args.session.name) (draft_view c.job.inside).sessions ≡ false = subst (λ (j : DraftView). list_any (λ s. bytes_eq s.name c.args.session.name) j.sessions ≡ false) (sym c.job.view_is) c.requires.new in
    let items : c.put_named.new.items.items ≡ c.job.inside.sessions.items ++ c.args.session ∷ [] = c.in_ok-put_named.ensures.items in
    with_session_named c.job.inside c.job.invariant c.args.session new c.put_named.new.names (c.in_ok-put_named.ensures.names ∙ ap (λ (s : SessionDraft). added c.job.inside.names.sessions s.name) c.session.view_is) ∙ sym (ap (λ (ss : List SessionDraft). names_in (record (draft_view c.job.inside) { sessions = ss })) items)
