use Rattle.std.proofs.Common.{◌≡◌, ◌∙◌, ap, sym, is_some}
use Rattle.std.specs.List.{list_any}
use Rattle.names.proofs.Laws.{any_found}
use Rattle.job_text.specs.Meaning.{is_controller}
use Rattle.job_text.proofs.binding.is_met.Goals as goal

pub returns-in-Some : goal.returns-in-Some
returns-in-Some c =
    let of = is_controller c.session.inside.phase c.in-Some.name in
    let found : c.is_some.result ≡ list_any of c.deref.result.now = c.is_some.ensures ∙ (ap (λ i. is_some i) c.controller_of.ensures.index ∙ sym (any_found of c.deref.result.now)) in
    rw (← c.job.view_is, ← c.session.view_is, c.in-Some.is) (found ∙ ap (list_any of) c.deref.ensures.value)
