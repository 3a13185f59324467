use Rattle.std.proofs.Common.{◌≡◌, [], ◌∷◌, ◌++◌, ◌∙◌, All, get_or, sym, ap, subst}
use Rattle.session_book.specs.Meaning.{SessionView, session_of}
use Rattle.phase_plan.specs.Sets.{AreWithin}
use Rattle.report_text.specs.Meaning.{session_part, session_line}
use Rattle.report_text.specs.Writes.{WritesLines}
use Rattle.report_text.proofs.WriteLemmas.{progress_start, progress_more, progress_exit, progress_last}
use Rattle.report_text.proofs.sessions.session_part.Goals as goal

pub returns-in_err-put : goal.returns-in_err-put
returns-in_err-put g c =
    let job = c.args.job.now in
    let session = c.session.view_is ∙ c.session-session.ensures.value in
    let name : c.session.inside.name ≡ (session_of job c.args.s.0).name = ap (λ (s : SessionView). s.name) session in
    let phase : c.session.inside.phase ≡ (session_of job c.args.s.0).phase = ap (λ (s : SessionView). s.phase) session in
    let text : c.session_line.result.items ≡ session_line (session_of job c.args.s.0).name (get_or job.phases (session_of job c.args.s.0).phase []) ++ 10 ∷ [] = rw (name, c.phase_name.ensures, phase) at c.session_line.ensures in
    let w : WritesLines _ _ _ _ c.from_residual.result (session_part job c.args.tables.now (g.R.FactSets.set_of c.args.sets.now) c.args.s.0) =
    progress_exit _ c.from_residual.ensures.0 (c.in_err-put.ensures _ text) progress_start in
    w.as_text

pub modules_text-requires-clause-within : goal.modules_text-requires-clause-within
modules_text-requires-clause-within g c =
    let modules = ap (λ (s : SessionView). s.modules) (c.session.view_is ∙ c.session-session.ensures.value) in
    let these = c.deref.ensures.value ∙ modules in
    subst (λ ms. All (AreWithin c.args.tables.now (g.R.FactSets.set_of c.args.sets.now c.args.s.0)) ms) (sym these) c.requires.sets.within

pub returns : goal.returns
returns g c =
    let job = c.args.job.now in
    let session = c.session.view_is ∙ c.session-session.ensures.value in
    let name : c.session.inside.name ≡ (session_of job c.args.s.0).name = ap (λ (s : SessionView). s.name) session in
    let phase : c.session.inside.phase ≡ (session_of job c.args.s.0).phase = ap (λ (s : SessionView). s.phase) session in
    let modules : c.deref.result.now ≡ (session_of job c.args.s.0).modules = c.deref.ensures.value ∙ ap (λ (s : SessionView). s.modules) session in
    let text : c.session_line.result.items ≡ session_line (session_of job c.args.s.0).name (get_or job.phases (session_of job c.args.s.0).phase []) ++ 10 ∷ [] = rw (name, c.phase_name.ensures, phase) at c.session_line.ensures in
    let named = progress_more (c.in_ok-put.ensures _ text) progress_start in
    let w : WritesLines _ _ _ _ c.modules_text.result (session_part job c.args.tables.now (g.R.FactSets.set_of c.args.sets.now) c.args.s.0) =
    progress_last (rw modules at c.modules_text.ensures) named in
    w.as_text
