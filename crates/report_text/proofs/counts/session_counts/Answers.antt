use Rattle.std.proofs.Common.{◌≡◌, [], ◌∷◌, ◌++◌, ◌∙◌, get_or, ap}
use Rattle.session_book.specs.Meaning.{SessionView, session_of}
use Rattle.report_text.specs.Meaning.{session_line}
use Rattle.report_text.proofs.WriteLemmas.{progress_start, progress_more, progress_exit, progress_last}
use Rattle.report_text.proofs.counts.session_counts.Goals as goal

pub returns-in_err-put : goal.returns-in_err-put
returns-in_err-put g c =
    let job = c.args.job.now in
    let session = c.session.view_is ∙ c.session-session.ensures.value in
    let name : c.session.inside.name ≡ (session_of job c.args.s.0).name = ap (λ (s : SessionView). s.name) session in
    let phase : c.session.inside.phase ≡ (session_of job c.args.s.0).phase = ap (λ (s : SessionView). s.phase) session in
    let text : c.session_line.result.items ≡ session_line (session_of job c.args.s.0).name (get_or job.phases (session_of job c.args.s.0).phase []) ++ 10 ∷ [] = rw (name, c.phase_name.ensures, phase) at c.session_line.ensures in
    progress_exit _ c.from_residual.ensures.0 (c.in_err-put.ensures _ text) progress_start

pub returns : goal.returns
returns g c =
    let job = c.args.job.now in
    let session = c.session.view_is ∙ c.session-session.ensures.value in
    let name : c.session.inside.name ≡ (session_of job c.args.s.0).name = ap (λ (s : SessionView). s.name) session in
    let phase : c.session.inside.phase ≡ (session_of job c.args.s.0).phase = ap (λ (s : SessionView). s.phase) session in
    let modules : c.deref.result.now ≡ (session_of job c.args.s.0).modules = c.deref.ensures.value ∙ ap (λ (s : SessionView). s.modules) session in
    let text : c.session_line.result.items ≡ session_line (session_of job c.args.s.0).name (get_or job.phases (session_of job c.args.s.0).phase []) ++ 10 ∷ [] = rw (name, c.phase_name.ensures, phase) at c.session_line.ensures in
    let named = progress_more (c.in_ok-put.ensures _ text) progress_start in
    progress_last (rw modules at c.modules_counts.ensures) named
