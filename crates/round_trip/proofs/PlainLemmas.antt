-- A job that was read without SERVICE cards has no services, so that its tasks run alone.
use Rattle.std.proofs.Common.{◌≡◌, None, Some, List, [], ◌∷◌, refl, sym, ap, subst, ◌∙◌}
use Rattle.std.specs.List.{list_any}
use Rattle.std.specs.Str.{bytes_eq}
use Rattle.session_book.specs.Meaning.{JobView}
use Rattle.job_text.specs.Meaning.{DraftView, LineView, Lead, IsModule, IsServiceCard, IsSessionCard, IsTaskBlock, IsPhase, Present, Spells}
use Rattle.job_text.specs.declared.grammar.Grammar.TheVariants.{Plain}
use Rattle.job_text.proofs.Laws.{session_added, guard_none}
use Rattle.task_run.specs.Meaning.{solo}
use Rattle.task_services.specs.Meaning.{course_of}

record IsPlain (j : DraftView) : Type 0 where
  grammar : j.grammar ≡ Plain
  services : j.services ≡ []

kept : {A : Type 0} (Is : DraftView → A → DraftView → Type 0) → ((j : DraftView) (x : A) (after : DraftView) → Is j x after → IsPlain j → IsPlain after) → (xs : List A) (j after : DraftView) → Lead Is j xs after → IsPlain j → IsPlain after
kept Is one [] j after are e = subst IsPlain are e
kept Is one (x ∷ xs) j after are e = kept Is one xs are.mid after are.follows (one j x are.mid are.is e)

a_module : (j : DraftView) (block : List LineView) (after : DraftView) → IsModule j block after → IsPlain j → IsPlain after
a_module j block after m e = subst IsPlain (sym m.is_after) (record { grammar = e.grammar; services = e.services })

no_service : (j : DraftView) (line : LineView) (after : DraftView) → IsServiceCard j line after → IsPlain j → IsPlain after
no_service j line after s e = let clash : None ≡ Some after = rw e.grammar at s.adds in absurd cc

a_session : (j : DraftView) (line : LineView) (after : DraftView) → IsSessionCard j line after → IsPlain j → IsPlain after
a_session j line after s e = subst IsPlain (session_added j after s.name s.by s.names s.adds).is (record { grammar = e.grammar; services = e.services })

a_task : (j : DraftView) (block : List LineView) (after : DraftView) → IsTaskBlock j block after → IsPlain j → IsPlain after
a_task j block after t e = subst IsPlain (sym t.is_after) (record { grammar = e.grammar; services = e.services })

a_phase : (j : DraftView) (block : List LineView) (after : DraftView) → IsPhase Present j block after → IsPlain j → IsPlain after
a_phase j block after p e =
    let g = guard_none (list_any (λ n. bytes_eq n p.name) j.phases) (record j { phases = _ }) p.named p.adds in
    kept IsTaskBlock a_task p.tasks p.mid after p.are_tasks (kept IsSessionCard a_session p.sessions p.named p.mid p.are_sessions (subst IsPlain g.1 (record { grammar = e.grammar; services = e.services })))

pub runs_alone : (ls : List LineView) (job : JobView) → Spells Plain Present ls job → course_of job.services ≡ solo
runs_alone ls job s =
    let modules : IsPlain s.mid = kept IsModule a_module s.modules _ s.mid s.are_modules (record { grammar = refl; services = refl }) in
    let draft : IsPlain s.draft = kept (IsPhase Present) a_phase s.phases s.served s.draft s.are_phases (kept IsServiceCard no_service s.services s.mid s.served s.are_services modules) in
    ap course_of (ap (λ (x : JobView). x.services) s.is ∙ draft.services)
