-- The step of an instruction that was fetched whole.
use Rattle.std.proofs.Common.{◌≡◌, ℕ, true, false, Option, None, [], ◌∷◌, refl, sym, ap, ◌∙◌}
use Rattle.cov_base.specs.Meaning.{half_at}
use Rattle.cov_base.specs.declared.numbers.PlaceNo.{PlaceNo}
use Rattle.s370_state.specs.Meaning.{machine_of}
use Rattle.s370_decode.specs.Meaning.{first_half, op_of}
use Rattle.s370_decode.specs.declared.code.Code.{Code}
use Rattle.s370_branch.specs.Meaning.{goes}
use Rattle.s370_exec.specs.Effects.{executed}
use Rattle.s370_exec.specs.Meaning.{Effect, call_of, subject_call, is_execute, solo_step, subject_step, stepped, behind}
use Rattle.s370_exec.proofs.Laws.{solo_step-begun, solo_step-execute, first_half-code_at}
use Rattle.task_run.specs.Called.{call_at}
use Rattle.task_run.specs.Sights.{begun_visit}
use Rattle.task_run.specs.Steps.{IsFetched, memory_at, stands, code_there, own_visit}
use Rattle.task_run.specs.declared.bench.Bench.{Bench}
use Rattle.task_run.proofs.CallLemmas.{call_of-execute, call_of-begun}

module _ (b : Bench) (done : ℕ) (c : Code) (fetched : IsFetched b c) where
  -- as the observer is shown it
  pub own_begun : (a : ℕ) (p : Option PlaceNo) → a ≡ b.cpu.ia → begun_visit (record { done = done; at = a; place = p; subject = false }) b.cpu c ≡ own_visit b done
  own_begun a p at =
      λ i. record { at = at i; begun = true; went = goes (op_of (first_half (fetched.is i))) b.cpu (fetched.is i); before = done; subject = false }

  half : first_half c ≡ half_at (memory_at b) b.space.bytes b.cpu.ia
  half = ap first_half fetched.is ∙ first_half-code_at (memory_at b) b.space.bytes b.cpu.ia (half_at (memory_at b) b.space.bytes b.cpu.ia)

  -- an EX: its own visit, and then its subject

  pub step-execute : is_execute (first_half c) ≡ true → solo_step (memory_at b) (stands b done) ≡ behind (own_visit b done) (subject_step (memory_at b) (stands b done) c)
  step-execute h =
      solo_step-execute (memory_at b) (stands b done) b.cpu.ia (half_at (memory_at b) b.space.bytes b.cpu.ia) (code_there b) refl fetched.first refl fetched.rest refl (ap is_execute (sym half) ∙ h)
      ∙ ap (λ (x : Code). behind (own_visit b done) (subject_step (memory_at b) (stands b done) x)) (sym fetched.is)

  pub call-execute : is_execute (first_half c) ≡ true → call_of (memory_at b) (stands b done) ≡ subject_call (memory_at b) (stands b done) c
  call-execute h =
      call_of-execute (memory_at b) (stands b done) b.cpu.ia (half_at (memory_at b) b.space.bytes b.cpu.ia) c refl fetched.first refl fetched.rest fetched.is (ap is_execute (sym half) ∙ h)

  -- another instruction, which is executed

  pub step-other : (e : Effect) → is_execute (first_half c) ≡ false → e ≡ executed c None (memory_at b) (machine_of b.cpu b.space.bytes) b.io →
      solo_step (memory_at b) (stands b done) ≡ stepped (stands b done) e (own_visit b done ∷ [])
  step-other e h made =
      solo_step-begun (memory_at b) (stands b done) b.cpu.ia (half_at (memory_at b) b.space.bytes b.cpu.ia) (code_there b) e refl fetched.first refl fetched.rest refl (ap is_execute (sym half) ∙ h)
      (made ∙ ap (λ (x : Code). executed x None (memory_at b) (machine_of b.cpu b.space.bytes) b.io) fetched.is)

  pub call-other : is_execute (first_half c) ≡ false → call_of (memory_at b) (stands b done) ≡ call_at (first_half c)
  call-other h =
      call_of-begun (memory_at b) (stands b done) b.cpu.ia (half_at (memory_at b) b.space.bytes b.cpu.ia) c refl fetched.first refl fetched.rest fetched.is (ap is_execute (sym half) ∙ h)
      ∙ ap call_at (sym half)
