-- Why the laws hold of an observer that marks over planted cells.
use Rattle.std.specs.Prelude.{ℕ, ◌+◌, None, List, [], ◌∷◌, ◌++◌}
use Rattle.std.proofs.Common.{refl, subst, arith}
use Rattle.cov_base.specs.Meaning.{Visit}
use Rattle.brk_table.specs.Meaning.{TablesView}
use Rattle.module_area.specs.Meaning.{ControlView, PlanView}
use Rattle.module_area.specs.Notes.{Notes}
use Rattle.task_run.specs.Noting.{CanNote, MakesEach, HasAnswered}

pub CanNote-later : (is_pass : Type 0) (a o : PlanView) (t : TablesView) (n : Notes) (d s : ℕ) → CanNote is_pass a o t n d s
    → CanNote is_pass a o t n d (s + 1)
CanNote-later is_pass a o t n d s h =
    record { area = h.area; plan = h.plan; places = h.places; working = h.working; room = omega (arith, h.room) }

pub CanNote-next : (is_pass : Type 0) (a o : PlanView) (t : TablesView) (n : Notes) (d : ℕ) → CanNote is_pass a o t n d 2
    → CanNote is_pass a o t n (d + 1) 0
CanNote-next is_pass a o t n d h =
    record { area = h.area; plan = h.plan; places = h.places; working = h.working; room = omega (arith, h.room) }

pub MakesEach-both : (plan : PlanView) (a b c : Notes) (vs ws : List Visit) → MakesEach plan a vs b → MakesEach plan b ws c
    → MakesEach plan a (vs ++ ws) c
MakesEach-both plan a b c [] ws first rest = subst (λ (n : Notes). MakesEach plan n ws c) first rest
MakesEach-both plan a b c (v ∷ vs) ws first rest = (first.0, first.1, MakesEach-both plan first.0 b c vs ws first.2 rest)

pub HasAnswered-none : (plan : PlanView) (n : Notes) (c : ControlView) → HasAnswered plan n c None n c
HasAnswered-none plan n c = record { notes = refl; control = refl; few = omega arith }
