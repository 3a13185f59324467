-- What waits for a pass is of a session of the plan, and its word is its task's.
use Rattle.std.proofs.Common.{◌≡◌, ℕ, ◌-◌, ◌*◌, ◌≤◌, Some, sym, ap, subst, arith}
use Rattle.std.proofs.lemmas.Option.{cond_some}
use Rattle.module_area.specs.declared.cells.Cell.{Cell}
use Rattle.module_area.specs.declared.parties.View.{View}
use Rattle.module_area.specs.Meaning.{PlanView}
use Rattle.module_area.specs.Rule.{is_breakpoint}
use Rattle.shared_area.specs.Passes.{IsWithin, HasWord}
use Rattle.shared_area.specs.Rule.{Fetched}

pub fetch_within : (plan : PlanView) (p : ℕ) (c : Cell) (v v' : View) → Fetched plan p v c v' → IsWithin plan v'.pending
fetch_within plan p c v v' h = subst (IsWithin plan) (sym (ap (λ (z : View). z.pending) h.after))
    (λ q t e. subst (λ (z : ℕ × ℕ). z.1 ≤ 2 * plan.sessions) (cond_some (is_breakpoint c) (p, c.tag) (q, t) e).1 h.within)

pub same_within : (plan : PlanView) (v v' u : View) → v' ≡ u → u.pending ≡ v.pending → IsWithin plan v.pending → IsWithin plan v'.pending
same_within plan v v' u e same h = subst (λ (z : View). IsWithin plan z.pending) (sym e) (subst (IsWithin plan) (sym same) h)

pub same_task : (plan : PlanView) (word : ℕ) (v v' u : View) → v' ≡ u → u.role ≡ v.role → HasWord plan word v.role → HasWord plan word v'.role
same_task plan word v v' u e same h = subst (λ (z : View). HasWord plan word z.role) (sym e) (subst (HasWord plan word) (sym same) h)

-- so is the session that it may mark for
pub session_within : (plan : PlanView) (s p : ℕ) (v : View) → IsWithin plan v.pending → v.pending ≡ Some (p, 2 * s - 1) → s ≤ plan.sessions
session_within plan s p v h e = let x = h p (2 * s - 1) e in omega arith
