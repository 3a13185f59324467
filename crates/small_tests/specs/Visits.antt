-- What a thread of its own needs to count executions.
use Rattle.std.specs.Prelude.{◌≡◌, ℕ, ◌<◌, true, false, length}
use Rattle.cov_base.specs.FactKind.{is_of_kind}
use Rattle.cov_base.specs.declared.facts.Fact.{Fact}
use Rattle.module_area.specs.Meaning.{kind_at}
use Rattle.count_session.specs.Passes.{IsPassOf, notes_of, plan_in}
use Rattle.count_session.specs.declared.cells.CountCells.{CountCells}
use Rattle.count_session.specs.declared.pass.CountPass.{CountPass}

-- a task's pass that has added nothing, and place p, which it knows as planted and whose kind has the fact
pub record CanVisit (cells : CountCells) (pass : CountPass) (p : ℕ) (f : Fact) : Type 0 where
  pub area : IsPassOf cells pass
  pub task : (notes_of cells pass).root ≡ false
  pub fresh : (notes_of cells pass).adds ≡ 0
  pub place : p < length (plan_in cells).places
  pub planted : (notes_of cells pass).planted p ≡ true
  pub kind : is_of_kind (kind_at (plan_in cells) p) f ≡ true
