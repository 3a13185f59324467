use Rattle.std.proofs.Common.{ℕ, sym, subst}
use Rattle.atomic_table.specs.Table.{Splits}
use Rattle.module_area.specs.Meaning.{PlanView}
use Rattle.module_area.specs.Parties.{giving, newcomer}
use Rattle.shared_area.specs.Rule.{IsArea}
use Rattle.shared_area.proofs.CallLemmas.{some_word}
use Rattle.shared_area.proofs.FrontLemmas.{split_stands}
use Rattle.shared_area.proofs.cells.SharedCells.cut.Goals as goal

pub split_seat-requires : goal.split_seat-requires
split_seat-requires g c = let me = c.args.self.now in let seat = c.args.seat.now in let v = seat.me.0 in (
  c.requires.area,
  some_word me,
  subst (λ (z : PlanView × PlanView × ℕ). Splits (IsArea z.0) seat.id v (giving z.2 v) (newcomer z.1 z.2 v)) (λ i. (sym me.keyed i, sym c.requires.picked.0 i, sym c.requires.picked.1 i)) (split_stands me.plan seat.id c.args.task.0 v c.requires.root c.requires.first c.requires.task),
)
