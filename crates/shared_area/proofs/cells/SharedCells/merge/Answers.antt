use Rattle.std.proofs.Common.{sym, subst}
use Rattle.atomic_table.specs.Table.{Joins}
use Rattle.module_area.specs.declared.parties.Role.TheVariants.{Spent}
use Rattle.module_area.specs.Meaning.{PlanView}
use Rattle.module_area.specs.Rule.{blank}
use Rattle.module_area.specs.Parties.{joining, role_task}
use Rattle.shared_area.specs.Rule.{IsArea}
use Rattle.shared_area.proofs.CallLemmas.{some_word}
use Rattle.shared_area.proofs.FrontLemmas.{join_stands}
use Rattle.shared_area.proofs.cells.SharedCells.merge.Goals as goal

pub join_seat-requires : goal.join_seat-requires
join_seat-requires g c = let me = c.args.self.now in let seat = c.args.seat.now in let v = seat.me.0 in let o = c.args.other.me.0 in (
  c.requires.area,
  c.requires.other.0,
  c.requires.other.1,
  some_word me,
  subst (λ (z : PlanView × PlanView). Joins (IsArea z.0) seat.id v c.args.other.id o (joining z.1 v o) (blank Spent)) (λ i. (sym me.keyed i, sym c.requires.picked i)) (join_stands me.plan seat.id c.args.other.id (role_task o.role) v o c.requires.root c.requires.task),
)
