use Rattle.std.proofs.Common.{◌<◌, length, sym, subst}
use Rattle.atomic_table.specs.Table.{Splits}
use Rattle.module_area.specs.Meaning.{PlanView}
use Rattle.count_session.specs.Rule.{IsCounting, giving, newcomer}
use Rattle.count_session.proofs.WordLemmas.{some_word}
use Rattle.count_session.proofs.StepLemmas.{split_allowed}
use Rattle.count_session.proofs.cells.CountCells.split.Goals as goal

pub split_seat-seat-requires : goal.split_seat-seat-requires
split_seat-seat-requires c = let me = c.args.self.now in let seat = c.args.root.now.seat in let v = seat.me.0 in (
  c.requires.area.0,
  subst (λ k. 0 < k) (sym me.wide) (some_word (length me.plan.places)),
  subst (λ (q : PlanView). Splits (IsCounting q) seat.id v (giving v) (newcomer v)) (sym me.keyed) (split_allowed me.plan seat.id v c.requires.root c.args.root.now.live c.requires.room),
)
