use Rattle.std.proofs.Common.{sym, subst, arith}
use Rattle.module_area.specs.declared.cells.Cell.{Cell}
use Rattle.shared_area.specs.Rule.{Fetched}
use Rattle.shared_area.proofs.CallLemmas.{cell_there, fetch_at, fetched_is}
use Rattle.shared_area.proofs.cells.SharedCells.cell_at.Goals as goal

pub load-found-requires : goal.load-found-requires
load-found-requires g c = let me = c.args.self.now in let seat = c.args.seat.now in let p = c.args.place.0 in
    (c.requires.area, cell_there me p c.requires.may.place, fetch_at me seat p c.requires.may g.K.Fetching.plan g.K.Fetching.place c.requires.picked)

pub cell-requires : goal.cell-requires
cell-requires g c = let x = c.load-found.ensures.2.0.small in omega arith

pub returns-clause-told : goal.returns-clause-told
returns-clause-told g c = let me = c.args.self.now in let v = c.args.seat.now.me.0 in let w = c.load-found.new.seat.me.0 in
    subst (λ (z : Cell). Fetched me.plan c.args.place.0 v z w) (sym c.cell.ensures) (fetched_is me v w c.args.place.0 _ g.K.Fetching.plan g.K.Fetching.place c.requires.picked c.load-found.ensures.2.0)
