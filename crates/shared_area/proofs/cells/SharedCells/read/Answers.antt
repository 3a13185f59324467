use Rattle.shared_area.proofs.CallLemmas.{set_at}
use Rattle.shared_area.proofs.cells.SharedCells.read.Goals as goal

pub load-found-requires : goal.load-found-requires
load-found-requires g c = let step = set_at c.args.self.now c.args.seat.now c.args.s.0 c.args.place.0 c.word_at-at.result c.requires.live c.requires.place c.requires.session c.requires.in_plan c.word_at-at.ensures g.K.Marking.plan g.K.Marking.session g.K.Marking.place c.requires.picked in
    (c.requires.area, step.0, step.1)
