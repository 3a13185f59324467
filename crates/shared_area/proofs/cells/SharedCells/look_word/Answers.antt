use Rattle.shared_area.proofs.CallLemmas.{word_there, look_at}
use Rattle.shared_area.proofs.cells.SharedCells.look_word.Goals as goal

pub load-requires : goal.load-requires
load-requires g c = let me = c.args.self.now in let seat = c.args.seat.now in let s = c.args.s.0 in let p = c.args.place.0 in let at = c.set_at-at.ensures in (
  c.requires.area,
  word_there me seat s p c.args.fact c.set_at-at.result c.requires.may at g.K.Marking.plan g.K.Marking.session g.K.Marking.place g.K.Marking.fact c.requires.picked,
  look_at me seat s p c.args.fact c.set_at-at.result c.requires.may at g.K.Marking.plan g.K.Marking.session g.K.Marking.place g.K.Marking.fact c.requires.picked g.K.Marking.is c.requires.there,
)
