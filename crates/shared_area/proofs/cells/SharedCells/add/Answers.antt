use Rattle.shared_area.proofs.CallLemmas.{word_there, mark_at}
use Rattle.shared_area.proofs.cells.SharedCells.add.Goals as goal

pub fetch_or-found-requires : goal.fetch_or-found-requires
fetch_or-found-requires g c = let me = c.args.self.now in let seat = c.args.seat.now in let s = c.args.s.0 in let p = c.args.place.0 in let at = c.set_at-at.ensures in (
  c.requires.area,
  word_there me seat s p c.args.fact c.set_at-at.result c.requires.may at g.K.Marking.plan g.K.Marking.session g.K.Marking.place g.K.Marking.fact c.requires.picked,
  mark_at me seat s p c.args.fact c.set_at-at.result c.requires.may at g.K.Marking.plan g.K.Marking.session g.K.Marking.place g.K.Marking.fact c.requires.picked c.bit-bit.result c.bit-bit.ensures,
)
