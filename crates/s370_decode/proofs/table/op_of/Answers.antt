use Rattle.s370_decode.proofs.OpTable.{found}
use Rattle.s370_decode.proofs.table.op_of.Goals as goal

pub returns : goal.returns
returns c = found c.args.h c.ranges.h.fits
