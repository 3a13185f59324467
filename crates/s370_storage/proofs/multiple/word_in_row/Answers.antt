use Rattle.std.proofs.Common.{arith}
use Rattle.s370_storage.proofs.Registers.{word_in_row}
use Rattle.s370_storage.proofs.multiple.word_in_row.Goals as goal

pub returns : goal.returns
returns g c = omega (arith, c.from_be_bytes.ensures, word_in_row (g.P.Space.memory c.args._space.now) (g.P.Space.bytes c.args._space.now) c.args.row.now c.args.at c.args.n c.args.i c.requires.row c.requires.below)
