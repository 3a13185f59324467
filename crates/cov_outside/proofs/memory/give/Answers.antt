use Rattle.std.proofs.Common.{◌≤◌, ◌+◌, length, arith}
use Rattle.cov_outside.proofs.Pieces.{piece_given}
use Rattle.cov_outside.proofs.memory.give.Goals as goal

pub returns-clause-given : goal.returns-clause-given
returns-clause-given c =
    let fits : c.args.at + c.min-count.result ≤ length c.args.bytes.now = omega (arith, c.min-count.ensures, c.requires.inside) in
    piece_given _ _ c.args.buf.now _ _ fits c.copy_from_slice.ensures.after
