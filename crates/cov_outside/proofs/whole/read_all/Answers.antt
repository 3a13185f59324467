use Rattle.cov_outside.proofs.Pieces.{unheld_piece}
use Rattle.cov_outside.proofs.whole.read_all.Goals as goal

pub returns-in_err-count-clause-rest : goal.returns-in_err-count-clause-rest
returns-in_err-count-clause-rest g c =
    unheld_piece c.from_residual.result _ _ _ _ _ c.loop-turn.invariant.taken c.in_err-count.ensures.rest.1

pub returns-in_err-extend_from_slice-clause-rest : goal.returns-in_err-extend_from_slice-clause-rest
returns-in_err-extend_from_slice-clause-rest g c =
    unheld_piece c.from_residual-in_err-extend_from_slice.result _ _ _ _ _ c.loop-turn.invariant.taken c.in_ok-count.ensures.bytes
