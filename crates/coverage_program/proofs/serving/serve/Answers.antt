use Rattle.std.proofs.Common.{refl}
use Rattle.cov_outside.specs.Adapters.{write_faults, written_by}
use Rattle.refusals.specs.Meaning.{sink_change}
use Rattle.coverage_program.proofs.FlushLemmas.{handed_on, lost}
use Rattle.coverage_program.proofs.serving.serve.Goals as goal

pub returns-in-Ok : goal.returns-in-Ok
returns-in-Ok g c =
    let k = sink_change (written_by g.W.Write.contents) write_faults c.args.sink.now c.cover-status.new.sink in
    (handed_on k _ _ _ c.flush.ensures.kept c.in-Ok.ensures.no_fault c.cover-status.ensures, λ other. c.in-Ok.ensures.none_held)

pub returns-in-Err : goal.returns-in-Err
returns-in-Err g c =
    let k = sink_change (written_by g.W.Write.contents) write_faults c.args.sink.now c.cover-status.new.sink in
    rw c.of.ensures (lost k _ _ _ c.flush.ensures.kept c.in-Err.ensures.one c.cover-status.ensures, λ other. absurd (other refl))
