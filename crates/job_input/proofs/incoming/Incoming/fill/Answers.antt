use Rattle.std.proofs.Common.{◌∙◌, arith}
use Rattle.std.proofs.lemmas.List.{length-take-le}
use Rattle.job_input.proofs.IncomingLemmas.{reached_more}
use Rattle.job_input.proofs.incoming.Incoming.fill.Goals as goal

pub loop-turn-preserved : goal.loop-turn-preserved
loop-turn-preserved g c =
    let h = c.loop-turn.invariant.reached in
    let read = c.in_ok-count.ensures in
    let count = c.in_ok-count.count in
    record {
      reached = reached_more _ _ _ c.loop-turn._turn c.loop-turn.room count c.loop-turn.self c.take.new.self _ h read.bytes (length-take-le count c.read_piece.new.buffer read.bound) (omega (arith, c.if-count-eq0.false)) read.within
          (c.in_ok-take.ensures.come h.bytes h.come) c.take.ensures.size;
      faults = read.no_fault ∙ c.loop-turn.invariant.faults;
      form = c.take.ensures.form ∙ c.loop-turn.invariant.form;
    }
