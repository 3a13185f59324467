use Rattle.std.proofs.Common.{◌≡◌}
use Rattle.job_input.proofs.IncomingLemmas.{HasReached}
use Rattle.job_input.proofs.incoming.Incoming.fill.Given as goal

abbrev pub invariant-loop-turn : goal.invariant-loop-turn
invariant-loop-turn g l = record {
  reached : HasReached (g.S.Source.left l.initial.source) (g.S.Source.left l.source) l._turn l.room l.self;
  faults : g.S.Source.faults l.source ≡ g.S.Source.faults l.initial.source;
  form : l.self.form ≡ l.initial.self.form;
}
