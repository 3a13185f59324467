use Rattle.std.proofs.Common.{refl}
use Rattle.job_input.proofs.IncomingLemmas.{come_nothing}
use Rattle.job_input.proofs.incoming.Incoming.new.Goals as goal

pub returns-clause-nothing : goal.returns-clause-nothing
returns-clause-nothing c = come_nothing _ c.in_ok-reader.ensures.nothing c.in_ok-reader.ensures.grammar c.in_ok-reader.ensures.reading refl c.new-2.ensures.items
