use Rattle.std.proofs.Common.{ap}
use Rattle.session_book.specs.Meaning.{ResultView}
use Rattle.count_session.proofs.JobLemmas.{result_at}
use Rattle.count_session.proofs.job.CountedResults.done.Goals as goal

pub returns : goal.returns
returns c = ap (λ (r : ResultView). r.done) (result_at c.args.self.now.slots.items c.args.t.0 c.index.result.now c.requires c.index.ensures)
