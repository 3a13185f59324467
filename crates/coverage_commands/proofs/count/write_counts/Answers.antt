use Rattle.job_run.specs.Slots.{dones}
use Rattle.refusals.specs.Told.{Wanting}
use Rattle.refusals.proofs.Laws.{written_as}
use Rattle.coverage_commands.proofs.CountLemmas.{are_whole, counted}
use Rattle.coverage_commands.proofs.count.write_counts.Goals as goal

pub count_job-requires-clause-whole : goal.count_job-requires-clause-whole
count_job-requires-clause-whole g c = λ lifetimes live. are_whole c.args.job.now c.requires.free

pub returns : goal.returns
returns g c =
    counted c.args.job.now c.args.tables.now (dones c.in-Ok.counted.slots.items) c.in-Ok.counted.counts _ _ c.in-Ok.ensures
    (written_as _ _ _ c.count_text.ensures c.status_of.ensures.whole c.status_of.ensures.failed)

pub returns-in_default : goal.returns-in_default
returns-in_default g c = Wanting c.told_no_memory.ensures
