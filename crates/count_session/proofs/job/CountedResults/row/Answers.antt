use Rattle.std.proofs.Common.{◌≡◌, List, length, sym, ◌∙◌, ap, arith}
use Rattle.session_book.specs.Meaning.{ResultView}
use Rattle.job_run.specs.Slots.{dones}
use Rattle.job_run.specs.Tasks.{results_of}
use Rattle.job_run.proofs.Laws.{row_range}
use Rattle.count_session.specs.Slots.{CountSlot}
use Rattle.count_session.proofs.JobLemmas.{result_at}
use Rattle.count_session.proofs.job.CountedResults.row.Goals as goal

pub row-requires : goal.row-requires
row-requires c =
    let slot : CountSlot = c.index.result.now in
    let slots : List CountSlot = c.args.self.now.slots.items in
    let same : slot.done.task.bench.space.bytes ≡ (results_of (dones slots) c.args.t.0).bytes = ap (λ (r : ResultView). r.bytes) (result_at slots c.args.t.0 slot c.requires.task c.index.ensures) in
    omega (arith, c.requires.exists, ap (λ (b : List _). length b) same)

pub returns : goal.returns
returns c =
    let slot : CountSlot = c.index.result.now in
    let slots : List CountSlot = c.args.self.now.slots.items in
    let same : (results_of (dones slots) c.args.t.0).bytes ≡ slot.done.task.bench.space.bytes = sym (ap (λ (r : ResultView). r.bytes) (result_at slots c.args.t.0 slot c.requires.task c.index.ensures)) in
    rw same (c.row.ensures ∙ row_range slot.done.task.bench.space.bytes c.args.n (omega (arith, c.requires.exists, ap (λ (b : List _). length b) same)))
