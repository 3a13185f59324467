use Rattle.std.proofs.Common.{◌≡◌, ℕ, Some, inl, ◌∙◌, ap}
use Rattle.cov_base.specs.declared.numbers.TaskNo.{TaskNo}
use Rattle.module_area.specs.Meaning.{places_under}
use Rattle.module_area.specs.Notes.{Notes}
use Rattle.early_report.specs.DrainView.{DrainView}
use Rattle.early_report.specs.Drains.{from_entry, entry_of, polled}
use Rattle.early_report.proofs.LookLemmas.{Polls-looks, Polls-working, looking_trans}
use Rattle.early_report.proofs.ReadLemmas.{Reads-looks}
use Rattle.early_report.proofs.runner.ask.Goals as goal

pub returns-in-Pending-clause-looking : goal.returns-in-Pending-clause-looking
returns-in-Pending-clause-looking g c = Polls-looks (g.C.Cells.notes c.args.pass.now) (g.C.Cells.notes c.drain_poll.new.pass) (from_entry c.args.drain.now.last c.args.drain.now.noted) (entry_of c.drain_poll.result) c.drain_poll.ensures.polls

pub returns-in-Pending-clause-asked : goal.returns-in-Pending-clause-asked
returns-in-Pending-clause-asked g c =
    let d : DrainView = c.args.drain.now in
    let x : TaskNo × ℕ = (c.in-Pending.task, c.in-Pending.number) in
    let new : c.drain_poll.new.drain ≡ polled d (Some x) = c.drain_poll.ensures.drain ∙ ap (λ p. polled d (entry_of p)) c.in-Pending.is in
    inl record {
      session = ap (λ (d : DrainView). d.session) new;
      stage = ap (λ (d : DrainView). d.stage) new ∙ c.requires.begun;
      tie = rw c.requires.plan at c.drain_poll.ensures.tied;
      entry = x;
      last = ap (λ (d : DrainView). d.last) new;
      working = Polls-working _ _ _ _ c.drain_poll.ensures.polls x (ap entry_of c.in-Pending.is);
      polled = ap (λ (d : DrainView). d.polls) new;
    }

pub returns-clause-looking : goal.returns-clause-looking
returns-clause-looking g c =
    let old : Notes = g.C.Cells.notes c.args.pass.now in
    let mid : Notes = g.C.Cells.notes c.drain_poll.new.pass in
    let new : Notes = g.C.Cells.notes c.drain_take.new.pass in
    looking_trans old mid new
    (Polls-looks old mid (from_entry c.args.drain.now.last c.args.drain.now.noted) (entry_of c.drain_poll.result) c.drain_poll.ensures.polls)
    (Reads-looks c.args.plan.now c.drain_poll.new.drain.session mid new (places_under c.args.plan.now c.drain_poll.new.drain.session) c.drain_take.new.drain.sets c.drain_take.ensures.reads)
