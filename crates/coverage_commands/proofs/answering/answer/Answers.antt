use Rattle.std.proofs.Common.{◌≡◌, false, rules, subst}
use Rattle.coverage_commands.specs.Meaning.{Answers}
use Rattle.refusals.specs.Meaning.{sink_change}
use Rattle.run_reports.specs.Meaning.{areas_change}
use Rattle.job_input.specs.Meaning.{source_change}
use Rattle.job_input.specs.declared.words.Command.{Command}
use Rattle.coverage_commands.specs.Words.{runs_threads}
use Rattle.coverage_commands.proofs.AnswerLemmas.{alike}
use Rattle.coverage_commands.proofs.answering.answer.Goals as goal

pub returns-in-Count : goal.returns-in-Count
returns-in-Count g c =
    let a = areas_change g.A.Areas.ledger g.A.Areas.finals g.A.Areas.made c.args.areas.now c.args.areas.now in
    rw c.in-Count.is (c.answer_count.ensures a.before)

pub returns-in-Table : goal.returns-in-Table
returns-in-Table g c =
    let none : runs_threads c.args.command ≡ false = search rules in
    let a = areas_change g.A.Areas.ledger g.A.Areas.finals g.A.Areas.made c.args.areas.now c.args.areas.now in
    subst (λ (d : Command). Answers d (source_change g.S.Source.left g.S.Source.faults c.args.source.now c.answer_one.new.source) a (sink_change g.K.Sink.written g.K.Sink.faults c.args.sink.now c.answer_one.new.sink) c.answer_one.result)
    (alike c.args.command none) (c.answer_one.ensures a.before)
