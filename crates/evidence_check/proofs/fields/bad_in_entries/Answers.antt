use Rattle.std.proofs.Common.{sym, ◌∙◌, ap}
use Rattle.marks_file.specs.Meaning.{first_bad}
use Rattle.evidence_check.specs.Meaning.{entry_fields}
use Rattle.evidence_check.proofs.FieldLemmas.{entries_step, entries_stop}
use Rattle.evidence_check.proofs.fields.bad_in_entries.Goals as goal

pub returns-in-Some : goal.returns-in-Some
returns-in-Some c =
    entries_stop c.args.bytes.now c.args.tasks c.args.from c.args.count c.loop-i.at c.loop-i._i c.in-Some.bad c.loop-i.invariant c.loop-i-test.true
    (ap (λ t. first_bad (entry_fields c.args.tasks c.loop-i.at t)) (sym c.rest_of.ensures) ∙ sym c.in-Some.ensures)

pub loop-i-preserved : goal.loop-i-preserved
loop-i-preserved c =
    entries_step c.args.bytes.now c.args.tasks c.args.from c.args.count c.loop-i.at c.loop-i._i c.loop-i.invariant c.loop-i-test.true
    (ap (λ t. first_bad (entry_fields c.args.tasks c.loop-i.at t)) (sym c.rest_of.ensures) ∙ sym c.in-None.ensures)
