use Rattle.std.proofs.Common.{◌≡◌, Some, length, sym, ◌∙◌, ap, arith}
use Rattle.marks_file.specs.Meaning.{MarksView}
use Rattle.session_book.specs.Meaning.{SessionView}
use Rattle.evidence_check.specs.Meaning.{facts_of_modules, first_refuted}
use Rattle.evidence_check.proofs.CallLemmas.{own_there, found_claims, same_fields}
use Rattle.evidence_check.proofs.CountLemmas.{few_places, few_modules}
use Rattle.evidence_check.proofs.VerifiedLemmas.{passed_is, verified_passes}
use Rattle.evidence_check.proofs.verifying.verify.Goals as goal

pub facts_of_modules-facts-requires : goal.facts_of_modules-facts-requires
facts_of_modules-facts-requires c =
    rw c.deref.ensures.value (few_places (record { name = c.marks.inside.name; runs = c.marks.inside.runs; modules = c.marks.inside.modules.items }) c.marks.invariant)

pub returns-in-Some-clause-passes : goal.returns-in-Some-clause-passes
returns-in-Some-clause-passes c = verified_passes c.args.job.now c.args.tables.now c.args.s.0 c.args.marks.now.modules c.args.evidence.now c.task_count.ensures.job

pub returns-in-Err-clause-passes : goal.returns-in-Err-clause-passes
returns-in-Err-clause-passes c = verified_passes c.args.job.now c.args.tables.now c.args.s.0 c.args.marks.now.modules c.args.evidence.now c.task_count.ensures.job

pub check_modules-requires-clause-there : goal.check_modules-requires-clause-there
check_modules-requires-clause-there c =
    own_there c.args.job.now c.args.tables.now c.args.s.0 c.args.marks.now.modules c.deref-2.result.now c.deref-3.result.now c.range.ensures.all c.requires.own
    (c.deref-2.ensures.value ∙ ap (λ (m : MarksView). m.modules) c.marks.view_is) (c.deref-3.ensures.value ∙ ap (λ (x : SessionView). x.modules) (c.session.view_is ∙ c.session-session.ensures.value))

pub check_modules-requires-clause-rows : goal.check_modules-requires-clause-rows
check_modules-requires-clause-rows c =
    let view : MarksView = record { name = c.marks.inside.name; runs = c.marks.inside.runs; modules = c.marks.inside.modules.items } in
    let places = few_places view c.marks.invariant in
    let modules = few_modules view c.marks.invariant in
    rw c.deref-2.ensures.value (omega (arith, places, modules))

pub returns-in-Some-check_modules-clause-fault : goal.returns-in-Some-check_modules-clause-fault
returns-in-Some-check_modules-clause-fault c =
    let file : c.deref.result.now ≡ c.args.marks.now.modules = c.deref.ensures.value ∙ ap (λ (m : MarksView). m.modules) c.marks.view_is in
    let session = c.session.view_is ∙ c.session-session.ensures.value in
    let claims = found_claims c.args.job.now c.args.tables.now c.args.s.0 c.session.inside.phase c.in-Ok.found.items c.deref-4.result.now c.args.marks.now.modules c.deref-2.result.now c.deref-3.result.now c.args.evidence.now
    c.range.ensures.all c.requires.own c.in-Ok.ensures c.deref-4.ensures.value (c.deref-2.ensures.value ∙ ap (λ (m : MarksView). m.modules) c.marks.view_is) (ap (λ (x : SessionView). x.phase) session)
    (c.deref-3.ensures.value ∙ ap (λ (x : SessionView). x.modules) session) in
    let told : c.check_modules.result ≡ Some (c.in-Some-check_modules.row, c.in-Some-check_modules.fact) = c.in-Some-check_modules.is in (
      same_fields c.task_count.result (length c.args.job.now.tasks) c.facts_of_modules-facts.result (facts_of_modules c.args.marks.now.modules) c.args.evidence.now c.task_count.ensures.value (c.facts_of_modules-facts.ensures ∙ ap facts_of_modules file)
          ∙ sym c.in_default.ensures,
      ap first_refuted (sym claims) ∙ (sym c.check_modules.ensures ∙ told),
    )

pub returns-in-Some-check_modules-clause-passes : goal.returns-in-Some-check_modules-clause-passes
returns-in-Some-check_modules-clause-passes c = verified_passes c.args.job.now c.args.tables.now c.args.s.0 c.args.marks.now.modules c.args.evidence.now c.task_count.ensures.job

pub returns-clause-verified : goal.returns-clause-verified
returns-clause-verified c =
    let file : c.deref.result.now ≡ c.args.marks.now.modules = c.deref.ensures.value ∙ ap (λ (m : MarksView). m.modules) c.marks.view_is in
    let session = c.session.view_is ∙ c.session-session.ensures.value in
    let claims = found_claims c.args.job.now c.args.tables.now c.args.s.0 c.session.inside.phase c.in-Ok.found.items c.deref-4.result.now c.args.marks.now.modules c.deref-2.result.now c.deref-3.result.now c.args.evidence.now
    c.range.ensures.all c.requires.own c.in-Ok.ensures c.deref-4.ensures.value (c.deref-2.ensures.value ∙ ap (λ (m : MarksView). m.modules) c.marks.view_is) (ap (λ (x : SessionView). x.phase) session)
    (c.deref-3.ensures.value ∙ ap (λ (x : SessionView). x.modules) session) in
    passed_is c.args.job.now c.args.tables.now c.args.s.0 c.args.marks.now.modules c.args.evidence.now c.requires.own (record {
      fields = same_fields c.task_count.result (length c.args.job.now.tasks) c.facts_of_modules-facts.result (facts_of_modules c.args.marks.now.modules) c.args.evidence.now c.task_count.ensures.value (c.facts_of_modules-facts.ensures ∙ ap facts_of_modules file)
          ∙ sym c.in_default.ensures;
      claims = ap first_refuted (sym claims) ∙ (sym c.check_modules.ensures ∙ c.in-None.is);
    })

pub returns-clause-passes : goal.returns-clause-passes
returns-clause-passes c = verified_passes c.args.job.now c.args.tables.now c.args.s.0 c.args.marks.now.modules c.args.evidence.now c.task_count.ensures.job
