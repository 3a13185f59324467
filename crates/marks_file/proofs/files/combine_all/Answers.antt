use Rattle.marks_file.proofs.FilesLemmas.{files_start, files_step, other_fault}
use Rattle.marks_file.proofs.files.combine_all.Goals as goal

pub loop-at-init : goal.loop-at-init
loop-at-init c = files_start c.args.bytes.now c.in_ok-first.end c.in_ok-first.first c.in_ok-first.ensures.rules c.in_ok-first.ensures.file

pub returns-in-Err-clause-fault : goal.returns-in-Err-clause-fault
returns-in-Err-clause-fault c = other_fault c.args.bytes.now c.loop-at.at c.in_ok-next.end c.loop-at.all c.in_ok-next.next _ c.loop-at.invariant c.in_ok-next.ensures.rules c.in_ok-next.ensures.file c.in-Err.ensures.other

pub loop-at-preserved : goal.loop-at-preserved
loop-at-preserved c = files_step c.args.bytes.now c.loop-at.at c.in_ok-next.end c.loop-at.all c.in_ok-next.next _ c.loop-at.invariant c.in_ok-next.ensures.rules c.in_ok-next.ensures.file c.in_default.ensures.same c.in_default.ensures.first_name c.in_default.ensures.all_runs c.in_default.ensures.union
