use Rattle.brk_table.specs.Kept.{AreKept}
use Rattle.brk_table.specs.Places.{AreSeen}
use Rattle.brk_table.proofs.Laws.{are_in}
use Rattle.cov_base.specs.Meaning.{Memory}
use Rattle.session_book.specs.Meaning.{task_of, no_task}
use Rattle.space_map.proofs.Laws.{are_kept}
use Rattle.std.proofs.Common.{sym, subst}
use Rattle.task_services.proofs.begin.begin_alone.Goals as goal

pub begin-requires-clause-tables : goal.begin-requires-clause-tables
begin-requires-clause-tables c = are_in c.args.job.now.images c.args.tables.now c.requires.tables

pub returns-clause-shown : goal.returns-clause-shown
returns-clause-shown c =
    let job = c.args.job.now in
    let tables = c.args.tables.now in
    let begun = c.in_ok-cpu.ensures in
    let is = c.task_count.ensures.job in
    record {
      seen = subst (λ (m : Memory). AreSeen m tables.places) (sym begun.memory) begun.seen;
      kept = subst (λ (m : Memory). AreKept m tables) (sym begun.memory)
          (are_kept (task_of job c.args.t).private job.images tables (is.are_tasks c.args.t no_task c.requires.task).private is.images c.requires.tables);
    }
