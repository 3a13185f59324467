use Rattle.std.proofs.Common.{◌≡◌, take, replicate, fold, length}
use Rattle.module_area.specs.Meaning.{with_card}
use Rattle.report_text.specs.FirstRows.{IsPartOf}
use Rattle.report_text.proofs.storage.put_cards.Given as goal

abbrev pub invariant-loop-i : goal.invariant-loop-i
invariant-loop-i l = record {
  part : IsPartOf l.block (fold with_card (replicate l.task.private 0) (take l.i l.task.cards)) l.from;
  size : length (fold with_card (replicate l.task.private 0) (take l.i l.task.cards)) ≡ l.task.private;
}
