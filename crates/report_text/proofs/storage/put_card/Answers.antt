use Rattle.std.proofs.Common.{rules, arith}
use Rattle.report_text.proofs.FirstRowLemmas.{part_copied, part_missed}
use Rattle.report_text.proofs.storage.put_card.Goals as goal

pub returns-then-start-end : goal.returns-then-start-end
returns-then-start-end c bytes fits part =
    part_copied c.args.block.now c.copy_from_slice.new.self bytes c.args.card.now c.args.from c.max-start.result c.min-end.result (search rules) (search rules) (omega arith) (search rules) fits part

pub returns-else-start-end : goal.returns-else-start-end
returns-else-start-end c bytes fits part =
    part_missed c.args.block.now bytes c.args.card.now c.args.from c.max-start.result c.min-end.result (search rules) (search rules) (omega arith) fits part
