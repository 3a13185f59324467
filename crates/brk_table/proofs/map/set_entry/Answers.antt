use Rattle.std.proofs.Common.{arith}
use Rattle.brk_table.proofs.MapLemmas.{set_value, set_kept}
use Rattle.brk_table.proofs.map.set_entry.Goals as goal

pub returns-clause-value : goal.returns-clause-value
returns-clause-value c = rw (c.slot_of-slot.ensures.value) (set_value c.args.pages.now c.args.entries.now c.args.a c.args.value c.requires.pages (omega arith))

pub returns-clause-kept : goal.returns-clause-kept
returns-clause-kept c = rw (c.slot_of-slot.ensures.value) (set_kept c.args.pages.now c.args.entries.now c.args.a c.args.value c.requires.pages (omega arith) c.requires.own)
