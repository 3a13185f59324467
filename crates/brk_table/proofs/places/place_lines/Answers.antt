use Rattle.std.proofs.Common.{arith}
use Rattle.brk_table.proofs.TabledLemmas.{only_at, none_at, tabled_none, tabled_all}
use Rattle.brk_table.proofs.places.place_lines.Goals as goal
use Rattle.brk_table.proofs.places.place_lines.Goals.{in-Some+in_ok-place_line, in_default}

pub place_line-requires-clause-line : goal.place_line-requires-clause-line
place_line-requires-clause-line c = (c.requires.cover.of_line c.loop-at.at c.in-Some.i c.loop-at-test.true c.in-Some.is).0

pub place_line-requires-clause-only : goal.place_line-requires-clause-only
place_line-requires-clause-only c = only_at c.args.lines.now c.args.cover.now c.loop-at.at c.in-Some.i c.requires.cover c.requires.sound c.loop-at-test.true c.in-Some.is

pub loop-at-preserved : goal.loop-at-preserved
loop-at-preserved c = elim c.match-cover-at.branch [
  | in-Some+in_ok-place_line w ↦ rw (w.places-is, w.entries-is) w.in_ok-place_line.ensures.tabled
  | in_default w ↦ rw (w.places-is, w.entries-is) (tabled_none _ _ _ _ _ _ c.loop-at.invariant (none_at c.args.lines.now c.args.cover.now c.loop-at.at c.requires.cover c.requires.sound c.loop-at-test.true w.in_default.is))
]

pub returns-clause-table : goal.returns-clause-table
returns-clause-table c = (tabled_all c.args.module c.args.base c.args.lines.now c.loop-at.at _ c.loop-at.places.items c.loop-at.entries c.loop-at.invariant (omega arith) c.requires.inside c.requires.sound).table

pub returns-clause-places : goal.returns-clause-places
returns-clause-places c = (tabled_all c.args.module c.args.base c.args.lines.now c.loop-at.at _ c.loop-at.places.items c.loop-at.entries c.loop-at.invariant (omega arith) c.requires.inside c.requires.sound).size
