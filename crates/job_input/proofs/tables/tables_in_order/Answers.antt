use Rattle.std.proofs.Common.{◌≡◌, length, ap, arith}
use Rattle.brk_table.specs.Meaning.{TableView}
use Rattle.job_input.proofs.TableLemmas.{tables_skip, tables_more, tables_all, tables_faultless}
use Rattle.job_input.proofs.tables.tables_in_order.Goals as goal
use Rattle.job_input.proofs.tables.tables_in_order.Goals.{in-Some+in_ok-table+in_ok-push, in_default}

pub loop-m-preserved : goal.loop-m-preserved
loop-m-preserved c =
    let job = c.args.job.now in
    let m = c.loop-m.m in
    elim c.match-listing_at.branch [
      | in-Some+in_ok-table+in_ok-push w ↦ (let table = w.in_ok-table.table in
          let made = w.in_ok-table.ensures in
          let count : w.len.result ≡ length table.places = omega (arith, ap (λ (t : TableView). length t.places) w.table.view_is, w.table.inside.places.ok.0) in
          let more = tables_more job m c.loop-m.room c.loop-m.tables.items w.image_at.result.now w.in-Some.texts.now table w.image_at.ensures.value w.in-Some.ensures.value (omega arith) made.faultless made.table made.own made.count made.room c.loop-m.invariant in
          rw (w.tables-is, w.room-is, count, w.in_ok-push.ensures.items) more)
      | in_default w ↦ rw (w.tables-is, w.room-is) (tables_skip job m c.loop-m.room c.loop-m.tables.items (omega arith) w.in_default.ensures.value c.loop-m.invariant)
    ]

pub returns-clause-faultless : goal.returns-clause-faultless
returns-clause-faultless c = tables_faultless c.args.job.now c.loop-m.m c.loop-m.room c.loop-m.tables.items (omega arith) c.loop-m.invariant

pub returns-clause-matching : goal.returns-clause-matching
returns-clause-matching c = tables_all c.args.job.now c.loop-m.m c.loop-m.room c.loop-m.tables.items (omega arith) (omega arith) c.loop-m.invariant
