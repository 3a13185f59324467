use Rattle.std.proofs.Common.{◌+◌, ◌<◌, [], ◌∷◌, length, ap, ◌∙◌, arith}
use Rattle.std.proofs.lemmas.List.{length-append}
use Rattle.task_ends.specs.Meaning.{end_of}
use Rattle.task_ends.proofs.RunLemmas.{counted_more, added_end}
use Rattle.task_ends.proofs.running.find_ends.Goals as goal

pub loop-t-preserved : goal.loop-t-preserved
loop-t-preserved c =
    let job = c.args.job.now in
    let places = c.args.tables.now.places in
    let t = c.loop-t.t in
    let before = c.loop-t.invariant in
    let after = c.in_ok-add_task.ensures in
    let here : t < length job.tasks = omega (arith, c.loop-t-test.true, c.task_count-t-end.ensures.value) in
    record {
      room = after.room;
      size = rw after.end (length-append c.loop-t.ends.items (end_of job places t ∷ []) ∙ ap (λ n. n + 1) before.size);
      ends = λ k d lt. rw after.end (added_end job places c.loop-t.ends.items t before.size before.ends k d lt);
      counts = λ m inside. counted_more job places t c.loop-t.counts.items c.add_task.new.counts.items m here inside after.counts (before.counts m inside);
    }
