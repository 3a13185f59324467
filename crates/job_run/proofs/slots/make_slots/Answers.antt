use Rattle.std.proofs.Common.{◌≡◌, ℕ, None, List, [], ◌∷◌, ◌++◌, length, refl, sym, ap, subst, arith, ◌<◌, get_or, replicate}
use Rattle.std.proofs.lemmas.List.{length-append}
use Rattle.job_run.specs.Slots.{AreEmpty}
use Rattle.job_run.specs.Tasks.{HasNotRun}
use Rattle.job_run.specs.declared.slots.Slot.{Slot}
use Rattle.job_run.proofs.EquipLemmas.{begun_more, empty_more}
use Rattle.job_run.proofs.slots.make_slots.Goals as goal

pub returns-clause-tasks : goal.returns-clause-tasks
returns-clause-tasks g c = record {
  count = omega (arith, c.loop-t.invariant.count, c.loop-t-test.false, c.task_count-count.ensures.value);
  begun = c.loop-t.invariant.begun;
}

pub loop-t-preserved : goal.loop-t-preserved
loop-t-preserved g c =
    let i = c.loop-t.invariant in
    let e : Slot _ _ = record { done = c.in_ok-done.done; pass = None; extra = None; apart = replicate 16 0 } in
    let items : c.push.new.self.items ≡ c.loop-t.slots.items ++ e ∷ [] = c.in_ok-push.ensures.items in
    let last : HasNotRun c.args.job.now c.args.tables.now.places (length c.loop-t.slots.items) e.done =
    subst (λ (n : ℕ). HasNotRun c.args.job.now c.args.tables.now.places n c.in_ok-done.done) (sym i.count) c.in_ok-done.ensures in
    record {
      count = omega (arith, i.count, ap (λ (ss : List (Slot _ _)). length ss) items, length-append c.loop-t.slots.items (e ∷ []));
      begun = subst (λ (ss : List (Slot _ _)). (k : ℕ) (d : Slot _ _) → k < length ss → HasNotRun c.args.job.now c.args.tables.now.places k (get_or ss k d).done) (sym items)
          (begun_more c.args.job.now c.args.tables.now.places c.loop-t.slots.items e i.begun last);
      empty = subst (λ (ss : List (Slot _ _)). AreEmpty ss) (sym items) (empty_more c.loop-t.slots.items e i.empty refl);
    }
