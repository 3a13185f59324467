use Rattle.std.proofs.Common.{length, get_or, ap, subst, arith, sym, ◌∙◌, ◌≡◌, ◌⊎◌, ◌+◌, ◌<◌, ◌≤◌, ℕ, refl}
use Rattle.std.specs.Vec.{with_items}
use Rattle.std.proofs.lemmas.List.{with_items_is}
use Rattle.marks_file.specs.Meaning.{MarkedView}
use Rattle.brk_table.specs.Meaning.{first_place, place_count}
use Rattle.session_marks.specs.FromFile.{set_at, HasSetsAt, HaveSetsAt}
use Rattle.session_marks.proofs.SetsLemmas.{sets_step, outside_step}
use Rattle.session_marks.proofs.from_file.sets_of.Goals as goal

pub loop-i-preserved : goal.loop-i-preserved
loop-i-preserved c =
    let tables = c.args.tables.now.tables in
    let m = get_or c.args.modules.now c.loop-i.i 0 in
    let f = c.index-file-i.result in
    let same : c.deref.result.now ≡ f.places = c.deref.ensures.value ∙ ap (λ (x : MarkedView). x.places) c.marked.view_is in
    let long : length c.put.new.sets ≡ length c.loop-i.sets.items = c.put.auto.sets ∙ ap length c.deref_mut.ensures.value in
    let kept : (with_items c.loop-i.sets c.put.new.sets).items ≡ c.put.new.sets = with_items_is c.loop-i.sets c.put.new.sets (omega (arith, long, c.loop-i.sets.ok.0)) in
    let there : HasSetsAt (set_at c.put.new.sets) (first_place tables m) f.places = rw (c.range-first.ensures.first, same) at c.put.ensures.there in
    let others : (k : ℕ) → (k < first_place tables m) ⊎ (first_place tables m + length f.places ≤ k) → set_at c.put.new.sets k ≡ set_at c.loop-i.sets.items k = rw (c.range-first.ensures.first, same, c.deref_mut.ensures.value) at c.put.ensures.others in
    let count : length f.places ≡ place_count tables m = ap (λ (x : MarkedView). length x.places) c.index-file-i.is ∙ c.requires.counts c.loop-i.i 0 f c.loop-i-test.true in
    record {
      size = ap length kept ∙ (long ∙ c.loop-i.invariant.size);
      have = subst (λ xs. HaveSetsAt tables (set_at xs) (c.loop-i.i + 1) c.args.modules.now c.args.file.now) (sym kept)
          (sets_step tables (set_at c.loop-i.sets.items) (set_at c.put.new.sets) c.loop-i.i m c.args.modules.now c.args.file.now f c.requires.differ c.loop-i-test.true c.requires.modules c.requires.counts refl c.index-file-i.is c.loop-i.invariant.have there others);
      elsewhere = λ n out. ap (λ xs. set_at xs n) kept ∙ outside_step tables (set_at c.loop-i.sets.items) (set_at c.put.new.sets) c.loop-i.i m c.args.modules.now f c.loop-i-test.true refl count c.loop-i.invariant.elsewhere others n out;
    }
