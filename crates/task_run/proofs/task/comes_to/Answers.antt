use Rattle.std.proofs.Common.{◌≡◌, ◌+◌, ◌-◌, List, length, length-drop, take, drop, refl, ap, sym, subst, ◌∙◌, arith}
use Rattle.std.proofs.Math.Seq.{take-length}
use Rattle.brk_table.specs.declared.kept.Kept.{Kept}
use Rattle.brk_table.specs.Decoded.{AreFrom}
use Rattle.brk_table.proofs.Laws.{from_next}
use Rattle.task_run.proofs.PlaceLemmas.{begins_at}
use Rattle.task_run.proofs.task.comes_to.Goals as goal

-- a part that goes to the end
to_the_end : (kept : List Kept) → drop 1 kept ≡ take (length kept - 1) (drop 1 kept)
to_the_end kept = sym (ap (λ n. take n (drop 1 kept)) (sym (length-drop 1 kept)) ∙ take-length (drop 1 kept))

pub returns-then-comes_next-clause-position : goal.returns-then-comes_next-clause-position
returns-then-comes_next-clause-position c =
    let there = c.if-comes_next.ensures.there refl in
    let exists = there.exists in
    let count = c.requires.codes.count in
    record {
      places = c.if-comes_next.ensures.places;
      within = omega (arith, exists);
      from = subst (λ (kept : List Kept). AreFrom c.args.tables.now (c.args.position.now.place + 1) kept) (to_the_end c.args.position.now.kept.now)
          (from_next c.args.tables.now c.args.position.now.place c.args.position.now.kept.now c.requires.position.from (omega (arith, exists, count)));
    }

pub returns-then-comes_next-clause-placed : goal.returns-then-comes_next-clause-placed
returns-then-comes_next-clause-placed c =
    let there = c.if-comes_next.ensures.there refl in
    record { placed = begins_at c.args.tables.now.places c.args.cpu.now.ia (c.args.position.now.place + 1) c.if-comes_next.ensures.places there.exists (there.begins ∙ c.at-at.ensures); there = refl }
