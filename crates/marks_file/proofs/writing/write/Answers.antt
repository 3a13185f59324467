use Rattle.std.proofs.Common.{◌≡◌, List, length, All, subst, sym, ap, ◌∙◌, arith}
use Rattle.marks_file.specs.Meaning.{MarkedView, MarksView, file_bytes}
use Rattle.marks_file.specs.Marks.{HasRow}
use Rattle.marks_file.specs.declared.version.Version.TheVariants.{Second}
use Rattle.cov_outside.specs.Puts.{Puts}
use Rattle.cov_outside.proofs.Laws.{puts_flushed}
use Rattle.marks_file.proofs.MarksLemmas.{marks_have_rows, marks_count, kept_modules}
use Rattle.marks_file.proofs.writing.write.Goals as goal

pub put_file-requires-clause-rows : goal.put_file-requires-clause-rows
put_file-requires-clause-rows g c = subst (All HasRow) (sym c.deref.ensures.value) (marks_have_rows _ (kept_modules (record { name = c.m.inside.name; runs = c.m.inside.runs; modules = c.m.inside.modules.items }) c.m.invariant))

pub put_file-requires-clause-count : goal.put_file-requires-clause-count
put_file-requires-clause-count g c =
    let few = marks_count _ (kept_modules (record { name = c.m.inside.name; runs = c.m.inside.runs; modules = c.m.inside.modules.items }) c.m.invariant) in
    omega (arith, ap length c.deref.ensures.value, few)

pub returns : goal.returns
returns g c =
    let is : ◌≡◌ {A = MarksView} (record { name = c.m.inside.name; runs = c.m.inside.runs; modules = c.deref.result.now }) c.args.m.now = ap (λ (ms : List MarkedView). record { name = c.m.inside.name; runs = c.m.inside.runs; modules = ms }) c.deref.ensures.value ∙ c.m.view_is in
    puts_flushed {u = c.in_ok-put_file.field-0} (subst (Puts _ _ _ _ _ _ _) (ap (file_bytes Second) is) (rw c.new-buffer.ensures at c.in_ok-put_file.ensures)) c.flush.ensures.written
