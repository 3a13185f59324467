use Rattle.brk_table.specs.Meaning.{place_count}
use Rattle.std.proofs.Common.{◌≡◌, true, List, length, get_or, ap, sym, ◌∙◌, arith}
use Rattle.std.proofs.lemmas.List.{length-map}
use Rattle.marks_file.specs.Meaning.{MarkedView, MarksView, are_marks, unite}
use Rattle.marks_file.proofs.Laws.{kept_modules, length-unite}
use Rattle.session_book.specs.Meaning.{session_of}
use Rattle.session_marks.specs.Meaning.{marked_module, session_marks}
use Rattle.session_marks.specs.FromFile.{set_at, HaveSetsAt}
use Rattle.session_marks.proofs.SetsLemmas.{empty}
use Rattle.session_marks.proofs.SessionLemmas.{counts_united, session_within}
use Rattle.session_marks.proofs.OwnLemmas.{united_sets}
use Rattle.session_marks.proofs.from_file.session_sets.Goals as goal

pub sets_of-requires-clause-modules : goal.sets_of-requires-clause-modules
sets_of-requires-clause-modules c =
    let own = session_marks c.args.job.now c.args.tables.now empty c.args.s.0 in
    let union : c.combine.new.a.modules ≡ unite own c.args.file.now.modules = c.in_default.ensures.union ∙ ap (λ (x : MarksView). unite x.modules c.args.file.now.modules) c.in-Ok.ensures in
    let ms = (session_of c.args.job.now c.args.s.0).modules in
    ap length (c.deref.ensures.value ∙ (ap (λ (x : MarksView). x.modules) c.own.view_is ∙ union)) ∙ (length-unite own c.args.file.now.modules ∙ (length-map ms (marked_module c.args.job.now c.args.tables.now empty) ∙ ap length (sym c.requires.modules)))

pub sets_of-requires-clause-counts : goal.sets_of-requires-clause-counts
sets_of-requires-clause-counts c = λ i m d l.
    let own = session_marks c.args.job.now c.args.tables.now empty c.args.s.0 in
    let union : c.combine.new.a.modules ≡ unite own c.args.file.now.modules = c.in_default.ensures.union ∙ ap (λ (x : MarksView). unite x.modules c.args.file.now.modules) c.in-Ok.ensures in
    ap (λ (x : List MarkedView). length (get_or x i d).places) (c.deref.ensures.value ∙ (ap (λ (x : MarksView). x.modules) c.own.view_is ∙ union))
    ∙ (counts_united c.args.job.now c.args.tables.now empty (session_of c.args.job.now c.args.s.0).modules c.args.file.now.modules i m d (rw c.requires.modules at l)
    ∙ ap (λ x. place_count c.args.tables.now.tables (get_or x i m)) (sym c.requires.modules))

-- the file is the session's marks with the sets that were put
own_file : (c : goal.After-drop-own-inside-in-Ok-sets_of) → c.args.file.now.modules ≡ session_marks c.args.job.now c.args.tables.now (set_at c.in-Ok-sets_of.sets.items) c.args.s.0
own_file c =
    let file = c.args.file.now.modules in
    let own = session_marks c.args.job.now c.args.tables.now empty c.args.s.0 in
    let sets = set_at c.in-Ok-sets_of.sets.items in
    let items = c.own.inside.modules.items in
    let view : items ≡ c.combine.new.a.modules = ap (λ (x : MarksView). x.modules) c.own.view_is in
    let union : items ≡ unite own file = view ∙ (c.in_default.ensures.union ∙ ap (λ (x : MarksView). unite x.modules file) c.in-Ok.ensures) in
    let other : items ≡ unite file own = view ∙ (c.in_default.ensures.turned ∙ ap (λ (x : MarksView). unite file x.modules) c.in-Ok.ensures) in
    let have : HaveSetsAt c.args.tables.now.tables sets (length (session_of c.args.job.now c.args.s.0).modules) (session_of c.args.job.now c.args.s.0).modules items = rw (c.requires.modules, c.deref.ensures.value) at c.in-Ok-sets_of.ensures.sets in
    united_sets c.args.job.now c.args.tables.now c.args.s.0 file items sets union (sym union ∙ other) have

pub returns-in-Ok-sets_of-clause-same : goal.returns-in-Ok-sets_of-clause-same
returns-in-Ok-sets_of-clause-same c = own_file c

pub returns-in-Ok-sets_of-clause-sets : goal.returns-in-Ok-sets_of-clause-sets
returns-in-Ok-sets_of-clause-sets c =
    let rules : are_marks c.args.file.now.modules ≡ true = ap (λ (x : MarksView). are_marks x.modules) (sym c.file.view_is) ∙ kept_modules (record { name = c.file.inside.name; runs = c.file.inside.runs; modules = c.file.inside.modules.items }) c.file.invariant in
    record {
      exists = omega arith;
      size = c.in-Ok-sets_of.ensures.size;
      within = session_within c.args.job.now c.args.tables.now (set_at c.in-Ok-sets_of.sets.items) c.args.s.0 (ap are_marks (sym (own_file c)) ∙ rules);
    }
