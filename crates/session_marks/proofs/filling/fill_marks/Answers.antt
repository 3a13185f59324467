use Rattle.std.proofs.Common.{◌≡◌, true, ℕ, List, length, map, ap, sym, ◌∙◌}
use Rattle.std.proofs.lemmas.Bool.{and_from, and_parts}
use Rattle.std.specs.Vec.{with_items}
use Rattle.std.proofs.lemmas.List.{with_items_is, length-map}
use Rattle.cov_base.specs.Meaning.{FactSet, no_facts}
use Rattle.brk_table.specs.Meaning.{TablesView}
use Rattle.marks_file.specs.Meaning.{MarkedView, MarksView, is_runs, are_marks}
use Rattle.marks_file.proofs.Laws.{is_session_name, kept_modules, same_marks}
use Rattle.session_book.specs.Meaning.{JobView, session_of}
use Rattle.session_marks.specs.Filled.{filled}
use Rattle.session_marks.specs.Meaning.{marked_module, session_file}
use Rattle.session_marks.proofs.FillLemmas.{are_there, modules_are_filled, filled_are_marks}
use Rattle.session_marks.proofs.filling.fill_marks.Goals as goal

pub fill_modules-requires-clause-there : goal.fill_modules-requires-clause-there
fill_modules-requires-clause-there g c =
    let ms = (session_of c.args.job.now c.args.s.0).modules in
    let old : c.deref_mut.result.now ≡ map (marked_module c.args.job.now c.args.tables.now (λ n. no_facts)) ms = c.deref_mut.ensures.value ∙ ap (λ (x : MarksView). x.modules) (c.marks.view_is ∙ c.requires.empty) in
    rw (old, c.modules_of.ensures.value) (are_there c.args.job.now c.args.tables.now (λ n. no_facts) ms c.range.ensures.all)

pub invariant_of-marks : goal.invariant_of-marks
invariant_of-marks g c =
    let j : JobView = c.args.job.now in
    let t : TablesView = c.args.tables.now in
    let sets : ℕ → FactSet = g.R.FactSets.set_of c.args.sets.now c.args.s.0 in
    let ms : List ℕ = (session_of j c.args.s.0).modules in
    let is = c.modules_of.ensures.is in
    let old : c.marks.inside.modules.items ≡ map (marked_module j t (λ n. no_facts)) ms = ap (λ (x : MarksView). x.modules) (c.marks.view_is ∙ c.requires.empty) in
    let new : c.fill_modules.new.marked ≡ map (marked_module j t sets) ms =
    c.fill_modules.ensures ∙ (ap (λ (x : List MarkedView). filled t sets x c.modules_of.result.now) (c.deref_mut.ensures.value ∙ old) ∙ (ap (λ (y : List ℕ). filled t sets (map (marked_module j t (λ n. no_facts)) ms) y) c.modules_of.ensures.value ∙ modules_are_filled j t (λ n. no_facts) sets ms)) in
    let size : length c.fill_modules.new.marked ≡ length c.marks.inside.modules.items = ap length new ∙ (length-map ms (marked_module j t sets) ∙ (sym (length-map ms (marked_module j t (λ n. no_facts))) ∙ sym (ap length old))) in
    let kept : (with_items c.marks.inside.modules c.fill_modules.new.marked).items ≡ c.fill_modules.new.marked = with_items_is c.marks.inside.modules c.fill_modules.new.marked (size ∙ sym c.marks.inside.modules.ok.0) in
    let was : are_marks c.marks.inside.modules.items ≡ true = kept_modules (record { name = c.marks.inside.name; runs = c.marks.inside.runs; modules = c.marks.inside.modules.items }) c.marks.invariant in
    and_from (is_session_name c.marks.inside.name) _ (and_parts (is_session_name c.marks.inside.name) _ c.marks.invariant).0
    (and_from (is_runs c.marks.inside.runs) _ (and_parts (is_runs c.marks.inside.runs) _ (and_parts (is_session_name c.marks.inside.name) _ c.marks.invariant).1).0
    (ap are_marks (kept ∙ new) ∙ filled_are_marks j t (λ n. no_facts) sets ms (record { job = c.modules_of.ensures.job; are = c.requires.tables; places = c.range.ensures.all }) is.some is.modules is.differ c.requires.sets.within (ap are_marks (sym old) ∙ was)))

pub returns : goal.returns
returns g c =
    let j : JobView = c.args.job.now in
    let t : TablesView = c.args.tables.now in
    let sets : ℕ → FactSet = g.R.FactSets.set_of c.args.sets.now c.args.s.0 in
    let ms : List ℕ = (session_of j c.args.s.0).modules in
    let old : c.marks.inside.modules.items ≡ map (marked_module j t (λ n. no_facts)) ms = ap (λ (x : MarksView). x.modules) (c.marks.view_is ∙ c.requires.empty) in
    let new : c.fill_modules.new.marked ≡ map (marked_module j t sets) ms =
    c.fill_modules.ensures ∙ (ap (λ (x : List MarkedView). filled t sets x c.modules_of.result.now) (c.deref_mut.ensures.value ∙ old) ∙ (ap (λ (y : List ℕ). filled t sets (map (marked_module j t (λ n. no_facts)) ms) y) c.modules_of.ensures.value ∙ modules_are_filled j t (λ n. no_facts) sets ms)) in
    let size : length c.fill_modules.new.marked ≡ length c.marks.inside.modules.items = ap length new ∙ (length-map ms (marked_module j t sets) ∙ (sym (length-map ms (marked_module j t (λ n. no_facts))) ∙ sym (ap length old))) in
    let kept : (with_items c.marks.inside.modules c.fill_modules.new.marked).items ≡ c.fill_modules.new.marked = with_items_is c.marks.inside.modules c.fill_modules.new.marked (size ∙ sym c.marks.inside.modules.ok.0) in
    let before : c.marks.inside.name ≡ (session_file j t (λ n. no_facts) c.args.s.0).name = ap (λ (x : MarksView). x.name) (c.marks.view_is ∙ c.requires.empty) in
    same_marks c.marks.inside.name c.marks.inside.runs (with_items c.marks.inside.modules c.fill_modules.new.marked).items (session_file j t sets c.args.s.0) before (ap (λ (x : MarksView). x.runs) (c.marks.view_is ∙ c.requires.empty)) (kept ∙ new)
