use Rattle.std.proofs.Common.{◌≡◌, true, refl, length, All, ap, subst, sym, ◌∙◌, arith}
use Rattle.std.proofs.lemmas.Bool.{and_from, and_parts}
use Rattle.std.specs.Vec.{with_items}
use Rattle.std.proofs.lemmas.List.{with_items_is}
use Rattle.marks_file.specs.Meaning.{MarksView, is_runs, are_marks, place_total, rows, unite}
use Rattle.marks_file.specs.Marks.{HasRow}
use Rattle.marks_file.proofs.Parts.{is_session_name}
use Rattle.marks_file.proofs.MarksLemmas.{marks_have_rows, marks_count, kept_modules}
use Rattle.marks_file.specs.Combine.{SameTables}
use Rattle.marks_file.proofs.UnionLemmas.{union_is_marks, length-unite, tables_rows, marks_places}
use Rattle.marks_file.proofs.AnswerLemmas.{none_other}
use Rattle.marks_file.proofs.LawLemmas.{file_itself}
use Rattle.marks_file.proofs.FilesLemmas.{held_runs}
use Rattle.marks_file.proofs.SameFiles.{unite_turned, file_again}
use Rattle.marks_file.proofs.union.combine.Goals as goal

pub first_difference-requires-clause-left : goal.first_difference-requires-clause-left
first_difference-requires-clause-left c =
    let kept : are_marks c.a.inside.modules.items ≡ true = kept_modules (record { name = c.a.inside.name; runs = c.a.inside.runs; modules = c.a.inside.modules.items }) c.a.invariant in
    subst (All HasRow) (sym c.deref.ensures.value) (marks_have_rows _ kept)

pub first_difference-requires-clause-right : goal.first_difference-requires-clause-right
first_difference-requires-clause-right c =
    let kept : are_marks c.b.inside.modules.items ≡ true = kept_modules (record { name = c.b.inside.name; runs = c.b.inside.runs; modules = c.b.inside.modules.items }) c.b.invariant in
    subst (All HasRow) (sym c.deref-2.ensures.value) (marks_have_rows _ kept)

pub first_difference-requires-clause-fits : goal.first_difference-requires-clause-fits
first_difference-requires-clause-fits c =
    let kept : are_marks c.a.inside.modules.items ≡ true = kept_modules (record { name = c.a.inside.name; runs = c.a.inside.runs; modules = c.a.inside.modules.items }) c.a.invariant in
    let few = marks_count _ kept in
    let places = marks_places _ kept in
    omega (arith, ap length c.deref.ensures.value, ap place_total c.deref.ensures.value, few, places)

pub invariant_of-a : goal.invariant_of-a
invariant_of-a c =
    let first : are_marks c.a.inside.modules.items ≡ true = kept_modules (record { name = c.a.inside.name; runs = c.a.inside.runs; modules = c.a.inside.modules.items }) c.a.invariant in
    let second : are_marks c.b.inside.modules.items ≡ true = kept_modules (record { name = c.b.inside.name; runs = c.b.inside.runs; modules = c.b.inside.modules.items }) c.b.invariant in
    let found : SameTables c.deref.result.now c.deref-2.result.now = c.in-None.ensures.none refl in
    let same : SameTables c.a.inside.modules.items c.b.inside.modules.items = rw (c.deref.ensures.value, c.deref-2.ensures.value) at found in
    let u : c.unite.new.a ≡ unite c.a.inside.modules.items c.b.inside.modules.items = c.unite.ensures ∙ (ap (λ x. unite x c.deref-in-None.result.now) c.deref_mut.ensures.value ∙ ap (λ y. unite c.a.inside.modules.items y) c.deref-in-None.ensures.value) in
    let kept : (with_items c.a.inside.modules c.unite.new.a).items ≡ c.unite.new.a = with_items_is c.a.inside.modules c.unite.new.a (ap length u ∙ (length-unite c.a.inside.modules.items c.b.inside.modules.items ∙ sym c.a.inside.modules.ok.0)) in
    let runs_a : is_runs c.a.inside.runs ≡ true = (and_parts (is_runs c.a.inside.runs) _ (and_parts (is_session_name c.a.inside.name) _ c.a.invariant).1).0 in
    let runs_b : is_runs c.b.inside.runs ≡ true = (and_parts (is_runs c.b.inside.runs) _ (and_parts (is_session_name c.b.inside.name) _ c.b.invariant).1).0 in
    and_from (is_session_name c.a.inside.name) _ (and_parts (is_session_name c.a.inside.name) _ c.a.invariant).0
    (and_from (is_runs _) _ (ap is_runs c.saturating_add-a-inside.ensures ∙ held_runs c.a.inside.runs c.b.inside.runs runs_a runs_b)
    (ap are_marks (kept ∙ u) ∙ union_is_marks _ _ first second same))

pub returns-in-None-clause-same : goal.returns-in-None-clause-same
returns-in-None-clause-same c =
    let found : SameTables c.deref.result.now c.deref-2.result.now = c.in-None.ensures.none refl in
    let same : SameTables c.a.inside.modules.items c.b.inside.modules.items = rw (c.deref.ensures.value, c.deref-2.ensures.value) at found in
    sym (ap (λ (m : MarksView). rows m.modules) c.a.view_is) ∙ (tables_rows _ _ same ∙ ap (λ (m : MarksView). rows m.modules) c.b.view_is)

pub returns-in-None-clause-union : goal.returns-in-None-clause-union
returns-in-None-clause-union c =
    let u : c.unite.new.a ≡ unite c.a.inside.modules.items c.b.inside.modules.items = c.unite.ensures ∙ (ap (λ x. unite x c.deref-in-None.result.now) c.deref_mut.ensures.value ∙ ap (λ y. unite c.a.inside.modules.items y) c.deref-in-None.ensures.value) in
    let kept : (with_items c.a.inside.modules c.unite.new.a).items ≡ c.unite.new.a = with_items_is c.a.inside.modules c.unite.new.a (ap length u ∙ (length-unite c.a.inside.modules.items c.b.inside.modules.items ∙ sym c.a.inside.modules.ok.0)) in
    kept ∙ (u ∙ (ap (λ (x : MarksView). unite x.modules c.b.inside.modules.items) c.a.view_is ∙ ap (λ (y : MarksView). unite c.args.a.now.modules y.modules) c.b.view_is))

pub returns-in-None-clause-turned : goal.returns-in-None-clause-turned
returns-in-None-clause-turned c =
    let first : are_marks c.args.a.now.modules ≡ true = sym (ap (λ (m : MarksView). are_marks m.modules) c.a.view_is) ∙ kept_modules (record { name = c.a.inside.name; runs = c.a.inside.runs; modules = c.a.inside.modules.items }) c.a.invariant in
    let second : are_marks c.args.b.now.modules ≡ true = sym (ap (λ (m : MarksView). are_marks m.modules) c.b.view_is) ∙ kept_modules (record { name = c.b.inside.name; runs = c.b.inside.runs; modules = c.b.inside.modules.items }) c.b.invariant in
    returns-in-None-clause-union c ∙ unite_turned c.args.a.now.modules c.args.b.now.modules first second (returns-in-None-clause-same c)

pub returns-in-None-clause-again : goal.returns-in-None-clause-again
returns-in-None-clause-again c =
    let is = returns-in-None-clause-union c in
    ap (λ m. unite m c.args.b.now.modules) is ∙ (file_again c.args.a.now.modules c.args.b.now.modules ∙ sym is)

pub returns-in-None-clause-same_file : goal.returns-in-None-clause-same_file
returns-in-None-clause-same_file c e =
    returns-in-None-clause-union c ∙ (ap (λ m. unite c.args.a.now.modules m) e ∙ file_itself c.args.a.now.modules)

pub returns-in-Some-clause-same_file_ok : goal.returns-in-Some-clause-same_file_ok
returns-in-Some-clause-same_file_ok c e =
    let own : c.a.inside.modules.items ≡ c.args.a.now.modules = ap (λ (m : MarksView). m.modules) c.a.view_is in
    let other : c.b.inside.modules.items ≡ c.args.b.now.modules = ap (λ (m : MarksView). m.modules) c.b.view_is in
    let same : c.deref-2.result.now ≡ c.deref.result.now = c.deref-2.ensures.value ∙ (other ∙ (e ∙ (sym own ∙ sym c.deref.ensures.value))) in
    absurd (none_other _ _ _ same c.in-Some.ensures.some)
