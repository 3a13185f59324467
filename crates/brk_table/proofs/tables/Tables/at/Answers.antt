use Rattle.std.proofs.Common.{◌≡◌, ◌%◌, false, ap, subst, refl, sym, ◌∙◌, arith}
use Rattle.module_area.specs.Meaning.{is_place}
use Rattle.brk_table.specs.Meaning.{TablesView}
use Rattle.brk_table.specs.Map.{entry_at}
use Rattle.brk_table.proofs.MapLemmas.{IsEntered, entered, odd_nowhere, zero_nowhere}
use Rattle.brk_table.proofs.tables.Tables.at.Goals as goal

pub returns-then-entry-eq0-clause-none : goal.returns-then-entry-eq0-clause-none
returns-then-entry-eq0-clause-none c =
    let places = ap (λ (v : TablesView). v.places) c.self.view_is in
    let zero_there : entry_at c.self.inside.pages.items c.self.inside.entries.items c.args.a ≡ 0 = rw (← c.deref.ensures.value, ← c.deref-2.ensures.value) (sym c.entry_at-entry.ensures ∙ c.if-entry-eq0.true) in
    let none = subst (λ x. is_place x c.args.a ≡ false) places (zero_nowhere c.self.inside.pages.items c.self.inside.entries.items c.self.inside.places.items c.args.a c.self.invariant.4 zero_there) in
    (λ e. none, λ e. refl)

pub returns-then-get-eq1-clause-none : goal.returns-then-get-eq1-clause-none
returns-then-get-eq1-clause-none c =
    let places = ap (λ (v : TablesView). v.places) c.self.view_is in
    let none = subst (λ x. is_place x c.args.a ≡ false) places (odd_nowhere c.self.inside.places.items c.args.a c.self.invariant.1 (omega arith)) in
    (λ e. none, λ e. refl)

pub returns : goal.returns
returns c =
    let places = ap (λ (v : TablesView). v.places) c.self.view_is in
    let is : c.entry_at-entry.result ≡ entry_at c.self.inside.pages.items c.self.inside.entries.items c.args.a = rw (← c.deref.ensures.value, ← c.deref-2.ensures.value) c.entry_at-entry.ensures in
    let even : c.args.a % 2 ≡ 0 = omega (arith, c.get.ensures.value) in
    let found = subst (λ x. IsEntered x c.args.a c.entry_at-entry.result) places (entered c.self.inside.pages.items c.self.inside.entries.items c.self.inside.places.items c.args.a c.entry_at-entry.result c.self.invariant.4 (omega arith) even is c.if-entry-eq0.false) in
    record {
      exists = found.exists;
      begins = found.begins;
      none = (λ e. absurd cc, λ e. absurd (let f = sym found.there ∙ e in cc));
    }
