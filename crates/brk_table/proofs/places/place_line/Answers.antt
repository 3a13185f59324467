use Rattle.std.proofs.Common.{◌≡◌, get_or, sym, ap, ◌∙◌, refl}
use Rattle.listing_reader.specs.declared.lines.Line.TheVariants.{Text}
use Rattle.listing_reader.specs.declared.lines.Line.TheVariants as says
use Rattle.brk_table.proofs.TabledLemmas.{tabled_more, tabled_none, NoneAt}
use Rattle.brk_table.proofs.places.place_line.Goals as goal
use Rattle.brk_table.proofs.places.place_line.Goals.{in-Some+in_ok-push, in_default}

pub returns-clause-tabled : goal.returns-clause-tabled
returns-clause-tabled c = elim c.match-begins.branch [
  | in-Some+in_ok-push w ↦ (
      let is : get_or c.args.lines.now c.args.i Text ≡ says.Code c.args.at w.in-Some.code = sym c.line.ensures ∙ w.in-Some.ensures.code in
      let more = tabled_more c.args.module c.args.base c.args.lines.now c.args.at c.args.places.now.items c.args.entries.now c.args.i w.in-Some.code c.requires.tabled c.requires.line is c.requires.only in
      rw (w.places-is, w.entries-is, w.in_ok-push.ensures.items, w.place_from.ensures, w.set.ensures, w.len.ensures, c.args.places.now.ok.0) more)
  | in_default w ↦ (
      let none : NoneAt c.args.lines.now c.args.at = λ j loc code b e q.
      (let same : j ≡ c.args.i = c.requires.only j loc code b e q in
      let is : c.line.result ≡ says.Code c.args.at code = c.line.ensures ∙ (ap (λ k. get_or c.args.lines.now k Text) (sym same) ∙ (e ∙ ap (λ k. says.Code k code) q)) in
      w.in_default.ensures.none refl code is) in
      rw (w.places-is, w.entries-is) (tabled_none _ _ _ _ _ _ c.requires.tabled none))
]
