use Rattle.std.proofs.Common.{rules, ◌≡◌, false, is_none, length, ap, sym, ◌∙◌}
use Rattle.interleave_core.specs.Meaning.{next_of}
use Rattle.interleave_core.proofs.GoneLemmas.{is_there, has_gone}
use Rattle.interleave_core.proofs.interleaving.Core.go.Goals as goal

pub returns-clause-gone : goal.returns-clause-gone
returns-clause-gone c =
    let w = c.args.self.now.world in
    let none : is_none c.next.result ≡ false = search rules in
    let some : is_none (next_of w c.args.self.now.parts c.args.t) ≡ false = ap (λ o. is_none o) (sym c.next.ensures.value) ∙ none in
    has_gone w c.args.self.now.parts c.go_on.new.self.parts c.args.t c.fits.ensures.world.is_plan some c.go_on.ensures.run
    (c.go_on.ensures.ended (is_there c.next.result (length w.job.tasks) c.args.t.0 _ c.next.ensures.none none))
