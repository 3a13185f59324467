use Rattle.std.proofs.Common.{◌∙◌, sym, ap}
use Rattle.std.specs.List.{position_from}
use Rattle.interleave_core.proofs.Finds.{begins_at, found}
use Rattle.interleave_core.specs.Meaning.{place_at}
use Rattle.interleave_core.proofs.running.place_at.Goals as goal

pub returns-clause-value : goal.returns-clause-value
unfolding place_at
returns-clause-value c = λ w same.
    found c.args.tables.now.places c.args.a c.at.result c.len.ensures.places c.at.ensures.exists c.at.ensures.begins c.at.ensures.none ∙ ap (position_from (begins_at c.args.a) 0) (sym same)
