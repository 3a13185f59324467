use Rattle.std.proofs.Common.{sym, ◌∙◌}
use Rattle.cov_base.proofs.NameLemmas.{padded_name, named}
use Rattle.cov_base.proofs.names.Name.read.Goals as goal

pub invariant_of-result : goal.invariant_of-result
invariant_of-result c =
    padded_name c.args.text.now _ (sym c.is_name.ensures ∙ c.if-not-is_name.false) c.filled.ensures

pub returns : goal.returns
returns c =
    named c.args.text.now _ (sym c.is_name.ensures ∙ c.if-not-is_name.false) c.filled.ensures
