use Rattle.std.proofs.Common.{◌∙◌}
use Rattle.names.proofs.ListLemmas.{has_is}
use Rattle.names.proofs.list.NameList.has.Goals as goal

pub returns : goal.returns
returns c = rw (← c.set.ensures) (c.contains.ensures ∙ has_is c.set.result.now.keys c.args.name.now)
