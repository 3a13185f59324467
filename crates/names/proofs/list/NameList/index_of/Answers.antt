use Rattle.std.proofs.Common.{◌∙◌}
use Rattle.names.proofs.ListLemmas.{index_is, differ_is}
use Rattle.names.proofs.list.NameList.index_of.Goals as goal

pub returns-clause-index : goal.returns-clause-index
returns-clause-index c = rw (← c.set-2.ensures) (c.get_index_of.ensures.index ∙ index_is c.set-2.result.now.keys c.args.name.now)

pub returns-clause-only : goal.returns-clause-only
returns-clause-only c = rw (← c.set.ensures) (differ_is c.set.result.now.keys c.len-count.ensures.unique)
