use Rattle.std.proofs.Common.{◌≡◌, ◌∙◌, sym, ap, Some, get_or, rules}
use Rattle.std.proofs.lemmas.Bool.{not-true, not-false}
use Rattle.names.proofs.ListLemmas.{index_some, index_none}
use Rattle.names.proofs.list.NameList.add.Goals as goal

pub returns-then-is_new-clause-index : goal.returns-then-is_new-clause-index
returns-then-is_new-clause-index c =
    let set = get_or c.self.inside.names 0 c.index-self-0.result in
    let keys : set.keys ≡ c.args.self.now = search rules in
    rw (← keys) (sym (index_none c.args.name set.keys (not-true _ (sym c.in_ok-at.ensures.added ∙ c.if-is_new.true))))

pub returns-clause-index : goal.returns-clause-index
returns-clause-index c =
    let set = get_or c.self.inside.names 0 c.index-self-0.result in
    let keys : set.keys ≡ c.args.self.now = search rules in
    rw (← keys) (ap Some c.in_ok-at.ensures.index ∙ sym (index_some c.args.name set.keys (not-false _ (sym c.in_ok-at.ensures.added ∙ c.if-is_new.false))))
