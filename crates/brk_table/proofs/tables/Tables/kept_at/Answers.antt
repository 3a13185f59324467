use Rattle.std.proofs.Common.{sym, ◌∙◌, arith}
use Rattle.brk_table.proofs.DecodedLemmas.{first_there, key_from}
use Rattle.brk_table.proofs.tables.Tables.kept_at.Goals as goal

pub returns-then-kept-get-clause-there : goal.returns-then-kept-get-clause-there
returns-then-kept-get-clause-there c = λ t.
    first_there c.args.self.now c.kept_from-kept.result.now _ c.args.n c.args.a c.kept_from-kept.ensures c.requires.codes c.requires.n (omega arith) (c.if-kept-get.true ∙ c.get.ensures.value)

pub returns-else-kept-get-clause-found : goal.returns-else-kept-get-clause-found
returns-else-kept-get-clause-found c = λ t. absurd
    (c.if-kept-get.false (key_from c.args.self.now c.kept_from-kept.result.now _ c.args.n c.args.a c.kept_from-kept.ensures c.requires.codes t ∙ sym c.get.ensures.value))
