use Rattle.std.proofs.Common.{sym, ◌∙◌, arith}
use Rattle.std.proofs.lemmas.Bool.{eq-eqb, eqb-true}
use Rattle.brk_table.proofs.DecodedLemmas.{is_there, key_there}
use Rattle.brk_table.proofs.tables.Tables.comes_next.Goals as goal

pub returns-clause-there : goal.returns-clause-there
returns-clause-there c = λ t.
    is_there c.args.self.now c.args.kept.now _ c.args.last 1 c.args.a c.requires.kept c.requires.codes c.requires.last (omega arith) (omega arith) (eqb-true _ _ t ∙ c.get.ensures.value)

pub returns-clause-found : goal.returns-clause-found
returns-clause-found c = λ t.
    eq-eqb _ _ (key_there c.args.self.now c.args.kept.now _ c.args.last 1 c.args.a c.requires.kept c.requires.codes t ∙ sym c.get.ensures.value)
