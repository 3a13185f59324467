use Rattle.s370_state.proofs.ShortFields.{fields_below, fields_most}
use Rattle.s370_state.proofs.packed.field_at.Goals as goal

pub returns-in-None-clause-below : goal.returns-in-None-clause-below
returns-in-None-clause-below g c = fields_below _ _ c.args.at c.args.l c.other_field.result c.other_field.ensures

pub returns-in-None-clause-most : goal.returns-in-None-clause-most
returns-in-None-clause-most g c = fields_most _ _ c.args.at c.args.l c.other_field.result c.requires.length c.other_field.ensures
