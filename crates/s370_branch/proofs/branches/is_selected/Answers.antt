use Rattle.s370_branch.proofs.Selected.{selected_by_shift}
use Rattle.s370_branch.proofs.branches.is_selected.Goals as goal

pub returns : goal.returns
returns c = selected_by_shift c.args.mask c.args.code c.requires.mask c.requires.code
