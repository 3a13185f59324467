use Rattle.s370_state.specs.Meaning.{machine_of}
use Rattle.s370_exec.proofs.Groups.{by_branch}
use Rattle.s370_exec.proofs.instruction.branch_apart.Goals as goal

pub returns : goal.returns
returns c = λ m bytes io e. by_branch m (machine_of c.args.cpu.now bytes) io c.args.it.now.code c.args.it.now.op c.args.next c.args.link c.branch-cpu.new.cpu c.requires.group c.branch-cpu.ensures
