use Rattle.std.proofs.Common.{refl, ap, ◌∙◌}
use Rattle.s370_exec.specs.Effects.{is_plain}
use Rattle.s370_state.specs.declared.endings.Next.TheVariants.{On}
use Rattle.task_run.specs.Steps.{memory_at}
use Rattle.task_run.specs.declared.bench.Bench.{Bench}
use Rattle.task_run.proofs.BranchLemmas.{condition_effect, count_effect}
use Rattle.task_run.proofs.PlainGoes.{plain_goes}
use Rattle.task_run.proofs.instruction.carry_on_known.Goals as goal

pub returns-in-Condition-clause-goes : goal.returns-in-Condition-clause-goes
returns-in-Condition-clause-goes g c =
    let b = c.args.bench.now in
    let kept = c.args.kept.now.decoded in
    let known = rw c.in-Condition.is at c.requires.known in
    let new : Bench = record b { cpu = c.go_on_condition.new.cpu } in
    plain_goes g.O.Observer c.args.observer.now c.args.tables.now c.args.pass.now b new c.args.done kept.code kept.op On c.requires.fetched kept.operates (ap is_plain (kept.operates ∙ known.0)) refl
    (condition_effect (memory_at b) b.cpu new.cpu b.space.bytes b.io kept.code kept.next kept.follows known.0 c.go_on_condition.ensures) (g.met.O.Observer.no_call c.args.observer.now c.args.pass.now b.control)

pub returns-in-Count-clause-goes : goal.returns-in-Count-clause-goes
returns-in-Count-clause-goes g c =
    let b = c.args.bench.now in
    let kept = c.args.kept.now.decoded in
    let known = rw c.in-Count.is at c.requires.known in
    let new : Bench = record b { cpu = c.go_on_count.new.cpu } in
    plain_goes g.O.Observer c.args.observer.now c.args.tables.now c.args.pass.now b new c.args.done kept.code kept.op On c.requires.fetched kept.operates (ap is_plain (kept.operates ∙ known.0)) refl
    (count_effect (memory_at b) b.cpu new.cpu b.space.bytes b.io kept.code kept.next kept.follows known.0 c.go_on_count.ensures) (g.met.O.Observer.no_call c.args.observer.now c.args.pass.now b.control)
