use Rattle.std.proofs.Common.{◌≤◌, length, ◌∙◌, ap, arith}
use Rattle.job_run.specs.Crews.{PhaseView, CanGo, Goes, is_its}
use Rattle.job_run.proofs.CrewLemmas.{stands_still}
use Rattle.job_run.proofs.RangeLemmas.{all_after, each_in_part, part_size}
use Rattle.job_run.proofs.crew.run_those.Goals as goal

pub slice_bounds-run_slots-end : goal.slice_bounds-run_slots-end
slice_bounds-run_slots-end g c = omega (arith, c.range_of-range.ensures.exists, c.requires.count)

pub run_slots-requires-clause-number : goal.run_slots-requires-clause-number
run_slots-requires-clause-number g c κs within =
    let r = c.range_of-range.ensures in
    let most : c.range_of-range.result.end ≤ length c.args.slots.now = omega (arith, r.exists, c.requires.count) in
    omega (arith, r.order, most, part_size c.args.slots.now c.range_of-range.result.start c.range_of-range.result.end r.order most, c.requires.number)

pub run_slots-requires-clause-can : goal.run_slots-requires-clause-can
run_slots-requires-clause-can g c κs within =
    each_in_part (CanGo (g.C.Crew.IsFresh c.args.crew.now) (g.C.Crew.CanRun c.args.crew.now) (g.C.Crew.phase c.args.crew.now)) c.args.slots.now
    c.range_of-range.result.start c.range_of-range.result.end c.range_of-range.ensures.order (omega (arith, c.range_of-range.ensures.exists, c.requires.count)) c.requires.can

pub returns : goal.returns
returns g c =
    all_after (Goes (g.C.Crew.HasRun c.args.crew.now) (g.C.Crew.Ends c.args.crew.now)) c.args.job.now c.args.phase
    c.args.slots.now c.run_slots.new.slots c.range_of-range.result.start c.range_of-range.result.end c.range_of-range.ensures c.requires.count
    (λ t d l of. stands_still (g.C.Crew.IsFresh c.args.crew.now) (g.C.Crew.HasRun c.args.crew.now) (g.C.Crew.CanRun c.args.crew.now) (g.C.Crew.Ends c.args.crew.now) (g.C.Crew.phase c.args.crew.now) t _
    (c.requires.others t d l (ap (λ (p : PhaseView). is_its p t) c.requires.phase ∙ of))) c.run_slots.ensures
