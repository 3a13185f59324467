use Rattle.std.proofs.Common.{◌≡◌, ℕ, ◌+◌, List, length, subst, sym, arith}
use Rattle.count_session.specs.Phases.{AreBefore, AreCounted}
use Rattle.count_session.specs.declared.counts.PlaceCount.{PlaceCount}
use Rattle.count_session.proofs.PassLemmas.{AreCounted-start, AreCounted-more}
use Rattle.count_session.proofs.job.count_phases.Goals as goal

pub loop-phase-init : goal.loop-phase-init
loop-phase-init g c = record {
  before = c.requires.before;
  counts = rw c.in_ok-phases.ensures.items (AreCounted-start c.args.job.now c.args.tables.now.places);
}

pub count_phase-requires-clause-phase : goal.count_phase-requires-clause-phase
count_phase-requires-clause-phase g c κs within = omega (arith, c.loop-phase-test.true, c.phase_count-count.ensures.value)

pub count_phase-requires-clause-before : goal.count_phase-requires-clause-before
count_phase-requires-clause-before g c κs within = c.loop-phase.invariant.before

pub loop-phase-preserved : goal.loop-phase-preserved
loop-phase-preserved g c =
    let phase : ℕ = c.loop-phase.phase in
    record {
      before = c.in_ok-counts.ensures.next;
      counts = subst (λ (cs : List (List PlaceCount)). AreCounted c.args.job.now c.args.tables.now.places (phase + 1) cs) (sym c.in_ok-push.ensures.items)
          (AreCounted-more c.args.job.now c.args.tables.now.places phase c.loop-phase.phases.items c.in_ok-counts.counts c.loop-phase.invariant.counts c.in_ok-counts.ensures.counts);
    }

pub returns-clause-counts : goal.returns-clause-counts
returns-clause-counts g c =
    let all : c.loop-phase.phase ≡ length c.args.job.now.phases = omega (arith, c.loop-phase-test.false, c.loop-phase.auto.phase-end, c.phase_count-count.ensures.value) in
    subst (λ (n : ℕ). AreCounted c.args.job.now c.args.tables.now.places n c.loop-phase.phases.items) all c.loop-phase.invariant.counts

pub returns-clause-through : goal.returns-clause-through
returns-clause-through g c =
    let all : c.loop-phase.phase ≡ length c.args.job.now.phases = omega (arith, c.loop-phase-test.false, c.loop-phase.auto.phase-end, c.phase_count-count.ensures.value) in
    subst (λ (n : ℕ). AreBefore c.args.job.now c.args.tables.now.places n c.loop-phase.slots) all c.loop-phase.invariant.before
