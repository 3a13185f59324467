use Rattle.round_trip.proofs.RacedLemmas.{never_crosses}
use Rattle.round_trip.proofs.laws.raced_by_law.Goals as goal

pub returns : goal.returns
returns c = record { crossed = never_crosses }
