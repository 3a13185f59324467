use Rattle.std.proofs.Common.{refl}
use Rattle.count_session.proofs.AddLemmas.{Adds-refused}
use Rattle.count_session.proofs.counting.CountCellsObserver.refused.Goals as goal

pub returns-in-Some-clause-makes : goal.returns-in-Some-clause-makes
returns-in-Some-clause-makes c = Adds-refused _ _ _ c.in-Some.place.0 _ refl c.fetch.ensures.notes
