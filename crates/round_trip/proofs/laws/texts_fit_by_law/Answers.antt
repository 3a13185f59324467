use Rattle.round_trip.proofs.LawLemmas.{verifies, shows, shows_run, shows_each}
use Rattle.round_trip.proofs.laws.texts_fit_by_law.Goals as goal

pub returns-clause-verified : goal.returns-clause-verified
returns-clause-verified c = verifies

pub returns-clause-answered : goal.returns-clause-answered
returns-clause-answered c = shows

pub returns-clause-shown : goal.returns-clause-shown
returns-clause-shown c = shows_run

pub returns-clause-whole : goal.returns-clause-whole
returns-clause-whole c = shows_each
