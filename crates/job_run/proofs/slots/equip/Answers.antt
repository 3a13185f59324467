use Rattle.job_run.proofs.slots.equip.Goals as goal

pub returns-clause-begun : goal.returns-clause-begun
returns-clause-begun g c j places t h = record { ending = h.ending; begun = h.begun; budget = h.budget; done = h.done }
