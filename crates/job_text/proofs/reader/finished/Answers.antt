use Rattle.job_text.proofs.Readings.{told_answer}
use Rattle.job_text.proofs.reader.finished.Goals as goal

pub returns-in-Some-clause-answer : goal.returns-in-Some-clause-answer
returns-in-Some-clause-answer c = λ bytes h. rw c.in-Some.is (told_answer bytes (rw c.in-Some.is at h))

pub returns-in-None-clause-answer : goal.returns-in-None-clause-answer
returns-in-None-clause-answer c = λ bytes h. rw c.in-None.is (c.finish.ensures bytes (rw c.in-None.is at h))
