use Rattle.std.proofs.Common.{subst, sym}
use Rattle.job_text.specs.Taken.{IsFed}
use Rattle.job_text.proofs.reader.JobReader.finish.Goals as goal

pub returns-clause-job : goal.returns-clause-job
returns-clause-job c = λ bytes h. rw (← c.self.view_is) (c.finished-read.ensures.answer bytes (subst (IsFed bytes) (sym c.self.view_is) h)).job

pub returns-clause-whole : goal.returns-clause-whole
returns-clause-whole c = λ bytes h. (c.finished-read.ensures.answer bytes (subst (IsFed bytes) (sym c.self.view_is) h)).whole

pub returns-clause-only : goal.returns-clause-only
returns-clause-only c = λ bytes h. rw (← c.self.view_is) (c.finished-read.ensures.answer bytes (subst (IsFed bytes) (sym c.self.view_is) h)).only

pub returns-clause-fault : goal.returns-clause-fault
returns-clause-fault c = λ bytes h. rw (← c.self.view_is) (c.finished-read.ensures.answer bytes (subst (IsFed bytes) (sym c.self.view_is) h)).fault
