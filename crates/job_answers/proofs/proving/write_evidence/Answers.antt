use Rattle.std.proofs.Common.{inl, inr, refl, subst}
use Rattle.refusals.specs.Told.{Told, Wanting}
use Rattle.refusals.specs.Meaning.{IsWritten, sink_change, no_memory_line}
use Rattle.job_answers.proofs.proving.write_evidence.Goals as goal

pub returns-in-Ok : goal.returns-in-Ok
returns-in-Ok g c = Told 0 _ (refl, refl) (inl (c.of.ensures, c.in-Ok.ensures.whole, c.in-Ok.ensures.later))

pub returns-in-Err-Failed : goal.returns-in-Err-Failed
returns-in-Err-Failed g c =
    let fault = rw c.in-Err-Failed.field-0-is at c.in-Err-Failed.ensures.fault in
    Told 0 _ (refl, refl) (inr (c.of-in-Err-Failed.ensures, fault.0, fault.1))

pub returns-in-Err-NoMemory : goal.returns-in-Err-NoMemory
returns-in-Err-NoMemory g c =
    let same = rw c.in-Err-NoMemory.field-0-is at c.in-Err-NoMemory.ensures.fault in
    Wanting (subst (λ x. IsWritten 7 no_memory_line (sink_change g.K.Sink.written g.K.Sink.faults x c.told_no_memory.new.sink) c.told_no_memory.result) same c.told_no_memory.ensures)
