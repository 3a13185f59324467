-- The slots of a count, which keeps nothing beside a task and its pass.
use Rattle.job_run.specs.declared.slots.Slot.{Slot}
use Rattle.count_session.specs.declared.pass.CountPass.{CountPass}

abbrev pub CountSlot : Type 0
CountSlot = Slot CountPass (Unit {0})
