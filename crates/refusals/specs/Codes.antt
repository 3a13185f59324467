-- The exit codes.
use Rattle.std.specs.Prelude.{ℕ}
use Rattle.refusals.specs.declared.status.Reason.{Reason}
use Rattle.refusals.specs.declared.status.Reason.TheVariants as reason

abbrev pub exit_code : Reason → ℕ
exit_code reason.Served = 0
exit_code reason.Usage = 1
exit_code reason.BadJob = 2
exit_code reason.Mismatch = 3
exit_code reason.TooLarge = 4
exit_code reason.ReadFault = 5
exit_code reason.WriteFault = 6
exit_code reason.NoMemory = 7
exit_code reason.OwnSvc = 8
exit_code reason.BadSchedule = 9
exit_code reason.BadMarks = 10
exit_code reason.OtherTable = 11
exit_code reason.BadListing = 12
exit_code reason.NoSession = 13
exit_code reason.Controlled = 14
exit_code reason.BadEvidence = 15
exit_code reason.Refuted = 16
