-- A fault of one file as a fault of several.
use Rattle.marks_file.specs.declared.fault.MarksFault.{MarksFault}
use Rattle.marks_file.specs.declared.fault.MarksFault.TheVariants as one
use Rattle.marks_file.specs.declared.files.CombineFault.{CombineFault}
use Rattle.marks_file.specs.declared.files.CombineFault.TheVariants as all

abbrev pub fault_of : MarksFault → CombineFault
fault_of (one.BadMarks offset) = all.BadMarks offset
fault_of one.NoMemory = all.NoMemory
