use Rattle.std.proofs.Common.{refl}
use Rattle.brk_table.specs.Meaning.{module_code}
use Rattle.brk_table.proofs.fault.module_code.Goals as goal

pub returns : goal.returns
unfolding module_code
returns c = rw (c.of.ensures, c.module_byte.ensures, c.module_byte-2.ensures, c.module_byte-3.ensures, c.module_byte-4.ensures, c.module_byte-5.ensures, c.module_byte-6.ensures) refl
