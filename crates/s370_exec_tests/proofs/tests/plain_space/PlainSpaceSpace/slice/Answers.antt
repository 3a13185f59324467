use Rattle.std.proofs.Common.{◌≡◌, ◌+◌, ◌-◌, arith}
use Rattle.s370_exec_tests.specs.Plain.{memory_of}
use Rattle.s370_state.proofs.Laws.{bytes_inside}
use Rattle.s370_exec_tests.proofs.tests.plain_space.PlainSpaceSpace.slice.Goals as goal

pub returns-then-a-n-le16777216 : goal.returns-then-a-n-le16777216
unfolding memory_of
returns-then-a-n-le16777216 c =
    let s = c.args.self.now in
    let n : c.get.result + c.args.len - c.get.result ≡ c.args.len = omega arith in
    rw (n, c.deref.ensures.value, c.get.ensures.value) (bytes_inside (memory_of s.size s.base s.image.items s.touches.items) s.bytes.items c.args.at c.args.len (omega arith) (omega arith) s.in_size)
