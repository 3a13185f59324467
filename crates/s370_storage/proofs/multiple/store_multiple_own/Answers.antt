use Rattle.std.proofs.Common.{◌≡◌, ◌+◌, ◌-◌, ◌≤◌, ◌∙◌, arith}
use Rattle.s370_state.proofs.Laws.{passes}
use Rattle.s370_storage.specs.Meaning.{stored}
use Rattle.s370_storage.proofs.Registers.{row_stored}
use Rattle.s370_storage.proofs.multiple.store_multiple_own.Goals as goal

pub returns : goal.returns
returns g c =
    let r = c.args.it.now.first in
    let n = c.args.it.now.second - r + 1 in
    let last : r + n ≤ 16 = omega (arith, c.args.it.now.second_register) in
    let row = row_stored _ c.args.cpu.now.regs c.some_regs.result.now r c.second_based-at.result n n (omega arith) last (λ i l. c.some_regs.ensures.each i (omega (arith, c.some_regs.ensures.size))) in
    let bytes : g.P.Space.bytes c.put_words.new.self ≡ stored (g.P.Space.bytes c.args.space.now) c.args.cpu.now.regs r c.second_based-at.result n =
    c.put_words.ensures.bytes ∙ rw c.some_regs.ensures.size row in
    grind (arith, passes, bytes)
