use Rattle.std.proofs.Common.{◌≡◌, [], ◌∷◌, ◌++◌, ◌-◌, length, take, drop, codes, decimal, ap, sym, ◌∙◌, length-drop}
use Rattle.std.proofs.Math.Seq.{take-length}
use Rattle.report_text.specs.Meaning.{state_lines, task_words, register_line}
use Rattle.report_text.proofs.WriteLemmas.{progress_start, progress_more, progress_exit, progress_last}
use Rattle.report_text.proofs.tasks.state_part.Goals as goal

pub returns-in_err-put : goal.returns-in_err-put
unfolding state_lines
returns-in_err-put g c =
    let one : c.task_line.result.items ≡ (task_words c.args.name.now c.args.ending c.args.done ++ codes " CC " ++ decimal c.args.cpu.now.condition) ++ 10 ∷ [] = rw c.condition.ensures.value at c.task_line.ensures in
    progress_exit _ c.from_residual.ensures.0 (c.in_err-put.ensures _ one) progress_start

pub returns-in_err-put-2 : goal.returns-in_err-put-2
unfolding state_lines
returns-in_err-put-2 g c =
    let one : c.task_line.result.items ≡ (task_words c.args.name.now c.args.ending c.args.done ++ codes " CC " ++ decimal c.args.cpu.now.condition) ++ 10 ∷ [] = rw c.condition.ensures.value at c.task_line.ensures in
    let low : c.register_line.result.items ≡ register_line (codes "R0") (take 8 c.args.cpu.now.regs) ++ 10 ∷ [] = rw c.regs.ensures.registers at c.register_line.ensures in
    let first = progress_more (c.in_ok-put.ensures _ one) progress_start in
    progress_exit _ c.from_residual-in_err-put-2.ensures.0 (c.in_err-put-2.ensures _ low) first

pub returns : goal.returns
unfolding state_lines
returns g c =
    let one : c.task_line.result.items ≡ (task_words c.args.name.now c.args.ending c.args.done ++ codes " CC " ++ decimal c.args.cpu.now.condition) ++ 10 ∷ [] = rw c.condition.ensures.value at c.task_line.ensures in
    let low : c.register_line.result.items ≡ register_line (codes "R0") (take 8 c.args.cpu.now.regs) ++ 10 ∷ [] = rw c.regs.ensures.registers at c.register_line.ensures in
    let regs = c.args.cpu.now.regs in
    let rest : take (length regs - 8) (drop 8 regs) ≡ drop 8 regs = ap (λ n. take n (drop 8 regs)) (sym (length-drop 8 regs)) ∙ take-length (drop 8 regs) in
    let high : c.register_line-2.result.items ≡ register_line (codes "R8") (drop 8 c.args.cpu.now.regs) ++ 10 ∷ [] = rw (c.regs-2.ensures.registers, rest) at c.register_line-2.ensures in
    let first = progress_more (c.in_ok-put.ensures _ one) progress_start in
    let second = progress_more (c.in_ok-put-2.ensures _ low) first in
    progress_last (c.put-3.ensures _ high) second
