use Rattle.std.proofs.Common.{◌≡◌, true, [], ◌∷◌, ◌++◌, codes, decimal, sym, ◌∙◌}
use Rattle.cov_base.specs.Meaning.{unpadded}
use Rattle.report_text.specs.Meaning.{is_monitored}
use Rattle.session_book.specs.Meaning.{module_of}
use Rattle.task_ends.proofs.text.module_text.Goals as goal

pub returns-then-is_monitored : goal.returns-then-is_monitored
returns-then-is_monitored g c =
    let monitored : is_monitored c.args.job.now c.args.m ≡ true = sym c.is_monitored.ensures ∙ c.if-is_monitored.true in
    let line : c.unlisted_line.result.items ≡ (codes "UNLISTED " ++ unpadded (module_of c.args.job.now c.args.m).name ++ codes " " ++ decimal c.args.count) ++ 10 ∷ [] =
    rw c.module_name.ensures at c.unlisted_line.ensures in
    rw monitored (c.put.ensures _ line)
