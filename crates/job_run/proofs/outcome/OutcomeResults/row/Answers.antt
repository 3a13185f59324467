use Rattle.std.proofs.Common.{◌≡◌, List, length, sym, ◌∙◌, ap, arith}
use Rattle.std.proofs.lemmas.List.{get_or-map}
use Rattle.session_book.specs.Meaning.{ResultView}
use Rattle.job_run.specs.Tasks.{done_result, no_result, results_of}
use Rattle.job_run.specs.declared.outcome.Done.{Done}
use Rattle.space_map.proofs.Laws.{row_range}
use Rattle.job_run.proofs.outcome.OutcomeResults.row.Goals as goal

pub returns : goal.returns
returns c =
    let done : Done = c.index.result.now in
    let tasks : List Done = c.args.self.now.tasks.items in
    let found : results_of tasks c.args.t.0 ≡ done_result done = get_or-map done_result tasks c.args.t.0 done no_result c.requires.task ∙ ap done_result (sym c.index.ensures) in
    let same : (results_of tasks c.args.t.0).bytes ≡ done.task.bench.space.bytes = ap (λ (r : ResultView). r.bytes) found in
    rw same (c.row.ensures ∙ row_range done.task.bench.space.bytes c.args.n (omega (arith, c.requires.exists, ap (λ (b : List _). length b) same)))
