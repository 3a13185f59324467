use Rattle.std.proofs.lemmas.Result.{IfOk-weaker}
use Rattle.marks_file.proofs.AnswerLemmas.{one_answer}
use Rattle.marks_file.proofs.SameFiles.{union_anyhow}
use Rattle.marks_file.proofs.files.combine_files.Goals as goal

pub returns-clause-one : goal.returns-clause-one
returns-clause-one c = one_answer c.args.bytes.now

pub returns-clause-anyhow : goal.returns-clause-anyhow
returns-clause-anyhow c = IfOk-weaker c.combine_all.result _ _ (union_anyhow c.args.bytes.now) c.combine_all.ensures.whole
