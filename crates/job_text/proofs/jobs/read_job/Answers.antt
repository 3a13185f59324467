use Rattle.std.proofs.Common.{◌≡◌, ℕ, Result, Ok, Err, Some, IfOk, IfErr, List, [], length}
use Rattle.job_text.specs.Meaning.{lines_of, IsRefusal}
use Rattle.job_text.specs.Pieces.{Feeds, used_of}
use Rattle.job_text.specs.Refusals.{IsRead, AnswersOnly}
use Rattle.job_text.specs.Taken.{Stage, IsFed, told}
use Rattle.job_text.specs.declared.grammar.Grammar.{Grammar}
use Rattle.job_text.specs.declared.jobs.JobFault.{JobFault}
use Rattle.job_text.specs.declared.jobs.ReadJob.{ReadJob}
use Rattle.job_text.specs.declared.pieces.Fed.{Fed}
use Rattle.job_text.proofs.Joined.{read_of_piece, only_of_piece, fault_of_piece}
use Rattle.job_text.proofs.jobs.read_job.Goals as goal

-- the job of an input that was fed at once, or the fault that was told of it
module _ (g : Grammar) (input : List ℕ) (s : Stage) (r : Result ReadJob JobFault) (told_again : (e : JobFault) → told s ≡ Some e → r ≡ Err e) where
  job_of : (a : Result Fed JobFault) → IfOk a (Feeds g [] input) → IfOk a (λ f. IsFed (used_of input f) s) → IfErr a (λ e. told s ≡ Some e) →
      ((b : List ℕ) → IsFed b s → IfOk r (IsRead g b)) → ((b : List ℕ) → IsFed b s → IfOk r (λ j. j.end ≡ length b)) → IfOk r (IsRead g input)
  job_of (Ok f) feeds fed e job whole = read_of_piece g input f r feeds (job (used_of input f) fed) (whole (used_of input f) fed)
  job_of (Err x) feeds fed e job whole = rw (told_again x e) tt

  only_of : (a : Result Fed JobFault) → IfOk a (Feeds g [] input) → IfOk a (λ f. IsFed (used_of input f) s) → IfErr a (λ e. IsFed input s) →
      ((b : List ℕ) → IsFed b s → AnswersOnly g (lines_of b) r) → AnswersOnly g (lines_of input) r
  only_of (Ok f) feeds fed failed only = only_of_piece input f r feeds (only (used_of input f) fed)
  only_of (Err x) feeds fed failed only = only input failed

  fault_of : (a : Result Fed JobFault) → IfOk a (Feeds g [] input) → IfOk a (λ f. IsFed (used_of input f) s) → IfErr a (λ e. IsFed input s) →
      ((b : List ℕ) → IsFed b s → AnswersOnly g (lines_of b) r) → ((b : List ℕ) → IsFed b s → IfErr r (IsRefusal g (lines_of b))) → IfErr r (IsRefusal g (lines_of input))
  fault_of (Ok f) feeds fed failed only fault = fault_of_piece input f r feeds (only (used_of input f) fed) (fault (used_of input f) fed)
  fault_of (Err x) feeds fed failed only fault = fault input failed

pub returns-clause-job : goal.returns-clause-job
returns-clause-job c =
    let none = c.in_ok-reader.ensures.nothing in
    let f = c.feed-fed.ensures in
    let g = c.in_ok-reader.ensures.grammar in
    let job = rw (f.grammar, g) at c.finish.ensures.job in
    job_of c.args.grammar c.args.input.now c.feed-fed.new.self c.finish.result c.finish.ensures.same c.feed-fed.result (rw g at (f.fed [] none)) (f.taken [] none) f.told job c.finish.ensures.whole

pub returns-clause-only : goal.returns-clause-only
returns-clause-only c =
    let none = c.in_ok-reader.ensures.nothing in
    let f = c.feed-fed.ensures in
    let g = c.in_ok-reader.ensures.grammar in
    let only = rw (f.grammar, g) at c.finish.ensures.only in
    only_of c.args.grammar c.args.input.now c.feed-fed.new.self c.finish.result c.finish.ensures.same c.feed-fed.result (rw g at (f.fed [] none)) (f.taken [] none) (f.failed [] none) only

pub returns-clause-fault : goal.returns-clause-fault
returns-clause-fault c =
    let none = c.in_ok-reader.ensures.nothing in
    let f = c.feed-fed.ensures in
    let g = c.in_ok-reader.ensures.grammar in
    let only = rw (f.grammar, g) at c.finish.ensures.only in
    let fault = rw (f.grammar, g) at c.finish.ensures.fault in
    fault_of c.args.grammar c.args.input.now c.feed-fed.new.self c.finish.result c.finish.ensures.same c.feed-fed.result (rw g at (f.fed [] none)) (f.taken [] none) (f.failed [] none) only fault
