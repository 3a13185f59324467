-- What was counted of the tasks of a job.
use Rattle.std.proofs.Common.{◌≡◌, ℕ, ◌+◌, ◌-◌, ◌<◌, List, [], ◌∷◌, ◌++◌, length, get_or, slice_index, inl, inr, refl, ap, ◌∙◌, arith}
use Rattle.std.proofs.lemmas.Bool.{cases_lt}
use Rattle.std.proofs.lemmas.List.{get_or_append_left, get_or_push}
use Rattle.module_area.specs.declared.places.Place.{Place}
use Rattle.session_book.specs.Meaning.{JobView, module_of}
use Rattle.report_text.specs.Meaning.{sum_from}
use Rattle.report_text.proofs.Laws.{sum_step}
use Rattle.task_run.specs.Meaning.{visits_of}
use Rattle.task_ends.specs.Meaning.{run_of, end_of, unlisted_of, unlisted_visits}
use Rattle.task_run.specs.declared.task.TaskEnd.{TaskEnd}
use Rattle.task_ends.specs.Unlisted.{Adds}

-- of one task, in module m
abbrev pub unlisted_at : JobView → List Place → ℕ → ℕ → ℕ
unlisted_at j places m t = unlisted_visits places (module_of j m) (visits_of (run_of j places t).turns)

-- one task more was counted
pub counted_more : (j : JobView) (places : List Place) (t : ℕ) (old new : List ℕ) (m : ℕ) → t < length j.tasks → m < length j.images → Adds places j.images (visits_of (run_of j places t).turns) old new →
    slice_index old m + sum_from (unlisted_at j places m) t (length j.tasks - t) ≡ unlisted_of j places m → slice_index new m + sum_from (unlisted_at j places m) (t + 1) (length j.tasks - (t + 1)) ≡ unlisted_of j places m
counted_more j places t old new m lt here adds so_far =
    rw (adds.each m here) (sum_step (unlisted_at j places m) t (length j.tasks) (slice_index old m) (unlisted_at j places m t) (unlisted_of j places m) lt refl so_far)

-- the end of one task more was added
pub added_end : (j : JobView) (places : List Place) (ends : List TaskEnd) (t : ℕ) → length ends ≡ t → ((k : ℕ) (d : TaskEnd) → k < t → get_or ends k d ≡ end_of j places k) →
    (k : ℕ) (d : TaskEnd) → k < t + 1 → get_or (ends ++ end_of j places t ∷ []) k d ≡ end_of j places k
added_end j places ends t size before k d lt = elim (cases_lt k t) [
  | inl earlier ↦ let inside : k < length ends = omega arith in get_or_append_left ends (end_of j places t ∷ []) d k inside ∙ before k d earlier
  | inr last ↦ let same : length ends ≡ k = omega arith in let is : t ≡ k = omega arith in get_or_push ends (end_of j places t) d k same ∙ ap (end_of j places) is
]
