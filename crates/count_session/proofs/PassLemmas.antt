-- Passes split off, counted with and joined, and the counts of a phase.
use Rattle.std.proofs.Common.{◌≡◌, inl, inr, ℕ, ◌+◌, ◌<◌, true, nat_lt, if◌then◌else◌, List, [], ◌∷◌, ◌++◌, length, get_or, IfOk, refl, sym, ◌∙◌, ap, subst, arith, lt-ltb}
use Rattle.std.proofs.lemmas.Bool.{cases_eq}
use Rattle.std.proofs.lemmas.List.{get_or_append_left, length-append}
use Rattle.std.proofs.Math.Seq.{get_or-append_seam}
use Rattle.std.specs.declared.result.Result.{Result}
use Rattle.std.specs.declared.result.Result.TheVariants.{Ok, Err}
use Rattle.cov_base.specs.Meaning.{Memory, Visit}
use Rattle.cov_base.specs.declared.facts.Fact.{Fact}
use Rattle.cov_base.specs.declared.numbers.TaskNo.{TaskNo}
use Rattle.cov_base.specs.declared.shortage.NoMemory.{NoMemory}
use Rattle.module_area.specs.Meaning.{PlanView, place_of, window_at}
use Rattle.module_area.specs.declared.places.Place.{Place}
use Rattle.task_run.specs.Steps.{memory_at}
use Rattle.task_services.specs.Meaning.{course_of}
use Rattle.session_book.specs.Meaning.{JobView, task_of}
use Rattle.phase_plan.specs.Meaning.{plan_view}
use Rattle.job_run.specs.Crews.{all_tasks, phase_at}
use Rattle.job_run.specs.Meaning.{result_of_run, trace_by}
use Rattle.job_run.specs.Tasks.{HasNotRun, IsEnded, done_result, own_run}
use Rattle.job_run.specs.declared.outcome.Done.{Done}
use Rattle.job_run.proofs.Laws.{traces-map, begun_run, private_of}
use Rattle.count_session.specs.Meaning.{count_at, count_of_all}
use Rattle.count_session.specs.Counting.{Adds}
use Rattle.count_session.specs.Notes.{CountNotes, root_notes}
use Rattle.count_session.specs.Passes.{IsPassOf, notes_of, plan_in}
use Rattle.count_session.specs.Phases.{IsCounted, AreCounted, IsFresh, HasCounted, HasJoined, traces_of}
use Rattle.count_session.specs.Tallied.{HasCounts}
use Rattle.count_session.specs.declared.cells.CountCells.{CountCells}
use Rattle.count_session.specs.declared.counts.PlaceCount.{PlaceCount}
use Rattle.count_session.specs.declared.pass.CountPass.{CountPass}

-- what a task has come to
pub has_ended : (plan : PlanView) (j : JobView) (places : List Place) (t : ℕ) (d e : Done) → plan ≡ plan_view j places (task_of j t).phase → HasNotRun j places t d → done_result e ≡ result_of_run (own_run (course_of j.services) plan d) →
    length e.task.bench.space.bytes ≡ (memory_at d.task.bench).private → IsEnded (course_of j.services) j places t e
has_ended plan j places t d e of b result filled = record {
  result = result ∙ ap result_of_run (begun_run (course_of j.services) plan j places t d of b);
  filled = filled ∙ (ap (λ (m : Memory). m.private) b.begun.memory ∙ private_of (task_of j t).private j.images places);
}

-- what a fresh pass has counted by a run
pub counted_there : (cells : CountCells) (visits : List Visit) (old new : CountPass) → IsFresh cells old → IsPassOf cells new → Adds (plan_in cells) (notes_of cells old) (notes_of cells new) visits → HasCounted cells visits new
counted_there cells visits old new fresh area a = record {
  area = area;
  task = ap (λ (n : CountNotes). n.root) a.same ∙ fresh.task;
  one = ap (λ (n : CountNotes). n.passes) a.same ∙ fresh.one;
  added = λ q f l w.
      let is : (notes_of cells old).planted q ≡ true = fresh.planted q l ∙ lt-ltb 0 (window_at (plan_in cells) q) w in
      a.added q f l ∙ (ap (λ n. n + (if (notes_of cells old).planted q then count_at (place_of (plan_in cells).places q) f visits else 0)) (fresh.added q f)
      ∙ (ap (λ b. 0 + (if b then count_at (place_of (plan_in cells).places q) f visits else 0)) is ∙ (let z : 0 + count_at (place_of (plan_in cells).places q) f visits ≡ count_at (place_of (plan_in cells).places q) f visits = omega arith in z)));
}

-- the counts of one task more
pub count_more : (j : JobView) (places : List Place) (place : Place) (f : Fact) (ts : List TaskNo) (t : ℕ) →
    count_of_all place f (traces_of j places (ts ++ record { 0 = t } ∷ [])) ≡ count_of_all place f (traces_of j places ts) + count_at place f (trace_by (course_of j.services) j places t)
count_more j places place f [] t = omega arith
count_more j places place f (u ∷ ts) t = let rest = count_more j places place f ts t in omega (arith, rest)

-- nothing is split off yet
pub joins_start : (cells : CountCells) (j : JobView) (places : List Place) (plan : PlanView) (root : CountPass) → plan_in cells ≡ plan → IsPassOf cells root →
    notes_of cells root ≡ record root_notes { planted = (notes_of cells root).planted } → ((p : ℕ) → p < length plan.places → (notes_of cells root).planted p ≡ nat_lt 0 (window_at plan p)) → HasJoined cells j places root [] []
joins_start cells j places plan root same area is planted = record {
  area = area;
  is = ap (λ (n : CountNotes). n.root) is;
  planted = subst (λ (q : PlanView). (p : ℕ) → p < length q.places → (notes_of cells root).planted p ≡ nat_lt 0 (window_at q p)) (sym same) planted;
  given = ap (λ (n : CountNotes). n.given) is;
  passes = ap (λ (n : CountNotes). n.passes) is;
  added = λ q f l w. ap (λ (n : CountNotes). n.added q f) is;
}

-- a phase's counts, once all its passes are joined
is_counted : (j : JobView) (places : List Place) (phase : ℕ) (cells : CountCells) (root : CountPass) (counts : List PlaceCount) → plan_in cells ≡ plan_view j places phase →
    HasJoined cells j places root (all_tasks (phase_at j phase)) (all_tasks (phase_at j phase)) → HasCounts (plan_in cells) (notes_of cells root) counts → IsCounted j places phase counts
is_counted j places phase cells root counts of joined has =
    let same : (plan_in cells).places ≡ places = ap (λ (q : PlanView). q.places) of in record {
      size = has.size ∙ ap (λ (ps : List Place). length ps) same;
      each = λ p f l w.
          let there : p < length (plan_in cells).places = subst (λ (ps : List Place). p < length ps) (sym same) l in
          let some : 0 < window_at (plan_in cells) p = subst (λ (q : PlanView). 0 < window_at q p) (sym of) w in
          has.added p f there ∙ (joined.added p f there some
          ∙ (ap (λ (ps : List Place). count_of_all (place_of ps p) f (traces_of j places (all_tasks (phase_at j phase)))) same
          ∙ ap (λ (ts : List (List Visit)). count_of_all (place_of places p) f ts) (traces-map 0 j.tasks phase (trace_by (course_of j.services) j places))));
    }

-- ---- a job from its first phase to its counts

pub AreCounted-more : (j : JobView) (places : List Place) (phase : ℕ) (counts : List (List PlaceCount)) (c : List PlaceCount) → AreCounted j places phase counts → IsCounted j places phase c → AreCounted j places (phase + 1) (counts ++ c ∷ [])
AreCounted-more j places phase counts c a h = (
  (let long = length-append counts (c ∷ []) in let size = a.0 in omega arith),
  λ k d l. elim (cases_eq k phase) [
    | inl last ↦
        let found : get_or (counts ++ c ∷ []) k d ≡ c = ap (λ n. get_or (counts ++ c ∷ []) n d) (last ∙ sym a.0) ∙ get_or-append_seam counts c [] d in
        subst (IsCounted j places k) (sym found) (subst (λ n. IsCounted j places n c) (sym last) h)
    | inr other ↦ subst (IsCounted j places k) (sym (get_or_append_left counts (c ∷ []) d k (let size = a.0 in omega arith))) (a.1 k d (omega (arith, l, other)))
  ],
)

pub AreCounted-start : (j : JobView) (places : List Place) → AreCounted j places 0 []
AreCounted-start j places = (refl, λ k d l. absurd (omega (arith, l)))

-- where there was memory for the area's end
pub counted_if : (j : JobView) (places : List Place) (phase : ℕ) (cells : CountCells) (root : CountPass) (r : Result (List PlaceCount) NoMemory) → plan_in cells ≡ plan_view j places phase →
    HasJoined cells j places root (all_tasks (phase_at j phase)) (all_tasks (phase_at j phase)) → IfOk r (HasCounts (plan_in cells) (notes_of cells root)) → IfOk r (IsCounted j places phase)
counted_if j places phase cells root (Ok counts) of joined has = is_counted j places phase cells root counts of joined has
counted_if j places phase cells root (Err e) of joined has = tt
