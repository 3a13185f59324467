-- Where nothing is done behind the instructions, the course is the run alone.
use Rattle.std.proofs.Common.{◌≡◌, ℕ, [], refl, sym, ap}
use Rattle.cov_base.specs.Meaning.{Memory, State}
use Rattle.s370_exec.specs.Meaning.{Run, solo_run, run_from}
use Rattle.task_run.specs.Meaning.{Tour, course_on, nothing, visits_of}
use Rattle.task_run.proofs.InstanceLemmas.{TellsRun, run_as}

tells_run : {K : Type 0} (m : Memory) → TellsRun {K = K} nothing m (λ n k s trace. run_from m n s trace)
unfolding run_from
tells_run m = record {
  none = λ k s trace. refl;
  returned = λ n k s trace here. rw here refl;
  more = λ n k s trace here. rw here refl;
}

-- the tour is the run alone with this budget
pub record IsSolo (m : Memory) (budget : ℕ) (s : State) (tour : Tour) : Type 0 where
  pub ending : tour.ending ≡ (solo_run m budget s).ending
  pub state : tour.state ≡ (solo_run m budget s).state
  pub trace : visits_of tour.turns ≡ (solo_run m budget s).trace

pub course_solo : {K : Type 0} (m : Memory) (budget : ℕ) (k : K) (s : State) → IsSolo m budget s (course_on nothing m budget k s)
course_solo {K} m budget k s = let same = run_as nothing m (λ n k s trace. run_from m n s trace) (tells_run {K = K} m) budget k s [] in record {
  ending = sym (ap (λ (r : Run). r.ending) same);
  state = sym (ap (λ (r : Run). r.state) same);
  trace = sym (ap (λ (r : Run). r.trace) same);
}
