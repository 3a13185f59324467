-- What the counts of visits hold while tasks run.
use Rattle.std.specs.Prelude.{◌≡◌, ℕ, ◌+◌, ◌*◌, ◌^◌, ◌<◌, ◌≤◌, List, length, slice_index}

-- Each module has a count, to which each visit adds at most one: of the tasks that ran before, each of fewer than 2^32 steps
-- of two visits, of this one, which has done so many, and of its next step, of which so many were shown.
pub record HasRoom (modules tasks : ℕ) (counts : List ℕ) (done shown : ℕ) : Type 0 where
  pub size : length counts ≡ modules
  pub tasks_most : tasks < 65536
  pub most : (m : ℕ) → m < length counts → slice_index counts m ≤ 2 * (tasks * 2 ^ 32 + done) + shown
