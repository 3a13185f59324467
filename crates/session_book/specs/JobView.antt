-- The rules that a job's values keep.
use Rattle.std.specs.Prelude.{◌≡◌, ℕ, ◌+◌, ◌<◌, ◌≤◌, Bool, false, nat_eq, Option, Some, List, length, get_or, map, All, AllPairs, IfSome}
use Rattle.std.specs.List.{list_any}
use Rattle.cov_base.specs.Lists.{Differ}
use Rattle.cov_base.specs.Meaning.{ImageView}
use Rattle.cov_base.specs.declared.limits.TheConstants.{MODULE_LIMIT, SIZE_LIMIT, LINE_LIMIT, PHASE_LIMIT, SESSION_LIMIT, TASK_LIMIT, PRIVATE_LIMIT, BUDGET_LIMIT, ROOM_LIMIT}
use Rattle.module_area.specs.Images.{AreImages}
use Rattle.module_area.specs.Meaning.{DataView}
use Rattle.session_book.specs.Meaning.{SessionView, TaskView, JobView}

pub record IsTask (phases : ℕ) (t : TaskView) : Type 0 where
  pub phase : t.phase < phases
  pub entry : t.entry < 16777216
  pub private : t.private ≤ PRIVATE_LIMIT
  pub some : 1 ≤ t.budget
  pub budget : t.budget ≤ BUDGET_LIMIT
  pub room : t.room ≤ ROOM_LIMIT
  pub regs : length t.regs ≡ 16
  pub cards : All (λ (c : DataView). c.offset + length c.bytes ≤ t.private) t.cards

pub record IsSession (images phases : ℕ) (s : SessionView) : Type 0 where
  pub phase : s.phase < phases
  pub some : 1 ≤ length s.modules
  pub modules : All (λ m. m < images) s.modules
  pub differ : Differ s.modules

-- the sessions of a task, which it opens and closes one after the other
abbrev pub is_same_controller : Option ℕ → Option ℕ → Bool
is_same_controller (Some t) (Some u) = nat_eq t u
is_same_controller t u = false

-- no module is in two sessions of one phase but in those of one controller
abbrev pub AreParted : SessionView → SessionView → Type 0
AreParted s t =
    s.phase ≡ t.phase → is_same_controller s.by t.by ≡ false → All (λ m. list_any (nat_eq m) t.modules ≡ false) s.modules

-- a task of the phase
abbrev pub IsTaskOf : List TaskView → ℕ → ℕ → Type 0
IsTaskOf tasks phase t = (d : TaskView) → (t < length tasks) × ((get_or tasks t d).phase ≡ phase)

-- the controller, where there is one, is a task of the session's phase
abbrev pub HasController : List TaskView → SessionView → Type 0
HasController tasks s = IfSome s.by (IsTaskOf tasks s.phase)

abbrev pub IsListing : Option (List (List ℕ)) → Type 0
IsListing listing = IfSome listing (All (λ l. length l ≤ LINE_LIMIT))

pub record IsJob (j : JobView) : Type 0 where
  pub listings : length j.listings ≡ length j.images
  pub images : AreImages j.images
  pub sizes : All (λ (i : ImageView). length i.bytes ≤ SIZE_LIMIT) j.images
  pub modules : length j.images ≤ MODULE_LIMIT
  pub lines : All IsListing j.listings
  pub phases : length j.phases ≤ PHASE_LIMIT
  pub sessions : length j.sessions ≤ SESSION_LIMIT
  pub tasks : length j.tasks ≤ TASK_LIMIT
  pub are_sessions : All (IsSession (length j.images) (length j.phases)) j.sessions
  pub parted : AllPairs AreParted j.sessions
  pub controllers : All (HasController j.tasks) j.sessions
  pub are_tasks : All (IsTask (length j.phases)) j.tasks
  pub module_names : Differ (map (λ (i : ImageView). i.name) j.images)
  pub phase_names : Differ j.phases
  pub session_names : Differ (map (λ (s : SessionView). s.name) j.sessions)
  pub task_names : Differ (map (λ (t : TaskView). t.name) j.tasks)
