-- What lines pass they have passed for good: each line only adds, and of the limits that it passes the first is told.
use Rattle.std.proofs.Common.{◌≡◌, ℕ, ◌+◌, ◌-◌, ◌<◌, ◌≤◌, zero, suc, Bool, true, false, ◌&&◌, nat_eq, nat_le, cond, Option, Some, None, List, [], ◌∷◌, ◌++◌, length, replicate, refl, ap, subst, sym, ◌∙◌, arith, append-nil, length-append, option_and_then, inl, inr}
use Rattle.std.proofs.Math.Bool.{and-true}
use Rattle.std.proofs.lemmas.Bool.Decides.{nat_tests}
use Rattle.std.proofs.lemmas.List.{length-replicate, length-map}
use Rattle.std.proofs.lemmas.List.Folds.{list_all-append}
use Rattle.std.specs.List.{list_all}
use Rattle.std.proofs.lemmas.Option.{same_Some, cond_some}
use Rattle.std.proofs.lemmas.Bool.{and_from, and_parts, and_right}
use Rattle.cov_base.specs.Meaning.{ImageView}
use Rattle.cov_base.specs.declared.limits.TheConstants.{MODULE_LIMIT, SIZE_LIMIT, LINE_LIMIT, PHASE_LIMIT, SESSION_LIMIT, TASK_LIMIT, PRIVATE_LIMIT, BUDGET_LIMIT, ROOM_LIMIT}
use Rattle.session_book.specs.Meaning.{JobView, TaskView}
use Rattle.job_text.specs.Meaning.{DraftView, Controllers, bound, LineView, listing_text, CardView, Cover, Module, Text, Listing, Phase, Session, Task, Reg, Data, Input, End, card_at, fits, with_module, with_phase, put_session, with_new_session, has_task, with_task, are_short, keeps, IsWithin, rank, Serve, with_service}
use Rattle.session_book.specs.declared.services.Service.{Service}
use Rattle.job_text.specs.TaskParts.{part, takes_reg, takes_data, is_inside, with_reg, with_data, fresh_task, task_more}
use Rattle.job_text.specs.declared.task.TaskPart.{TaskPart}
use Rattle.job_text.specs.declared.task.TaskStage.TheVariants as stage
use Rattle.job_text.specs.declared.limit.Limit.{Limit}
use Rattle.job_text.specs.declared.limit.Limit.TheVariants as limit
use Rattle.job_text.specs.declared.parts.Part.{Part}
use Rattle.job_text.specs.declared.parts.Part.TheVariants as kind
use Rattle.job_text.specs.Steps.{State, state, is_start, is_sessions, closed_module, closed_service, closed_task, closed, no_bytes, with_bytes, module_over, line_over, phase_over, session_over, task_over, open_module, open_task, add_service, open_phase, add_session, take_text, take_listing, take_more, end, takes_raw, take_raw, take_card, step, run}
use Rattle.job_text.proofs.Guards.{guard_more, map_some, then_some, choose, guard_none}
use Rattle.job_text.proofs.Named.{service_added, session_added}
use Rattle.job_text.proofs.Spelled.{closed_of_service, closed_of_module}
use Rattle.job_text.proofs.Shortest.{sofar_at, draft_sofar, sofar, closed_sofar, task_sofar}

-- this limit was passed, and none before it in the order of limits; or none at all
abbrev pub Judged : Option Limit → JobView → Type 0
Judged None j = IsWithin j
Judged (Some what) j = (keeps what j ≡ false) × ((other : Limit) → rank other < rank what → keeps other j ≡ true)

-- the second job has at least what the first one has, and where the first one is within the limits this is passed first
pub record Grown (a b : JobView) (over : Option Limit) : Type 0 where
  pub more : (w : Limit) → keeps w b ≡ true → keeps w a ≡ true
  pub judged : IsWithin a → Judged over b

-- the same of what was read of a job

abbrev holds : Limit → DraftView → Bool
holds limit.Sessions j = nat_le (length j.sessions) SESSION_LIMIT
holds w j = keeps w (bound j)

keeps_is : (w : Limit) (j : DraftView) → keeps w (bound j) ≡ holds w j
keeps_is limit.Sessions j = ap (λ (n : ℕ). nat_le n SESSION_LIMIT) (length-map j.sessions _)
keeps_is w j = refl

abbrev Holds : DraftView → Type 0
Holds j = (w : Limit) → holds w j ≡ true

abbrev Found : Option Limit → DraftView → Type 0
Found None j = Holds j
Found (Some what) j = (holds what j ≡ false) × ((other : Limit) → rank other < rank what → holds other j ≡ true)

record More (a b : DraftView) (over : Option Limit) : Type 0 where
  more : (w : Limit) → holds w b ≡ true → holds w a ≡ true
  judged : Holds a → Found over b

judged_of : (over : Option Limit) (j : DraftView) → Found over j → Judged over (bound j)
judged_of None j h = λ w. keeps_is w j ∙ h w
judged_of (Some what) j h = (keeps_is what j ∙ h.0, λ other less. keeps_is other j ∙ h.1 other less)

grown_of : (a b : DraftView) (over : Option Limit) → More a b over → Grown (bound a) (bound b) over
grown_of a b over g = record {
  more = λ w e. keeps_is w a ∙ g.more w (sym (keeps_is w b) ∙ e);
  judged = λ h. judged_of over b (g.judged (λ w. sym (keeps_is w a) ∙ h w));
}

alike : (a b : DraftView) → ((w : Limit) → holds w a ≡ holds w b) → More a b None
alike a b same = record { more = λ w e. same w ∙ e; judged = λ h w. sym (same w) ∙ h w }

same_grown : (a b : DraftView) → b ≡ a → More a b None
same_grown a b e = alike a b (λ w. ap (λ (x : DraftView). holds w x) (sym e))

from_closed : (ask : Controllers) (p : Part) (j k b : DraftView) (over : Option Limit) → closed ask p j ≡ Some k → More k b over → More (sofar_at p j) b over
from_closed ask p j k b over e g = subst (λ (x : DraftView). More x b over) (closed_sofar ask p j k e) g

-- lists with one more

last_all : {X : Type 0} (p : X → Bool) (xs : List X) (x : X) → list_all p (xs ++ x ∷ []) ≡ (list_all p xs && p x)
last_all p xs x = list_all-append p xs (x ∷ []) ∙ ap (λ (b : Bool). list_all p xs && b) (and-true (p x))

first_of : {X : Type 0} (p : X → Bool) (xs : List X) (x : X) → list_all p (xs ++ x ∷ []) ≡ true → list_all p xs ≡ true
first_of p xs x e = (and_parts (list_all p xs) (p x) (sym (last_all p xs x) ∙ e)).0

all_last : {X : Type 0} (p : X → Bool) (xs : List X) (x : X) → list_all p xs ≡ true → p x ≡ true → list_all p (xs ++ x ∷ []) ≡ true
all_last p xs x a b = last_all p xs x ∙ and_from (list_all p xs) (p x) a b

all_not : {X : Type 0} (p : X → Bool) (xs : List X) (x : X) → p x ≡ false → list_all p (xs ++ x ∷ []) ≡ false
all_not p xs x e = last_all p xs x ∙ and_right (list_all p xs) (p x) e

all_same : {X : Type 0} (p : X → Bool) (xs : List X) (x y : X) → p x ≡ p y → list_all p (xs ++ x ∷ []) ≡ list_all p (xs ++ y ∷ [])
all_same p xs x y e = last_all p xs x ∙ (ap (λ (b : Bool). list_all p xs && b) e ∙ sym (last_all p xs y))

fewer : {X : Type 0} (xs : List X) (x : X) (n : ℕ) → nat_le (length (xs ++ x ∷ [])) n ≡ true → nat_le (length xs) n ≡ true
fewer xs x n e = let one : length (xs ++ x ∷ []) ≡ length xs + 1 = omega (arith, length-append xs (x ∷ [])) in grind (arith, nat_tests)

room_left : {X : Type 0} (xs : List X) (x : X) (n : ℕ) → nat_le n (length xs) ≡ false → nat_le (length (xs ++ x ∷ [])) n ≡ true
room_left xs x n e = let one : length (xs ++ x ∷ []) ≡ length xs + 1 = omega (arith, length-append xs (x ∷ [])) in grind (arith, nat_tests)

no_room : {X : Type 0} (xs : List X) (x : X) (n : ℕ) → nat_le n (length xs) ≡ true → nat_le (length (xs ++ x ∷ [])) n ≡ false
no_room xs x n e = let one : length (xs ++ x ∷ []) ≡ length xs + 1 = omega (arith, length-append xs (x ∷ [])) in grind (arith, nat_tests)

-- a module more

abbrev is_small : ImageView → Bool
is_small i = nat_le (length i.bytes) SIZE_LIMIT

module_more : (j : DraftView) (i : ImageView) (listing : Option (List (List ℕ))) (w : Limit) → holds w (with_module j i listing) ≡ true → holds w j ≡ true
module_more j i listing limit.Modules e = fewer j.images i MODULE_LIMIT e
module_more j i listing limit.Size e = first_of is_small j.images i e
module_more j i listing limit.Line e = first_of are_short j.listings listing e
module_more j i listing w e = e

module_holds : (j : DraftView) (i : ImageView) → Holds j → nat_le MODULE_LIMIT (length j.images) ≡ false → is_small i ≡ true → (w : Limit) → holds w (with_module j i None) ≡ true
module_holds j i h room small limit.Modules = room_left j.images i MODULE_LIMIT room
module_holds j i h room small limit.Size = all_last is_small j.images i (h limit.Size) small
module_holds j i h room small limit.Line = all_last are_short j.listings None (h limit.Line) refl
module_holds j i h room small w = h w

module_first : (j : DraftView) (i : ImageView) → nat_le MODULE_LIMIT (length j.images) ≡ false → (w : Limit) → rank w < rank limit.Size → holds w (with_module j i None) ≡ true
module_first j i room limit.Input h = refl
module_first j i room limit.Modules h = room_left j.images i MODULE_LIMIT room
module_first j i room w h = absurd (omega arith)

input_first : (j : DraftView) (w : Limit) → rank w < rank limit.Modules → holds w j ≡ true
input_first j limit.Input h = refl
input_first j w h = absurd (omega arith)

module_judged : (j : DraftView) (i : ImageView) (q r : Bool) → nat_le MODULE_LIMIT (length j.images) ≡ q → is_small i ≡ r → Holds j →
    Found (cond q (Some limit.Modules) (cond r None (Some limit.Size))) (with_module j i None)
module_judged j i true r a b h = (no_room j.images i MODULE_LIMIT a, input_first (with_module j i None))
module_judged j i false true a b h = module_holds j i h a b
module_judged j i false false a b h = (all_not is_small j.images i b, module_first j i a)

size_of : (name : List ℕ) (base size : ℕ) → is_small (with_bytes (no_bytes name base) (replicate size 0)) ≡ nat_le size SIZE_LIMIT
size_of name base size = ap (λ (n : ℕ). nat_le n SIZE_LIMIT) (length-replicate size 0)

module_grown : (j : DraftView) (name : List ℕ) (base size : ℕ) → More j (with_module j (with_bytes (no_bytes name base) (replicate size 0)) None) (module_over j size)
module_grown j name base size =
    let i : ImageView = with_bytes (no_bytes name base) (replicate size 0) in
    record {
      more = module_more j i None;
      judged = module_judged j i (nat_le MODULE_LIMIT (length j.images)) (nat_le size SIZE_LIMIT) refl (size_of name base size);
    }

-- further bytes of it, its listing, and a line of this

module_alike : (j : DraftView) (i k : ImageView) (a b : Option (List (List ℕ))) → is_small i ≡ is_small k → are_short a ≡ are_short b → (w : Limit) → holds w (with_module j i a) ≡ holds w (with_module j k b)
module_alike j i k a b p q limit.Modules =
    let x : length (j.images ++ i ∷ []) ≡ length (j.images ++ k ∷ []) = omega (arith, length-append j.images (i ∷ []), length-append j.images (k ∷ [])) in
    ap (λ (n : ℕ). nat_le n MODULE_LIMIT) x
module_alike j i k a b p q limit.Size = all_same is_small j.images i k p
module_alike j i k a b p q limit.Line = all_same are_short j.listings a b q
module_alike j i k a b p q w = refl

text_grown : (j : DraftView) (i : ImageView) (left : ℕ) (bytes : List ℕ) → length bytes ≤ left →
    More (with_module j (with_bytes i (replicate left 0)) None) (with_module j (with_bytes (with_bytes i bytes) (replicate (left - length bytes) 0)) None) None
text_grown j i left bytes h =
    let a : ImageView = with_bytes i (replicate left 0) in
    let b : ImageView = with_bytes (with_bytes i bytes) (replicate (left - length bytes) 0) in
    let same : length a.bytes ≡ length b.bytes =
    omega (arith, length-append i.bytes (replicate left 0), length-append (i.bytes ++ bytes) (replicate (left - length bytes) 0), length-append i.bytes bytes, length-replicate {A = ℕ} left 0, length-replicate {A = ℕ} (left - length bytes) 0) in
    alike _ _ (module_alike j a b None None (ap (λ (n : ℕ). nat_le n SIZE_LIMIT) same) refl)

abbrev is_short : List ℕ → Bool
is_short t = nat_le (length t) LINE_LIMIT

empty_short : (n : ℕ) → list_all is_short (replicate n []) ≡ true
empty_short zero = refl
empty_short (suc n) = empty_short n

listed_short : (texts : List (List ℕ)) (n : ℕ) → are_short (Some (texts ++ replicate n [])) ≡ list_all is_short texts
listed_short texts n = list_all-append is_short texts (replicate n []) ∙ (ap (λ (b : Bool). list_all is_short texts && b) (empty_short n) ∙ and-true (list_all is_short texts))

listing_grown : (j : DraftView) (i : ImageView) (left n : ℕ) → left ≡ 0 → More (with_module j (with_bytes i (replicate left 0)) None) (with_module j i (Some ([] ++ replicate n []))) None
listing_grown j i left n e =
    let same : is_small (with_bytes i (replicate left 0)) ≡ is_small i = rw (e, append-nil {A = ℕ}) refl in
    alike _ _ (module_alike j (with_bytes i (replicate left 0)) i None (Some ([] ++ replicate n [])) same (sym (listed_short [] n)))

line_more : (j : DraftView) (i : ImageView) (a b : Option (List (List ℕ))) → (are_short b ≡ true → are_short a ≡ true) → (w : Limit) → holds w (with_module j i b) ≡ true → holds w (with_module j i a) ≡ true
line_more j i a b f limit.Modules e = e
line_more j i a b f limit.Line e =
    let p = and_parts (list_all are_short j.listings) (are_short b) (sym (last_all are_short j.listings b) ∙ e) in
    all_last are_short j.listings a p.0 (f p.1)
line_more j i a b f w e = e

line_holds : (j : DraftView) (i : ImageView) (a b : Option (List (List ℕ))) → are_short b ≡ true → Holds (with_module j i a) → (w : Limit) → holds w (with_module j i b) ≡ true
line_holds j i a b short h limit.Line = all_last are_short j.listings b (first_of are_short j.listings a (h limit.Line)) short
line_holds j i a b short h w = h w

line_first : (j : DraftView) (i : ImageView) (a b : Option (List (List ℕ))) → Holds (with_module j i a) → (w : Limit) → rank w < rank limit.Line → holds w (with_module j i b) ≡ true
line_first j i a b h limit.Input less = refl
line_first j i a b h limit.Modules less = h limit.Modules
line_first j i a b h limit.Size less = h limit.Size
line_first j i a b h w less = absurd (omega arith)

line_judged : (j : DraftView) (i : ImageView) (texts : List (List ℕ)) (t : List ℕ) (m n : ℕ) (q : Bool) → is_short t ≡ q → Holds (with_module j i (Some (texts ++ replicate m []))) →
    Found (cond q None (Some limit.Line)) (with_module j i (Some ((texts ++ t ∷ []) ++ replicate n [])))
line_judged j i texts t m n true e h =
    let a : Option (List (List ℕ)) = Some (texts ++ replicate m []) in
    let b : Option (List (List ℕ)) = Some ((texts ++ t ∷ []) ++ replicate n []) in
    let p = and_parts (list_all are_short j.listings) (are_short a) (sym (last_all are_short j.listings a) ∙ h limit.Line) in
    let old : list_all is_short texts ≡ true = sym (listed_short texts m) ∙ p.1 in
    let short : are_short b ≡ true = listed_short (texts ++ t ∷ []) n ∙ all_last is_short texts t old e in
    line_holds j i a b short h
line_judged j i texts t m n false e h =
    let a : Option (List (List ℕ)) = Some (texts ++ replicate m []) in
    let b : Option (List (List ℕ)) = Some ((texts ++ t ∷ []) ++ replicate n []) in
    let long : are_short b ≡ false = listed_short (texts ++ t ∷ []) n ∙ all_not is_short texts t e in
    (all_not are_short j.listings b long, line_first j i a b h)

line_grown : (j : DraftView) (i : ImageView) (texts : List (List ℕ)) (t : List ℕ) (m n : ℕ) →
    More (with_module j i (Some (texts ++ replicate m []))) (with_module j i (Some ((texts ++ t ∷ []) ++ replicate n []))) (line_over t)
line_grown j i texts t m n =
    let a : Option (List (List ℕ)) = Some (texts ++ replicate m []) in
    let b : Option (List (List ℕ)) = Some ((texts ++ t ∷ []) ++ replicate n []) in
    record {
      more = line_more j i a b (λ e. listed_short texts m ∙ first_of is_short texts t (sym (listed_short (texts ++ t ∷ []) n) ∙ e));
      judged = line_judged j i texts t m n (is_short t) refl;
    }

-- a service more

service_alike : (j : DraftView) (services : List Service) (w : Limit) → holds w j ≡ holds w (record j { services = services })
service_alike j services limit.Sessions = refl
service_alike j services limit.Input = refl
service_alike j services limit.Modules = refl
service_alike j services limit.Size = refl
service_alike j services limit.Line = refl
service_alike j services limit.Places = refl
service_alike j services limit.Phases = refl
service_alike j services limit.Tasks = refl
service_alike j services limit.Private = refl
service_alike j services limit.Budget = refl
service_alike j services limit.Room = refl

service_grown : (j k : DraftView) (v : Service) → with_service j v ≡ Some k → More j k None
service_grown j k v e = subst (λ (x : DraftView). More j x None) (service_added j k v e) (alike j _ (service_alike j (j.services ++ v ∷ [])))

-- a phase more, a session more

abbrev put_phase : DraftView → List ℕ → DraftView
put_phase j name = record j { phases = j.phases ++ name ∷ [] }

phase_more : (j : DraftView) (name : List ℕ) (w : Limit) → holds w (put_phase j name) ≡ true → holds w j ≡ true
phase_more j name limit.Phases e = fewer j.phases name PHASE_LIMIT e
phase_more j name w e = e

phase_holds : (j : DraftView) (name : List ℕ) → Holds j → nat_le PHASE_LIMIT (length j.phases) ≡ false → (w : Limit) → holds w (put_phase j name) ≡ true
phase_holds j name h room limit.Phases = room_left j.phases name PHASE_LIMIT room
phase_holds j name h room w = h w

phase_first : (j : DraftView) (name : List ℕ) → Holds j → (w : Limit) → rank w < rank limit.Phases → holds w (put_phase j name) ≡ true
phase_first j name h limit.Phases less = absurd (omega arith)
phase_first j name h w less = h w

phase_judged : (j : DraftView) (name : List ℕ) (q : Bool) → nat_le PHASE_LIMIT (length j.phases) ≡ q → Holds j → Found (cond q (Some limit.Phases) None) (put_phase j name)
phase_judged j name true e h = (no_room j.phases name PHASE_LIMIT e, phase_first j name h)
phase_judged j name false e h = phase_holds j name h e

phase_grown : (j k : DraftView) (name : List ℕ) → with_phase j name ≡ Some k → More j k (phase_over j)
phase_grown j k name e =
    let g = guard_none _ (put_phase j name) k e in
    subst (λ (x : DraftView). More j x (phase_over j)) g.1 (record { more = phase_more j name; judged = phase_judged j name (nat_le PHASE_LIMIT (length j.phases)) refl })

session_more : (j : DraftView) (name : List ℕ) (by : Option (List ℕ)) (ms : List ℕ) (w : Limit) → holds w (put_session j name by ms) ≡ true → holds w j ≡ true
session_more j name by ms limit.Sessions e = fewer j.sessions _ SESSION_LIMIT e
session_more j name by ms w e = e

session_holds : (j : DraftView) (name : List ℕ) (by : Option (List ℕ)) (ms : List ℕ) → Holds j → nat_le SESSION_LIMIT (length j.sessions) ≡ false → (w : Limit) → holds w (put_session j name by ms) ≡ true
session_holds j name by ms h room limit.Sessions = room_left j.sessions _ SESSION_LIMIT room
session_holds j name by ms h room w = h w

session_first : (j : DraftView) (name : List ℕ) (by : Option (List ℕ)) (ms : List ℕ) → Holds j → (w : Limit) → rank w < rank limit.Sessions → holds w (put_session j name by ms) ≡ true
session_first j name by ms h limit.Sessions less = absurd (omega arith)
session_first j name by ms h w less = h w

session_judged : (j : DraftView) (name : List ℕ) (by : Option (List ℕ)) (ms : List ℕ) (q : Bool) → nat_le SESSION_LIMIT (length j.sessions) ≡ q → Holds j → Found (cond q (Some limit.Sessions) None) (put_session j name by ms)
session_judged j name by ms true e h = (no_room j.sessions _ SESSION_LIMIT e, session_first j name by ms h)
session_judged j name by ms false e h = session_holds j name by ms h e

session_grown : (j k : DraftView) (name : List ℕ) (by : Option (List ℕ)) (names : List (List ℕ)) → with_new_session j name by names ≡ Some k → More j k (session_over j)
session_grown j k name by names e =
    let m = session_added j k name by names e in
    subst (λ (x : DraftView). More j x (session_over j)) m.is (record { more = session_more j name by m.modules; judged = session_judged j name by m.modules (nat_le SESSION_LIMIT (length j.sessions)) refl })

-- a task more

abbrev has_private : TaskView → Bool
has_private t = nat_le t.private PRIVATE_LIMIT

abbrev has_budget : TaskView → Bool
has_budget t = nat_le t.budget BUDGET_LIMIT

abbrev has_room : TaskView → Bool
has_room t = nat_le t.room ROOM_LIMIT

task_more_of : (j : DraftView) (t : TaskView) (w : Limit) → holds w (with_task j t) ≡ true → holds w j ≡ true
task_more_of j t limit.Tasks e = fewer j.tasks _ TASK_LIMIT e
task_more_of j t limit.Private e = first_of has_private j.tasks _ e
task_more_of j t limit.Budget e = first_of has_budget j.tasks _ e
task_more_of j t limit.Room e = first_of has_room j.tasks _ e
task_more_of j t w e = e

-- it holds each limit that comes before this one
record TaskKeeps (j : DraftView) (t : TaskView) (n : ℕ) : Type 0 where
  count : 7 < n → nat_le TASK_LIMIT (length j.tasks) ≡ false
  private : 8 < n → has_private t ≡ true
  budget : 9 < n → has_budget t ≡ true
  room : 10 < n → has_room t ≡ true

task_first : (j : DraftView) (t : TaskView) (n : ℕ) → Holds j → TaskKeeps j t n → (w : Limit) → rank w < n → holds w (with_task j t) ≡ true
task_first j t n h k limit.Tasks less = room_left j.tasks _ TASK_LIMIT (k.count less)
task_first j t n h k limit.Private less = all_last has_private j.tasks _ (h limit.Private) (k.private less)
task_first j t n h k limit.Budget less = all_last has_budget j.tasks _ (h limit.Budget) (k.budget less)
task_first j t n h k limit.Room less = all_last has_room j.tasks _ (h limit.Room) (k.room less)
task_first j t n h k w less = h w

rank_most : (w : Limit) → rank w < 11
rank_most limit.Input = omega arith
rank_most limit.Modules = omega arith
rank_most limit.Size = omega arith
rank_most limit.Line = omega arith
rank_most limit.Places = omega arith
rank_most limit.Phases = omega arith
rank_most limit.Sessions = omega arith
rank_most limit.Tasks = omega arith
rank_most limit.Private = omega arith
rank_most limit.Budget = omega arith
rank_most limit.Room = omega arith

task_judged : (j : DraftView) (t : TaskView) (q a b c : Bool) → nat_le TASK_LIMIT (length j.tasks) ≡ q → has_private t ≡ a → has_budget t ≡ b → has_room t ≡ c → Holds j →
    Found (cond q (Some limit.Tasks) (cond a (cond b (cond c None (Some limit.Room)) (Some limit.Budget)) (Some limit.Private))) (with_task j t)
task_judged j t true a b c e p u r h =
    (no_room j.tasks _ TASK_LIMIT e, task_first j t 7 h (record { count = λ l. absurd (omega (arith, l)); private = λ l. absurd (omega (arith, l)); budget = λ l. absurd (omega (arith, l)); room = λ l. absurd (omega (arith, l)) }))
task_judged j t false false b c e p u r h =
    (all_not has_private j.tasks _ p, task_first j t 8 h (record { count = λ l. e; private = λ l. absurd (omega (arith, l)); budget = λ l. absurd (omega (arith, l)); room = λ l. absurd (omega (arith, l)) }))
task_judged j t false true false c e p u r h =
    (all_not has_budget j.tasks _ u, task_first j t 9 h (record { count = λ l. e; private = λ l. p; budget = λ l. absurd (omega (arith, l)); room = λ l. absurd (omega (arith, l)) }))
task_judged j t false true true false e p u r h =
    (all_not has_room j.tasks _ r, task_first j t 10 h (record { count = λ l. e; private = λ l. p; budget = λ l. u; room = λ l. absurd (omega (arith, l)) }))
task_judged j t false true true true e p u r h =
    λ w. task_first j t 11 h (record { count = λ l. e; private = λ l. p; budget = λ l. u; room = λ l. r }) w (rank_most w)

task_grown : (j : DraftView) (name : List ℕ) (entry private budget room : ℕ) → More j (with_task j (fresh_task name entry private budget room).task) (task_over j private budget room)
task_grown j name entry private budget room =
    let t : TaskView = (fresh_task name entry private budget room).task in
    record {
      more = task_more_of j t;
      judged = task_judged j t (nat_le TASK_LIMIT (length j.tasks)) (nat_le private PRIVATE_LIMIT) (nat_le budget BUDGET_LIMIT) (nat_le room ROOM_LIMIT) refl refl refl refl;
    }

-- further cards of it

record SameSizes (t u : TaskView) : Type 0 where
  private : t.private ≡ u.private
  budget : t.budget ≡ u.budget
  room : t.room ≡ u.room

task_alike : (j : DraftView) (t u : TaskView) → SameSizes t u → (w : Limit) → holds w (with_task j t) ≡ holds w (with_task j u)
task_alike j t u s limit.Tasks =
    let x : length (with_task j t).tasks ≡ length (with_task j u).tasks = omega (arith, length-append {A = TaskView}) in
    ap (λ (n : ℕ). nat_le n TASK_LIMIT) x
task_alike j t u s limit.Private = all_same has_private j.tasks _ _ (ap (λ (n : ℕ). nat_le n PRIVATE_LIMIT) s.private)
task_alike j t u s limit.Budget = all_same has_budget j.tasks _ _ (ap (λ (n : ℕ). nat_le n BUDGET_LIMIT) s.budget)
task_alike j t u s limit.Room = all_same has_room j.tasks _ _ (ap (λ (n : ℕ). nat_le n ROOM_LIMIT) s.room)
task_alike j t u s w = refl

same_sizes : (t : TaskView) (p q : TaskPart) → p ≡ q → SameSizes t p.task → SameSizes t q.task
same_sizes t p q e s = subst (λ (x : TaskPart). SameSizes t x.task) e s

more_sizes : (c : CardView) (t u : TaskPart) → task_more t c ≡ Some u → SameSizes t.task u.task
more_sizes (Reg k v) t u e = same_sizes t.task _ u (cond_some (takes_reg t.stage k) (part (with_reg t.task k v) (stage.Regs (k + 1))) u e).1 (record { private = refl; budget = refl; room = refl })
more_sizes (Data c) t u e = same_sizes t.task _ u (cond_some (takes_data t.stage && is_inside t.task.private c) (part (with_data t.task c) stage.Data) u e).1 (record { private = refl; budget = refl; room = refl })
more_sizes (Input bytes) t u e = same_sizes t.task _ u (same_Some _ u e) (record { private = refl; budget = refl; room = refl })
more_sizes c t u e = absurd cc

-- each line

grows_to : (st s t : State) → t ≡ s → More (draft_sofar st) (draft_sofar t) t.over → More (draft_sofar st) (draft_sofar s) s.over
grows_to st s t e g = subst (λ (x : State). More (draft_sofar st) (draft_sofar x) x.over) e g

raw_grows : (p : Part) (j : DraftView) (text : List ℕ) (s : State) → takes_raw p ≡ true → take_raw p j text ≡ Some s → More (sofar_at p j) (draft_sofar s) s.over
raw_grows (kind.Listed i left texts) j text s raw e =
    subst (λ (x : State). More (with_module j i (Some (texts ++ replicate left []))) (draft_sofar x) x.over) (same_Some _ s e) (line_grown j i texts text left (left - 1))
raw_grows p j text s raw e = absurd cc

text_grows : (p : Part) (j : DraftView) (bytes : List ℕ) (s : State) → take_text p j bytes ≡ Some s → More (sofar_at p j) (draft_sofar s) s.over
text_grows (kind.Texts i left) j bytes s e =
    let next : State = state (kind.Texts (with_bytes i bytes) (left - length bytes)) j None in
    let g = cond_some (nat_le (length bytes) left) next s e in
    let fit : length bytes ≤ left = grind (arith, nat_tests, g.0) in
    subst (λ (x : State). More (with_module j (with_bytes i (replicate left 0)) None) (draft_sofar x) x.over) g.1 (text_grown j i left bytes fit)
text_grows p j bytes s e = absurd cc

listing_grows : (p : Part) (j : DraftView) (n : ℕ) (s : State) → take_listing p j n ≡ Some s → More (sofar_at p j) (draft_sofar s) s.over
listing_grows (kind.Texts i left) j n s e =
    let next : State = state (kind.Listed i n []) j None in
    let g = cond_some (nat_eq left 0) next s e in
    let none : left ≡ 0 = grind (arith, nat_tests, g.0) in
    subst (λ (x : State). More (with_module j (with_bytes i (replicate left 0)) None) (draft_sofar x) x.over) g.1 (listing_grown j i left n none)
listing_grows p j n s e = absurd cc

more_grows : (p : Part) (j : DraftView) (c : CardView) (s : State) → take_more p j c ≡ Some s → More (sofar_at p j) (draft_sofar s) s.over
more_grows (kind.Task t) j c s e =
    let m = map_some (λ u. state (kind.Task u) j None) (task_more t c) s e in
    subst (λ (x : State). More (with_task j t.task) (draft_sofar x) x.over) m.gives (alike _ _ (task_alike j t.task m.from.task (more_sizes c t m.from m.was)))
more_grows p j c s e = absurd cc

session_grows : (p : Part) (j : DraftView) (name : List ℕ) (by : Option (List ℕ)) (names : List (List ℕ)) (s : State) → is_sessions p ≡ true → add_session j name by names ≡ Some s → More (sofar_at p j) (draft_sofar s) s.over
session_grows kind.Sessions j name by names s is e =
    let m = map_some (λ k. state kind.Sessions k (session_over j)) (with_new_session j name by names) s e in
    subst (λ (x : State). More j (draft_sofar x) x.over) m.gives (session_grown j m.from name by names m.was)
session_grows p j name by names s is e = absurd cc

cover_grows : (p : Part) (j : DraftView) → is_start p ≡ true → More (sofar_at p j) j None
cover_grows kind.Start j e = same_grown j j refl
cover_grows p j e = absurd cc

card_grows : (ask : Controllers) (c : CardView) (st s : State) → take_card ask st c ≡ Some s → More (draft_sofar st) (draft_sofar s) s.over
card_grows ask Cover st s e =
    let g = cond_some (is_start st.part) (state kind.Modules st.job None) s e in
    grows_to st s (state kind.Modules st.job None) g.1 (cover_grows st.part st.job g.0)
card_grows ask (Module name base size) st s e =
    let t = then_some (open_module name base size) (closed_module st.part st.job) s e in
    let next : State = state (kind.Texts (no_bytes name base) size) t.from (module_over t.from size) in
    let g = cond_some (fits t.from name base size) next s t.gives in
    grows_to st s next g.1 (from_closed ask st.part st.job t.from (draft_sofar next) (module_over t.from size) (closed_of_module ask st.part st.job t.from t.was) (module_grown t.from name base size))
card_grows ask (Text bytes) st s e = text_grows st.part st.job bytes s e
card_grows ask (Listing n) st s e = listing_grows st.part st.job n s e
card_grows ask (Serve v) st s e =
    let t = then_some (add_service v) (closed_service st.part st.job) s e in
    let m = map_some (λ k. state kind.Services k None) (with_service t.from v) s t.gives in
    grows_to st s (state kind.Services m.from None) m.gives (from_closed ask st.part st.job t.from m.from None (closed_of_service ask st.part st.job t.from t.was) (service_grown t.from m.from v m.was))
card_grows ask (Phase name) st s e =
    let t = then_some (open_phase name) (closed ask st.part st.job) s e in
    let m = map_some (λ k. state kind.Sessions k (phase_over t.from)) (with_phase t.from name) s t.gives in
    grows_to st s (state kind.Sessions m.from (phase_over t.from)) m.gives (from_closed ask st.part st.job t.from m.from (phase_over t.from) t.was (phase_grown t.from m.from name m.was))
card_grows ask (Session name by names) st s e =
    let g = guard_more (is_sessions st.part) (add_session st.job name by names) s e in
    session_grows st.part st.job name by names s g.0 g.1
card_grows ask (Task n e p b r) st s took =
    let t = then_some (open_task n e p b r) (closed_task st.part st.job) s took in
    let next : State = state (kind.Task (fresh_task n e p b r)) t.from (task_over t.from p b r) in
    let g = guard_none (has_task t.from n) next s t.gives in
    grows_to st s next g.1 (subst (λ (x : DraftView). More x (draft_sofar next) (task_over t.from p b r)) (task_sofar st.part st.job t.from t.was) (task_grown t.from n e p b r))
card_grows ask End st s e =
    let m = map_some end (closed ask st.part st.job) s e in
    grows_to st s (end m.from) m.gives (from_closed ask st.part st.job m.from m.from None m.was (same_grown m.from m.from refl))
card_grows ask (Reg n v) st s e = more_grows st.part st.job (Reg n v) s e
card_grows ask (Data c) st s e = more_grows st.part st.job (Data c) s e
card_grows ask (Input bytes) st s e = more_grows st.part st.job (Input bytes) s e

pub step_grows : (ask : Controllers) (st s : State) (l : LineView) → step ask st l ≡ Some s → Grown (sofar st) (sofar s) s.over
step_grows ask st s l e = elim (choose (takes_raw st.part) (take_raw st.part st.job (listing_text l)) (option_and_then (take_card ask st) (card_at l.bytes)) (Some s) e) [
  | inl w ↦ grown_of (draft_sofar st) (draft_sofar s) s.over (raw_grows st.part st.job (listing_text l) s w.0 w.1)
  | inr w ↦ (let t = then_some (take_card ask st) (card_at l.bytes) s w.1 in grown_of (draft_sofar st) (draft_sofar s) s.over (card_grows ask t.from st s t.gives))
]

pub run_more : (ask : Controllers) (ls : List LineView) (st e : State) → run ask st ls ≡ Some e → (w : Limit) → keeps w (sofar e) ≡ true → keeps w (sofar st) ≡ true
run_more ask [] st e r w k = let same : st ≡ e = same_Some st e r in subst (λ (x : State). keeps w (sofar x) ≡ true) (sym same) k
run_more ask (l ∷ ls) st e r w k =
    let t = then_some (λ s. run ask s ls) (step ask st l) e r in
    (step_grows ask st t.from l t.was).more w (run_more ask ls t.from e t.gives w k)
