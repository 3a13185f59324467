-- What the calls of an area ask of its table, and what the steps' tellings come to.
use Rattle.std.proofs.Common.{◌≡◌, ◌≢◌, ℕ, ◌+◌, ◌*◌, ◌%◌, ◌^◌, ◌<◌, ◌≤◌, Bool, true, false, ◌&&◌, nat_eq, is_some, unwrap_or, eqb, eqb-true, List, length, sym, refl, ap, ◌∙◌, subst, arith, bit_or, if◌then◌else◌, IsSome}
use prog.Atomic.{either}
use Rattle.atomic_table.specs.Table.{Allows}
use Rattle.atomic_table.specs.declared.shared.Seat.{Seat}
use Rattle.cov_base.specs.declared.facts.Fact.{Fact}
use Rattle.cov_base.specs.Meaning.{FactSet, has_fact, breakpoint}
use Rattle.module_area.specs.declared.cells.Cell.{Cell}
use Rattle.module_area.specs.declared.parties.View.{View}
use Rattle.module_area.specs.declared.parties.Role.{Role}
use Rattle.module_area.specs.declared.parties.Role.TheVariants.{Root, Task, Spent}
use Rattle.module_area.specs.declared.tallies.Tally.{Tally}
use Rattle.module_area.specs.Meaning.{PlanView, original_at, kind_at, is_over, is_controlled}
use Rattle.module_area.specs.Rule.{has_task, Has, add_if, last_tag, window_tag, fetching, marking, lifting, tagging, Keeps}
use Rattle.module_area.specs.Notes.{own_number, is_working}
use Rattle.module_area.specs.Parties.{giving, reading, role_task}
use Rattle.shared_area.specs.declared.rule.NoSlot.{NoSlot}
use Rattle.shared_area.specs.declared.cells.SharedCells.{SharedCells}
use Rattle.module_area.specs.Words.{cell_of}
use Rattle.shared_area.specs.Words.{word_of, closed_word_of, bit_of, facts_of, set_word, task_word}
use Rattle.shared_area.specs.Told.{is_given, bears_as, notes_in}
use Rattle.shared_area.specs.Rule.{IsArea, MayFetch, Fetched, MayMark, Marked, Looked, Lifted, SetRead}
use Rattle.shared_area.proofs.Picked.{Tagged, Bounded, WordNoted, tag_in, session_in, task_at}
use Rattle.shared_area.proofs.WordLemmas.{session_in-word_of, tag_in-word_of, tag_in-closed_word_of, words_enough, words_some, cell_front, set_front, task_there, task_at-task_word}
use Rattle.shared_area.proofs.NoteLemmas.{more_given}
use Rattle.shared_area.proofs.FrontLemmas.{fetch_stands, mark_stands, look_stands, lift_stands, plant_stands, close_stands}
use Rattle.shared_area.proofs.TaskLemmas.{note_stands, bound_stands, read_stands}

-- ---- what a pass keeps
pub record IsLive (marks lifts : ℕ) (v : View) : Type 0 where
  pub live : v.role ≢ Spent
  pub counted : (marks ≡ length v.marked) × (lifts ≡ length v.lifted)
  pub given : is_given v.given v.joined ≡ true

abbrev pub one_of : Bool → ℕ
one_of b = if b then 1 else 0

length-add_if : {X : Type 0} (b : Bool) (x : X) (xs : List X) (n k : ℕ) → n ≡ length xs → k ≡ one_of b → n + k ≡ length (add_if b x xs)
length-add_if true x xs n k e h = omega arith
length-add_if false x xs n k e h = omega arith

pub fetch_live : (plan : PlanView) (p : ℕ) (c : Cell) (a b : ℕ) (v v' : View) → v' ≡ fetching plan p c v → IsLive a b v → IsLive a b v'
fetch_live plan p c a b v v' e h = subst (IsLive a b) (sym e) record { live = h.live; counted = h.counted; given = h.given }

pub mark_live : (plan : PlanView) (s p : ℕ) (f : Fact) (found : FactSet) (a b : ℕ) (v v' : View) → v' ≡ marking plan s p f found v → IsLive a b v → IsLive (a + 1) b v'
mark_live plan s p f found a b v v' e h = subst (IsLive (a + 1) b) (sym e) record { live = h.live; counted = ((let c = h.counted.0 in omega arith), h.counted.1); given = h.given }

pub lift_live : (s p a b k : ℕ) (did : Bool) (v v' : View) → v' ≡ lifting s p did v → k ≡ one_of did → IsLive a b v → IsLive a (b + k) v'
lift_live s p a b k did v v' e n h = subst (IsLive a (b + k)) (sym e) record { live = h.live; counted = (h.counted.0, length-add_if did (s, p) v.lifted b k h.counted.1 n); given = h.given }

pub tag_live : (p t a b : ℕ) (v v' : View) → v' ≡ tagging p t v → IsLive a b v → IsLive a b v'
tag_live p t a b v v' e h = subst (IsLive a b) (sym e) record { live = h.live; counted = h.counted; given = h.given }

pub read_live : (s p : ℕ) (final : Bool) (found : FactSet) (a b : ℕ) (v v' : View) → v' ≡ reading s p final found v → IsLive a b v → IsLive a b v'
read_live s p final found a b v v' e h = subst (IsLive a b) (sym e) record { live = h.live; counted = h.counted; given = h.given }

pub split_live : (t a b : ℕ) (v v' : View) → v' ≡ giving t v → IsLive a b v → IsLive a b v'
split_live t a b v v' e h = subst (IsLive a b) (sym e) record { live = h.live; counted = h.counted; given = more_given t v.given v.joined h.given }

pub is_task : (r : Role) → IsSome (bears_as r) → r ≡ Task (role_task r)
is_task (Task t) h = refl
is_task Root h = absurd cc
is_task Spent h = absurd cc

working_as : (v : View) (q : Role) → (is_some (bears_as q) && nat_eq (last_tag (unwrap_or (bears_as q) 0) v.numbers % 2) 0) ≡ true → (t : ℕ) × (q ≡ Task t) × (last_tag t v.numbers % 2 ≢ 1)
working_as v (Task t) h = (t, refl, λ odd. let z = eqb-true (last_tag t v.numbers % 2) 0 h in absurd (omega (arith, z, odd)))
working_as v Root h = absurd cc
working_as v Spent h = absurd cc

-- a working pass is a task's that has not ended
pub working_task : (v : View) (tally : Tally) → is_working (notes_in v tally) ≡ true → (t : ℕ) × (v.role ≡ Task t) × (last_tag t v.numbers % 2 ≢ 1)
working_task v tally h = working_as v v.role h

-- its own number is that of its last boundary
pub own_is : (v : View) (tally : Tally) (t : ℕ) → v.role ≡ Task t → own_number (notes_in v tally) ≡ last_tag t v.numbers
own_is v tally t bears = ap (λ r. last_tag (unwrap_or (bears_as r) 0) v.numbers) bears

module _ (me : SharedCells) where
  pub some_word : 0 < me.table.shared.table_id.words
  some_word = let a = words_some me.plan in let w = me.wide in omega arith

  pub cell_there : (p : ℕ) → p < length me.plan.places → p < me.table.shared.table_id.words
  cell_there p l = let a = words_enough me.plan in let b = cell_front me.plan p l in let w = me.wide in omega (arith, a, b, w)

  set_there : (s p i : ℕ) → 0 < s → s ≤ me.plan.sessions → p < length me.plan.places → i ≡ set_word (length me.plan.places) s p → i < me.table.shared.table_id.words
  set_there s p i pos ls l e = let a = set_front me.plan s p pos ls l in let b = words_enough me.plan in let w = me.wide in omega (arith, a, b, w, e)

  -- a fetch, by what the call picked: its plan and place
  pub fetch_at : (seat : Seat NoSlot View) (p : ℕ) → MayFetch me.plan p seat.me.0 → (plan : PlanView) (q : ℕ) → (plan ≡ me.plan) × (q ≡ p)
      → Allows (IsArea me.table.shared.key.value) me.table.shared.table_id.slots seat.id seat.me p (λ w. w) (λ w m. Fetched plan q seat.me.0 (cell_of w) m.0 × (m.1 ≡ seat.me.1))
  fetch_at seat p may plan q picked =
      subst (λ (z : PlanView × PlanView × ℕ). Allows (IsArea z.0) me.table.shared.table_id.slots seat.id seat.me p (λ w. w) (λ w m. Fetched z.1 z.2 seat.me.0 (cell_of w) m.0 × (m.1 ≡ seat.me.1)))
      (λ j. (sym me.keyed j, sym picked.0 j, sym picked.1 j)) (fetch_stands me.plan me.table.shared.table_id.slots seat.id p may.task seat.me may.bears may.even may.live may.place)

  -- and what it told
  pub fetched_is : (v v' : View) (p : ℕ) (c : Cell) (plan : PlanView) (q : ℕ) → (plan ≡ me.plan) × (q ≡ p) → Fetched plan q v c v' → Fetched me.plan p v c v'
  fetched_is v v' p c plan q picked h = subst (λ (z : PlanView × ℕ). Fetched z.0 z.1 v c v') (λ j. (picked.0 j, picked.1 j)) h

  -- the two steps of a mark, by what the call picked: its plan, session, place and fact
  module _ (seat : Seat NoSlot View) (s p : ℕ) (f : Fact) (i : ℕ) (may : MayMark me.plan s p f seat.me.0) (at : i ≡ set_word (length me.plan.places) s p) (plan : PlanView) (t q : ℕ) (g : Fact)
      (picked : (plan ≡ me.plan) × (t ≡ s) × (q ≡ p) × (g ≡ f)) where
    pub word_there : i < me.table.shared.table_id.words
    word_there = set_there s p i may.session may.in_plan may.place at

    pub look_at : (is : FactSet → Bool) → ((x : FactSet) → is x ≡ true → has_fact x f ≡ true)
        → Allows (IsArea me.table.shared.key.value) me.table.shared.table_id.slots seat.id seat.me i (λ x. x) (λ w m. Looked is plan t q g seat.me.0 (facts_of (kind_at plan q) q w) m.0 × (m.1 ≡ seat.me.1))
    look_at is has = subst (λ (z : PlanView × ℕ × PlanView × ℕ × ℕ × Fact). Allows (IsArea z.0) me.table.shared.table_id.slots seat.id seat.me z.1 (λ x. x) (λ w m. Looked is z.2 z.3 z.4 z.5 seat.me.0 (facts_of (kind_at z.2 z.4) z.4 w) m.0 × (m.1 ≡ seat.me.1)))
        (λ j. (sym me.keyed j, sym at j, sym picked.0 j, sym picked.1 j, sym picked.2 j, sym picked.3 j)) (look_stands me.plan me.table.shared.table_id.slots seat.id s p f is has seat.me may)

    pub mark_at : (k : ℕ) → k ≡ 2 ^ bit_of p f
        → Allows (IsArea me.table.shared.key.value) me.table.shared.table_id.slots seat.id seat.me i (λ x. bit_or x k) (λ w m. Marked plan t q g seat.me.0 (facts_of (kind_at plan q) q w) m.0 × (m.1 ≡ seat.me.1))
    mark_at k bit = subst (λ (z : PlanView × ℕ × ℕ × PlanView × ℕ × ℕ × Fact). Allows (IsArea z.0) me.table.shared.table_id.slots seat.id seat.me z.1 (λ x. bit_or x z.2) (λ w m. Marked z.3 z.4 z.5 z.6 seat.me.0 (facts_of (kind_at z.3 z.5) z.5 w) m.0 × (m.1 ≡ seat.me.1)))
        (λ j. (sym me.keyed j, sym at j, sym bit j, sym picked.0 j, sym picked.1 j, sym picked.2 j, sym picked.3 j)) (mark_stands me.plan me.table.shared.table_id.slots seat.id s p f seat.me may)

  pub lift_at : (seat : Seat NoSlot View) (s p old new : ℕ) → original_at me.plan p < 65536 → seat.me.0.role ≢ Spent → p < length me.plan.places → 0 < s → Has (s, p) seat.me.0.full → old ≡ word_of s breakpoint → new ≡ word_of s (original_at me.plan p)
      → Allows (IsArea me.table.shared.key.value) me.table.shared.table_id.slots seat.id seat.me p (λ x. either (eqb x old) new x) (λ w m. Lifted (session_in old) p old seat.me.0 w m.0 × (m.1 ≡ seat.me.1))
  lift_at seat s p old new small live l pos met eo en =
      let F : PlanView → Type 0 = λ q. Allows (IsArea q) me.table.shared.table_id.slots seat.id seat.me p (λ x. either (eqb x old) new x) (λ w m. Lifted (session_in old) p old seat.me.0 w m.0 × (m.1 ≡ seat.me.1)) in
      let G : ℕ × ℕ × ℕ → Type 0 = λ z. Allows (IsArea me.plan) me.table.shared.table_id.slots seat.id seat.me p (λ x. either (eqb x z.0) z.1 x) (λ w m. Lifted z.2 p z.0 seat.me.0 w m.0 × (m.1 ≡ seat.me.1)) in
      let is_s : session_in old ≡ s = ap session_in eo ∙ session_in-word_of s breakpoint pos (omega arith) in
      subst F (sym me.keyed) (subst G (λ j. (sym eo j, sym en j, sym is_s j)) (lift_stands me.plan me.table.shared.table_id.slots seat.id s p seat.me small live l pos met))

  pub plant_at : (seat : Seat NoSlot View) (s p new : ℕ) → seat.me.0.role ≢ Spent → p < length me.plan.places → Keeps me.plan seat.me.0 p → 0 < s → is_over me.plan s p ≡ true → last_tag p seat.me.0.planted < window_tag s → new ≡ word_of s breakpoint
      → Allows (IsArea me.table.shared.key.value) me.table.shared.table_id.slots seat.id seat.me p (λ _. new) (λ w m. Tagged p (tag_in new) seat.me.0 m.0 × (m.1 ≡ seat.me.1))
  plant_at seat s p new live l keep pos over later en =
      let F : PlanView → Type 0 = λ q. Allows (IsArea q) me.table.shared.table_id.slots seat.id seat.me p (λ _. new) (λ w m. Tagged p (tag_in new) seat.me.0 m.0 × (m.1 ≡ seat.me.1)) in
      let G : ℕ × ℕ → Type 0 = λ z. Allows (IsArea me.plan) me.table.shared.table_id.slots seat.id seat.me p (λ _. z.0) (λ w m. Tagged p z.1 seat.me.0 m.0 × (m.1 ≡ seat.me.1)) in
      let is_t : tag_in new ≡ window_tag s = ap tag_in en ∙ tag_in-word_of s breakpoint (omega arith) in
      subst F (sym me.keyed) (subst G (λ j. (sym en j, sym is_t j)) (plant_stands me.plan me.table.shared.table_id.slots seat.id s p seat.me live l keep pos over later))

  pub close_at : (seat : Seat NoSlot View) (s p new : ℕ) → original_at me.plan p < 65536 → seat.me.0.role ≢ Spent → p < length me.plan.places → Keeps me.plan seat.me.0 p → 0 < s → is_controlled me.plan s p ≡ true → last_tag p seat.me.0.planted ≡ window_tag s → new ≡ closed_word_of s (original_at me.plan p)
      → Allows (IsArea me.table.shared.key.value) me.table.shared.table_id.slots seat.id seat.me p (λ _. new) (λ w m. Tagged p (tag_in new) seat.me.0 m.0 × (m.1 ≡ seat.me.1))
  close_at seat s p new small live l keep pos its is_open en =
      let F : PlanView → Type 0 = λ q. Allows (IsArea q) me.table.shared.table_id.slots seat.id seat.me p (λ _. new) (λ w m. Tagged p (tag_in new) seat.me.0 m.0 × (m.1 ≡ seat.me.1)) in
      let G : ℕ × ℕ → Type 0 = λ z. Allows (IsArea me.plan) me.table.shared.table_id.slots seat.id seat.me p (λ _. z.0) (λ w m. Tagged p z.1 seat.me.0 m.0 × (m.1 ≡ seat.me.1)) in
      let is_t : tag_in new ≡ 2 * s = ap tag_in en ∙ tag_in-closed_word_of s (original_at me.plan p) small in
      subst F (sym me.keyed) (subst G (λ j. (sym en j, sym is_t j)) (close_stands me.plan me.table.shared.table_id.slots seat.id s p seat.me small live l keep pos its is_open))

  -- the step of a look at a set, by what the call picked: its plan, session and place
  pub set_at : (seat : Seat NoSlot View) (s p i : ℕ) → seat.me.0.role ≢ Spent → p < length me.plan.places → 0 < s → s ≤ me.plan.sessions → i ≡ set_word (length me.plan.places) s p → (plan : PlanView) (t q : ℕ) → (plan ≡ me.plan) × (t ≡ s) × (q ≡ p)
      → (i < me.table.shared.table_id.words) × Allows (IsArea me.table.shared.key.value) me.table.shared.table_id.slots seat.id seat.me i (λ x. x) (λ w m. SetRead plan t q seat.me.0 (facts_of (kind_at plan q) q w) m.0 × (m.1 ≡ seat.me.1))
  set_at seat s p i live l pos ls at plan t q picked = (
    set_there s p i pos ls l at,
    subst (λ (z : PlanView × ℕ × PlanView × ℕ × ℕ). Allows (IsArea z.0) me.table.shared.table_id.slots seat.id seat.me z.1 (λ x. x) (λ w m. SetRead z.2 z.3 z.4 seat.me.0 (facts_of (kind_at z.2 z.4) z.4 w) m.0 × (m.1 ≡ seat.me.1)))
        (λ j. (sym me.keyed j, sym at j, sym picked.0 j, sym picked.1 j, sym picked.2 j)) (read_stands me.plan me.table.shared.table_id.slots seat.id s p seat.me live l pos ls),
  )

  task_in : (t i : ℕ) → has_task me.plan.tasks t ≡ true → i ≡ task_word me.plan t → i < me.table.shared.table_id.words
  task_in t i task e = let a = task_there me.plan t task in let b = words_enough me.plan in let w = me.wide in omega (arith, a, b, w, e)

  pub note_at : (seat : Seat NoSlot View) (t i : ℕ) → seat.me.0.role ≢ Spent → has_task me.plan.tasks t ≡ true → i ≡ task_word me.plan t
      → (i < me.table.shared.table_id.words) × Allows (IsArea me.table.shared.key.value) me.table.shared.table_id.slots seat.id seat.me i (λ x. x) (λ w m. WordNoted (task_at me.table.shared.key.value i) seat.me.0 w m.0 × (m.1 ≡ seat.me.1))
  note_at seat t i live task at = let is_t : task_at me.plan i ≡ t = ap (task_at me.plan) at ∙ task_at-task_word me.plan t task in (
    task_in t i task at,
    subst (λ (q : PlanView). Allows (IsArea q) me.table.shared.table_id.slots seat.id seat.me i (λ x. x) (λ w m. WordNoted (task_at q i) seat.me.0 w m.0 × (m.1 ≡ seat.me.1))) (sym me.keyed)
        (subst (λ (z : ℕ × ℕ). Allows (IsArea me.plan) me.table.shared.table_id.slots seat.id seat.me z.0 (λ x. x) (λ w m. WordNoted z.1 seat.me.0 w m.0 × (m.1 ≡ seat.me.1))) (λ j. (sym at j, sym is_t j)) (note_stands me.plan me.table.shared.table_id.slots seat.id t seat.me live task)),
  )

  pub noted_is : (v v' : View) (t i w : ℕ) → has_task me.plan.tasks t ≡ true → i ≡ task_word me.plan t → WordNoted (task_at me.table.shared.key.value i) v w v' → WordNoted t v w v'
  noted_is v v' t i w task at h = subst (λ z. WordNoted z v w v') (ap (λ (q : PlanView). task_at q i) me.keyed ∙ (ap (task_at me.plan) at ∙ task_at-task_word me.plan t task)) h

  pub bound_at : (seat : Seat NoSlot View) (t k i : ℕ) → seat.me.0.role ≡ Task t → seat.me.0.role ≢ Spent → has_task me.plan.tasks t ≡ true → i ≡ task_word me.plan t → last_tag t seat.me.0.numbers + k < 18446744073709551616
      → (i < me.table.shared.table_id.words) × Allows (IsArea me.table.shared.key.value) me.table.shared.table_id.slots seat.id seat.me i (λ w. (w + k) % 18446744073709551616) (λ w m. Bounded k seat.me.0 w m.0 × (m.1 ≡ seat.me.1))
  bound_at seat t k i bears live task at small = (
    task_in t i task at,
    subst (λ (z : PlanView × ℕ). Allows (IsArea z.0) me.table.shared.table_id.slots seat.id seat.me z.1 (λ w. (w + k) % 18446744073709551616) (λ w m. Bounded k seat.me.0 w m.0 × (m.1 ≡ seat.me.1)))
        (λ j. (sym me.keyed j, sym at j)) (bound_stands me.plan me.table.shared.table_id.slots seat.id t k seat.me bears live task small),
  )

pub lifted_is : (v v' : View) (s p old w : ℕ) → 0 < s → old ≡ word_of s breakpoint → Lifted (session_in old) p old v w v' → Lifted s p old v w v'
lifted_is v v' s p old w pos eo h = subst (λ z. Lifted z p old v w v') (ap session_in eo ∙ session_in-word_of s breakpoint pos (omega arith)) h

pub planted_is : (v v' : View) (s p new : ℕ) → new ≡ word_of s breakpoint → Tagged p (tag_in new) v v' → Tagged p (window_tag s) v v'
planted_is v v' s p new en h = subst (λ z. Tagged p z v v') (ap tag_in en ∙ tag_in-word_of s breakpoint (omega arith)) h

pub closed_is : (v v' : View) (s p new half : ℕ) → half < 65536 → new ≡ closed_word_of s half → Tagged p (tag_in new) v v' → Tagged p (2 * s) v v'
closed_is v v' s p new half small en h = subst (λ z. Tagged p z v v') (ap tag_in en ∙ tag_in-closed_word_of s half small) h
