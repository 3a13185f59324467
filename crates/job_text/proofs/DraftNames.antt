-- What the names of a job that is read in part find.
use Rattle.std.proofs.Common.{◌≡◌, ℕ, Bool, false, nat_eq, if◌then◌else◌, None, Some, List, [], ◌∷◌, ◌++◌, map, position, get_or, refl, ap, sym, ◌∙◌, subst}
use Rattle.std.specs.List.{list_any}
use Rattle.std.specs.Str.{bytes_eq}
use Rattle.std.proofs.lemmas.List.{map_push}
use Rattle.cov_base.specs.Lists.{Differ}
use Rattle.cov_base.specs.Meaning.{ImageView}
use Rattle.names.specs.Lists.{index_of, has, added}
use Rattle.names.proofs.Laws.{index_of-map, has-map, none_named, one_named}
use Rattle.session_book.specs.Meaning.{TaskView, no_task}
use Rattle.job_text.specs.Names.{task_names}
use Rattle.job_text.specs.declared.job_names.JobNames.{JobNames}
use Rattle.job_text.specs.Meaning.{SessionDraft, controller_named, has_module, has_task}
use Rattle.job_text.specs.Meaning as adding
use Rattle.job_text.specs.DraftInside.{names_in, draft_view, HasNames}
use Rattle.job_text.specs.declared.parts.Draft.TheInside.{Inside}

module _ (d : Inside) (n : List ℕ) (h : HasNames d) where
  pub module_found : has d.names.modules n ≡ has_module (draft_view d) n
  module_found = ap (λ (x : JobNames). has x.modules n) h ∙ has-map (λ (i : ImageView). i.name) d.images.items n

  pub module_index : index_of d.names.modules n ≡ adding.image_index (draft_view d) n
  module_index = ap (λ (x : JobNames). index_of x.modules n) h ∙ index_of-map (λ (i : ImageView). i.name) d.images.items n

  pub phase_found : has d.names.phases n ≡ list_any (λ p. bytes_eq p n) (draft_view d).phases
  phase_found = ap (λ (x : JobNames). has x.phases n) h

  pub session_found : has d.names.sessions n ≡ list_any (λ s. bytes_eq s.name n) (draft_view d).sessions
  session_found = ap (λ (x : JobNames). has x.sessions n) h ∙ has-map (λ (s : SessionDraft). s.name) d.sessions.items n

  pub task_found : has d.names.tasks n ≡ has_task (draft_view d) n
  task_found = ap (λ (x : JobNames). has x.tasks n) h ∙ has-map (λ (t : TaskView). t.name) d.tasks.items n

-- a name more, which is new
one_more : {X : Type 0} (name : X → List ℕ) (xs : List X) (x : X) → list_any (λ y. bytes_eq (name y) (name x)) xs ≡ false → added (map name xs) (name x) ≡ map name (xs ++ x ∷ [])
one_more name xs x new = rw (has-map name xs (name x), new, map_push name xs x) refl

module _ (d : Inside) (h : HasNames d) where
  pub with_module_named : (i : ImageView) → has_module (draft_view d) i.name ≡ false →
      (ns : List (List ℕ)) → ns ≡ added d.names.modules i.name → record d.names { modules = ns } ≡ names_in (record (draft_view d) { images = d.images.items ++ i ∷ [] })
  with_module_named i new ns e =
      ap (λ (x : List (List ℕ)). record d.names { modules = x }) e ∙ (ap (λ (x : JobNames). record x { modules = added x.modules i.name }) h ∙ ap (λ (x : List (List ℕ)). record (names_in (draft_view d)) { modules = x }) (one_more (λ (x : ImageView). x.name) d.images.items i new))

  pub with_phase_named : (n : List ℕ) → has d.phases.items n ≡ false →
      (ns : List (List ℕ)) → ns ≡ added d.names.phases n → record d.names { phases = ns } ≡ names_in (record (draft_view d) { phases = d.phases.items ++ n ∷ [] })
  with_phase_named n new ns e =
      ap (λ (x : List (List ℕ)). record d.names { phases = x }) e ∙ (ap (λ (x : JobNames). record x { phases = added x.phases n }) h ∙ ap (λ (x : List (List ℕ)). record (names_in (draft_view d)) { phases = x }) (rw new refl))

  pub with_session_named : (s : SessionDraft) → list_any (λ x. bytes_eq x.name s.name) d.sessions.items ≡ false →
      (ns : List (List ℕ)) → ns ≡ added d.names.sessions s.name → record d.names { sessions = ns } ≡ names_in (record (draft_view d) { sessions = d.sessions.items ++ s ∷ [] })
  with_session_named s new ns e =
      ap (λ (x : List (List ℕ)). record d.names { sessions = x }) e ∙ (ap (λ (x : JobNames). record x { sessions = added x.sessions s.name }) h ∙ ap (λ (x : List (List ℕ)). record (names_in (draft_view d)) { sessions = x }) (one_more (λ (x : SessionDraft). x.name) d.sessions.items s new))

  pub with_task_named : (t : TaskView) → has_task (draft_view d) t.name ≡ false →
      (ns : List (List ℕ)) → ns ≡ added d.names.tasks t.name → record d.names { tasks = ns } ≡ names_in (record (draft_view d) { tasks = d.tasks.items ++ t ∷ [] })
  with_task_named t new ns e =
      ap (λ (x : List (List ℕ)). record d.names { tasks = x }) e ∙ (ap (λ (x : JobNames). record x { tasks = added x.tasks t.name }) h ∙ ap (λ (x : List (List ℕ)). record (names_in (draft_view d)) { tasks = x }) (one_more (λ (x : TaskView). x.name) d.tasks.items t new))

-- the task of a phase that a name finds among all tasks

pub controller_none : (names : List (List ℕ)) (tasks : List TaskView) (phase : ℕ) (n : List ℕ) → names ≡ task_names tasks → index_of names n ≡ None → None ≡ controller_named tasks phase n
controller_none names tasks phase n are e =
    sym (none_named (λ (t : TaskView). t.name) (λ (t : TaskView). nat_eq t.phase phase) tasks n no_task (sym (index_of-map (λ (t : TaskView). t.name) tasks n) ∙ (ap (λ (l : List (List ℕ)). index_of l n) (sym are) ∙ e)))

pub controller_here : (names : List (List ℕ)) (tasks : List TaskView) (phase : ℕ) (n : List ℕ) (i : ℕ) (d : TaskView) (b : Bool) → names ≡ task_names tasks → Differ names → index_of names n ≡ Some i → nat_eq (get_or tasks i d).phase phase ≡ b →
    (if b then Some i else None) ≡ controller_named tasks phase n
controller_here names tasks phase n i d b are differ e q =
    let first : position (λ (t : TaskView). bytes_eq t.name n) tasks ≡ Some i = sym (index_of-map (λ (t : TaskView). t.name) tasks n) ∙ (ap (λ (l : List (List ℕ)). index_of l n) (sym are) ∙ e) in
    sym (one_named (λ (t : TaskView). t.name) (λ (t : TaskView). nat_eq t.phase phase) tasks n d i (subst Differ are differ) first ∙ ap (λ (t : Bool). if t then Some i else None) q)
