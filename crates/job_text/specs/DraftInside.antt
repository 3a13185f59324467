-- What of a job was read whole, by its fields.
use Rattle.std.specs.Prelude.{◌≡◌, map}
use Rattle.job_text.specs.Names.{module_names, task_names}
use Rattle.job_text.specs.declared.job_names.JobNames.{JobNames}
use Rattle.job_text.specs.Meaning.{SessionDraft, DraftView}
use Rattle.job_text.specs.declared.parts.Draft.TheInside.{Inside}

-- the names of a job, each kind in the order of its cards
abbrev pub names_in : DraftView → JobNames
names_in j =
    record {
      modules = module_names j.images;
      phases = j.phases;
      sessions = map (λ (s : SessionDraft). s.name) j.sessions;
      tasks = task_names j.tasks;
    }

abbrev pub draft_view : Inside → DraftView
draft_view d =
    record {
      grammar = d.grammar;
      images = d.images.items;
      listings = d.listings.items;
      services = d.services.items;
      phases = d.phases.items;
      sessions = d.sessions.items;
      tasks = d.tasks.items;
    }

abbrev pub HasNames : Inside → Type 0
HasNames d = d.names ≡ names_in (draft_view d)
