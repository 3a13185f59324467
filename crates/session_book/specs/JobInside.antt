-- A job by its fields.
use Rattle.session_book.specs.Meaning.{JobView}
use Rattle.session_book.specs.JobView.{IsJob}
use Rattle.session_book.specs.declared.job.Job.TheInside.{Inside}

abbrev pub job_view : Inside → JobView
job_view j =
    record {
      images = j.images;
      listings = j.listings.items;
      services = j.services.items;
      phases = j.phases.items;
      sessions = j.sessions.items;
      tasks = j.tasks.items;
    }

abbrev pub IsSound : Inside → Type 0
IsSound j = IsJob (job_view j)
