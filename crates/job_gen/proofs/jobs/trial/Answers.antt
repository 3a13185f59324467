use Rattle.std.proofs.Common.{refl, sym, subst, ◌∙◌}
use Rattle.session_book.specs.JobView.{IsJob}
use Rattle.job_gen.specs.Meaning.{trial_code}
use Rattle.job_gen.proofs.JobLemmas.{trial_is_job, trial_made}
use Rattle.job_gen.proofs.jobs.trial.Goals as goal

pub new-requires-2 : goal.new-requires-2
unfolding trial_code
new-requires-2 c =
    let made = trial_made c.args.number c.args.tasks _ _ _ _ _ _
    (rw (c.in_ok-vec-2.ensures.items, c.letter.ensures, c.of.ensures, c.in_ok-bytes_of.ensures, c.deref.ensures.value, c.in_ok-code.ensures.code) refl)
    (rw (c.in_ok-vec-3.ensures.items, c.in_ok-listing_of.ensures, c.deref-2.ensures.value, c.in_ok-code.ensures.code) refl)
    c.new.ensures.items
    (rw (c.in_ok-vec-4.ensures.items, c.letter-3.ensures) refl)
    (rw (c.in_ok-vec-5.ensures.items, c.letter-2.ensures, c.in_ok-vec.ensures.items) refl)
    c.in_ok-tasks_of.ensures in
    subst IsJob (sym made) (trial_is_job c.args.number c.args.tasks c.requires.most)

pub returns : goal.returns
unfolding trial_code
returns c =
    c.new-2.ensures ∙ trial_made c.args.number c.args.tasks _ _ _ _ _ _
    (rw (c.in_ok-vec-2.ensures.items, c.letter.ensures, c.of.ensures, c.in_ok-bytes_of.ensures, c.deref.ensures.value, c.in_ok-code.ensures.code) refl)
    (rw (c.in_ok-vec-3.ensures.items, c.in_ok-listing_of.ensures, c.deref-2.ensures.value, c.in_ok-code.ensures.code) refl)
    c.new.ensures.items
    (rw (c.in_ok-vec-4.ensures.items, c.letter-3.ensures) refl)
    (rw (c.in_ok-vec-5.ensures.items, c.letter-2.ensures, c.in_ok-vec.ensures.items) refl)
    c.in_ok-tasks_of.ensures
