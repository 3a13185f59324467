use Rattle.std.proofs.Common.{◌≡◌, ◌<◌, length, get_or, None, Some, ap, arith}
use Rattle.session_book.specs.Meaning.{JobView}
use Rattle.report_text.proofs.JobLemmas.{listing_read}
use Rattle.report_text.proofs.sessions.listing_text.Goals as goal

pub returns-in-Some : goal.returns-in-Some
returns-in-Some g c =
    let below : c.args.m < length c.args.job.now.listings = omega (arith, c.job.invariant.listings, ap (λ (j : JobView). length j.listings) c.job.view_is, ap (λ (j : JobView). length j.images) c.job.view_is) in
    let listing : get_or c.args.job.now.listings c.args.m None ≡ Some c.in-Some.lines = listing_read c.args.job.now c.job.inside.listings.items c.args.m _ _ (ap (λ (j : JobView). j.listings) c.job.view_is) below c.index.ensures c.in-Some.is in
    rw listing c.listing_part.ensures
