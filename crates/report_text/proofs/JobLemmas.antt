-- What the code reads of a job.
use Rattle.std.proofs.Common.{◌≡◌, ℕ, ◌<◌, Option, None, List, length, get_or, sym, ◌∙◌}
use Rattle.std.proofs.lemmas.List.{get_or_read}
use Rattle.session_book.specs.Meaning.{JobView}

-- us is what the vector holds
pub listing_read : (job : JobView) (us : List (Option (List (List ℕ)))) (m : ℕ) (x y : Option (List (List ℕ))) → us ≡ job.listings → m < length job.listings → x ≡ get_or us m x → x ≡ y → get_or job.listings m None ≡ y
listing_read job us m x y seen below is what = sym (get_or_read job.listings m x below (rw seen at is) None) ∙ what
