use Rattle.std.proofs.lemmas.Bool.{or_left, or_right}
use Rattle.module_area.specs.Meaning.{places_under}
use Rattle.module_area.specs.Notes.{after_join, after_split}
use Rattle.early_report.proofs.ActLemmas.{closed_stays, tied_stays, known_stays}
use Rattle.early_report.proofs.FollowLemmas.{known_later}
use Rattle.early_report.proofs.ReadLemmas.{from_one, of_plan, places_of_plan}
use Rattle.early_report.proofs.ToldLemmas.{known_sets}
use Rattle.early_report.proofs.theorems.drains_stay_by_law.Goals as goal

pub returns-clause-closed : goal.returns-clause-closed
returns-clause-closed c = closed_stays

pub returns-clause-tied : goal.returns-clause-tied
returns-clause-tied c = tied_stays

pub returns-clause-known : goal.returns-clause-known
returns-clause-known c = λ plan old new acts s sets known. known_stays plan old new s sets acts known

pub returns-clause-joined : goal.returns-clause-joined
returns-clause-joined c = λ plan root other s sets known. known_later other (after_join plan root other) s (places_under plan s) sets (λ t p x h. or_right (root.settled t p x) (other.settled t p x) h) known

pub returns-clause-kept_by_join : goal.returns-clause-kept_by_join
returns-clause-kept_by_join c = λ plan root other s sets known. known_later root (after_join plan root other) s (places_under plan s) sets (λ t p x h. or_left (root.settled t p x) (other.settled t p x) h) known

pub returns-clause-kept_by_split : goal.returns-clause-kept_by_split
returns-clause-kept_by_split c = λ plan root t s sets known. known_later root (after_split root t) s (places_under plan s) sets (λ u p x h. h) known

pub returns-clause-finished : goal.returns-clause-finished
returns-clause-finished c = λ plan root s sets finals ok there known settled. known_sets plan root s sets finals settled (from_one plan s ok there) (of_plan plan s ok there) (places_of_plan plan s ok there) known
