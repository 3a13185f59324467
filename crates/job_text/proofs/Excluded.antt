-- What callers may conclude of lines: they spell a job within the limits, or one line of them is bad, or one passes a limit.
use Rattle.std.proofs.Common.{◌≡◌, ℕ, ◌+◌, ◌-◌, ◌<◌, ◌≤◌, zero, suc, true, false, Option, Some, None, List, [], ◌∷◌, ◌++◌, length, take, drop, IfSome, All, refl, ap, sym, ◌∙◌, arith, append_assoc, append-nil, inl, inr, take-append-drop}
use Rattle.std.proofs.Math.Seq.{take-length}
use Rattle.std.proofs.lemmas.Bool.{cases_order, cases_lt}
use Rattle.std.proofs.lemmas.List.{length-map, length-append, length-take-le}
use Rattle.std.proofs.lemmas.List.Elements.{All-append, All-cons, All-nil}
use Rattle.std.specs.List.{list_any}
use Rattle.std.specs.Str.{bytes_eq}
use Rattle.session_book.specs.Meaning.{JobView}
use Rattle.job_text.specs.Meaning.{DraftView, Present, LineView, listing_text, joined, IsListed, IsModule, IsTaskBlock, IsPhase, Spells, JobBegins, no_job, with_phase, with_new_session, keeps, IsWithin, Passes, GoesOn, IsBadAt, IsOverAt, Lead, IsServiceCard, IsSessionCard, with_service}
use Rattle.session_book.specs.declared.services.Service.{Service}
use Rattle.job_text.specs.declared.grammar.Grammar.{Grammar}
use Rattle.job_text.specs.declared.limit.Limit.{Limit}
use Rattle.job_text.proofs.Guards.{guard_none}
use Rattle.job_text.proofs.Named.{named_spells, service_added, session_added}
use Rattle.job_text.proofs.Spelled.{one_first}

begins_prefix : {cards : Grammar} (a b : List LineView) → JobBegins cards (a ++ b) → JobBegins cards a
begins_prefix a b p = record { rest = b ++ p.rest; job = p.job; spells = rw (← append_assoc a b p.rest) p.spells }

passes_more : {cards : Grammar} (a b : List LineView) (w : Limit) → Passes cards w a → Passes cards w (a ++ b)
passes_more a b w p rest job s = p (b ++ rest) job (rw (← append_assoc a b rest) s)

-- the first m lines begin the first n
record Front (ls : List LineView) (m n : ℕ) : Type 0 where
  more : List LineView
  whole : take n ls ≡ take m ls ++ more

front : (ls : List LineView) (m n : ℕ) → m ≤ n → Front ls m n
front ls zero n h = record { more = take n ls; whole = refl }
front ls (suc m) zero h = absurd (omega arith)
front [] (suc m) (suc n) h = record { more = []; whole = refl }
front (l ∷ ls) (suc m) (suc n) h = let f : Front ls m n = front ls m n (omega arith) in record { more = f.more; whole = ap (λ (x : List LineView). l ∷ x) f.whole }

begins_less : {cards : Grammar} (ls : List LineView) (m n : ℕ) → m ≤ n → JobBegins cards (take n ls) → JobBegins cards (take m ls)
begins_less ls m n h b = let f : Front ls m n = front ls m n h in begins_prefix (take m ls) f.more (rw f.whole at b)

passes_later : {cards : Grammar} (ls : List LineView) (m n : ℕ) (w : Limit) → m ≤ n → Passes cards w (take m ls) → Passes cards w (take n ls)
passes_later ls m n w h p = let f : Front ls m n = front ls m n h in rw f.whole (passes_more (take m ls) f.more w p)

spelled_take : {cards : Grammar} (ls : List LineView) (job : JobView) (n : ℕ) → Spells cards Present ls job → Spells cards Present (take n ls ++ drop n ls) job
spelled_take ls job n s = rw (take-append-drop n ls) s

spelled_begins : {cards : Grammar} (ls : List LineView) (job : JobView) (n : ℕ) → Spells cards Present ls job → JobBegins cards (take n ls)
spelled_begins ls job n s = record { rest = drop n ls; job = job; spells = spelled_take ls job n s }

-- lines that spell a job have no bad line
pub never_bad : {cards : Grammar} (ls : List LineView) (job : JobView) (n : ℕ) → Spells cards Present ls job → IsBadAt cards ls n → ⊥
never_bad ls job n s b = elim b.here [
  | inl w ↦ w.1 (spelled_begins ls job n s)
  | inr w ↦ w.1 job s
]

begins_whole : {cards : Grammar} (ls : List LineView) (job : JobView) → Spells cards Present ls job → JobBegins cards ls
begins_whole ls job s = record { rest = []; job = job; spells = rw (append-nil {A = LineView}) s }

-- where some first lines spell a job a bad line comes behind them
pub bad_later : {cards : Grammar} (ls : List LineView) (job : JobView) (m n : ℕ) → m ≤ n → n ≤ length ls → Spells cards Present (take n ls) job → IsBadAt cards ls m → ⊥
bad_later ls job m n h inside s b = elim b.here [
  | inl w ↦ w.1 (begins_less ls m n h (begins_whole (take n ls) job s))
  | inr w ↦ absurd (omega (arith, w.0, h, inside))
]

-- and where the job is within the limits so does one that passes a limit
pub over_later : {cards : Grammar} (ls : List LineView) (job : JobView) (what : Limit) (m n : ℕ) → m ≤ n → Spells cards Present (take n ls) job → IsWithin job → IsOverAt cards ls what m → ⊥
over_later ls job what m n h s within o =
    let over : keeps what job ≡ false = passes_later ls m n what h o.passes [] job (rw (append-nil {A = LineView}) (named_spells Present (take n ls) job s)) in
    let no : true ≡ false = sym (within what) ∙ over in
    absurd cc

take_less : (ls : List LineView) (m n : ℕ) (b : List LineView) → m ≤ n → n ≤ length ls → take m (take n ls ++ b) ≡ take m ls
take_less ls zero n b h i = refl
take_less [] (suc m) n b h i = absurd (omega (arith, h, i))
take_less (l ∷ ls) (suc m) zero b h i = absurd (omega (arith, h))
take_less (l ∷ ls) (suc m) (suc n) b h i = ap (λ (x : List LineView). l ∷ x) (take_less ls m n b (omega (arith, h)) (omega (arith, i)))

begun_no_longer : {cards : Grammar} (ls : List LineView) (m n : ℕ) (job : JobView) → m < n → n ≤ length ls → Spells cards Present (take m ls) job → JobBegins cards (take n ls) → ⊥
begun_no_longer {cards} ls m n job h i s b =
    let whole = take n ls ++ b.rest in
    let size : length whole ≡ length (take n ls) + length b.rest = length-append (take n ls) b.rest in
    let few : length (take n ls) ≡ n = length-take-le n ls i in
    let one = one_first {cards = cards} Present whole m (length whole) job b.job (omega (arith, size, few, h)) (omega arith) (rw (take_less ls m n b.rest (omega (arith, h)) i) s) (rw (take-length whole) b.spells) in
    absurd (omega (arith, one.0, size, few, h))

-- where some first lines spell a job within the limits no line passes one
pub never_over_first : {cards : Grammar} (ls : List LineView) (m : ℕ) (job : JobView) (what : Limit) (n : ℕ) → m ≤ length ls → Spells cards Present (take m ls) job → IsWithin job → IsOverAt cards ls what n → ⊥
never_over_first ls m job what n h s within o = elim (cases_lt m n) [
  | inl l ↦ begun_no_longer ls m n job l o.inside s o.begins
  | inr l ↦ over_later ls job what n m l s within o
]

over_before : {cards : Grammar} (ls : List LineView) (what : Limit) (m n : ℕ) → m < n → Passes cards what (take m ls) → GoesOn cards (take (n - 1) ls) → ⊥
over_before ls what m n h p g = g.within what (passes_later ls m (n - 1) what (omega arith) p)

bad_first : {cards : Grammar} (ls : List LineView) (what : Limit) (m n : ℕ) → m ≤ n → IsBadAt cards ls m → IsOverAt cards ls what n → ⊥
bad_first ls what m n h p o = elim p.here [
  | inl w ↦ w.1 (begins_less ls m n h o.begins)
  | inr w ↦ absurd (omega (arith, w.0, o.inside))
]

-- a bad line and a line that passes a limit exclude one another
pub not_both : {cards : Grammar} (ls : List LineView) (what : Limit) (m n : ℕ) → IsBadAt cards ls m → IsOverAt cards ls what n → ⊥
not_both ls what m n p o = elim (cases_order m n) [
  | inl e ↦ bad_first ls what m n (omega (arith, e)) p o
  | inr x ↦ (elim x [ inl h ↦ bad_first ls what m n (omega (arith, h)) p o | inr h ↦ over_before ls what n m h o.passes p.before ])
]

-- a listing has at most as many lines as the input

abbrev pub IsFew : ℕ → Option (List (List ℕ)) → Type 0
IsFew n o = IfSome o (λ t. length t ≤ n)

listed_few : (n : ℕ) (ls : List LineView) (o : Option (List (List ℕ))) → IsListed ls o → length ls ≤ n → IsFew n o
listed_few n ls None is h = tt
listed_few n [] (Some texts) is h = absurd is
listed_few n (l ∷ ls) (Some texts) is h = rw is.1 (omega (arith, h, length-map ls listing_text))

modules_few : (n : ℕ) (blocks : List (List LineView)) (j after : DraftView) → Lead IsModule j blocks after → length (joined blocks) ≤ n → All (IsFew n) j.listings → All (IsFew n) after.listings
modules_few n [] j after are h few = rw (← are) few
modules_few n (block ∷ blocks) j after are h few =
    let m : IsModule j block are.mid = are.is in
    let size : length (block ++ joined blocks) ≡ length block + length (joined blocks) = length-append block (joined blocks) in
    let more : length (m.texts ++ m.listing) ≡ length m.texts + length m.listing = length-append m.texts m.listing in
    let whole : length block ≡ length (m.head ∷ (m.texts ++ m.listing)) = ap (λ (x : List LineView). length x) m.whole in
    let one : IsFew n m.listed = listed_few n m.listing m.listed m.is_listed (omega (arith, h, size, more, whole)) in
    let next : All (IsFew n) are.mid.listings = rw m.is_after (All-append (IsFew n) j.listings (m.listed ∷ []) few (All-cons (IsFew n) m.listed [] one (All-nil (IsFew n)))) in
    modules_few n blocks are.mid after are.follows (omega (arith, h, size)) next

-- what comes behind the modules has no listing

phase_listings : (j after : DraftView) (name : List ℕ) → with_phase j name ≡ Some after → after.listings ≡ j.listings
phase_listings j after name e =
    let g = guard_none (list_any (λ p. bytes_eq p name) j.phases) (record j { phases = j.phases ++ name ∷ [] }) after e in
    ap (λ (x : DraftView). x.listings) (sym g.1)

service_listings : (j after : DraftView) (s : Service) → with_service j s ≡ Some after → after.listings ≡ j.listings
service_listings j after s e = ap (λ (x : DraftView). x.listings) (sym (service_added j after s e))

session_listings : (j after : DraftView) (name : List ℕ) (by : Option (List ℕ)) (names : List (List ℕ)) → with_new_session j name by names ≡ Some after → after.listings ≡ j.listings
session_listings j after name by names e = ap (λ (x : DraftView). x.listings) (sym (session_added j after name by names e).is)

services_keep : (ls : List LineView) (j after : DraftView) → Lead IsServiceCard j ls after → after.listings ≡ j.listings
services_keep [] j after are = ap (λ (x : DraftView). x.listings) (sym are)
services_keep (l ∷ ls) j after are = services_keep ls are.mid after are.follows ∙ service_listings j are.mid are.is.service are.is.adds

sessions_keep : (ls : List LineView) (j after : DraftView) → Lead IsSessionCard j ls after → after.listings ≡ j.listings
sessions_keep [] j after are = ap (λ (x : DraftView). x.listings) (sym are)
sessions_keep (l ∷ ls) j after are = sessions_keep ls are.mid after are.follows ∙ session_listings j are.mid are.is.name are.is.by are.is.names are.is.adds

tasks_keep : (blocks : List (List LineView)) (j after : DraftView) → Lead IsTaskBlock j blocks after → after.listings ≡ j.listings
tasks_keep [] j after are = ap (λ (x : DraftView). x.listings) (sym are)
tasks_keep (block ∷ blocks) j after are =
    let t : IsTaskBlock j block are.mid = are.is in
    tasks_keep blocks are.mid after are.follows ∙ ap (λ (x : DraftView). x.listings) t.is_after

phases_keep : (blocks : List (List LineView)) (j after : DraftView) → Lead (IsPhase Present) j blocks after → after.listings ≡ j.listings
phases_keep [] j after are = ap (λ (x : DraftView). x.listings) (sym are)
phases_keep (block ∷ blocks) j after are =
    let p : IsPhase Present j block are.mid = are.is in
    phases_keep blocks are.mid after are.follows ∙ (tasks_keep p.tasks p.mid are.mid p.are_tasks ∙ (sessions_keep p.sessions p.named p.mid p.are_sessions ∙ phase_listings j p.named p.name p.adds))

-- a listing of the job has at most as many lines as these
pub listings_few : {cards : Grammar} (ls : List LineView) (job : JobView) → Spells cards Present ls job → All (IsFew (length ls)) job.listings
listings_few {cards} ls job s =
    let behind : List LineView = s.services ++ (joined s.phases ++ s.last ∷ []) in
    let a : length (joined s.modules ++ behind) ≡ length (joined s.modules) + length behind = length-append (joined s.modules) behind in
    let whole : length ls ≡ length (s.first ∷ (joined s.modules ++ behind)) = ap (λ (x : List LineView). length x) s.whole in
    let few : All (IsFew (length ls)) s.mid.listings = modules_few (length ls) s.modules (no_job cards) s.mid s.are_modules (omega (arith, a, whole)) (All-nil (IsFew (length ls))) in
    rw (s.is, phases_keep s.phases s.served s.draft s.are_phases, services_keep s.services s.mid s.served s.are_services) few
