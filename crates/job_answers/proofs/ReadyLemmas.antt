-- What is asked of the sessions of a job, and why bytes have none that is so: of the same bytes these are one, and exclude each other.
use Rattle.std.proofs.Common.{◌≡◌, ◌≢◌, ℕ, Bool, true, false, not, if◌then◌else◌, is_some, Option, Some, None, List, refl, sym, ◌∙◌, ap, subst}
use Rattle.cov_base.specs.Meaning.{FactSet}
use Rattle.brk_table.specs.Meaning.{TablesView}
use Rattle.brk_table.specs.declared.faults.BuildFault.{BuildFault}
use Rattle.brk_table.specs.declared.faults.BuildFault.TheVariants as build
use Rattle.listing_reader.specs.declared.lines.ListFault.{ListFault}
use Rattle.listing_reader.specs.declared.lines.ListFault.TheVariants as list
use Rattle.cov_outside.specs.declared.whole.ReadFault.{ReadFault}
use Rattle.cov_outside.specs.declared.whole.ReadFault.TheVariants as read
use Rattle.job_input.specs.Meaning.{HasJob, IsJobFault, job_fault}
use Rattle.job_input.proofs.Laws.{one_job}
use Rattle.job_input.specs.declared.table_faults.TablesFault.{TablesFault}
use Rattle.job_input.specs.declared.table_faults.TablesFault.TheVariants as first
use Rattle.job_text.specs.Meaning.{lines_of}
use Rattle.job_text.specs.declared.jobs.JobFault.{JobFault}
use Rattle.job_text.specs.declared.jobs.JobFault.TheVariants as fault
use Rattle.job_text.proofs.Laws as excluded
use Rattle.session_book.specs.Meaning.{JobView, session_of}
use Rattle.session_marks.specs.Meaning.{session_marks}
use Rattle.job_answers.specs.Meaning.{ReadyView, IsRefused, Jobless, NoSession, Controlled, BadListing, HasAsked, HasNamed, controlled_asked, if_controlled, session_number, asks_session}
use Rattle.job_answers.specs.declared.asked.Wanted.{Wanted}
use Rattle.job_answers.specs.declared.asked.Asked.{Asked}
use Rattle.job_answers.specs.declared.asked.Asked.TheVariants.{AnyJob, WithSession}
use Rattle.job_input.specs.declared.form.Form.{Form}
use Rattle.refusals.specs.Meaning.{RefusalView, read_refusal, jobless_refusal, list_refusal, build_refusal, tables_refusal}

pub not_both : (b : Bool) → b ≡ true → b ≡ false → ⊥
not_both b p q = let e : true ≡ false = sym p ∙ q in absurd cc

-- ---- what is asked of sessions

-- a session that was named is there or is missing
pub not_named : (asked : Asked) (j : JobView) (wanted : Wanted) → asked ≡ WithSession wanted → session_number j wanted.name ≡ None → HasAsked asked j → ⊥
not_named asked j wanted e none h =
    not_both (is_some (session_number j wanted.name)) (subst (λ (x : Asked). HasNamed x j) e h.named) (ap is_some none)

-- and where none may have a controller none has
pub not_free : (asked : Asked) (j : JobView) (number : ℕ) → controlled_asked asked j ≡ Some number → HasAsked asked j → ⊥
not_free asked j number controlled h = let clash : Some number ≡ None = sym controlled ∙ h.free in absurd cc

-- a session that is missing has no controller
missing_free : (asked : Asked) (j : JobView) (wanted : Wanted) (number : ℕ) → asked ≡ WithSession wanted → session_number j wanted.name ≡ None → controlled_asked asked j ≡ Some number → ⊥
missing_free asked j wanted number e none controlled = by_whole wanted.whole (sym (ap (λ (x : Asked). controlled_asked x j) e) ∙ controlled)
  where
    by_whole : (b : Bool) → (if b then if_controlled j (session_number j wanted.name) else None) ≡ Some number → ⊥
    by_whole true h = let clash : None ≡ Some number = sym (ap (if_controlled j) none) ∙ h in absurd cc
    by_whole false h = absurd cc

-- of which none is asked, and of which none has one
pub any_job : (j : JobView) → HasAsked AnyJob j
any_job j = record { named = tt; free = refl }

-- the session that is named has none where it must be whole
pub is_free : (name : List ℕ) (j : JobView) (s : ℕ) → HasAsked (asks_session name true) j → session_number j name ≡ Some s → (session_of j s).by ≡ None
is_free name j s has number = by_controller (session_of j s).by refl
  where
    by_controller : (o : Option ℕ) → (session_of j s).by ≡ o → o ≡ None
    by_controller None e = refl
    by_controller (Some t) e =
        let found : controlled_asked (asks_session name true) j ≡ Some s = ap (if_controlled j) number ∙ ap (λ (o : Option ℕ). if not (is_some o) then None else Some s) e in
        absurd (not_free (asks_session name true) j s found has)

-- ---- no refusal has status 0

pub read_told : (e : ReadFault) → (read_refusal e).status ≡ 0 → ⊥
read_told read.Failed p = absurd cc
read_told read.TooLarge p = absurd cc
read_told read.NoMemory p = absurd cc

jobless_told : (e : JobFault) → (jobless_refusal e).status ≡ 0 → ⊥
jobless_told (fault.BadJob n) p = absurd cc
jobless_told (fault.TooLarge what n) p = absurd cc
jobless_told fault.NoMemory p = absurd cc

list_told : (name : List ℕ) (e : ListFault) → (list_refusal name e).status ≡ 0 → ⊥
list_told name list.NoHeading p = absurd cc
list_told name (list.BadObject n) p = absurd cc
list_told name list.NoMemory p = absurd cc

build_told : (name : List ℕ) (loc : ℕ) (e : BuildFault) → (build_refusal name loc e).status ≡ 0 → ⊥
build_told name loc (build.Odd n) p = absurd cc
build_told name loc (build.Outside n) p = absurd cc
build_told name loc (build.Overlap n) p = absurd cc
build_told name loc (build.TooMany n) p = absurd cc
build_told name loc (build.OwnSvc n) p = absurd cc
build_told name loc (build.Mismatch n a b) p = absurd cc
build_told name loc build.NoMemory p = absurd cc

tables_told : (e : TablesFault) → (tables_refusal e).status ≡ 0 → ⊥
tables_told (first.List name e) p = list_told name e p
tables_told (first.Build name loc e) p = build_told name loc e p
tables_told first.NoMemory p = absurd cc

pub status_is : (r q : RefusalView) → r ≡ q → r.status ≡ q.status
status_is r q e = ap (λ (v : RefusalView). v.status) e

pub refused_told : (form : Form) (asked : Asked) (b : List ℕ) (r : RefusalView) → IsRefused form asked b r → r.status ≡ 0 → ⊥
refused_told form asked b r (Jobless e is other told) z = jobless_told e (sym (status_is r (jobless_refusal e) told) ∙ z)
refused_told form asked b r (NoSession j wanted has named missing told) z = let x : 13 ≡ 0 = sym (status_is r _ told) ∙ z in absurd cc
refused_told form asked b r (Controlled j number has controlled told) z = let x : 14 ≡ 0 = sym (status_is r _ told) ∙ z in absurd cc
refused_told form asked b r (BadListing j e has asks some told) z = tables_told e (sym (status_is r (tables_refusal e) told) ∙ z)

-- ---- bytes have a job as is asked, or a refusal, which is one

pub ready_or_refused : (form : Form) (asked : Asked) (b : List ℕ) (j : JobView) (r : RefusalView) → HasJob form (lines_of b) j → HasAsked asked j → job_fault j ≡ None → IsRefused form asked b r → ⊥
ready_or_refused form asked b j r has asks none (Jobless e is other told) = other (is.jobless j has)
ready_or_refused form asked b j r has asks none (NoSession k wanted its named missing told) =
    not_named asked k wanted named missing (subst (λ (i : JobView). HasAsked asked i) (one_job form (lines_of b) j k has its).1 asks)
ready_or_refused form asked b j r has asks none (Controlled k number its controlled told) =
    not_free asked k number controlled (subst (λ (i : JobView). HasAsked asked i) (one_job form (lines_of b) j k has its).1 asks)
ready_or_refused form asked b j r has asks none (BadListing k e its named some told) =
    let clash : None ≡ Some e = sym none ∙ (ap job_fault (one_job form (lines_of b) j k has its).1 ∙ some) in absurd cc

-- two faults of the same bytes have one status, where neither is want of memory
same_fault : (form : Form) (b : List ℕ) (e f : JobFault) → IsJobFault form b e → IsJobFault form b f → e ≢ fault.NoMemory → f ≢ fault.NoMemory → (jobless_refusal e).status ≡ (jobless_refusal f).status
same_fault form b (fault.BadJob n) (fault.BadJob m) p q one other = refl
same_fault form b (fault.BadJob n) (fault.TooLarge what m) p q one other = absurd (excluded.not_both (lines_of b) what n m p.first q.first)
same_fault form b (fault.BadJob n) fault.NoMemory p q one other = absurd (other refl)
same_fault form b (fault.TooLarge what n) (fault.BadJob m) p q one other = absurd (excluded.not_both (lines_of b) what m n q.first p.first)
same_fault form b (fault.TooLarge what n) (fault.TooLarge which m) p q one other = refl
same_fault form b (fault.TooLarge what n) fault.NoMemory p q one other = absurd (other refl)
same_fault form b fault.NoMemory f p q one other = absurd (one refl)

-- the job of each is the same
moved : (is : JobView → Type 0) (form : Form) (b : List ℕ) (j k : JobView) → HasJob form (lines_of b) j → HasJob form (lines_of b) k → is j → is k
moved is form b j k has its h = subst is (one_job form (lines_of b) j k has its).1 h

pub one_refusal : (form : Form) (asked : Asked) (b : List ℕ) (r q : RefusalView) → IsRefused form asked b r → IsRefused form asked b q → r.status ≡ q.status
one_refusal form asked b r q (Jobless e is other told) (Jobless f also no_other tells) =
    status_is r (jobless_refusal e) told ∙ (same_fault form b e f is also other no_other ∙ sym (status_is q (jobless_refusal f) tells))
one_refusal form asked b r q (Jobless e is other told) (NoSession k wanted its named missing tells) = absurd (other (is.jobless k its))
one_refusal form asked b r q (Jobless e is other told) (Controlled k number its controlled tells) = absurd (other (is.jobless k its))
one_refusal form asked b r q (Jobless e is other told) (BadListing k f its asks some tells) = absurd (other (is.jobless k its))
one_refusal form asked b r q (NoSession j wanted has named missing told) (Jobless f also other tells) = absurd (other (also.jobless j has))
one_refusal form asked b r q (NoSession j wanted has named missing told) (NoSession k wants its names misses tells) = status_is r _ told ∙ sym (status_is q _ tells)
one_refusal form asked b r q (NoSession j wanted has named missing told) (Controlled k number its controlled tells) =
    absurd (missing_free asked k wanted number named (moved (λ (i : JobView). session_number i wanted.name ≡ None) form b j k has its missing) controlled)
one_refusal form asked b r q (NoSession j wanted has named missing told) (BadListing k f its asks some tells) =
    absurd (not_named asked k wanted named (moved (λ (i : JobView). session_number i wanted.name ≡ None) form b j k has its missing) asks)
one_refusal form asked b r q (Controlled j number has controlled told) (Jobless f also other tells) = absurd (other (also.jobless j has))
one_refusal form asked b r q (Controlled j number has controlled told) (NoSession k wanted its named missing tells) =
    absurd (missing_free asked k wanted number named missing (moved (λ (i : JobView). controlled_asked asked i ≡ Some number) form b j k has its controlled))
one_refusal form asked b r q (Controlled j number has controlled told) (Controlled k other its also tells) = status_is r _ told ∙ sym (status_is q _ tells)
one_refusal form asked b r q (Controlled j number has controlled told) (BadListing k f its asks some tells) =
    absurd (not_free asked k number (moved (λ (i : JobView). controlled_asked asked i ≡ Some number) form b j k has its controlled) asks)
one_refusal form asked b r q (BadListing j e has asks some told) (Jobless f also other tells) = absurd (other (also.jobless j has))
one_refusal form asked b r q (BadListing j e has asks some told) (NoSession k wanted its named missing tells) =
    absurd (not_named asked k wanted named missing (moved (λ (i : JobView). HasAsked asked i) form b j k has its asks))
one_refusal form asked b r q (BadListing j e has asks some told) (Controlled k number its controlled tells) =
    absurd (not_free asked k number controlled (moved (λ (i : JobView). HasAsked asked i) form b j k has its asks))
one_refusal form asked b r q (BadListing j e has asks some told) (BadListing k f its also any tells) =
    let both : Some e ≡ Some f = sym some ∙ (ap job_fault (one_job form (lines_of b) j k has its).1 ∙ any) in
    let same : e ≡ f = cc in
    status_is r (tables_refusal e) told ∙ (ap (λ (x : TablesFault). (tables_refusal x).status) same ∙ sym (status_is q (tables_refusal f) tells))

-- ---- jobs that are alike

pub record IsSame (r o : ReadyView) : Type 0 where
  pub jobs : o.job ≡ r.job
  pub tables : o.tables.tables ≡ r.tables.tables
  pub places : o.tables.places ≡ r.tables.places
  pub lines : o.lines ≡ r.lines

-- by the same tables and sets it has the same marks
pub one_session : (j : JobView) (a b : TablesView) (sets : ℕ → FactSet) (s : ℕ) → a.tables ≡ b.tables → a.places ≡ b.places → session_marks j a sets s ≡ session_marks j b sets s
one_session j a b sets s tables places = rw (tables, places) refl

pub one_marks : (r o : ReadyView) (sets : ℕ → FactSet) → IsSame r o → o.number ≡ r.number → session_marks o.job o.tables sets o.number ≡ session_marks r.job r.tables sets r.number
one_marks r o sets same numbers = rw (same.jobs, numbers) (one_session r.job o.tables r.tables sets r.number same.tables same.places)
