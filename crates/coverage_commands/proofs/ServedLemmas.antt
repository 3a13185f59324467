-- All that is promised of a call follows from its answer.
use Rattle.std.proofs.Common.{◌≡◌, ◌≢◌, ◌⊎◌, inl, inr, ℕ, ◌≤◌, Bool, true, false, Some, List, length, drop, take, refl, sym, ◌∙◌, ap, subst}
use Rattle.cov_outside.specs.Meaning.{Rose}
use Rattle.cov_outside.specs.declared.whole.ReadFault.{ReadFault}
use Rattle.cov_outside.specs.declared.whole.ReadFault.TheVariants as read
use Rattle.evidence_check.specs.Meaning.{facts_of_modules}
use Rattle.evidence_check.specs.Verified.{Passes}
use Rattle.evidence_check.proofs.Laws.{verified_passes}
use Rattle.job_input.specs.Meaning.{SourceChange, CameWhole, IsReadFault, input_limit}
use Rattle.job_input.proofs.Laws.{left_is, read_wanting, too_many}
use Rattle.job_text.specs.Meaning.{lines_of}
use Rattle.job_text.proofs.Laws.{job_keeps}
use Rattle.session_book.specs.JobView.{IsJob}
use Rattle.job_answers.specs.Meaning.{ReadyView, IsVerdict, OfFile}
use Rattle.coverage_commands.specs.Meaning.{IsReady, IsAnswerOf, IsAnswer, Refused, OfFiles, OfJob, IsRunText, ComesReady, Read, Made, IsCause, Usage, Unread, Came, Finished, NoMemoryToRun, NoMemoryToMake, HoldsTrue, HasStatus, ToUsage, ToLarge, ToMatched, ToAnswer, IsComplete, IsUntouched, IsServed, Answers, way_of}
use Rattle.refusals.specs.Meaning.{SinkChange, refusal, read_refusal, verified_line}
use Rattle.run_reports.specs.Meaning.{AreasChange}
use Rattle.job_input.specs.declared.words.Command.{Command}
use Rattle.job_input.specs.declared.words.Command.TheVariants.{Run, Exits, Early, Count, Marks, Trial, Table, Ends, Replay, Combine, Show, Prove, Verify, Unknown}
use Rattle.job_answers.proofs.Laws.{judged_verified, own_of, not_both, ready_or_refused, status_is}
use Rattle.coverage_commands.proofs.OneAnswer.{one_status}

-- ---- the commands

-- a run's text is that of a command that makes areas
run_areas : (c : Command) (r : ReadyView) (a : AreasChange) (text : List ℕ) → IsRunText c r a text → (way_of c).makes_areas ≡ true
run_areas (Run g) r a text is = refl
run_areas Exits r a text is = refl
run_areas Early r a text is = refl
run_areas (Count g) r a text is = absurd is
run_areas (Marks name g) r a text is = refl
run_areas (Trial number tasks) r a text is = refl
run_areas (Table g) r a text is = absurd is
run_areas (Ends g) r a text is = absurd is
run_areas Replay r a text is = absurd is
run_areas Combine r a text is = absurd is
run_areas (Show name g) r a text is = absurd is
run_areas (Prove name) r a text is = absurd is
run_areas (Verify name) r a text is = absurd is
run_areas Unknown r a text is = absurd is

-- and no other answer is
still : (c : Command) (r : ReadyView) (n : ℕ) (text : List ℕ) → IsAnswerOf c r n text → (way_of c).makes_areas ≡ true → ⊥
still (Run g) r n text is m = is
still Exits r n text is m = is
still Early r n text is m = is
still (Count g) r n text is m = absurd cc
still (Marks name g) r n text is m = is
still (Trial number tasks) r n text is m = is
still (Table g) r n text is m = absurd cc
still (Ends g) r n text is m = absurd cc
still Replay r n text is m = absurd cc
still Combine r n text is m = is
still (Show name g) r n text is m = absurd cc
still (Prove name) r n text is m = absurd cc
still (Verify name) r n text is m = absurd cc
still Unknown r n text is m = is

-- where nothing may stand behind the job it is served
single : (c : Command) (r : ReadyView) (n : ℕ) (text : List ℕ) → IsAnswerOf c r n text → (way_of c).form.more ≡ false → n ≡ 0
single (Run g) r n text is m = absurd is
single Exits r n text is m = absurd is
single Early r n text is m = absurd is
single (Count g) r n text is m = is.0
single (Marks name g) r n text is m = absurd is
single (Trial number tasks) r n text is m = absurd is
single (Table g) r n text is m = is.0
single (Ends g) r n text is m = is.0
single Replay r n text is m = absurd cc
single Combine r n text is m = absurd is
single (Show name g) r n text is m = absurd cc
single (Prove name) r n text is m = is.0
single (Verify name) r n text is m = absurd cc
single Unknown r n text is m = absurd is

-- no other command is the named one
not_same : (is : Command → Bool) (c d : Command) → c ≡ d → is c ≡ true → is d ≡ false → ⊥
not_same is c d e own other = not_both (is c) own (ap is e ∙ other)

abbrev reads : Command → Bool
reads c = (way_of c).reads_job

abbrev takes : Command → Bool
takes c = (way_of c).reads_input

abbrev makes : Command → Bool
makes c = (way_of c).makes_areas

-- ---- the areas

-- a job that was ready was run or was to be
record HasTasks (c : Command) (s : SourceChange) : Type 0 where
  ready : ReadyView
  comes : ComesReady c s ready
  run : (way_of c).makes_areas ≡ true

abbrev Touched : Command → SourceChange → AreasChange → ℕ → Type 0
Touched c s a status = (a.after ≡ a.before) ⊎ (HasTasks c s × ((status ≡ 0) ⊎ (status ≡ 7)))

touched : (c : Command) (s : SourceChange) (a : AreasChange) (status : ℕ) (text : List ℕ) → IsCause c s a status text → Touched c s a status
touched c s a status text (Usage u un z t same) = inl same
touched c s a status text (Unread e r h t same) = inl same
touched c s a status text (Came b came is sure same) = inl same
touched c s a status text (Finished r comes z is) = inr (record { ready = r; comes = comes; run = run_areas c r a text is }, inl z)
touched c s a status text (NoMemoryToRun r comes m z t) = inr (record { ready = r; comes = comes; run = m }, inr z)
touched c s a status text (NoMemoryToMake number tasks e un z t same) = inl same

-- bytes have no status for a command that makes its job
none_made : (c : Command) (number tasks : ℕ) (b : List ℕ) (n : ℕ) → c ≡ Trial number tasks → HasStatus c b n → ⊥
none_made c number tasks b n e (ToUsage u z) = let clash : Trial number tasks ≡ Unknown = sym e ∙ u in absurd cc
none_made c number tasks b n e (ToLarge t l z) = not_same takes c (Trial number tasks) e t refl
none_made c number tasks b n e (ToMatched j t single few has asks none z) = not_same reads c (Trial number tasks) e t refl
none_made c number tasks b n e (ToAnswer text few (Refused t is)) = not_same reads c (Trial number tasks) e t refl
none_made c number tasks b n e (ToAnswer text few (OfFiles f is)) = let clash : Trial number tasks ≡ Combine = sym e ∙ f in absurd cc
none_made c number tasks b n e (ToAnswer text few (OfJob r h is)) = not_same reads c (Trial number tasks) e h.reads refl

-- a job that was run has a report
reported : (c : Command) (s : SourceChange) (b : List ℕ) (n : ℕ) → HasTasks c s → s.left ≡ Some b → HasStatus c b n → n ≡ 0
reported c s b n tasks left w = by_way tasks.comes w
  where
    answered : (bytes : List ℕ) → IsReady c b tasks.ready → (text : List ℕ) → IsAnswer c b n text → ⊥
    answered bytes h text (Refused t is) = ready_or_refused (way_of c).form (way_of c).asked b tasks.ready.job (refusal n text) h.has h.asked h.match.faultless is
    answered bytes h text (OfFiles e is) = not_same makes c Combine e tasks.run refl
    answered bytes h text (OfJob o g is) = still c o n text is tasks.run

    by_way : ComesReady c s tasks.ready → HasStatus c b n → n ≡ 0
    by_way (Made number count e un is m) w = absurd (none_made c number count b n e w)
    by_way (Read bytes came h) (ToUsage u z) = absurd (not_same makes c Unknown u tasks.run refl)
    by_way (Read bytes came h) (ToLarge t l z) = absurd (too_many s b bytes left l came)
    by_way (Read bytes came h) (ToMatched j t alone few has asks none z) = z
    by_way (Read bytes came h) (ToAnswer text few is) = absurd (answered bytes (left_is (λ x. IsReady c x tasks.ready) s b bytes left came h) text is)

or_else : (c : Command) (s : SourceChange) (a : AreasChange) (status : ℕ) → Touched c s a status → (HasTasks c s → ⊥) → a.after ≡ a.before
or_else c s a status (inl same) never = same
or_else c s a status (inr t) never = absurd (never t.0)

unrefused : (c : Command) (s : SourceChange) (a : AreasChange) (status : ℕ) → Touched c s a status → status ≢ 0 → status ≢ 7 → a.after ≡ a.before
unrefused c s a status (inl same) zero' seven = same
unrefused c s a status (inr t) zero' seven = elim t.1 [ inl n ↦ absurd (zero' n) | inr n ↦ absurd (seven n) ]

no_source_fault : (c : Command) (s : SourceChange) (r : ReadyView) → ComesReady c s r → s.later ≢ s.faults → ⊥
no_source_fault c s r (Read bytes came h) d = d came.no_fault
no_source_fault c s r (Made number tasks e un is m) d = d un.1

no_match : (c : Command) (s : SourceChange) (r : ReadyView) → ComesReady c s r → (way_of c).reads_job ≡ true → ((bytes : List ℕ) (r : ReadyView) → CameWhole s bytes → IsReady c bytes r → ⊥) → ⊥
no_match c s r (Read bytes came h) t none = none bytes r came h
no_match c s r (Made number tasks e un is m) t none = not_same reads c (Trial number tasks) e t refl

untouched : (c : Command) (s : SourceChange) (a : AreasChange) (k : SinkChange) (answer : ℕ) (x : Answers c s a k answer) → IsUntouched c s a x.status
untouched c s a k answer x =
    let t : Touched c s a x.status = touched c s a x.status x.text x.cause in
    record {
      others = λ f. or_else c s a x.status t (λ h. not_both (way_of c).makes_areas h.run f);
      refused = unrefused c s a x.status t;
      failed = λ d. or_else c s a x.status t (λ h. no_source_fault c s h.ready h.comes d);
      unmatched = λ job none. or_else c s a x.status t (λ h. no_match c s h.ready h.comes job none);
      unreported = λ b n e w d. or_else c s a x.status t (λ h. d (reported c s b n h e w));
    }

-- ---- the status

-- bytes that were not all read
unread_status : (c : Command) (s : SourceChange) (b : List ℕ) (e : ReadFault) (status n : ℕ) → (way_of c).reads_input ≡ true → IsReadFault s e → status ≡ (read_refusal e).status → s.left ≡ Some b → HasStatus c b n → (Rose s.faults s.later → ⊥) → (status ≡ n) ⊎ (status ≡ 7)
unread_status c s b e status n t h told left w quiet = by_status w
  where
    few_read : length b ≤ input_limit → (status ≡ n) ⊎ (status ≡ 7)
    few_read few = inr (told ∙ ap (λ (f : ReadFault). (read_refusal f).status) (read_wanting s b e left few quiet h))

    large_read : (f : ReadFault) → IsReadFault s f → status ≡ (read_refusal f).status → n ≡ 4 → (status ≡ n) ⊎ (status ≡ 7)
    large_read read.Failed is t z = absurd (quiet is)
    large_read read.TooLarge is t z = inl (t ∙ sym z)
    large_read read.NoMemory is t z = inr t

    by_status : HasStatus c b n → (status ≡ n) ⊎ (status ≡ 7)
    by_status (ToUsage u z) = absurd (not_same takes c Unknown u t refl)
    by_status (ToLarge also l z) = large_read e h told z
    by_status (ToMatched j job alone few has asks none z) = few_read few
    by_status (ToAnswer text few is) = few_read few

-- bytes that were
came_status : (c : Command) (s : SourceChange) (b bytes : List ℕ) (status : ℕ) (text : List ℕ) (n : ℕ) → s.left ≡ Some b → CameWhole s bytes → IsAnswer c b status text → HasStatus c b n → status ≡ n
came_status c s b bytes status text n left came (Refused t is) (ToUsage u z) = absurd (not_same reads c Unknown u t refl)
came_status c s b bytes status text n left came (OfFiles e is) (ToUsage u z) = let clash : Unknown ≡ Combine = sym u ∙ e in absurd cc
came_status c s b bytes status text n left came (OfJob r h is) (ToUsage u z) = absurd (not_same reads c Unknown u h.reads refl)
came_status c s b bytes status text n left came is (ToLarge t l z) = absurd (too_many s b bytes left l came)
came_status c s b bytes status text n left came (Refused t is) (ToMatched j job alone few has asks none z) = absurd (ready_or_refused (way_of c).form (way_of c).asked b j (refusal status text) has asks none is)
came_status c s b bytes status text n left came (OfFiles e is) (ToMatched j job alone few has asks none z) = absurd (not_same reads c Combine e job refl)
came_status c s b bytes status text n left came (OfJob r h is) (ToMatched j job alone few has asks none z) = single c r status text is alone ∙ sym z
came_status c s b bytes status text n left came is (ToAnswer other few also) = one_status c b status n text other is also

-- the cause's status is that of the words and bytes, or 7
status_of : (c : Command) (s : SourceChange) (a : AreasChange) (status : ℕ) (text b : List ℕ) (n : ℕ) → IsCause c s a status text → s.left ≡ Some b → HasStatus c b n → (Rose s.faults s.later → ⊥) → (status ≡ n) ⊎ (status ≡ 7)
status_of c s a status text b n (Usage u un z t same) left w quiet = inl (usage w)
  where
    usage : HasStatus c b n → status ≡ n
    usage (ToUsage v y) = z ∙ sym y
    usage (ToLarge r l y) = absurd (not_same takes c Unknown u r refl)
    usage (ToMatched j r alone few has asks none y) = absurd (not_same reads c Unknown u r refl)
    usage (ToAnswer other few (Refused r is)) = absurd (not_same reads c Unknown u r refl)
    usage (ToAnswer other few (OfFiles e is)) = let clash : Unknown ≡ Combine = sym u ∙ e in absurd cc
    usage (ToAnswer other few (OfJob r h is)) = absurd (not_same reads c Unknown u h.reads refl)
status_of c s a status text b n (Unread e r h t same) left w quiet = unread_status c s b e status n r h (status_is (refusal status text) (read_refusal e) t) left w quiet
status_of c s a status text b n (Came bytes came is sure same) left w quiet = inl (came_status c s b bytes status text n left came (left_is (λ x. IsAnswer c x status text) s b bytes left came is) w)
status_of c s a status text b n (Finished r comes z is) left w quiet = inl (z ∙ sym (reported c s b n (record { ready = r; comes = comes; run = run_areas c r a text is }) left w))
status_of c s a status text b n (NoMemoryToRun r comes m z t) left w quiet = inr z
status_of c s a status text b n (NoMemoryToMake number tasks e un z t same) left w quiet = inr z

usage_status : (c : Command) (s : SourceChange) (a : AreasChange) (status : ℕ) (text : List ℕ) → IsCause c s a status text → c ≡ Unknown → status ≡ 1
usage_status c s a status text (Usage u un z t same) e = z
usage_status c s a status text (Unread f r h t same) e = absurd (not_same takes c Unknown e r refl)
usage_status c s a status text (Came b came (Refused r is) sure same) e = absurd (not_same reads c Unknown e r refl)
usage_status c s a status text (Came b came (OfFiles f is) sure same) e = let clash : Unknown ≡ Combine = sym e ∙ f in absurd cc
usage_status c s a status text (Came b came (OfJob r h is) sure same) e = absurd (not_same reads c Unknown e h.reads refl)
usage_status c s a status text (Finished r comes z is) e = absurd (not_same makes c Unknown e (run_areas c r a text is) refl)
usage_status c s a status text (NoMemoryToRun r comes m z t) e = absurd (not_same makes c Unknown e m refl)
usage_status c s a status text (NoMemoryToMake number tasks f un z t same) e = let clash : Unknown ≡ Trial number tasks = sym e ∙ f in absurd cc

tried_status : (c : Command) (s : SourceChange) (a : AreasChange) (status : ℕ) (text : List ℕ) (number tasks : ℕ) → IsCause c s a status text → c ≡ Trial number tasks → (status ≡ 0) ⊎ (status ≡ 7)
tried_status c s a status text number tasks (Usage u un z t same) e = let clash : Trial number tasks ≡ Unknown = sym e ∙ u in absurd cc
tried_status c s a status text number tasks (Unread f r h t same) e = absurd (not_same takes c (Trial number tasks) e r refl)
tried_status c s a status text number tasks (Came b came (Refused r is) sure same) e = absurd (not_same reads c (Trial number tasks) e r refl)
tried_status c s a status text number tasks (Came b came (OfFiles f is) sure same) e = let clash : Trial number tasks ≡ Combine = sym e ∙ f in absurd cc
tried_status c s a status text number tasks (Came b came (OfJob r h is) sure same) e = absurd (not_same reads c (Trial number tasks) e h.reads refl)
tried_status c s a status text number tasks (Finished r comes z is) e = inl z
tried_status c s a status text number tasks (NoMemoryToRun r comes m z t) e = inr z
tried_status c s a status text number tasks (NoMemoryToMake i n f un z t same) e = inr z

-- true marks and evidence have this verdict
true_verdict : (name b : List ℕ) (h : HoldsTrue name b) → IsVerdict name h.ready.job h.ready.tables h.ready.number h.ready.rest (refusal 0 (verified_line name (facts_of_modules h.has.modules)))
true_verdict name b h =
    let r : ReadyView = h.ready in
    let there = h.is.has in
    let v = h.has in
    let is : IsJob r.job = job_keeps (take there.count (lines_of b)) r.job there.spells there.within in
    let bytes : List ℕ = drop v.end r.rest in
    let passes : Passes r.job r.tables r.number v.modules bytes = verified_passes r.job r.tables r.number v.modules bytes is v.verified in
    OfFile v.modules v.end v.file (judged_verified name r.job r.tables r.number v.modules bytes (own_of r.job r.tables r.number v.modules bytes v.verified) passes)

true_status : (c : Command) (name b : List ℕ) → c ≡ Verify name → HoldsTrue name b → HasStatus c b 0
true_status c name b e h =
    subst (λ (d : Command). HasStatus d b 0) (sym e) (ToAnswer (verified_line name (facts_of_modules h.has.modules)) h.few (OfJob h.ready h.is (true_verdict name b h)))

complete : (c : Command) (s : SourceChange) (a : AreasChange) (k : SinkChange) (answer : ℕ) (x : Answers c s a k answer) → IsComplete c s x.status
complete c s a k answer x = record {
  usage = usage_status c s a x.status x.text x.cause;
  tried = λ number tasks e. tried_status c s a x.status x.text number tasks x.cause e;
  answers = λ b n left w quiet. status_of c s a x.status x.text b n x.cause left w quiet;
  verifies = λ name b e left h quiet. status_of c s a x.status x.text b 0 x.cause left (true_status c name b e h) quiet;
}

pub served : (c : Command) (s : SourceChange) (a : AreasChange) (k : SinkChange) (answer : ℕ) → Answers c s a k answer → IsServed c s a k answer
served c s a k answer x = record {
  answers = x;
  complete = complete c s a k answer x;
  untouched = untouched c s a k answer x;
}
