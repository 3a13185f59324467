-- Words and bytes have one status: each answer but its own is contradicted by what they are.
use Rattle.std.proofs.Common.{◌≡◌, ℕ, Bool, true, false, List, refl, sym, ◌∙◌, ap}
use Rattle.cov_base.specs.Meaning.{no_facts}
use Rattle.marks_file.specs.Meaning.{rows}
use Rattle.job_answers.specs.Meaning.{ReadyView}
use Rattle.coverage_commands.specs.Meaning.{IsReady, IsAnswerOf, IsAnswer, Refused, OfFiles, OfJob, way_of}
use Rattle.job_answers.specs.declared.asked.Wanted.{Wanted}
use Rattle.refusals.specs.Meaning.{RefusalView, refusal}
use Rattle.job_answers.proofs.Laws.{not_both, ready_or_refused, one_refusal, one_marks, one_united, one_shown, one_verdict, one_played}
use Rattle.coverage_commands.proofs.ReadyLemmas.{one_ready, one_rest, one_number}
use Rattle.job_input.specs.declared.words.Command.{Command}
use Rattle.job_input.specs.declared.words.Command.TheVariants.{Run, Exits, Early, Count, Marks, Trial, Table, Ends, Replay, Combine, Show, Prove, Verify, Unknown}

abbrev asked_name : List ℕ → Bool → Wanted
asked_name name whole = record { name = name; whole = whole }

one_of : (c : Command) (b : List ℕ) (r o : ReadyView) (m n : ℕ) (t u : List ℕ) → IsReady c b r → IsReady c b o → IsAnswerOf c r m t → IsAnswerOf c o n u → m ≡ n
one_of (Run w) b r o m n t u h g p q = absurd p
one_of Exits b r o m n t u h g p q = absurd p
one_of Early b r o m n t u h g p q = absurd p
one_of (Count w) b r o m n t u h g p q = p.0 ∙ sym q.0
one_of (Marks name w) b r o m n t u h g p q = absurd p
one_of (Trial number tasks) b r o m n t u h g p q = absurd p
one_of (Table w) b r o m n t u h g p q = p.0 ∙ sym q.0
one_of (Ends w) b r o m n t u h g p q = p.0 ∙ sym q.0
one_of Replay b r o m n t u h g p q = one_played r o m n t u (one_ready Replay b r o h g) (one_rest Replay b r o refl h g) p q
one_of Combine b r o m n t u h g p q = absurd p
one_of (Show name w) b r o m n t u h g p q =
    let same = one_ready (Show name w) b r o h g in
    let numbers = one_number (Show name w) b r o (asked_name name false) refl h g in
    one_shown r o m n t u (one_rest (Show name w) b r o refl h g) (λ sets. one_marks r o sets same numbers) p q
one_of (Prove name) b r o m n t u h g p q = p.0 ∙ sym q.0
one_of (Verify name) b r o m n t u h g p q =
    let same = one_ready (Verify name) b r o h g in
    let numbers = one_number (Verify name) b r o (asked_name name true) refl h g in
    ap (λ (v : RefusalView). v.status)
    (one_verdict name r o (refusal m t) (refusal n u) same (one_rest (Verify name) b r o refl h g) numbers (ap rows (one_marks r o (λ x. no_facts) same numbers)) p q)
one_of Unknown b r o m n t u h g p q = absurd p

files_jobless : (c : Command) → c ≡ Combine → (way_of c).reads_job ≡ true → ⊥
files_jobless c e reads = not_both (way_of c).reads_job reads (ap (λ (d : Command). (way_of d).reads_job) e)

pub one_status : (c : Command) (b : List ℕ) (m n : ℕ) (t u : List ℕ) → IsAnswer c b m t → IsAnswer c b n u → m ≡ n
one_status c b m n t u (Refused reads is) (Refused also it) = one_refusal (way_of c).form (way_of c).asked b (refusal m t) (refusal n u) is it
one_status c b m n t u (Refused reads is) (OfFiles e it) = absurd (files_jobless c e reads)
one_status c b m n t u (Refused reads is) (OfJob o g it) = absurd (ready_or_refused (way_of c).form (way_of c).asked b o.job (refusal m t) g.has g.asked g.match.faultless is)
one_status c b m n t u (OfFiles e is) (Refused also it) = absurd (files_jobless c e also)
one_status c b m n t u (OfFiles e is) (OfFiles f it) = one_united b m n t u is it
one_status c b m n t u (OfFiles e is) (OfJob o g it) = absurd (files_jobless c e g.reads)
one_status c b m n t u (OfJob r h is) (Refused also it) = absurd (ready_or_refused (way_of c).form (way_of c).asked b r.job (refusal n u) h.has h.asked h.match.faultless it)
one_status c b m n t u (OfJob r h is) (OfFiles e it) = absurd (files_jobless c e h.reads)
one_status c b m n t u (OfJob r h is) (OfJob o g it) = one_of c b r o m n t u h g is it
