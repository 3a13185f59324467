-- Jobs that are ready for a command: of the same bytes they are one.
use Rattle.std.proofs.Common.{◌≡◌, ℕ, true, Some, List, drop, sym, ◌∙◌, ap, subst}
use Rattle.job_input.proofs.Laws.{one_bytes, one_job, one_places, one_tables}
use Rattle.job_input.specs.Meaning.{Match}
use Rattle.job_text.specs.Meaning.{lines_of}
use Rattle.session_book.specs.Meaning.{JobView}
use Rattle.job_answers.specs.Meaning.{ReadyView, session_number}
use Rattle.coverage_commands.specs.Meaning.{IsReady, way_of}
use Rattle.job_answers.specs.declared.asked.Wanted.{Wanted}
use Rattle.job_answers.specs.declared.asked.Asked.TheVariants.{WithSession}
use Rattle.job_input.specs.declared.words.Command.{Command}
use Rattle.job_answers.proofs.Laws.{IsSame}

pub one_ready : (c : Command) (b : List ℕ) (r o : ReadyView) → IsReady c b r → IsReady c b o → IsSame r o
one_ready c b r o h g =
    let one = one_job (way_of c).form (lines_of b) r.job o.job h.has g.has in
    let mine : Match r.job o.tables = subst (λ (i : JobView). Match i o.tables) (sym one.1) g.match in
    record {
      jobs = sym one.1;
      tables = one_tables r.job o.tables r.tables mine h.match;
      places = one_places r.job o.tables r.tables mine h.match;
      lines = g.lines ∙ (sym one.0 ∙ sym h.lines);
    }

-- where more than a job may come it is the same that came
pub one_rest : (c : Command) (b : List ℕ) (r o : ReadyView) → (way_of c).form.more ≡ true → IsReady c b r → IsReady c b o → o.rest ≡ r.rest
one_rest c b r o m h g = one_bytes o.rest r.rest (g.behind m ∙ (ap (λ (i : ℕ). drop i (lines_of b)) (one_ready c b r o h g).lines ∙ sym (h.behind m)))

-- and where a session is named it has the same number
pub one_number : (c : Command) (b : List ℕ) (r o : ReadyView) (wanted : Wanted) → (way_of c).asked ≡ WithSession wanted → IsReady c b r → IsReady c b o → o.number ≡ r.number
one_number c b r o wanted e h g =
    let found : Some o.number ≡ Some r.number = sym (g.named wanted e) ∙ (ap (λ (i : JobView). session_number i wanted.name) (one_ready c b r o h g).jobs ∙ h.named wanted e) in
    cc
