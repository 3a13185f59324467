use Rattle.std.proofs.Common.{arith, sym, length, []}
use Rattle.std.proofs.lemmas.List.{length-map}
use Rattle.job_text.proofs.WordLemmas.{long_card-none, long_of_one, long_of_two, long_of_four}
use Rattle.job_text.proofs.cards.long_card.Goals as goal

pub returns-then-rest-eq1 : goal.returns-then-rest-eq1
returns-then-rest-eq1 c = rw (long_of_one (λ w. w.now) (record { ref_ptr = (0, 0); now = [] }) c.args.key.now c.args.a.now c.args.rest.now c.if-rest-eq1.true) c.pair_card.ensures

pub returns-then-rest-eq2 : goal.returns-then-rest-eq2
returns-then-rest-eq2 c = rw (long_of_two (λ w. w.now) (record { ref_ptr = (0, 0); now = [] }) c.args.key.now c.args.a.now c.args.rest.now c.if-rest-eq2.true) c.module_card.ensures

pub returns-then-rest-eq4 : goal.returns-then-rest-eq4
returns-then-rest-eq4 c = rw (long_of_four (λ w. w.now) (record { ref_ptr = (0, 0); now = [] }) c.args.key.now c.args.a.now c.args.rest.now c.if-rest-eq4.true) c.task_card.ensures

pub returns : goal.returns
returns c = sym (long_card-none c.args.key.now c.args.a.now _ (length c.args.rest.now) (length-map c.args.rest.now _) (λ e. omega arith) (λ e. omega arith) (λ e. omega arith))
