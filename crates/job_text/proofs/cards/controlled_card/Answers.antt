use Rattle.std.proofs.Common.{◌≤◌, [], length, arith}
use Rattle.std.proofs.lemmas.Bool.Decides.{nat_tests}
use Rattle.job_text.proofs.WordLemmas.{controlled_parted}
use Rattle.job_text.proofs.cards.controlled_card.Goals as goal

pub returns : goal.returns
returns c =
    let two : 2 ≤ length c.args.words.now = grind (arith, nat_tests, c.if-words-lt2.false) in
    rw (controlled_parted (λ w. w.now) c.args.name.now c.args.words.now (record { ref_ptr = (0, 0); now = [] }) two, ← c.read.ensures, ← c.read-2.ensures, ← c.in_ok-modules.ensures) c.controlled_session.ensures
