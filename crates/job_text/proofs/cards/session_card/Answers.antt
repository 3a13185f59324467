use Rattle.std.proofs.Common.{[]}
use Rattle.job_text.proofs.WordLemmas.{session_none, session_parted}
use Rattle.job_text.proofs.cards.session_card.Goals as goal

pub returns-in-empty : goal.returns-in-empty
returns-in-empty c = session_none (λ w. w.now) (record { ref_ptr = (0, 0); now = [] }) c.args.name.now c.args.words.now c.in-empty.len_below

pub returns-then-is : goal.returns-then-is
returns-then-is c =
    rw (session_parted (λ w. w.now) (record { ref_ptr = (0, 0); now = [] }) c.args.name.now c.args.words.now c.in-len1-up.len_at_least, ← c.is.ensures, c.if-is.true) c.controlled_card.ensures

pub returns-in_ok-modules-in-len1-up : goal.returns-in_ok-modules-in-len1-up
returns-in_ok-modules-in-len1-up c =
    rw (session_parted (λ w. w.now) (record { ref_ptr = (0, 0); now = [] }) c.args.name.now c.args.words.now c.in-len1-up.len_at_least, ← c.is.ensures, c.if-is.false, ← c.read.ensures, ← c.in_ok-modules-in-len1-up.ensures)
    c.whole_session.ensures
