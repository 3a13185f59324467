use Rattle.std.proofs.Common.{[], refl}
use Rattle.job_text.proofs.WordLemmas.{card_of_none, card_of_one, card_of_two, card_of_more}
use Rattle.job_text.proofs.cards.card_of.Goals as goal

pub returns-in-empty : goal.returns-in-empty
returns-in-empty c = card_of_none (λ w. w.now) (record { ref_ptr = (0, 0); now = [] }) c.args.words.now c.in-empty.len_below

pub returns-then-is : goal.returns-then-is
returns-then-is c = rw (card_of_one (λ w. w.now) (record { ref_ptr = (0, 0); now = [] }) c.args.words.now c.in-len1.len_at_least c.in-len1.len_below, ← c.is.ensures, c.if-is.true) refl

pub returns-else-is : goal.returns-else-is
returns-else-is c = rw (card_of_one (λ w. w.now) (record { ref_ptr = (0, 0); now = [] }) c.args.words.now c.in-len1.len_at_least c.in-len1.len_below, ← c.is.ensures, c.if-is.false) refl

pub returns-in-len2 : goal.returns-in-len2
returns-in-len2 c = rw (card_of_two (λ w. w.now) (record { ref_ptr = (0, 0); now = [] }) c.args.words.now c.in-len2.len_at_least c.in-len2.len_below) c.short_card.ensures

pub returns-then-is-2 : goal.returns-then-is-2
returns-then-is-2 c =
    rw (card_of_more (λ w. w.now) (record { ref_ptr = (0, 0); now = [] }) c.args.words.now c.in-len2-up.len_at_least, ← c.is-in-len2-up.ensures, c.if-is-2.true) c.session_card.ensures

pub returns-else-is-2 : goal.returns-else-is-2
returns-else-is-2 c =
    rw (card_of_more (λ w. w.now) (record { ref_ptr = (0, 0); now = [] }) c.args.words.now c.in-len2-up.len_at_least, ← c.is-in-len2-up.ensures, c.if-is-2.false) c.long_card.ensures
