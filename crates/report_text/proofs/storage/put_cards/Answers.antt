use Rattle.std.proofs.Common.{◌≡◌, ◌+◌, ◌<◌, ◌∙◌, length, get_or, take, replicate, fold, sym, ap, subst, arith}
use Rattle.module_area.specs.Meaning.{with_card}
use Rattle.session_book.specs.Meaning.{TaskView}
use Rattle.report_text.specs.FirstRows.{IsPartOf, FitsIn}
use Rattle.report_text.proofs.FirstRowLemmas.{cards_more, length-with_card}
use Rattle.report_text.proofs.storage.put_cards.Goals as goal

pub loop-i-preserved : goal.loop-i-preserved
loop-i-preserved c =
    let cards = ap (λ (t : TaskView). t.cards) c.task.view_is in
    let size = c.args.task.now.private in
    let so_far = fold with_card (replicate size 0) (take c.loop-i.i c.args.task.now.cards) in
    let card = c.index.result.now in
    let i = c.loop-i.i in
    let below : i < length c.args.task.now.cards = omega (arith, ap length cards, c.task.inside.cards.ok.0) in
    let read : card ≡ get_or c.args.task.now.cards i card = rw cards at c.index.ensures in
    let more : fold with_card (replicate size 0) (take (i + 1) c.args.task.now.cards) ≡ with_card so_far card = cards_more (replicate size 0) c.args.task.now.cards i card below read in
    let in_size : FitsIn size card = subst (FitsIn size) (sym read) (c.requires.cards i card below) in
    let fits : FitsIn (length so_far) card = subst (λ n. FitsIn n card) (sym c.loop-i.invariant.size) in_size in
    record {
      part = subst (λ bytes. IsPartOf c.put_card.new.block bytes c.args.from) (sym more) (c.put_card.ensures so_far fits c.loop-i.invariant.part);
      size = ap length more ∙ length-with_card so_far card fits ∙ c.loop-i.invariant.size;
    }
