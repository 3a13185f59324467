use Rattle.std.proofs.Common.{[], sym, ◌∙◌}
use Rattle.job_text.proofs.WordLemmas.{names_stop, names_more}
use Rattle.job_text.proofs.words.names_of.Goals as goal

pub returns-in-None : goal.returns-in-None
returns-in-None c =
    names_stop (λ w. w.now) (record { ref_ptr = (0, 0); now = [] }) c.args.words.now c.loop-word.word-index c.loop-word.names.items _ c.loop-word-test.true (sym c.read.ensures ∙ c.in-None.is) c.loop-word.invariant

pub loop-word-preserved : goal.loop-word-preserved
loop-word-preserved c =
    names_more (λ w. w.now) (record { ref_ptr = (0, 0); now = [] }) c.args.words.now c.loop-word.word-index c.loop-word.names.items _ c.push.new.self.items c.in-Some.name c.loop-word-test.true
    (sym c.read.ensures ∙ c.in-Some.is) c.in_ok-push-in-Some.ensures.items c.loop-word.invariant
