use Rattle.std.proofs.Common.{◌≡◌, ◌+◌, ◌-◌, arith, append_assoc}
use Rattle.job_gen.specs.Meaning.{code_from}
use Rattle.job_gen.proofs.CodeLemmas.{block_size, code_size, code_more, code_end}
use Rattle.job_gen.proofs.code.code_of.Goals as goal

pub loop-block-preserved : goal.loop-block-preserved
loop-block-preserved c =
    let l = c.loop-block in
    let more = code_more (c.args.blocks - l._block) (c.args.blocks - (l._block + 1)) l.draws.state l.at (omega arith) in
    record {
      code = rw (c.in_ok-at.ensures.code, c.in_ok-at.ensures.state, c.in_ok-at.ensures.at, append_assoc, ← more) l.invariant.code;
      at = omega (arith, c.in_ok-at.ensures.at, (block_size l.draws.state l.at).fits);
    }

pub returns : goal.returns
returns c =
    let l = c.loop-block in
    let end = code_end (c.args.blocks - l._block) l.draws.state l.at (omega arith) in
    let all : c.push-2.new.self.items ≡ code_from c.args.blocks c.args.state 0 = rw (c.in_ok-push-2.ensures.items, c.in_ok-push.ensures.items, append_assoc) (rw end at l.invariant.code) in
    let most = (code_size c.args.blocks c.args.state 0).most in
    record { code = all; most = rw all (omega arith) }
