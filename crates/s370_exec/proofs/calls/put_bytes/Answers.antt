use Rattle.std.proofs.Common.{◌≡◌, ◌++◌, ◌∷◌, [], ap, sym, ◌∙◌, arith}
use Rattle.std.proofs.lemmas.List.{length-append}
use Rattle.cov_base.specs.Meaning.{IoView}
use Rattle.s370_exec.proofs.CallBytes.{one_put}
use Rattle.s370_exec.proofs.calls.put_bytes.Goals as goal

pub loop-i-preserved : goal.loop-i-preserved
loop-i-preserved g c =
    let output : c.put.new.self.output ≡ c.loop-i.io.output ++ c.byte_of.result ∷ [] = ap (λ (io : IoView). io.output) c.put.ensures in
    record {
      output = rw (output, c.loop-i.invariant.output, c.byte_of.ensures) (sym (one_put c.args.io.now.output _ _ c.args.at c.loop-i.i));
      size = rw output (omega (arith, c.loop-i.invariant.size, length-append c.loop-i.io.output (c.byte_of.result ∷ [])));
      input = ap (λ (io : IoView). io.input) c.put.ensures ∙ c.loop-i.invariant.input;
      taken = ap (λ (io : IoView). io.taken) c.put.ensures ∙ c.loop-i.invariant.taken;
      room = ap (λ (io : IoView). io.room) c.put.ensures ∙ c.loop-i.invariant.room;
    }
