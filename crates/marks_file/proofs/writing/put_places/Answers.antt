use Rattle.std.proofs.Common.{◌≡◌, ◌++◌, ap, ◌∙◌, get_or}
use Rattle.std.specs.List.{flat_map}
use Rattle.std.proofs.lemmas.List.{at_drop_more}
use Rattle.marks_file.specs.Meaning.{place_bytes}
use Rattle.cov_outside.proofs.Laws.{progress_at, puts_more, puts_exit}
use Rattle.marks_file.proofs.writing.put_places.Goals as goal

pub returns-in_err-put : goal.returns-in_err-put
returns-in_err-put g c =
    let piece : c.place_bytes.result ≡ place_bytes (get_or c.args.places.now c.loop-i.i c.index-places-i.result) = c.place_bytes.ensures ∙ ap place_bytes c.index-places-i.is in
    let next = at_drop_more (flat_map place_bytes) c.args.places.now c.loop-i.i c.index-places-i.result c.loop-i-test.true in
    puts_exit _ c.from_residual.ensures.0 (rw piece at c.in_err-put.ensures.put) (progress_at (ap (λ t. c.loop-i.buffer ++ t) next) c.loop-i.invariant)

pub loop-i-preserved : goal.loop-i-preserved
loop-i-preserved g c =
    let piece : c.place_bytes.result ≡ place_bytes (get_or c.args.places.now c.loop-i.i c.index-places-i.result) = c.place_bytes.ensures ∙ ap place_bytes c.index-places-i.is in
    let next = at_drop_more (flat_map place_bytes) c.args.places.now c.loop-i.i c.index-places-i.result c.loop-i-test.true in
    puts_more _ (rw piece at c.in_ok-put.ensures.put) (progress_at (ap (λ t. c.loop-i.buffer ++ t) next) c.loop-i.invariant)
