use Rattle.std.proofs.Common.{Some, [], ◌∷◌, subst, sym, ◌∙◌}
use Rattle.cov_base.specs.Meaning.{Visit}
use Rattle.task_run.proofs.FetchedLemmas.{own_begun}
use Rattle.task_run.proofs.KeptCode.{placed_code, kept_kind}
use Rattle.task_run.proofs.PlaceLemmas.{begins_at}
use Rattle.task_run.proofs.instruction.step_placed.Goals as goal

pub begun_kept-known-requires-clause-placed : goal.begun_kept-known-requires-clause-placed
begun_kept-known-requires-clause-placed g c = begins_at c.args.tables.now.places c.at.result c.args.place.0 c.requires.kept.places c.requires.placed.exists (c.requires.placed.begins ∙ sym c.at.ensures)

pub begun_kept-known-requires-clause-kind : goal.begun_kept-known-requires-clause-kind
begun_kept-known-requires-clause-kind g c = kept_kind c.args.bench.now c.args.tables.now c.args.place.0 c.args.kept.now.decoded.code c.requires.kept.places c.requires.can.places c.requires.placed.exists c.requires.placed.begins c.requires.kept.code

pub carry_on_known-requires-clause-fetched : goal.carry_on_known-requires-clause-fetched
carry_on_known-requires-clause-fetched g c = placed_code c.args.bench.now c.args.tables.now c.args.place.0 c.args.kept.now.decoded.code c.requires.kept.places c.requires.can.places c.requires.placed.exists c.requires.placed.begins c.requires.kept.code

pub returns-clause-steps : goal.returns-clause-steps
returns-clause-steps g c =
    let goes = c.carry_on_known.ensures.goes in
    let fetched = placed_code c.args.bench.now c.args.tables.now c.args.place.0 c.args.kept.now.decoded.code c.requires.kept.places c.requires.can.places c.requires.placed.exists c.requires.placed.begins c.requires.kept.code in
    let own = own_begun c.args.bench.now c.args.done c.args.kept.now.decoded.code fetched c.at.result (Some c.args.place) c.at.ensures in
    record {
      memory = goes.memory;
      does = goes.does c.args.pass.now (subst (λ (v : Visit). g.O.Observer.Makes c.args.observer.now c.args.tables.now c.args.pass.now (v ∷ []) c.begun_kept-known.new.pass) own c.begun_kept-known.ensures.makes);
    }
