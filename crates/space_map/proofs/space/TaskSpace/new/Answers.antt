use Rattle.space_map.proofs.Kept.{are_kept}
use Rattle.space_map.proofs.Seen.{are_seen}
use Rattle.space_map.proofs.space.TaskSpace.new.Goals as goal

pub returns-in_err-bytes-clause-seen : goal.returns-in_err-bytes-clause-seen
returns-in_err-bytes-clause-seen c =
    are_seen c.args.size c.args.images.now c.args.tables.now.places c.requires.size c.requires.images c.len-monitored.ensures.places c.requires.tables

pub returns-clause-seen : goal.returns-clause-seen
returns-clause-seen c =
    are_seen c.args.size c.args.images.now c.args.tables.now.places c.requires.size c.requires.images c.len-monitored.ensures.places c.requires.tables

pub returns-in_err-bytes-clause-kept : goal.returns-in_err-bytes-clause-kept
returns-in_err-bytes-clause-kept c = are_kept c.args.size c.args.images.now c.args.tables.now c.requires.size c.requires.images

pub returns-clause-kept : goal.returns-clause-kept
returns-clause-kept c = are_kept c.args.size c.args.images.now c.args.tables.now c.requires.size c.requires.images
