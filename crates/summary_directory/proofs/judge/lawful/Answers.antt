use Rattle.bitmap_scan.proofs.Lawful.{lawful_indexes}
use Rattle.summary_directory.proofs.judge.lawful.Goals as goal

pub returns : goal.returns
returns c = lawful_indexes c.args.layout.now.schema c.args.layout.now.sizes c.known.ensures.limits
