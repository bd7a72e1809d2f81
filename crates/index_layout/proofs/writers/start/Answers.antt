use Rattle.std.proofs.Common.{refl}
use Rattle.index_layout.proofs.PageWrites.{begun}
use Rattle.index_layout.proofs.writers.start.Goals as goal

pub returns : goal.returns
returns c = begun c.args.page.now c.clear.new.page c.args.kind 8192 8160 c.requires refl refl c.clear.ensures.cleared
