use Rattle.std.proofs.Common.{refl}
use Rattle.index_layout.proofs.PageWrites.{regular_begun}
use Rattle.index_layout.proofs.writers.start_regular.Goals as goal

pub returns : goal.returns
returns c = regular_begun c.start.new.page 8160 refl c.start.ensures
