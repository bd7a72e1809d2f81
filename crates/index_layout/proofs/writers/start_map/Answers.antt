use Rattle.std.proofs.Common.{refl}
use Rattle.index_layout.proofs.PageWrites.{empty_map}
use Rattle.index_layout.proofs.writers.start_map.Goals as goal

pub returns : goal.returns
returns c = empty_map 1020 8160 c.start.new.page refl refl c.start.ensures
