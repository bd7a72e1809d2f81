use Rattle.buffer_pool.proofs.Cleaning.{writes_at}
use Rattle.buffer_pool.proofs.pool.write_page.Goals as goal

pub returns-clause-writes : goal.returns-clause-writes
returns-clause-writes g c = writes_at _ _ _ _ _ c.place_on-place.ensures c.requires.whole c.write.ensures.others c.write.ensures.images c.write.ensures.moments
