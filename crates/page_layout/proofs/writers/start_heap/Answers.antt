use Rattle.std.proofs.Common.{refl}
use Rattle.page_layout.proofs.Writes.{empty-by}
use Rattle.page_layout.proofs.writers.start_heap.Goals as goal

pub returns : goal.returns
returns c = record { empty = empty-by c.args.form c.args.page.now c.clear.new.self c.write.new.self 8192 8160 refl refl c.known.ensures.whole c.clear.ensures.cleared c.write.ensures.written c.requires.form c.requires.heap }
