use Rattle.std.proofs.Common.{◌-◌, refl, arith}
use Rattle.index_layout.proofs.PageWrites.{meta_begun, pages_set}
use Rattle.index_layout.proofs.writers.start_meta.Goals as goal

pub returns : goal.returns
returns c = pages_set 0 c.args.pages (8160 - 4) c.start.new.page c.put_u32.new.bytes refl (meta_begun c.start.new.page 8160 (8160 - 4) refl refl c.start.ensures) (omega arith) c.put_u32.ensures.put
