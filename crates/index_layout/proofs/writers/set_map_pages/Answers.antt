use Rattle.std.proofs.Common.{◌-◌, refl, arith}
use Rattle.index_layout.proofs.PageWrites.{meta_of, pages_set}
use Rattle.index_layout.proofs.writers.set_map_pages.Goals as goal

pub returns : goal.returns
returns c =
    let page = c.args.page.now in
    let meta = meta_of page 8192 refl c.requires.page c.requires.kind in
    record { set = pages_set meta.0 c.args.pages (8160 - 4) page c.put_u32.new.bytes refl meta.1 (omega arith) c.put_u32.ensures.put }
