use Rattle.std.specs.Int.{bytes_high_first}
use Rattle.store_format.specs.ControlBytes.{sizes_bytes}
use Rattle.store_format.proofs.Padding.{five_parts}
use Rattle.store_format.proofs.schema.write_sizes.Goals as goal

pub returns : goal.returns
unfolding sizes_bytes
returns c =
    let z = c.args.sizes in
    five_parts c.args.page.now c.put_u32.new.self c.put_u32-2.new.self c.put_u32-3.new.self c.put_u32-4.new.self c.put_u32-5.new.self
    (bytes_high_first 4 z.heap_blocks) (bytes_high_first 4 z.index_blocks) (bytes_high_first 4 z.status_blocks) (bytes_high_first 4 z.log_pages) (bytes_high_first 4 z.frames)
    c.put_u32.ensures c.put_u32-2.ensures c.put_u32-3.ensures c.put_u32-4.ensures c.put_u32-5.ensures
