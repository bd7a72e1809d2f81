use Rattle.std.proofs.Common.{ℕ, ◌+◌, ◌*◌, ap, arith}
use Rattle.index_layout.specs.IndexReading.{entries_of}
use Rattle.index_layout.proofs.PageWrites.{entry_set}
use Rattle.index_layout.proofs.writers.write_entry.Goals as goal

pub returns : goal.returns
returns c =
    let page = c.args.page.now in
    let place = ap (λ (k : ℕ). 32 + k * 8) c.from.ensures in
    record { set = entry_set (entries_of page) c.args.entry (32 + c.from.result * 8) (record { block = c.args.block; slot = c.args.slot }) page c.put_u32.new.bytes c.put_u16.new.bytes c.requires.page c.requires.entry place (omega arith) (omega arith) c.put_u32.ensures.put c.put_u16.ensures.put }
