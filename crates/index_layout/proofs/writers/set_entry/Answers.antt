use Rattle.std.proofs.Common.{refl}
use Rattle.index_layout.proofs.PageWrites.{map_of}
use Rattle.index_layout.proofs.writers.set_entry.Goals as goal

pub write_entry-requires-clause-page : goal.write_entry-requires-clause-page
write_entry-requires-clause-page c = map_of c.args.page.now 8192 refl c.requires.page c.requires.kind
