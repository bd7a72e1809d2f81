use Rattle.std.proofs.Common.{subst, sym}
use Rattle.index_contents.specs.IndexPages.{IsIndexPage}
use Rattle.range_store.proofs.putting.opening_of.Goals as goal

pub free_slot-requires : goal.free_slot-requires
free_slot-requires c = subst IsIndexPage (sym c.as_bytes-bytes.ensures.bytes) c.requires.page
