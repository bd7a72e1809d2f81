use Rattle.std.proofs.Common.{subst, sym}
use Rattle.index_contents.specs.IndexPages.{IsIndexPage}
use Rattle.range_store.proofs.replacing.misfit_on.Goals as goal

pub tuple_at-requires : goal.tuple_at-requires
tuple_at-requires c = subst IsIndexPage (sym c.as_bytes-bytes.ensures.bytes) c.requires.page

pub found_at-requires-clause-page : goal.found_at-requires-clause-page
found_at-requires-clause-page c = subst IsIndexPage (sym c.as_bytes-bytes.ensures.bytes) c.requires.page

pub room_in_place-most_free-requires-clause-page : goal.room_in_place-most_free-requires-clause-page
room_in_place-most_free-requires-clause-page c = subst IsIndexPage (sym c.as_bytes-bytes.ensures.bytes) c.requires.page
