use Rattle.std.proofs.Common.{subst, sym}
use Rattle.index_contents.specs.IndexPages.{IsIndexPage}
use Rattle.range_store.proofs.dropping.has_tuple.Goals as goal

pub tuple_at-requires : goal.tuple_at-requires
tuple_at-requires g c =
    subst IsIndexPage (sym c.as_bytes.ensures.bytes) (c.index_pages_are_known.ensures c.args.pages.now.layout c.args.place.relation c.in-Ok.page.now c.requires.form c.in-Ok.ensures.form)
