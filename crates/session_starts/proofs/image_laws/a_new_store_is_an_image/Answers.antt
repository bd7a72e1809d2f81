use Rattle.std.proofs.Common.{refl}
use Rattle.std.specs.Prelude.{replicate}
use Rattle.snapshot_core.specs.declared.statuses.Status.TheVariants.{Unused}
use Rattle.tx_table.specs.Statuses.{number_limit}
use Rattle.session_starts.specs.FreshPages.{fresh_pages}
use Rattle.session_starts.specs.StoreImage.{opened_at}
use Rattle.session_starts.proofs.NewImage.{first_is_next, new_is_image}
use Rattle.session_starts.proofs.image_laws.a_new_store_is_an_image.Goals as goal

pub returns : goal.returns
returns c =
    let layout = c.args.layout.now in
    let fresh = c.fresh_pages_show_a_new_database.ensures in
    let stays = c.table_stays_covered.ensures in
    let database = fresh.database (opened_at 1) (replicate (number_limit layout) Unused) fresh.statuses (first_is_next (number_limit layout)) (record { first = refl; opens = refl }) in
    new_is_image stays.covered stays.new layout (fresh_pages layout) c.fresh_pages_show_new_tables.ensures.tables database fresh.blocks c.a_new_store_opens_to_fresh_pages.ensures.order
