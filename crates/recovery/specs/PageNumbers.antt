-- the pages of a disk by their numbers
use Rattle.std.specs.Prelude.{ℕ, ◌+◌, ◌*◌, sum, take}
use Rattle.block_model.specs.declared.place.Place.{Place}
use Rattle.store_layout.specs.DiskLayout.{DiskLayout, relation_blocks}

-- the number of the page at a place: pages are numbered from the first byte of the disk on, so those of the control page and of the
-- log come first
unfoldable pub page_number : DiskLayout → Place → ℕ
page_number layout place = 1 + 2 * layout.sizes.log_pages + (sum (take place.relation (relation_blocks layout)) + place.block)
