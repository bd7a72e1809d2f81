-- what is read of a disk before its pages
use Rattle.std.specs.Prelude.{◌≡◌, ℕ, ◌+◌, ◌*◌, ◌^◌, ◌<◌, false, IsTrue, length, slice_index, slice_index_or, take}
use Rattle.std.specs.FinMap as map
use Rattle.block_model.specs.declared.limits.TheConstants.{PAGE_SIZE}
use Rattle.store_layout.specs.DiskLayout.{area_size, disk_size}
use Rattle.store_format.specs.ControlPage.{HasControl}
use Rattle.disk_trait.specs.Told.{Told}
use Rattle.log_area.specs.Frames.{row_of}
use Rattle.log_area.specs.Log.{Stands, area_start}
use Rattle.recovery.specs.declared.beginning.Begun.{Begun}

-- The disk has the layout's size. Where it tells its contents they have its control page, and the log stands there with these
-- frames, the first one at that byte. The pool holds no page, and no page is marked.
pub record IsBegun (b : Begun) (disk : Told) : Type 0 where
  pub size : disk.size ≡ disk_size b.layout
  pub control : IsTrue disk.tells_contents → HasControl b.layout (take PAGE_SIZE disk.contents)
  pub room : b.log.room ≡ area_size b.layout
  pub stands : IsTrue disk.tells_contents → Stands b.log b.frames disk.contents
  pub begins : IsTrue disk.tells_contents → b.area ≡ area_start (area_size b.layout) (slice_index disk.contents 1)
  pub row : b.area + length (row_of b.frames) < 2 ^ 32
  pub empty : b.pool ≡ record { frames = b.layout.sizes.frames; pages = map.empty }
  pub marked : PAGE_SIZE * length b.marks.items ≡ disk_size b.layout
  pub clear : (number : ℕ) → slice_index_or b.marks.items number false ≡ false
