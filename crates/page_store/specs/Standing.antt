-- what holds of all pages with a log
use Rattle.std.specs.Prelude.{◌≡◌, ℕ, ◌*◌, ◌<◌, ◌≤◌, Bool, IsTrue, List, Option, None, length}
use Rattle.block_model.specs.declared.limits.TheConstants.{PAGE_SIZE}
use Rattle.block_model.specs.declared.place.Place.{Place}
use Rattle.store_layout.specs.DiskLayout.{DiskLayout, IsPlace, area_size, disk_size}
use Rattle.disk_trait.specs.Told.{Told}
use Rattle.recovery.specs.Log.{Log}
use Rattle.recovery.specs.Appended.{left_in, needed}
use Rattle.wal_record.specs.Changes.{LoggedChange}
use Rattle.buffer_pool.specs.PoolState.{PoolState}
use Rattle.wal_record.specs.Waiting.{Waiting}
use Rattle.page_map.specs.Forms.{IsPageIn}
use Rattle.recovery.specs.LoggedChanges.{AreChangesOf}
use Rattle.recovery.specs.ShownPages.{shown_page, shown_pages}
use Rattle.recovery.specs.InPool.{HoldsPages, IsInPool, WaitsAtMost}
use Rattle.recovery.specs.Safe.{IsSafe}

-- the bytes that wait are those of some changes; pages in the pool stand to disk and log as they should, and each image is safe
pub record IsSound (disk : Told) (layout : DiskLayout) (log : Log) (pool : PoolState) (marks : List Bool) (waiting : Waiting) : Type 0 where
  pub changes : List LoggedChange
  pub bytes : AreChangesOf waiting.bytes changes
  pub count : waiting.count ≡ length changes
  pub pooled : IsInPool layout log pool marks changes disk.contents
  pub safe : (image : List ℕ) → IsTrue (disk.now image) → IsSafe layout log marks changes (shown_pages layout pool disk.contents) image

-- The disk and the log are those of the layout, and there is a mark for each page of the disk. What waits has room in its area. What
-- is held are pages that pass their checks; where the disk tells its contents each page does, and until the disk fails all is sound.
pub record IsStanding (disk : Told) (layout : DiskLayout) (log : Log) (pool : PoolState) (marks : List Bool) (waiting : Waiting) (failed : Option ℕ) : Type 0 where
  pub size : disk.size ≡ disk_size layout
  pub area : log.room ≡ area_size layout
  pub frames : pool.frames ≡ layout.sizes.frames
  pub marked : PAGE_SIZE * length marks ≡ disk_size layout
  pub room : 0 < length waiting.bytes → needed (length waiting.bytes) ≤ left_in log
  pub held : HoldsPages layout pool
  pub waits : WaitsAtMost log pool
  pub checked : IsTrue disk.tells_contents → (place : Place) → IsPlace layout place → IsPageIn layout place.relation (shown_page layout pool disk.contents place)
  pub sound : failed ≡ None → IsTrue disk.tells_contents → IsSound disk layout log pool marks waiting
