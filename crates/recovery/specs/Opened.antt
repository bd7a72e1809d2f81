-- what opening a disk hands over
use Rattle.std.specs.Prelude.{◌≡◌, ℕ, ◌*◌, IsTrue, List, [], length}
use Rattle.block_model.specs.declared.limits.TheConstants.{PAGE_SIZE}
use Rattle.store_layout.specs.DiskLayout.{area_size, disk_size}
use Rattle.disk_trait.specs.Told.{Told}
use Rattle.recovery.specs.PageOrder.{AreInOrder}
use Rattle.recovery.specs.InPool.{HoldsPages, IsInPool, WaitsAtMost}
use Rattle.recovery.specs.Safe.{IsSafe}
use Rattle.recovery.specs.ShownPages.{shown_pages}
use Rattle.recovery.specs.Judged.{AreJudged}
use Rattle.recovery.specs.declared.opening.Opened.{Opened}

-- Disk, log, pool and marks are those of the layout. What is held are pages that pass their checks, of which none waits for the log.
-- Where the disk tells its contents, each page passes its check, they are in order, and the facts are theirs; and each image that a
-- crash may leave has the log and opens to these pages.
pub record IsOpened (o : Opened) (disk : Told) : Type 0 where
  pub size : disk.size ≡ disk_size o.layout
  pub area : o.log.room ≡ area_size o.layout
  pub frames : o.pool.frames ≡ o.layout.sizes.frames
  pub marked : PAGE_SIZE * length o.marks.items ≡ disk_size o.layout
  pub held : HoldsPages o.layout o.pool
  pub waits : WaitsAtMost o.log o.pool
  pub judged : AreJudged o.layout o.pool o.facts.items disk
  pub order : IsTrue disk.tells_contents → AreInOrder o.layout (shown_pages o.layout o.pool disk.contents)
  pub pooled : IsTrue disk.tells_contents → IsInPool o.layout o.log o.pool o.marks.items [] disk.contents
  pub safe : (image : List ℕ) → IsTrue (disk.now image) → IsSafe o.layout o.log o.marks.items [] (shown_pages o.layout o.pool disk.contents) image
