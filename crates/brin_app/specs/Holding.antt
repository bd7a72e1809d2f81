-- what stands on the disk that comes back, where it tells its contents and its images
use Rattle.std.specs.Prelude.{◌≡◌, ◌≢◌, ◌⊎◌, ℕ, ◌≤◌, IsTrue, List}
use Rattle.block_model.specs.TableState.{TableState}
use Rattle.disk_trait.specs.Told.{Told}
use Rattle.store_layout.specs.DiskLayout.{DiskLayout}
use Rattle.session_core.specs.Started.{HoldsImage}
use Rattle.brin_app.specs.declared.top.Task.{Task}
use Rattle.brin_app.specs.declared.top.Task.TheVariants.{Demo, Init, Run, RunStored, Threads, ThreadsStored}
use Rattle.brin_app.specs.ScriptOutput.{EachImageHas, HoldsTable}
use Rattle.brin_app.specs.WantedSizes.{AsksForNew}

-- the disk holds a store of this layout with the table for sure: each image that a stop may leave now has the table too
pub record HoldsSure (disk : Told) (layout : DiskLayout) (table : TableState) : Type 0 where
  pub tells_contents : IsTrue disk.tells_contents
  pub tells_images : IsTrue disk.tells_images
  pub holds : HoldsTable disk layout table
  pub each : EachImageHas disk layout table

-- it holds a store with some table for sure
abbrev pub HoldsStore : Told → Type 0
HoldsStore disk = (layout : DiskLayout) × (table : TableState) × HoldsSure disk layout table

-- A run may be called over the disk. A table that each image has it holds for sure; and unless the disk failed, there is one that each has.
pub record StaysStore (status : ℕ) (disk : Told) : Type 0 where
  pub image : HoldsImage disk
  pub table : (layout : DiskLayout) (table : TableState) → EachImageHas disk layout table → HoldsSure disk layout table
  pub store : status ≢ 6 → HoldsStore disk

-- all was done, or a script was run up to a fault of its source or its sink, or to a limit
abbrev pub HasRun : ℕ → Type 0
HasRun status = (status ≡ 0) ⊎ ((status ≡ 4) ⊎ ((status ≡ 5) ⊎ (status ≡ 8)))

-- What stands there behind the words, by what stood there before. Of words that ask for `threads` nothing is said here: which table each image has then is
-- said by the transcript, over an honest name alone (specs/Threads.antt).
pub record HoldsOn (words : List (List ℕ)) (status : ℕ) (old new : Told) : Type 0 where
  -- a store for sure: whatever the words ask for, and whatever the status
  pub kept : HoldsStore old → StaysStore status new
  -- anything, where the words have made a store
  pub made : (layout : DiskLayout) → AsksForNew words layout → HasRun status → IsTrue old.tells_images → StaysStore status new
  -- an image of a store, or bytes that don't open, where a script was run or no store was found
  pub image : HoldsImage old → HasRun status ⊎ (status ≡ 9) → IsTrue old.tells_contents → IsTrue new.tells_images → HoldsImage new

-- the task makes a store, and has made it
abbrev pub HasMade : Task → ℕ → Type 0
HasMade (Init layout) status = HasRun status
HasMade (Run layout) status = HasRun status
HasMade (Demo layout seed rows) status = HasRun status
HasMade RunStored status = ⊥
HasMade (Threads layout) status = ⊥
HasMade ThreadsStored status = ⊥

-- the same behind a task
pub record HoldsOnFor (task : Task) (status : ℕ) (old new : Told) : Type 0 where
  pub kept : HoldsStore old → StaysStore status new
  pub made : HasMade task status → IsTrue old.tells_images → StaysStore status new
  pub image : HoldsImage old → HasRun status ⊎ (status ≡ 9) → IsTrue old.tells_contents → IsTrue new.tells_images → HoldsImage new

-- the laws of a disk, of what one tells
pub record ObeysLaws (disk : Told) : Type 0 where
  pub contents : IsTrue disk.tells_images → IsTrue disk.tells_contents
  pub here : IsTrue disk.tells_images → IsTrue (disk.now disk.contents)
  pub later : (t : ℕ) (image : List ℕ) → t ≤ disk.moment → IsTrue (disk.now image) → IsTrue (disk.since t image)
