-- an image that a crash may leave loses nothing that was made sure
use Rattle.std.specs.Prelude.{◌≡◌, ℕ, ◌<◌, Bool, true, false, List, [], ◌++◌, length, take, slice_index_or}
use Rattle.std.specs.List.{AllByRecursion}
use Rattle.block_model.specs.declared.limits.TheConstants.{PAGE_SIZE}
use Rattle.block_model.specs.declared.place.Place.{Place}
use Rattle.store_layout.specs.DiskLayout.{DiskLayout, IsPlace}
use Rattle.store_format.specs.ControlPage.{HasControl}
use Rattle.log_area.specs.Frames.{LogFrame}
use Rattle.log_area.specs.Log.{Log, Stands}
use Rattle.wal_record.specs.Changes.{LoggedChange, place_of}
use Rattle.page_map.specs.Redo.{Redone}
use Rattle.page_map.specs.Forms.{form_of}
use Rattle.page_map.specs.PageMap.{PageMap, page_at}
use Rattle.recovery.specs.LoggedChanges.{AreLogged, BeginAnew, changes_at}
use Rattle.recovery.specs.Opens.{disk_page}
use Rattle.recovery.specs.PageNumbers.{page_number}

-- the page at the place is marked: by its number, as one that changes of this log begin anew
abbrev pub is_marked : List Bool → DiskLayout → Place → Bool
is_marked marks layout place = slice_index_or marks (page_number layout place) false

-- The changes make these pages of those that stand on the image; the first change of each page makes it whole; and a page is marked
-- where there is one.
pub record Rebuilds (layout : DiskLayout) (marks : List Bool) (changes : List LoggedChange) (pages : PageMap) (image : List ℕ) : Type 0 where
  pub places : AllByRecursion (λ change. IsPlace layout (place_of change)) changes
  pub anew : (place : Place) → BeginAnew (changes_at place changes)
  pub redone : (place : Place) → IsPlace layout place → Redone (form_of layout place.relation) (disk_page layout image place) (changes_at place changes) (page_at pages place)
  pub marked : (place : Place) → IsPlace layout place → is_marked marks layout place ≡ true → 0 < length (changes_at place changes)
  pub unmarked : (place : Place) → IsPlace layout place → is_marked marks layout place ≡ false → changes_at place changes ≡ []

-- The log stands on the image with some frames, and the changes that they hold, with those that wait behind them, make these pages.
pub record IsSafe (layout : DiskLayout) (log : Log) (marks : List Bool) (waiting : List LoggedChange) (pages : PageMap) (image : List ℕ) : Type 0 where
  pub frames : List LogFrame
  pub done : List LoggedChange
  pub control : HasControl layout (take PAGE_SIZE image)
  pub stands : Stands log frames image
  pub decoded : AreLogged frames done
  pub rebuilds : Rebuilds layout marks (done ++ waiting) pages image
