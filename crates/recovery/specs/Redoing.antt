-- a log of which the first changes are redone
use Rattle.std.specs.Prelude.{◌≡◌, ℕ, ◌<◌, Bool, true, false, IsTrue, List, [], ◌++◌, Some, None, length, take}
use Rattle.std.specs.List.{AllByRecursion}
use Rattle.block_model.specs.declared.limits.TheConstants.{PAGE_SIZE}
use Rattle.block_model.specs.declared.place.Place.{Place}
use Rattle.store_layout.specs.DiskLayout.{DiskLayout, IsPlace, area_size, first_offset}
use Rattle.store_format.specs.ControlPage.{HasControl}
use Rattle.disk_trait.specs.Told.{Told}
use Rattle.disk_trait.specs.IsStable.{IsStable}
use Rattle.disk_trait.specs.Throughout.{Throughout}
use Rattle.log_area.specs.Frames.{LogFrame, HoldsFrames}
use Rattle.log_area.specs.Log.{chosen_area}
use Rattle.wal_record.specs.Changes.{LoggedChange, place_of}
use Rattle.page_map.specs.Redo.{Redone}
use Rattle.page_map.specs.Forms.{form_of}
use Rattle.buffer_pool.specs.PoolState.{HeldPage, PoolState, held_at}
use Rattle.recovery.specs.LoggedChanges.{AreLogged, BeginAnew, changes_at}
use Rattle.recovery.specs.Opens.{disk_page}
use Rattle.recovery.specs.Reaches.{OpensAsBefore}
use Rattle.recovery.specs.PageNumbers.{page_number}
use Rattle.recovery.specs.Safe.{is_marked}
use Rattle.recovery.specs.ShownPages.{shown_page}

-- the changes are of pages of the layout, the first one of each page makes it whole, and they make these pages of an image's
pub record MakePages (layout : DiskLayout) (image : List ℕ) (changes : List LoggedChange) (page : Place → List ℕ) : Type 0 where
  pub places : AllByRecursion (λ change. IsPlace layout (place_of change)) changes
  pub anew : (place : Place) → BeginAnew (changes_at place changes)
  pub redone : (place : Place) → IsPlace layout place → Redone (form_of layout place.relation) (disk_page layout image place) (changes_at place changes) (page place)

-- the changes are of pages of the layout, the first one of each page makes it whole, and they fit, one after the other
pub record CanBeRedone (layout : DiskLayout) (image : List ℕ) (changes : List LoggedChange) : Type 0 where
  pub places : AllByRecursion (λ change. IsPlace layout (place_of change)) changes
  pub anew : (place : Place) → BeginAnew (changes_at place changes)
  pub fit : (place : Place) → IsPlace layout place → (page : List ℕ) × Redone (form_of layout place.relation) (disk_page layout image place) (changes_at place changes) page

-- the image has the control page and the log of the first one, and each of its pages that no change names
pub record KeepsTheRest (layout : DiskLayout) (changes : List LoggedChange) (first image : List ℕ) : Type 0 where
  pub log : take (first_offset layout) image ≡ take (first_offset layout) first
  pub pages : (place : Place) → IsPlace layout place → changes_at place changes ≡ [] → disk_page layout image place ≡ disk_page layout first place

-- the changes are the first ones of these frames
abbrev pub AreFirstOf : List LogFrame → List LoggedChange → Type 0
AreFirstOf frames changes = (all : List LoggedChange) → AreLogged frames all → (rest : List LoggedChange) × (all ≡ changes ++ rest)

-- no write is pending on the disk, which has the layout's control page, and these frames in the area that it chooses
pub record HasLog (layout : DiskLayout) (frames : List LogFrame) (disk : Told) : Type 0 where
  pub stable : IsStable disk
  pub tells : (image : List ℕ) → IsTrue (disk.now image) → IsTrue disk.tells_contents
  pub control : IsTrue disk.tells_contents → HasControl layout (take PAGE_SIZE disk.contents)
  pub holds : IsTrue disk.tells_contents → HoldsFrames (chosen_area (area_size layout) disk.contents) frames

-- Of the log of a disk as it was at the start the first changes are redone: they make the pages of pool and disk. Each page that
-- is held is named by one, and a clean one is as it stands on the disk. What stands there elsewhere is as it was, and each image
-- at every moment opens as one of the start did.
pub record Redoing (layout : DiskLayout) (frames : List LogFrame) (start : Told) (done : List LoggedChange) (disk : Told) (pool : PoolState) : Type 0 where
  pub log : HasLog layout frames start
  pub first : AreFirstOf frames done
  pub pages : IsTrue disk.tells_contents → MakePages layout start.contents done (shown_page layout pool disk.contents)
  pub touched : (place : Place) (held : HeldPage) → IsPlace layout place → held_at pool (page_number layout place) ≡ Some held → 0 < length (changes_at place done)
  pub clean : IsTrue disk.tells_contents → (place : Place) (held : HeldPage) → IsPlace layout place → held_at pool (page_number layout place) ≡ Some held → held.log ≡ None → held.content ≡ disk_page layout disk.contents place
  pub contents : IsTrue disk.tells_contents → KeepsTheRest layout done start.contents disk.contents
  pub images : (image : List ℕ) → IsTrue (disk.now image) → KeepsTheRest layout done start.contents image
  pub moments : Throughout start disk (OpensAsBefore start)

-- exactly the pages that changes name are marked
pub record AreMarked (layout : DiskLayout) (done : List LoggedChange) (marks : List Bool) : Type 0 where
  pub marked : (place : Place) → IsPlace layout place → is_marked marks layout place ≡ true → 0 < length (changes_at place done)
  pub unmarked : (place : Place) → IsPlace layout place → is_marked marks layout place ≡ false → changes_at place done ≡ []

-- At every moment since the start each image opens as one of the start did; and no byte of the control page and of the areas of the log was written to.
pub record IsKept (layout : DiskLayout) (start after : Told) : Type 0 where
  pub moments : Throughout start after (OpensAsBefore start)
  pub front : IsTrue start.tells_contents → take (first_offset layout) after.contents ≡ take (first_offset layout) start.contents

-- whatever of a log is redone, it is so since its start
abbrev pub KeepsMoments : DiskLayout → Told → PoolState → Told → Type 0
KeepsMoments layout disk pool after = (frames : List LogFrame) (start : Told) (done : List LoggedChange) → Redoing layout frames start done disk pool → IsKept layout start after
