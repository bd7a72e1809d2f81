-- the pages that an image of a disk opens to
use Rattle.std.specs.Prelude.{ℕ, List, take}
use Rattle.std.specs.List.{AllByRecursion}
use Rattle.block_model.specs.declared.limits.TheConstants.{PAGE_SIZE}
use Rattle.block_model.specs.declared.place.Place.{Place}
use Rattle.store_layout.specs.DiskLayout.{DiskLayout, IsPlace, page_offset, area_size}
use Rattle.byte_fields.specs.Fields.{field_at}
use Rattle.store_format.specs.ControlPage.{HasControl}
use Rattle.log_area.specs.Frames.{LogFrame, HoldsFrames}
use Rattle.log_area.specs.Log.{chosen_area}
use Rattle.wal_record.specs.Changes.{LoggedChange, place_of}
use Rattle.page_map.specs.Redo.{Redone}
use Rattle.page_map.specs.Forms.{form_of, IsPageIn}
use Rattle.page_map.specs.PageMap.{PageMap, IsWhole, page_at}
use Rattle.recovery.specs.LoggedChanges.{AreLogged, BeginAnew, changes_at}

-- the page as it stands on the disk
unfoldable pub disk_page : DiskLayout → List ℕ → Place → List ℕ
disk_page layout image place = field_at image (page_offset layout place) PAGE_SIZE

-- The opened frames of the area that the image chooses hold changes of pages of the layout. The first change of each page makes
-- it whole. The changes fit, one after the other, and make these pages, each of which passes the check of its form.
pub record Opens (layout : DiskLayout) (image : List ℕ) (pages : PageMap) : Type 0 where
  pub frames : List LogFrame
  pub changes : List LoggedChange
  pub opened : HoldsFrames (chosen_area (area_size layout) image) frames
  pub decoded : AreLogged frames changes
  pub places : AllByRecursion (λ change. IsPlace layout (place_of change)) changes
  pub anew : (place : Place) → BeginAnew (changes_at place changes)
  pub redone : (place : Place) → IsPlace layout place → Redone (form_of layout place.relation) (disk_page layout image place) (changes_at place changes) (page_at pages place)
  pub checked : (place : Place) → IsPlace layout place → IsPageIn layout place.relation (page_at pages place)
  pub whole : IsWhole layout pages

-- the image is that of a store with this layout, and opens to these pages
pub record OpensAs (layout : DiskLayout) (image : List ℕ) (pages : PageMap) : Type 0 where
  pub control : HasControl layout (take PAGE_SIZE image)
  pub opens : Opens layout image pages
